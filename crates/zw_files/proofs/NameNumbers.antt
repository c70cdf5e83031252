-- The rules on names, labels and jumps are errors 8 to 13.
use Rattle.std.proofs.Common.{ℕ, ◌≤◌, Bool, true, false, List, [], ◌∷◌, ◌++◌, Option, Some, None, if◌then◌else◌, All, Contains, sym, subst, arith, lit≤}
use Rattle.std.specs.List.{flat_map, list_any}
use Rattle.std.specs.Prelude.{not, ◌&&◌, ◌||◌}
use Rattle.std.specs.Str.{bytes_eq}
use Rattle.std.proofs.lemmas.List.Concat.{flat_map-cons}
use Rattle.std.proofs.lemmas.List.Elements.{All-cons, All-contains}
use Rattle.zw_scope.specs.NameRules.{Violation, violations, violations_at, mentioned, told, is_shadow, shadow_at, shadows, unknowns, unused_at, unused, is_to_be_mentioned, is_repeated, is_mentioned, names_once, repeated, duplicates, label_at, labels, flows, breaks_label_rule, names_primitive, is_nothing, named_by, takes, is_local, is_declared}
use Rattle.zw_scope_sites.specs.Scopes.{opens_label, is_open, is_identifier, Standing, all_standing, kind_of, name_in, is_label}
use Rattle.zw_tree.specs.Trees.{Forest}
use Rattle.zw_tree.specs.declared.ast.Entry.{Entry}

abbrev IsNumbered : Violation → Type 0
IsNumbered v = (8 ≤ v.error) × (v.error ≤ 13)

abbrev Each : List Violation → Type 0
Each [] = Unit {0}
Each (v ∷ vs) = IsNumbered v × Each vs

each-append : (vs ws : List Violation) → Each vs → Each ws → Each (vs ++ ws)
each-append [] ws a b = b
each-append (v ∷ vs) ws a b = (a.0, each-append vs ws a.1 b)

each-if : (b : Bool) (vs : List Violation) → Each vs → Each (if b then vs else [])
each-if true vs h = h
each-if false vs h = tt

each-all : (vs : List Violation) → Each vs → All IsNumbered vs
each-all [] each = λ k d within. absurd (omega arith)
each-all (v ∷ vs) each = All-cons IsNumbered v vs each.0 (each-all vs each.1)

each-of : (f : Standing → List Violation) → ((s : Standing) → Each (f s)) → (all : List Standing) → Each (flat_map f all)
each-of f gives [] = tt
each-of f gives (s ∷ all) = subst Each (sym (flat_map-cons f s all)) (each-append (f s) (flat_map f all) (gives s) (each-of f gives all))

of-told : (b : Bool) (error : ℕ) (entry : Entry) → (8 ≤ error) × (error ≤ 13) → Each (told b error entry)
of-told false error entry h = tt
of-told true error entry h = (h, tt)

of-shadow : (s : Standing) (o : Option Entry) → Each (shadow_at s o)
of-shadow s None = tt
of-shadow s (Some name) = of-told (is_shadow s name) 8 name (lit≤ tt, lit≤ tt)

of-unused : (nodes : List ℕ) (s : Standing) (o : Option Entry) → Each (unused_at nodes s o)
of-unused nodes s None = tt
of-unused nodes s (Some name) = of-told (not (is_repeated s name.name) && not (is_mentioned nodes s.node)) 10 name (lit≤ tt, lit≤ tt)

of-label : (s : Standing) (o : Option Entry) → Each (label_at s o)
of-label s None = tt
of-label s (Some name) = of-told (breaks_label_rule (opens_label s.parent) (is_open s.scope.labels name.name)) 12 name (lit≤ tt, lit≤ tt)

of-repeated : (before : List (List ℕ)) (entries : List Entry) → Each (repeated before entries)
of-repeated before [] = tt
of-repeated before (entry ∷ others) =
    let again : Bool = list_any (bytes_eq entry.name) before in
    each-append (told again 11 entry) (repeated (entry.name ∷ before) others) (of-told again 11 entry (lit≤ tt, lit≤ tt)) (of-repeated (entry.name ∷ before) others)

of-node : (nodes : List ℕ) (s : Standing) → Each (violations_at nodes s)
of-node nodes s =
    let g8 : Each (shadows s) = each-if (is_local s || is_declared s) (shadow_at s (name_in s.below)) (of-shadow s (name_in s.below)) in
    let g9 : Each (unknowns s) = of-told (is_identifier (kind_of s.entry) && not (names_primitive s.entry) && is_nothing (named_by s)) 9 s.entry (lit≤ tt, lit≤ tt) in
    let g10 : Each (unused nodes s) = each-if (is_to_be_mentioned s) (unused_at nodes s (name_in s.below)) (of-unused nodes s (name_in s.below)) in
    let g11 : Each (duplicates s) = of-repeated [] (names_once (kind_of s.entry) s.below) in
    let g12 : Each (labels s) = each-if (is_label (kind_of s.entry)) (label_at s (name_in s.below)) (of-label s (name_in s.below)) in
    let g13 : Each (flows s) = of-told (not (takes s.scope s.below (kind_of s.entry))) 13 s.entry (lit≤ tt, lit≤ tt) in
    let h9 = each-append (shadows s) (unknowns s) g8 g9 in
    let h10 = each-append (shadows s ++ unknowns s) (unused nodes s) h9 g10 in
    let h11 = each-append (shadows s ++ unknowns s ++ unused nodes s) (duplicates s) h10 g11 in
    let h12 = each-append (shadows s ++ unknowns s ++ unused nodes s ++ duplicates s) (labels s) h11 g12 in
    each-append (shadows s ++ unknowns s ++ unused nodes s ++ duplicates s ++ labels s) (flows s) h12 g13

pub violation-numbered : (forest : Forest Entry) (v : Violation) → Contains (violations forest) v → (8 ≤ v.error) × (v.error ≤ 13)
violation-numbered forest v there =
    let nodes = mentioned (all_standing forest) in
    All-contains IsNumbered (violations forest) v (each-all (violations forest) (each-of (violations_at nodes) (of-node nodes) (all_standing forest))) there
