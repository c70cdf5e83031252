-- Violations are told at nodes of the tree: what holds of all nodes holds where a violation is told.
use Rattle.std.proofs.Common.{ℕ, suc, ◌+◌, Bool, true, false, List, [], ◌∷◌, ◌++◌, Option, Some, None, if◌then◌else◌, All, Contains, sym, subst, arith}
use Rattle.std.specs.List.{flat_map, list_any}
use Rattle.std.proofs.lemmas.List.Concat.{flat_map-cons}
use Rattle.std.proofs.lemmas.List.Elements.{All-cons, All-contains}
use Rattle.std.specs.Prelude.{not, ◌&&◌, ◌||◌}
use Rattle.std.specs.Str.{bytes_eq}
use Rattle.zw_scope.specs.NameRules.{Violation, violations, violations_at, mentioned, told, is_shadow, shadow_at, shadows, unknowns, unused_at, unused, is_to_be_mentioned, is_repeated, is_mentioned, names_once, names_of, own_names, listed, repeated, duplicates, label_at, labels, flows, breaks_label_rule, names_primitive, is_nothing, named_by, takes, is_local, is_declared}
use Rattle.zw_scope_sites.specs.Scopes.{is_named_member, is_parameter_kind, is_initialiser, opens_label, is_open, is_identifier, Around, Standing, standing, all_standing, around_of, around_file, behind_child, scope_of, kind_of, name_in, is_name, is_label}
use Rattle.zw_tree.specs.Trees.{Forest, none, tree, count}
use Rattle.zw_tree.specs.declared.ast.Entry.{Entry}
use Rattle.zw_tree.specs.declared.kind.NodeKind.{NodeKind}
use Rattle.zw_tree.specs.declared.kind.NodeKind.TheVariants.{Function, StructLiteral, AnonymousStruct, ErrorSet, Struct, Enum, Union, Root}

-- of all nodes
abbrev pub Throughout : (Entry → Type 0) → Forest Entry → Type 0
Throughout P none = Unit {0}
Throughout P (tree root below behind) = P root × Throughout P below × Throughout P behind

abbrev Each : {A : Type 0} → (A → Type 0) → List A → Type 0
Each P [] = Unit {0}
Each P (x ∷ xs) = P x × Each P xs

module _ {A : Type 0} (P : A → Type 0) where
  each-append : (xs ys : List A) → Each P xs → Each P ys → Each P (xs ++ ys)
  each-append [] ys a b = b
  each-append (x ∷ xs) ys a b = (a.0, each-append xs ys a.1 b)

  each-if : (b : Bool) (xs ys : List A) → Each P xs → Each P ys → Each P (if b then xs else ys)
  each-if true xs ys g h = g
  each-if false xs ys g h = h

  each-all : (xs : List A) → Each P xs → All P xs
  each-all [] each = λ k d within. absurd (omega arith)
  each-all (x ∷ xs) each = All-cons P x xs each.0 (each-all xs each.1)

  each-of : {B : Type 0} (Q : B → Type 0) (f : B → List A) → ((x : B) → Q x → Each P (f x)) → (xs : List B) → Each Q xs → Each P (flat_map f xs)
  each-of Q f gives [] each = tt
  each-of Q f gives (x ∷ xs) each = subst (Each P) (sym (flat_map-cons f x xs)) (each-append (f x) (flat_map f xs) (gives x each.0) (each-of Q f gives xs each.1))

-- violations are told at nodes of the tree
module _ (P : Entry → Type 0) where
  abbrev OnSome : Option Entry → Type 0
  OnSome None = Unit {0}
  OnSome (Some entry) = P entry

  abbrev At : Violation → Type 0
  At v = P v.at

  abbrev Here : Standing → Type 0
  Here s = P s.entry × Throughout P s.below

  some-if : (b : Bool) (x y : Option Entry) → OnSome x → OnSome y → OnSome (if b then x else y)
  some-if true x y g h = g
  some-if false x y g h = h

  at-name_in : (f : Forest Entry) → Throughout P f → OnSome (name_in f)
  at-name_in none h = tt
  at-name_in (tree root below behind) h = some-if (is_name (kind_of root)) (Some root) (name_in behind) h.0 (at-name_in behind h.2)

  at-told : (b : Bool) (error : ℕ) (entry : Entry) → P entry → Each At (told b error entry)
  at-told false error entry h = tt
  at-told true error entry h = (h, tt)

  at-shadow : (s : Standing) (o : Option Entry) → OnSome o → Each At (shadow_at s o)
  at-shadow s None h = tt
  at-shadow s (Some name) h = at-told (is_shadow s name) 8 name h

  at-unused : (nodes : List ℕ) (s : Standing) (o : Option Entry) → OnSome o → Each At (unused_at nodes s o)
  at-unused nodes s None h = tt
  at-unused nodes s (Some name) h = at-told (not (is_repeated s name.name) && not (is_mentioned nodes s.node)) 10 name h

  at-label : (s : Standing) (o : Option Entry) → OnSome o → Each At (label_at s o)
  at-label s None h = tt
  at-label s (Some name) h = at-told (breaks_label_rule (opens_label s.parent) (is_open s.scope.labels name.name)) 12 name h

  at-listed : (o : Option Entry) → OnSome o → Each P (listed o)
  at-listed None h = tt
  at-listed (Some entry) h = (h, tt)

  at-names : (is_kind : NodeKind → Bool) (f : Forest Entry) → Throughout P f → Each P (names_of is_kind f)
  at-names is_kind none h = tt
  at-names is_kind (tree root below behind) h =
      each-append P (if is_kind (kind_of root) then listed (name_in below) else []) (names_of is_kind behind)
      (each-if P (is_kind (kind_of root)) (listed (name_in below)) [] (at-listed (name_in below) (at-name_in below h.1)) tt)
      (at-names is_kind behind h.2)

  at-own : (f : Forest Entry) → Throughout P f → Each P (own_names f)
  at-own none h = tt
  at-own (tree root below behind) h =
      each-append P (if is_name (kind_of root) then root ∷ [] else []) (own_names behind)
      (each-if P (is_name (kind_of root)) (root ∷ []) [] (h.0, tt) tt)
      (at-own behind h.2)

  at-once : (kind : NodeKind) (f : Forest Entry) → Throughout P f → Each P (names_once kind f)
  at-once Root f h = at-names is_named_member f h
  at-once Struct f h = at-names is_named_member f h
  at-once Enum f h = at-names is_named_member f h
  at-once Union f h = at-names is_named_member f h
  at-once Function f h = at-names is_parameter_kind f h
  at-once StructLiteral f h = at-names is_initialiser f h
  at-once AnonymousStruct f h = at-names is_initialiser f h
  at-once ErrorSet f h = at-own f h
  at-once _ f h = tt

  at-repeated : (before : List (List ℕ)) (entries : List Entry) → Each P entries → Each At (repeated before entries)
  at-repeated before [] h = tt
  at-repeated before (entry ∷ others) h =
      let again : Bool = list_any (bytes_eq entry.name) before in
      each-append At (told again 11 entry) (repeated (entry.name ∷ before) others) (at-told again 11 entry h.0) (at-repeated (entry.name ∷ before) others h.1)

  at-node : (nodes : List ℕ) (s : Standing) → Here s → Each At (violations_at nodes s)
  at-node nodes s h =
      let name = at-name_in s.below h.1 in
      let g8 : Each At (shadows s) = each-if At (is_local s || is_declared s) (shadow_at s (name_in s.below)) [] (at-shadow s (name_in s.below) name) tt in
      let g9 : Each At (unknowns s) = at-told (is_identifier (kind_of s.entry) && not (names_primitive s.entry) && is_nothing (named_by s)) 9 s.entry h.0 in
      let g10 : Each At (unused nodes s) = each-if At (is_to_be_mentioned s) (unused_at nodes s (name_in s.below)) [] (at-unused nodes s (name_in s.below) name) tt in
      let g11 : Each At (duplicates s) = at-repeated [] (names_once (kind_of s.entry) s.below) (at-once (kind_of s.entry) s.below h.1) in
      let g12 : Each At (labels s) = each-if At (is_label (kind_of s.entry)) (label_at s (name_in s.below)) [] (at-label s (name_in s.below) name) tt in
      let g13 : Each At (flows s) = at-told (not (takes s.scope s.below (kind_of s.entry))) 13 s.entry h.0 in
      let h9 = each-append At (shadows s) (unknowns s) g8 g9 in
      let h10 = each-append At (shadows s ++ unknowns s) (unused nodes s) h9 g10 in
      let h11 = each-append At (shadows s ++ unknowns s ++ unused nodes s) (duplicates s) h10 g11 in
      let h12 = each-append At (shadows s ++ unknowns s ++ unused nodes s ++ duplicates s) (labels s) h11 g12 in
      each-append At (shadows s ++ unknowns s ++ unused nodes s ++ duplicates s ++ labels s) (flows s) h12 g13

  at-standing : (around : Around) (n : ℕ) (f : Forest Entry) → Throughout P f → Each Here (standing around n f)
  at-standing around n none h = tt
  at-standing around n (tree root below behind) h =
      let inner : Around = around_of n root below (scope_of around (kind_of root) behind) in
      let outer : Around = behind_child around n (kind_of root) below in
      ((h.0, h.1), each-append Here (standing inner (suc n) below) (standing outer (suc n + count below) behind) (at-standing inner (suc n) below h.1) (at-standing outer (suc n + count below) behind h.2))

  pub told-at_nodes : (f : Forest Entry) (v : Violation) → Throughout P f → Contains (violations f) v → P v.at
  told-at_nodes f v h there =
      let nodes = mentioned (all_standing f) in
      let each : Each At (violations f) = each-of At Here (violations_at nodes) (at-node nodes) (all_standing f) (at-standing around_file 0 f h) in
      All-contains At (violations f) v (each-all At (violations f) each) there
