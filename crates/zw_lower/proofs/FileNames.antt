-- What the rules on names give: an extern function is found by its name, and the names that a module exports differ.
use Rattle.std.proofs.Common.{◌≡◌, ◌≢◌, inl, inr, ℕ, suc, Bool, true, false, ◌||◌, List, [], ◌∷◌, ◌++◌, map, codes, All, Contains, refl, ap, ◌∙◌, subst, arith}
use Rattle.std.specs.Prelude.{AllPairs}
use Rattle.std.specs.List.{AllByRecursion}
use Rattle.std.specs.Str.{bytes_eq}
use Rattle.std.proofs.lemmas.Bool.{cond-true, cond-false}
use Rattle.std.proofs.lemmas.List.Elements.{All-from_recursion, recursion_from_All, All-contains, All-weaker, All-map}
use Rattle.zw_form.specs.Programs.{import_of, import_named}
use Rattle.zw_form.specs.Rules.{KeepsRules, KeepsNames, name_of, externs_of, exports_of, is_reserved}
use Rattle.zw_form.specs.declared.source.Declaration.{Declaration}
use Rattle.zw_form.specs.declared.source.Declaration.TheVariants.{Extern, Export}
use Rattle.zw_form.specs.declared.source.ExportedFunction.{ExportedFunction}
use Rattle.zw_form.specs.declared.source.ExternFunction.{ExternFunction}
use Rattle.zw_lower.proofs.ListLemmas.{all-append, Contains-cases, Contains-head, Contains-tail}
use Rattle.zw_lower.proofs.NameLemmas.{other_name, is_name, differ_too}

-- each name differs from all later ones
abbrev pub Differ : List (List ℕ) → Type 0
Differ [] = Unit {0}
Differ (x ∷ xs) = AllByRecursion (λ y. bytes_eq x y ≡ false) xs × Differ xs

differ_from_pairs : (xs : List (List ℕ)) → AllPairs (λ x y. x ≢ y) xs → Differ xs
differ_from_pairs [] h = tt
differ_from_pairs (x ∷ xs) h =
    let first : All (λ y. bytes_eq x y ≡ false) xs = λ k d within. other_name x _ (h 0 (suc k) d (omega arith) (omega (arith, within))) in
    let others : AllPairs (λ x y. x ≢ y) xs = λ i j d before within. h (suc i) (suc j) d (omega (arith, before)) (omega (arith, within)) in
    (recursion_from_All (λ y. bytes_eq x y ≡ false) xs first, differ_from_pairs xs others)

-- no two declarations have the same name
pub declared_names_differ : (file : List Declaration) → KeepsRules file → Differ (map name_of file)
declared_names_differ file rules = differ_from_pairs (map name_of file) rules.names_differ

differ-append : (xs ys : List (List ℕ)) → Differ xs → Differ ys → AllByRecursion (λ x. AllByRecursion (λ y. bytes_eq x y ≡ false) ys) xs → Differ (xs ++ ys)
differ-append [] ys h k across = k
differ-append (x ∷ xs) ys h k across = (all-append (λ y. bytes_eq x y ≡ false) xs ys h.0 across.0, differ-append xs ys h.1 k across.1)

-- ---- extern functions

pub extern_is_named : (file : List Declaration) (f : ExternFunction) → Contains (externs_of file) f → Contains (map name_of file) f.name
extern_is_named [] f h = absurd (omega (arith, h.1))
extern_is_named (Extern g ∷ file) f h =
    elim (Contains-cases g (externs_of file) f h) [
      | inl same ↦ subst (λ (e : ExternFunction). Contains (map name_of (Extern g ∷ file)) e.name) same (Contains-head g.name (map name_of file))
      | inr behind ↦ Contains-tail g.name (map name_of file) f.name (extern_is_named file f behind)
    ]
extern_is_named (Export g ∷ file) f h = Contains-tail g.name (map name_of file) f.name (extern_is_named file f h)

-- a name that differs from all that are declared is no extern function's
pub named_apart : (g f : ExternFunction) (file : List Declaration) → AllByRecursion (λ y. bytes_eq g.name y ≡ false) (map name_of file) → Contains (externs_of file) f → bytes_eq g.name f.name ≡ false
named_apart g f file differ h =
    let P : List ℕ → Type 0 = λ y. bytes_eq g.name y ≡ false in
    All-contains P (map name_of file) f.name (All-from_recursion P (map name_of file) differ) (extern_is_named file f h)

-- an extern function is the one that its name is looked up as
pub extern_is_found : (file : List Declaration) (f : ExternFunction) → Differ (map name_of file) → Contains (externs_of file) f → import_named (externs_of file) f.name ≡ import_of f
extern_is_found [] f differ h = absurd (omega (arith, h.1))
extern_is_found (Extern g ∷ file) f differ h =
    let others = import_named (externs_of file) f.name in
    elim (Contains-cases g (externs_of file) f h) [
      | inl same ↦ cond-true (bytes_eq g.name f.name) (import_of g) others (is_name g.name f.name (ap (λ (e : ExternFunction). e.name) same)) ∙ ap import_of same
      | inr behind ↦ cond-false (bytes_eq g.name f.name) (import_of g) others (named_apart g f file differ.0 behind) ∙ extern_is_found file f differ.1 behind
    ]
extern_is_found (Export g ∷ file) f differ h = extern_is_found file f differ.1 h

-- ---- exported functions

abbrev pub names_of_exports : List Declaration → List (List ℕ)
names_of_exports file = map (λ (f : ExportedFunction). f.name) (exports_of file)

pub exports_are : (P : List ℕ → Type 0) (file : List Declaration) → AllByRecursion P (map name_of file) → AllByRecursion P (names_of_exports file)
exports_are P [] h = tt
exports_are P (Extern f ∷ file) h = exports_are P file h.1
exports_are P (Export f ∷ file) h = (h.0, exports_are P file h.1)

exports_differ : (file : List Declaration) → Differ (map name_of file) → Differ (names_of_exports file)
exports_differ [] h = tt
exports_differ (Extern f ∷ file) h = exports_differ file h.1
exports_differ (Export f ∷ file) h = (exports_are (λ y. bytes_eq f.name y ≡ false) file h.0, exports_differ file h.1)

-- the names of what a module exports behind its functions
abbrev pub state_names : List (List ℕ)
state_names = codes "memory" ∷ codes "panic_cause" ∷ codes "panic_ptr" ∷ codes "panic_len" ∷ []

-- a name that isn't reserved is none of the four
abbrev IsNoState : List ℕ → Type 0
IsNoState name = AllByRecursion (λ y. bytes_eq name y ≡ false) state_names

or_parts : (a b c d : Bool) → (a || (b || (c || (d || false)))) ≡ false → (a ≡ false) × (b ≡ false) × (c ≡ false) × (d ≡ false)
or_parts true b c d h = absurd (cc)
or_parts false true c d h = absurd (cc)
or_parts false false true d h = absurd (cc)
or_parts false false false true h = absurd (cc)
or_parts false false false false h = (refl, refl, refl, refl)

unreserved : (name : List ℕ) → is_reserved name ≡ false → IsNoState name
unreserved name h =
    let parts = or_parts (bytes_eq (codes "memory") name) (bytes_eq (codes "panic_cause") name) (bytes_eq (codes "panic_ptr") name) (bytes_eq (codes "panic_len") name) h in
    (differ_too (codes "memory") name parts.0, (differ_too (codes "panic_cause") name parts.1, (differ_too (codes "panic_ptr") name parts.2, (differ_too (codes "panic_len") name parts.3, tt))))

states_differ : Differ state_names
states_differ = ((refl, (refl, (refl, tt))), ((refl, (refl, tt)), ((refl, tt), (tt, tt))))

-- the names that the module of a file exports
pub exported_names_differ : (file : List Declaration) → KeepsRules file → Differ (names_of_exports file ++ state_names)
exported_names_differ file rules =
    let free = All-weaker (KeepsNames (map name_of file)) (λ d. IsNoState (name_of d)) (λ d keeps. unreserved (name_of d) keeps.name_is_unreserved) file rules.names in
    let frees = recursion_from_All IsNoState (map name_of file) (All-map IsNoState name_of file free) in
    differ-append (names_of_exports file) state_names (exports_differ file (declared_names_differ file rules)) states_differ (exports_are IsNoState file frees)
