-- Parts of values, and paths to them.
use Rattle.std.specs.Prelude.{◌≡◌, ◌≢◌, ℕ, ◌<◌, nat_eq, Bool, true, false, if◌then◌else◌, List, [], ◌∷◌, length, map, slice_get, slice_set, Option, Some, None, option_and_then, is_some, refl}
use Rattle.std.specs.Option.{option_map}
use Rattle.std.proofs.Common.{sym, ◌∙◌, ap, subst, inl, inr}
use Rattle.std.proofs.lemmas.Bool.Decides.{eqb_tells}
use Rattle.std.proofs.lemmas.List.{map-set}
use Rattle.std.proofs.lemmas.Option.{slice_get-map, slice_get_within}
use Rattle.zw_types.specs.declared.value.Value.{Value}
use Rattle.zw_types.specs.declared.value.Value.TheVariants as v
use Rattle.zw_types.specs.declared.value.Value.TheOpen.{Value-F}
use Rattle.zw_types.specs.TypeTrees as tree
use Rattle.zw_types.specs.TypeTrees.{TypeTree, ValueTree, values_from, values_in, value_option}
use Rattle.zw_types.specs.Readings.{value_tree}
use Rattle.zw_types.proofs.Agreement.{value_tree-roll}
use Rattle.zw_types.proofs.ListLemmas.{slice_get_set, slice_get_set_other}
use Rattle.zw_values.specs.Paths.{part_of, with_part, value_at, written_at, AreApart}

pub values_in-from : (vs : List ValueTree) → values_in (values_from vs) ≡ vs
values_in-from [] = refl
values_in-from (x ∷ vs) = ap (λ l. x ∷ l) (values_in-from vs)

pub value_tree-Parts : (ts : List TypeTree) (xs : List Value) → value_tree ts (v.Parts xs) ≡ tree.PartsValue (values_from (map (value_tree ts) xs))
value_tree-Parts ts xs = ap (value_tree ts) (sym (v.rolls-Parts xs)) ∙ value_tree-roll ts (Value-F.Parts xs)

pub part_of-Parts : (ts : List TypeTree) (xs : List Value) (k : ℕ) → part_of (value_tree ts (v.Parts xs)) k ≡ option_map (value_tree ts) (slice_get xs k)
part_of-Parts ts xs k =
    ap (λ t. part_of t k) (value_tree-Parts ts xs)
    ∙ ap (λ (l : List ValueTree). slice_get l k) (values_in-from (map (value_tree ts) xs))
    ∙ slice_get-map (value_tree ts) xs k

-- ---- a part that is replaced

chosen : (b : Bool) (x p new : ValueTree) → (if b then Some x else None) ≡ Some p → (if b then Some new else None) ≡ Some new
chosen true x p new h = refl
chosen false x p new h = cc

pub part_of-with_part : (v : ValueTree) (k : ℕ) (p new : ValueTree) → part_of v k ≡ Some p → part_of (with_part v k new) k ≡ Some new
part_of-with_part (tree.PartsValue vs) k p new h =
    ap (λ (l : List ValueTree). slice_get l k) (values_in-from (slice_set (values_in vs) k new)) ∙ slice_get_set (values_in vs) k new (slice_get_within (values_in vs) k p h)
part_of-with_part (tree.OptionalValue (tree.TheValue x)) k p new h = chosen (nat_eq k 0) x p new h
part_of-with_part (tree.PayloadValue x) k p new h = chosen (nat_eq k 0) x p new h
part_of-with_part (tree.TagValue f (tree.TheValue x)) k p new h = chosen (nat_eq k f) x p new h
part_of-with_part (tree.OptionalValue tree.NoValue) k p new h = cc
part_of-with_part (tree.TagValue f tree.NoValue) k p new h = cc
part_of-with_part (tree.NumberValue z) k p new h = cc
part_of-with_part (tree.TruthValue b) k p new h = cc
part_of-with_part tree.UndefinedValue k p new h = cc
part_of-with_part (tree.ErrorValue n) k p new h = cc
part_of-with_part (tree.LiteralValue n) k p new h = cc
part_of-with_part (tree.PointerValue o w) k p new h = cc
part_of-with_part (tree.SliceValue o w l) k p new h = cc
part_of-with_part (tree.HeldValue t a l) k p new h = cc
part_of-with_part (tree.TypeValue t) k p new h = cc
part_of-with_part (tree.FuncValue f n l) k p new h = cc
part_of-with_part (tree.InstanceValue n) k p new h = cc

nothing : (x p : ValueTree) (b : Bool) → b ≡ false → (if b then Some x else None) ≡ Some p → ⊥
nothing x p true e h = cc
nothing x p false e h = cc

-- where the step to a part is the only one, another step leads nowhere
only_step : (k j f : ℕ) (x p new : ValueTree) → (if nat_eq k f then Some x else None) ≡ Some p → k ≢ j → (if nat_eq j f then Some new else None) ≡ (if nat_eq j f then Some x else None)
only_step k j f x p new h n = elim (eqb_tells j f) [
  | inl e ↦ elim (eqb_tells k f) [
    | inl d ↦ absurd (n (d.1 ∙ sym e.1))
    | inr d ↦ absurd (nothing x p (nat_eq k f) d.0 h)
  ]
  | inr e ↦ ap (λ (b : Bool). if b then Some new else None) e.0 ∙ sym (ap (λ (b : Bool). if b then Some x else None) e.0)
]

pub part_of-other : (v : ValueTree) (k j : ℕ) (p new : ValueTree) → part_of v k ≡ Some p → k ≢ j → part_of (with_part v k new) j ≡ part_of v j
part_of-other (tree.PartsValue vs) k j p new h n =
    ap (λ (l : List ValueTree). slice_get l j) (values_in-from (slice_set (values_in vs) k new)) ∙ slice_get_set_other (values_in vs) k j new n
part_of-other (tree.OptionalValue (tree.TheValue x)) k j p new h n = only_step k j 0 x p new h n
part_of-other (tree.PayloadValue x) k j p new h n = only_step k j 0 x p new h n
part_of-other (tree.TagValue f (tree.TheValue x)) k j p new h n = only_step k j f x p new h n
part_of-other (tree.OptionalValue tree.NoValue) k j p new h n = cc
part_of-other (tree.TagValue f tree.NoValue) k j p new h n = cc
part_of-other (tree.NumberValue z) k j p new h n = cc
part_of-other (tree.TruthValue b) k j p new h n = cc
part_of-other tree.UndefinedValue k j p new h n = cc
part_of-other (tree.ErrorValue m) k j p new h n = cc
part_of-other (tree.LiteralValue m) k j p new h n = cc
part_of-other (tree.PointerValue o w) k j p new h n = cc
part_of-other (tree.SliceValue o w l) k j p new h n = cc
part_of-other (tree.HeldValue t a l) k j p new h n = cc
part_of-other (tree.TypeValue t) k j p new h n = cc
part_of-other (tree.FuncValue f m l) k j p new h n = cc
part_of-other (tree.InstanceValue m) k j p new h n = cc

-- ---- paths

pub value_at-step : (v : ValueTree) (k : ℕ) (path : List ℕ) (p : ValueTree) → part_of v k ≡ Some p → value_at v (k ∷ path) ≡ value_at p path
value_at-step v k path p h = ap (option_and_then (λ part. value_at part path)) h

pub value_at-nowhere : (v : ValueTree) (k : ℕ) (path : List ℕ) → part_of v k ≡ None → value_at v (k ∷ path) ≡ None
value_at-nowhere v k path h = ap (option_and_then (λ part. value_at part path)) h

pub written_at-step : (v new : ValueTree) (k : ℕ) (path : List ℕ) (p : ValueTree) → part_of v k ≡ Some p → written_at v (k ∷ path) new ≡ option_map (λ w. with_part v k w) (written_at p path new)
written_at-step v new k path p h = ap (option_and_then (λ part. option_map (λ w. with_part v k w) (written_at part path new))) h

pub written_at-nowhere : (v new : ValueTree) (k : ℕ) (path : List ℕ) → part_of v k ≡ None → written_at v (k ∷ path) new ≡ None
written_at-nowhere v new k path h = ap (option_and_then (λ part. option_map (λ w. with_part v k w) (written_at part path new))) h

-- what a write by a path of several steps was made of
pub record Step (v new w : ValueTree) (k : ℕ) (path : List ℕ) : Type 0 where
  pub part : ValueTree
  pub written : ValueTree
  pub held : part_of v k ≡ Some part
  pub inner : written_at part path new ≡ Some written
  pub whole : w ≡ with_part v k written

pub step_of : (v new w : ValueTree) (k : ℕ) (path : List ℕ) → written_at v (k ∷ path) new ≡ Some w → Step v new w k path
step_of v new w k path h = at (part_of v k) refl
  where
    of_inner : (p : ValueTree) → part_of v k ≡ Some p → (o : Option ValueTree) → written_at p path new ≡ o → option_map (λ x. with_part v k x) o ≡ Some w → Step v new w k path
    of_inner p e None i m = cc
    of_inner p e (Some x) i m = record { part = p; written = x; held = e; inner = i; whole = cc }

    at : (o : Option ValueTree) → part_of v k ≡ o → Step v new w k path
    at None e = absurd (nothing (sym (written_at-nowhere v new k path e) ∙ h))
      where
        nothing : None ≡ Some w → ⊥
        nothing q = cc
    at (Some p) e = of_inner p e (written_at p path new) refl (sym (written_at-step v new k path p e) ∙ h)

pub read_after_write : (v new w : ValueTree) (path : List ℕ) → written_at v path new ≡ Some w → value_at w path ≡ Some new
read_after_write v new w [] h = sym h
read_after_write v new w (k ∷ path) h =
    let s = step_of v new w k path h in
    subst (λ t. value_at t (k ∷ path) ≡ Some new) (sym s.whole)
    (value_at-step (with_part v k s.written) k path s.written (part_of-with_part v k s.part s.written s.held)
    ∙ read_after_write s.part new s.written path s.inner)

pub others_after_write : (v new w : ValueTree) (path other : List ℕ) → written_at v path new ≡ Some w → AreApart path other → value_at w other ≡ value_at v other
others_after_write v new w [] other h a = absurd a
others_after_write v new w (k ∷ path) [] h a = absurd a
others_after_write v new w (k ∷ path) (j ∷ other) h a =
    let s = step_of v new w k path h in
    subst (λ t. value_at t (j ∷ other) ≡ value_at v (j ∷ other)) (sym s.whole)
    (elim a [
      | inl n ↦ ap (option_and_then (λ part. value_at part other)) (part_of-other v k j s.part s.written s.held n)
      | inr same ↦ subst (λ i. value_at (with_part v k s.written) (i ∷ other) ≡ value_at v (i ∷ other)) same.0
          (value_at-step (with_part v k s.written) k other s.written (part_of-with_part v k s.part s.written s.held)
          ∙ others_after_write s.part new s.written path other s.inner same.1
          ∙ sym (value_at-step v k other s.part s.held))
    ])

pub written_where_there : (v new : ValueTree) (path : List ℕ) → is_some (written_at v path new) ≡ is_some (value_at v path)
written_where_there v new [] = refl
written_where_there v new (k ∷ path) = at (λ p. written_where_there p new path) (part_of v k) refl
  where
    mapped : (o : Option ValueTree) → is_some (option_map (λ x. with_part v k x) o) ≡ is_some o
    mapped None = refl
    mapped (Some x) = refl

    at : ((p : ValueTree) → is_some (written_at p path new) ≡ is_some (value_at p path)) → (o : Option ValueTree) → part_of v k ≡ o → is_some (written_at v (k ∷ path) new) ≡ is_some (value_at v (k ∷ path))
    at ih None e = ap is_some (written_at-nowhere v new k path e) ∙ sym (ap is_some (value_at-nowhere v k path e))
    at ih (Some p) e = ap is_some (written_at-step v new k path p e) ∙ mapped (written_at p path new) ∙ ih p ∙ sym (ap is_some (value_at-step v k path p e))

-- ---- values of the code

pub value_tree-Optional : (ts : List TypeTree) (o : Option Value) → value_tree ts (v.Optional o) ≡ tree.OptionalValue (value_option (option_map (value_tree ts) o))
value_tree-Optional ts None = ap (value_tree ts) (sym (v.rolls-Optional None)) ∙ value_tree-roll ts (Value-F.Optional None)
value_tree-Optional ts (Some x) = ap (value_tree ts) (sym (v.rolls-Optional (Some x))) ∙ value_tree-roll ts (Value-F.Optional (Some x))

pub value_tree-Tag : (ts : List TypeTree) (field : ℕ) (o : Option Value) → value_tree ts (v.Tag field o) ≡ tree.TagValue field (value_option (option_map (value_tree ts) o))
value_tree-Tag ts field None = ap (value_tree ts) (sym (v.rolls-Tag field None)) ∙ value_tree-roll ts (Value-F.Tag field None)
value_tree-Tag ts field (Some x) = ap (value_tree ts) (sym (v.rolls-Tag field (Some x))) ∙ value_tree-roll ts (Value-F.Tag field (Some x))

pub with_part-Parts : (ts : List TypeTree) (xs : List Value) (k : ℕ) (n : Value) → value_tree ts (v.Parts (slice_set xs k n)) ≡ with_part (value_tree ts (v.Parts xs)) k (value_tree ts n)
with_part-Parts ts xs k n =
    let f = value_tree ts in
    value_tree-Parts ts (slice_set xs k n)
    ∙ ap (λ (l : List ValueTree). tree.PartsValue (values_from l)) (map-set f xs k n ∙ ap (λ (l : List ValueTree). slice_set l k (f n)) (sym (values_in-from (map f xs))))
    ∙ sym (ap (λ t. with_part t k (f n)) (value_tree-Parts ts xs))

pub with_part-Optional : (ts : List TypeTree) (o : Option Value) (k : ℕ) (n : Value) → value_tree ts (v.Optional (Some n)) ≡ with_part (value_tree ts (v.Optional o)) k (value_tree ts n)
with_part-Optional ts o k n = value_tree-Optional ts (Some n) ∙ sym (ap (λ t. with_part t k (value_tree ts n)) (value_tree-Optional ts o))

pub with_part-Tag : (ts : List TypeTree) (field : ℕ) (o : Option Value) (k : ℕ) (n : Value) → value_tree ts (v.Tag field (Some n)) ≡ with_part (value_tree ts (v.Tag field o)) k (value_tree ts n)
with_part-Tag ts field o k n = value_tree-Tag ts field (Some n) ∙ sym (ap (λ t. with_part t k (value_tree ts n)) (value_tree-Tag ts field o))

-- a part of a list is below its length
pub within_parts : (ts : List TypeTree) (xs : List Value) (k : ℕ) → is_some (part_of (value_tree ts (v.Parts xs)) k) ≡ true → k < length xs
within_parts ts xs k h = at (slice_get xs k) refl (sym (ap is_some (part_of-Parts ts xs k)) ∙ h)
  where
    at : (o : Option Value) → slice_get xs k ≡ o → is_some (option_map (value_tree ts) (slice_get xs k)) ≡ true → k < length xs
    at None e m = absurd (none_is_some (sym (ap (λ (o : Option Value). is_some (option_map (value_tree ts) o)) e) ∙ m))
      where
        none_is_some : false ≡ true → ⊥
        none_is_some q = cc
    at (Some x) e m = slice_get_within xs k x e

pub unwritten_is_nowhere : (v new : ValueTree) (path : List ℕ) → written_at v path new ≡ None → value_at v path ≡ None
unwritten_is_nowhere v new path h = at (value_at v path) refl (sym (written_where_there v new path) ∙ ap is_some h)
  where
    at : (o : Option ValueTree) → value_at v path ≡ o → is_some (value_at v path) ≡ false → value_at v path ≡ None
    at None e m = e
    at (Some x) e m = absurd (some_is_none (sym (ap is_some e) ∙ m))
      where
        some_is_none : true ≡ false → ⊥
        some_is_none q = cc
