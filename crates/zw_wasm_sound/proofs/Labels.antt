-- Labels: what a branch finds where labels have types.
use Rattle.std.proofs.Common.{◌≡◌, ℕ, zero, suc, List, [], ◌∷◌, ◌++◌, length, drop, reverse, Option, Some, None, refl, sym, ap, subst, ◌∙◌}
use Rattle.std.specs.Prelude.{slice_get}
use Rattle.zw_wasm.specs.declared.module.ValType.{ValType}
use Rattle.zw_wasm.specs.Reduction.{Label}
use Rattle.zw_wasm.specs.Typing.{Context}
use Rattle.zw_wasm_sound.specs.Configurations.{AreTypedLabels}
use Rattle.zw_wasm_sound.specs.Rules.{IsTypedCode, types_of}

-- a label to which a branch takes operands of these types, and those round it
pub record IsLabelAt (x : Context) (labels : List Label) (ls : List (List ValType)) (n : ℕ) (takes : List ValType) (l : Label) : Type 0 where
  pub results : List ValType
  pub arity : l.arity ≡ length takes
  pub branch : IsTypedCode x (drop (suc n) ls) results l.branch (reverse takes ++ types_of l.below)
  pub outer : AreTypedLabels x (drop (suc n) labels) (drop (suc n) ls) results

-- or the label of the body, behind all others
abbrev pub FindsLabel : Context → List Label → List (List ValType) → ℕ → List ValType → Option Label → Type 0
FindsLabel x labels ls n takes (Some l) = IsLabelAt x labels ls n takes l
FindsLabel x labels ls n takes None = (n ≡ length labels) × (takes ≡ x.returns)

one_further : (x : Context) (l : Label) (labels : List Label) (bs : List ValType) (ls : List (List ValType)) (n : ℕ) (takes : List ValType) (o : Option Label) → FindsLabel x labels ls n takes o → FindsLabel x (l ∷ labels) (bs ∷ ls) (suc n) takes o
one_further x l labels bs ls n takes (Some k) h = record { results = h.results; arity = h.arity; branch = h.branch; outer = h.outer }
one_further x l labels bs ls n takes None h = (ap suc h.0, h.1)

pub finds-label : (x : Context) (labels : List Label) (ls : List (List ValType)) (inner : List ValType) (n : ℕ) (takes : List ValType) → AreTypedLabels x labels ls inner → slice_get ls n ≡ Some takes → FindsLabel x labels ls n takes (slice_get labels n)
finds-label x [] ls inner zero takes h e =
    let first : Some x.returns ≡ Some takes = ap (λ k. slice_get k 0) (sym h.0) ∙ e in
    (refl, cc)
finds-label x [] ls inner (suc n) takes h e =
    let none : None ≡ Some takes = ap (λ k. slice_get k (suc n)) (sym h.0) ∙ e in
    absurd (cc)
finds-label x (l ∷ labels) [] inner n takes h e = absurd h
finds-label x (l ∷ labels) (bs ∷ ls) inner zero takes h e =
    let same : bs ≡ takes = cc in
    subst (λ ts. IsLabelAt x (l ∷ labels) (bs ∷ ls) zero ts l) same (record { results = h.0; arity = h.1.arity; branch = h.1.branch; outer = h.2 })
finds-label x (l ∷ labels) (bs ∷ ls) inner (suc n) takes h e =
    one_further x l labels bs ls n takes (slice_get labels n) (finds-label x labels ls h.0 n takes h.2 e)
