-- Places: what stands at a place of a body, and the ends of all bodies' sequences; types compared place by place.
use Rattle.std.proofs.Common.{◌≡◌, ℕ, zero, suc, ◌+◌, ◌<◌, ◌≤◌, Bool, true, false, List, [], ◌∷◌, ◌++◌, Some, None, get_or, length, drop, refl, sym, ap, subst, ◌∙◌, arith, inl, inr}
use Rattle.std.specs.Prelude.{◌&&◌, slice_get}
use Rattle.std.proofs.lemmas.Bool.{cases_eq}
use Rattle.std.proofs.lemmas.List.{drop_all, length-append}
use Rattle.std.proofs.Math.ListN.{get_or-append}
use Rattle.std.proofs.Math.Seq.{get_or-append_seam}
use Rattle.zw_wasm.specs.declared.module.CodeBody.{CodeBody}
use Rattle.zw_wasm.specs.declared.module.Instr.{Instr}
use Rattle.zw_wasm.specs.declared.module.Instr.TheVariants as instr
use Rattle.zw_wasm.specs.declared.module.ValType.{ValType}
use Rattle.zw_wasm.specs.Structure.{Ends, code_of}
use Rattle.zw_wasm.specs.Typing.{same_type, same_types}
use Rattle.zw_wasm_run.specs.declared.control.SequenceEnd.{SequenceEnd}
use Rattle.zw_wasm_run.specs.Bodies.{instrs_in}
use Rattle.zw_wasm_run.specs.Control.{AreEnds, HaveEndsTo}
use Rattle.zw_wasm_run.proofs.FlatCode.{code_of-else, code_of-end, code_of-nothing}
use Rattle.zw_wasm_run.proofs.Stepping.{here_at}

none_past : {A : Type 0} (n : ℕ) (xs : List A) → slice_get xs n ≡ None → length xs ≤ n
none_past n [] e = omega arith
none_past zero (x ∷ xs) e = absurd (cc)
none_past (suc n) (x ∷ xs) e = omega (arith, none_past n xs e)

pub some_at : {A : Type 0} (xs : List A) (n : ℕ) (d : A) → n < length xs → slice_get xs n ≡ Some (get_or xs n d)
some_at [] n d h = absurd (omega (arith, h))
some_at (x ∷ xs) zero d h = refl
some_at (x ∷ xs) (suc n) d h = some_at xs n d (omega (arith, h))

-- a sequence ends where nothing stands, or its end does
pub ends_at-nothing : (instrs : List Instr) (at : ℕ) → slice_get instrs at ≡ None → code_of (drop at instrs) ≡ Ends
ends_at-nothing instrs at none = code_of-nothing instrs at (none_past at instrs none)

pub ends_at-end : (instrs : List Instr) (at : ℕ) → slice_get instrs at ≡ Some instr.End → code_of (drop at instrs) ≡ Ends
ends_at-end instrs at here = code_of-end instrs at (here_at at instrs instr.End here)

pub ends_at-else : (instrs : List Instr) (at : ℕ) → slice_get instrs at ≡ Some instr.Else → code_of (drop at instrs) ≡ Ends
ends_at-else instrs at here = code_of-else instrs at (here_at at instrs instr.Else here)

-- the ends of one body more
pub ends_of-more : (codes : List CodeBody) (n : ℕ) (ends new : List (List SequenceEnd)) (es : List SequenceEnd) → HaveEndsTo codes n ends → new ≡ ends ++ es ∷ [] → AreEnds (instrs_in (slice_get codes n)) es → HaveEndsTo codes (n + 1) new
ends_of-more codes n ends new es have same are = record {
  count = ap length same ∙ length-append ends (es ∷ []) ∙ ap (λ k. k + 1) have.count;
  each = λ k d below.
      let read : get_or new k d ≡ get_or (ends ++ es ∷ []) k d = ap (λ l. get_or l k d) same in
      elim (cases_eq k n) [
        | inl here ↦
            let last : k ≡ length ends = here ∙ sym have.count in
            subst (λ x. AreEnds (instrs_in (slice_get codes k)) x) (sym (read ∙ ap (λ i. get_or (ends ++ es ∷ []) i d) last ∙ get_or-append_seam ends es [] d))
            (subst (λ i. AreEnds (instrs_in (slice_get codes i)) es) (sym here) are)
        | inr other ↦
            let before : k < n = omega (arith, below, other) in
            subst (λ x. AreEnds (instrs_in (slice_get codes k)) x) (sym (read ∙ get_or-append ends (es ∷ []) d k (omega (arith, before, have.count)))) (have.each k d before)
      ];
}

-- lists of types of two lengths
and_false : (b : Bool) → (b && false) ≡ false
and_false true = refl
and_false false = refl

pub types_differ : (ts us : List ValType) → (length ts ≡ length us → ⊥) → false ≡ same_types ts us
types_differ [] [] h = absurd (h refl)
types_differ [] (u ∷ us) h = refl
types_differ (t ∷ ts) [] h = refl
types_differ (t ∷ ts) (u ∷ us) h = sym (and_false (same_type t u)) ∙ ap (λ b. same_type t u && b) (types_differ ts us (λ e. h (ap (λ n. suc n) e)))

-- the first of two types differ, or the others decide
pub types_at : (ts us : List ValType) (n : ℕ) (t u : ValType) (b : Bool) → slice_get ts n ≡ Some t → slice_get us n ≡ Some u → same_type t u ≡ b → same_types (drop n ts) (drop n us) ≡ (b && same_types (drop (n + 1) ts) (drop (n + 1) us))
types_at ts us n t u b first second is =
    ap (λ l. same_types l (drop n us)) (here_at n ts t first) ∙ ap (λ l. same_types (t ∷ drop (n + 1) ts) l) (here_at n us u second)
    ∙ ap (λ x. x && same_types (drop (n + 1) ts) (drop (n + 1) us)) is

pub types_over : (ts us : List ValType) (n : ℕ) → length ts ≡ length us → length ts ≤ n → same_types (drop n ts) (drop n us) ≡ true
types_over ts us n same over = ap (λ l. same_types l (drop n us)) (drop_all n ts over) ∙ ap (λ l. same_types [] l) (drop_all n us (omega (arith, same, over)))
