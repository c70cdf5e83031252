-- The code of `!` is right wherever it stands where a type has more than 32 bits.
use Rattle.std.proofs.Common.{◌≡◌, ℕ, zero, suc, ℤ, pos, negsuc, false, List, [], ◌∷◌, Ok, refl, ◌∙◌, arith, lit≤}
use Rattle.std.specs.Prelude.{nat_eq}
use Rattle.std.specs.Ordering.{int_eq}
use Rattle.std.proofs.lemmas.Int.{ints}
use Rattle.zw_num.specs.Meanings.{number_of_truth}
use Rattle.zw_num.specs.Arithmetic.{IsIn, pattern}
use Rattle.zw_num.specs.declared.int_ty.IntTy.{IntTy}
use Rattle.zw_num.specs.declared.operator.Operator.TheVariants as family
use Rattle.zw_num.specs.declared.operator.Logic.TheVariants as logic_op
use Rattle.zw_safety_narrow.proofs.CastRuns.{EndsOnOne}
use Rattle.zw_safety_narrow.specs.Operators.{IsStored, IsRightOfOne, fills_word, type_of}
use Rattle.zw_safety_narrow.specs.declared.setting.Setting.{Setting}
use Rattle.zw_safety_words.proofs.WideAnswers.{divisor_from, divisor_below, steps-is_zero}
use Rattle.zw_safety_words.proofs.WideBitRight.{takes-truth_for, truth-closed}
use Rattle.zw_safety_words.proofs.WideBitRuns.{brings, leaves_one}
use Rattle.zw_safety_words.proofs.WideClosed.{closed-then, widened-closed}
use Rattle.zw_safety_words.proofs.WideOrderRuns.{settled-for}
use Rattle.zw_safety_words.proofs.WideRuns.{reaches, reaches-then, steps-widened}
use Rattle.zw_safety_words.proofs.WideTypes.{takes-widened}
use Rattle.zw_safety_words.proofs.WideWords.{IsHeld, held}
use Rattle.zw_safety_words.specs.WideTruthCode.{wide_not_code}
use Rattle.zw_wasm.proofs.TypingTakes.{takes-then, takes-instr}
use Rattle.zw_wasm.specs.declared.module.Instr.{Instr}
use Rattle.zw_wasm.specs.declared.module.Instr.TheVariants.{IsZero}
use Rattle.zw_wasm.specs.declared.module.Module.{Module}
use Rattle.zw_wasm.specs.declared.module.ValType.{ValType}
use Rattle.zw_wasm.specs.declared.module.ValType.TheVariants.{I32 as word, I64 as long}
use Rattle.zw_wasm.specs.declared.num.Num.{Num}
use Rattle.zw_wasm.specs.Reduction.{Config}
use Rattle.zw_wasm.specs.Sequences.{Takes}
use Rattle.zw_wasm.specs.Signature.{View}
use Rattle.zw_wasm.specs.Typing.{Context}
use Rattle.zw_wasm.specs.WellFormed.{IsClosed}

is_some : (n : ℕ) → false ≡ int_eq (pos (suc n)) (pos 0)
is_some n = grind (arith, ints)

is_below : (n : ℕ) → false ≡ int_eq (negsuc n) (pos 0)
is_below n = grind (arith, ints)

zero_bits : (a : ℤ) → IsHeld a → nat_eq (pattern 64 a) 0 ≡ int_eq a (pos 0)
zero_bits (pos zero) h = refl
zero_bits (pos (suc n)) h = (divisor_from n h).long ∙ is_some n
zero_bits (negsuc n) h = (divisor_below n h).long ∙ is_below n

wide_not-ends : (m : Module) (v : View) (c : Config) (s : ℕ) (from to : IntTy) (a : ℤ) (os : List Num) (rest : List Instr) → IsStored from → IsIn from a → EndsOnOne m v c s from to a os (wide_not_code from to) rest (Ok (number_of_truth (int_eq a (pos 0))))
wide_not-ends m v c s from to a os rest hf i =
    let locals = c.frame.locals in
    let t = int_eq a (pos 0) in
    leaves_one m v c s from to a (number_of_truth t) os (wide_not_code from to) rest 3 (lit≤ tt)
    (brings s (reaches-then (steps-widened m v c from a os locals hf i)
    (reaches-then (reaches (steps-is_zero m v c (pattern 64 a) t os locals (zero_bits a (held from a hf i)))) (settled-for (fills_word to) m v c t os locals))))

takes-not : (x : Context) (from to : IntTy) (ts : List ValType) → Takes x (wide_not_code from to) (type_of from ∷ ts) (type_of to ∷ ts)
takes-not x from to ts =
    takes-then (takes-widened x from ts)
    (takes-then (takes-instr x (IsZero long) (long ∷ ts) (word ∷ ts) (λ below c outer. refl)) (takes-truth_for (fills_word to) x ts))

zero-closed : IsClosed (IsZero long ∷ [])
zero-closed = record { by = λ open_ifs rest h. h }

pub wide_is_false-right : (t : Setting) → IsStored t.left → IsStored t.to → IsRightOfOne (family.Logic logic_op.Not) t (wide_not_code t.left t.to)
wide_is_false-right t hf ht = record {
  ends = λ m v c a os rest i scratch state. wide_not-ends m v c t.scratch t.left t.to a os rest hf i;
  typed = λ x ts scratch state. takes-not x t.left t.to ts;
  closed = closed-then (widened-closed t.left) (closed-then zero-closed (truth-closed (fills_word t.to)));
}
