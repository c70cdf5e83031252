-- What the code of comparisons, and of the lesser and the greater of two, does when it runs where a type has more than 32 bits.
use Rattle.std.proofs.Common.{◌≡◌, ℕ, ℤ, pos, negsuc, ◌^◌, ◌<◌, ◌≤◌, Bool, true, false, not, List, [], ◌∷◌, ◌++◌, Some, Ok, refl, sym, ap, ◌∙◌, subst, arith, lit≤, FitsSigned}
use Rattle.std.specs.Prelude.{nat_eq, int_le, slice_get, if◌then◌else◌}
use Rattle.std.proofs.lemmas.Bool.{ltb-true}
use Rattle.std.proofs.lemmas.Int.{ints}
use Rattle.std.proofs.Math.Nat.{pow-le-pow_right, mod-eq_of_lt}
use Rattle.std.specs.Int.{w64}
use Rattle.zw_num.specs.Meanings.{number_of_truth}
use Rattle.zw_num.specs.Arithmetic.{IsIn, pattern}
use Rattle.zw_num.specs.declared.int_ty.IntTy.{IntTy}
use Rattle.zw_num.specs.declared.int_ty.IntTy.TheVariants.{Sized, Comptime}
use Rattle.zw_safety_narrow.proofs.CastRuns.{truth_bits}
use Rattle.zw_safety_narrow.proofs.Going.{Moves, moves-select}
use Rattle.zw_safety_narrow.proofs.NarrowRuns.{EndsOn}
use Rattle.zw_safety_narrow.proofs.Orders.{Relation, read}
use Rattle.zw_safety_narrow.proofs.Pieces.{State, having, Steps, steps-none, steps-get, steps-const, steps-long_const, steps-compare_long, steps-extend_u}
use Rattle.zw_safety_narrow.proofs.WordRuns.{both-true}
use Rattle.zw_safety_narrow.specs.Checked.{HasScratch}
use Rattle.zw_safety_narrow.specs.Operators.{IsStored, fills_word}
use Rattle.zw_safety_words.proofs.WideBitRuns.{Brings, brings-then, brings-value, both-brought, filled_both, longs, signed_fits, natural_low, steps-both_got}
use Rattle.zw_safety_words.proofs.WideRuns.{Reaches, HasOperands, filled_by, has-operands, reaches, reaches-then, reaches-within, steps-settled, steps-spread, with_operands}
use Rattle.zw_safety_words.specs.declared.order.Compared.{Compared}
use Rattle.zw_safety_words.specs.WideBitCode.{both_got}
use Rattle.zw_safety_words.specs.WideCode.{both_widened, spread}
use Rattle.zw_safety_words.specs.WideOrderCode.{fits_signed_long, both_fit, both_unsigned, signed_local, below_zero, mixed_code, wide_comparison_code, wide_choice_code}
use Rattle.zw_wasm.specs.declared.module.Comparison.TheVariants.{GeS}
use Rattle.zw_wasm.specs.declared.module.Conversion.TheVariants.{ExtendU}
use Rattle.zw_wasm.specs.declared.module.Instr.{Instr}
use Rattle.zw_wasm.specs.declared.module.Instr.TheVariants.{I32Const, Compare, Convert, Select}
use Rattle.zw_wasm.specs.declared.module.Module.{Module}
use Rattle.zw_wasm.specs.declared.module.ValType.TheVariants as ty
use Rattle.zw_wasm.specs.declared.num.Num.{Num}
use Rattle.zw_wasm.specs.declared.num.Num.TheVariants.{I32, I64}
use Rattle.zw_wasm.specs.Numerics.{bit_of, is_related}
use Rattle.zw_wasm.specs.Reduction.{Config}
use Rattle.zw_wasm.specs.Signature.{View}
use Rattle.zw_wasm.specs.Structure.{word_of}

-- what a comparison is of numbers
pub record IsOf (o : Compared) (test : ℤ → ℤ → Bool) : Type 0 where
  pub relation : Relation o.signed o.unsigned test
  pub left_below : (n y : ℕ) → test (negsuc n) (pos y) ≡ o.left_below
  pub right_below : (x n : ℕ) → test (pos x) (negsuc n) ≡ o.right_below

pub moved : {m : Module} {v : View} {c : Config} {is : List Instr} {s t : State} {most : ℕ} → Moves m v c is s t most → Reaches m v c is s t most
moved a = record { count = a.count; few = a.few; steps = a.steps }

-- ---- operands that are read in one way

pub fits_long : (t : IntTy) (z : ℤ) → IsStored t → IsIn t z → fits_signed_long t ≡ true → FitsSigned w64 z
fits_long (Sized true count) z h i e = signed_fits count z h i
fits_long (Sized false count) (pos n) h i e =
    let less = ltb-true count 64 e in
    let lower : count ≤ 63 = omega (arith, less) in
    let few : 2 ^ count ≤ 2 ^ 63 = pow-le-pow_right {n = 2} (omega arith) lower in
    record { sfits = omega (arith, ints, i.at_most, few) }
fits_long (Sized false count) (negsuc n) h i e = absurd (omega (arith, ints, i.at_least))
fits_long Comptime z h i e = absurd h

related-signed : (o : Compared) (test : ℤ → ℤ → Bool) (left right : IntTy) (a b : ℤ) → IsOf o test → IsStored left → IsStored right → IsIn left a → IsIn right b → both_fit left right ≡ true → is_related o.signed w64 (pattern 64 a) (pattern 64 b) ≡ test a b
related-signed o test left right a b is hl hr il ir e =
    let both = both-true (fits_signed_long left) (fits_signed_long right) e in
    is.relation.by_sign w64 a b (fits_long left a hl il both.0) (fits_long right b hr ir both.1)

naturals-related : (o : Compared) (test : ℤ → ℤ → Bool) (x y : ℕ) → IsOf o test → x < 2 ^ 64 → y < 2 ^ 64 → is_related o.unsigned w64 (pattern 64 (pos x)) (pattern 64 (pos y)) ≡ test (pos x) (pos y)
naturals-related o test x y is h k =
    let one : pattern 64 (pos x) ≡ x = mod-eq_of_lt h in
    let two : pattern 64 (pos y) ≡ y = mod-eq_of_lt k in
    ap (λ n. is_related o.unsigned w64 n (pattern 64 (pos y))) one ∙ ap (is_related o.unsigned w64 x) two ∙ is.relation.by_none w64 x y

related-unsigned : (o : Compared) (test : ℤ → ℤ → Bool) (left right : IntTy) (a b : ℤ) → IsOf o test → IsStored left → IsStored right → IsIn left a → IsIn right b → both_unsigned left right ≡ true → is_related o.unsigned w64 (pattern 64 a) (pattern 64 b) ≡ test a b
related-unsigned o test (Sized false count) (Sized false other) (pos x) (pos y) is hl hr il ir e = naturals-related o test x y is (natural_low count x hl il) (natural_low other y hr ir)
related-unsigned o test (Sized false count) (Sized false other) (pos x) (negsuc y) is hl hr il ir e = absurd (omega (arith, ints, ir.at_least))
related-unsigned o test (Sized false count) (Sized false other) (negsuc x) b is hl hr il ir e = absurd (omega (arith, ints, il.at_least))
related-unsigned o test (Sized false count) (Sized true other) a b is hl hr il ir e = absurd (cc)
related-unsigned o test (Sized false count) Comptime a b is hl hr il ir e = absurd hr
related-unsigned o test (Sized true count) right a b is hl hr il ir e = absurd (cc)
related-unsigned o test Comptime right a b is hl hr il ir e = absurd hl

-- ---- a number of all 64 bits against one with a sign

pub bit-zero : (t : Bool) → nat_eq (bit_of t) 0 ≡ not t
bit-zero true = refl
bit-zero false = refl

chosen_bit : (g u k : Bool) → (if not g then I32 (bit_of k) else I32 (bit_of u)) ≡ I32 (bit_of (if g then u else k))
chosen_bit true u k = refl
chosen_bit false u k = refl

truth_word : (k : Bool) → word_of (number_of_truth k) ≡ bit_of k
truth_word true = refl
truth_word false = refl

steps-mixed : (m : Module) (v : View) (c : Config) (o : Compared) (left : IntTy) (s : ℕ) (z : ℤ) (x y : ℕ) (k : Bool) (os locals : List Num) → FitsSigned w64 z → slice_get locals (signed_local left s) ≡ Some (I64 (pattern 64 z)) → below_zero o left ≡ number_of_truth k →
    Reaches m v c (mixed_code o left s) (having (I64 y ∷ I64 x ∷ os) locals) (having (I32 (bit_of (if int_le (pos 0) z then is_related o.unsigned w64 x y else k)) ∷ os) locals) 6
steps-mixed m v c o left s z x y k os locals fits there e =
    let u = is_related o.unsigned w64 x y in
    let g = int_le (pos 0) z in
    let first = I32 (bit_of u) ∷ os in
    let second = I32 (bit_of k) ∷ first in
    let constant = subst (λ n. Steps m v c (I32Const (below_zero o left) ∷ []) (having first locals) (having (I32 n ∷ first) locals) 1) (ap word_of e ∙ truth_word k) (steps-const m v c (below_zero o left) first locals) in
    let chosen = subst (λ r. Moves m v c (Select ∷ []) (having (I32 (bit_of g) ∷ second) locals) (having (r ∷ os) locals) 1) (chosen_bit g u k)
    (moves-select m v c (bit_of g) (not g) (I32 (bit_of u)) (I32 (bit_of k)) os locals (bit-zero g)) in
    reaches-then (reaches (steps-compare_long m v c o.unsigned x y u os locals refl))
    (reaches-then (reaches constant)
    (reaches-then (reaches (steps-get m v c (signed_local left s) (I64 (pattern 64 z)) second locals there))
    (reaches-then (reaches (steps-long_const m v c (pos 0) (I64 (pattern 64 z) ∷ second) locals))
    (reaches-then (reaches (steps-compare_long m v c GeS (pattern 64 z) 0 g second locals (ap (λ r. int_le (pos 0) r) (read w64 z fits)))) (moved chosen)))))

from_zero : (n : ℕ) → int_le (pos 0) (pos n) ≡ true
from_zero n = grind (arith, ints)

left_mixed : (o : Compared) (test : ℤ → ℤ → Bool) (a : ℤ) (y : ℕ) → IsOf o test → FitsSigned w64 a → y < 2 ^ 64 → (if int_le (pos 0) a then is_related o.unsigned w64 (pattern 64 a) (pattern 64 (pos y)) else o.left_below) ≡ test a (pos y)
left_mixed o test (pos x) y is fits low = ap (λ g. if g then is_related o.unsigned w64 (pattern 64 (pos x)) (pattern 64 (pos y)) else o.left_below) (from_zero x) ∙ naturals-related o test x y is (omega (arith, fits.sfits)) low
left_mixed o test (negsuc n) y is fits low = sym (is.left_below n y)

right_mixed : (o : Compared) (test : ℤ → ℤ → Bool) (x : ℕ) (b : ℤ) → IsOf o test → x < 2 ^ 64 → FitsSigned w64 b → (if int_le (pos 0) b then is_related o.unsigned w64 (pattern 64 (pos x)) (pattern 64 b) else o.right_below) ≡ test (pos x) b
right_mixed o test x (pos y) is low fits = ap (λ g. if g then is_related o.unsigned w64 (pattern 64 (pos x)) (pattern 64 (pos y)) else o.right_below) (from_zero y) ∙ naturals-related o test x y is low (omega (arith, fits.sfits))
right_mixed o test x (negsuc n) is low fits = sym (is.right_below x n)

mixes : (m : Module) (v : View) (c : Config) (o : Compared) (test : ℤ → ℤ → Bool) (left right : IntTy) (s : ℕ) (a b : ℤ) (os before locals : List Num) → IsOf o test → IsStored left → IsStored right → IsIn left a → IsIn right b → both_fit left right ≡ false → both_unsigned left right ≡ false → HasOperands s before locals (pattern 64 a) (pattern 64 b) →
    Reaches m v c (mixed_code o left s) (having (longs a b os) locals) (having (I32 (bit_of (test a b)) ∷ os) locals) 6
mixes m v c o test (Sized true count) (Sized false other) s a (pos y) os before locals is hl hr il ir e f has =
    let fits = signed_fits count a hl il in
    subst (λ t. Reaches m v c (mixed_code o (Sized true count) s) (having (longs a (pos y) os) locals) (having (I32 (bit_of t) ∷ os) locals) 6) (left_mixed o test a y is fits (natural_low other y hr ir))
    (steps-mixed m v c o (Sized true count) s a (pattern 64 a) (pattern 64 (pos y)) o.left_below os locals fits has.left refl)
mixes m v c o test (Sized true count) (Sized false other) s a (negsuc y) os before locals is hl hr il ir e f has = absurd (omega (arith, ints, ir.at_least))
mixes m v c o test (Sized false count) (Sized true other) s (pos x) b os before locals is hl hr il ir e f has =
    let fits = signed_fits other b hr ir in
    subst (λ t. Reaches m v c (mixed_code o (Sized false count) s) (having (longs (pos x) b os) locals) (having (I32 (bit_of t) ∷ os) locals) 6) (right_mixed o test x b is (natural_low count x hl il) fits)
    (steps-mixed m v c o (Sized false count) s b (pattern 64 (pos x)) (pattern 64 b) o.right_below os locals fits has.right refl)
mixes m v c o test (Sized false count) (Sized true other) s (negsuc x) b os before locals is hl hr il ir e f has = absurd (omega (arith, ints, il.at_least))
mixes m v c o test (Sized true count) (Sized true other) s a b os before locals is hl hr il ir e f has = absurd (cc)
mixes m v c o test (Sized false count) (Sized false other) s a b os before locals is hl hr il ir e f has = absurd (cc)
mixes m v c o test (Sized true count) Comptime s a b os before locals is hl hr il ir e f has = absurd hr
mixes m v c o test (Sized false count) Comptime s a b os before locals is hl hr il ir e f has = absurd hr
mixes m v c o test Comptime right s a b os before locals is hl hr il ir e f has = absurd hl

-- ---- comparisons

relation-for : (p q : Bool) (m : Module) (v : View) (c : Config) (o : Compared) (test : ℤ → ℤ → Bool) (left right : IntTy) (s : ℕ) (a b : ℤ) (os before locals : List Num) → IsOf o test → IsStored left → IsStored right → IsIn left a → IsIn right b → both_fit left right ≡ p → both_unsigned left right ≡ q → HasOperands s before locals (pattern 64 a) (pattern 64 b) →
    Reaches m v c (if p then Compare ty.I64 o.signed ∷ [] else (if q then Compare ty.I64 o.unsigned ∷ [] else mixed_code o left s)) (having (longs a b os) locals) (having (I32 (bit_of (test a b)) ∷ os) locals) 6
relation-for true q m v c o test left right s a b os before locals is hl hr il ir e f has =
    reaches-within (reaches (steps-compare_long m v c o.signed (pattern 64 a) (pattern 64 b) (test a b) os locals (related-signed o test left right a b is hl hr il ir e))) 6 (lit≤ tt)
relation-for false true m v c o test left right s a b os before locals is hl hr il ir e f has =
    reaches-within (reaches (steps-compare_long m v c o.unsigned (pattern 64 a) (pattern 64 b) (test a b) os locals (related-unsigned o test left right a b is hl hr il ir f))) 6 (lit≤ tt)
relation-for false false m v c o test left right s a b os before locals is hl hr il ir e f has = mixes m v c o test left right s a b os before locals is hl hr il ir e f has

compared-for : (p q : Bool) (m : Module) (v : View) (c : Config) (o : Compared) (test : ℤ → ℤ → Bool) (left right : IntTy) (s : ℕ) (a b : ℤ) (os locals : List Num) → IsOf o test → IsStored left → IsStored right → IsIn left a → IsIn right b → both_fit left right ≡ p → both_unsigned left right ≡ q → HasScratch s locals →
    Brings m v c (if p then both_widened left right s ++ Compare ty.I64 o.signed ∷ [] else (if q then both_widened left right s ++ Compare ty.I64 o.unsigned ∷ [] else spread left right s ++ (both_got s ++ mixed_code o left s))) s (filled_both left right a b os) (I32 (bit_of (test a b)) ∷ os) locals 12
compared-for true q m v c o test left right s a b os locals is hl hr il ir e f room =
    let first = both-brought m v c s left right a b os locals hl hr il ir room in
    brings-then first (reaches-within (reaches (steps-compare_long m v c o.signed (pattern 64 a) (pattern 64 b) (test a b) os first.after (related-signed o test left right a b is hl hr il ir e))) 8 (lit≤ tt))
compared-for false true m v c o test left right s a b os locals is hl hr il ir e f room =
    let first = both-brought m v c s left right a b os locals hl hr il ir room in
    brings-then first (reaches-within (reaches (steps-compare_long m v c o.unsigned (pattern 64 a) (pattern 64 b) (test a b) os first.after (related-unsigned o test left right a b is hl hr il ir f))) 8 (lit≤ tt))
compared-for false false m v c o test left right s a b os locals is hl hr il ir e f room =
    let after = with_operands s (pattern 64 a) (pattern 64 b) locals in
    let has = has-operands s (pattern 64 a) (pattern 64 b) locals room in
    record {
      after = after;
      keeps = has.kept;
      runs = reaches-then (steps-spread m v c left right s a b os locals hl hr il ir room)
          (reaches-then (reaches (steps-both_got m v c s (pattern 64 a) (pattern 64 b) os locals after has)) (mixes m v c o test left right s a b os locals after is hl hr il ir e f has));
    }

truth_long : (t : Bool) → bit_of t ≡ pattern 64 (number_of_truth t)
truth_long true = refl
truth_long false = refl

pub settled-for : (w : Bool) (m : Module) (v : View) (c : Config) (t : Bool) (os locals : List Num) → Reaches m v c (if w then [] else Convert ExtendU ∷ []) (having (I32 (bit_of t) ∷ os) locals) (having (filled_by w (number_of_truth t) ∷ os) locals) 1
settled-for true m v c t os locals =
    subst (λ n. Reaches m v c [] (having (I32 (bit_of t) ∷ os) locals) (having (I32 n ∷ os) locals) 1) (truth_bits t) (reaches-within (reaches (steps-none m v c (having (I32 (bit_of t) ∷ os) locals))) 1 (lit≤ tt))
settled-for false m v c t os locals = reaches (steps-extend_u m v c (bit_of t) (pattern 64 (number_of_truth t)) os locals (truth_long t))

pub wide_comparison-ends : (m : Module) (v : View) (c : Config) (o : Compared) (test : ℤ → ℤ → Bool) (s : ℕ) (left right to : IntTy) (a b : ℤ) (os : List Num) (rest : List Instr) → IsOf o test → IsStored left → IsStored right → IsIn left a → IsIn right b → HasScratch s c.frame.locals → EndsOn m v c s left right to a b os (wide_comparison_code o left right to s) rest (Ok (number_of_truth (test a b)))
wide_comparison-ends m v c o test s left right to a b os rest is hl hr il ir room =
    let first = compared-for (both_fit left right) (both_unsigned left right) m v c o test left right s a b os c.frame.locals is hl hr il ir refl refl room in
    brings-value m v c s left right to a b (number_of_truth (test a b)) os (wide_comparison_code o left right to s) rest 13 (lit≤ tt)
    (brings-then first (settled-for (fills_word to) m v c (test a b) os first.after))

-- ---- the lesser and the greater of two

pub chosen_long : (t : Bool) (a b : ℤ) → (if not t then I64 (pattern 64 b) else I64 (pattern 64 a)) ≡ I64 (pattern 64 (if t then a else b))
chosen_long true a b = refl
chosen_long false a b = refl

pub wide_choice-ends : (m : Module) (v : View) (c : Config) (o : Compared) (test : ℤ → ℤ → Bool) (s : ℕ) (left right to : IntTy) (a b z : ℤ) (os : List Num) (rest : List Instr) → IsOf o test → IsStored left → IsStored right → IsIn left a → IsIn right b → HasScratch s c.frame.locals → (if test a b then a else b) ≡ z → EndsOn m v c s left right to a b os (wide_choice_code o left right to s) rest (Ok z)
wide_choice-ends m v c o test s left right to a b z os rest is hl hr il ir room e =
    let locals = c.frame.locals in
    let after = with_operands s (pattern 64 a) (pattern 64 b) locals in
    let has = has-operands s (pattern 64 a) (pattern 64 b) locals room in
    let t = test a b in
    let chosen = subst (λ r. Moves m v c (Select ∷ []) (having (I32 (bit_of t) ∷ longs a b os) after) (having (r ∷ os) after) 1) (chosen_long t a b ∙ ap (λ r. I64 (pattern 64 r)) e)
    (moves-select m v c (bit_of t) (not t) (I64 (pattern 64 a)) (I64 (pattern 64 b)) os after (bit-zero t)) in
    brings-value m v c s left right to a b z os (wide_choice_code o left right to s) rest 16 (lit≤ tt)
    (record {
      after = after;
      keeps = has.kept;
      runs = reaches-then (steps-spread m v c left right s a b os locals hl hr il ir room)
          (reaches-then (reaches (steps-both_got m v c s (pattern 64 a) (pattern 64 b) os locals after has))
          (reaches-then (reaches (steps-both_got m v c s (pattern 64 a) (pattern 64 b) (longs a b os) locals after has))
          (reaches-then (relation-for (both_fit left right) (both_unsigned left right) m v c o test left right s a b (longs a b os) locals after is hl hr il ir refl refl has)
          (reaches-then (moved chosen) (steps-settled m v c to z os after)))));
    })
