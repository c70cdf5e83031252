-- The code of each operator that is served is right wherever it stands.
use Rattle.std.proofs.Common.{◌≡◌, ℕ, ℤ, ◌+ℤ◌, ◌-ℤ◌, ◌*ℤ◌, Bool, true, false, List, ◌∷◌, refl, sym, subst}
use Rattle.std.specs.Prelude.{if◌then◌else◌}
use Rattle.zw_num.specs.Arithmetic.{IsIn, exact}
use Rattle.zw_num.specs.declared.int_ty.IntTy.{IntTy}
use Rattle.zw_num.specs.declared.operator.Operator.TheVariants as family
use Rattle.zw_num.specs.declared.operator.Arithmetic.TheVariants as arithmetic_op
use Rattle.zw_safety_narrow.proofs.CheckedTypes.{takes-add, takes-sub}
use Rattle.zw_safety_narrow.proofs.NarrowRuns.{EndsOn, addition, subtraction, multiplication, exact-ends, wrapped-ends}
use Rattle.zw_safety_narrow.proofs.NarrowTypes.{type-narrow, takes-exact, takes-wrapped, exact-closed, wrapped-closed}
use Rattle.zw_safety_narrow.proofs.WordRuns.{word_sum-ends, word_difference-ends, on_u32}
use Rattle.zw_safety_narrow.proofs.SizedTypes.{sized_wraps, narrow_sized}
use Rattle.zw_safety_narrow.specs.Checked.{HasPanicState, HasScratch, PanicStateIsTyped, ScratchIsTyped}
use Rattle.zw_safety_narrow.specs.Code.{add_code, sub_code}
use Rattle.zw_safety_narrow.specs.NarrowCode.{are_u32, exact_code, sum_code, difference_code, wrapped_code}
use Rattle.zw_safety_narrow.specs.Operators.{IsNarrow, IsRightOfTwo, type_of}
use Rattle.zw_safety_narrow.specs.declared.setting.Setting.{Setting}
use Rattle.zw_wasm.specs.declared.module.BinaryOperator.{BinaryOperator}
use Rattle.zw_wasm.specs.declared.module.BinaryOperator.TheVariants.{Add, Sub, Mul}
use Rattle.zw_wasm.specs.declared.module.Instr.{Instr}
use Rattle.zw_wasm.specs.declared.module.Module.{Module}
use Rattle.zw_wasm.specs.declared.module.ValType.{ValType}
use Rattle.zw_wasm.specs.declared.module.ValType.TheVariants.{I32}
use Rattle.zw_wasm.specs.declared.num.Num.{Num}
use Rattle.zw_wasm.specs.Reduction.{Config}
use Rattle.zw_wasm.specs.Sequences.{Takes}
use Rattle.zw_wasm.specs.Signature.{View}
use Rattle.zw_wasm.specs.Typing.{Context}
use Rattle.zw_wasm.specs.WellFormed.{IsClosed}

-- the three types of an operator
pub record AreNarrow (left right to : IntTy) : Type 0 where
  pub left_narrow : IsNarrow left
  pub right_narrow : IsNarrow right
  pub to_narrow : IsNarrow to

pub narrow-takes : (x : Context) (is : List Instr) (ts : List ValType) (left right to : IntTy) → AreNarrow left right to → Takes x is (I32 ∷ I32 ∷ ts) (I32 ∷ ts) → Takes x is (type_of right ∷ type_of left ∷ ts) (type_of to ∷ ts)
narrow-takes x is ts left right to h takes =
    subst (λ t. Takes x is (t ∷ type_of left ∷ ts) (type_of to ∷ ts)) (sym (type-narrow right h.right_narrow))
    (subst (λ t. Takes x is (I32 ∷ t ∷ ts) (type_of to ∷ ts)) (sym (type-narrow left h.left_narrow))
    (subst (λ t. Takes x is (I32 ∷ I32 ∷ ts) (t ∷ ts)) (sym (type-narrow to h.to_narrow)) takes))

-- ---- `+` and `-`, by whether all types are `u32`

sum-ends_for : (t : Bool) (m : Module) (v : View) (c : Config) (s : ℕ) (left right to : IntTy) (a b : ℤ) (os : List Num) (rest : List Instr) → AreNarrow left right to → are_u32 left right to ≡ t → IsIn left a → IsIn right b → HasScratch s c.frame.locals → HasPanicState c.world.store → EndsOn m v c s left right to a b os (if t then add_code s else exact_code Add left right to s) rest (exact to (a +ℤ b))
sum-ends_for true m v c s left right to a b os rest h e il ir scratch state =
    on_u32 m v c s left right to a b os (add_code s) rest (a +ℤ b) e il ir (λ i j. word_sum-ends m v c s a b os rest i j scratch state)
sum-ends_for false m v c s left right to a b os rest h e il ir scratch state =
    exact-ends m v c Add (λ a b. a +ℤ b) s left right to a b os rest addition h.left_narrow h.right_narrow h.to_narrow il ir scratch state

difference-ends_for : (t : Bool) (m : Module) (v : View) (c : Config) (s : ℕ) (left right to : IntTy) (a b : ℤ) (os : List Num) (rest : List Instr) → AreNarrow left right to → are_u32 left right to ≡ t → IsIn left a → IsIn right b → HasScratch s c.frame.locals → HasPanicState c.world.store → EndsOn m v c s left right to a b os (if t then sub_code s else exact_code Sub left right to s) rest (exact to (a -ℤ b))
difference-ends_for true m v c s left right to a b os rest h e il ir scratch state =
    on_u32 m v c s left right to a b os (sub_code s) rest (a -ℤ b) e il ir (λ i j. word_difference-ends m v c s a b os rest i j scratch state)
difference-ends_for false m v c s left right to a b os rest h e il ir scratch state =
    exact-ends m v c Sub (λ a b. a -ℤ b) s left right to a b os rest subtraction h.left_narrow h.right_narrow h.to_narrow il ir scratch state

sum-takes_for : (t : Bool) (x : Context) (s : ℕ) (left right to : IntTy) (ts : List ValType) → ScratchIsTyped s x.locals → PanicStateIsTyped x.module_ → Takes x (if t then add_code s else exact_code Add left right to s) (I32 ∷ I32 ∷ ts) (I32 ∷ ts)
sum-takes_for true x s left right to ts scratch state = takes-add x s ts scratch state
sum-takes_for false x s left right to ts scratch state = takes-exact x Add left right to s ts scratch state

difference-takes_for : (t : Bool) (x : Context) (s : ℕ) (left right to : IntTy) (ts : List ValType) → ScratchIsTyped s x.locals → PanicStateIsTyped x.module_ → Takes x (if t then sub_code s else exact_code Sub left right to s) (I32 ∷ I32 ∷ ts) (I32 ∷ ts)
difference-takes_for true x s left right to ts scratch state = takes-sub x s ts scratch state
difference-takes_for false x s left right to ts scratch state = takes-exact x Sub left right to s ts scratch state

sum-closed_for : (t : Bool) (s : ℕ) (left right to : IntTy) → IsClosed (if t then add_code s else exact_code Add left right to s)
sum-closed_for true s left right to = record { by = λ open_ifs rest h. h }
sum-closed_for false s left right to = exact-closed Add left right to s

difference-closed_for : (t : Bool) (s : ℕ) (left right to : IntTy) → IsClosed (if t then sub_code s else exact_code Sub left right to s)
difference-closed_for true s left right to = record { by = λ open_ifs rest h. h }
difference-closed_for false s left right to = exact-closed Sub left right to s

pub sum-right : (t : Setting) → AreNarrow t.left t.right t.to → IsRightOfTwo (family.Arithmetic arithmetic_op.Add) t (sum_code t.left t.right t.to t.scratch)
sum-right t h = record {
  ends = λ m v c a b os rest il ir scratch state. sum-ends_for (are_u32 t.left t.right t.to) m v c t.scratch t.left t.right t.to a b os rest h refl il ir (scratch refl) state;
  typed = λ x ts scratch state. narrow-takes x (sum_code t.left t.right t.to t.scratch) ts t.left t.right t.to h (sum-takes_for (are_u32 t.left t.right t.to) x t.scratch t.left t.right t.to ts (scratch refl) state);
  closed = sum-closed_for (are_u32 t.left t.right t.to) t.scratch t.left t.right t.to;
}

pub difference-right : (t : Setting) → AreNarrow t.left t.right t.to → IsRightOfTwo (family.Arithmetic arithmetic_op.Sub) t (difference_code t.left t.right t.to t.scratch)
difference-right t h = record {
  ends = λ m v c a b os rest il ir scratch state. difference-ends_for (are_u32 t.left t.right t.to) m v c t.scratch t.left t.right t.to a b os rest h refl il ir (scratch refl) state;
  typed = λ x ts scratch state. narrow-takes x (difference_code t.left t.right t.to t.scratch) ts t.left t.right t.to h (difference-takes_for (are_u32 t.left t.right t.to) x t.scratch t.left t.right t.to ts (scratch refl) state);
  closed = difference-closed_for (are_u32 t.left t.right t.to) t.scratch t.left t.right t.to;
}

pub product-right : (t : Setting) → AreNarrow t.left t.right t.to → IsRightOfTwo (family.Arithmetic arithmetic_op.Mul) t (exact_code Mul t.left t.right t.to t.scratch)
product-right t h = record {
  ends = λ m v c a b os rest il ir scratch state. exact-ends m v c Mul (λ a b. a *ℤ b) t.scratch t.left t.right t.to a b os rest multiplication h.left_narrow h.right_narrow h.to_narrow il ir (scratch refl) state;
  typed = λ x ts scratch state. narrow-takes x (exact_code Mul t.left t.right t.to t.scratch) ts t.left t.right t.to h (takes-exact x Mul t.left t.right t.to t.scratch ts (scratch refl) state);
  closed = exact-closed Mul t.left t.right t.to t.scratch;
}

-- ---- `+%`, `-%` and `*%`

wrapped-typed : (x : Context) (ts : List ValType) (o : BinaryOperator) (left right to : IntTy) → AreNarrow left right to → Takes x (wrapped_code o to) (type_of right ∷ type_of left ∷ ts) (type_of to ∷ ts)
wrapped-typed x ts o left right to h = narrow-takes x (wrapped_code o to) ts left right to h (takes-wrapped x o to ts)

pub sum_wrap-right : (t : Setting) → AreNarrow t.left t.right t.to → IsRightOfTwo (family.Arithmetic arithmetic_op.AddWrap) t (wrapped_code Add t.to)
sum_wrap-right t h = record {
  ends = λ m v c a b os rest il ir scratch state.
      subst (λ r. EndsOn m v c t.scratch t.left t.right t.to a b os (wrapped_code Add t.to) rest r) (sym (sized_wraps t.to (a +ℤ b) (narrow_sized t.to h.to_narrow)))
      (wrapped-ends m v c Add (λ a b. a +ℤ b) t.scratch t.left t.right t.to a b os rest addition h.left_narrow h.right_narrow h.to_narrow);
  typed = λ x ts scratch state. wrapped-typed x ts Add t.left t.right t.to h;
  closed = wrapped-closed Add t.to;
}

pub difference_wrap-right : (t : Setting) → AreNarrow t.left t.right t.to → IsRightOfTwo (family.Arithmetic arithmetic_op.SubWrap) t (wrapped_code Sub t.to)
difference_wrap-right t h = record {
  ends = λ m v c a b os rest il ir scratch state.
      subst (λ r. EndsOn m v c t.scratch t.left t.right t.to a b os (wrapped_code Sub t.to) rest r) (sym (sized_wraps t.to (a -ℤ b) (narrow_sized t.to h.to_narrow)))
      (wrapped-ends m v c Sub (λ a b. a -ℤ b) t.scratch t.left t.right t.to a b os rest subtraction h.left_narrow h.right_narrow h.to_narrow);
  typed = λ x ts scratch state. wrapped-typed x ts Sub t.left t.right t.to h;
  closed = wrapped-closed Sub t.to;
}

pub product_wrap-right : (t : Setting) → AreNarrow t.left t.right t.to → IsRightOfTwo (family.Arithmetic arithmetic_op.MulWrap) t (wrapped_code Mul t.to)
product_wrap-right t h = record {
  ends = λ m v c a b os rest il ir scratch state.
      subst (λ r. EndsOn m v c t.scratch t.left t.right t.to a b os (wrapped_code Mul t.to) rest r) (sym (sized_wraps t.to (a *ℤ b) (narrow_sized t.to h.to_narrow)))
      (wrapped-ends m v c Mul (λ a b. a *ℤ b) t.scratch t.left t.right t.to a b os rest multiplication h.left_narrow h.right_narrow h.to_narrow);
  typed = λ x ts scratch state. wrapped-typed x ts Mul t.left t.right t.to h;
  closed = wrapped-closed Mul t.to;
}
