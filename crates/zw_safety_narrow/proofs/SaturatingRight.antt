-- The code of sums, differences and products that stop at the bounds of their type is right wherever it stands.
use Rattle.std.proofs.Common.{◌≡◌, ℕ, ℤ, ◌+ℤ◌, ◌-ℤ◌, ◌*ℤ◌, ◌+◌, Bool, true, false, List, [], ◌∷◌, ◌++◌, Some, refl, sym, ap, subst}
use Rattle.std.specs.Prelude.{map, slice_get, if◌then◌else◌}
use Rattle.zw_num.specs.Arithmetic.{least, greatest}
use Rattle.zw_num.specs.declared.int_ty.IntTy.{IntTy}
use Rattle.zw_num.specs.declared.operator.Operator.TheVariants as family
use Rattle.zw_num.specs.declared.operator.Arithmetic.TheVariants as arithmetic_op
use Rattle.zw_safety_narrow.proofs.NarrowTypes.{long_local, takes-extended, takes-long, takes-long_const, takes-compare_long, takes-wrap}
use Rattle.zw_safety_narrow.proofs.OperatorsRight.{AreNarrow, narrow-takes}
use Rattle.zw_safety_narrow.proofs.NarrowRuns.{EndsOn}
use Rattle.zw_safety_narrow.proofs.SaturatingRuns.{sum_sat-ends, difference_sat-ends, product_sat-ends}
use Rattle.zw_safety_narrow.proofs.SizedTypes.{sized_saturates, narrow_sized}
use Rattle.zw_safety_narrow.specs.Checked.{ScratchIsTyped}
use Rattle.zw_safety_narrow.specs.DivisionCode.{are_unsigned}
use Rattle.zw_safety_narrow.specs.Operators.{IsRightOfTwo}
use Rattle.zw_safety_narrow.specs.declared.setting.Setting.{Setting}
use Rattle.zw_safety_narrow.specs.SaturatingCode.{bounded, saturated_code, natural_code, natural_product_code, saturated_product_code}
use Rattle.zw_wasm.proofs.TypingTakes.{takes-then, takes-instr, takes-local_get}
use Rattle.zw_wasm.specs.declared.module.BinaryOperator.{BinaryOperator}
use Rattle.zw_wasm.specs.declared.module.BinaryOperator.TheVariants.{Add, Sub, Mul}
use Rattle.zw_wasm.specs.declared.module.Comparison.{Comparison}
use Rattle.zw_wasm.specs.declared.module.Comparison.TheVariants.{LtS, LtU, GtS}
use Rattle.zw_wasm.specs.declared.module.Instr.TheVariants.{LocalTee, Select}
use Rattle.zw_wasm.specs.declared.module.ValType.{ValType}
use Rattle.zw_wasm.specs.declared.module.ValType.TheVariants.{I32, I64}
use Rattle.zw_wasm.specs.Sequences.{Takes}
use Rattle.zw_wasm.specs.Typing.{Context, Known, with_index, replaces}
use Rattle.zw_wasm.specs.WellFormed.{IsClosed}

pub takes-select_long : (x : Context) (ts : List ValType) → Takes x (Select ∷ []) (I32 ∷ I64 ∷ I64 ∷ ts) (I64 ∷ ts)
takes-select_long x ts = takes-instr x Select (I32 ∷ I64 ∷ I64 ∷ ts) (I64 ∷ ts) (λ below c outer. refl)

pub takes-tee_long : (x : Context) (n : ℕ) (ts : List ValType) → slice_get x.locals n ≡ Some I64 → Takes x (LocalTee n ∷ []) (I64 ∷ ts) (I64 ∷ ts)
takes-tee_long x n ts e = takes-instr x (LocalTee n) (I64 ∷ ts) (I64 ∷ ts) (λ below c outer.
    ap (λ o. with_index o (λ u. replaces (u ∷ []) (u ∷ []) (map (λ t. Known t) (I64 ∷ ts) ++ below) c outer)) e)

takes-bounded : (x : Context) (o : Comparison) (bound : ℤ) (s : ℕ) (ts : List ValType) → ScratchIsTyped s x.locals → Takes x (bounded o bound s) (I64 ∷ ts) (I64 ∷ ts)
takes-bounded x o bound s ts h =
    let there = long_local s x.locals h in
    takes-then (takes-tee_long x (s + 4) ts there)
    (takes-then (takes-long_const x bound (I64 ∷ ts))
    (takes-then (takes-local_get x (s + 4) I64 (I64 ∷ I64 ∷ ts) there)
    (takes-then (takes-long_const x bound (I64 ∷ I64 ∷ I64 ∷ ts)) (takes-then (takes-compare_long x o (I64 ∷ I64 ∷ ts)) (takes-select_long x ts)))))

pub takes-saturated : (x : Context) (o : BinaryOperator) (left right to : IntTy) (s : ℕ) (ts : List ValType) → ScratchIsTyped s x.locals → Takes x (saturated_code o left right to s) (I32 ∷ I32 ∷ ts) (I32 ∷ ts)
takes-saturated x o left right to s ts h =
    takes-then (takes-then (takes-extended x left right s ts h) (takes-long x o ts))
    (takes-then (takes-bounded x LtS (greatest to) s ts h) (takes-then (takes-bounded x GtS (least to) s ts h) (takes-wrap x ts)))

pub takes-natural : (x : Context) (o : BinaryOperator) (left right to : IntTy) (s : ℕ) (ts : List ValType) → ScratchIsTyped s x.locals → Takes x (natural_code o left right to s) (I32 ∷ I32 ∷ ts) (I32 ∷ ts)
takes-natural x o left right to s ts h =
    takes-then (takes-then (takes-extended x left right s ts h) (takes-long x o ts)) (takes-then (takes-bounded x LtU (greatest to) s ts h) (takes-wrap x ts))

takes-product_for : (u : Bool) (x : Context) (left right to : IntTy) (s : ℕ) (ts : List ValType) → ScratchIsTyped s x.locals → Takes x (if u then natural_product_code left right to s else saturated_code Mul left right to s) (I32 ∷ I32 ∷ ts) (I32 ∷ ts)
takes-product_for true x left right to s ts h = takes-natural x Mul left right to s ts h
takes-product_for false x left right to s ts h = takes-saturated x Mul left right to s ts h

closed-product_for : (u : Bool) (left right to : IntTy) (s : ℕ) → IsClosed (if u then natural_product_code left right to s else saturated_code Mul left right to s)
closed-product_for true left right to s = record { by = λ open_ifs rest h. h }
closed-product_for false left right to s = record { by = λ open_ifs rest h. h }

pub add_sat-right : (t : Setting) → AreNarrow t.left t.right t.to → IsRightOfTwo (family.Arithmetic arithmetic_op.AddSat) t (saturated_code Add t.left t.right t.to t.scratch)
add_sat-right t h = record {
  ends = λ m v c a b os rest il ir scratch state.
      subst (λ r. EndsOn m v c t.scratch t.left t.right t.to a b os (saturated_code Add t.left t.right t.to t.scratch) rest r) (sym (sized_saturates t.to (a +ℤ b) (narrow_sized t.to h.to_narrow)))
      (sum_sat-ends m v c t.scratch t.left t.right t.to a b os rest h.left_narrow h.right_narrow h.to_narrow il ir (scratch refl));
  typed = λ x ts scratch state. narrow-takes x (saturated_code Add t.left t.right t.to t.scratch) ts t.left t.right t.to h (takes-saturated x Add t.left t.right t.to t.scratch ts (scratch refl));
  closed = record { by = λ open_ifs rest h. h };
}

pub sub_sat-right : (t : Setting) → AreNarrow t.left t.right t.to → IsRightOfTwo (family.Arithmetic arithmetic_op.SubSat) t (saturated_code Sub t.left t.right t.to t.scratch)
sub_sat-right t h = record {
  ends = λ m v c a b os rest il ir scratch state.
      subst (λ r. EndsOn m v c t.scratch t.left t.right t.to a b os (saturated_code Sub t.left t.right t.to t.scratch) rest r) (sym (sized_saturates t.to (a -ℤ b) (narrow_sized t.to h.to_narrow)))
      (difference_sat-ends m v c t.scratch t.left t.right t.to a b os rest h.left_narrow h.right_narrow h.to_narrow il ir (scratch refl));
  typed = λ x ts scratch state. narrow-takes x (saturated_code Sub t.left t.right t.to t.scratch) ts t.left t.right t.to h (takes-saturated x Sub t.left t.right t.to t.scratch ts (scratch refl));
  closed = record { by = λ open_ifs rest h. h };
}

pub mul_sat-right : (t : Setting) → AreNarrow t.left t.right t.to → IsRightOfTwo (family.Arithmetic arithmetic_op.MulSat) t (saturated_product_code t.left t.right t.to t.scratch)
mul_sat-right t h = record {
  ends = λ m v c a b os rest il ir scratch state.
      subst (λ r. EndsOn m v c t.scratch t.left t.right t.to a b os (saturated_product_code t.left t.right t.to t.scratch) rest r) (sym (sized_saturates t.to (a *ℤ b) (narrow_sized t.to h.to_narrow)))
      (product_sat-ends m v c t.scratch t.left t.right t.to a b os rest h.left_narrow h.right_narrow h.to_narrow il ir (scratch refl));
  typed = λ x ts scratch state. narrow-takes x (saturated_product_code t.left t.right t.to t.scratch) ts t.left t.right t.to h (takes-product_for (are_unsigned t.left t.right) x t.left t.right t.to t.scratch ts (scratch refl));
  closed = closed-product_for (are_unsigned t.left t.right) t.left t.right t.to t.scratch;
}
