-- The code of operators on `u32` is right, and what they give is of 32 bits.
use Rattle.std.proofs.Common.{◌≡◌, ℕ, ℤ, pos, negsuc, ◌<◌, ◌^◌, ◌+ℤ◌, ◌-ℤ◌, ◌*ℤ◌, Bool, true, false, Result, Ok, Err, inl, refl, ap, arith, if◌then◌else◌}
use Rattle.std.proofs.lemmas.Int.{ints}
use Rattle.std.proofs.Math.Nat.{mod-eq_of_lt}
use Rattle.zw_num.proofs.WrappedLemmas.{in_from_test, wrapped_in}
use Rattle.zw_num.specs.Arithmetic.{IsIn, is_in, exact, saturated}
use Rattle.zw_num.specs.Meanings.{arithmetic}
use Rattle.zw_num.specs.declared.num_fault.NumFault.{NumFault}
use Rattle.zw_num.specs.declared.num_fault.NumFault.TheVariants.{Overflow}
use Rattle.zw_num.specs.declared.operator.Arithmetic.{Arithmetic}
use Rattle.zw_num.specs.declared.operator.Arithmetic.TheVariants.{Add, Sub, Mul, AddWrap, SubWrap, MulWrap, AddSat, SubSat, MulSat}
use Rattle.zw_num.specs.declared.operator.Operator.TheVariants as family
use Rattle.zw_lower.specs.Modules.{on_u32}
use Rattle.zw_safety.proofs.FamiliesServed.{stored_right}
use Rattle.zw_safety.specs.Checked.{u32}
use Rattle.zw_safety.specs.Families.{IsServed, stored_code}
use Rattle.zw_safety_narrow.specs.Operators.{IsRightOfTwo, filled}
use Rattle.zw_wasm.specs.declared.num.Num.TheVariants.{I32}

-- ---- what they give

-- a value of `u32`, or an overflow
abbrev pub IsNumberOrOverflow : Result ℤ NumFault → Type 0
IsNumberOrOverflow (Ok z) = IsIn u32 z
IsNumberOrOverflow (Err fault) = fault ≡ Overflow

tested-is : (b : Bool) (z : ℤ) → is_in u32 z ≡ b → IsNumberOrOverflow (if b then Ok z else Err Overflow)
tested-is true z e = in_from_test u32 z e
tested-is false z e = refl

exact-is : (z : ℤ) → IsNumberOrOverflow (exact u32 z)
exact-is z = tested-is (is_in u32 z) z refl

saturated-is : (z : ℤ) → IsIn u32 (saturated u32 z)
saturated-is z = record { at_least = grind (arith, ints); at_most = grind (arith, ints) }

pub arithmetic-is : (operator : Arithmetic) (a b : ℤ) → IsNumberOrOverflow (arithmetic operator u32 a b)
arithmetic-is Add a b = exact-is (a +ℤ b)
arithmetic-is Sub a b = exact-is (a -ℤ b)
arithmetic-is Mul a b = exact-is (a *ℤ b)
arithmetic-is AddWrap a b = wrapped_in false 32 (a +ℤ b)
arithmetic-is SubWrap a b = wrapped_in false 32 (a -ℤ b)
arithmetic-is MulWrap a b = wrapped_in false 32 (a *ℤ b)
arithmetic-is AddSat a b = saturated-is (a +ℤ b)
arithmetic-is SubSat a b = saturated-is (a -ℤ b)
arithmetic-is MulSat a b = saturated-is (a *ℤ b)

-- ---- numbers of 32 bits

pub word-in : (x : ℕ) → x < 2 ^ 32 → IsIn u32 (pos x)
word-in x h = record { at_least = omega (arith, ints, h); at_most = omega (arith, ints, h) }

pub in-word : (x : ℕ) → IsIn u32 (pos x) → x < 2 ^ 32
in-word x h = omega (arith, ints, h.at_most)

pub never-below : (n : ℕ) → IsIn u32 (negsuc n) → ⊥
never-below n h = omega (arith, ints, h.at_least)

pub word-is : (x : ℕ) → x < 2 ^ 32 → filled u32 (pos x) ≡ I32 x
word-is x h = ap (λ n. I32 n) (mod-eq_of_lt h)

-- ---- their code

pub arithmetic_served : (operator : Arithmetic) (scratch : ℕ) → IsServed (family.Arithmetic operator) (on_u32 scratch)
arithmetic_served operator scratch = inl (record {
  coded = refl;
  left_narrow = omega arith;
  right_narrow = λ e. omega arith;
  to_narrow = omega arith;
  right_unsigned = λ e. absurd (cc);
  whole_bytes = λ e. absurd (cc);
})

pub arithmetic-right : (operator : Arithmetic) (scratch : ℕ) → IsRightOfTwo (family.Arithmetic operator) (on_u32 scratch) (stored_code (family.Arithmetic operator) (on_u32 scratch))
arithmetic-right operator scratch = (stored_right (family.Arithmetic operator) (on_u32 scratch) (arithmetic_served operator scratch)).of_two refl
