-- What the code of operators that stop at the bounds of their type does when it runs where a type has more than 32 bits.
use Rattle.std.proofs.Common.{◌≡◌, ℕ, ℤ, pos, negsuc, ◌+◌, ◌≤ℤ◌, ◌+ℤ◌, ◌*ℤ◌, Bool, true, false, not, List, [], ◌∷◌, ◌++◌, Some, Ok, refl, sym, ap, ◌∙◌, subst, arith, lit≤, FitsSigned}
use Rattle.std.specs.Prelude.{int_lt, slice_get, slice_set, if◌then◌else◌}
use Rattle.std.proofs.lemmas.Int.{ints}
use Rattle.std.specs.Int.{w64, cast_unsigned}
use Rattle.zw_num.specs.Arithmetic.{IsIn, is_in, least, greatest, saturated, pattern}
use Rattle.zw_num.specs.declared.int_ty.IntTy.{IntTy}
use Rattle.zw_num.specs.declared.int_ty.IntTy.TheVariants.{Sized, Comptime}
use Rattle.zw_safety_narrow.proofs.Going.{Moves, moves-select}
use Rattle.zw_safety_narrow.proofs.Locals.{slice_get-set_same}
use Rattle.zw_safety_narrow.proofs.NarrowRuns.{EndsOn}
use Rattle.zw_safety_narrow.proofs.Orders.{read}
use Rattle.zw_safety_narrow.proofs.Pieces.{having, Steps, steps-then, steps-get, steps-set, steps-long_const, steps-compare_long}
use Rattle.zw_safety_narrow.proofs.WordRuns.{both-true}
use Rattle.zw_safety_narrow.specs.CompareCode.{is_unsigned}
use Rattle.zw_safety_narrow.specs.Checked.{HasScratch}
use Rattle.zw_safety_narrow.specs.Operators.{IsStored, filled}
use Rattle.zw_safety_wide.proofs.WideSaturating.{nearest_is, least_bits, greatest_bits, high_side, HasSide, side_fits, product_side, product_other_side}
use Rattle.zw_safety_wide.specs.WideSaturatingCode.{greatest_long, bound, nearest, wide_product_sat_code}
use Rattle.zw_safety_words.proofs.WideAnswers.{spread-ends}
use Rattle.zw_safety_words.proofs.WideBitRuns.{signed_fits}
use Rattle.zw_safety_words.proofs.WideOrderRuns.{moved, bit-zero, chosen_long}
use Rattle.zw_safety_words.proofs.WideProductRuns.{gives-product}
use Rattle.zw_safety_words.proofs.WideRuns.{Reaches, HasLow, GivesWords, has-operands, has-middle, reaches, reaches-then, reaches-within, steps-outside, steps-settled, with_operands}
use Rattle.zw_safety_words.proofs.WideWords.{high, IsBroad, held, broad_product}
use Rattle.zw_safety_words.specs.WideCode.{spread, product_words}
use Rattle.zw_safety_words.specs.WideOrderCode.{both_unsigned}
use Rattle.zw_wasm.specs.declared.module.Comparison.TheVariants.{LtS}
use Rattle.zw_wasm.specs.declared.module.Instr.{Instr}
use Rattle.zw_wasm.specs.declared.module.Instr.TheVariants.{LocalGet, I64Const, Compare, Select}
use Rattle.zw_wasm.specs.declared.module.Module.{Module}
use Rattle.zw_wasm.specs.declared.module.ValType.TheVariants as ty
use Rattle.zw_wasm.specs.declared.num.Num.{Num}
use Rattle.zw_wasm.specs.declared.num.Num.TheVariants.{I32, I64}
use Rattle.zw_wasm.specs.Numerics.{bit_of}
use Rattle.zw_wasm.specs.Reduction.{Config}
use Rattle.zw_wasm.specs.Signature.{View}

-- ---- the bound

steps-constant : (m : Module) (v : View) (c : Config) (z : ℤ) (n : ℕ) (os locals : List Num) → cast_unsigned w64 z ≡ n → Steps m v c (I64Const z ∷ []) (having os locals) (having (I64 n ∷ os) locals) 1
steps-constant m v c z n os locals e = subst (λ k. Steps m v c (I64Const z ∷ []) (having os locals) (having (I64 k ∷ os) locals) 1) e (steps-long_const m v c z os locals)

-- one of two numbers by a bit
pub steps-chosen : (m : Module) (v : View) (c : Config) (t : Bool) (x y : ℤ) (os locals : List Num) → Reaches m v c (Select ∷ []) (having (I32 (bit_of t) ∷ I64 (pattern 64 y) ∷ I64 (pattern 64 x) ∷ os) locals) (having (I64 (pattern 64 (if t then x else y)) ∷ os) locals) 1
steps-chosen m v c t x y os locals =
    let first = I64 (pattern 64 x) in
    let second = I64 (pattern 64 y) in
    moved (subst (λ n. Moves m v c (Select ∷ []) (having (I32 (bit_of t) ∷ second ∷ first ∷ os) locals) (having (n ∷ os) locals) 1) (chosen_long t x y) (moves-select m v c (bit_of t) (not t) first second os locals (bit-zero t)))

-- whether no number of a kind is negative, and otherwise that an i64 has it
pub record HasKind (never_negative : Bool) (z : ℤ) : Type 0 where
  pub natural : never_negative ≡ true → int_lt z (pos 0) ≡ false
  pub fits : never_negative ≡ false → FitsSigned w64 z

bound-for : (never_negative : Bool) (m : Module) (v : View) (c : Config) (to : IntTy) (local : ℕ) (z : ℤ) (os locals : List Num) → IsStored to → HasKind never_negative z → slice_get locals local ≡ Some (I64 (pattern 64 z)) →
    Reaches m v c (if never_negative then I64Const (greatest_long to) ∷ [] else I64Const (least to) ∷ I64Const (greatest_long to) ∷ LocalGet local ∷ I64Const (pos 0) ∷ Compare ty.I64 LtS ∷ Select ∷ []) (having os locals) (having (I64 (pattern 64 (if int_lt z (pos 0) then least to else greatest to)) ∷ os) locals) 6
bound-for true m v c to local z os locals h kind there =
    subst (λ t. Reaches m v c (I64Const (greatest_long to) ∷ []) (having os locals) (having (I64 (pattern 64 (if t then least to else greatest to)) ∷ os) locals) 6) (sym (kind.natural refl))
    (reaches-within (reaches (steps-constant m v c (greatest_long to) (pattern 64 (greatest to)) os locals (greatest_bits to h))) 6 (lit≤ tt))
bound-for false m v c to local z os locals h kind there =
    let first = I64 (pattern 64 (least to)) ∷ os in
    let second = I64 (pattern 64 (greatest to)) ∷ first in
    let t = int_lt z (pos 0) in
    reaches-then (reaches (steps-then (steps-constant m v c (least to) (pattern 64 (least to)) os locals (least_bits to h))
    (steps-then (steps-constant m v c (greatest_long to) (pattern 64 (greatest to)) first locals (greatest_bits to h))
    (steps-then (steps-get m v c local (I64 (pattern 64 z)) second locals there)
    (steps-then (steps-long_const m v c (pos 0) (I64 (pattern 64 z) ∷ second) locals)
    (steps-compare_long m v c LtS (pattern 64 z) 0 t second locals (ap (λ y. int_lt y (pos 0)) (read w64 z (kind.fits refl)))))))))
    (steps-chosen m v c t (least to) (greatest to) os locals)

pub steps-bound : (never_negative : Bool) (m : Module) (v : View) (c : Config) (to : IntTy) (local : ℕ) (z : ℤ) (os locals : List Num) → IsStored to → HasKind never_negative z → slice_get locals local ≡ Some (I64 (pattern 64 z)) →
    Reaches m v c (bound never_negative to local) (having os locals) (having (I64 (pattern 64 (if int_lt z (pos 0) then least to else greatest to)) ∷ os) locals) 6
steps-bound never_negative m v c to local z os locals h kind there = bound-for never_negative m v c to local z os locals h kind there

-- ---- the low word or the bound

turned_choice : (t : Bool) (x y : ℤ) → (if not t then y else x) ≡ (if t then x else y)
turned_choice true x y = refl
turned_choice false x y = refl

-- the number or the bound by whether the type has it
pub saturated_choice : (to : IntTy) (z : ℤ) → IsStored to → (if not (is_in to z) then (if int_lt z (pos 0) then least to else greatest to) else z) ≡ saturated to z
saturated_choice to z h = turned_choice (is_in to z) z (if int_lt z (pos 0) then least to else greatest to) ∙ nearest_is to z h

pub nearest-leaves : (m : Module) (v : View) (c : Config) (never_negative : Bool) (s : ℕ) (to : IntTy) (x y : ℕ) (z : ℤ) (os before locals : List Num) → IsStored to → IsBroad z → HasKind never_negative (high z) → HasLow s before locals x y (pattern 64 z) →
    (after : List Num) × HasLow s before after x y (pattern 64 z) × Reaches m v c (nearest never_negative to s) (having (I64 (pattern 64 (high z)) ∷ os) locals) (having (filled to (saturated to z) ∷ os) after) 21
nearest-leaves m v c never_negative s to x y z os before locals h broad kind has =
    let up = I64 (pattern 64 (high z)) in
    let after = slice_set locals (s + 7) up in
    let end = has-middle s x y (pattern 64 z) (pattern 64 (high z)) before locals has in
    let room = has.operands.room in
    let there : slice_get after (s + 7) ≡ Some up = slice_get-set_same locals (s + 7) up (omega (arith, room)) in
    let edge = if int_lt z (pos 0) then least to else greatest to in
    let first = I64 (pattern 64 edge) ∷ os in
    let second = I64 (pattern 64 z) ∷ first in
    let bounds = subst (λ t. Reaches m v c (bound never_negative to (s + 7)) (having os after) (having (I64 (pattern 64 (if t then least to else greatest to)) ∷ os) after) 6) (high_side z)
    (steps-bound never_negative m v c to (s + 7) (high z) os after h kind there) in
    let chosen = subst (λ w. Reaches m v c (Select ∷ []) (having (I32 (bit_of (not (is_in to z))) ∷ second) after) (having (I64 (pattern 64 w) ∷ os) after) 1) (saturated_choice to z h)
    (steps-chosen m v c (not (is_in to z)) edge z os after) in (
      after,
      end,
      reaches-then (reaches (steps-set m v c (s + 7) up os locals (omega (arith, room))))
          (reaches-then bounds
          (reaches-then (reaches (steps-then (steps-get m v c (s + 6) (I64 (pattern 64 z)) first after end.low_is) (steps-get m v c (s + 7) up second after there)))
          (reaches-then (steps-outside m v c to (s + 6) z second after h broad end.low_is)
          (reaches-then chosen (steps-settled m v c to (saturated to z) os after))))),
    )

pub words-saturate : (m : Module) (v : View) (c : Config) (never_negative : Bool) (s : ℕ) (left right to : IntTy) (a b z : ℤ) (os : List Num) (ws rest : List Instr) → IsStored left → IsStored right → IsStored to → IsIn left a → IsIn right b → HasScratch s c.frame.locals → IsBroad z → HasKind never_negative (high z) →
    GivesWords m v c s ws (pattern 64 a) (pattern 64 b) z os c.frame.locals (with_operands s (pattern 64 a) (pattern 64 b) c.frame.locals) → EndsOn m v c s left right to a b os (spread left right s ++ (ws ++ nearest never_negative to s)) rest (Ok (saturated to z))
words-saturate m v c never_negative s left right to a b z os ws rest hl hr ht il ir room broad kind words =
    let before = c.frame.locals in
    let last = nearest-leaves m v c never_negative s to (pattern 64 a) (pattern 64 b) z os before words.after ht broad kind words.has in
    spread-ends (Ok (saturated to z)) m v c s left right to a b os (ws ++ nearest never_negative to s) rest 101 (lit≤ tt) hl hr il ir room
    (record { after = last.0; keeps = last.1.operands.kept; runs = reaches-then words.reached last.2 })

-- ---- which numbers are never negative

natural_of : (t : IntTy) (z : ℤ) → IsIn t z → is_unsigned t ≡ true → pos 0 ≤ℤ z
natural_of (Sized false count) z i e = omega (arith, ints, i.at_least)
natural_of (Sized true count) z i e = absurd (cc)
natural_of Comptime z i e = absurd (cc)

pub not_below : (z : ℤ) → pos 0 ≤ℤ z → int_lt z (pos 0) ≡ false
not_below (pos n) h = grind (arith, ints)
not_below (negsuc n) h = absurd (omega (arith, ints, h))

pub high_kind : (t : Bool) (z : ℤ) → (t ≡ true → pos 0 ≤ℤ z) → (t ≡ false → HasSide z) → HasKind t (high z)
high_kind t z natural side = record {
  natural = λ e. high_side z ∙ not_below z (natural e);
  fits = λ e. side_fits z (side e);
}

pub record AreNaturals (a b : ℤ) : Type 0 where
  pub left : pos 0 ≤ℤ a
  pub right : pos 0 ≤ℤ b

pub naturals_of : (left right : IntTy) (a b : ℤ) → IsIn left a → IsIn right b → both_unsigned left right ≡ true → AreNaturals a b
naturals_of left right a b il ir e = let both = both-true (is_unsigned left) (is_unsigned right) e in record { left = natural_of left a il both.0; right = natural_of right b ir both.1 }

pub natural_sum : (a b : ℤ) → AreNaturals a b → pos 0 ≤ℤ (a +ℤ b)
natural_sum a b h = omega (arith, ints, h.left, h.right)

natural_product : (a b : ℤ) → AreNaturals a b → pos 0 ≤ℤ (a *ℤ b)
natural_product (pos a) (pos b) h = omega (arith, ints)
natural_product (pos a) (negsuc b) h = absurd (omega (arith, ints, h.right))
natural_product (negsuc a) b h = absurd (omega (arith, ints, h.left))

product_has_side : (left right : IntTy) (a b : ℤ) → IsStored left → IsStored right → IsIn left a → IsIn right b → both_unsigned left right ≡ false → HasSide (a *ℤ b)
product_has_side (Sized true count) right a b hl hr il ir e = product_side a b (signed_fits count a hl il) (held right b hr ir)
product_has_side (Sized false count) (Sized true other) a b hl hr il ir e = product_other_side a b (held (Sized false count) a hl il) (signed_fits other b hr ir)
product_has_side (Sized false count) (Sized false other) a b hl hr il ir e = absurd (cc)
product_has_side (Sized false count) Comptime a b hl hr il ir e = absurd hr
product_has_side Comptime right a b hl hr il ir e = absurd hl

-- ---- whole codes

pub wide_product_sat-ends : (m : Module) (v : View) (c : Config) (s : ℕ) (left right to : IntTy) (a b : ℤ) (os : List Num) (rest : List Instr) → IsStored left → IsStored right → IsStored to → IsIn left a → IsIn right b → HasScratch s c.frame.locals → EndsOn m v c s left right to a b os (wide_product_sat_code left right to s) rest (Ok (saturated to (a *ℤ b)))
wide_product_sat-ends m v c s left right to a b os rest hl hr ht il ir room =
    let locals = with_operands s (pattern 64 a) (pattern 64 b) c.frame.locals in
    words-saturate m v c (both_unsigned left right) s left right to a b (a *ℤ b) os (product_words left right s) rest hl hr ht il ir room (broad_product a b (held left a hl il) (held right b hr ir))
    (high_kind (both_unsigned left right) (a *ℤ b) (λ e. natural_product a b (naturals_of left right a b il ir e)) (λ e. product_has_side left right a b hl hr il ir e))
    (gives-product m v c s left right a b os c.frame.locals locals hl hr il ir (has-operands s (pattern 64 a) (pattern 64 b) c.frame.locals room))
