-- What the code of sums and differences that stop at the bounds of their type does when it runs where a type has more than 32 bits: by one
-- comparison where that is enough, and else by two words.
use Rattle.std.proofs.Common.{◌≡◌, ℕ, ℤ, pos, negsuc, ◌+◌, ◌-◌, ◌^◌, ◌≤ℤ◌, ◌<ℤ◌, ◌+ℤ◌, ◌-ℤ◌, neg_ℤ, Bool, true, false, not, List, [], ◌∷◌, ◌++◌, Ok, refl, sym, ap, ◌∙◌, subst, arith, lit≤}
use Rattle.std.specs.Prelude.{int_lt, slice_set, if◌then◌else◌}
use Rattle.std.proofs.lemmas.Int.{ints}
use Rattle.std.specs.Int.{w64, cast_signed}
use Rattle.zw_num.proofs.WrappedLemmas.{out_from_test}
use Rattle.zw_num.specs.Arithmetic.{IsIn, is_in, least, greatest, saturated, pattern}
use Rattle.zw_num.specs.declared.int_ty.IntTy.{IntTy}
use Rattle.zw_num.specs.declared.int_ty.IntTy.TheVariants.{Sized}
use Rattle.zw_safety_narrow.proofs.NarrowRuns.{Operation, EndsOn, addition, subtraction}
use Rattle.zw_safety_narrow.proofs.Pieces.{having, steps-get, steps-long_const}
use Rattle.zw_safety_narrow.proofs.SaturatingRuns.{fits_between}
use Rattle.zw_safety_narrow.specs.Checked.{HasScratch}
use Rattle.zw_safety_narrow.specs.Operators.{IsStored}
use Rattle.zw_safety_wide.proofs.WideSaturating.{nearest_is, sum_side, difference_side}
use Rattle.zw_safety_wide.proofs.WideSaturatingRuns.{HasKind, steps-bound, steps-chosen, nearest-leaves, high_kind, not_below, natural_sum, naturals_of}
use Rattle.zw_safety_wide.specs.WideSaturatingCode.{bound, nearest, by_one_test, sum_nearest, difference_nearest, wide_sum_sat_code, wide_difference_sat_code}
use Rattle.zw_safety_words.proofs.WideAnswers.{LeavesValue, spread-ends}
use Rattle.zw_safety_words.proofs.WideRuns.{Reaches, HasOperands, HasLow, GivesWords, has-operands, has-low, reaches, reaches-then, reaches-within, steps-low_word, steps-settled, with_operands}
use Rattle.zw_safety_words.proofs.WideSums.{Operands, AreUnsigned, AreSigned, are-unsigned, are-signed, steps-long_less, steps-crossed, gives-sum, gives-difference}
use Rattle.zw_safety_words.proofs.WideWords.{high, IsBroad, held, broad_sum, broad_difference, high_plain, unsigned_sum_tells, unsigned_difference_tells, IsLongSigned, long_signed_value, signed_is, signed_sum_tells, signed_difference_tells, two_words}
use Rattle.zw_safety_words.specs.WideCode.{all_unsigned, all_signed, low_word, long_less, crossed, sum_words, difference_words}
use Rattle.zw_safety_words.specs.WideOrderCode.{both_unsigned}
use Rattle.zw_wasm.specs.declared.module.BinaryOperator.{BinaryOperator}
use Rattle.zw_wasm.specs.declared.module.BinaryOperator.TheVariants.{Add, Sub}
use Rattle.zw_wasm.specs.declared.module.Comparison.TheVariants.{LtS, GtS}
use Rattle.zw_wasm.specs.declared.module.Instr.{Instr}
use Rattle.zw_wasm.specs.declared.module.Instr.TheVariants.{I64Const, Select}
use Rattle.zw_wasm.specs.declared.module.Module.{Module}
use Rattle.zw_wasm.specs.declared.num.Num.{Num}
use Rattle.zw_wasm.specs.declared.num.Num.TheVariants.{I32, I64}
use Rattle.zw_wasm.specs.Numerics.{bit_of}
use Rattle.zw_wasm.specs.Reduction.{Config}
use Rattle.zw_wasm.specs.Signature.{View}

-- ---- by two words

words-leaves : (m : Module) (v : View) (c : Config) (never_negative : Bool) (s : ℕ) (to : IntTy) (x y : ℕ) (z : ℤ) (os before locals : List Num) (ws : List Instr) → IsStored to → IsBroad z → HasKind never_negative (high z) → GivesWords m v c s ws x y z os before locals → LeavesValue m v c (ws ++ nearest never_negative to s) s to (saturated to z) os before locals 101
words-leaves m v c never_negative s to x y z os before locals ws ht broad kind words =
    let last = nearest-leaves m v c never_negative s to x y z os before words.after ht broad kind words.has in
    record { after = last.0; keeps = last.1.operands.kept; runs = reaches-then words.reached last.2 }

-- ---- by one test

-- what a piece by one test needs: the bound, the test, and that they tell the nearest value
record HasTest (m : Module) (v : View) (c : Config) (edge test : List Instr) (s : ℕ) (to : IntTy) (z : ℤ) (os locals : List Num) : Type 0 where
  number : ℤ
  bounds : Reaches m v c edge (having os locals) (having (I64 (pattern 64 number) ∷ os) locals) 6
  tests : Reaches m v c test (having (I64 (pattern 64 z) ∷ I64 (pattern 64 number) ∷ os) locals) (having (I32 (bit_of (not (is_in to z))) ∷ I64 (pattern 64 z) ∷ I64 (pattern 64 number) ∷ os) locals) 7
  nearest : (if not (is_in to z) then number else z) ≡ saturated to z

test-leaves : (m : Module) (v : View) (c : Config) (o : BinaryOperator) (f : ℤ → ℤ → ℤ) (edge test : List Instr) (s : ℕ) (to : IntTy) (a b : ℤ) (os before locals : List Num) → Operation o f → HasOperands s before locals (pattern 64 a) (pattern 64 b) →
    ((after : List Num) → HasLow s before after (pattern 64 a) (pattern 64 b) (pattern 64 (f a b)) → HasTest m v c edge test s to (f a b) os after) → LeavesValue m v c (low_word o s ++ by_one_test edge test to s) s to (saturated to (f a b)) os before locals 101
test-leaves m v c o f edge test s to a b os before locals op has piece =
    let z = f a b in
    let x = I64 (pattern 64 z) in
    let after = slice_set locals (s + 6) x in
    let low = has-low s (pattern 64 a) (pattern 64 b) (pattern 64 z) before locals has in
    let p = piece after low in
    let first = I64 (pattern 64 p.number) ∷ os in
    let chosen = subst (λ w. Reaches m v c (Select ∷ []) (having (I32 (bit_of (not (is_in to z))) ∷ x ∷ first) after) (having (I64 (pattern 64 w) ∷ os) after) 1) p.nearest
    (steps-chosen m v c (not (is_in to z)) p.number z os after) in
    record {
      after = after;
      keeps = low.operands.kept;
      runs = reaches-within (reaches-then (steps-low_word m v c o f s a b os before locals op has)
          (reaches-then p.bounds
          (reaches-then (reaches (steps-get m v c (s + 6) x first after low.low_is))
          (reaches-then p.tests (reaches-then chosen (steps-settled m v c to (saturated to z) os after)))))) 101 (lit≤ tt);
    }

-- the bound on the side of the left operand, where an exact result that the type lacks lies on that side
left_bound : (t : Bool) (to : IntTy) (a z : ℤ) → IsStored to → is_in to z ≡ t → (t ≡ false → int_lt a (pos 0) ≡ int_lt z (pos 0)) → (if not t then (if int_lt a (pos 0) then least to else greatest to) else z) ≡ saturated to z
left_bound true to a z h e side = ap (λ t. if t then z else (if int_lt z (pos 0) then least to else greatest to)) (sym e) ∙ nearest_is to z h
left_bound false to a z h e side =
    ap (λ t. if t then least to else greatest to) (side refl) ∙ ap (λ t. if t then z else (if int_lt z (pos 0) then least to else greatest to)) (sym e) ∙ nearest_is to z h

left_bound_is : (to : IntTy) (a z : ℤ) → IsStored to → (is_in to z ≡ false → int_lt a (pos 0) ≡ int_lt z (pos 0)) → (if not (is_in to z) then (if int_lt a (pos 0) then least to else greatest to) else z) ≡ saturated to z
left_bound_is to a z h side = left_bound (is_in to z) to a z h refl side

-- ---- of unsigned numbers

plain_natural : (a : ℤ) → high a ≡ pos 0 → int_lt a (pos 0) ≡ false
plain_natural a none = let parts = two_words a in not_below a (omega (arith, ints, parts, none))

natural_kind : (a : ℤ) → high a ≡ pos 0 → HasKind true a
natural_kind a none = record { natural = λ e. plain_natural a none; fits = λ e. absurd (cc) }

natural_sum_side : (a b : ℤ) → high a ≡ pos 0 → high b ≡ pos 0 → int_lt a (pos 0) ≡ int_lt (a +ℤ b) (pos 0)
natural_sum_side a b none nothing =
    let left = two_words a in
    let right = two_words b in
    plain_natural a none ∙ sym (not_below (a +ℤ b) (omega (arith, ints, left, right, none, nothing)))

unsigned-sum : (m : Module) (v : View) (c : Config) (s : ℕ) (left right to : IntTy) (a b : ℤ) (os before locals : List Num) → Operands left right to a b → AreUnsigned left right to → HasOperands s before locals (pattern 64 a) (pattern 64 b) → LeavesValue m v c (low_word Add s ++ by_one_test (bound true to (s + 5)) (long_less (s + 6) (s + 4)) to s) s to (saturated to (a +ℤ b)) os before locals 101
unsigned-sum m v c s left right to a b os before locals o u h =
    let z = a +ℤ b in
    let none = high_plain left a o.left_stored u.left_is o.left_in in
    let nothing = high_plain right b o.right_stored u.right_is o.right_in in
    let is = unsigned_sum_tells a b none nothing ∙ ap (λ t. not (is_in t z)) (sym u.to_is) in
    let edge = if int_lt a (pos 0) then least to else greatest to in
    test-leaves m v c Add (λ a b. a +ℤ b) (bound true to (s + 5)) (long_less (s + 6) (s + 4)) s to a b os before locals addition h
    (λ after has. record {
      number = edge;
      bounds = steps-bound true m v c to (s + 5) a os after o.to_stored (natural_kind a none) has.operands.left;
      tests = reaches-within (steps-long_less m v c (s + 6) (s + 4) (pattern 64 z) (pattern 64 b) (not (is_in to z)) (I64 (pattern 64 z) ∷ I64 (pattern 64 edge) ∷ os) after has.low_is has.operands.right is) 7 (lit≤ tt);
      nearest = left_bound_is to a z o.to_stored (λ e. natural_sum_side a b none nothing);
    })

zero_least : (t : Bool) (z : ℤ) → is_in (Sized false 64) z ≡ t → (t ≡ false → int_lt z (pos 0) ≡ true) → (if not t then pos 0 else z) ≡ saturated (Sized false 64) z
zero_least true z e side = ap (λ t. if t then z else (if int_lt z (pos 0) then pos 0 else greatest (Sized false 64))) (sym e) ∙ nearest_is (Sized false 64) z (lit≤ tt)
zero_least false z e side =
    ap (λ t. if t then pos 0 else greatest (Sized false 64)) (sym (side refl)) ∙ ap (λ t. if t then z else (if int_lt z (pos 0) then pos 0 else greatest (Sized false 64))) (sym e) ∙ nearest_is (Sized false 64) z (lit≤ tt)

not_above : (z : ℤ) → z ≤ℤ pos (2 ^ 64 - 1) → is_in (Sized false 64) z ≡ false → int_lt z (pos 0) ≡ true
not_above (pos n) h e = absurd (out_from_test (Sized false 64) (pos n) e (record { at_least = omega (arith, ints); at_most = h }))
not_above (negsuc n) h e = refl

unsigned_difference_nearest : (to : IntTy) (a b : ℤ) → to ≡ Sized false 64 → high a ≡ pos 0 → high b ≡ pos 0 → a ≤ℤ pos (2 ^ 64 - 1) → (if not (is_in to (a -ℤ b)) then pos 0 else a -ℤ b) ≡ saturated to (a -ℤ b)
unsigned_difference_nearest to a b e none nothing low =
    let z = a -ℤ b in
    let right = two_words b in
    subst (λ t. (if not (is_in t z) then pos 0 else z) ≡ saturated t z) (sym e)
    (zero_least (is_in (Sized false 64) z) z refl (λ f. not_above z (omega (arith, ints, low, right, nothing)) f))

unsigned-difference : (m : Module) (v : View) (c : Config) (s : ℕ) (left right to : IntTy) (a b : ℤ) (os before locals : List Num) → Operands left right to a b → AreUnsigned left right to → HasOperands s before locals (pattern 64 a) (pattern 64 b) → LeavesValue m v c (low_word Sub s ++ by_one_test (I64Const (pos 0) ∷ []) (long_less (s + 5) (s + 4)) to s) s to (saturated to (a -ℤ b)) os before locals 101
unsigned-difference m v c s left right to a b os before locals o u h =
    let z = a -ℤ b in
    let none = high_plain left a o.left_stored u.left_is o.left_in in
    let nothing = high_plain right b o.right_stored u.right_is o.right_in in
    let is = unsigned_difference_tells a b none nothing ∙ ap (λ t. not (is_in t z)) (sym u.to_is) in
    test-leaves m v c Sub (λ a b. a -ℤ b) (I64Const (pos 0) ∷ []) (long_less (s + 5) (s + 4)) s to a b os before locals subtraction h
    (λ after has. record {
      number = pos 0;
      bounds = reaches-within (reaches (steps-long_const m v c (pos 0) os after)) 6 (lit≤ tt);
      tests = reaches-within (steps-long_less m v c (s + 5) (s + 4) (pattern 64 a) (pattern 64 b) (not (is_in to z)) (I64 (pattern 64 z) ∷ I64 (pattern 64 (pos 0)) ∷ os) after has.operands.left has.operands.right is) 7 (lit≤ tt);
      nearest = unsigned_difference_nearest to a b u.to_is none nothing (held left a o.left_stored o.left_in).high;
    })

-- ---- of numbers with a sign

lt_from : (x : ℤ) → x <ℤ pos 0 → int_lt x (pos 0) ≡ true
lt_from x h = grind (arith, ints, h)

-- a number that an i64 lacks, and that isn't below it, or above it
lacks_above : (z : ℤ) → neg_ℤ (pos (2 ^ 63)) ≤ℤ z → (IsIn (Sized true 64) z → ⊥) → int_lt z (pos 0) ≡ false
lacks_above (pos n) h out = not_below (pos n) (omega (arith, ints))
lacks_above (negsuc n) h out = absurd (out (record { at_least = h; at_most = omega (arith, ints) }))

lacks_below : (z : ℤ) → z ≤ℤ pos (2 ^ 63 - 1) → (IsIn (Sized true 64) z → ⊥) → int_lt z (pos 0) ≡ true
lacks_below (pos n) h out = absurd (out (record { at_least = omega (arith, ints); at_most = h }))
lacks_below (negsuc n) h out = refl

-- a sum or a difference that an i64 lacks lies on the left operand's side
lacks_sum : (a b : ℤ) → IsLongSigned a → IsLongSigned b → (IsIn (Sized true 64) (a +ℤ b) → ⊥) → int_lt a (pos 0) ≡ int_lt (a +ℤ b) (pos 0)
lacks_sum (pos x) b h k out = not_below (pos x) (omega (arith, ints)) ∙ sym (lacks_above (pos x +ℤ b) (omega (arith, ints, k.low)) out)
lacks_sum (negsuc x) b h k out = lt_from (negsuc x) (omega (arith, ints)) ∙ sym (lacks_below (negsuc x +ℤ b) (omega (arith, ints, k.high)) out)

lacks_difference : (a b : ℤ) → IsLongSigned a → IsLongSigned b → (IsIn (Sized true 64) (a -ℤ b) → ⊥) → int_lt a (pos 0) ≡ int_lt (a -ℤ b) (pos 0)
lacks_difference (pos x) b h k out = not_below (pos x) (omega (arith, ints)) ∙ sym (lacks_above (pos x -ℤ b) (omega (arith, ints, k.high)) out)
lacks_difference (negsuc x) b h k out = lt_from (negsuc x) (omega (arith, ints)) ∙ sym (lacks_below (negsuc x -ℤ b) (omega (arith, ints, k.low)) out)

signed_kind : (a : ℤ) → IsLongSigned a → HasKind false a
signed_kind a h = record { natural = λ e. absurd (cc); fits = λ e. fits_between a h.low h.high }

signed-sum : (m : Module) (v : View) (c : Config) (s : ℕ) (left right to : IntTy) (a b : ℤ) (os before locals : List Num) → Operands left right to a b → AreSigned left right to → HasOperands s before locals (pattern 64 a) (pattern 64 b) → LeavesValue m v c (low_word Add s ++ by_one_test (bound false to (s + 5)) (crossed LtS s) to s) s to (saturated to (a +ℤ b)) os before locals 101
signed-sum m v c s left right to a b os before locals o u h =
    let z = a +ℤ b in
    let one = long_signed_value left a o.left_stored u.left_is o.left_in in
    let two = long_signed_value right b o.right_stored u.right_is o.right_in in
    let low = pattern 64 z in
    let is = signed_sum_tells a b one two ∙ ap (λ t. not (is_in t z)) (sym u.to_is) in
    let edge = if int_lt a (pos 0) then least to else greatest to in
    test-leaves m v c Add (λ a b. a +ℤ b) (bound false to (s + 5)) (crossed LtS s) s to a b os before locals addition h
    (λ after has. record {
      number = edge;
      bounds = steps-bound false m v c to (s + 5) a os after o.to_stored (signed_kind a one) has.operands.left;
      tests = steps-crossed m v c LtS s a b low (int_lt b (pos 0)) (int_lt (cast_signed w64 low) a) (not (is_in to z)) (I64 low ∷ I64 (pattern 64 edge) ∷ os) before after has
          (ap (λ x. int_lt x (pos 0)) (signed_is b two)) (ap (λ x. int_lt (cast_signed w64 low) x) (signed_is a one)) is;
      nearest = left_bound_is to a z o.to_stored (λ e. lacks_sum a b one two (λ i. out_from_test to z e (subst (λ t. IsIn t z) (sym u.to_is) i)));
    })

signed-difference : (m : Module) (v : View) (c : Config) (s : ℕ) (left right to : IntTy) (a b : ℤ) (os before locals : List Num) → Operands left right to a b → AreSigned left right to → HasOperands s before locals (pattern 64 a) (pattern 64 b) → LeavesValue m v c (low_word Sub s ++ by_one_test (bound false to (s + 5)) (crossed GtS s) to s) s to (saturated to (a -ℤ b)) os before locals 101
signed-difference m v c s left right to a b os before locals o u h =
    let z = a -ℤ b in
    let one = long_signed_value left a o.left_stored u.left_is o.left_in in
    let two = long_signed_value right b o.right_stored u.right_is o.right_in in
    let low = pattern 64 z in
    let is = signed_difference_tells a b one two ∙ ap (λ t. not (is_in t z)) (sym u.to_is) in
    let edge = if int_lt a (pos 0) then least to else greatest to in
    test-leaves m v c Sub (λ a b. a -ℤ b) (bound false to (s + 5)) (crossed GtS s) s to a b os before locals subtraction h
    (λ after has. record {
      number = edge;
      bounds = steps-bound false m v c to (s + 5) a os after o.to_stored (signed_kind a one) has.operands.left;
      tests = steps-crossed m v c GtS s a b low (int_lt (pos 0) b) (int_lt (cast_signed w64 low) a) (not (is_in to z)) (I64 low ∷ I64 (pattern 64 edge) ∷ os) before after has
          (ap (λ x. int_lt (pos 0) x) (signed_is b two)) (ap (λ x. int_lt (cast_signed w64 low) x) (signed_is a one)) is;
      nearest = left_bound_is to a z o.to_stored (λ e. lacks_difference a b one two (λ i. out_from_test to z e (subst (λ t. IsIn t z) (sym u.to_is) i)));
    })

-- ---- whole codes

sum_for : (p q : Bool) (m : Module) (v : View) (c : Config) (s : ℕ) (left right to : IntTy) (a b : ℤ) (os before locals : List Num) → Operands left right to a b → all_unsigned left right to ≡ p → all_signed left right to ≡ q → HasOperands s before locals (pattern 64 a) (pattern 64 b) →
    LeavesValue m v c (if p then low_word Add s ++ by_one_test (bound true to (s + 5)) (long_less (s + 6) (s + 4)) to s else (if q then low_word Add s ++ by_one_test (bound false to (s + 5)) (crossed LtS s) to s else sum_words left right s ++ nearest (both_unsigned left right) to s)) s to (saturated to (a +ℤ b)) os before locals 101
sum_for true q m v c s left right to a b os before locals o e f h = unsigned-sum m v c s left right to a b os before locals o (are-unsigned left right to o.to_stored e) h
sum_for false true m v c s left right to a b os before locals o e f h = signed-sum m v c s left right to a b os before locals o (are-signed left right to o.to_stored f) h
sum_for false false m v c s left right to a b os before locals o e f h =
    let one = held left a o.left_stored o.left_in in
    let two = held right b o.right_stored o.right_in in
    words-leaves m v c (both_unsigned left right) s to (pattern 64 a) (pattern 64 b) (a +ℤ b) os before locals (sum_words left right s) o.to_stored (broad_sum a b one two)
    (high_kind (both_unsigned left right) (a +ℤ b) (λ e. natural_sum a b (naturals_of left right a b o.left_in o.right_in e)) (λ e. sum_side a b one two))
    (gives-sum m v c s left right a b os before locals o.left_stored o.right_stored o.left_in o.right_in h)

difference_for : (p q : Bool) (m : Module) (v : View) (c : Config) (s : ℕ) (left right to : IntTy) (a b : ℤ) (os before locals : List Num) → Operands left right to a b → all_unsigned left right to ≡ p → all_signed left right to ≡ q → HasOperands s before locals (pattern 64 a) (pattern 64 b) →
    LeavesValue m v c (if p then low_word Sub s ++ by_one_test (I64Const (pos 0) ∷ []) (long_less (s + 5) (s + 4)) to s else (if q then low_word Sub s ++ by_one_test (bound false to (s + 5)) (crossed GtS s) to s else difference_words left right s ++ nearest false to s)) s to (saturated to (a -ℤ b)) os before locals 101
difference_for true q m v c s left right to a b os before locals o e f h = unsigned-difference m v c s left right to a b os before locals o (are-unsigned left right to o.to_stored e) h
difference_for false true m v c s left right to a b os before locals o e f h = signed-difference m v c s left right to a b os before locals o (are-signed left right to o.to_stored f) h
difference_for false false m v c s left right to a b os before locals o e f h =
    let one = held left a o.left_stored o.left_in in
    let two = held right b o.right_stored o.right_in in
    words-leaves m v c false s to (pattern 64 a) (pattern 64 b) (a -ℤ b) os before locals (difference_words left right s) o.to_stored (broad_difference a b one two)
    (high_kind false (a -ℤ b) (λ e. absurd (cc)) (λ e. difference_side a b one two))
    (gives-difference m v c s left right a b os before locals o.left_stored o.right_stored o.left_in o.right_in h)

pub wide_sum_sat-ends : (m : Module) (v : View) (c : Config) (s : ℕ) (left right to : IntTy) (a b : ℤ) (os : List Num) (rest : List Instr) → IsStored left → IsStored right → IsStored to → IsIn left a → IsIn right b → HasScratch s c.frame.locals → EndsOn m v c s left right to a b os (wide_sum_sat_code left right to s) rest (Ok (saturated to (a +ℤ b)))
wide_sum_sat-ends m v c s left right to a b os rest hl hr ht il ir room =
    let locals = with_operands s (pattern 64 a) (pattern 64 b) c.frame.locals in
    let o : Operands left right to a b = record { left_stored = hl; right_stored = hr; to_stored = ht; left_in = il; right_in = ir } in
    spread-ends (Ok (saturated to (a +ℤ b))) m v c s left right to a b os (sum_nearest left right to s) rest 101 (lit≤ tt) hl hr il ir room
    (sum_for (all_unsigned left right to) (all_signed left right to) m v c s left right to a b os c.frame.locals locals o refl refl (has-operands s (pattern 64 a) (pattern 64 b) c.frame.locals room))

pub wide_difference_sat-ends : (m : Module) (v : View) (c : Config) (s : ℕ) (left right to : IntTy) (a b : ℤ) (os : List Num) (rest : List Instr) → IsStored left → IsStored right → IsStored to → IsIn left a → IsIn right b → HasScratch s c.frame.locals → EndsOn m v c s left right to a b os (wide_difference_sat_code left right to s) rest (Ok (saturated to (a -ℤ b)))
wide_difference_sat-ends m v c s left right to a b os rest hl hr ht il ir room =
    let locals = with_operands s (pattern 64 a) (pattern 64 b) c.frame.locals in
    let o : Operands left right to a b = record { left_stored = hl; right_stored = hr; to_stored = ht; left_in = il; right_in = ir } in
    spread-ends (Ok (saturated to (a -ℤ b))) m v c s left right to a b os (difference_nearest left right to s) rest 101 (lit≤ tt) hl hr il ir room
    (difference_for (all_unsigned left right to) (all_signed left right to) m v c s left right to a b os c.frame.locals locals o refl refl (has-operands s (pattern 64 a) (pattern 64 b) c.frame.locals room))
