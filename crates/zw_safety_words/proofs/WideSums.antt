-- Sums and differences in two words, and where one comparison is enough.
use Rattle.std.proofs.Common.{◌≡◌, ℕ, ℤ, pos, ◌+◌, ◌+ℤ◌, ◌-ℤ◌, Bool, true, false, not, List, ◌∷◌, ◌++◌, Some, refl, sym, ap, ◌∙◌, subst, arith, lit≤}
use Rattle.std.specs.Prelude.{nat_lt, nat_eq, int_lt, ◌&&◌, slice_get, slice_set, if◌then◌else◌}
use Rattle.std.proofs.lemmas.Bool.{eqb-true}
use Rattle.std.proofs.lemmas.Int.{ints}
use Rattle.std.specs.Int.{w64, cast_signed}
use Rattle.zw_num.specs.Arithmetic.{IsIn, is_in, exact, pattern, width}
use Rattle.zw_num.specs.declared.int_ty.IntTy.{IntTy}
use Rattle.zw_num.specs.declared.int_ty.IntTy.TheVariants.{Sized, Comptime}
use Rattle.zw_safety_narrow.proofs.NarrowRuns.{Operation, EndsOn, addition, subtraction}
use Rattle.zw_safety_narrow.proofs.Pieces.{having, steps-then, steps-get, steps-long_const, steps-compare_long, steps-compare_word, steps-long}
use Rattle.zw_safety_words.proofs.WideRuns.{Reaches, reaches, reaches-then, reaches-within, HasOperands, HasLow, has-operands, has-low, with_operands, GivesWords, Tells, tells-words, steps-carry, steps-high_value, steps-raised, steps-low_word, tested-ends}
use Rattle.zw_safety_words.proofs.WideWords.{high, high_sum, high_difference, held, broad_sum, broad_difference, high_plain, unsigned_sum_tells, unsigned_difference_tells, long_signed_value, signed_is, signed_sum_tells, signed_difference_tells, differ}
use Rattle.zw_safety_narrow.specs.Checked.{HasScratch, HasPanicState}
use Rattle.zw_safety_narrow.specs.Operators.{IsStored}
use Rattle.zw_safety_words.specs.WideCode.{is_signed, all_unsigned, all_signed, low_word, long_less, crossed, outside, sum_words, difference_words, sum_test, difference_test, wide_sum_code, wide_difference_code}
use Rattle.zw_wasm.specs.declared.module.BinaryOperator.{BinaryOperator}
use Rattle.zw_wasm.specs.declared.module.BinaryOperator.TheVariants.{Add, Sub}
use Rattle.zw_wasm.specs.declared.module.Comparison.{Comparison}
use Rattle.zw_wasm.specs.declared.module.Comparison.TheVariants.{Ne, LtS, LtU, GtS}
use Rattle.zw_wasm.specs.declared.module.Instr.{Instr}
use Rattle.zw_wasm.specs.declared.module.Module.{Module}
use Rattle.zw_wasm.specs.declared.num.Num.{Num}
use Rattle.zw_wasm.specs.declared.num.Num.TheVariants.{I32, I64}
use Rattle.zw_wasm.specs.Numerics.{bit_of, is_related}
use Rattle.zw_wasm.specs.Reduction.{Config}
use Rattle.zw_wasm.specs.Signature.{View}

plus_none : (y : ℤ) → y ≡ y +ℤ pos 0
plus_none y = omega (arith, ints)

minus_none : (y : ℤ) → y ≡ y -ℤ pos 0
minus_none y = omega (arith, ints)

pub gives-sum : (m : Module) (v : View) (c : Config) (s : ℕ) (left right : IntTy) (a b : ℤ) (os before locals : List Num) → IsStored left → IsStored right → IsIn left a → IsIn right b → HasOperands s before locals (pattern 64 a) (pattern 64 b) → GivesWords m v c s (sum_words left right s) (pattern 64 a) (pattern 64 b) (a +ℤ b) os before locals
gives-sum m v c s left right a b os before locals hl hr il ir h =
    let z = a +ℤ b in
    let low = pattern 64 z in
    let after = slice_set locals (s + 6) (I64 low) in
    let has = has-low s (pattern 64 a) (pattern 64 b) low before locals h in
    let up = pos (bit_of (nat_lt low (pattern 64 b))) in
    let first = steps-low_word m v c Add (λ a b. a +ℤ b) s a b os before locals addition h in
    let second = steps-carry m v c (s + 6) (s + 4) low (pattern 64 b) os after has.low_is has.operands.right in
    let third = steps-raised m v c Add (λ a b. a +ℤ b) left (s + 5) a up os after addition plus_none hl il has.operands.left in
    let fourth = steps-raised m v c Add (λ a b. a +ℤ b) right (s + 4) b (up +ℤ high a) os after addition plus_none hr ir has.operands.right in
    let all = reaches-then first (reaches-then second (reaches-then third fourth)) in
    record {
      after = after;
      has = has;
      reached = subst (λ k. Reaches m v c (sum_words left right s) (having os locals) (having (I64 (pattern 64 k) ∷ os) after) 80) (sym (high_sum a b)) (reaches-within all 80 (lit≤ tt));
    }

pub gives-difference : (m : Module) (v : View) (c : Config) (s : ℕ) (left right : IntTy) (a b : ℤ) (os before locals : List Num) → IsStored left → IsStored right → IsIn left a → IsIn right b → HasOperands s before locals (pattern 64 a) (pattern 64 b) → GivesWords m v c s (difference_words left right s) (pattern 64 a) (pattern 64 b) (a -ℤ b) os before locals
gives-difference m v c s left right a b os before locals hl hr il ir h =
    let z = a -ℤ b in
    let low = pattern 64 z in
    let after = slice_set locals (s + 6) (I64 low) in
    let has = has-low s (pattern 64 a) (pattern 64 b) low before locals h in
    let down = pos (bit_of (nat_lt (pattern 64 a) (pattern 64 b))) in
    let first = steps-low_word m v c Sub (λ a b. a -ℤ b) s a b os before locals subtraction h in
    let second = steps-high_value m v c left (s + 5) a os after hl il has.operands.left in
    let third = steps-carry m v c (s + 5) (s + 4) (pattern 64 a) (pattern 64 b) (I64 (pattern 64 (high a)) ∷ os) after has.operands.left has.operands.right in
    let fourth = steps-long m v c Sub (pattern 64 (high a)) (pattern 64 down) (pattern 64 (high a -ℤ down)) os after (subtraction.long (high a) down) in
    let fifth = steps-raised m v c Sub (λ a b. a -ℤ b) right (s + 4) b (high a -ℤ down) os after subtraction minus_none hr ir has.operands.right in
    let all = reaches-then first (reaches-then second (reaches-then third (reaches-then (reaches fourth) fifth))) in
    record {
      after = after;
      has = has;
      reached = subst (λ k. Reaches m v c (difference_words left right s) (having os locals) (having (I64 (pattern 64 k) ∷ os) after) 80) (sym (high_difference a b)) (reaches-within all 80 (lit≤ tt));
    }

-- ---- where one comparison is enough

both_true : (p q : Bool) → (p && q) ≡ true → (p ≡ true) × (q ≡ true)
both_true true q e = (refl, e)
both_true false q e = absurd (cc)

not_so : (p : Bool) → not p ≡ true → p ≡ false
not_so true e = absurd (cc)
not_so false e = refl

-- types that are all unsigned
pub record AreUnsigned (left right to : IntTy) : Type 0 where
  pub left_is : is_signed left ≡ false
  pub right_is : is_signed right ≡ false
  pub to_is : to ≡ Sized false 64

pub record AreSigned (left right to : IntTy) : Type 0 where
  pub left_is : is_signed left ≡ true
  pub right_is : is_signed right ≡ true
  pub to_is : to ≡ Sized true 64

unsigned_long : (to : IntTy) → IsStored to → is_signed to ≡ false → nat_eq (width to) 64 ≡ true → to ≡ Sized false 64
unsigned_long (Sized false count) h e f = ap (λ n. Sized false n) (eqb-true count 64 f)
unsigned_long (Sized true count) h e f = absurd (cc)
unsigned_long Comptime h e f = absurd h

signed_long : (to : IntTy) → IsStored to → is_signed to ≡ true → nat_eq (width to) 64 ≡ true → to ≡ Sized true 64
signed_long (Sized true count) h e f = ap (λ n. Sized true n) (eqb-true count 64 f)
signed_long (Sized false count) h e f = absurd (cc)
signed_long Comptime h e f = absurd h

pub are-unsigned : (left right to : IntTy) → IsStored to → all_unsigned left right to ≡ true → AreUnsigned left right to
are-unsigned left right to h e =
    let one = both_true (not (is_signed left)) (not (is_signed right) && (not (is_signed to) && nat_eq (width to) 64)) e in
    let two = both_true (not (is_signed right)) (not (is_signed to) && nat_eq (width to) 64) one.1 in
    let three = both_true (not (is_signed to)) (nat_eq (width to) 64) two.1 in
    record {
      left_is = not_so (is_signed left) one.0;
      right_is = not_so (is_signed right) two.0;
      to_is = unsigned_long to h (not_so (is_signed to) three.0) three.1;
    }

pub are-signed : (left right to : IntTy) → IsStored to → all_signed left right to ≡ true → AreSigned left right to
are-signed left right to h e =
    let one = both_true (is_signed left) (is_signed right && (is_signed to && nat_eq (width to) 64)) e in
    let two = both_true (is_signed right) (is_signed to && nat_eq (width to) 64) one.1 in
    let three = both_true (is_signed to) (nat_eq (width to) 64) two.1 in
    record { left_is = one.0; right_is = two.0; to_is = signed_long to h three.0 three.1 }

pub steps-long_less : (m : Module) (v : View) (c : Config) (n k x y : ℕ) (b : Bool) (os locals : List Num) → slice_get locals n ≡ Some (I64 x) → slice_get locals k ≡ Some (I64 y) → nat_lt x y ≡ b → Reaches m v c (long_less n k) (having os locals) (having (I32 (bit_of b) ∷ os) locals) 3
steps-long_less m v c n k x y b os locals e f is =
    reaches (steps-then (steps-get m v c n (I64 x) os locals e)
    (steps-then (steps-get m v c k (I64 y) (I64 x ∷ os) locals f) (steps-compare_long m v c LtU x y b os locals is)))

-- by how the right operand compares with 0, and the low word, read with its sign, with the left one
pub steps-crossed : (m : Module) (v : View) (c : Config) (o : Comparison) (s : ℕ) (a b : ℤ) (low : ℕ) (p q t : Bool) (os before locals : List Num) → HasLow s before locals (pattern 64 a) (pattern 64 b) low → is_related o w64 (pattern 64 b) 0 ≡ p → is_related LtS w64 low (pattern 64 a) ≡ q → differ p q ≡ t → Reaches m v c (crossed o s) (having os locals) (having (I32 (bit_of t) ∷ os) locals) 7
steps-crossed m v c o s a b low p q t os before locals has one two three =
    let x = pattern 64 a in
    let y = pattern 64 b in
    reaches (steps-then (steps-get m v c (s + 4) (I64 y) os locals has.operands.right)
    (steps-then (steps-long_const m v c (pos 0) (I64 y ∷ os) locals)
    (steps-then (steps-compare_long m v c o y 0 p os locals one)
    (steps-then (steps-get m v c (s + 6) (I64 low) (I32 (bit_of p) ∷ os) locals has.low_is)
    (steps-then (steps-get m v c (s + 5) (I64 x) (I64 low ∷ I32 (bit_of p) ∷ os) locals has.operands.left)
    (steps-then (steps-compare_long m v c LtS low x q (I32 (bit_of p) ∷ os) locals two)
    (steps-compare_word m v c Ne (bit_of p) (bit_of q) t os locals three)))))))

-- a test behind the low word
tells-low : (m : Module) (v : View) (c : Config) (o : BinaryOperator) (f : ℤ → ℤ → ℤ) (s : ℕ) (to : IntTy) (a b : ℤ) (is : List Instr) (os before locals : List Num) → Operation o f → HasOperands s before locals (pattern 64 a) (pattern 64 b) → ((after : List Num) → HasLow s before after (pattern 64 a) (pattern 64 b) (pattern 64 (f a b)) → Reaches m v c is (having os after) (having (I32 (bit_of (not (is_in to (f a b)))) ∷ os) after) 7) → Tells m v c s (low_word o s ++ is) (pattern 64 a) (pattern 64 b) to (f a b) os before locals
tells-low m v c o f s to a b is os before locals op h test =
    let low = pattern 64 (f a b) in
    let after = slice_set locals (s + 6) (I64 low) in
    let has = has-low s (pattern 64 a) (pattern 64 b) low before locals h in
    record {
      after = after;
      has = has;
      reached = reaches-within (reaches-then (steps-low_word m v c o f s a b os before locals op h) (test after has)) 90 (lit≤ tt);
    }

-- ---- sums

-- operands and the types that they are values of
pub record Operands (left right to : IntTy) (a b : ℤ) : Type 0 where
  pub left_stored : IsStored left
  pub right_stored : IsStored right
  pub to_stored : IsStored to
  pub left_in : IsIn left a
  pub right_in : IsIn right b

unsigned-sum : (m : Module) (v : View) (c : Config) (s : ℕ) (left right to : IntTy) (a b : ℤ) (os before locals : List Num) → Operands left right to a b → AreUnsigned left right to → HasOperands s before locals (pattern 64 a) (pattern 64 b) → Tells m v c s (low_word Add s ++ long_less (s + 6) (s + 4)) (pattern 64 a) (pattern 64 b) to (a +ℤ b) os before locals
unsigned-sum m v c s left right to a b os before locals o u h =
    let none = high_plain left a o.left_stored u.left_is o.left_in in
    let nothing = high_plain right b o.right_stored u.right_is o.right_in in
    let is = unsigned_sum_tells a b none nothing ∙ ap (λ t. not (is_in t (a +ℤ b))) (sym u.to_is) in
    tells-low m v c Add (λ a b. a +ℤ b) s to a b (long_less (s + 6) (s + 4)) os before locals addition h
    (λ after has. reaches-within (steps-long_less m v c (s + 6) (s + 4) (pattern 64 (a +ℤ b)) (pattern 64 b) (not (is_in to (a +ℤ b))) os after has.low_is has.operands.right is) 7 (lit≤ tt))

signed-sum : (m : Module) (v : View) (c : Config) (s : ℕ) (left right to : IntTy) (a b : ℤ) (os before locals : List Num) → Operands left right to a b → AreSigned left right to → HasOperands s before locals (pattern 64 a) (pattern 64 b) → Tells m v c s (low_word Add s ++ crossed LtS s) (pattern 64 a) (pattern 64 b) to (a +ℤ b) os before locals
signed-sum m v c s left right to a b os before locals o u h =
    let one = long_signed_value left a o.left_stored u.left_is o.left_in in
    let two = long_signed_value right b o.right_stored u.right_is o.right_in in
    let low = pattern 64 (a +ℤ b) in
    let is = signed_sum_tells a b one two ∙ ap (λ t. not (is_in t (a +ℤ b))) (sym u.to_is) in
    tells-low m v c Add (λ a b. a +ℤ b) s to a b (crossed LtS s) os before locals addition h
    (λ after has. steps-crossed m v c LtS s a b low (int_lt b (pos 0)) (int_lt (cast_signed w64 low) a) (not (is_in to (a +ℤ b))) os before after has
    (ap (λ z. int_lt z (pos 0)) (signed_is b two)) (ap (λ z. int_lt (cast_signed w64 low) z) (signed_is a one)) is)

general-sum : (m : Module) (v : View) (c : Config) (s : ℕ) (left right to : IntTy) (a b : ℤ) (os before locals : List Num) → Operands left right to a b → HasOperands s before locals (pattern 64 a) (pattern 64 b) → Tells m v c s (sum_words left right s ++ outside to (s + 6)) (pattern 64 a) (pattern 64 b) to (a +ℤ b) os before locals
general-sum m v c s left right to a b os before locals o h =
    tells-words m v c s (sum_words left right s) (pattern 64 a) (pattern 64 b) to (a +ℤ b) os before locals o.to_stored (broad_sum a b (held left a o.left_stored o.left_in) (held right b o.right_stored o.right_in))
    (gives-sum m v c s left right a b os before locals o.left_stored o.right_stored o.left_in o.right_in h)

sum-for : (p q : Bool) (m : Module) (v : View) (c : Config) (s : ℕ) (left right to : IntTy) (a b : ℤ) (os before locals : List Num) → Operands left right to a b → all_unsigned left right to ≡ p → all_signed left right to ≡ q → HasOperands s before locals (pattern 64 a) (pattern 64 b) → Tells m v c s (if p then low_word Add s ++ long_less (s + 6) (s + 4) else (if q then low_word Add s ++ crossed LtS s else sum_words left right s ++ outside to (s + 6))) (pattern 64 a) (pattern 64 b) to (a +ℤ b) os before locals
sum-for true q m v c s left right to a b os before locals o e f h = unsigned-sum m v c s left right to a b os before locals o (are-unsigned left right to o.to_stored e) h
sum-for false true m v c s left right to a b os before locals o e f h = signed-sum m v c s left right to a b os before locals o (are-signed left right to o.to_stored f) h
sum-for false false m v c s left right to a b os before locals o e f h = general-sum m v c s left right to a b os before locals o h

-- ---- differences

unsigned-difference : (m : Module) (v : View) (c : Config) (s : ℕ) (left right to : IntTy) (a b : ℤ) (os before locals : List Num) → Operands left right to a b → AreUnsigned left right to → HasOperands s before locals (pattern 64 a) (pattern 64 b) → Tells m v c s (low_word Sub s ++ long_less (s + 5) (s + 4)) (pattern 64 a) (pattern 64 b) to (a -ℤ b) os before locals
unsigned-difference m v c s left right to a b os before locals o u h =
    let none = high_plain left a o.left_stored u.left_is o.left_in in
    let nothing = high_plain right b o.right_stored u.right_is o.right_in in
    let is = unsigned_difference_tells a b none nothing ∙ ap (λ t. not (is_in t (a -ℤ b))) (sym u.to_is) in
    tells-low m v c Sub (λ a b. a -ℤ b) s to a b (long_less (s + 5) (s + 4)) os before locals subtraction h
    (λ after has. reaches-within (steps-long_less m v c (s + 5) (s + 4) (pattern 64 a) (pattern 64 b) (not (is_in to (a -ℤ b))) os after has.operands.left has.operands.right is) 7 (lit≤ tt))

signed-difference : (m : Module) (v : View) (c : Config) (s : ℕ) (left right to : IntTy) (a b : ℤ) (os before locals : List Num) → Operands left right to a b → AreSigned left right to → HasOperands s before locals (pattern 64 a) (pattern 64 b) → Tells m v c s (low_word Sub s ++ crossed GtS s) (pattern 64 a) (pattern 64 b) to (a -ℤ b) os before locals
signed-difference m v c s left right to a b os before locals o u h =
    let one = long_signed_value left a o.left_stored u.left_is o.left_in in
    let two = long_signed_value right b o.right_stored u.right_is o.right_in in
    let low = pattern 64 (a -ℤ b) in
    let is = signed_difference_tells a b one two ∙ ap (λ t. not (is_in t (a -ℤ b))) (sym u.to_is) in
    tells-low m v c Sub (λ a b. a -ℤ b) s to a b (crossed GtS s) os before locals subtraction h
    (λ after has. steps-crossed m v c GtS s a b low (int_lt (pos 0) b) (int_lt (cast_signed w64 low) a) (not (is_in to (a -ℤ b))) os before after has
    (ap (λ z. int_lt (pos 0) z) (signed_is b two)) (ap (λ z. int_lt (cast_signed w64 low) z) (signed_is a one)) is)

general-difference : (m : Module) (v : View) (c : Config) (s : ℕ) (left right to : IntTy) (a b : ℤ) (os before locals : List Num) → Operands left right to a b → HasOperands s before locals (pattern 64 a) (pattern 64 b) → Tells m v c s (difference_words left right s ++ outside to (s + 6)) (pattern 64 a) (pattern 64 b) to (a -ℤ b) os before locals
general-difference m v c s left right to a b os before locals o h =
    tells-words m v c s (difference_words left right s) (pattern 64 a) (pattern 64 b) to (a -ℤ b) os before locals o.to_stored (broad_difference a b (held left a o.left_stored o.left_in) (held right b o.right_stored o.right_in))
    (gives-difference m v c s left right a b os before locals o.left_stored o.right_stored o.left_in o.right_in h)

pub difference-for : (p q : Bool) (m : Module) (v : View) (c : Config) (s : ℕ) (left right to : IntTy) (a b : ℤ) (os before locals : List Num) → Operands left right to a b → all_unsigned left right to ≡ p → all_signed left right to ≡ q → HasOperands s before locals (pattern 64 a) (pattern 64 b) → Tells m v c s (if p then low_word Sub s ++ long_less (s + 5) (s + 4) else (if q then low_word Sub s ++ crossed GtS s else difference_words left right s ++ outside to (s + 6))) (pattern 64 a) (pattern 64 b) to (a -ℤ b) os before locals
difference-for true q m v c s left right to a b os before locals o e f h = unsigned-difference m v c s left right to a b os before locals o (are-unsigned left right to o.to_stored e) h
difference-for false true m v c s left right to a b os before locals o e f h = signed-difference m v c s left right to a b os before locals o (are-signed left right to o.to_stored f) h
difference-for false false m v c s left right to a b os before locals o e f h = general-difference m v c s left right to a b os before locals o h

-- ---- whole

pub wide_sum-ends : (m : Module) (v : View) (c : Config) (s : ℕ) (left right to : IntTy) (a b : ℤ) (os : List Num) (rest : List Instr) → IsStored left → IsStored right → IsStored to → IsIn left a → IsIn right b → HasScratch s c.frame.locals → HasPanicState c.world.store → EndsOn m v c s left right to a b os (wide_sum_code left right to s) rest (exact to (a +ℤ b))
wide_sum-ends m v c s left right to a b os rest hl hr ht il ir h state =
    let locals = with_operands s (pattern 64 a) (pattern 64 b) c.frame.locals in
    let o : Operands left right to a b = record { left_stored = hl; right_stored = hr; to_stored = ht; left_in = il; right_in = ir } in
    tested-ends m v c s left right to a b (a +ℤ b) os (sum_test left right to s) rest hl hr il ir h state
    (sum-for (all_unsigned left right to) (all_signed left right to) m v c s left right to a b os c.frame.locals locals o refl refl (has-operands s (pattern 64 a) (pattern 64 b) c.frame.locals h))

pub wide_difference-ends : (m : Module) (v : View) (c : Config) (s : ℕ) (left right to : IntTy) (a b : ℤ) (os : List Num) (rest : List Instr) → IsStored left → IsStored right → IsStored to → IsIn left a → IsIn right b → HasScratch s c.frame.locals → HasPanicState c.world.store → EndsOn m v c s left right to a b os (wide_difference_code left right to s) rest (exact to (a -ℤ b))
wide_difference-ends m v c s left right to a b os rest hl hr ht il ir h state =
    let locals = with_operands s (pattern 64 a) (pattern 64 b) c.frame.locals in
    let o : Operands left right to a b = record { left_stored = hl; right_stored = hr; to_stored = ht; left_in = il; right_in = ir } in
    tested-ends m v c s left right to a b (a -ℤ b) os (difference_test left right to s) rest hl hr il ir h state
    (difference-for (all_unsigned left right to) (all_signed left right to) m v c s left right to a b os c.frame.locals locals o refl refl (has-operands s (pattern 64 a) (pattern 64 b) c.frame.locals h))
