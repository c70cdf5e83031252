-- What the code of exact shifts, and of the shift that stops at the bounds of its type, does when it runs where a type has more than 32
-- bits.
use Rattle.std.proofs.Common.{◌≡◌, ℕ, ℤ, pos, negsuc, ◌+◌, ◌*◌, ◌/◌, ◌%◌, ◌^◌, ◌<◌, ◌≤◌, ◌*ℤ◌, Bool, true, false, not, List, [], ◌∷◌, ◌++◌, Result, Ok, Err, refl, sym, ap, ◌∙◌, subst, arith, lit≤}
use Rattle.std.specs.Prelude.{nat_eq, nat_le, nat_lt, int_lt, ◌&&◌, ◌||◌, slice_set, if◌then◌else◌}
use Rattle.std.proofs.lemmas.Int.{ints}
use Rattle.std.proofs.lemmas.Nat.{pow_pos}
use Rattle.std.proofs.Math.Nat.{mod-eq_of_lt}
use Rattle.std.specs.Int.{w64, cast_signed, cast_unsigned, int_shr}
use Rattle.zw_num.proofs.ShiftLemmas.{power_is}
use Rattle.zw_num.proofs.WrappedLemmas.{wrapped_in, wrapped_same, in_from_test}
use Rattle.zw_num.specs.Arithmetic.{IsIn, is_in, least, greatest, saturated, pattern, power, width, wrapped, floored, shifted, none_lost, none_dropped}
use Rattle.zw_num.specs.declared.int_ty.IntTy.{IntTy}
use Rattle.zw_num.specs.declared.int_ty.IntTy.TheVariants.{Sized, Comptime}
use Rattle.zw_num.specs.declared.num_fault.NumFault.{NumFault}
use Rattle.zw_num.specs.declared.num_fault.NumFault.TheVariants.{ShiftAmount, ShiftBits}
use Rattle.zw_safety_narrow.proofs.CastRuns.{holds_in}
use Rattle.zw_safety_narrow.proofs.ExactRuns.{shl_wide}
use Rattle.zw_safety_narrow.proofs.Going.{moves-tee}
use Rattle.zw_safety_narrow.proofs.NarrowRuns.{EndsOn}
use Rattle.zw_safety_narrow.proofs.Pieces.{having, steps-none, steps-then, steps-get, steps-set, steps-long_const, steps-long, steps-word, steps-compare_long}
use Rattle.zw_safety_narrow.proofs.ShiftRuns.{in_width}
use Rattle.zw_safety_narrow.specs.CastCode.{holds}
use Rattle.zw_safety_narrow.specs.Checked.{HasScratch, HasPanicState}
use Rattle.zw_safety_narrow.specs.CompareCode.{is_unsigned}
use Rattle.zw_safety_narrow.specs.Operators.{IsStored}
use Rattle.zw_safety_narrow.specs.ShiftCode.{right_operator}
use Rattle.zw_safety_wide.proofs.WideSaturatingRuns.{HasKind, not_below, steps-bound, steps-chosen, saturated_choice}
use Rattle.zw_safety_wide.proofs.WideShareRuns.{steps-shared, and_bit, turned_if, not_false}
use Rattle.zw_safety_wide.proofs.WideShares.{natural}
use Rattle.zw_safety_wide.proofs.WideShifts.{is_far, lost_is, dropped_is, lost_or_far, never_far, kept_by_amount, same_side}
use Rattle.zw_safety_wide.specs.WideSaturatingCode.{bound}
use Rattle.zw_safety_wide.specs.WideShiftCode.{amount_tested, long_fitted, moved_left, unlike, lost_tested, low_settled, wide_left_exact_code, wide_right_exact_code, far_besides, wide_left_sat_code}
use Rattle.zw_safety_wide.specs.WideSignedCode.{shared}
use Rattle.zw_safety_words.proofs.WideAnswers.{Answers, LeavesValue, answers-within, tested-answers, tested_behind, spread-ends}
use Rattle.zw_safety_words.proofs.WideBitRuns.{IsWideAmount, always_amount, steps-far, shl_bits, shr_bits, signed_fits}
use Rattle.zw_safety_words.proofs.WideOrderRuns.{moved}
use Rattle.zw_safety_words.proofs.WideRuns.{Reaches, HasOperands, has-operands, has-low, reaches, reaches-then, reaches-within, if_shorter-for, steps-settled, with_operands}
use Rattle.zw_safety_words.proofs.WideWords.{held, or_bits}
use Rattle.zw_safety_words.specs.WideBitCode.{are_wide_amounts, far_tested}
use Rattle.zw_safety_words.specs.WideCode.{settled}
use Rattle.zw_wasm.specs.declared.module.BinaryOperator.{BinaryOperator}
use Rattle.zw_wasm.specs.declared.module.BinaryOperator.TheVariants.{And, Or, Shl}
use Rattle.zw_wasm.specs.declared.module.Comparison.TheVariants.{Ne, GeU}
use Rattle.zw_wasm.specs.declared.module.Instr.{Instr}
use Rattle.zw_wasm.specs.declared.module.Instr.TheVariants.{LocalGet, LocalSet, LocalTee, I64Const, Compare, Binary, Select}
use Rattle.zw_wasm.specs.declared.module.Module.{Module}
use Rattle.zw_wasm.specs.declared.module.ValType.TheVariants as ty
use Rattle.zw_wasm.specs.declared.num.Num.{Num}
use Rattle.zw_wasm.specs.declared.num.Num.TheVariants.{I32, I64}
use Rattle.zw_wasm.specs.Numerics.{Gives, binary_of, bit_of}
use Rattle.zw_wasm.specs.Reduction.{Config}
use Rattle.zw_wasm.specs.Signature.{View}

-- ---- amounts

-- an amount below a width of at most 64
record IsShort (count : ℕ) (b : ℤ) : Type 0 where
  value : ℕ
  is : b ≡ pos value
  small : value < count

short_natural : (count n : ℕ) → in_width count (pos n) ≡ true → n < count
short_natural count n e = grind (arith, ints, e)

short : (count : ℕ) (b : ℤ) → in_width count b ≡ true → IsShort count b
short count (pos n) e = record { value = n; is = refl; small = short_natural count n e }
short count (negsuc n) e = absurd (cc)

wide_amount : (count : ℕ) (b : ℤ) → count ≤ 64 → IsShort count b → IsWideAmount b
wide_amount count b h n = let small = n.small in record { value = n.value; is = n.is; small = omega (arith, small, h) }

power_short : (count : ℕ) (b : ℤ) (n : IsShort count b) → power b ≡ pos (2 ^ n.value)
power_short count b n = power_is b n.value n.is

-- behind the test of an amount a piece gives the answer
amount_for : (u : Bool) (r : Result ℤ NumFault) (m : Module) (v : View) (c : Config) (count s : ℕ) (right to : IntTy) (a b : ℤ) (js : List Instr) (os before locals : List Num) (most : ℕ) → are_wide_amounts right count ≡ u → count ≤ 64 → IsStored right → IsIn right b → HasPanicState c.world.store → HasOperands s before locals (pattern 64 a) (pattern 64 b) → 8 ≤ most →
    (IsShort count b → Answers m v c js s to r os before locals most) → Answers m v c ((if u then [] else far_tested count s) ++ js) s to (if in_width count b then r else Err ShiftAmount) os before locals (4 + most)
amount_for true r m v c count s right to a b js os before locals most u h hr ir state has more piece =
    let yes = always_amount right count b u ir in
    subst (λ t. Answers m v c js s to (if t then r else Err ShiftAmount) os before locals (4 + most)) (sym yes) (answers-within r m v c js s to os before locals most (4 + most) (omega arith) (piece (short count b yes)))
amount_for false r m v c count s right to a b js os before locals most u h hr ir state has more piece =
    let t = in_width count b in
    subst (λ q. Answers m v c (far_tested count s ++ js) s to q os before locals (4 + most)) (turned_if t r (Err ShiftAmount))
    (tested-answers (not t) r m v c (LocalGet (s + 4) ∷ I64Const (pos count) ∷ Compare ty.I64 GeU ∷ []) js s to ShiftAmount os before locals locals 3 most state
    (reaches (steps-far m v c count s a b t os before locals h (held right b hr ir) refl has)) (λ e. piece (short count b (not_false t e))) more)

or_none : (t : Bool) → (t || false) ≡ t
or_none true = refl
or_none false = refl

-- ---- shifted back

-- a number in the local of the low word, and whether it is another one where it is shifted back
steps-unlike : (m : Module) (v : View) (c : Config) (o : BinaryOperator) (s : ℕ) (a b w z : ℤ) (os before locals : List Num) → HasOperands s before locals (pattern 64 a) (pattern 64 b) → binary_of o w64 (pattern 64 w) (pattern 64 b) ≡ Gives (pattern 64 z) → Reaches m v c (unlike o s) (having (I64 (pattern 64 w) ∷ os) locals) (having (I32 (bit_of (not (nat_eq (pattern 64 z) (pattern 64 a)))) ∷ os) locals) 4
steps-unlike m v c o s a b w z os before locals has gives =
    reaches (steps-then (steps-get m v c (s + 4) (I64 (pattern 64 b)) (I64 (pattern 64 w) ∷ os) locals has.right)
    (steps-then (steps-long m v c o (pattern 64 w) (pattern 64 b) (pattern 64 z) os locals gives)
    (steps-then (steps-get m v c (s + 5) (I64 (pattern 64 a)) (I64 (pattern 64 z) ∷ os) locals has.left)
    (steps-compare_long m v c Ne (pattern 64 z) (pattern 64 a) (not (nat_eq (pattern 64 z) (pattern 64 a))) os locals refl))))

-- behind a number on the operands, the number where it isn't another one, and else a panic
lost-answers : (r : Result ℤ NumFault) (m : Module) (v : View) (c : Config) (o : BinaryOperator) (s : ℕ) (to : IntTy) (a b w z : ℤ) (is : List Instr) (os before locals : List Num) (most : ℕ) → HasPanicState c.world.store → HasOperands s before locals (pattern 64 a) (pattern 64 b) → Reaches m v c is (having os locals) (having (I64 (pattern 64 w) ∷ os) locals) most →
    binary_of o w64 (pattern 64 w) (pattern 64 b) ≡ Gives (pattern 64 z) → (if not (nat_eq (pattern 64 z) (pattern 64 a)) then Err ShiftBits else Ok w) ≡ r → Answers m v c (is ++ (lost_tested o s ++ low_settled to s)) s to r os before locals (most + 14)
lost-answers r m v c o s to a b w z is os before locals most state has piece gives e =
    let i = I64 (pattern 64 w) in
    let t = not (nat_eq (pattern 64 z) (pattern 64 a)) in
    let after = slice_set locals (s + 6) i in
    let low = has-low s (pattern 64 a) (pattern 64 b) (pattern 64 w) before locals has in
    let room = has.room in
    let test = reaches-then piece (reaches-then (moved (moves-tee m v c (s + 6) i os locals (omega (arith, room)))) (steps-unlike m v c o s a b w z os before after low.operands gives)) in
    let value : LeavesValue m v c (low_settled to s) s to w os before after 8 = record { after = after; keeps = low.operands.kept; runs = reaches-within (reaches-then (reaches (steps-get m v c (s + 6) i os after low.low_is)) (steps-settled m v c to w os after)) 8 (lit≤ tt) } in
    subst (λ q. Answers m v c (is ++ (lost_tested o s ++ low_settled to s)) s to q os before locals (most + 14)) e
    (answers-within (if t then Err ShiftBits else Ok w) m v c (is ++ (lost_tested o s ++ low_settled to s)) s to os before locals (most + 5 + 1 + 8) (most + 14) (omega arith)
    (tested_behind t m v c is (LocalTee (s + 6) ∷ unlike o s) s to ShiftBits w (low_settled to s) os before locals after (most + 5) 8 state test value (lit≤ tt)))

-- ---- to the left

steps-long_fitted : (m : Module) (v : View) (c : Config) (signed : Bool) (count : ℕ) (z : ℤ) (os locals : List Num) → count ≤ 64 → Reaches m v c (long_fitted (Sized signed count)) (having (I64 (pattern 64 z) ∷ os) locals) (having (I64 (pattern 64 (wrapped (Sized signed count) z)) ∷ os) locals) 6
steps-long_fitted m v c signed count z os locals h = if_shorter-for (nat_lt count 64) m v c signed count z os locals h refl

steps-moved_left : (m : Module) (v : View) (c : Config) (s : ℕ) (signed : Bool) (count : ℕ) (a b z : ℤ) (os before locals : List Num) → count ≤ 64 → HasOperands s before locals (pattern 64 a) (pattern 64 b) → binary_of Shl w64 (pattern 64 a) (pattern 64 b) ≡ Gives (pattern 64 z) → Reaches m v c (moved_left (Sized signed count) s) (having os locals) (having (I64 (pattern 64 (wrapped (Sized signed count) z)) ∷ os) locals) 9
steps-moved_left m v c s signed count a b z os before locals h has gives = reaches-then (steps-shared m v c Shl s a b z os before locals has gives) (steps-long_fitted m v c signed count z os locals h)

kept_answer : (t : Bool) (signed : Bool) (count : ℕ) (z : ℤ) → is_in (Sized signed count) z ≡ t → (if not t then Err ShiftBits else Ok (wrapped (Sized signed count) z)) ≡ none_lost (Sized signed count) z
kept_answer true signed count z e = ap (λ w. Ok w) (wrapped_same signed count z (in_from_test (Sized signed count) z e)) ∙ sym (ap (λ t. if t then Ok z else Err ShiftBits) e)
kept_answer false signed count z e = sym (ap (λ t. if t then Ok z else Err ShiftBits) e)

left_answer : (signed : Bool) (count : ℕ) (a b : ℤ) (n : IsShort count b) → count ≤ 64 → IsIn (Sized signed count) a → (if not (nat_eq (pattern 64 (floored (wrapped (Sized signed count) (a *ℤ power b)) (power b))) (pattern 64 a)) then Err ShiftBits else Ok (wrapped (Sized signed count) (a *ℤ power b))) ≡ none_lost (Sized signed count) (a *ℤ power b)
left_answer signed count a b n h i =
    let to = Sized signed count in
    let z = a *ℤ power b in
    let is = power_short count b n in
    let lost : not (nat_eq (pattern 64 (floored (wrapped to z) (power b))) (pattern 64 a)) ≡ not (is_in to z) =
    subst (λ p. not (nat_eq (pattern 64 (floored (wrapped to (a *ℤ p)) p)) (pattern 64 a)) ≡ not (is_in to (a *ℤ p))) (sym is) (lost_is to a n.value h i n.small) in
    ap (λ t. if t then Err ShiftBits else Ok (wrapped to z)) lost ∙ kept_answer (is_in to z) signed count z refl

left-answers : (m : Module) (v : View) (c : Config) (s : ℕ) (signed : Bool) (count : ℕ) (a b : ℤ) (os before locals : List Num) → count ≤ 64 → IsIn (Sized signed count) a → IsShort count b → HasPanicState c.world.store → HasOperands s before locals (pattern 64 a) (pattern 64 b) →
    Answers m v c (moved_left (Sized signed count) s ++ (lost_tested (right_operator (Sized signed count)) s ++ low_settled (Sized signed count) s)) s (Sized signed count) (none_lost (Sized signed count) (a *ℤ power b)) os before locals 23
left-answers m v c s signed count a b os before locals h i n state has =
    let to = Sized signed count in
    let z = a *ℤ power b in
    let w = wrapped to z in
    let k = wide_amount count b h n in
    lost-answers (none_lost to z) m v c (right_operator to) s to a b w (floored w (power b)) (moved_left to s) os before locals 9 state has
    (steps-moved_left m v c s signed count a b z os before locals h has (shl_bits a b k)) (shr_bits to w b h (wrapped_in signed count z) k) (left_answer signed count a b n h i)

pub wide_left_exact-ends : (m : Module) (v : View) (c : Config) (s : ℕ) (left right to : IntTy) (a b : ℤ) (os : List Num) (rest : List Instr) → IsStored left → IsStored right → IsStored to → holds to left ≡ true → IsIn left a → IsIn right b → HasScratch s c.frame.locals → HasPanicState c.world.store → EndsOn m v c s left right to a b os (wide_left_exact_code left right to s) rest (shifted to b (none_lost to (a *ℤ power b)))
wide_left_exact-ends m v c s left right (Sized signed count) a b os rest hl hr ht e il ir room state =
    let to = Sized signed count in
    let r = none_lost to (a *ℤ power b) in
    let js = moved_left to s ++ (lost_tested (right_operator to) s ++ low_settled to s) in
    let before = c.frame.locals in
    let locals = with_operands s (pattern 64 a) (pattern 64 b) before in
    let has = has-operands s (pattern 64 a) (pattern 64 b) before room in
    spread-ends (shifted to b r) m v c s left right to a b os (amount_tested right count s ++ js) rest 27 (lit≤ tt) hl hr il ir room
    (amount_for (are_wide_amounts right count) r m v c count s right to a b js os before locals 23 refl ht hr ir state has (lit≤ tt)
    (λ n. left-answers m v c s signed count a b os before locals ht (holds_in to left a e il) n state has))
wide_left_exact-ends m v c s left right Comptime a b os rest hl hr ht e il ir room state = absurd ht

-- ---- to the right

right_answer : (count : ℕ) (a b : ℤ) (n : IsShort count b) → count ≤ 64 → (if not (nat_eq (pattern 64 (floored a (power b) *ℤ power b)) (pattern 64 a)) then Err ShiftBits else Ok (floored a (power b))) ≡ none_dropped a (power b)
right_answer count a b n h =
    let small = n.small in
    subst (λ p. (if not (nat_eq (pattern 64 (floored a p *ℤ p)) (pattern 64 a)) then Err ShiftBits else Ok (floored a p)) ≡ none_dropped a p) (sym (power_short count b n)) (dropped_is a n.value (omega (arith, small, h)))

right-answers : (m : Module) (v : View) (c : Config) (s count : ℕ) (left to : IntTy) (a b : ℤ) (os before locals : List Num) → count ≤ 64 → IsStored left → IsIn left a → IsShort count b → HasPanicState c.world.store → HasOperands s before locals (pattern 64 a) (pattern 64 b) →
    Answers m v c (shared (right_operator left) s ++ (lost_tested Shl s ++ low_settled to s)) s to (none_dropped a (power b)) os before locals 17
right-answers m v c s count left to a b os before locals h hl il n state has =
    let q = floored a (power b) in
    let k = wide_amount count b h n in
    lost-answers (none_dropped a (power b)) m v c Shl s to a b q (q *ℤ power b) (shared (right_operator left) s) os before locals 3 state has
    (steps-shared m v c (right_operator left) s a b q os before locals has (shr_bits left a b hl il k)) (shl_bits q b k) (right_answer count a b n h)

pub wide_right_exact-ends : (m : Module) (v : View) (c : Config) (s : ℕ) (left right to : IntTy) (a b : ℤ) (os : List Num) (rest : List Instr) → IsStored left → IsStored right → IsStored to → IsIn left a → IsIn right b → HasScratch s c.frame.locals → HasPanicState c.world.store → EndsOn m v c s left right to a b os (wide_right_exact_code left right to s) rest (shifted to b (none_dropped a (power b)))
wide_right_exact-ends m v c s left right (Sized signed count) a b os rest hl hr ht il ir room state =
    let to = Sized signed count in
    let r = none_dropped a (power b) in
    let js = shared (right_operator left) s ++ (lost_tested Shl s ++ low_settled to s) in
    let before = c.frame.locals in
    let locals = with_operands s (pattern 64 a) (pattern 64 b) before in
    let has = has-operands s (pattern 64 a) (pattern 64 b) before room in
    spread-ends (shifted to b r) m v c s left right to a b os (amount_tested right count s ++ js) rest 21 (lit≤ tt) hl hr il ir room
    (amount_for (are_wide_amounts right count) r m v c count s right to a b js os before locals 17 refl ht hr ir state has (lit≤ tt)
    (λ n. right-answers m v c s count left to a b os before locals ht hl il n state has))
wide_right_exact-ends m v c s left right Comptime a b os rest hl hr ht il ir room state = absurd ht

-- ---- up to the bounds

-- a shift by the number that an amount is modulo 64
shl_mod : (a : ℤ) (n : ℕ) → n < 2 ^ 64 → binary_of Shl w64 (pattern 64 a) (pattern 64 (pos n)) ≡ Gives (pattern 64 (a *ℤ pos (2 ^ (n % 64))))
shl_mod a n h =
    let same : pattern 64 (pos n) % 64 ≡ pattern 64 (pos (n % 64)) % 64 = omega (arith, h) in
    ap (λ k. Gives ((pattern 64 a * 2 ^ k) % 2 ^ 64)) same ∙ shl_wide a (n % 64) (omega arith)

same_shift : (to : IntTy) (x y z : ℕ) → y % 64 ≡ z % 64 → binary_of (right_operator to) w64 x y ≡ binary_of (right_operator to) w64 x z
same_shift (Sized true count) x y z e = ap (λ k. Gives (cast_unsigned w64 (int_shr (cast_signed w64 x) k))) e
same_shift (Sized false count) x y z e = ap (λ k. Gives (x / 2 ^ k)) e
same_shift Comptime x y z e = ap (λ k. Gives (x / 2 ^ k)) e

shr_mod : (to : IntTy) (w : ℤ) (n : ℕ) → IsStored to → IsIn to w → n < 2 ^ 64 → binary_of (right_operator to) w64 (pattern 64 w) (pattern 64 (pos n)) ≡ Gives (pattern 64 (floored w (pos (2 ^ (n % 64)))))
shr_mod to w n ht i h =
    let k : IsWideAmount (pos (n % 64)) = record { value = n % 64; is = refl; small = omega arith } in
    same_shift to (pattern 64 w) (pattern 64 (pos n)) (pattern 64 (pos (n % 64))) (omega (arith, h)) ∙ shr_bits to w (pos (n % 64)) ht i k ∙ ap (λ z. Gives (pattern 64 (floored w z))) (power_is (pos (n % 64)) (n % 64) refl)

-- besides the bit on the operands
besides_for : (u : Bool) (m : Module) (v : View) (c : Config) (s : ℕ) (right to : IntTy) (a : ℤ) (n : ℕ) (l : Bool) (os before locals : List Num) → are_wide_amounts right (width to) ≡ u → IsIn right (pos n) → n < 2 ^ 64 → HasOperands s before locals (pattern 64 a) (pattern 64 (pos n)) →
    Reaches m v c (if u then [] else LocalGet (s + 4) ∷ I64Const (pos (width to)) ∷ Compare ty.I64 GeU ∷ LocalGet (s + 5) ∷ I64Const (pos 0) ∷ Compare ty.I64 Ne ∷ Binary ty.I32 And ∷ Binary ty.I32 Or ∷ []) (having (I32 (bit_of l) ∷ os) locals) (having (I32 (bit_of (l || is_far to a n)) ∷ os) locals) 8
besides_for true m v c s right to a n l os before locals u ir low has =
    let near = short_natural (width to) n (always_amount right (width to) (pos n) u ir) in
    let same : l ≡ (l || is_far to a n) = sym (ap (λ t. l || t) (never_far to a n near) ∙ or_none l) in
    subst (λ t. Reaches m v c [] (having (I32 (bit_of l) ∷ os) locals) (having (I32 (bit_of t) ∷ os) locals) 8) same
    (reaches-within (reaches (steps-none m v c (having (I32 (bit_of l) ∷ os) locals))) 8 (lit≤ tt))
besides_for false m v c s right to a n l os before locals u ir low has =
    let y = pattern 64 (pos n) in
    let x = pattern 64 a in
    let is : y ≡ n = mod-eq_of_lt low in
    let p = nat_le (width to) n in
    let q = not (nat_eq x 0) in
    let bit = I32 (bit_of l) ∷ os in
    reaches (steps-then (steps-get m v c (s + 4) (I64 y) bit locals has.right)
    (steps-then (steps-long_const m v c (pos (width to)) (I64 y ∷ bit) locals)
    (steps-then (steps-compare_long m v c GeU y (width to) p bit locals (ap (λ k. nat_le (width to) k) is))
    (steps-then (steps-get m v c (s + 5) (I64 x) (I32 (bit_of p) ∷ bit) locals has.left)
    (steps-then (steps-long_const m v c (pos 0) (I64 x ∷ I32 (bit_of p) ∷ bit) locals)
    (steps-then (steps-compare_long m v c Ne x 0 q (I32 (bit_of p) ∷ bit) locals refl)
    (steps-then (steps-word m v c And (bit_of p) (bit_of q) (bit_of (p && q)) bit locals (ap (λ k. Gives k) (and_bit p q)))
    (steps-word m v c Or (bit_of l) (bit_of (p && q)) (bit_of (l || (p && q))) os locals (ap (λ k. Gives k) (or_bits l (p && q)))))))))))

-- the number or the bound
sat_choice : (t : Bool) (to : IntTy) (a : ℤ) (n : ℕ) → IsStored to → is_in to (a *ℤ pos (2 ^ n)) ≡ t → (if not t then (if int_lt a (pos 0) then least to else greatest to) else wrapped to (a *ℤ pos (2 ^ (n % 64)))) ≡ saturated to (a *ℤ pos (2 ^ n))
sat_choice true to a n h e =
    let z = a *ℤ pos (2 ^ n) in
    kept_by_amount to a n h (in_from_test to z e) ∙ ap (λ t. if not t then (if int_lt z (pos 0) then least to else greatest to) else z) (sym e) ∙ saturated_choice to z h
sat_choice false to a n h e =
    let z = a *ℤ pos (2 ^ n) in
    ap (λ t. if t then least to else greatest to) (same_side a (2 ^ n) (pow_pos n)) ∙ ap (λ t. if not t then (if int_lt z (pos 0) then least to else greatest to) else z) (sym e) ∙ saturated_choice to z h

left_kind : (left : IntTy) (a : ℤ) → IsStored left → IsIn left a → HasKind (is_unsigned left) a
left_kind (Sized false count) a h i = record { natural = λ e. not_below a (omega (arith, ints, i.at_least)); fits = λ e. absurd (cc) }
left_kind (Sized true count) a h i = record { natural = λ e. absurd (cc); fits = λ e. signed_fits count a h i }
left_kind Comptime a h i = absurd h

sat-leaves : (m : Module) (v : View) (c : Config) (s : ℕ) (left right : IntTy) (signed : Bool) (count : ℕ) (a : ℤ) (n : ℕ) (os before locals : List Num) → IsStored left → count ≤ 64 → IsIn left a → IsIn (Sized signed count) a → IsIn right (pos n) → n < 2 ^ 64 → HasOperands s before locals (pattern 64 a) (pattern 64 (pos n)) →
    LeavesValue m v c ((moved_left (Sized signed count) s ++ LocalSet (s + 6) ∷ []) ++ (bound (is_unsigned left) (Sized signed count) (s + 5) ++ ((LocalGet (s + 6) ∷ LocalGet (s + 6) ∷ unlike (right_operator (Sized signed count)) s) ++ (far_besides right count s ++ (Select ∷ settled (Sized signed count)))))) s (Sized signed count) (saturated (Sized signed count) (a *ℤ pos (2 ^ n))) os before locals 32
sat-leaves m v c s left right signed count a n os before locals hl h il i ir low has =
    let to = Sized signed count in
    let z = a *ℤ pos (2 ^ n) in
    let w = wrapped to (a *ℤ pos (2 ^ (n % 64))) in
    let q = floored w (pos (2 ^ (n % 64))) in
    let lost = not (nat_eq (pattern 64 q) (pattern 64 a)) in
    let x = I64 (pattern 64 w) in
    let after = slice_set locals (s + 6) x in
    let kept = has-low s (pattern 64 a) (pattern 64 (pos n)) (pattern 64 w) before locals has in
    let room = has.room in
    let edge = if int_lt a (pos 0) then least to else greatest to in
    let first = I64 (pattern 64 edge) ∷ os in
    let second = x ∷ first in
    let cond = lost || is_far to a n in
    let value = ap (λ t. if t then edge else w) (lost_or_far to a n h i) ∙ sat_choice (is_in to z) to a n h refl in
    let chosen = subst (λ r. Reaches m v c (Select ∷ []) (having (I32 (bit_of cond) ∷ second) after) (having (I64 (pattern 64 r) ∷ os) after) 1) value (steps-chosen m v c cond edge w os after) in
    record {
      after = after;
      keeps = kept.operands.kept;
      runs = reaches-then (reaches-then (steps-moved_left m v c s signed count a (pos n) (a *ℤ pos (2 ^ (n % 64))) os before locals h has (shl_mod a n low)) (reaches (steps-set m v c (s + 6) x os locals (omega (arith, room)))))
          (reaches-then (steps-bound (is_unsigned left) m v c to (s + 5) a os after h (left_kind left a hl il) kept.operands.left)
          (reaches-then (reaches-then (reaches (steps-then (steps-get m v c (s + 6) x first after kept.low_is) (steps-get m v c (s + 6) x second after kept.low_is)))
          (steps-unlike m v c (right_operator to) s a (pos n) w q second before after kept.operands (shr_mod to w n h (wrapped_in signed count (a *ℤ pos (2 ^ (n % 64)))) low)))
          (reaches-then (besides_for (are_wide_amounts right count) m v c s right to a n lost second before after refl ir low kept.operands)
          (reaches-then chosen (steps-settled m v c to (saturated to z) os after)))));
    }

sat-ends_by : (m : Module) (v : View) (c : Config) (s : ℕ) (left right to : IntTy) (a : ℤ) (n : ℕ) (os : List Num) (rest : List Instr) → IsStored left → IsStored right → IsStored to → holds to left ≡ true → n < 2 ^ 64 → IsIn left a → IsIn right (pos n) → HasScratch s c.frame.locals → EndsOn m v c s left right to a (pos n) os (wide_left_sat_code left right to s) rest (Ok (saturated to (a *ℤ power (pos n))))
sat-ends_by m v c s left right (Sized signed count) a n os rest hl hr ht e low il ir room =
    let to = Sized signed count in
    let before = c.frame.locals in
    let locals = with_operands s (pattern 64 a) (pattern 64 (pos n)) before in
    let has = has-operands s (pattern 64 a) (pattern 64 (pos n)) before room in
    subst (λ p. EndsOn m v c s left right to a (pos n) os (wide_left_sat_code left right to s) rest (Ok (saturated to (a *ℤ p)))) (sym (power_is (pos n) n refl))
    (spread-ends (Ok (saturated to (a *ℤ pos (2 ^ n)))) m v c s left right to a (pos n) os ((moved_left to s ++ LocalSet (s + 6) ∷ []) ++ (bound (is_unsigned left) to (s + 5) ++ ((LocalGet (s + 6) ∷ LocalGet (s + 6) ∷ unlike (right_operator to) s) ++ (far_besides right count s ++ (Select ∷ settled to))))) rest 32 (lit≤ tt) hl hr il ir room
    (sat-leaves m v c s left right signed count a n os before locals hl ht il (holds_in to left a e il) ir low has))
sat-ends_by m v c s left right Comptime a n os rest hl hr ht e low il ir room = absurd ht

pub wide_left_sat-ends : (m : Module) (v : View) (c : Config) (s : ℕ) (left right to : IntTy) (a b : ℤ) (os : List Num) (rest : List Instr) → IsStored left → IsStored right → IsStored to → holds to left ≡ true → is_unsigned right ≡ true → IsIn left a → IsIn right b → HasScratch s c.frame.locals → EndsOn m v c s left right to a b os (wide_left_sat_code left right to s) rest (Ok (saturated to (a *ℤ power b)))
wide_left_sat-ends m v c s left right to a b os rest hl hr ht e u il ir room =
    let n = natural right b hr ir u in
    subst (λ z. EndsOn m v c s left right to a z os (wide_left_sat_code left right to s) rest (Ok (saturated to (a *ℤ power z)))) (sym n.is)
    (sat-ends_by m v c s left right to a n.value os rest hl hr ht e n.small il (subst (IsIn right) n.is ir) room)
