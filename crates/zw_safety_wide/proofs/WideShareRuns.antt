-- What the code of quotients and rests does when it runs where a type has more than 32 bits.
use Rattle.std.proofs.Common.{◌≡◌, ℕ, zero, suc, ℤ, pos, negsuc, ◌+◌, ◌<◌, ◌≤◌, ◌+ℤ◌, ◌-ℤ◌, Bool, true, false, not, List, [], ◌∷◌, ◌++◌, Some, Result, Ok, Err, refl, sym, ap, ◌∙◌, subst, arith, lit≤, FitsSigned}
use Rattle.std.specs.Prelude.{nat_eq, int_lt, int_div, int_rem, unsigned_abs, bit_and, ◌&&◌, slice_get, slice_set, if◌then◌else◌}
use Rattle.std.proofs.lemmas.Int.{ints}
use Rattle.std.proofs.Math.Nat.{mod-le}
use Rattle.std.specs.Int.{w64}
use Rattle.std.specs.Ordering.{int_eq}
use Rattle.zw_num.proofs.DivisionLemmas.{is_across, rest_is}
use Rattle.zw_num.proofs.WrappedLemmas.{in_from_test}
use Rattle.zw_num.specs.Arithmetic.{IsIn, is_in, exact, least, pattern, divided, truncated, floored, rest_of, bits_xor, without_rest, exact_quotient}
use Rattle.zw_num.specs.declared.int_ty.IntTy.{IntTy}
use Rattle.zw_num.specs.declared.int_ty.IntTy.TheVariants.{Sized}
use Rattle.zw_num.specs.declared.num_fault.NumFault.{NumFault}
use Rattle.zw_num.specs.declared.num_fault.NumFault.TheVariants.{Overflow, Remainder}
use Rattle.zw_safety_narrow.proofs.BitRuns.{xor_bits}
use Rattle.zw_safety_narrow.proofs.Going.{Moves, moves-select, moves-tee}
use Rattle.zw_safety_narrow.proofs.NarrowRuns.{EndsOn}
use Rattle.zw_safety_narrow.proofs.Orders.{read, equal, not_equal}
use Rattle.zw_safety_narrow.proofs.Pieces.{having, Steps, steps-then, steps-get, steps-set, steps-long_const, steps-long, steps-word, steps-compare_long, steps-extend_u}
use Rattle.zw_safety_narrow.proofs.SaturatingRuns.{long_of_signed}
use Rattle.zw_safety_narrow.proofs.Words.{add_bits, sub_bits}
use Rattle.zw_safety_narrow.specs.Checked.{HasScratch, HasPanicState}
use Rattle.zw_safety_narrow.specs.Code.{if_panics}
use Rattle.zw_safety_narrow.specs.Operators.{IsStored}
use Rattle.zw_safety_wide.proofs.WideShares.{AreSigned, signed, naturals, natural_floor_is, is_lacking, lacking_quotient, lacking_floor, quotient_gives, remainder_gives, divides_signed, leaves_signed, rest_fits, across_is, xor_fits, floored_rest_for, floored_for}
use Rattle.zw_safety_wide.specs.WideSignedCode.{are_wide_shares, quotient_of, remainder_of, lacking, lacking_tested, shared, wide_quotient_code, wide_rest_code, across, floored_rest, floored_quotient, wide_modulo_code, wide_floor_code, left_tested, wide_exact_quotient_code}
use Rattle.zw_safety_words.proofs.WideAnswers.{Answers, LeavesValue, IsDivisor, divisor_from, divisor_below, answers-within, tested-answers, divided-ends}
use Rattle.zw_safety_words.proofs.WideBitRuns.{signed_fits, steps-both_got}
use Rattle.zw_safety_words.proofs.WideOrderRuns.{moved, bit-zero, chosen_long}
use Rattle.zw_safety_words.proofs.WideRuns.{Reaches, HasOperands, HasLow, has-low, reaches, reaches-then, steps-settled}
use Rattle.zw_safety_words.proofs.WideWords.{IsHeld, held, bit_bits}
use Rattle.zw_safety_words.specs.WideCode.{settled}
use Rattle.zw_safety_words.specs.WideOrderCode.{both_unsigned}
use Rattle.zw_session.specs.Causes.{integer_overflow}
use Rattle.zw_wasm.specs.declared.module.BinaryOperator.{BinaryOperator}
use Rattle.zw_wasm.specs.declared.module.BinaryOperator.TheVariants.{Add, Sub, And, Xor, DivS, DivU, RemS, RemU}
use Rattle.zw_wasm.specs.declared.module.Comparison.TheVariants.{Eq, Ne, LtS}
use Rattle.zw_wasm.specs.declared.module.Instr.{Instr}
use Rattle.zw_wasm.specs.declared.module.Instr.TheVariants.{LocalGet, I64Const, Compare, Binary, Select}
use Rattle.zw_wasm.specs.declared.module.Module.{Module}
use Rattle.zw_wasm.specs.declared.module.ValType.TheVariants as ty
use Rattle.zw_wasm.specs.declared.num.Num.{Num}
use Rattle.zw_wasm.specs.declared.num.Num.TheVariants.{I32, I64}
use Rattle.zw_wasm.specs.Numerics.{Gives, binary_of, bit_of}
use Rattle.zw_wasm.specs.Reduction.{Config}
use Rattle.zw_wasm.specs.Signature.{View}

-- ---- the operands, and an operator on both

-- values of the operands' types, which quotients and rests are served on
pub record AreShared (left right to : IntTy) (a b : ℤ) : Type 0 where
  pub left_stored : IsStored left
  pub right_stored : IsStored right
  pub to_stored : IsStored to
  pub left_in : IsIn left a
  pub right_in : IsIn right b
  pub served : are_wide_shares left right to ≡ true

pub steps-shared : (m : Module) (v : View) (c : Config) (o : BinaryOperator) (s : ℕ) (a b z : ℤ) (os before locals : List Num) → HasOperands s before locals (pattern 64 a) (pattern 64 b) → binary_of o w64 (pattern 64 a) (pattern 64 b) ≡ Gives (pattern 64 z) → Reaches m v c (shared o s) (having os locals) (having (I64 (pattern 64 z) ∷ os) locals) 3
steps-shared m v c o s a b z os before locals has gives =
    reaches (steps-then (steps-both_got m v c s (pattern 64 a) (pattern 64 b) os before locals has) (steps-long m v c o (pattern 64 a) (pattern 64 b) (pattern 64 z) os locals gives))

-- a piece that leaves a number of 64 bits, as a value of the result's type
settles : (m : Module) (v : View) (c : Config) (is : List Instr) (s : ℕ) (to : IntTy) (z : ℤ) (os before locals after : List Num) (x y : ℕ) (most : ℕ) → HasOperands s before after x y → Reaches m v c is (having os locals) (having (I64 (pattern 64 z) ∷ os) after) most → LeavesValue m v c (is ++ settled to) s to z os before locals (most + 1)
settles m v c is s to z os before locals after x y most has runs = record { after = after; keeps = has.kept; runs = reaches-then runs (steps-settled m v c to z os after) }

shared-leaves : (m : Module) (v : View) (c : Config) (o : BinaryOperator) (s : ℕ) (to : IntTy) (a b z : ℤ) (os before locals : List Num) → HasOperands s before locals (pattern 64 a) (pattern 64 b) → binary_of o w64 (pattern 64 a) (pattern 64 b) ≡ Gives (pattern 64 z) → LeavesValue m v c (shared o s ++ settled to) s to z os before locals 4
shared-leaves m v c o s to a b z os before locals has gives =
    settles m v c (shared o s) s to z os before locals locals (pattern 64 a) (pattern 64 b) 3 has (steps-shared m v c o s a b z os before locals has gives)

-- ---- the quotient that the type lacks

pub and_bit : (p q : Bool) → bit_and (bit_of p) (bit_of q) ≡ bit_of (p && q)
and_bit true true = refl
and_bit true false = refl
and_bit false true = refl
and_bit false false = refl

minus_fits : FitsSigned w64 (negsuc 0)
minus_fits = record { sfits = omega arith }

zero_fits : FitsSigned w64 (pos 0)
zero_fits = record { sfits = omega arith }

least_fits : (count : ℕ) → 0 < count → count ≤ 64 → FitsSigned w64 (least (Sized true count))
least_fits count h few = signed_fits count (least (Sized true count)) few (record { at_least = omega (arith, ints); at_most = omega (arith, ints) })

-- whether a local is a number
steps-is : (m : Module) (v : View) (c : Config) (n : ℕ) (x z : ℤ) (os locals : List Num) → FitsSigned w64 x → FitsSigned w64 z → slice_get locals n ≡ Some (I64 (pattern 64 x)) → Steps m v c (LocalGet n ∷ I64Const z ∷ Compare ty.I64 Eq ∷ []) (having os locals) (having (I32 (bit_of (int_eq x z)) ∷ os) locals) 3
steps-is m v c n x z os locals fx fz there =
    let constant = subst (λ k. Steps m v c (I64Const z ∷ []) (having (I64 (pattern 64 x) ∷ os) locals) (having (I64 k ∷ I64 (pattern 64 x) ∷ os) locals) 1) (long_of_signed z fz) (steps-long_const m v c z (I64 (pattern 64 x) ∷ os) locals) in
    steps-then (steps-get m v c n (I64 (pattern 64 x)) os locals there)
    (steps-then constant (steps-compare_long m v c Eq (pattern 64 x) (pattern 64 z) (int_eq x z) os locals (equal.by_sign w64 x z fx fz)))

steps-lacking : (m : Module) (v : View) (c : Config) (s count : ℕ) (a b : ℤ) (os before locals : List Num) → 0 < count → count ≤ 64 → FitsSigned w64 a → FitsSigned w64 b → HasOperands s before locals (pattern 64 a) (pattern 64 b) → Reaches m v c (lacking (Sized true count) s) (having os locals) (having (I32 (bit_of (is_lacking (Sized true count) a b)) ∷ os) locals) 7
steps-lacking m v c s count a b os before locals h few fa fb has =
    let p = int_eq a (least (Sized true count)) in
    let q = int_eq b (negsuc 0) in
    reaches (steps-then (steps-is m v c (s + 5) a (least (Sized true count)) os locals fa (least_fits count h few) has.left)
    (steps-then (steps-is m v c (s + 4) b (negsuc 0) (I32 (bit_of p) ∷ os) locals fb minus_fits has.right)
    (steps-word m v c And (bit_of p) (bit_of q) (bit_of (p && q)) os locals (ap (λ n. Gives n) (and_bit p q)))))

pub turned_if : {X : Type 0} (t : Bool) (x y : X) → (if not t then y else x) ≡ (if t then x else y)
turned_if true x y = refl
turned_if false x y = refl

pub not_false : (t : Bool) → not t ≡ false → t ≡ true
not_false true e = refl
not_false false e = absurd (cc)

lacking_for : (u : Bool) (r : Result ℤ NumFault) (m : Module) (v : View) (c : Config) (s : ℕ) (left right to : IntTy) (a b z : ℤ) (js : List Instr) (os before locals : List Num) (most : ℕ) → both_unsigned left right ≡ u → AreShared left right to a b → HasPanicState c.world.store → HasOperands s before locals (pattern 64 a) (pattern 64 b) → 8 ≤ most →
    (u ≡ true → is_in to z ≡ true) → (AreSigned left right to a b → is_lacking to a b ≡ not (is_in to z)) → (is_in to z ≡ true → Answers m v c js s to r os before locals most) → Answers m v c ((if u then [] else lacking to s ++ if_panics integer_overflow) ++ js) s to (if is_in to z then r else Err Overflow) os before locals (8 + most)
lacking_for true r m v c s left right to a b z js os before locals most u h state has more there lacks piece =
    let yes = there refl in
    subst (λ t. Answers m v c js s to (if t then r else Err Overflow) os before locals (8 + most)) (sym yes) (answers-within r m v c js s to os before locals most (8 + most) (omega arith) (piece yes))
lacking_for false r m v c s left right to a b z js os before locals most u h state has more there lacks piece =
    let n = signed left right to a b h.left_stored h.right_stored h.left_in h.right_in h.served u in
    let test = subst (λ t. Reaches m v c (lacking t s) (having os locals) (having (I32 (bit_of (is_lacking t a b)) ∷ os) locals) 7) (sym n.is)
    (steps-lacking m v c s n.count a b os before locals n.some (subst IsStored n.is h.to_stored) n.left_fits n.right_fits has) in
    let found = subst (λ t. Reaches m v c (lacking to s) (having os locals) (having (I32 (bit_of t) ∷ os) locals) 7) (lacks n) test in
    subst (λ q. Answers m v c ((lacking to s ++ if_panics integer_overflow) ++ js) s to q os before locals (8 + most)) (turned_if (is_in to z) r (Err Overflow))
    (tested-answers (not (is_in to z)) r m v c (lacking to s) js s to Overflow os before locals locals 7 most state found (λ e. piece (not_false (is_in to z) e)) more)

lacks_quotient : (left right to : IntTy) (a b : ℤ) → AreSigned left right to a b → is_lacking to a b ≡ not (is_in to (int_div a b))
lacks_quotient left right to a b n = subst (λ t. is_lacking t a b ≡ not (is_in t (int_div a b))) (sym n.is) (lacking_quotient n.count a b n.some n.left_in)

lacks_floor : (left right to : IntTy) (a b : ℤ) → AreSigned left right to a b → is_lacking to a b ≡ not (is_in to (floored a b))
lacks_floor left right to a b n = subst (λ t. is_lacking t a b ≡ not (is_in t (floored a b))) (sym n.is) (lacking_floor n.count a b n.some n.left_in)

natural_in : (left right to : IntTy) (a b : ℤ) → AreShared left right to a b → both_unsigned left right ≡ true → is_in to (int_div a b) ≡ true
natural_in left right to a b h u = (naturals left right to a b h.left_stored h.right_stored h.left_in h.right_in h.served u).quotient_in

natural_floor_in : (left right to : IntTy) (a b : ℤ) → AreShared left right to a b → both_unsigned left right ≡ true → is_in to (floored a b) ≡ true
natural_floor_in left right to a b h u =
    let n = naturals left right to a b h.left_stored h.right_stored h.left_in h.right_in h.served u in
    sym (ap (is_in to) (natural_floor_is left right to a b n)) ∙ n.quotient_in

gives-quotient : (left right to : IntTy) (a b : ℤ) → AreShared left right to a b → is_in to (int_div a b) ≡ true → IsDivisor b → binary_of (quotient_of left right) w64 (pattern 64 a) (pattern 64 b) ≡ Gives (pattern 64 (int_div a b))
gives-quotient left right to a b h there d = quotient_gives left right to a b h.left_stored h.right_stored h.to_stored h.left_in h.right_in h.served there d

gives-rest : (left right to : IntTy) (a b : ℤ) → AreShared left right to a b → IsDivisor b → binary_of (remainder_of left right) w64 (pattern 64 a) (pattern 64 b) ≡ Gives (pattern 64 (int_rem a b))
gives-rest left right to a b h d = remainder_gives left right to a b h.left_stored h.right_stored h.left_in h.right_in h.served d

-- ---- whole codes

pub wide_quotient-ends : (m : Module) (v : View) (c : Config) (s : ℕ) (left right to : IntTy) (a b : ℤ) (os : List Num) (rest : List Instr) → AreShared left right to a b → HasScratch s c.frame.locals → HasPanicState c.world.store → EndsOn m v c s left right to a b os (wide_quotient_code left right to s) rest (divided b (exact to (truncated a b)))
wide_quotient-ends m v c s left right to a b os rest h room state =
    let z = int_div a b in
    let js = shared (quotient_of left right) s ++ settled to in
    divided-ends (exact to z) m v c s left right to a b os (lacking_tested left right to s ++ js) rest 16 (lit≤ tt) (lit≤ tt) h.left_stored h.right_stored h.left_in h.right_in room state
    (λ locals has d. lacking_for (both_unsigned left right) (Ok z) m v c s left right to a b z js os c.frame.locals locals 8 refl h state has (lit≤ tt)
    (natural_in left right to a b h) (lacks_quotient left right to a b)
    (λ there. answers-within (Ok z) m v c js s to os c.frame.locals locals 4 8 (lit≤ tt) (shared-leaves m v c (quotient_of left right) s to a b z os c.frame.locals locals has (gives-quotient left right to a b h there d))))

pub wide_rest-ends : (m : Module) (v : View) (c : Config) (s : ℕ) (left right to : IntTy) (a b : ℤ) (os : List Num) (rest : List Instr) → AreShared left right to a b → HasScratch s c.frame.locals → HasPanicState c.world.store → EndsOn m v c s left right to a b os (wide_rest_code left right to s) rest (divided b (Ok (rest_of a b (truncated a b))))
wide_rest-ends m v c s left right to a b os rest h room state =
    let z = int_rem a b in
    let js = shared (remainder_of left right) s ++ settled to in
    subst (λ z. EndsOn m v c s left right to a b os (wide_rest_code left right to s) rest (divided b (Ok z))) (sym (rest_is a b))
    (divided-ends (Ok z) m v c s left right to a b os js rest 8 (lit≤ tt) (lit≤ tt) h.left_stored h.right_stored h.left_in h.right_in room state
    (λ locals has d. answers-within (Ok z) m v c js s to os c.frame.locals locals 4 8 (lit≤ tt) (shared-leaves m v c (remainder_of left right) s to a b z os c.frame.locals locals has (gives-rest left right to a b h d))))

-- ---- rounded down

steps-across : (m : Module) (v : View) (c : Config) (s x : ℕ) (r b : ℤ) (os before locals : List Num) → FitsSigned w64 r → FitsSigned w64 b → (b ≡ pos 0 → ⊥) → HasLow s before locals x (pattern 64 b) (pattern 64 r) → Reaches m v c (across s) (having os locals) (having (I32 (bit_of (is_across r b)) ∷ os) locals) 9
steps-across m v c s x r b os before locals fr fb n has =
    let i = pattern 64 r in
    let j = pattern 64 b in
    let z = bits_xor r b in
    let p = int_lt z (pos 0) in
    let q = not (int_eq r (pos 0)) in
    subst (λ t. Reaches m v c (across s) (having os locals) (having (I32 (bit_of t) ∷ os) locals) 9) (across_is r b n)
    (reaches (steps-then (steps-get m v c (s + 6) (I64 i) os locals has.low_is)
    (steps-then (steps-get m v c (s + 4) (I64 j) (I64 i ∷ os) locals has.operands.right)
    (steps-then (steps-long m v c Xor i j (pattern 64 z) os locals (ap (λ n. Gives n) (xor_bits w64 r b)))
    (steps-then (steps-long_const m v c (pos 0) (I64 (pattern 64 z) ∷ os) locals)
    (steps-then (steps-compare_long m v c LtS (pattern 64 z) 0 p os locals (ap (λ y. int_lt y (pos 0)) (read w64 z (xor_fits r b fr fb))))
    (steps-then (steps-get m v c (s + 6) (I64 i) (I32 (bit_of p) ∷ os) locals has.low_is)
    (steps-then (steps-long_const m v c (pos 0) (I64 i ∷ I32 (bit_of p) ∷ os) locals)
    (steps-then (steps-compare_long m v c Ne i 0 q (I32 (bit_of p) ∷ os) locals (not_equal.by_sign w64 r (pos 0) fr zero_fits))
    (steps-word m v c And (bit_of p) (bit_of q) (bit_of (p && q)) os locals (ap (λ n. Gives n) (and_bit p q))))))))))))

-- the rest in its local
pub record HasRest (m : Module) (v : View) (c : Config) (is : List Instr) (s : ℕ) (a b : ℤ) (from to before locals : List Num) (most : ℕ) : Type 0 where
  pub after : List Num
  pub has : HasLow s before after (pattern 64 a) (pattern 64 b) (pattern 64 (int_rem a b))
  pub runs : Reaches m v c is (having from locals) (having to after) most

room_low : (s x y : ℕ) (before locals : List Num) → HasOperands s before locals x y → HasScratch s locals
room_low s x y before locals has = has.room

steps-floored_rest : (m : Module) (v : View) (c : Config) (s : ℕ) (a b : ℤ) (os before locals : List Num) → FitsSigned w64 a → FitsSigned w64 b → IsDivisor b → HasOperands s before locals (pattern 64 a) (pattern 64 b) → HasRest m v c (floored_rest s) s a b os (I64 (pattern 64 (rest_of a b (floored a b))) ∷ os) before locals 17
steps-floored_rest m v c s a b os before locals fa fb d has =
    let r = int_rem a b in
    let t = is_across r b in
    let i = I64 (pattern 64 r) in
    let j = I64 (pattern 64 b) in
    let sum = I64 (pattern 64 (r +ℤ b)) in
    let after = slice_set locals (s + 6) i in
    let low = has-low s (pattern 64 a) (pattern 64 b) (pattern 64 r) before locals has in
    let room = has.room in
    let chosen = subst (λ n. Moves m v c (Select ∷ []) (having (I32 (bit_of t) ∷ i ∷ sum ∷ os) after) (having (n ∷ os) after) 1) (chosen_long t (r +ℤ b) r ∙ ap (λ z. I64 (pattern 64 z)) (floored_rest_for t a b d.some refl))
    (moves-select m v c (bit_of t) (not t) sum i os after (bit-zero t)) in
    record {
      after = after;
      has = low;
      runs = reaches-then (reaches-then (steps-shared m v c RemS s a b r os before locals has (leaves_signed a b fa fb d))
          (reaches-then (moved (moves-tee m v c (s + 6) i os locals (omega (arith, room))))
          (reaches (steps-then (steps-get m v c (s + 4) j (i ∷ os) after low.operands.right)
          (steps-then (steps-long m v c Add (pattern 64 r) (pattern 64 b) (pattern 64 (r +ℤ b)) os after (ap (λ n. Gives n) (add_bits w64 r b)))
          (steps-get m v c (s + 6) i (sum ∷ os) after low.low_is))))))
          (reaches-then (steps-across m v c s (pattern 64 a) r b (i ∷ sum ∷ os) before after (rest_fits a b fa) fb d.some low) (moved chosen));
    }

bit_number : (t : Bool) → pos (bit_of t) ≡ (if t then pos 1 else pos 0)
bit_number true = refl
bit_number false = refl

steps-floored_quotient : (m : Module) (v : View) (c : Config) (s : ℕ) (a b : ℤ) (os before locals : List Num) → FitsSigned w64 a → FitsSigned w64 b → FitsSigned w64 (int_div a b) → IsDivisor b → HasOperands s before locals (pattern 64 a) (pattern 64 b) → HasRest m v c (floored_quotient s) s a b os (I64 (pattern 64 (floored a b)) ∷ os) before locals 18
steps-floored_quotient m v c s a b os before locals fa fb fq d has =
    let r = int_rem a b in
    let q = int_div a b in
    let t = is_across r b in
    let i = I64 (pattern 64 r) in
    let one = pos (bit_of t) in
    let after = slice_set locals (s + 6) i in
    let low = has-low s (pattern 64 a) (pattern 64 b) (pattern 64 r) before locals has in
    let room = has.room in
    let less = subst (λ z. Steps m v c (Binary ty.I64 Sub ∷ []) (having (I64 (pattern 64 one) ∷ I64 (pattern 64 q) ∷ os) after) (having (I64 (pattern 64 z) ∷ os) after) 1)
    (ap (λ x. q -ℤ x) (bit_number t) ∙ floored_for t a b d.some refl) (steps-long m v c Sub (pattern 64 q) (pattern 64 one) (pattern 64 (q -ℤ one)) os after (ap (λ n. Gives n) (sub_bits w64 q one))) in
    record {
      after = after;
      has = low;
      runs = reaches-then (reaches-then (steps-shared m v c RemS s a b r os before locals has (leaves_signed a b fa fb d)) (reaches (steps-set m v c (s + 6) i os locals (omega (arith, room)))))
          (reaches-then (steps-shared m v c DivS s a b q os before after low.operands (divides_signed a b fa fb fq d))
          (reaches-then (steps-across m v c s (pattern 64 a) r b (I64 (pattern 64 q) ∷ os) before after (rest_fits a b fa) fb d.some low)
          (reaches (steps-then (steps-extend_u m v c (bit_of t) (pattern 64 one) (I64 (pattern 64 q) ∷ os) after (bit_bits t)) less))));
    }

modulo_for : (u : Bool) (m : Module) (v : View) (c : Config) (s : ℕ) (left right to : IntTy) (a b : ℤ) (os before locals : List Num) → both_unsigned left right ≡ u → AreShared left right to a b → IsDivisor b → HasOperands s before locals (pattern 64 a) (pattern 64 b) → LeavesValue m v c ((if u then shared RemU s else floored_rest s) ++ settled to) s to (rest_of a b (floored a b)) os before locals 18
modulo_for true m v c s left right to a b os before locals u h d has =
    let n = naturals left right to a b h.left_stored h.right_stored h.left_in h.right_in h.served u in
    let same : int_rem a b ≡ rest_of a b (floored a b) = sym (rest_is a b) ∙ ap (rest_of a b) (natural_floor_is left right to a b n) in
    let gives = subst (λ o. binary_of o w64 (pattern 64 a) (pattern 64 b) ≡ Gives (pattern 64 (int_rem a b))) (ap (λ t. if t then RemU else RemS) u) (gives-rest left right to a b h d) in
    subst (λ z. LeavesValue m v c (shared RemU s ++ settled to) s to z os before locals 18) same
    (answers-within (Ok (int_rem a b)) m v c (shared RemU s ++ settled to) s to os before locals 4 18 (lit≤ tt) (shared-leaves m v c RemU s to a b (int_rem a b) os before locals has gives))
modulo_for false m v c s left right to a b os before locals u h d has =
    let n = signed left right to a b h.left_stored h.right_stored h.left_in h.right_in h.served u in
    let piece = steps-floored_rest m v c s a b os before locals n.left_fits n.right_fits d has in
    settles m v c (floored_rest s) s to (rest_of a b (floored a b)) os before locals piece.after (pattern 64 a) (pattern 64 b) 17 piece.has.operands piece.runs

pub wide_modulo-ends : (m : Module) (v : View) (c : Config) (s : ℕ) (left right to : IntTy) (a b : ℤ) (os : List Num) (rest : List Instr) → AreShared left right to a b → HasScratch s c.frame.locals → HasPanicState c.world.store → EndsOn m v c s left right to a b os (wide_modulo_code left right to s) rest (divided b (Ok (rest_of a b (floored a b))))
wide_modulo-ends m v c s left right to a b os rest h room state =
    let z = rest_of a b (floored a b) in
    let js = (if both_unsigned left right then shared RemU s else floored_rest s) ++ settled to in
    divided-ends (Ok z) m v c s left right to a b os js rest 18 (lit≤ tt) (lit≤ tt) h.left_stored h.right_stored h.left_in h.right_in room state
    (λ locals has d. modulo_for (both_unsigned left right) m v c s left right to a b os c.frame.locals locals refl h d has)

quotient_fits : (left right to : IntTy) (a b : ℤ) → AreShared left right to a b → AreSigned left right to a b → is_in to (floored a b) ≡ true → FitsSigned w64 (int_div a b)
quotient_fits left right to a b h n there =
    let lacks = sym (lacks_quotient left right to a b n) ∙ (lacks_floor left right to a b n ∙ ap not there) in
    let inside = in_from_test to (int_div a b) (not_false (is_in to (int_div a b)) lacks) in
    signed_fits n.count (int_div a b) (subst IsStored n.is h.to_stored) (subst (λ t. IsIn t (int_div a b)) n.is inside)

floor_for : (u : Bool) (m : Module) (v : View) (c : Config) (s : ℕ) (left right to : IntTy) (a b : ℤ) (os before locals : List Num) → both_unsigned left right ≡ u → AreShared left right to a b → IsDivisor b → is_in to (floored a b) ≡ true → HasOperands s before locals (pattern 64 a) (pattern 64 b) → LeavesValue m v c ((if u then shared DivU s else floored_quotient s) ++ settled to) s to (floored a b) os before locals 19
floor_for true m v c s left right to a b os before locals u h d there has =
    let n = naturals left right to a b h.left_stored h.right_stored h.left_in h.right_in h.served u in
    let gives = subst (λ o. binary_of o w64 (pattern 64 a) (pattern 64 b) ≡ Gives (pattern 64 (int_div a b))) (ap (λ t. if t then DivU else DivS) u) (gives-quotient left right to a b h n.quotient_in d) in
    subst (λ z. LeavesValue m v c (shared DivU s ++ settled to) s to z os before locals 19) (natural_floor_is left right to a b n)
    (answers-within (Ok (int_div a b)) m v c (shared DivU s ++ settled to) s to os before locals 4 19 (lit≤ tt) (shared-leaves m v c DivU s to a b (int_div a b) os before locals has gives))
floor_for false m v c s left right to a b os before locals u h d there has =
    let n = signed left right to a b h.left_stored h.right_stored h.left_in h.right_in h.served u in
    let piece = steps-floored_quotient m v c s a b os before locals n.left_fits n.right_fits (quotient_fits left right to a b h n there) d has in
    settles m v c (floored_quotient s) s to (floored a b) os before locals piece.after (pattern 64 a) (pattern 64 b) 18 piece.has.operands piece.runs

pub wide_floor-ends : (m : Module) (v : View) (c : Config) (s : ℕ) (left right to : IntTy) (a b : ℤ) (os : List Num) (rest : List Instr) → AreShared left right to a b → HasScratch s c.frame.locals → HasPanicState c.world.store → EndsOn m v c s left right to a b os (wide_floor_code left right to s) rest (divided b (exact to (floored a b)))
wide_floor-ends m v c s left right to a b os rest h room state =
    let z = floored a b in
    let js = (if both_unsigned left right then shared DivU s else floored_quotient s) ++ settled to in
    divided-ends (exact to z) m v c s left right to a b os (lacking_tested left right to s ++ js) rest 27 (lit≤ tt) (lit≤ tt) h.left_stored h.right_stored h.left_in h.right_in room state
    (λ locals has d. lacking_for (both_unsigned left right) (Ok z) m v c s left right to a b z js os c.frame.locals locals 19 refl h state has (lit≤ tt)
    (natural_floor_in left right to a b h) (lacks_floor left right to a b)
    (λ there. floor_for (both_unsigned left right) m v c s left right to a b os c.frame.locals locals refl h d there has))

-- ---- exact quotients

rest_held : (a b : ℤ) → IsHeld a → IsHeld (int_rem a b)
rest_held (pos a) b h = let less = mod-le a (unsigned_abs b) in record { low = omega (arith, ints); high = omega (arith, ints, less, h.high) }
rest_held (negsuc a) b h = let less = mod-le (suc a) (unsigned_abs b) in record { low = omega (arith, ints, less, h.low); high = omega (arith, ints) }

-- whether nothing is left, by the bits
without_by : (r : ℤ) (answer : Result ℤ NumFault) → IsHeld r → (if not (nat_eq (pattern 64 r) 0) then Err Remainder else answer) ≡ without_rest r Remainder answer
without_by (pos zero) answer h = refl
without_by (pos (suc n)) answer h = ap (λ t. if not t then Err Remainder else answer) (divisor_from n h).long
without_by (negsuc n) answer h = ap (λ t. if not t then Err Remainder else answer) (divisor_below n h).long

without_is : (a b : ℤ) (answer : Result ℤ NumFault) → IsHeld a → (if not (nat_eq (pattern 64 (int_rem a b)) 0) then Err Remainder else answer) ≡ without_rest (rest_of a b (truncated a b)) Remainder answer
without_is a b answer h = without_by (int_rem a b) answer (rest_held a b h) ∙ ap (λ z. without_rest z Remainder answer) (sym (rest_is a b))

left-answers : (m : Module) (v : View) (c : Config) (s : ℕ) (left right to : IntTy) (a b : ℤ) (os before locals : List Num) → AreShared left right to a b → HasPanicState c.world.store → IsDivisor b → is_in to (int_div a b) ≡ true → HasOperands s before locals (pattern 64 a) (pattern 64 b) →
    Answers m v c (left_tested (remainder_of left right) s ++ (shared (quotient_of left right) s ++ settled to)) s to (without_rest (rest_of a b (truncated a b)) Remainder (Ok (truncated a b))) os before locals 14
left-answers m v c s left right to a b os before locals h state d there has =
    let z = int_div a b in
    let r = pattern 64 (int_rem a b) in
    let t = not (nat_eq r 0) in
    let js = shared (quotient_of left right) s ++ settled to in
    let test = reaches-then (steps-shared m v c (remainder_of left right) s a b (int_rem a b) os before locals has (gives-rest left right to a b h d))
    (reaches (steps-then (steps-long_const m v c (pos 0) (I64 r ∷ os) locals) (steps-compare_long m v c Ne r 0 t os locals refl))) in
    subst (λ q. Answers m v c (left_tested (remainder_of left right) s ++ js) s to q os before locals 14) (without_is a b (Ok z) (held left a h.left_stored h.left_in))
    (tested-answers t (Ok z) m v c (shared (remainder_of left right) s ++ I64Const (pos 0) ∷ Compare ty.I64 Ne ∷ []) js s to Remainder os before locals locals 5 8 state test
    (λ e. answers-within (Ok z) m v c js s to os before locals 4 8 (lit≤ tt) (shared-leaves m v c (quotient_of left right) s to a b z os before locals has (gives-quotient left right to a b h there d))) (lit≤ tt))

pub wide_exact_quotient-ends : (m : Module) (v : View) (c : Config) (s : ℕ) (left right to : IntTy) (a b : ℤ) (os : List Num) (rest : List Instr) → AreShared left right to a b → HasScratch s c.frame.locals → HasPanicState c.world.store → EndsOn m v c s left right to a b os (wide_exact_quotient_code left right to s) rest (divided b (exact_quotient to a b))
wide_exact_quotient-ends m v c s left right to a b os rest h room state =
    let z = int_div a b in
    let r = without_rest (rest_of a b (truncated a b)) Remainder (Ok (truncated a b)) in
    let js = left_tested (remainder_of left right) s ++ (shared (quotient_of left right) s ++ settled to) in
    divided-ends (exact_quotient to a b) m v c s left right to a b os (lacking_tested left right to s ++ js) rest 22 (lit≤ tt) (lit≤ tt) h.left_stored h.right_stored h.left_in h.right_in room state
    (λ locals has d. lacking_for (both_unsigned left right) r m v c s left right to a b z js os c.frame.locals locals 14 refl h state has (lit≤ tt)
    (natural_in left right to a b h) (lacks_quotient left right to a b)
    (λ there. left-answers m v c s left right to a b os c.frame.locals locals h state d there has))
