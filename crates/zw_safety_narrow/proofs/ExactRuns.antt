-- What the code of exact divisions and shifts does when it runs.
use Rattle.std.proofs.Common.{◌≡◌, ℕ, zero, suc, ℤ, pos, negsuc, ◌+◌, ◌*◌, ◌%◌, ◌^◌, ◌<◌, ◌≤◌, ◌+ℤ◌, ◌*ℤ◌, ◌≤ℤ◌, ◌<ℤ◌, Bool, true, false, not, List, [], ◌∷◌, ◌++◌, length, Some, Ok, Err, refl, sym, ap, ◌∙◌, subst, arith, lit≤, lit<}
use Rattle.std.specs.Prelude.{nat_eq, int_div, int_rem, unsigned_abs, slice_get, slice_set, ◌&&◌, if◌then◌else◌}
use Rattle.std.proofs.lemmas.Bool.{both_ways}
use Rattle.std.proofs.lemmas.Bool.Decides.{Decides-eqb}
use Rattle.std.proofs.lemmas.Int.{ints}
use Rattle.std.proofs.lemmas.Nat.{pow_below, pow_pos}
use Rattle.std.proofs.Math.IntN.{*ℤ_comm}
use Rattle.std.proofs.Math.Nat.{mod-eq_of_lt}
use Rattle.std.specs.Int.{w64}
use Rattle.zw_num.proofs.DivisionLemmas.{whole, broken, too_large, floored_law}
use Rattle.zw_num.proofs.ShiftLemmas.{power_is, drops_none, drops_some}
use Rattle.zw_num.specs.Arithmetic.{IsIn, is_in, divided, exact_quotient, floored, none_dropped, none_lost, pattern, power, rest_of, shifted}
use Rattle.zw_num.specs.declared.int_ty.IntTy.{IntTy}
use Rattle.zw_num.specs.declared.int_ty.IntTy.TheVariants.{Sized, Comptime}
use Rattle.zw_num.specs.declared.num_fault.NumFault.{NumFault}
use Rattle.zw_num.specs.declared.num_fault.NumFault.TheVariants.{Overflow, Remainder, ShiftAmount, ShiftBits}
use Rattle.zw_safety_narrow.proofs.CastRuns.{word, few-moves, zero_is}
use Rattle.zw_safety_narrow.proofs.DivisionRuns.{IsDivisor, by_zero, divides_long, divides_word, divisor-checks, divisor_below, divisor_from, exact_computes_or, leaves_long, leaves_word, quotient_in_type, quotient_long}
use Rattle.zw_safety_narrow.proofs.FloorRuns.{both_locals, both_locals-keep, both_locals-right, moves-both, rest_low}
use Rattle.zw_safety_narrow.proofs.Going.{Breaks, Moves, moves, breaks, andthen, behind, before, moves-tee, panics}
use Rattle.zw_safety_narrow.proofs.Locals.{slice_get-set_same, slice_get-set_other, keeps-set}
use Rattle.zw_safety_narrow.proofs.NarrowRuns.{EndsOn, above-few, in_range-passes, in_range-fails, on_words}
use Rattle.zw_safety_narrow.proofs.OrderRuns.{Leads, ends_with, has-scratch, kept_words, kept_words-keep, kept_words-left, kept_words-right, leads-then, moves-doubled, words}
use Rattle.zw_safety_narrow.proofs.Orders.{IsNatural, fits_long, natural}
use Rattle.zw_safety_narrow.proofs.Pieces.{having, fails-panics, fails-panics_at, steps-compare_word, steps-get, steps-long, steps-passed, steps-word, steps-wrap}
use Rattle.zw_safety_narrow.proofs.ShiftRuns.{IsAmount, amount-checks, amount_is, in_width, shl_bits, shr_bits}
use Rattle.zw_safety_narrow.proofs.WordRuns.{both-true}
use Rattle.zw_safety_narrow.proofs.Words.{IsLong, IsWord, long_product, mul_bits, word-narrow, wrap_long}
use Rattle.zw_safety_narrow.specs.CastCode.{holds}
use Rattle.zw_safety_narrow.specs.Checked.{HasPanicState, HasScratch, KeepsOthers}
use Rattle.zw_safety_narrow.specs.Code.{if_panics}
use Rattle.zw_safety_narrow.specs.CompareCode.{doubled, is_unsigned}
use Rattle.zw_safety_narrow.specs.DivisionCode.{are_unsigned, divisor_tested}
use Rattle.zw_safety_narrow.specs.ExactCode.{exact_short, kept_quotient, no_rest, quotient_word, exact_long, exact_quotient_code, left_exact_code, none_dropped_code, right_exact_code}
use Rattle.zw_safety_narrow.specs.FloorCode.{both_kept}
use Rattle.zw_safety_narrow.specs.NarrowCode.{exact_code_or}
use Rattle.zw_safety_narrow.specs.Operators.{IsNarrow, cause_of}
use Rattle.zw_safety_narrow.specs.ShiftCode.{amount_tested, right_operator}
use Rattle.zw_session.specs.Causes.{integer_overflow}
use Rattle.zw_wasm.specs.declared.module.BinaryOperator.TheVariants.{DivS, DivU, RemS, RemU, Shl}
use Rattle.zw_wasm.specs.declared.module.Comparison.TheVariants.{Ne}
use Rattle.zw_wasm.specs.declared.module.Instr.{Instr}
use Rattle.zw_wasm.specs.declared.module.Conversion.TheVariants.{Wrap}
use Rattle.zw_wasm.specs.declared.module.Instr.TheVariants.{LocalGet, Binary, Compare, Convert}
use Rattle.zw_wasm.specs.declared.module.Module.{Module}
use Rattle.zw_wasm.specs.declared.module.ValType.TheVariants as ty
use Rattle.zw_wasm.specs.declared.num.Num.{Num}
use Rattle.zw_wasm.specs.declared.num.Num.TheVariants.{I32, I64}
use Rattle.zw_wasm.specs.Numerics.{Gives, binary_of, bit_of}
use Rattle.zw_wasm.specs.Reduction.{Config}
use Rattle.zw_wasm.specs.Signature.{View}

-- ---- behind a test that leaves the operands

front_leads : (m : Module) (v : View) (c : Config) (s : ℕ) (left right to : IntTy) (a b z : ℤ) (os : List Num) (front is rest : List Instr) → IsNarrow left → IsNarrow right → IsNarrow to → (first : Leads m v c front s (words a b os) (words a b os) c.frame.locals 13) → Leads m v c is s (words a b os) (word z os) first.after 60 → EndsOn m v c s left right to a b os (front ++ is) rest (Ok z)
front_leads m v c s left right to a b z os front is rest hl hr ht first second =
    ends_with m v c s left right to a b z os (front ++ is) rest (pattern 32 z) 73 hl hr ht (lit≤ tt) refl (leads-then first second)

front_breaks : (m : Module) (v : View) (c : Config) (s : ℕ) (left right to : IntTy) (a b : ℤ) (os : List Num) (front is rest : List Instr) (fault : NumFault) → IsNarrow left → IsNarrow right → (first : Leads m v c front s (words a b os) (words a b os) c.frame.locals 13) → Breaks m v c is (having (words a b os) first.after) (cause_of fault) 60 → EndsOn m v c s left right to a b os (front ++ is) rest (Err fault)
front_breaks m v c s left right to a b os front is rest fault hl hr first second =
    on_words m v c s left right to a b os (front ++ is) rest (Err fault) hl hr (panics m v c s to fault (words a b os) os (front ++ is) rest 73 (lit≤ tt) (behind first.runs second))

front_fails : (m : Module) (v : View) (c : Config) (s : ℕ) (left right to : IntTy) (a b : ℤ) (os : List Num) (front is rest : List Instr) (fault : NumFault) → IsNarrow left → IsNarrow right → Breaks m v c front (having (words a b os) c.frame.locals) (cause_of fault) 13 → EndsOn m v c s left right to a b os (front ++ is) rest (Err fault)
front_fails m v c s left right to a b os front is rest fault hl hr first =
    on_words m v c s left right to a b os (front ++ is) rest (Err fault) hl hr (panics m v c s to fault (words a b os) os (front ++ is) rest 13 (lit≤ tt) (before first is))

few-breaks : {m : Module} {v : View} {c : Config} {is : List Instr} {locals os : List Num} {cause few : ℕ} (most : ℕ) → few ≤ most → Breaks m v c is (having os locals) cause few → Breaks m v c is (having os locals) cause most
few-breaks {m} {v} {c} {is} {locals} {os} {cause} {few} most h broken = record { count = broken.count; few = omega (arith, h, broken.few); fails = broken.fails }

few-leads : {m : Module} {v : View} {c : Config} {is : List Instr} {s : ℕ} {from to locals : List Num} {few : ℕ} (most : ℕ) → few ≤ most → Leads m v c is s from to locals few → Leads m v c is s from to locals most
few-leads {m} {v} {c} {is} {s} {from} {to} {locals} {few} most h piece = record { after = piece.after; keeps = piece.keeps; runs = few-moves most h piece.runs }

-- ---- to the left

pub shl_wide : (a : ℤ) (k : ℕ) → k < 64 → binary_of Shl w64 (pattern 64 a) (pattern 64 (pos k)) ≡ Gives (pattern 64 (a *ℤ pos (2 ^ k)))
shl_wide a k h =
    let low : pattern 64 (pos k) % 64 ≡ k = omega (arith, h) in
    let same : pattern 64 (pos (2 ^ k)) ≡ 2 ^ k = mod-eq_of_lt (pow_below k 64 h) in
    ap (λ n. Gives ((pattern 64 a * 2 ^ n) % 2 ^ 64)) low ∙ ap (λ n. Gives ((pattern 64 a * n) % 2 ^ 64)) (sym same) ∙ ap (λ n. Gives n) (mul_bits w64 a (pos (2 ^ k)))

shl_long : (a b : ℤ) → IsAmount b → binary_of Shl w64 (pattern 64 a) (pattern 64 b) ≡ Gives (pattern 64 (a *ℤ power b))
shl_long a b n =
    let small = n.small in
    let low : n.value < 64 = omega (arith, small) in
    ap (λ z. binary_of Shl w64 (pattern 64 a) (pattern 64 z)) n.is ∙ shl_wide a n.value low ∙ ap (λ z. Gives (pattern 64 (a *ℤ z))) (sym (power_is b n.value n.is))

power_word : (n : ℕ) → n < 32 → IsWord (pos (2 ^ n))
power_word n h = let few = pow_below n 32 h in record { low = omega (arith, ints); high = omega (arith, ints, few) }

shifted_long : (a b : ℤ) → IsWord a → IsAmount b → IsLong (a *ℤ power b)
shifted_long a b h n = subst (λ z. IsLong (a *ℤ z)) (sym (power_is b n.value n.is)) (long_product a (pos (2 ^ n.value)) h (power_word n.value n.small))

left_exact_for : (t u : Bool) (m : Module) (v : View) (c : Config) (s : ℕ) (left right to : IntTy) (a b : ℤ) (os : List Num) (rest : List Instr) (count : ℕ) → IsNarrow left → IsNarrow right → IsNarrow to → count ≤ 32 → IsIn left a → IsIn right b → HasScratch s c.frame.locals → HasPanicState c.world.store → in_width count b ≡ t → is_in to (a *ℤ power b) ≡ u →
    EndsOn m v c s left right to a b os (amount_tested count right s ++ exact_code_or 10 Shl left right to s) rest (if t then (if u then Ok (a *ℤ power b) else Err ShiftBits) else Err ShiftAmount)
left_exact_for true true m v c s left right to a b os rest count hl hr ht h il ir scratch state e f =
    let first = (amount-checks m v c count right s b (I32 (pattern 32 a) ∷ os) c.frame.locals h hr ir scratch state).passes e in
    let n = amount_is count b h e in
    let second = (exact_computes_or m v c 10 Shl s left right to a b (a *ℤ power b) os first.after hl hr ht il ir (has-scratch s c.frame.locals first.after first.keeps scratch) state (shl_long a b n) (shifted_long a b (word-narrow left a hl il) n)).passes f in
    front_leads m v c s left right to a b (a *ℤ power b) os (amount_tested count right s) (exact_code_or 10 Shl left right to s) rest hl hr ht first (few-leads 60 (lit≤ tt) second)
left_exact_for true false m v c s left right to a b os rest count hl hr ht h il ir scratch state e f =
    let first = (amount-checks m v c count right s b (I32 (pattern 32 a) ∷ os) c.frame.locals h hr ir scratch state).passes e in
    let n = amount_is count b h e in
    let second = (exact_computes_or m v c 10 Shl s left right to a b (a *ℤ power b) os first.after hl hr ht il ir (has-scratch s c.frame.locals first.after first.keeps scratch) state (shl_long a b n) (shifted_long a b (word-narrow left a hl il) n)).fails f in
    front_breaks m v c s left right to a b os (amount_tested count right s) (exact_code_or 10 Shl left right to s) rest ShiftBits hl hr first (few-breaks 60 (lit≤ tt) second)
left_exact_for false u m v c s left right to a b os rest count hl hr ht h il ir scratch state e f =
    front_fails m v c s left right to a b os (amount_tested count right s) (exact_code_or 10 Shl left right to s) rest ShiftAmount hl hr
    ((amount-checks m v c count right s b (I32 (pattern 32 a) ∷ os) c.frame.locals h hr ir scratch state).fails e)

pub left_exact-ends : (m : Module) (v : View) (c : Config) (s : ℕ) (left right to : IntTy) (a b : ℤ) (os : List Num) (rest : List Instr) → IsNarrow left → IsNarrow right → IsNarrow to → IsIn left a → IsIn right b → HasScratch s c.frame.locals → HasPanicState c.world.store → EndsOn m v c s left right to a b os (left_exact_code left right to s) rest (shifted to b (none_lost to (a *ℤ power b)))
left_exact-ends m v c s left right (Sized signed count) a b os rest hl hr ht il ir scratch state =
    left_exact_for (in_width count b) (is_in (Sized signed count) (a *ℤ power b)) m v c s left right (Sized signed count) a b os rest count hl hr ht ht il ir scratch state refl refl
left_exact-ends m v c s left right Comptime a b os rest hl hr ht il ir scratch state = absurd ht

-- ---- to the right

-- a number that is rounded down to a multiple lies no further below than the multiples are apart
multiple_low : (a p q : ℤ) → pos 0 ≤ℤ rest_of a p q → (q *ℤ p) ≤ℤ a
multiple_low a p q h = let turned = *ℤ_comm p q in omega (arith, ints)

multiple_high : (a q : ℤ) (p : ℕ) → pos 0 ≤ℤ rest_of a (pos p) q → unsigned_abs (rest_of a (pos p) q) < p → p < 2 ^ 32 → a <ℤ (q *ℤ pos p +ℤ pos (2 ^ 32))
multiple_high a q p h k few = let turned = *ℤ_comm (pos p) q in omega (arith, ints)

near_same : (x y : ℤ) → pattern 32 x ≡ pattern 32 y → x ≤ℤ y → y <ℤ (x +ℤ pos (2 ^ 32)) → x ≡ y
near_same (pos x) (pos y) e h k = omega (arith, ints, e, h, k)
near_same (pos x) (negsuc y) e h k = omega (arith, ints, e, h, k)
near_same (negsuc x) (pos y) e h k = omega (arith, ints, e, h, k)
near_same (negsuc x) (negsuc y) e h k = omega (arith, ints, e, h, k)

some_power : (n : ℕ) → pos (2 ^ n) ≡ pos 0 → ⊥
some_power n e = let some = pow_pos n in omega (arith, ints)

back_same_by : (a : ℤ) (n : ℕ) → n < 32 → pattern 32 (floored a (pos (2 ^ n)) *ℤ pos (2 ^ n)) ≡ pattern 32 a → floored a (pos (2 ^ n)) *ℤ pos (2 ^ n) ≡ a
back_same_by a n h e =
    let p = 2 ^ n in
    let q = floored a (pos p) in
    let law = floored_law a (pos p) (some_power n) in
    near_same (q *ℤ pos p) a e (multiple_low a (pos p) q law.side) (multiple_high a q p law.side law.near (pow_below n 32 h))

back_same : (a b : ℤ) → IsAmount b → pattern 32 (floored a (power b) *ℤ power b) ≡ pattern 32 a → floored a (power b) *ℤ power b ≡ a
back_same a b n = subst (λ p. pattern 32 (floored a p *ℤ p) ≡ pattern 32 a → floored a p *ℤ p ≡ a) (sym (power_is b n.value n.is)) (back_same_by a n.value n.small)

-- both operands twice, and the test: a shift and back
drops-front : (m : Module) (v : View) (c : Config) (s : ℕ) (left : IntTy) (a b : ℤ) (os locals : List Num) (t : Bool) → IsNarrow left → IsIn left a → HasScratch s locals → IsAmount b → nat_eq (pattern 32 (floored a (power b) *ℤ power b)) (pattern 32 a) ≡ t →
    Moves m v c (doubled s ++ (Binary ty.I32 (right_operator left) ∷ LocalGet s ∷ Binary ty.I32 Shl ∷ LocalGet (s + 1) ∷ Compare ty.I32 Ne ∷ [])) (having (words a b os) locals) (having (I32 (bit_of (not t)) ∷ words a b os) (kept_words s a b locals)) 10
drops-front m v c s left a b os locals t hl il scratch n e =
    let q = floored a (power b) in
    let z = q *ℤ power b in
    let after = kept_words s a b locals in
    let two = words a b os in
    andthen (moves-doubled m v c s a b os locals scratch)
    (andthen (moves (steps-word m v c (right_operator left) (pattern 32 a) (pattern 32 b) (pattern 32 q) two after (shr_bits left a b hl il n)))
    (andthen (moves (steps-get m v c s (I32 (pattern 32 b)) (I32 (pattern 32 q) ∷ two) after (kept_words-right s a b locals scratch)))
    (andthen (moves (steps-word m v c Shl (pattern 32 q) (pattern 32 b) (pattern 32 z) two after (shl_bits q b n)))
    (andthen (moves (steps-get m v c (s + 1) (I32 (pattern 32 a)) (I32 (pattern 32 z) ∷ two) after (kept_words-left s a b locals scratch)))
    (moves (steps-compare_word m v c Ne (pattern 32 z) (pattern 32 a) (not t) two after (ap not e)))))))

drops-leads : (m : Module) (v : View) (c : Config) (s : ℕ) (left : IntTy) (a b : ℤ) (os locals : List Num) → IsNarrow left → IsIn left a → HasScratch s locals → IsAmount b → nat_eq (pattern 32 (floored a (power b) *ℤ power b)) (pattern 32 a) ≡ true →
    Leads m v c (doubled s ++ (none_dropped_code (right_operator left) s ++ (Binary ty.I32 (right_operator left) ∷ []))) s (words a b os) (word (floored a (power b)) os) locals 60
drops-leads m v c s left a b os locals hl il scratch n e =
    let q = floored a (power b) in
    let after = kept_words s a b locals in
    record {
      after = after;
      keeps = kept_words-keep s a b locals;
      runs = few-moves 60 (lit≤ tt) (andthen (drops-front m v c s left a b os locals true hl il scratch n e)
          (andthen (moves (steps-passed m v c 10 (words a b os) after))
          (moves (steps-word m v c (right_operator left) (pattern 32 a) (pattern 32 b) (pattern 32 q) os after (shr_bits left a b hl il n)))));
    }

drops-breaks : (m : Module) (v : View) (c : Config) (s : ℕ) (left : IntTy) (a b : ℤ) (os locals : List Num) → IsNarrow left → IsIn left a → HasScratch s locals → HasPanicState c.world.store → IsAmount b → nat_eq (pattern 32 (floored a (power b) *ℤ power b)) (pattern 32 a) ≡ false →
    Breaks m v c (doubled s ++ (none_dropped_code (right_operator left) s ++ (Binary ty.I32 (right_operator left) ∷ []))) (having (words a b os) locals) 10 60
drops-breaks m v c s left a b os locals hl il scratch state n e =
    let after = kept_words s a b locals in
    few-breaks 60 (lit≤ tt) (behind (drops-front m v c s left a b os locals false hl il scratch n e)
    (before (breaks (fails-panics m v c 10 (words a b os) after state)) (Binary ty.I32 (right_operator left) ∷ [])))

same_back : (x y : ℕ) → nat_eq x y ≡ true → x ≡ y
same_back x y e = (Decides-eqb x y).0 e

other_back : (a z : ℤ) → nat_eq (pattern 32 z) (pattern 32 a) ≡ false → z ≡ a → ⊥
other_back a z e f = both_ways (nat_eq (pattern 32 z) (pattern 32 a)) e ((Decides-eqb (pattern 32 z) (pattern 32 a)).1 (ap (pattern 32) f))

right_exact_for : (t u : Bool) (m : Module) (v : View) (c : Config) (s : ℕ) (left right to : IntTy) (a b : ℤ) (os : List Num) (rest : List Instr) (count : ℕ) → IsNarrow left → IsNarrow right → IsNarrow to → count ≤ 32 → IsIn left a → IsIn right b → HasScratch s c.frame.locals → HasPanicState c.world.store → in_width count b ≡ t → nat_eq (pattern 32 (floored a (power b) *ℤ power b)) (pattern 32 a) ≡ u →
    EndsOn m v c s left right to a b os (amount_tested count right s ++ (doubled s ++ (none_dropped_code (right_operator left) s ++ (Binary ty.I32 (right_operator left) ∷ [])))) rest (if t then none_dropped a (power b) else Err ShiftAmount)
right_exact_for true true m v c s left right to a b os rest count hl hr ht h il ir scratch state e f =
    let q = floored a (power b) in
    let is = doubled s ++ (none_dropped_code (right_operator left) s ++ (Binary ty.I32 (right_operator left) ∷ [])) in
    let first = (amount-checks m v c count right s b (I32 (pattern 32 a) ∷ os) c.frame.locals h hr ir scratch state).passes e in
    let n = amount_is count b h e in
    subst (λ r. EndsOn m v c s left right to a b os (amount_tested count right s ++ is) rest r) (drops_none a (power b) q refl (back_same a b n (same_back (pattern 32 (q *ℤ power b)) (pattern 32 a) f)))
    (front_leads m v c s left right to a b q os (amount_tested count right s) is rest hl hr ht first
    (drops-leads m v c s left a b os first.after hl il (has-scratch s c.frame.locals first.after first.keeps scratch) n f))
right_exact_for true false m v c s left right to a b os rest count hl hr ht h il ir scratch state e f =
    let q = floored a (power b) in
    let is = doubled s ++ (none_dropped_code (right_operator left) s ++ (Binary ty.I32 (right_operator left) ∷ [])) in
    let first = (amount-checks m v c count right s b (I32 (pattern 32 a) ∷ os) c.frame.locals h hr ir scratch state).passes e in
    let n = amount_is count b h e in
    subst (λ r. EndsOn m v c s left right to a b os (amount_tested count right s ++ is) rest r) (drops_some a (power b) q refl (other_back a (q *ℤ power b) f))
    (front_breaks m v c s left right to a b os (amount_tested count right s) is rest ShiftBits hl hr first
    (drops-breaks m v c s left a b os first.after hl il (has-scratch s c.frame.locals first.after first.keeps scratch) state n f))
right_exact_for false u m v c s left right to a b os rest count hl hr ht h il ir scratch state e f =
    front_fails m v c s left right to a b os (amount_tested count right s) (doubled s ++ (none_dropped_code (right_operator left) s ++ (Binary ty.I32 (right_operator left) ∷ []))) rest ShiftAmount hl hr
    ((amount-checks m v c count right s b (I32 (pattern 32 a) ∷ os) c.frame.locals h hr ir scratch state).fails e)

pub right_exact-ends : (m : Module) (v : View) (c : Config) (s : ℕ) (left right to : IntTy) (a b : ℤ) (os : List Num) (rest : List Instr) → IsNarrow left → IsNarrow right → IsNarrow to → IsIn left a → IsIn right b → HasScratch s c.frame.locals → HasPanicState c.world.store → EndsOn m v c s left right to a b os (right_exact_code left right to s) rest (shifted to b (none_dropped a (power b)))
right_exact-ends m v c s left right (Sized signed count) a b os rest hl hr ht il ir scratch state =
    right_exact_for (in_width count b) (nat_eq (pattern 32 (floored a (power b) *ℤ power b)) (pattern 32 a)) m v c s left right (Sized signed count) a b os rest count hl hr ht ht il ir scratch state refl refl
right_exact-ends m v c s left right Comptime a b os rest hl hr ht il ir scratch state = absurd ht

-- ---- quotients

-- nothing is left exactly where the bits of what is left are 0
left_none : (r : ℤ) → IsWord r → nat_eq (pattern 32 r) 0 ≡ true → r ≡ pos 0
left_none r h e = zero_is r h (same_back (pattern 32 r) 0 e)

left_some : (r : ℤ) → nat_eq (pattern 32 r) 0 ≡ false → r ≡ pos 0 → ⊥
left_some r e f = both_ways (nat_eq (pattern 32 r) 0) e (ap (λ z. nat_eq (pattern 32 z) 0) f)

-- a rest of 32 bits on the operands: no panic, or one
rest-passes : (m : Module) (v : View) (c : Config) (r : ℤ) (os locals : List Num) → nat_eq (pattern 32 r) 0 ≡ true → Moves m v c (if_panics 8) (having (word r os) locals) (having os locals) 1
rest-passes m v c r os locals e = subst (λ n. Moves m v c (if_panics 8) (having (I32 n ∷ os) locals) (having os locals) 1) (sym (same_back (pattern 32 r) 0 e)) (moves (steps-passed m v c 8 os locals))

short-front : (m : Module) (v : View) (c : Config) (s : ℕ) (a b : ℤ) (os locals : List Num) → IsNatural a → IsNatural b → IsDivisor b → HasScratch s locals → Moves m v c (doubled s ++ (Binary ty.I32 RemU ∷ [])) (having (words a b os) locals) (having (word (int_rem a b) (words a b os)) (kept_words s a b locals)) 6
short-front m v c s a b os locals na nb divisor scratch =
    andthen (moves-doubled m v c s a b os locals scratch)
    (moves (steps-word m v c RemU (pattern 32 a) (pattern 32 b) (pattern 32 (int_rem a b)) (words a b os) (kept_words s a b locals) (leaves_word a b na nb divisor)))

short-leads : (m : Module) (v : View) (c : Config) (s : ℕ) (a b : ℤ) (os locals : List Num) → IsNatural a → IsNatural b → IsDivisor b → HasScratch s locals → nat_eq (pattern 32 (int_rem a b)) 0 ≡ true → Leads m v c (exact_short s) s (words a b os) (word (int_div a b) os) locals 60
short-leads m v c s a b os locals na nb divisor scratch e =
    let after = kept_words s a b locals in
    record {
      after = after;
      keeps = kept_words-keep s a b locals;
      runs = few-moves 60 (lit≤ tt) (andthen (short-front m v c s a b os locals na nb divisor scratch)
          (andthen (rest-passes m v c (int_rem a b) (words a b os) after e)
          (moves (steps-word m v c DivU (pattern 32 a) (pattern 32 b) (pattern 32 (int_div a b)) os after (divides_word a b na nb divisor)))));
    }

short-breaks : (m : Module) (v : View) (c : Config) (s : ℕ) (a b : ℤ) (os locals : List Num) → IsNatural a → IsNatural b → IsDivisor b → HasScratch s locals → HasPanicState c.world.store → nat_eq (pattern 32 (int_rem a b)) 0 ≡ false → Breaks m v c (exact_short s) (having (words a b os) locals) 8 60
short-breaks m v c s a b os locals na nb divisor scratch state e =
    few-breaks 60 (lit≤ tt) (behind (short-front m v c s a b os locals na nb divisor scratch)
    (before (breaks (fails-panics_at m v c 8 (pattern 32 (int_rem a b)) (words a b os) (kept_words s a b locals) e state)) (Binary ty.I32 DivU ∷ [])))

-- the quotient in its local
abbrev quotient_locals : ℕ → ℤ → ℤ → List Num → List Num
quotient_locals s a b locals = slice_set (both_locals s a b locals) (s + 6) (I64 (pattern 64 (int_div a b)))

quotient_locals-keep : (s : ℕ) (a b : ℤ) (locals : List Num) → KeepsOthers s locals (quotient_locals s a b locals)
quotient_locals-keep s a b locals = keeps-set s 6 locals (both_locals s a b locals) (I64 (pattern 64 (int_div a b))) (lit< tt) (both_locals-keep s a b locals)

quotient_locals-right : (s : ℕ) (a b : ℤ) (locals : List Num) → HasScratch s locals → slice_get (quotient_locals s a b locals) (s + 4) ≡ Some (I64 (pattern 64 b))
quotient_locals-right s a b locals h =
    slice_get-set_other (both_locals s a b locals) (s + 6) (s + 4) (I64 (pattern 64 (int_div a b))) (λ e. omega (arith, e)) ∙ both_locals-right s a b locals h

quotient_room : (s : ℕ) (a b : ℤ) (locals : List Num) → HasScratch s locals → s + 6 < length (both_locals s a b locals)
quotient_room s a b locals h = omega (arith, h, (both_locals-keep s a b locals).count)

long-front : (m : Module) (v : View) (c : Config) (s : ℕ) (left right : IntTy) (a b : ℤ) (os locals : List Num) → IsNarrow left → IsNarrow right → IsIn left a → IsIn right b → IsDivisor b → HasScratch s locals →
    Moves m v c (both_kept left right s ++ kept_quotient s) (having (words a b os) locals) (having (I64 (pattern 64 (int_div a b)) ∷ I64 (pattern 64 a) ∷ os) (quotient_locals s a b locals)) 8
long-front m v c s left right a b os locals hl hr il ir divisor scratch =
    let x = I64 (pattern 64 a) in
    let q = int_div a b in
    let two = both_locals s a b locals in
    andthen (moves-both m v c left right s a b os locals hl hr il ir scratch)
    (andthen (moves (steps-long m v c DivS (pattern 64 a) (pattern 64 b) (pattern 64 q) (x ∷ os) two (divides_long a b (fits_long left a hl il) (fits_long right b hr ir) (word-narrow left a hl il) divisor)))
    (moves-tee m v c (s + 6) (I64 (pattern 64 q)) (x ∷ os) two (quotient_room s a b locals scratch)))

long-rest : (m : Module) (v : View) (c : Config) (s : ℕ) (left right : IntTy) (a b : ℤ) (os locals : List Num) → IsNarrow left → IsNarrow right → IsIn left a → IsIn right b → IsDivisor b → HasScratch s locals →
    Moves m v c (LocalGet (s + 4) ∷ Binary ty.I64 RemS ∷ Convert Wrap ∷ []) (having (I64 (pattern 64 a) ∷ os) (quotient_locals s a b locals)) (having (word (int_rem a b) os) (quotient_locals s a b locals)) 3
long-rest m v c s left right a b os locals hl hr il ir divisor scratch =
    let x = I64 (pattern 64 a) in
    let r = int_rem a b in
    let three = quotient_locals s a b locals in
    andthen (moves (steps-get m v c (s + 4) (I64 (pattern 64 b)) (x ∷ os) three (quotient_locals-right s a b locals scratch)))
    (andthen (moves (steps-long m v c RemS (pattern 64 a) (pattern 64 b) (pattern 64 r) os three (leaves_long a b (fits_long left a hl il) (fits_long right b hr ir) (word-narrow left a hl il) divisor)))
    (moves (steps-wrap m v c (pattern 64 r) (pattern 32 r) os three (wrap_long r))))

long-leads : (m : Module) (v : View) (c : Config) (s : ℕ) (left right to : IntTy) (a b : ℤ) (os locals : List Num) → IsNarrow left → IsNarrow right → IsNarrow to → IsIn left a → IsIn right b → IsDivisor b → HasScratch s locals → is_in to (int_div a b) ≡ true → nat_eq (pattern 32 (int_rem a b)) 0 ≡ true → Leads m v c (exact_long left right to s) s (words a b os) (word (int_div a b) os) locals 60
long-leads m v c s left right to a b os locals hl hr ht il ir divisor scratch there e =
    let q = int_div a b in
    let x = I64 (pattern 64 a) in
    let three = quotient_locals s a b locals in
    let few = above-few to in
    let long = (quotient_long a b (word-narrow left a hl il)).0 in
    let all = andthen (long-front m v c s left right a b os locals hl hr il ir divisor scratch)
    (andthen (moves (in_range-passes m v c to q (x ∷ os) three ht long there))
    (andthen (andthen (long-rest m v c s left right a b os locals hl hr il ir divisor scratch) (rest-passes m v c (int_rem a b) os three e))
    (andthen (moves (steps-get m v c (s + 6) (I64 (pattern 64 q)) os three (slice_get-set_same (both_locals s a b locals) (s + 6) (I64 (pattern 64 q)) (quotient_room s a b locals scratch))))
    (moves (steps-wrap m v c (pattern 64 q) (pattern 32 q) os three (wrap_long q)))))) in
    record { after = three; keeps = quotient_locals-keep s a b locals; runs = record { count = all.count; few = omega (arith, all.few, few); steps = all.steps } }

long-breaks : (m : Module) (v : View) (c : Config) (s : ℕ) (left right to : IntTy) (a b : ℤ) (os locals : List Num) → IsNarrow left → IsNarrow right → IsNarrow to → IsIn left a → IsIn right b → IsDivisor b → HasScratch s locals → HasPanicState c.world.store → is_in to (int_div a b) ≡ true → nat_eq (pattern 32 (int_rem a b)) 0 ≡ false → Breaks m v c (exact_long left right to s) (having (words a b os) locals) 8 60
long-breaks m v c s left right to a b os locals hl hr ht il ir divisor scratch state there e =
    let q = int_div a b in
    let x = I64 (pattern 64 a) in
    let three = quotient_locals s a b locals in
    let few = above-few to in
    let long = (quotient_long a b (word-narrow left a hl il)).0 in
    let all = behind (long-front m v c s left right a b os locals hl hr il ir divisor scratch)
    (behind (moves (in_range-passes m v c to q (x ∷ os) three ht long there))
    (before (behind (long-rest m v c s left right a b os locals hl hr il ir divisor scratch) (breaks (fails-panics_at m v c 8 (pattern 32 (int_rem a b)) os three e state))) (quotient_word s))) in
    record { count = all.count; few = omega (arith, all.few, few); fails = all.fails }

long-overflows : (m : Module) (v : View) (c : Config) (s : ℕ) (left right to : IntTy) (a b : ℤ) (os locals : List Num) → IsNarrow left → IsNarrow right → IsNarrow to → IsIn left a → IsIn right b → IsDivisor b → HasScratch s locals → HasPanicState c.world.store → is_in to (int_div a b) ≡ false → Breaks m v c (exact_long left right to s) (having (words a b os) locals) integer_overflow 60
long-overflows m v c s left right to a b os locals hl hr ht il ir divisor scratch state out =
    let q = int_div a b in
    let x = I64 (pattern 64 a) in
    let three = quotient_locals s a b locals in
    let few = above-few to in
    let long = (quotient_long a b (word-narrow left a hl il)).0 in
    let all = behind (long-front m v c s left right a b os locals hl hr il ir divisor scratch)
    (before (breaks (in_range-fails m v c to q (x ∷ os) three ht long out state)) (no_rest s ++ quotient_word s)) in
    record { count = all.count; few = omega (arith, all.few, few); fails = all.fails }

-- where the divisor isn't 0, by whether the quotient is short, is in the type, and leaves nothing
some_exact : (u t w : Bool) (m : Module) (v : View) (c : Config) (s : ℕ) (left right to : IntTy) (a b : ℤ) (os : List Num) (rest : List Instr) → IsNarrow left → IsNarrow right → IsNarrow to → IsIn left a → IsIn right b → IsDivisor b → HasScratch s c.frame.locals → HasPanicState c.world.store → (are_unsigned left right && holds to left) ≡ u → is_in to (int_div a b) ≡ t → nat_eq (pattern 32 (int_rem a b)) 0 ≡ w →
    EndsOn m v c s left right to a b os (divisor_tested s ++ (if u then exact_short s else exact_long left right to s)) rest (exact_quotient to a b)
some_exact true true true m v c s left right to a b os rest hl hr ht il ir divisor scratch state e f g =
    let outer = both-true (are_unsigned left right) (holds to left) e in
    let inner = both-true (is_unsigned left) (is_unsigned right) outer.0 in
    let first = (divisor-checks m v c s b (I32 (pattern 32 a) ∷ os) c.frame.locals true scratch state divisor.word).passes refl in
    let none = left_none (int_rem a b) (rest_low a b (word-narrow left a hl il)) g in
    subst (λ r. EndsOn m v c s left right to a b os (divisor_tested s ++ exact_short s) rest r) (sym (whole to a b f none))
    (front_leads m v c s left right to a b (int_div a b) os (divisor_tested s) (exact_short s) rest hl hr ht first
    (short-leads m v c s a b os first.after (natural left a hl il inner.0) (natural right b hr ir inner.1) divisor (has-scratch s c.frame.locals first.after first.keeps scratch) g))
some_exact true true false m v c s left right to a b os rest hl hr ht il ir divisor scratch state e f g =
    let outer = both-true (are_unsigned left right) (holds to left) e in
    let inner = both-true (is_unsigned left) (is_unsigned right) outer.0 in
    let first = (divisor-checks m v c s b (I32 (pattern 32 a) ∷ os) c.frame.locals true scratch state divisor.word).passes refl in
    subst (λ r. EndsOn m v c s left right to a b os (divisor_tested s ++ exact_short s) rest r) (sym (broken to a b f (left_some (int_rem a b) g)))
    (front_breaks m v c s left right to a b os (divisor_tested s) (exact_short s) rest Remainder hl hr first
    (short-breaks m v c s a b os first.after (natural left a hl il inner.0) (natural right b hr ir inner.1) divisor (has-scratch s c.frame.locals first.after first.keeps scratch) state g))
some_exact true false w m v c s left right to a b os rest hl hr ht il ir divisor scratch state e f g =
    let outer = both-true (are_unsigned left right) (holds to left) e in
    let inner = both-true (is_unsigned left) (is_unsigned right) outer.0 in
    absurd (both_ways (is_in to (int_div a b)) f (quotient_in_type left right to a b (natural left a hl il inner.0) (natural right b hr ir inner.1) inner.0 outer.1 il))
some_exact false true true m v c s left right to a b os rest hl hr ht il ir divisor scratch state e f g =
    let first = (divisor-checks m v c s b (I32 (pattern 32 a) ∷ os) c.frame.locals true scratch state divisor.word).passes refl in
    let none = left_none (int_rem a b) (rest_low a b (word-narrow left a hl il)) g in
    subst (λ r. EndsOn m v c s left right to a b os (divisor_tested s ++ exact_long left right to s) rest r) (sym (whole to a b f none))
    (front_leads m v c s left right to a b (int_div a b) os (divisor_tested s) (exact_long left right to s) rest hl hr ht first
    (long-leads m v c s left right to a b os first.after hl hr ht il ir divisor (has-scratch s c.frame.locals first.after first.keeps scratch) f g))
some_exact false true false m v c s left right to a b os rest hl hr ht il ir divisor scratch state e f g =
    let first = (divisor-checks m v c s b (I32 (pattern 32 a) ∷ os) c.frame.locals true scratch state divisor.word).passes refl in
    subst (λ r. EndsOn m v c s left right to a b os (divisor_tested s ++ exact_long left right to s) rest r) (sym (broken to a b f (left_some (int_rem a b) g)))
    (front_breaks m v c s left right to a b os (divisor_tested s) (exact_long left right to s) rest Remainder hl hr first
    (long-breaks m v c s left right to a b os first.after hl hr ht il ir divisor (has-scratch s c.frame.locals first.after first.keeps scratch) state f g))
some_exact false false w m v c s left right to a b os rest hl hr ht il ir divisor scratch state e f g =
    let first = (divisor-checks m v c s b (I32 (pattern 32 a) ∷ os) c.frame.locals true scratch state divisor.word).passes refl in
    subst (λ r. EndsOn m v c s left right to a b os (divisor_tested s ++ exact_long left right to s) rest r) (sym (too_large to a b f))
    (front_breaks m v c s left right to a b os (divisor_tested s) (exact_long left right to s) rest Overflow hl hr first
    (long-overflows m v c s left right to a b os first.after hl hr ht il ir divisor (has-scratch s c.frame.locals first.after first.keeps scratch) state f))

pub exact_quotient-ends : (m : Module) (v : View) (c : Config) (s : ℕ) (left right to : IntTy) (a b : ℤ) (os : List Num) (rest : List Instr) → IsNarrow left → IsNarrow right → IsNarrow to → IsIn left a → IsIn right b → HasScratch s c.frame.locals → HasPanicState c.world.store → EndsOn m v c s left right to a b os (exact_quotient_code left right to s) rest (divided b (exact_quotient to a b))
exact_quotient-ends m v c s left right to a (pos zero) os rest hl hr ht il ir scratch state =
    by_zero m v c s left right to a os (if are_unsigned left right && holds to left then exact_short s else exact_long left right to s) rest hl hr scratch state
exact_quotient-ends m v c s left right to a (pos (suc n)) os rest hl hr ht il ir scratch state =
    let b = pos (suc n) in
    some_exact (are_unsigned left right && holds to left) (is_in to (int_div a b)) (nat_eq (pattern 32 (int_rem a b)) 0) m v c s left right to a b os rest hl hr ht il ir (divisor_from n (word-narrow right b hr ir)) scratch state refl refl refl
exact_quotient-ends m v c s left right to a (negsuc n) os rest hl hr ht il ir scratch state =
    let b = negsuc n in
    some_exact (are_unsigned left right && holds to left) (is_in to (int_div a b)) (nat_eq (pattern 32 (int_rem a b)) 0) m v c s left right to a b os rest hl hr ht il ir (divisor_below n (word-narrow right b hr ir)) scratch state refl refl refl
