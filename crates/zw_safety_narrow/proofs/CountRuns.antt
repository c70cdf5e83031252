-- What the code of counts of bits does when it runs.
use Rattle.std.proofs.Common.{◌≡◌, ℕ, ℤ, pos, negsuc, ◌+◌, ◌-◌, ◌%◌, ◌^◌, ◌<◌, ◌≤◌, min, Bool, true, false, not, List, [], ◌∷◌, ◌++◌, Ok, refl, sym, ap, ◌∙◌, subst, arith, lit≤}
use Rattle.std.specs.Prelude.{nat_eq, nat_lt, count_ones, slice_set, if◌then◌else◌}
use Rattle.std.proofs.lemmas.Bool.{ltb-true, ltb-false}
use Rattle.std.proofs.lemmas.Int.{ints}
use Rattle.std.proofs.lemmas.Nat.{pow_pos, ones-le, leading_le, trailing_le}
use Rattle.std.proofs.Math.Nat.{mod-eq_of_lt}
use Rattle.std.specs.Int.{w32}
use Rattle.std.specs.Int.Count.{count_leading_zeros, count_trailing_zeros}
use Rattle.zw_num.proofs.CountLemmas.{leading_wider, trailing_narrow}
use Rattle.zw_num.proofs.WrappedLemmas.{pattern_below}
use Rattle.zw_num.specs.Arithmetic.{IsIn, pattern, width}
use Rattle.zw_num.specs.declared.int_ty.IntTy.{IntTy}
use Rattle.zw_num.specs.declared.int_ty.IntTy.TheVariants.{Sized, Comptime}
use Rattle.zw_safety_narrow.proofs.CastRuns.{EndsOnOne, word, one_ends_with, few-moves}
use Rattle.zw_safety_narrow.proofs.Going.{Moves, moves, andthen, moves-tee, moves-select}
use Rattle.zw_safety_narrow.proofs.Locals.{slice_get-set_same, keeps-same}
use Rattle.zw_safety_narrow.proofs.OrderRuns.{Leads, leads, keeps-first}
use Rattle.zw_safety_narrow.proofs.Pieces.{having, steps-get, steps-const, steps-none, steps-word, steps-compare_word}
use Rattle.zw_safety_narrow.proofs.Words.{power_word, masked}
use Rattle.zw_safety_narrow.specs.Checked.{HasScratch}
use Rattle.zw_safety_narrow.specs.CountCode.{own_bits, ones_code, leading_code, at_most, trailing_code}
use Rattle.zw_safety_narrow.specs.NarrowCode.{masked as mask_code}
use Rattle.zw_safety_narrow.specs.Operators.{IsNarrow}
use Rattle.zw_wasm.proofs.RunsCompose.{runs-step}
use Rattle.zw_wasm.specs.declared.module.BinaryOperator.TheVariants.{And, Sub}
use Rattle.zw_wasm.specs.declared.module.Comparison.TheVariants.{LtU}
use Rattle.zw_wasm.specs.declared.module.Instr.{Instr}
use Rattle.zw_wasm.specs.declared.module.Instr.TheVariants.{I32Const, Binary, Unary, Select}
use Rattle.zw_wasm.specs.declared.module.Module.{Module}
use Rattle.zw_wasm.specs.declared.module.UnaryOperator.{UnaryOperator}
use Rattle.zw_wasm.specs.declared.module.UnaryOperator.TheVariants.{Clz, Ctz, Popcnt}
use Rattle.zw_wasm.specs.declared.module.ValType.TheVariants as ty
use Rattle.zw_wasm.specs.declared.num.Num.{Num}
use Rattle.zw_wasm.specs.declared.num.Num.TheVariants.{I32}
use Rattle.zw_wasm.specs.Numerics.{Gives, bit_of, unary_of}
use Rattle.zw_wasm.specs.Reduction.{Config}
use Rattle.zw_wasm.specs.Signature.{View}

moves-unary : (m : Module) (v : View) (c : Config) (o : UnaryOperator) (x : ℕ) (os locals : List Num) → Moves m v c (Unary ty.I32 o ∷ []) (having (I32 x ∷ os) locals) (having (I32 (unary_of o w32 x) ∷ os) locals) 1
moves-unary m v c o x os locals = moves (record { by = λ rest. runs-step m v _ _ refl })

-- ---- the bits of the type

signed_bits : (b : Bool) (m : Module) (v : View) (c : Config) (count : ℕ) (a : ℤ) (os locals : List Num) → nat_lt count 32 ≡ b → count ≤ 32 → Moves m v c (if b then mask_code (pos (2 ^ count - 1)) else []) (having (word a os) locals) (having (I32 (pattern count a) ∷ os) locals) 2
signed_bits true m v c count a os locals e h =
    andthen (moves (steps-const m v c (pos (2 ^ count - 1)) (word a os) locals))
    (moves (steps-word m v c And (pattern 32 a) (2 ^ count - 1) (pattern count a) os locals (ap (λ n. Gives n) (masked count a h))))
signed_bits false m v c count a os locals e h =
    let whole : 32 ≡ count = omega (arith, h, ltb-false count 32 e) in
    subst (λ k. Moves m v c [] (having (word a os) locals) (having (I32 (pattern k a) ∷ os) locals) 2) whole
    (few-moves 2 (lit≤ tt) (moves (steps-none m v c (having (word a os) locals))))

unsigned_bits : (count : ℕ) (a : ℤ) → count ≤ 32 → IsIn (Sized false count) a → pattern 32 a ≡ pattern count a
unsigned_bits count (pos n) h i =
    let few = power_word count h in
    let some = pow_pos count in
    mod-eq_of_lt (omega (arith, ints, i.at_most, few, some)) ∙ sym (mod-eq_of_lt (omega (arith, ints, i.at_most, some)))
unsigned_bits count (negsuc n) h i = absurd (omega (arith, ints, i.at_least))

own : (m : Module) (v : View) (c : Config) (from : IntTy) (a : ℤ) (os locals : List Num) → IsNarrow from → IsIn from a → Moves m v c (own_bits from) (having (word a os) locals) (having (I32 (pattern (width from) a) ∷ os) locals) 2
own m v c (Sized true count) a os locals h i = signed_bits (nat_lt count 32) m v c count a os locals refl h
own m v c (Sized false count) a os locals h i =
    subst (λ n. Moves m v c [] (having (word a os) locals) (having (I32 n ∷ os) locals) 2) (unsigned_bits count a h i)
    (few-moves 2 (lit≤ tt) (moves (steps-none m v c (having (word a os) locals))))
own m v c Comptime a os locals h i = absurd h

pub narrow_width : (from : IntTy) → IsNarrow from → width from ≤ 32
narrow_width (Sized signed count) h = h
narrow_width Comptime h = absurd h

own_below : (from : IntTy) (a : ℤ) → IsNarrow from → pattern (width from) a < 2 ^ 32
own_below from a h = let few = power_word (width from) (narrow_width from h) in let below = pattern_below (width from) a in omega (arith, few, below)

count_bits : (n : ℕ) → n ≤ 32 → n ≡ pattern 32 (pos n)
count_bits n h = sym (mod-eq_of_lt (omega (arith, h)))

-- ---- ones

pub ones-ends : (m : Module) (v : View) (c : Config) (s : ℕ) (from to : IntTy) (a : ℤ) (os : List Num) (rest : List Instr) → IsNarrow from → IsNarrow to → IsIn from a → EndsOnOne m v c s from to a os (ones_code from) rest (Ok (pos (count_ones (pattern (width from) a))))
ones-ends m v c s from to a os rest hf ht i =
    let p = pattern (width from) a in
    one_ends_with m v c s from to a (pos (count_ones p)) os (ones_code from) rest (count_ones p) 3 hf ht (lit≤ tt) (count_bits (count_ones p) (ones-le 32 p (own_below from a hf)))
    (leads s (andthen (own m v c from a os c.frame.locals hf i) (moves-unary m v c Popcnt p os c.frame.locals)))

-- ---- zeros above

fewer : (d q x : ℕ) → d ≤ 32 → q ≤ 32 → x ≡ d + q → (x + (2 ^ 32 - d)) % 2 ^ 32 ≡ q
fewer d q x h k e = omega (arith, h, k, e)

leads_zeros : (b : Bool) (m : Module) (v : View) (c : Config) (count p : ℕ) (os locals : List Num) → nat_lt count 32 ≡ b → count ≤ 32 → p < 2 ^ count → Moves m v c (if b then I32Const (pos (32 - count)) ∷ Binary ty.I32 Sub ∷ [] else []) (having (I32 (count_leading_zeros 32 p) ∷ os) locals) (having (I32 (count_leading_zeros count p) ∷ os) locals) 2
leads_zeros true m v c count p os locals e h low =
    let q = count_leading_zeros count p in
    let small = leading_le count p in
    andthen (moves (steps-const m v c (pos (32 - count)) (I32 (count_leading_zeros 32 p) ∷ os) locals))
    (moves (steps-word m v c Sub (count_leading_zeros 32 p) (32 - count) q os locals (ap (λ n. Gives n) (fewer (32 - count) q (count_leading_zeros 32 p) (omega arith) (omega (arith, small, h)) (leading_wider count 32 p low h)))))
leads_zeros false m v c count p os locals e h low =
    let whole : 32 ≡ count = omega (arith, h, ltb-false count 32 e) in
    subst (λ k. Moves m v c [] (having (I32 (count_leading_zeros 32 p) ∷ os) locals) (having (I32 (count_leading_zeros k p) ∷ os) locals) 2) whole
    (few-moves 2 (lit≤ tt) (moves (steps-none m v c (having (I32 (count_leading_zeros 32 p) ∷ os) locals))))

pub leading-ends : (m : Module) (v : View) (c : Config) (s : ℕ) (from to : IntTy) (a : ℤ) (os : List Num) (rest : List Instr) → IsNarrow from → IsNarrow to → IsIn from a → EndsOnOne m v c s from to a os (leading_code from) rest (Ok (pos (count_leading_zeros (width from) (pattern (width from) a))))
leading-ends m v c s from to a os rest hf ht i =
    let w = width from in
    let p = pattern w a in
    let n = count_leading_zeros w p in
    let narrow = narrow_width from hf in
    let small = leading_le w p in
    one_ends_with m v c s from to a (pos n) os (leading_code from) rest n 5 hf ht (lit≤ tt) (count_bits n (omega (arith, small, narrow)))
    (leads s (andthen (own m v c from a os c.frame.locals hf i)
    (andthen (moves-unary m v c Clz p os c.frame.locals) (leads_zeros (nat_lt w 32) m v c w p os c.frame.locals refl narrow (pattern_below w a)))))

-- ---- zeros below

bit-zero : (t : Bool) → nat_eq (bit_of t) 0 ≡ not t
bit-zero true = refl
bit-zero false = refl

chosen_count : (t : Bool) (x top : ℕ) → nat_lt x top ≡ t → (if not t then I32 top else I32 x) ≡ I32 (min x top)
chosen_count true x top e = ap (λ n. I32 n) (omega (arith, ltb-true x top e))
chosen_count false x top e = ap (λ n. I32 n) (omega (arith, ltb-false x top e))

pub bounded_count : (m : Module) (v : View) (c : Config) (s top x : ℕ) (os locals : List Num) → HasScratch s locals → Leads m v c (at_most top s) s (I32 x ∷ os) (I32 (min x top) ∷ os) locals 6
bounded_count m v c s top x os locals scratch =
    let after = slice_set locals s (I32 x) in
    let there = slice_get-set_same locals s (I32 x) (omega (arith, scratch)) in
    let t = nat_lt x top in
    let both = I32 top ∷ I32 x ∷ os in
    let chosen = subst (λ y. Moves m v c (Select ∷ []) (having (I32 (bit_of t) ∷ both) after) (having (y ∷ os) after) 1) (chosen_count t x top refl)
    (moves-select m v c (bit_of t) (not t) (I32 x) (I32 top) os after (bit-zero t)) in
    record {
      after = after;
      keeps = keeps-first s locals locals (I32 x) (keeps-same s locals);
      runs = andthen (moves-tee m v c s (I32 x) os locals (omega (arith, scratch)))
          (andthen (moves (steps-const m v c (pos top) (I32 x ∷ os) after))
          (andthen (moves (steps-get m v c s (I32 x) both after there))
          (andthen (moves (steps-const m v c (pos top) (I32 x ∷ both) after))
          (andthen (moves (steps-compare_word m v c LtU x top t both after refl)) chosen))));
    }

trails_zeros : (b : Bool) (m : Module) (v : View) (c : Config) (s count p : ℕ) (os locals : List Num) → nat_lt count 32 ≡ b → count ≤ 32 → HasScratch s locals → Leads m v c (if b then at_most count s else []) s (I32 (count_trailing_zeros 32 p) ∷ os) (I32 (count_trailing_zeros count p) ∷ os) locals 6
trails_zeros true m v c s count p os locals e h scratch =
    subst (λ n. Leads m v c (at_most count s) s (I32 (count_trailing_zeros 32 p) ∷ os) (I32 n ∷ os) locals 6) (trailing_narrow count 32 p h)
    (bounded_count m v c s count (count_trailing_zeros 32 p) os locals scratch)
trails_zeros false m v c s count p os locals e h scratch =
    let whole : 32 ≡ count = omega (arith, h, ltb-false count 32 e) in
    subst (λ k. Leads m v c [] s (I32 (count_trailing_zeros 32 p) ∷ os) (I32 (count_trailing_zeros k p) ∷ os) locals 6) whole
    (leads s (few-moves 6 (lit≤ tt) (moves (steps-none m v c (having (I32 (count_trailing_zeros 32 p) ∷ os) locals)))))

behind_moves : {m : Module} {v : View} {c : Config} {is js : List Instr} {s i j : ℕ} {first second third locals : List Num} → Moves m v c is (having first locals) (having second locals) i → Leads m v c js s second third locals j → Leads m v c (is ++ js) s first third locals (i + j)
behind_moves {m} {v} {c} {is} {js} {s} {i} {j} {first} {second} {third} {locals} a b = record { after = b.after; keeps = b.keeps; runs = andthen a b.runs }

pub trailing-ends : (m : Module) (v : View) (c : Config) (s : ℕ) (from to : IntTy) (a : ℤ) (os : List Num) (rest : List Instr) → IsNarrow from → IsNarrow to → IsIn from a → HasScratch s c.frame.locals → EndsOnOne m v c s from to a os (trailing_code from s) rest (Ok (pos (count_trailing_zeros (width from) (pattern (width from) a))))
trailing-ends m v c s from to a os rest hf ht i scratch =
    let w = width from in
    let p = pattern w a in
    let n = count_trailing_zeros w p in
    let narrow = narrow_width from hf in
    let small = trailing_le w p in
    one_ends_with m v c s from to a (pos n) os (trailing_code from s) rest n 9 hf ht (lit≤ tt) (count_bits n (omega (arith, small, narrow)))
    (behind_moves (own m v c from a os c.frame.locals hf i)
    (behind_moves (moves-unary m v c Ctz p os c.frame.locals) (trails_zeros (nat_lt w 32) m v c s w p os c.frame.locals refl narrow scratch)))
