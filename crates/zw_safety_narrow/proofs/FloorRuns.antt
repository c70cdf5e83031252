-- What the code of quotients that are rounded down, and of what they leave, does when it runs.
use Rattle.std.proofs.Common.{◌≡◌, ℕ, zero, suc, ℤ, pos, negsuc, ◌+◌, ◌%◌, ◌^◌, ◌<◌, ◌+ℤ◌, ◌-ℤ◌, ◌*ℤ◌, ◌≤ℤ◌, neg_ℤ, Bool, true, false, List, [], ◌∷◌, ◌++◌, length, Some, Ok, refl, sym, ap, ◌∙◌, subst, arith, lit≤, lit<, FitsSigned}
use Rattle.std.specs.Prelude.{int_lt, int_div, int_rem, unsigned_abs, ◌&&◌, slice_get, slice_set, if◌then◌else◌}
use Rattle.std.proofs.lemmas.Int.{ints, rem_below}
use Rattle.std.proofs.Math.Nat.{add-mod_right, div-le_self, mod_self, mod-eq_of_lt}
use Rattle.std.specs.Int.{w64, cast_signed, cast_unsigned}
use Rattle.zw_num.proofs.DivisionLemmas.{is_across, rest_less, rest_same, not_nothing, only_truncated}
use Rattle.zw_num.specs.Arithmetic.{IsIn, SameSide, is_in, exact, divided, floored, rest_of, pattern}
use Rattle.zw_num.specs.declared.int_ty.IntTy.{IntTy}
use Rattle.zw_safety_narrow.proofs.CastRuns.{few-moves}
use Rattle.zw_safety_narrow.proofs.DivisionRuns.{Computes, IsDivisor, divides, by_zero, divisor_from, divisor_below, divides_word, quotient_in_type, rest_bound, word_computes}
use Rattle.zw_safety_narrow.proofs.Going.{Moves, moves, breaks, andthen, behind, before, moves-tee}
use Rattle.zw_safety_narrow.proofs.Locals.{slice_get-set_same, slice_get-set_other, keeps-same, keeps-set}
use Rattle.zw_safety_narrow.proofs.NarrowRuns.{EndsOn, above-few, long_kept, long-there, long-count, steps-extension, steps-extended, in_range-passes, in_range-fails}
use Rattle.zw_safety_narrow.proofs.OrderRuns.{words}
use Rattle.zw_safety_narrow.proofs.Orders.{IsNatural, read, fits_long, natural}
use Rattle.zw_safety_narrow.proofs.Pieces.{having, steps-get, steps-set, steps-long, steps-wrap}
use Rattle.zw_safety_narrow.proofs.SaturatingRuns.{fits_between, sum_fits, long_of_signed}
use Rattle.zw_safety_narrow.proofs.WordRuns.{both-true}
use Rattle.zw_safety_narrow.proofs.Words.{IsWord, IsLong, word-narrow, wrap_long, add_bits, sub_bits}
use Rattle.zw_safety_narrow.specs.CastCode.{holds}
use Rattle.zw_safety_narrow.specs.Checked.{HasScratch, HasPanicState, KeepsOthers}
use Rattle.zw_safety_narrow.specs.CompareCode.{is_unsigned}
use Rattle.zw_safety_narrow.specs.DivisionCode.{are_unsigned}
use Rattle.zw_safety_narrow.specs.FloorCode.{floored_rest, modulo_code, both_kept, whole_quotient, floor_long, floor_code}
use Rattle.zw_safety_narrow.specs.NarrowCode.{extended}
use Rattle.zw_safety_narrow.specs.Operators.{IsNarrow}
use Rattle.zw_session.specs.Causes.{integer_overflow}
use Rattle.zw_wasm.specs.declared.module.BinaryOperator.TheVariants.{Add, Sub, DivS, DivU, RemS}
use Rattle.zw_wasm.specs.declared.module.Conversion.TheVariants.{Wrap}
use Rattle.zw_wasm.specs.declared.module.Instr.{Instr}
use Rattle.zw_wasm.specs.declared.module.Instr.TheVariants.{LocalGet, Binary, Convert}
use Rattle.zw_wasm.specs.declared.module.Module.{Module}
use Rattle.zw_wasm.specs.declared.module.ValType.TheVariants as ty
use Rattle.zw_wasm.specs.declared.num.Num.{Num}
use Rattle.zw_wasm.specs.declared.num.Num.TheVariants.{I32, I64}
use Rattle.zw_wasm.specs.Numerics.{Gives, DividesByZero, Overflows, binary_of, quotient_in}
use Rattle.zw_wasm.specs.Reduction.{Config}
use Rattle.zw_wasm.specs.Signature.{View}

-- ---- the rest that is rounded down

small_rest : (x b : ℤ) → unsigned_abs x < unsigned_abs b → int_rem x b ≡ x
small_rest (pos n) b h = ap (λ k. pos k) (mod-eq_of_lt h)
small_rest (negsuc n) b h = ap (λ k. neg_ℤ (pos k)) (mod-eq_of_lt h)

one_more : (k d : ℕ) → k < suc d → (k + suc d) % suc d ≡ k
one_more k d h = add-mod_right k (suc d) ∙ mod-eq_of_lt h

none_more : (d : ℕ) → suc d % suc d ≡ 0
none_more d = mod_self (suc d)

shuffled : (k d : ℕ) → suc (suc (k + d)) ≡ suc k + suc d
shuffled k d = omega arith

nothing_across : (b : ℤ) → is_across (pos 0) b ≡ true → ⊥
nothing_across (pos zero) e = absurd (cc)
nothing_across (pos (suc n)) e = absurd (cc)
nothing_across (negsuc n) e = absurd (cc)

nearer_sum : (r b : ℤ) → unsigned_abs r < unsigned_abs b → is_across r b ≡ true → unsigned_abs (r +ℤ b) < unsigned_abs b
nearer_sum (pos zero) b h e = absurd (nothing_across b e)
nearer_sum (pos (suc r)) (pos b) h e = absurd (grind arith)
nearer_sum (pos (suc r)) (negsuc b) h e = omega (arith, ints, h)
nearer_sum (negsuc r) (pos b) h e = omega (arith, ints, h)
nearer_sum (negsuc r) (negsuc b) h e = absurd (cc)

nothing_more : (d : ℕ) → pos 0 +ℤ negsuc d ≡ negsuc d
nothing_more d = omega (arith, ints)

same_sum : (r b : ℤ) → unsigned_abs r < unsigned_abs b → is_across r b ≡ false → int_rem (r +ℤ b) b ≡ r
same_sum (pos k) (pos zero) h e = absurd (omega (arith, h))
same_sum (pos k) (pos (suc d)) h e = ap (λ n. pos n) (one_more k d h)
same_sum (pos zero) (negsuc d) h e = ap (λ z. int_rem z (negsuc d)) (nothing_more d) ∙ ap (λ n. neg_ℤ (pos n)) (none_more d)
same_sum (pos (suc k)) (negsuc d) h e = absurd (grind arith)
same_sum (negsuc k) (pos zero) h e = absurd (omega (arith, h))
same_sum (negsuc k) (pos (suc d)) h e = absurd (grind arith)
same_sum (negsuc k) (negsuc d) h e = ap (λ n. neg_ℤ (pos n)) (ap (λ n. n % suc d) (shuffled k d) ∙ one_more (suc k) d h)

floored_for : (t : Bool) (a b : ℤ) → is_across (int_rem a b) b ≡ t → (b ≡ pos 0 → ⊥) → int_rem (int_rem a b +ℤ b) b ≡ rest_of a b (floored a b)
floored_for true a b e n =
    let near = rem_below a b (not_nothing b n) in
    small_rest (int_rem a b +ℤ b) b (nearer_sum (int_rem a b) b near e) ∙ sym (rest_less a b n e)
floored_for false a b e n =
    let near = rem_below a b (not_nothing b n) in
    same_sum (int_rem a b) b near e ∙ sym (rest_same a b n e)

floored_rest_is : (a b : ℤ) → (b ≡ pos 0 → ⊥) → int_rem (int_rem a b +ℤ b) b ≡ rest_of a b (floored a b)
floored_rest_is a b n = floored_for (is_across (int_rem a b) b) a b refl n

-- ---- in 64 bits

-- numbers of some more bits
pub record IsSmall (z : ℤ) : Type 0 where
  pub low : neg_ℤ (pos (2 ^ 34)) ≤ℤ z
  pub high : z ≤ℤ pos (2 ^ 34)

pub rest_low : (a b : ℤ) → IsWord a → IsWord (int_rem a b)
rest_low (pos a) b h = let less = rest_bound a (unsigned_abs b) in record { low = omega (arith, ints); high = omega (arith, ints, less, h.high) }
rest_low (negsuc a) b h = let less = rest_bound (suc a) (unsigned_abs b) in record { low = omega (arith, ints, less, h.low); high = omega (arith, ints) }

rest_fits : (x b : ℤ) → FitsSigned w64 x → FitsSigned w64 (int_rem x b)
rest_fits (pos a) b h = let less = rest_bound a (unsigned_abs b) in fits_between (int_rem (pos a) b) (omega (arith, ints)) (omega (arith, ints, less, h.sfits))
rest_fits (negsuc a) b h = let less = rest_bound (suc a) (unsigned_abs b) in fits_between (int_rem (negsuc a) b) (omega (arith, ints, less, h.sfits)) (omega (arith, ints))

pub leaves : (x b : ℤ) → FitsSigned w64 x → FitsSigned w64 b → IsDivisor b → binary_of RemS w64 (pattern 64 x) (pattern 64 b) ≡ Gives (pattern 64 (int_rem x b))
leaves x b fx fb divisor =
    ap (λ t. if t then DividesByZero else Gives (cast_unsigned w64 (int_rem (cast_signed w64 (pattern 64 x)) (cast_signed w64 (pattern 64 b))))) divisor.long
    ∙ ap (λ y. Gives (cast_unsigned w64 (int_rem y (cast_signed w64 (pattern 64 b))))) (read w64 x fx) ∙ ap (λ y. Gives (cast_unsigned w64 (int_rem x y))) (read w64 b fb)
    ∙ ap (λ n. Gives n) (long_of_signed (int_rem x b) (rest_fits x b fx))

moves-floored : (m : Module) (v : View) (c : Config) (local : ℕ) (a b : ℤ) (os after : List Num) → slice_get after local ≡ Some (I64 (pattern 64 b)) → IsWord a → IsWord b → FitsSigned w64 a → FitsSigned w64 b → IsDivisor b → Moves m v c (floored_rest local) (having (I64 (pattern 64 b) ∷ I64 (pattern 64 a) ∷ os) after) (having (I64 (pattern 64 (int_rem (int_rem a b +ℤ b) b)) ∷ os) after) 5
moves-floored m v c local a b os after there ha hb fa fb divisor =
    let y = I64 (pattern 64 b) in
    let r = int_rem a b in
    andthen (moves (steps-long m v c RemS (pattern 64 a) (pattern 64 b) (pattern 64 r) os after (leaves a b fa fb divisor)))
    (andthen (moves (steps-get m v c local y (I64 (pattern 64 r) ∷ os) after there))
    (andthen (moves (steps-long m v c Add (pattern 64 r) (pattern 64 b) (pattern 64 (r +ℤ b)) os after (ap (λ n. Gives n) (add_bits w64 r b))))
    (andthen (moves (steps-get m v c local y (I64 (pattern 64 (r +ℤ b)) ∷ os) after there))
    (moves (steps-long m v c RemS (pattern 64 (r +ℤ b)) (pattern 64 b) (pattern 64 (int_rem (r +ℤ b) b)) os after (leaves (r +ℤ b) b (sum_fits r b (rest_low a b ha) hb) fb divisor))))))

modulo_computes : (m : Module) (v : View) (c : Config) (s : ℕ) (left right : IntTy) (a b : ℤ) (os locals : List Num) → IsNarrow left → IsNarrow right → IsIn left a → IsIn right b → IsDivisor b → HasScratch s locals → Computes m v c (extended left right s ++ (floored_rest (s + 4) ++ Convert Wrap ∷ [])) s a b (int_rem (int_rem a b +ℤ b) b) os locals true integer_overflow
modulo_computes m v c s left right a b os locals hl hr il ir divisor scratch =
    let after = long_kept s b locals in
    let z = int_rem (int_rem a b +ℤ b) b in
    record {
      passes = λ f. record {
        after = after;
        keeps = keeps-set s 4 locals locals (I64 (pattern 64 b)) (lit< tt) (keeps-same s locals);
        runs = few-moves 30 (lit≤ tt) (andthen (moves (steps-extended m v c left right s a b os locals hl hr il ir scratch))
            (andthen (moves-floored m v c (s + 4) a b os after (long-there s b locals scratch) (word-narrow left a hl il) (word-narrow right b hr ir) (fits_long left a hl il) (fits_long right b hr ir) divisor)
            (moves (steps-wrap m v c (pattern 64 z) (pattern 32 z) os after (wrap_long z)))));
      };
      fails = λ f. absurd (cc);
    }

some-modulo : (m : Module) (v : View) (c : Config) (s : ℕ) (left right to : IntTy) (a b : ℤ) (os : List Num) (rest : List Instr) → IsNarrow left → IsNarrow right → IsNarrow to → IsIn left a → IsIn right b → IsDivisor b → (b ≡ pos 0 → ⊥) → HasScratch s c.frame.locals → HasPanicState c.world.store → EndsOn m v c s left right to a b os (modulo_code left right s) rest (Ok (rest_of a b (floored a b)))
some-modulo m v c s left right to a b os rest hl hr ht il ir divisor n scratch state =
    subst (λ z. EndsOn m v c s left right to a b os (modulo_code left right s) rest (Ok z)) (floored_rest_is a b n)
    (divides true m v c s left right to a b (int_rem (int_rem a b +ℤ b) b) os (extended left right s ++ (floored_rest (s + 4) ++ Convert Wrap ∷ [])) rest hl hr ht divisor scratch state
    (λ locals there. modulo_computes m v c s left right a b os locals hl hr il ir divisor there))

pub modulo-ends : (m : Module) (v : View) (c : Config) (s : ℕ) (left right to : IntTy) (a b : ℤ) (os : List Num) (rest : List Instr) → IsNarrow left → IsNarrow right → IsNarrow to → IsIn left a → IsIn right b → HasScratch s c.frame.locals → HasPanicState c.world.store → EndsOn m v c s left right to a b os (modulo_code left right s) rest (divided b (Ok (rest_of a b (floored a b))))
modulo-ends m v c s left right to a (pos zero) os rest hl hr ht il ir scratch state =
    by_zero m v c s left right to a os (extended left right s ++ (floored_rest (s + 4) ++ Convert Wrap ∷ [])) rest hl hr scratch state
modulo-ends m v c s left right to a (pos (suc n)) os rest hl hr ht il ir scratch state =
    some-modulo m v c s left right to a (pos (suc n)) os rest hl hr ht il ir (divisor_from n (word-narrow right (pos (suc n)) hr ir)) (λ e. omega (arith, ints, e)) scratch state
modulo-ends m v c s left right to a (negsuc n) os rest hl hr ht il ir scratch state =
    some-modulo m v c s left right to a (negsuc n) os rest hl hr ht il ir (divisor_below n (word-narrow right (negsuc n) hr ir)) (λ e. omega (arith, ints, e)) scratch state

-- ---- the quotient that is rounded down

same_side : (x a : ℤ) → x ≡ pos 0 → SameSide x a
same_side x (pos n) e = omega (arith, ints, e)
same_side x (negsuc n) e = omega (arith, ints, e)

-- a multiple of a divisor has no rest
multiple_is : (b q : ℤ) → (b ≡ pos 0 → ⊥) → int_div (b *ℤ q) b ≡ q
multiple_is b q n =
    let none : rest_of (b *ℤ q) b q ≡ pos 0 = omega (arith, ints) in
    let size : unsigned_abs (rest_of (b *ℤ q) b q) ≡ 0 = ap unsigned_abs none in
    let some = not_nothing b n in
    sym (only_truncated (b *ℤ q) b q (record { near = omega (arith, size, some); side = same_side (rest_of (b *ℤ q) b q) (b *ℤ q) none }))

taken_away : (a p : ℤ) → a -ℤ (a -ℤ p) ≡ p
taken_away a p = omega (arith, ints)

floor_is : (a b : ℤ) → (b ≡ pos 0 → ⊥) → int_div (a -ℤ int_rem (int_rem a b +ℤ b) b) b ≡ floored a b
floor_is a b n =
    ap (λ m. int_div (a -ℤ m) b) (floored_rest_is a b n) ∙ ap (λ z. int_div z b) (taken_away a (b *ℤ floored a b)) ∙ multiple_is b (floored a b) n

small_rest_of : (x b : ℤ) → IsSmall x → IsSmall (int_rem x b)
small_rest_of (pos a) b h = let less = rest_bound a (unsigned_abs b) in record { low = omega (arith, ints); high = omega (arith, ints, less, h.high) }
small_rest_of (negsuc a) b h = let less = rest_bound (suc a) (unsigned_abs b) in record { low = omega (arith, ints, less, h.low); high = omega (arith, ints) }

sum_small : (a b : ℤ) → IsWord a → IsWord b → IsSmall (a +ℤ b)
sum_small a b h k = record { low = omega (arith, ints, h.low, k.low); high = omega (arith, ints, h.high, k.high) }

whole_fits : (a m : ℤ) → IsWord a → IsSmall m → FitsSigned w64 (a -ℤ m)
whole_fits a m h k = fits_between (a -ℤ m) (omega (arith, ints, h.low, k.high)) (omega (arith, ints, h.high, k.low))

floor_small : (a b : ℤ) → IsWord a → IsSmall (floored a b)
floor_small (pos x) (pos y) h = let less = div-le_self x y in record { low = omega (arith, ints); high = omega (arith, ints, less, h.high) }
floor_small (pos zero) (negsuc y) h = let less = div-le_self 0 (suc y) in record { low = omega (arith, ints); high = omega (arith, ints, less) }
floor_small (pos (suc x)) (negsuc y) h = let less = div-le_self x (suc y) in record { low = omega (arith, ints, less, h.high); high = omega (arith, ints) }
floor_small (negsuc x) (pos y) h = let less = div-le_self x y in record { low = omega (arith, ints, less, h.low); high = omega (arith, ints) }
floor_small (negsuc x) (negsuc y) h = let less = div-le_self (suc x) (suc y) in record { low = omega (arith, ints); high = omega (arith, ints, less, h.low) }

small_long : (z : ℤ) → IsSmall z → IsLong z
small_long z h = record { low = omega (arith, ints, h.low); high = omega (arith, ints, h.high) }

pub half_small : (z : ℤ) → IsSmall z → (int_lt z (pos (2 ^ 63)) ≡ true) × (cast_unsigned w64 z ≡ pattern 64 z)
half_small (pos n) h = let high = h.high in (grind (arith, ints, high), omega (arith, ints, high))
half_small (negsuc n) h = (refl, omega (arith, ints, h.low))

divides_by : (x b : ℤ) → FitsSigned w64 x → FitsSigned w64 b → IsDivisor b → IsSmall (int_div x b) → binary_of DivS w64 (pattern 64 x) (pattern 64 b) ≡ Gives (pattern 64 (int_div x b))
divides_by x b fx fb divisor small =
    let z = int_div x b in
    let half = half_small z small in
    ap (λ t. if t then DividesByZero else quotient_in w64 (int_div (cast_signed w64 (pattern 64 x)) (cast_signed w64 (pattern 64 b)))) divisor.long
    ∙ ap (λ y. quotient_in w64 (int_div y (cast_signed w64 (pattern 64 b)))) (read w64 x fx) ∙ ap (λ y. quotient_in w64 (int_div x y)) (read w64 b fb)
    ∙ ap (λ t. if t then Gives (cast_unsigned w64 z) else Overflows) half.0 ∙ ap (λ n. Gives n) half.1

-- both operands in their locals
abbrev pub both_locals : ℕ → ℤ → ℤ → List Num → List Num
both_locals s a b locals = slice_set (long_kept s b locals) (s + 5) (I64 (pattern 64 a))

pub both_locals-right : (s : ℕ) (a b : ℤ) (locals : List Num) → HasScratch s locals → slice_get (both_locals s a b locals) (s + 4) ≡ Some (I64 (pattern 64 b))
both_locals-right s a b locals h = slice_get-set_other (long_kept s b locals) (s + 5) (s + 4) (I64 (pattern 64 a)) (λ e. omega (arith, e)) ∙ long-there s b locals h

pub both_locals-left : (s : ℕ) (a b : ℤ) (locals : List Num) → HasScratch s locals → slice_get (both_locals s a b locals) (s + 5) ≡ Some (I64 (pattern 64 a))
both_locals-left s a b locals h = slice_get-set_same (long_kept s b locals) (s + 5) (I64 (pattern 64 a)) (omega (arith, long-count s b locals h))

pub both_locals-keep : (s : ℕ) (a b : ℤ) (locals : List Num) → KeepsOthers s locals (both_locals s a b locals)
both_locals-keep s a b locals =
    keeps-set s 5 locals (long_kept s b locals) (I64 (pattern 64 a)) (lit< tt) (keeps-set s 4 locals locals (I64 (pattern 64 b)) (lit< tt) (keeps-same s locals))

pub moves-both : (m : Module) (v : View) (c : Config) (left right : IntTy) (s : ℕ) (a b : ℤ) (os locals : List Num) → IsNarrow left → IsNarrow right → IsIn left a → IsIn right b → HasScratch s locals → Moves m v c (both_kept left right s) (having (words a b os) locals) (having (I64 (pattern 64 b) ∷ I64 (pattern 64 a) ∷ I64 (pattern 64 a) ∷ os) (both_locals s a b locals)) 6
moves-both m v c left right s a b os locals hl hr il ir h =
    let x = I64 (pattern 64 a) in
    let y = I64 (pattern 64 b) in
    let one = long_kept s b locals in
    let two = both_locals s a b locals in
    andthen (moves (steps-extension m v c right b (I32 (pattern 32 a) ∷ os) locals hr ir))
    (andthen (moves (steps-set m v c (s + 4) y (I32 (pattern 32 a) ∷ os) locals (omega (arith, h))))
    (andthen (moves (steps-extension m v c left a os one hl il))
    (andthen (moves-tee m v c (s + 5) x os one (omega (arith, long-count s b locals h)))
    (andthen (moves (steps-get m v c (s + 5) x (x ∷ os) two (both_locals-left s a b locals h)))
    (moves (steps-get m v c (s + 4) y (x ∷ x ∷ os) two (both_locals-right s a b locals h)))))))

-- the quotient in the local and on the operands
moves-quotient : (m : Module) (v : View) (c : Config) (local : ℕ) (a b q r : ℤ) (os after : List Num) → local < length after → slice_get after local ≡ Some (I64 (pattern 64 b)) → binary_of DivS w64 (pattern 64 (a -ℤ r)) (pattern 64 b) ≡ Gives (pattern 64 q) → Moves m v c (whole_quotient local) (having (I64 (pattern 64 r) ∷ I64 (pattern 64 a) ∷ os) after) (having (I64 (pattern 64 q) ∷ os) (slice_set after local (I64 (pattern 64 q)))) 5
moves-quotient m v c local a b q r os after inside there gives =
    let z = I64 (pattern 64 q) in
    andthen (moves (steps-long m v c Sub (pattern 64 a) (pattern 64 r) (pattern 64 (a -ℤ r)) os after (ap (λ n. Gives n) (sub_bits w64 a r))))
    (andthen (moves (steps-get m v c local (I64 (pattern 64 b)) (I64 (pattern 64 (a -ℤ r)) ∷ os) after there))
    (andthen (moves (steps-long m v c DivS (pattern 64 (a -ℤ r)) (pattern 64 b) (pattern 64 q) os after gives))
    (andthen (moves (steps-set m v c local z os after inside))
    (moves (steps-get m v c local z os (slice_set after local z) (slice_get-set_same after local z inside))))))

floor_computes : (m : Module) (v : View) (c : Config) (s : ℕ) (left right to : IntTy) (a b : ℤ) (os locals : List Num) → IsNarrow left → IsNarrow right → IsNarrow to → IsIn left a → IsIn right b → IsDivisor b → (b ≡ pos 0 → ⊥) → HasScratch s locals → HasPanicState c.world.store → Computes m v c (floor_long left right to s) s a b (floored a b) os locals (is_in to (floored a b)) integer_overflow
floor_computes m v c s left right to a b os locals hl hr ht il ir divisor n h state =
    let q = floored a b in
    let r = int_rem (int_rem a b +ℤ b) b in
    let ha = word-narrow left a hl il in
    let hb = word-narrow right b hr ir in
    let fb = fits_long right b hr ir in
    let two = both_locals s a b locals in
    let inside : s + 4 < length two = omega (arith, h, (both_locals-keep s a b locals).count) in
    let z = I64 (pattern 64 q) in
    let three = slice_set two (s + 4) z in
    let there = slice_get-set_same two (s + 4) z inside in
    let is = floor_is a b n in
    let small = floor_small a b ha in
    let small2 : IsSmall (int_div (a -ℤ r) b) = subst IsSmall (sym is) small in
    let gives = divides_by (a -ℤ r) b (whole_fits a r ha (small_rest_of (int_rem a b +ℤ b) b (sum_small (int_rem a b) b (rest_low a b ha) hb))) fb divisor small2 ∙ ap (λ y. Gives (pattern 64 y)) is in
    let front = andthen (moves-both m v c left right s a b os locals hl hr il ir h)
    (andthen (moves-floored m v c (s + 4) a b (I64 (pattern 64 a) ∷ os) two (both_locals-right s a b locals h) ha hb (fits_long left a hl il) fb divisor)
    (moves-quotient m v c (s + 4) a b q r os two inside (both_locals-right s a b locals h) gives)) in
    let few = above-few to in
    record {
      passes = λ e. record {
        after = three;
        keeps = keeps-set s 4 locals two z (lit< tt) (both_locals-keep s a b locals);
        runs = (
            let all = andthen front (andthen (moves (in_range-passes m v c to q os three ht (small_long q small) e))
            (andthen (moves (steps-get m v c (s + 4) z os three there)) (moves (steps-wrap m v c (pattern 64 q) (pattern 32 q) os three (wrap_long q))))) in
            record { count = all.count; few = omega (arith, all.few, few); steps = all.steps }
            );
      };
      fails = λ e.
          let all = behind front (before (breaks (in_range-fails m v c to q os three ht (small_long q small) e state)) (LocalGet (s + 4) ∷ Convert Wrap ∷ [])) in
          record { count = all.count; few = omega (arith, all.few, few); fails = all.fails };
    }

natural_floor : (a b : ℤ) → IsNatural a → IsNatural b → int_div a b ≡ floored a b
natural_floor a b na nb =
    ap (λ z. int_div z b) na.is ∙ ap (λ z. int_div (pos na.value) z) nb.is ∙ ap (λ z. floored z (pos nb.value)) (sym na.is) ∙ ap (λ z. floored a z) (sym nb.is)

floor_for : (u : Bool) (m : Module) (v : View) (c : Config) (s : ℕ) (left right to : IntTy) (a b : ℤ) (os locals : List Num) → (are_unsigned left right && holds to left) ≡ u → IsNarrow left → IsNarrow right → IsNarrow to → IsIn left a → IsIn right b → IsDivisor b → (b ≡ pos 0 → ⊥) → HasScratch s locals → HasPanicState c.world.store → Computes m v c (if u then Binary ty.I32 DivU ∷ [] else floor_long left right to s) s a b (floored a b) os locals (is_in to (floored a b)) integer_overflow
floor_for true m v c s left right to a b os locals e hl hr ht il ir divisor n scratch state =
    let outer = both-true (are_unsigned left right) (holds to left) e in
    let inner = both-true (is_unsigned left) (is_unsigned right) outer.0 in
    let na = natural left a hl il inner.0 in
    let nb = natural right b hr ir inner.1 in
    let same = natural_floor a b na nb in
    word_computes m v c DivU s a b (floored a b) os locals (is_in to (floored a b)) (divides_word a b na nb divisor ∙ ap (λ z. Gives (pattern 32 z)) same)
    (ap (is_in to) (sym same) ∙ quotient_in_type left right to a b na nb inner.0 outer.1 il)
floor_for false m v c s left right to a b os locals e hl hr ht il ir divisor n scratch state =
    floor_computes m v c s left right to a b os locals hl hr ht il ir divisor n scratch state

some-floor : (m : Module) (v : View) (c : Config) (s : ℕ) (left right to : IntTy) (a b : ℤ) (os : List Num) (rest : List Instr) → IsNarrow left → IsNarrow right → IsNarrow to → IsIn left a → IsIn right b → IsDivisor b → (b ≡ pos 0 → ⊥) → HasScratch s c.frame.locals → HasPanicState c.world.store → EndsOn m v c s left right to a b os (floor_code left right to s) rest (exact to (floored a b))
some-floor m v c s left right to a b os rest hl hr ht il ir divisor n scratch state =
    let u = are_unsigned left right && holds to left in
    divides (is_in to (floored a b)) m v c s left right to a b (floored a b) os (if u then Binary ty.I32 DivU ∷ [] else floor_long left right to s) rest hl hr ht divisor scratch state
    (λ locals there. floor_for u m v c s left right to a b os locals refl hl hr ht il ir divisor n there state)

pub floor-ends : (m : Module) (v : View) (c : Config) (s : ℕ) (left right to : IntTy) (a b : ℤ) (os : List Num) (rest : List Instr) → IsNarrow left → IsNarrow right → IsNarrow to → IsIn left a → IsIn right b → HasScratch s c.frame.locals → HasPanicState c.world.store → EndsOn m v c s left right to a b os (floor_code left right to s) rest (divided b (exact to (floored a b)))
floor-ends m v c s left right to a (pos zero) os rest hl hr ht il ir scratch state =
    by_zero m v c s left right to a os (if are_unsigned left right && holds to left then Binary ty.I32 DivU ∷ [] else floor_long left right to s) rest hl hr scratch state
floor-ends m v c s left right to a (pos (suc n)) os rest hl hr ht il ir scratch state =
    some-floor m v c s left right to a (pos (suc n)) os rest hl hr ht il ir (divisor_from n (word-narrow right (pos (suc n)) hr ir)) (λ e. omega (arith, ints, e)) scratch state
floor-ends m v c s left right to a (negsuc n) os rest hl hr ht il ir scratch state =
    some-floor m v c s left right to a (negsuc n) os rest hl hr ht il ir (divisor_below n (word-narrow right (negsuc n) hr ir)) (λ e. omega (arith, ints, e)) scratch state
