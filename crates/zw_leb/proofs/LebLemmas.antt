-- How the shortest spellings of numbers go on.
use Rattle.std.proofs.Common.{◌≡◌, ℕ, zero, suc, ◌+◌, ◌-◌, ◌*◌, ◌/◌, ◌%◌, ◌^◌, ◌<◌, ◌≤◌, ℤ, pos, negsuc, true, false, List, [], ◌∷◌, ◌++◌, refl, sym, ap, ◌∙◌, inl, inr, length, length-append, append_assoc, arith, ◌⊎◌, unsigned_abs, to_z, of_z, w64, SFits}
use Rattle.std.proofs.Math.Nat.{pow-suc}
use Rattle.std.proofs.lemmas.Bool.{lt-ltb, le-ltb, cases_lt, leb-true, leb-false, ltb-true, ltb-false}
use Rattle.std.proofs.lemmas.Int.{to_z-of_z}
use Rattle.std.specs.Int.{int_rem_euclid, int_div_euclid}
use Rattle.std.specs.Int.Signed.{lt_z, le_z}
use Rattle.zw_leb.specs.Leb.{unsigned_within, unsigned, signed_within, signed}

quotient_below : (n m : ℕ) → n < 128 * m → n / 128 < m
quotient_below n m h = omega arith

power_more : (more : ℕ) → 128 ^ suc more ≡ 128 * 128 ^ more
power_more more = omega (arith, pow-suc 128 more)

-- a number that needs no more bytes is spelled the same where more are allowed
unsigned_within-more : (more n : ℕ) → n < 128 ^ suc more → unsigned_within (suc more) n ≡ unsigned_within more n
unsigned_within-more zero n h = rw (lt-ltb n 128 (omega (arith, power_more 0))) refl
unsigned_within-more (suc more) n h =
    elim (cases_lt n 128) [
      | inl last ↦ rw (lt-ltb n 128 last) refl
      | inr long ↦ rw (le-ltb n 128 long) (ap (λ (bytes : List ℕ). (n % 128 + 128) ∷ bytes) (unsigned_within-more more (n / 128) (quotient_below n (128 ^ suc more) (omega (arith, power_more (suc more))))))
    ]

pub unsigned_last : (n : ℕ) → n < 128 → unsigned n ≡ n ∷ []
unfolding unsigned
unsigned_last n last = rw (lt-ltb n 128 last) refl

pub unsigned_more : (n : ℕ) → 128 ≤ n → n < 2 ^ 64 → unsigned n ≡ (n % 128 + 128) ∷ unsigned (n / 128)
unfolding unsigned
unsigned_more n long fits = rw (le-ltb n 128 long) (ap (λ (bytes : List ℕ). (n % 128 + 128) ∷ bytes) (sym (unsigned_within-more 8 (n / 128) (omega arith))))

-- the same of signed numbers
signed_within-more_pos : (more n : ℕ) → n < 64 * 128 ^ more → signed_within (suc more) (pos n) ≡ signed_within more (pos n)
signed_within-more_pos zero n h = rw (lt-ltb n 64 (omega arith)) refl
signed_within-more_pos (suc more) n h =
    elim (cases_lt n 64) [
      | inl last ↦ rw (lt-ltb n 64 last) refl
      | inr long ↦ rw (le-ltb n 64 long) (ap (λ (bytes : List ℕ). (n % 128 + 128) ∷ bytes) (signed_within-more_pos more (n / 128) (quotient_below n (64 * 128 ^ more) (omega (arith, power_more more)))))
    ]

signed_within-more_negsuc : (more n : ℕ) → n < 64 * 128 ^ more → signed_within (suc more) (negsuc n) ≡ signed_within more (negsuc n)
signed_within-more_negsuc zero n h = rw (lt-ltb n 64 (omega arith)) refl
signed_within-more_negsuc (suc more) n h =
    elim (cases_lt n 64) [
      | inl last ↦ rw (lt-ltb n 64 last) refl
      | inr long ↦ rw (le-ltb n 64 long) (ap (λ (bytes : List ℕ). (255 - n % 128) ∷ bytes) (signed_within-more_negsuc more (n / 128) (quotient_below n (64 * 128 ^ more) (omega (arith, power_more more)))))
    ]

pub signed_last_pos : (n : ℕ) → n < 64 → signed (pos n) ≡ n ∷ []
unfolding signed
signed_last_pos n last = rw (lt-ltb n 64 last) refl

pub signed_last_negsuc : (n : ℕ) → n < 64 → signed (negsuc n) ≡ (127 - n) ∷ []
unfolding signed
signed_last_negsuc n last = rw (lt-ltb n 64 last) refl

pub signed_more_pos : (n : ℕ) → 64 ≤ n → n < 2 ^ 63 → signed (pos n) ≡ (n % 128 + 128) ∷ signed (pos (n / 128))
unfolding signed
signed_more_pos n long fits = rw (le-ltb n 64 long) (ap (λ (bytes : List ℕ). (n % 128 + 128) ∷ bytes) (sym (signed_within-more_pos 8 (n / 128) (omega arith))))

pub signed_more_negsuc : (n : ℕ) → 64 ≤ n → n < 2 ^ 63 → signed (negsuc n) ≡ (255 - n % 128) ∷ signed (negsuc (n / 128))
unfolding signed
signed_more_negsuc n long fits = rw (le-ltb n 64 long) (ap (λ (bytes : List ℕ). (255 - n % 128) ∷ bytes) (sym (signed_within-more_negsuc 8 (n / 128) (omega arith))))

-- ten bytes hold a spelling that has some more to come
pub room_left : (now rest whole : List ℕ) (len : ℕ) → now ++ rest ≡ whole → length now ≡ len → 1 ≤ length rest → length whole ≤ 10 → len < 10
room_left now rest whole len e l some few = omega (arith, length-append now rest, ap length e)

pub length_more : (now before : List ℕ) (byte len len' : ℕ) → now ≡ before ++ byte ∷ [] → len' ≡ len + 1 → length before ≡ len → length now ≡ len'
length_more now before byte len len' e l so_far = rw e (omega (arith, length-append before (byte ∷ [])))

-- bytes with one more, and then the rest, are the whole
pub one_more : (now before rest whole : List ℕ) (byte : ℕ) → now ≡ before ++ byte ∷ [] → before ++ byte ∷ rest ≡ whole → now ++ rest ≡ whole
one_more now before rest whole byte pushed so_far = rw (pushed, append_assoc) so_far

-- what needs more than one byte
abbrev pub IsLong : ℤ → Type 0
IsLong z = (lt_z z (negsuc 63) ≡ true) ⊎ (le_z (pos 64) z ≡ true)

pub signed_more : (z : ℤ) → IsLong z → SFits w64 z → signed z ≡ (unsigned_abs (int_rem_euclid z (pos 128)) + 128) ∷ signed (int_div_euclid z (pos 128))
signed_more (pos n) (inl long) fits = absurd cc
signed_more (pos n) (inr long) fits = signed_more_pos n (leb-true 64 n long) (omega arith)
signed_more (negsuc n) (inl long) fits =
    let above : 63 < n = ltb-true 63 n long in
    let low : 255 - n % 128 ≡ 127 - n % 128 + 128 = omega arith in
    signed_more_negsuc n (omega arith) (omega arith) ∙ ap (λ (byte : ℕ). byte ∷ signed (negsuc (n / 128))) low
signed_more (negsuc n) (inr long) fits = absurd cc

pub signed_last : (z : ℤ) → lt_z z (negsuc 63) ≡ false → le_z (pos 64) z ≡ false → signed z ≡ unsigned_abs (int_rem_euclid z (pos 128)) ∷ []
signed_last (pos n) low high =
    let below : n < 64 = leb-false 64 n high in
    let same : n ≡ n % 128 = omega arith in
    signed_last_pos n below ∙ ap (λ (byte : ℕ). byte ∷ []) same
signed_last (negsuc n) low high =
    let below : n ≤ 63 = ltb-false 63 n low in
    let same : 127 - n ≡ 127 - n % 128 = omega arith in
    signed_last_negsuc n (omega arith) ∙ ap (λ (byte : ℕ). byte ∷ []) same

remainder_fits : (z : ℤ) → SFits w64 (int_rem_euclid z (pos 128))
remainder_fits (pos n) = record { sfits = omega arith }
remainder_fits (negsuc n) = record { sfits = omega arith }

-- a turn of the loop: one byte goes to the end, and the quotient is left
pub long_step : (now before whole : List ℕ) (z byte left : ℤ) → now ≡ before ++ (unsigned_abs (to_z w64 (of_z w64 byte)) + 128) ∷ [] → byte ≡ int_rem_euclid z (pos 128) → left ≡ int_div_euclid z (pos 128)
    → SFits w64 left → IsLong z → SFits w64 z → before ++ signed z ≡ whole → now ++ signed (to_z w64 (of_z w64 left)) ≡ whole
long_step now before whole z byte left pushed byte-is left-is left_fits long fits so_far =
    let byte-same : to_z w64 (of_z w64 byte) ≡ int_rem_euclid z (pos 128) = ap (λ (b : ℤ). to_z w64 (of_z w64 b)) byte-is ∙ to_z-of_z w64 (int_rem_euclid z (pos 128)) (remainder_fits z) in
    let left-same : to_z w64 (of_z w64 left) ≡ int_div_euclid z (pos 128) = to_z-of_z w64 left left_fits ∙ left-is in
    one_more now before (signed (to_z w64 (of_z w64 left))) whole _ pushed (rw (byte-same, left-same, ← signed_more z long fits) so_far)

pub last_step : (now before whole : List ℕ) (z byte : ℤ) → now ≡ before ++ unsigned_abs (to_z w64 (of_z w64 byte)) ∷ [] → byte ≡ int_rem_euclid z (pos 128)
    → lt_z z (negsuc 63) ≡ false → le_z (pos 64) z ≡ false → before ++ signed z ≡ whole → now ≡ whole
last_step now before whole z byte pushed byte-is low high so_far =
    let byte-same : to_z w64 (of_z w64 byte) ≡ int_rem_euclid z (pos 128) = ap (λ (b : ℤ). to_z w64 (of_z w64 b)) byte-is ∙ to_z-of_z w64 (int_rem_euclid z (pos 128)) (remainder_fits z) in
    pushed ∙ rw (byte-same, ← signed_last z low high) so_far
