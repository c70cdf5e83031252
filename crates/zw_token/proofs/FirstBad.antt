-- How far a text has been looked at for bad bytes, and the first of them.
use Rattle.std.proofs.Common.{◌≡◌, ℕ, zero, suc, Bool, get_or, ◌+◌, ◌<◌, ◌≤◌, List, [], ◌∷◌, length, drop, take, true, false, sym, refl, ap, ◌∙◌, subst, inl, inr, ⊎_elim, arith, length-drop}
use Rattle.std.specs.Prelude.{◌&&◌, nat_eq}
use Rattle.std.specs.List.{starts_with}
use Rattle.std.specs.Str.{IsUtf8, IsValidUpTo, StartsWithNoChar}
use Rattle.std.proofs.Math.Seq.{take-add}
use Rattle.std.proofs.Math.Utf8.{encode}
use Rattle.std.proofs.lemmas.Bool.{false≢true, and_parts, or_from, eqb-true, cases_lt}
use Rattle.std.proofs.lemmas.Bool.Decides.{nat_tests}
use Rattle.std.proofs.lemmas.List.{get_or-drop}
use Rattle.std.proofs.lemmas.Str.{IsUtf8-append, IsUtf8-encode, IsUtf8-nil}
use Rattle.std.proofs.str.Faults.{valid_to}
use Rattle.zw_token.specs.Bytes.{is_bad_control, starts_bad}
use Rattle.zw_token.specs.Reading.{IsGoodUpTo}
use Rattle.zw_token.specs.Tokens.{IsBadByte, IsFirstBad, HasNoBadByte, start_of}
use Rattle.zw_token.proofs.CodePoints.{ascii_point}
use Rattle.zw_token.proofs.Fronts.{choose}
use Rattle.zw_token.proofs.Lists.{past_empty}

-- a bad byte stands no earlier
pub good_before : (text : List ℕ) (at valid : ℕ) → IsGoodUpTo text at valid → (bad : ℕ) → IsBadByte text bad → at ≤ bad
good_before text at valid good bad =
    ⊎_elim
    (λ (control : starts_bad (drop bad text) ≡ true). ⊎_elim (λ before. absurd (false≢true (sym (good.no_control bad before) ∙ control))) (λ le. le) (cases_lt bad at))
    (λ (up_to : IsValidUpTo text bad). ⊎_elim (λ before. absurd (up_to.longest valid before good.is_utf8)) (λ (le : valid ≤ bad). let ordered = good.ordered in omega (arith, ordered, le)) (cases_lt bad valid))

pub good_point : (text : List ℕ) (at valid n : ℕ) → IsGoodUpTo text at valid → valid ≤ at → n ≤ length (drop at text) → IsUtf8 (take n (drop at text)) → IsGoodUpTo text at (at + n)
good_point text at valid n good le within point =
    let same : valid ≡ at = let ordered = good.ordered in omega (arith, ordered, le) in
    let inside = good.within in
    record {
      ordered = omega arith;
      within = omega (arith, same, inside, within, length-drop at text);
      is_utf8 = subst IsUtf8 (sym (take-add at n text)) (IsUtf8-append (take at text) (take n (drop at text)) (subst (λ v. IsUtf8 (take v text)) same good.is_utf8) point);
      no_control = good.no_control;
    }

pub good_more : (text : List ℕ) (at valid : ℕ) → IsGoodUpTo text at valid → at < valid → starts_bad (drop at text) ≡ false → IsGoodUpTo text (at + 1) valid
good_more text at valid good before fine = record {
  ordered = omega arith;
  within = good.within;
  is_utf8 = good.is_utf8;
  no_control = λ k below. ⊎_elim (λ less. good.no_control k less) (λ (le : at ≤ k). let same : at ≡ k = omega (arith, le, below) in subst (λ i. starts_bad (drop i text) ≡ false) same fine) (cases_lt k at);
}

left_false : (a b : Bool) → a ≡ false → (a && b) ≡ false
left_false true b h = absurd (false≢true (sym h))
left_false false b h = refl

plain_fine : (rest : List ℕ) → 0 < length rest → 32 ≤ get_or rest 0 0 → get_or rest 0 0 < 127 → starts_bad rest ≡ false
unfolding starts_bad is_bad_control
plain_fine [] some least most = absurd (omega arith)
plain_fine (b ∷ rest) some least most = or_from _ _ control (or_from _ _ (or_from _ _ (left_false _ _ (apart 0xC2 (omega arith))) (left_false _ _ (apart 0xE2 (omega arith)))) (left_false _ _ (apart 0xE2 (omega arith))))
  where
    control : is_bad_control b ≡ false
    control = grind (arith, nat_tests)

    apart : (c : ℕ) → b < c → nat_eq c b ≡ false
    apart c more = grind (arith, nat_tests)

-- a printable ASCII byte is no bad byte
pub plain_more : (text : List ℕ) (at valid : ℕ) → IsGoodUpTo text at valid → at ≡ valid → at < length text → 32 ≤ get_or text at 0 → get_or text at 0 < 127 → IsGoodUpTo text (at + 1) (at + 1)
plain_more text at valid good same short least most =
    let rest : List ℕ = drop at text in
    let place : at + 0 ≡ at = omega arith in
    let first : get_or rest 0 0 ≡ get_or text at 0 = get_or-drop at text 0 0 ∙ ap (λ k. get_or text k 0) place in
    let some : 1 ≤ length rest = omega (arith, short, length-drop at text) in
    let point = ascii_point rest some (omega (arith, first, most)) in
    good_more text at (at + 1) (good_point text at valid 1 good (omega (arith, same)) some point) (omega arith) (plain_fine rest some (omega (arith, first, least)) (omega (arith, first, most)))

pub bad_control : (text : List ℕ) (at valid : ℕ) → IsGoodUpTo text at valid → starts_bad (drop at text) ≡ true → IsFirstBad text at
bad_control text at valid good bad = record { is_bad = inl bad; first = good_before text at valid good }

pub bad_point : (text : List ℕ) (at valid : ℕ) → IsGoodUpTo text at valid → valid ≤ at → at < length text → StartsWithNoChar (drop at text) → IsFirstBad text at
bad_point text at valid good le short none =
    let same : valid ≡ at = let ordered = good.ordered in omega (arith, ordered, le) in
    record { is_bad = inr (valid_to text at short (subst (λ v. IsUtf8 (take v text)) same good.is_utf8) none); first = good_before text at valid good }

some_left : (text : List ℕ) (at : ℕ) → starts_bad (drop at text) ≡ true → at < length text
unfolding starts_bad
some_left text at bad = ⊎_elim (λ h. h) (λ past. absurd (false≢true (ap starts_bad (sym (past_empty text at past)) ∙ bad))) (cases_lt at (length text))

-- a bad byte is one of the text
pub bad_within : (text : List ℕ) (at : ℕ) → IsBadByte text at → at < length text
bad_within text at = ⊎_elim (some_left text at) (λ up_to. up_to.short)

-- a text has none that has none up to its end
pub good_all : (text : List ℕ) (at valid : ℕ) → IsGoodUpTo text at valid → at ≡ length text → HasNoBadByte text
good_all text at valid good all = λ bad is. let le = good_before text at valid good bad is in let less = bad_within text bad is in omega (arith, le, less, all)

bom_good : (rest : List ℕ) → IsGoodUpTo (0xEF ∷ 0xBB ∷ 0xBF ∷ rest) 3 3
unfolding encode starts_bad is_bad_control
bom_good rest = record {
  ordered = omega arith;
  within = omega arith;
  is_utf8 = IsUtf8-encode 0xFEFF refl;
  no_control = fine;
}
  where
    fine : (k : ℕ) → k < 3 → starts_bad (drop k (0xEF ∷ 0xBB ∷ 0xBF ∷ rest)) ≡ false
    fine zero below = refl
    fine (suc zero) below = refl
    fine (suc (suc zero)) below = refl
    fine (suc (suc (suc k))) below = absurd (omega arith)

with_bom : (text : List ℕ) → starts_with nat_eq text (0xEF ∷ 0xBB ∷ 0xBF ∷ []) ≡ true → IsGoodUpTo text 3 3
with_bom [] h = absurd (false≢true h)
with_bom (a ∷ []) h = absurd (false≢true (and_parts _ _ h).1)
with_bom (a ∷ b ∷ []) h = absurd (false≢true (and_parts _ _ (and_parts _ _ h).1).1)
with_bom (a ∷ b ∷ c ∷ rest) h =
    let first = and_parts _ _ h in
    let second = and_parts _ _ first.1 in
    let third = and_parts _ _ second.1 in
    subst (λ x. IsGoodUpTo (x ∷ b ∷ c ∷ rest) 3 3) (eqb-true 0xEF a first.0)
    (subst (λ x. IsGoodUpTo (0xEF ∷ x ∷ c ∷ rest) 3 3) (eqb-true 0xBB b second.0)
    (subst (λ x. IsGoodUpTo (0xEF ∷ 0xBB ∷ x ∷ rest) 3 3) (eqb-true 0xBF c third.0) (bom_good rest)))

-- a byte order mark is no bad byte
pub start_good : (text : List ℕ) → IsGoodUpTo text (start_of text) (start_of text)
unfolding start_of
start_good text =
    choose (starts_with nat_eq text (0xEF ∷ 0xBB ∷ 0xBF ∷ [])) 3 0 (λ n. IsGoodUpTo text n n) (with_bom text)
    (λ _. record { ordered = omega arith; within = omega arith; is_utf8 = IsUtf8-nil; no_control = λ k below. absurd (omega arith) })
