-- Which operators are served, by the test, where their code goes, and that it is right.
use Rattle.std.proofs.Common.{◌≡◌, ◌⊎◌, ℕ, ◌%◌, Bool, true, false, not, inl, inr, refl, sym, ap, ◌∙◌}
use Rattle.std.specs.Prelude.{◌&&◌, ◌||◌, nat_eq, if◌then◌else◌}
use Rattle.std.proofs.lemmas.Bool.{or_left, or_right, and_parts, and_from, leb-true, le-leb, both_ways}
use Rattle.std.proofs.lemmas.Bool.Decides.{Decides-and, Decides-or, Decides-like, Decides-eqb}
use Rattle.std.specs.Bool.{Decides}
use Rattle.zw_num.specs.Arithmetic.{width}
use Rattle.zw_num.specs.declared.int_ty.IntTy.{IntTy}
use Rattle.zw_num.specs.declared.int_ty.IntTy.TheVariants.{Sized, Comptime}
use Rattle.zw_num.specs.declared.operator.Operator.{Operator}
use Rattle.zw_num.specs.declared.operator.Operator.TheVariants as family
use Rattle.zw_safety_narrow.proofs.FamiliesRight.{family_right}
use Rattle.zw_safety_narrow.specs.CastCode.{holds}
use Rattle.zw_safety_narrow.specs.CompareCode.{is_unsigned}
use Rattle.zw_safety_narrow.specs.Families.{narrow_code}
use Rattle.zw_safety_narrow.specs.Operators.{IsNarrow, IsStored, IsServedIn32, IsRight, has_two, has_one, has_code, is_saturated_shift, is_byte_swap, is_wrapping_sum, fills_word, fill_words}
use Rattle.zw_safety_narrow.specs.declared.setting.Setting.{Setting}
use Rattle.zw_safety_wide.specs.WideFamilies.{wide_operator_code}
use Rattle.zw_safety_wide.specs.WideSignedCode.{are_wide_shares}
use Rattle.zw_safety.proofs.WideFamiliesRight.{right_of_two, right_of_one}
use Rattle.zw_safety.specs.Families.{IsServed, IsServedIn64, has_at_most, fit_in, amount_fits, bytes_fit, types_fit, is_share, is_kept_shift, serves_in_32, serves_in_64, is_served, last_type, goes_wide, stored_code}

-- ---- parts of the test

itself : (b : Bool) → Decides b (b ≡ true)
itself b = (λ e. e, λ e. e)

-- what is asked where a test holds
asked : {P : Type 0} (b c : Bool) → Decides c P → Decides (not b || c) (b ≡ true → P)
asked true c d = (λ e u. d.0 e, λ f. d.1 (f refl))
asked false c d = (λ e u. absurd (cc), λ f. refl)

narrow_type : (t : IntTy) → Decides (has_at_most 32 t) (IsNarrow t)
narrow_type (Sized signed count) = (λ e. leb-true count 32 e, λ h. le-leb count 32 h)
narrow_type Comptime = (λ e. absurd (cc), λ h. absurd h)

stored_type : (t : IntTy) → Decides (has_at_most 64 t) (IsStored t)
stored_type (Sized signed count) = (λ e. leb-true count 64 e, λ h. le-leb count 64 h)
stored_type Comptime = (λ e. absurd (cc), λ h. absurd h)

shifts : (o : Operator) (right : IntTy) → Decides (amount_fits o right) (is_saturated_shift o ≡ true → is_unsigned right ≡ true)
shifts o right = asked (is_saturated_shift o) (is_unsigned right) (itself (is_unsigned right))

swaps : (o : Operator) (left : IntTy) → Decides (bytes_fit o left) (is_byte_swap o ≡ true → width left % 8 ≡ 0)
swaps o left = asked (is_byte_swap o) (nat_eq (width left % 8) 0) (Decides-eqb (width left % 8) 0)

-- ---- on types of at most 32 bits

parts_in_32 : (o : Operator) (t : Setting) →
    Decides (serves_in_32 o t) ((has_code o ≡ true) × ((IsNarrow t.left × ((has_two o ≡ true → IsNarrow t.right) × IsNarrow t.to)) × ((is_saturated_shift o ≡ true → is_unsigned t.right ≡ true) × (is_byte_swap o ≡ true → width t.left % 8 ≡ 0))))
parts_in_32 o t =
    Decides-and (has_code o) (fit_in 32 o t && (amount_fits o t.right && bytes_fit o t.left)) (itself (has_code o))
    (Decides-and (fit_in 32 o t) (amount_fits o t.right && bytes_fit o t.left)
    (Decides-and (has_at_most 32 t.left) ((not (has_two o) || has_at_most 32 t.right) && has_at_most 32 t.to) (narrow_type t.left)
    (Decides-and (not (has_two o) || has_at_most 32 t.right) (has_at_most 32 t.to)
    (asked (has_two o) (has_at_most 32 t.right) (narrow_type t.right)) (narrow_type t.to)))
    (Decides-and (amount_fits o t.right) (bytes_fit o t.left) (shifts o t.right) (swaps o t.left)))

served_in_32 : (o : Operator) (t : Setting) → Decides (serves_in_32 o t) (IsServedIn32 o t)
served_in_32 o t =
    Decides-like (serves_in_32 o t)
    (λ p. record { coded = p.0; left_narrow = p.1.0.0; right_narrow = p.1.0.1.0; to_narrow = p.1.0.1.1; right_unsigned = p.1.1.0; whole_bytes = p.1.1.1 })
    (λ h. (h.coded, ((h.left_narrow, (h.right_narrow, h.to_narrow)), (h.right_unsigned, h.whole_bytes))))
    (parts_in_32 o t)

-- ---- on types of at most 64 bits

type_parts : (o : Operator) (t : Setting) →
    Decides (types_fit o t) ((is_share o ≡ true → are_wide_shares t.left t.right t.to ≡ true) × ((is_kept_shift o ≡ true → holds t.to t.left ≡ true) × (is_saturated_shift o ≡ true → is_unsigned t.right ≡ true)))
type_parts o t =
    Decides-and (not (is_share o) || are_wide_shares t.left t.right t.to) ((not (is_kept_shift o) || holds t.to t.left) && amount_fits o t.right)
    (asked (is_share o) (are_wide_shares t.left t.right t.to) (itself (are_wide_shares t.left t.right t.to)))
    (Decides-and (not (is_kept_shift o) || holds t.to t.left) (amount_fits o t.right)
    (asked (is_kept_shift o) (holds t.to t.left) (itself (holds t.to t.left))) (shifts o t.right))

parts_in_64 : (o : Operator) (t : Setting) →
    Decides (serves_in_64 o t) ((has_code o ≡ true) × ((IsStored t.left × ((has_two o ≡ true → IsStored t.right) × IsStored t.to)) × (((is_share o ≡ true → are_wide_shares t.left t.right t.to ≡ true) × ((is_kept_shift o ≡ true → holds t.to t.left ≡ true) × (is_saturated_shift o ≡ true → is_unsigned t.right ≡ true))) × (is_byte_swap o ≡ true → width t.left % 8 ≡ 0))))
parts_in_64 o t =
    Decides-and (has_code o) (fit_in 64 o t && (types_fit o t && bytes_fit o t.left)) (itself (has_code o))
    (Decides-and (fit_in 64 o t) (types_fit o t && bytes_fit o t.left)
    (Decides-and (has_at_most 64 t.left) ((not (has_two o) || has_at_most 64 t.right) && has_at_most 64 t.to) (stored_type t.left)
    (Decides-and (not (has_two o) || has_at_most 64 t.right) (has_at_most 64 t.to)
    (asked (has_two o) (has_at_most 64 t.right) (stored_type t.right)) (stored_type t.to)))
    (Decides-and (types_fit o t) (bytes_fit o t.left) (type_parts o t) (swaps o t.left)))

served_in_64 : (o : Operator) (t : Setting) → Decides (serves_in_64 o t) (IsServedIn64 o t)
served_in_64 o t =
    Decides-like (serves_in_64 o t)
    (λ p. record {
      coded = p.0;
      left_stored = p.1.0.0;
      right_stored = p.1.0.1.0;
      to_stored = p.1.0.1.1;
      shares = p.1.1.0.0;
      kept = p.1.1.0.1.0;
      right_unsigned = p.1.1.0.1.1;
      whole_bytes = p.1.1.1;
    })
    (λ h. (h.coded, ((h.left_stored, (h.right_stored, h.to_stored)), ((h.shares, (h.kept, h.right_unsigned)), h.whole_bytes))))
    (parts_in_64 o t)

served : (o : Operator) (t : Setting) → Decides (is_served o t) (IsServed o t)
served o t = Decides-or (serves_in_32 o t) (serves_in_64 o t) (served_in_32 o t) (served_in_64 o t)

pub by_test : (r : Bool) (o : Operator) (t : Setting) → r ≡ is_served o t → Decides r (IsServed o t)
by_test r o t e = (λ f. (served o t).0 (sym e ∙ f), λ h. e ∙ (served o t).1 h)

-- ---- operators of two operands, and of one

never_one : (o : Operator) → has_two o ≡ true → has_one o ≡ false
never_one (family.Arithmetic x) e = refl
never_one (family.Division x) e = refl
never_one (family.Bitwise x) e = refl
never_one (family.Shift x) e = refl
never_one (family.Comparison x) e = refl
never_one (family.Extreme x) e = refl
never_one (family.Unary x) e = absurd (cc)
never_one (family.Count x) e = absurd (cc)
never_one (family.Cast x) e = absurd (cc)
never_one (family.Logic x) e = absurd (cc)
never_one (family.Measure x) e = absurd (cc)

by_either : {Q : Type 0} (b c : Bool) → (b ≡ true → Q) → (c ≡ true → Q) → (b || c) ≡ true → Q
by_either true c first second e = first refl
by_either false c first second e = second e

-- which of the two an operator is
by_kind : {Q : Type 0} (o : Operator) → has_code o ≡ true → (has_two o ≡ true → Q) → (has_one o ≡ true → Q) → Q
by_kind o e two one = by_either (has_two o) (has_one o) two one e

-- ---- where the code goes

narrow-is : (t : IntTy) → IsStored t → fills_word t ≡ true → IsNarrow t
narrow-is (Sized signed count) h e = leb-true count 32 e
narrow-is Comptime h e = absurd h

word-narrow : (t : IntTy) → IsNarrow t → fills_word t ≡ true
word-narrow (Sized signed count) h = le-leb count 32 h
word-narrow Comptime h = absurd h

turned : (b t : Bool) → not b ≡ t → b ≡ not t
turned true t e = ap not e
turned false t e = ap not e

-- the types that tell where an operator goes
fills_of_two : (o : Operator) (t : Setting) → has_two o ≡ true → fill_words t.left (last_type o t) t.to ≡ fill_words t.left t.right t.to
fills_of_two o t e = ap (λ b. fill_words t.left (if b then t.left else t.right) t.to) (never_one o e)

fills_of_one : (o : Operator) (t : Setting) → has_one o ≡ true → fill_words t.left (last_type o t) t.to ≡ fill_words t.left t.left t.to
fills_of_one o t e = ap (λ b. fill_words t.left (if b then t.left else t.right) t.to) e

all-narrow : (left right to : IntTy) → IsNarrow left → IsNarrow right → IsNarrow to → fill_words left right to ≡ true
all-narrow left right to h k l =
    and_from (fills_word left) (fills_word right && fills_word to) (word-narrow left h) (and_from (fills_word right) (fills_word to) (word-narrow right k) (word-narrow to l))

words-narrow : (o : Operator) (t : Setting) → IsServedIn32 o t → fill_words t.left (last_type o t) t.to ≡ true
words-narrow o t h =
    by_kind o h.coded
    (λ two. fills_of_two o t two ∙ all-narrow t.left t.right t.to h.left_narrow (h.right_narrow two) h.to_narrow)
    (λ one. fills_of_one o t one ∙ all-narrow t.left t.left t.to h.left_narrow h.left_narrow h.to_narrow)

never-wide : (o : Operator) (t : Setting) → IsServedIn32 o t → goes_wide o t ≡ true → ⊥
never-wide o t h g =
    let fills = fill_words t.left (last_type o t) t.to in
    both_ways fills (turned fills true (and_parts (has_code o) (not fills) g).1) (words-narrow o t h)

-- where an operator goes by the types alone
goes-by : (o : Operator) (t : Setting) (b : Bool) → has_code o ≡ true → goes_wide o t ≡ b → fill_words t.left (last_type o t) t.to ≡ not b
goes-by o t b e g =
    let fills = fill_words t.left (last_type o t) t.to in
    turned fills b (sym (ap (λ c. c && not fills) e) ∙ g)

served-two : (o : Operator) (t : Setting) → IsServedIn64 o t → has_two o ≡ true → fill_words t.left t.right t.to ≡ true → IsServedIn32 o t
served-two o t h two e =
    let outer = and_parts (fills_word t.left) (fills_word t.right && fills_word t.to) e in
    let inner = and_parts (fills_word t.right) (fills_word t.to) outer.1 in
    record {
      coded = h.coded;
      left_narrow = narrow-is t.left h.left_stored outer.0;
      right_narrow = λ among. narrow-is t.right (h.right_stored two) inner.0;
      to_narrow = narrow-is t.to h.to_stored inner.1;
      right_unsigned = h.right_unsigned;
      whole_bytes = h.whole_bytes;
    }

served-one : (o : Operator) (t : Setting) → IsServedIn64 o t → has_one o ≡ true → fill_words t.left t.left t.to ≡ true → IsServedIn32 o t
served-one o t h one e =
    let outer = and_parts (fills_word t.left) (fills_word t.left && fills_word t.to) e in
    let inner = and_parts (fills_word t.left) (fills_word t.to) outer.1 in
    record {
      coded = h.coded;
      left_narrow = narrow-is t.left h.left_stored outer.0;
      right_narrow = λ two. absurd (both_ways (has_one o) (never_one o two) one);
      to_narrow = narrow-is t.to h.to_stored inner.1;
      right_unsigned = h.right_unsigned;
      whole_bytes = h.whole_bytes;
    }

served-narrow : (o : Operator) (t : Setting) → IsServedIn64 o t → goes_wide o t ≡ false → IsServedIn32 o t
served-narrow o t h g =
    let e = goes-by o t false h.coded g in
    by_kind o h.coded
    (λ two. served-two o t h two (sym (fills_of_two o t two) ∙ e))
    (λ one. served-one o t h one (sym (fills_of_one o t one) ∙ e))

-- what is left for the code on types of at most 32 bits
left-narrow : (o : Operator) (t : Setting) → IsServed o t → goes_wide o t ≡ false → IsServedIn32 o t
left-narrow o t served g = elim served [ inl h ↦ h | inr h ↦ served-narrow o t h g ]

pub left_stays_narrow : (o : Operator) (t : Setting) → IsServed o t → goes_wide o t ≡ false → IsNarrow t.left
left_stays_narrow o t served g = (left-narrow o t served g).left_narrow

pub stays_narrow : (o : Operator) (t : Setting) → IsServed o t → goes_wide o t ≡ false → IsNarrow t.to
stays_narrow o t served g = (left-narrow o t served g).to_narrow

-- and what isn't
pub left_goes_stored : (o : Operator) (t : Setting) → IsServed o t → goes_wide o t ≡ true → IsStored t.left
left_goes_stored o t served g = elim served [ inl h ↦ absurd (never-wide o t h g) | inr h ↦ h.left_stored ]

pub goes_stored : (o : Operator) (t : Setting) → IsServed o t → goes_wide o t ≡ true → IsStored t.to
goes_stored o t served g = elim served [ inl h ↦ absurd (never-wide o t h g) | inr h ↦ h.to_stored ]

-- ---- the code is right

goes-right : (o : Operator) (t : Setting) → IsServedIn64 o t → goes_wide o t ≡ true → IsRight o t (wide_operator_code o t)
goes-right o t h g =
    let e = goes-by o t true h.coded g in
    record {
      of_two = λ two.
          let fills = fill_words t.left t.right t.to in
          let none : not fills ≡ true = ap not (sym (fills_of_two o t two) ∙ e) in
          right_of_two o t h (or_right (not (is_wrapping_sum o)) (not fills) none) two;
      of_one = λ one. right_of_one o t h one;
    }

stored-for : (b : Bool) (o : Operator) (t : Setting) → goes_wide o t ≡ b → IsServed o t → IsRight o t (if b then wide_operator_code o t else narrow_code o t)
stored-for true o t g served = elim served [ inl h ↦ absurd (never-wide o t h g) | inr h ↦ goes-right o t h g ]
stored-for false o t g served = family_right o t (left-narrow o t served g)

-- the code of each operator that is served
pub stored_right : (o : Operator) (t : Setting) → IsServed o t → IsRight o t (stored_code o t)
stored_right o t served = stored-for (goes_wide o t) o t refl served
