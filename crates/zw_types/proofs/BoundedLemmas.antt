-- Layouts whose sizes are cut off at 2^127: what comes of cut parts, cut off again, is what comes of the parts, cut off.
use Rattle.std.specs.Prelude.{◌≡◌, refl, ℕ, zero, suc, ◌+◌, ◌*◌, ◌^◌, ◌<◌, ◌≤◌, Bool, true, false, Option, Some, None, MatchOption, min, max}
use Rattle.std.specs.Option.{option_map}
use Rattle.std.proofs.Common.{sym, ◌∙◌, ap, subst, arith, inl, inr}
use Rattle.std.proofs.Math.Nat.{min-eq_left, min-eq_right, max-eq_left, max-eq_right}
use Rattle.std.proofs.lemmas.Bool.{cases_lt}
use Rattle.zw_types.specs.declared.layout.Layout.{Layout}
use Rattle.zw_types.specs.Sizes.{round_up, byte_layout, code_layout, followed, joined, rounded, array_layout, optional_layout, error_union_layout}
use Rattle.zw_types.specs.KeptLayouts.{bounded, IsAlignment, kept_array, kept_optional, kept_error_union, kept_rounded, kept_joined}

abbrev most : ℕ
most = 2 ^ 127

abbrev pub IsAligned : Option Layout → Type 0
IsAligned l = MatchOption l (Unit {0}) (λ l. IsAlignment l.align)

-- ---- alignments

pub greater_alignment : (a b : ℕ) → IsAlignment a → IsAlignment b → IsAlignment (max a b)
greater_alignment a b h k = elim (cases_lt a b) [
  | inl l ↦ subst IsAlignment (sym (max-eq_right (omega arith))) k
  | inr l ↦ subst IsAlignment (sym (max-eq_left (omega arith))) h
]

-- ---- rounding

rounds_up : (n align : ℕ) → IsAlignment align → n ≤ round_up n align
rounds_up n align (inl e) = subst (λ a. n ≤ round_up n a) (sym e) (omega arith)
rounds_up n align (inr (inl e)) = subst (λ a. n ≤ round_up n a) (sym e) (omega arith)
rounds_up n align (inr (inr (inl e))) = subst (λ a. n ≤ round_up n a) (sym e) (omega arith)
rounds_up n align (inr (inr (inr e))) = subst (λ a. n ≤ round_up n a) (sym e) (omega arith)

most_is_round : (align : ℕ) → IsAlignment align → round_up most align ≡ most
most_is_round align (inl e) = subst (λ a. round_up most a ≡ most) (sym e) refl
most_is_round align (inr (inl e)) = subst (λ a. round_up most a ≡ most) (sym e) refl
most_is_round align (inr (inr (inl e))) = subst (λ a. round_up most a ≡ most) (sym e) refl
most_is_round align (inr (inr (inr e))) = subst (λ a. round_up most a ≡ most) (sym e) refl

round_cut : (x y align : ℕ) → IsAlignment align → min (round_up (min x most) align + min y most) most ≡ min (round_up x align + y) most
round_cut x y align h = elim (cases_lt most x) [
  | inl l ↦
      let cut : min x most ≡ most = min-eq_right (omega arith) in
      let round = most_is_round align h in
      let up = rounds_up x align h in
      ap (λ n. min (round_up n align + min y most) most) cut
      ∙ ap (λ n. min (n + min y most) most) round
      ∙ min-eq_right (omega arith)
      ∙ sym (min-eq_right (omega (arith, up)))
  | inr l ↦
      let cut : min x most ≡ x = min-eq_left (omega arith) in
      ap (λ n. min (round_up n align + min y most) most) cut ∙ behind (round_up x align)
]
  where
    behind : (n : ℕ) → min (n + min y most) most ≡ min (n + y) most
    behind n = elim (cases_lt most y) [
      | inl l ↦ ap (λ k. min (n + k) most) (min-eq_right (omega arith)) ∙ min-eq_right (omega arith) ∙ sym (min-eq_right (omega arith))
      | inr l ↦ ap (λ k. min (n + k) most) (min-eq_left (omega arith))
    ]

pub followed_cut : (a b : Layout) → IsAlignment b.align → bounded (followed (bounded a) (bounded b)) ≡ bounded (followed a b)
followed_cut a b h = λ i. record { size = round_cut a.size b.size b.align h i; align = max a.align b.align }

max_cut : (x y : ℕ) → min (max (min x most) (min y most)) most ≡ min (max x y) most
max_cut x y = elim (cases_lt x y) [
  | inl l ↦ ap (λ n. min n most) (max-eq_right (below x y (omega arith))) ∙ twice y ∙ sym (ap (λ n. min n most) (max-eq_right (omega arith)))
  | inr l ↦ ap (λ n. min n most) (max-eq_left (below y x (omega arith))) ∙ twice x ∙ sym (ap (λ n. min n most) (max-eq_left (omega arith)))
]
  where
    below : (m n : ℕ) → m ≤ n → min m most ≤ min n most
    below m n l = elim (cases_lt most n) [
      | inl k ↦ subst (λ j. min m most ≤ j) (sym (min-eq_right (omega arith))) (elim (cases_lt most m) [ inl g ↦ subst (λ j. j ≤ most) (sym (min-eq_right (omega arith))) (omega arith) | inr g ↦ subst (λ j. j ≤ most) (sym (min-eq_left (omega arith))) (omega arith) ])
      | inr k ↦ subst (λ j. min m most ≤ j) (sym (min-eq_left (omega arith))) (subst (λ j. j ≤ n) (sym (min-eq_left (omega arith))) l)
    ]

    twice : (n : ℕ) → min (min n most) most ≡ min n most
    twice n = elim (cases_lt most n) [
      | inl k ↦ let cut : min n most ≡ most = min-eq_right (omega arith) in ap (λ j. min j most) cut ∙ refl ∙ sym cut
      | inr k ↦ ap (λ j. min j most) (min-eq_left (omega arith))
    ]

pub joined_cut : (over : Bool) (a b : Layout) → IsAlignment b.align → bounded (joined over (bounded a) (bounded b)) ≡ bounded (joined over a b)
joined_cut false a b h = followed_cut a b h
joined_cut true a b h = λ i. record { size = max_cut a.size b.size i; align = max a.align b.align }

pub rounded_cut : (l : Layout) → IsAlignment l.align → bounded (rounded (bounded l)) ≡ bounded (rounded l)
rounded_cut l h = λ i. record { size = cut i; align = l.align }
  where
    cut : min (round_up (min l.size most) l.align) most ≡ min (round_up l.size l.align) most
    cut = elim (cases_lt most l.size) [
      | inl k ↦
          ap (λ n. min (round_up n l.align) most) (min-eq_right (omega arith))
          ∙ ap (λ n. min n most) (most_is_round l.align h)
          ∙ sym (min-eq_right (omega (arith, rounds_up l.size l.align h)))
      | inr k ↦ ap (λ n. min (round_up n l.align) most) (min-eq_left (omega arith))
    ]

pub array_cut : (count : ℕ) (l : Layout) → bounded (array_layout count (bounded l)) ≡ bounded (array_layout count l)
array_cut count l = λ i. record { size = cut count i; align = l.align }
  where
    cut : (count : ℕ) → min (count * min l.size most) most ≡ min (count * l.size) most
    cut count = elim (cases_lt most l.size) [
      | inl k ↦ elim (cases_lt 0 count) [
        | inl p ↦
            ap (λ n. min (count * n) most) (min-eq_right (omega arith))
            ∙ min-eq_right (least count most p (omega arith))
            ∙ sym (min-eq_right (least count l.size p (omega arith)))
        | inr p ↦ let z : count ≡ 0 = omega arith in subst (λ c. min (c * min l.size most) most ≡ min (c * l.size) most) (sym z) (ap (λ n. min n most) (omega arith))
      ]
      | inr k ↦ ap (λ n. min (count * n) most) (min-eq_left (omega arith))
    ]
      where
        least : (c n : ℕ) → 0 < c → most ≤ n → most ≤ c * n
        least zero n p h = absurd (omega arith)
        least (suc c) n p h = omega (arith, h)

-- ---- where there may be no layout

pub kept_array_cut : (count : ℕ) (l : Option Layout) → kept_array count (option_map bounded l) ≡ option_map bounded (option_map (array_layout count) l)
kept_array_cut count None = refl
kept_array_cut count (Some l) = ap Some (array_cut count l)

closed_cut : (a b : Layout) → IsAlignment a.align → IsAlignment b.align → bounded (rounded (followed (bounded a) (bounded b))) ≡ bounded (rounded (followed a b))
closed_cut a b h k =
    let good : IsAlignment (max a.align b.align) = greater_alignment a.align b.align h k in
    sym (rounded_cut (followed (bounded a) (bounded b)) good) ∙ ap (λ (l : Layout). bounded (rounded l)) (followed_cut a b k) ∙ rounded_cut (followed a b) good

one : IsAlignment 1
one = inl refl

two : IsAlignment 2
two = inr (inl refl)

pub kept_optional_cut : (l : Option Layout) → IsAligned l → kept_optional false (option_map bounded l) ≡ option_map bounded (option_map optional_layout l)
kept_optional_cut None h = refl
kept_optional_cut (Some l) h = ap Some (closed_cut l byte_layout h one)

pub kept_error_union_cut : (l : Option Layout) → IsAligned l → kept_error_union (option_map bounded l) ≡ option_map bounded (option_map error_union_layout l)
kept_error_union_cut None h = refl
kept_error_union_cut (Some l) h = ap Some (closed_cut l code_layout h two)

pub kept_rounded_cut : (l : Option Layout) → IsAligned l → kept_rounded (option_map bounded l) ≡ option_map bounded (option_map rounded l)
kept_rounded_cut None h = refl
kept_rounded_cut (Some l) h = ap Some (rounded_cut l h)

-- one part behind or over another, where both have a layout
abbrev pub joined_some : Bool → Option Layout → Option Layout → Option Layout
joined_some over (Some a) (Some b) = Some (joined over a b)
joined_some over _ _ = None

pub kept_joined_cut : (over : Bool) (a b : Option Layout) → IsAligned b → kept_joined over (option_map bounded a) (option_map bounded b) ≡ option_map bounded (joined_some over a b)
kept_joined_cut over None b h = refl
kept_joined_cut over (Some a) None h = refl
kept_joined_cut over (Some a) (Some b) h = ap Some (joined_cut over a b h)

pub joined_aligned : (over : Bool) (a b : Layout) → IsAlignment a.align → IsAlignment b.align → IsAlignment (joined over a b).align
joined_aligned false a b h k = greater_alignment a.align b.align h k
joined_aligned true a b h k = greater_alignment a.align b.align h k

pub joined_some_aligned : (over : Bool) (a b : Option Layout) → IsAligned a → IsAligned b → IsAligned (joined_some over a b)
joined_some_aligned over None b h k = tt
joined_some_aligned over (Some a) None h k = tt
joined_some_aligned over (Some a) (Some b) h k = joined_aligned over a b h k
