-- The first line of a text.
use Rattle.std.proofs.Common.{◌≡◌, ◌∙◌, ℕ, ◌+◌, ◌<◌, ◌≤◌, Bool, true, false, not, cond, ◌==◌, nat_eq, List, [], ◌∷◌, length, take, drop, refl, ap, sym, subst, arith}
use Rattle.std.specs.List.{slice_split, onto_first, position_or_len, before_first, after_first}
use Rattle.std.specs.Str.Lines.{lines, lines_of_parts, strip_carriage_return}
use Rattle.std.proofs.lemmas.Bool.Decides.{nat_tests}
use Rattle.std.proofs.lemmas.List.{drop_all, length-drop}
use Rattle.std.proofs.lemmas.List.Splits.{slice_split_first}

abbrev pub is_line_feed : ℕ → Bool
is_line_feed byte = byte == 10

record Cut (text : List ℕ) : Type 0 where
  first : List ℕ
  others : List (List ℕ)
  is : slice_split is_line_feed text ≡ first ∷ others

cut-step : (b : Bool) (x : ℕ) (first : List ℕ) (others : List (List ℕ)) (parts : List (List ℕ)) → parts ≡ first ∷ others → cond b ([] ∷ parts) (onto_first x parts) ≡ cond b [] (x ∷ first) ∷ cond b parts others
cut-step true x first others parts e = refl
cut-step false x first others parts e = ap (onto_first x) e

cut : (text : List ℕ) → Cut text
cut [] = record { first = []; others = []; is = refl }
cut (x ∷ xs) =
    let c : Cut xs = cut xs in
    record {
      first = cond (is_line_feed x) [] (x ∷ c.first);
      others = cond (is_line_feed x) (slice_split is_line_feed xs) c.others;
      is = cut-step (is_line_feed x) x c.first c.others (slice_split is_line_feed xs) c.is;
    }

-- a line that ends with LF
pub lines-more : (text : List ℕ) → position_or_len is_line_feed text < length text → lines text ≡ strip_carriage_return (before_first is_line_feed text) ∷ lines (after_first is_line_feed text)
lines-more text h =
    let front : List ℕ = before_first is_line_feed text in
    let behind : List ℕ = after_first is_line_feed text in
    let c : Cut behind = cut behind in
    let parts : slice_split is_line_feed text ≡ front ∷ (c.first ∷ c.others) = slice_split_first is_line_feed text 0 h ∙ ap (λ v. front ∷ v) c.is in
    ap lines_of_parts parts ∙ ap (λ v. strip_carriage_return front ∷ lines_of_parts v) (sym c.is)

last-step : (b : Bool) (n x : ℕ) (xs : List ℕ) (parts : List (List ℕ)) → cond (not b) (1 + n) 0 ≡ length (x ∷ xs) → (n ≡ length xs → parts ≡ xs ∷ []) → cond b ([] ∷ parts) (onto_first x parts) ≡ (x ∷ xs) ∷ []
last-step true n x xs parts e k = absurd (omega arith)
last-step false n x xs parts e k = ap (onto_first x) (k (omega arith))

one-part : (text : List ℕ) → position_or_len is_line_feed text ≡ length text → slice_split is_line_feed text ≡ text ∷ []
one-part [] e = refl
one-part (x ∷ xs) e = last-step (is_line_feed x) (position_or_len is_line_feed xs) x xs (slice_split is_line_feed xs) e (one-part xs)

kept : (b : Bool) (x y : List (List ℕ)) → b ≡ false → cond b x y ≡ y
kept true x y e = cc
kept false x y e = refl

not_zero : (n : ℕ) → 0 < n → nat_eq n 0 ≡ false
not_zero n h = grind (arith, nat_tests)

-- a last line without an LF
pub lines-last : (text : List ℕ) → position_or_len is_line_feed text ≡ length text → 0 < length text → lines text ≡ text ∷ []
lines-last text e h = ap lines_of_parts (one-part text e) ∙ kept (nat_eq (length text) 0) [] (text ∷ []) (not_zero (length text) h)

bound-step : (b : Bool) (n m : ℕ) → n ≤ m → cond (not b) (1 + n) 0 ≤ m + 1
bound-step true n m h = omega arith
bound-step false n m h = omega arith

within : (text : List ℕ) → position_or_len is_line_feed text ≤ length text
within [] = omega arith
within (x ∷ xs) = let s : cond (not (is_line_feed x)) (1 + position_or_len is_line_feed xs) 0 ≤ length xs + 1 = bound-step (is_line_feed x) (position_or_len is_line_feed xs) (length xs) (within xs) in omega arith

-- the first line is the last one
pub last-line : (text : List ℕ) (end : ℕ) → end ≡ position_or_len is_line_feed text → end ≡ length text → 0 < length text → (lines text ≡ text ∷ lines (drop end text)) × (length (drop end text) < length text)
last-line text end is last some =
    let none : drop end text ≡ [] = drop_all end text (omega arith) in
    (lines-last text (sym is ∙ last) some ∙ ap (λ v. text ∷ lines v) (sym none), omega (arith, ap length none))

-- the first line ends with LF
pub first-line : (text : List ℕ) (end : ℕ) → end ≡ position_or_len is_line_feed text → (end ≡ length text → ⊥) → (lines text ≡ strip_carriage_return (take end text) ∷ lines (drop (end + 1) text)) × (length (drop (end + 1) text) < length text)
first-line text end is more =
    let before : position_or_len is_line_feed text < length text = omega (arith, within text) in
    (subst (λ (n : ℕ). lines text ≡ strip_carriage_return (take n text) ∷ lines (drop (n + 1) text)) (sym is) (lines-more text before), omega (arith, length-drop (end + 1) text, is, before))
