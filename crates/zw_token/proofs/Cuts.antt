-- What stands at the front of bytes stands there still where they are cut behind it.
use Rattle.std.proofs.Common.{◌≡◌, ℕ, zero, suc, ◌+◌, ◌-◌, ◌<◌, ◌≤◌, Bool, true, false, cond, eqb, List, [], ◌∷◌, length, get_or, take, drop, Option, Some, None, sym, refl, ap, ◌∙◌, subst, ⊎_elim, arith, length-drop}
use Rattle.std.specs.Prelude.{◌&&◌, ◌||◌, nat_lt, nat_le}
use Rattle.std.specs.Char.{is_ascii_hexdigit}
use Rattle.std.specs.List.{prefix_len}
use Rattle.std.specs.Str.{is_utf8, continuation_len}
use Rattle.std.proofs.lemmas.Bool.{false≢true, and_parts, cond-true, cond-false, eqb-true, le-leb, lt-leb, cases_lt}
use Rattle.std.proofs.lemmas.List.{get_or-take, get_or-drop, drop-take, take_all, length-take-le}
use Rattle.std.proofs.lemmas.Option.{none-some, same_Some}
use Rattle.zw_token.specs.Literals.{point_len, is_simple_escape, starts_byte_digits, is_scalar, starts_point_digits, hex_len, escape_len, item_len, items_len}
use Rattle.zw_token.specs.Numbers.{digits_value}
use Rattle.zw_token.proofs.Items.{items_len_more, items_len_none}
use Rattle.zw_token.proofs.PlainTexts.{IsLen, item_within}

pub take_cut : (n m : ℕ) (xs : List ℕ) → n ≤ m → take n (take m xs) ≡ take n xs
take_cut zero m xs h = refl
take_cut (suc n) zero xs h = absurd (omega arith)
take_cut (suc n) (suc m) [] h = refl
take_cut (suc n) (suc m) (x ∷ xs) h = ap (λ ys. x ∷ ys) (take_cut n m xs (omega arith))

-- a run that ends before the cut
pub run_cut : (p : ℕ → Bool) (m : ℕ) (xs : List ℕ) → prefix_len p xs ≤ m → prefix_len p (take m xs) ≡ prefix_len p xs
run_cut p zero [] h = refl
run_cut p (suc m) [] h = refl
run_cut p zero (x ∷ xs) h = omega arith
run_cut p (suc m) (x ∷ xs) h = one_more (p x) h (λ k. run_cut p m xs k)
  where
    one_more : (b : Bool) → cond b (1 + prefix_len p xs) 0 ≤ suc m → (prefix_len p xs ≤ m → prefix_len p (take m xs) ≡ prefix_len p xs) → cond b (1 + prefix_len p (take m xs)) 0 ≡ cond b (1 + prefix_len p xs) 0
    one_more true h others = ap (λ n. 1 + n) (others (omega arith))
    one_more false h others = refl

-- a run that goes on up to the cut
pub run_whole : (p : ℕ → Bool) (m : ℕ) (xs : List ℕ) → m ≤ prefix_len p xs → prefix_len p (take m xs) ≡ m
run_whole p zero xs h = refl
run_whole p (suc m) [] h = absurd (omega arith)
run_whole p (suc m) (x ∷ xs) h = one_more (p x) h (λ k. run_whole p m xs k)
  where
    one_more : (b : Bool) → suc m ≤ cond b (1 + prefix_len p xs) 0 → (m ≤ prefix_len p xs → prefix_len p (take m xs) ≡ m) → cond b (1 + prefix_len p (take m xs)) 0 ≡ suc m
    one_more true h others = let same : prefix_len p (take m xs) ≡ m = others (omega arith) in omega (arith, same)
    one_more false h others = absurd (omega arith)

byte_digits_cut : (rest : List ℕ) (m : ℕ) → 2 ≤ m → starts_byte_digits rest ≡ true → starts_byte_digits (take m rest) ≡ true
byte_digits_cut [] m h digits = absurd (false≢true digits)
byte_digits_cut (a ∷ []) m h digits = absurd (false≢true digits)
byte_digits_cut (a ∷ b ∷ rest) zero h digits = absurd (omega arith)
byte_digits_cut (a ∷ b ∷ rest) (suc zero) h digits = absurd (omega arith)
byte_digits_cut (a ∷ b ∷ rest) (suc (suc m)) h digits = digits

abbrev point_digits_of : ℕ → ℕ → ℕ → List ℕ → Bool
point_digits_of b n close digits = eqb b 123 && nat_lt 0 n && eqb close 125 && is_scalar (digits_value 16 digits)

point_digits_cut : (b : ℕ) (rest : List ℕ) (m : ℕ) → hex_len rest < m → starts_point_digits (b ∷ take m rest) ≡ starts_point_digits (b ∷ rest)
point_digits_cut b rest m h =
    let n = hex_len rest in
    let cut = take m rest in
    let same : hex_len cut ≡ n = run_cut is_ascii_hexdigit m rest (omega arith) in
    let close : get_or cut n 0 ≡ get_or rest n 0 = get_or-take m rest n 0 h in
    let digits : take n cut ≡ take n rest = take_cut n m rest (omega arith) in
    ap (λ k. point_digits_of b k (get_or cut k 0) (take k cut)) same
    ∙ ap (λ c. point_digits_of b n c (take n cut)) close
    ∙ ap (λ ds. point_digits_of b n (get_or rest n 0) ds) digits

byte_escape_cut : (rest : List ℕ) (n m : ℕ) → escape_len (120 ∷ rest) ≡ Some n → n ≤ suc m → escape_len (take m (120 ∷ rest)) ≡ Some n
byte_escape_cut rest n m e h = by_digits (starts_byte_digits rest) refl e
  where
    by_digits : (t : Bool) → starts_byte_digits rest ≡ t → cond t (Some 4) None ≡ Some n → escape_len (take m (120 ∷ rest)) ≡ Some n
    by_digits false digits e = absurd (none-some n e)
    by_digits true digits e =
        let four : 4 ≡ n = same_Some 4 n e in
        let size : m ≡ suc (m - 1) = omega arith in
        ap (λ k. escape_len (take k (120 ∷ rest))) size
        ∙ cond-true (starts_byte_digits (take (m - 1) rest)) (Some 4) None (byte_digits_cut rest (m - 1) (omega arith) digits) ∙ e

point_escape_cut : (rest : List ℕ) (n m : ℕ) → escape_len (117 ∷ rest) ≡ Some n → n ≤ suc m → escape_len (take m (117 ∷ rest)) ≡ Some n
point_escape_cut [] n m e h = absurd (none-some n e)
point_escape_cut (b ∷ rest) n m e h = by_digits (starts_point_digits (b ∷ rest)) refl e
  where
    by_digits : (t : Bool) → starts_point_digits (b ∷ rest) ≡ t → cond t (Some (hex_len rest + 4)) None ≡ Some n → escape_len (take m (117 ∷ b ∷ rest)) ≡ Some n
    by_digits false digits e = absurd (none-some n e)
    by_digits true digits e =
        let all : hex_len rest + 4 ≡ n = same_Some (hex_len rest + 4) n e in
        let size : m ≡ suc (suc (m - 2)) = omega arith in
        let behind : hex_len rest < m - 2 = omega arith in
        let cut : hex_len (take (m - 2) rest) ≡ hex_len rest = run_cut is_ascii_hexdigit (m - 2) rest (omega arith) in
        ap (λ k. escape_len (take k (117 ∷ b ∷ rest))) size
        ∙ cond-true (starts_point_digits (b ∷ take (m - 2) rest)) (Some (hex_len (take (m - 2) rest) + 4)) None (point_digits_cut b rest (m - 2) behind ∙ digits)
        ∙ ap (λ k. Some (k + 4)) cut ∙ e

simple_escape_cut : (a : ℕ) (rest : List ℕ) (n m : ℕ) → is_simple_escape a ≡ true → escape_len (a ∷ rest) ≡ Some n → n ≤ suc m → escape_len (take m (a ∷ rest)) ≡ Some n
simple_escape_cut a rest n zero simple e h =
    let two : 2 ≡ n = same_Some 2 n (sym (cond-true (is_simple_escape a) (Some 2) _ simple) ∙ e) in absurd (omega arith)
simple_escape_cut a rest n (suc m) simple e h =
    cond-true (is_simple_escape a) (Some 2) _ simple ∙ sym (cond-true (is_simple_escape a) (Some 2) _ simple) ∙ e

-- an escape that ends before the cut
escape_cut : (rest : List ℕ) (n m : ℕ) → escape_len rest ≡ Some n → n ≤ suc m → escape_len (take m rest) ≡ Some n
escape_cut [] n m e h = absurd (none-some n e)
escape_cut (a ∷ rest) n m e h = by_first (is_simple_escape a) refl
  where
    by_point : (t : Bool) → (eqb a 117 && starts_point_digits rest) ≡ t → cond t (Some (hex_len (drop 1 rest) + 4)) None ≡ Some n → escape_len (take m (a ∷ rest)) ≡ Some n
    by_point false is e' = absurd (none-some n e')
    by_point true is e' =
        let u : a ≡ 117 = eqb-true a 117 (and_parts _ _ is).0 in
        subst (λ x. escape_len (take m (x ∷ rest)) ≡ Some n) (sym u) (point_escape_cut rest n m (subst (λ x. escape_len (x ∷ rest) ≡ Some n) u e) h)

    by_byte : (t : Bool) → (eqb a 120 && starts_byte_digits rest) ≡ t → cond t (Some 4) (cond (eqb a 117 && starts_point_digits rest) (Some (hex_len (drop 1 rest) + 4)) None) ≡ Some n → escape_len (take m (a ∷ rest)) ≡ Some n
    by_byte false is e' = by_point (eqb a 117 && starts_point_digits rest) refl e'
    by_byte true is e' =
        let x : a ≡ 120 = eqb-true a 120 (and_parts _ _ is).0 in
        subst (λ y. escape_len (take m (y ∷ rest)) ≡ Some n) (sym x) (byte_escape_cut rest n m (subst (λ y. escape_len (y ∷ rest) ≡ Some n) x e) h)

    by_first : (t : Bool) → is_simple_escape a ≡ t → escape_len (take m (a ∷ rest)) ≡ Some n
    by_first true is = simple_escape_cut a rest n m is e h
    by_first false is = by_byte (eqb a 120 && starts_byte_digits rest) refl (sym (cond-false (is_simple_escape a) (Some 2) _ is) ∙ e)

-- a code point that ends before the cut
abbrev point_of : Bool → ℕ → List ℕ → ℕ
point_of enough n bytes = cond (enough && is_utf8 bytes) n 1

point_short : (t : Bool) (n m : ℕ) → cond t n 1 ≤ m → m < n → 1 ≡ cond t n 1
point_short true n m h more = absurd (omega arith)
point_short false n m h more = refl

point_cut : (b : ℕ) (rest : List ℕ) (m : ℕ) → point_len (b ∷ rest) ≤ suc m → point_len (b ∷ take m rest) ≡ point_len (b ∷ rest)
unfolding point_len
point_cut b rest m h =
    let n : ℕ = 1 + continuation_len b in
    let cut : List ℕ = take m rest in
    ⊎_elim
    (λ (longer : m < length rest).
    let size : length cut ≡ m = length-take-le m rest (omega arith) in
    ⊎_elim
    (λ (past : suc m < n).
    let none : nat_le n (suc (length cut)) ≡ false = lt-leb n (suc (length cut)) (omega (arith, size, past)) in
    ap (λ t. point_of t n (take n (b ∷ cut))) none ∙ point_short (nat_le n (suc (length rest)) && is_utf8 (take n (b ∷ rest))) n (suc m) h past)
    (λ (within : n ≤ suc m).
    let left : nat_le n (suc (length cut)) ≡ true = le-leb n (suc (length cut)) (omega (arith, size, within)) in
    let right : nat_le n (suc (length rest)) ≡ true = le-leb n (suc (length rest)) (omega (arith, longer, within)) in
    ap (λ t. point_of t n (take n (b ∷ cut))) (left ∙ sym right) ∙ ap (point_of (nat_le n (suc (length rest))) n) (take_cut n (suc m) (b ∷ rest) within))
    (cases_lt (suc m) n))
    (λ (all : length rest ≤ m). ap (λ bytes. point_len (b ∷ bytes)) (take_all m rest all))
    (cases_lt m (length rest))

-- an item that ends before the cut
pub item_cut : (quote : ℕ) (rest : List ℕ) (n m : ℕ) → item_len quote rest ≡ Some n → n ≤ m → item_len quote (take m rest) ≡ Some n
unfolding item_len
item_cut quote [] n m e h = absurd (none-some n e)
item_cut quote (b ∷ rest) n zero e h = let some : IsLen (length (b ∷ rest)) (Some n) = subst (IsLen (length (b ∷ rest))) e (item_within quote (b ∷ rest)) in absurd (omega (arith, some.0, h))
item_cut quote (b ∷ rest) n (suc m) e h = by_first (eqb b 92) refl e
  where
    by_quote : (t : Bool) → (eqb b quote || eqb b 10 || eqb b 13) ≡ t → eqb b 92 ≡ false → cond t None (Some (point_len (b ∷ rest))) ≡ Some n → item_len quote (b ∷ take m rest) ≡ Some n
    by_quote true is plain e' = absurd (none-some n e')
    by_quote false is plain e' =
        let size : point_len (b ∷ rest) ≡ n = same_Some (point_len (b ∷ rest)) n e' in
        cond-false (eqb b 92) _ _ plain ∙ cond-false (eqb b quote || eqb b 10 || eqb b 13) _ _ is ∙ ap Some (point_cut b rest m (omega (arith, size, h))) ∙ e'

    by_first : (t : Bool) → eqb b 92 ≡ t → cond t (escape_len rest) (cond (eqb b quote || eqb b 10 || eqb b 13) None (Some (point_len (b ∷ rest)))) ≡ Some n → item_len quote (b ∷ take m rest) ≡ Some n
    by_first true is e' = cond-true (eqb b 92) _ _ is ∙ escape_cut rest n m e' h
    by_first false is e' = by_quote (eqb b quote || eqb b 10 || eqb b 13) refl is e'

first_only : (c : ℕ) (rest : List ℕ) → 0 < length rest → get_or rest 0 0 ≡ c → take 1 rest ≡ c ∷ []
first_only c [] some is = absurd (omega arith)
first_only c (b ∷ rest) some is = ap (λ x. x ∷ []) is

-- items that end before the cut, with a quote behind them
pub items_cut : (fuel quote : ℕ) (rest : List ℕ) (len : Option ℕ) → length rest ≤ fuel → item_len quote rest ≡ len → IsLen (length rest) len → item_len quote (quote ∷ []) ≡ None → items_len quote rest < length rest → get_or rest (items_len quote rest) 0 ≡ quote → items_len quote (take (items_len quote rest + 1) rest) ≡ items_len quote rest
items_cut fuel quote rest None fits e is_len ends within closed =
    let none = items_len_none quote rest e in
    ap (λ k. items_len quote (take (k + 1) rest)) none
    ∙ ap (items_len quote) (first_only quote rest (omega arith) (ap (λ k. get_or rest k 0) (sym none) ∙ closed))
    ∙ items_len_none quote (quote ∷ []) ends ∙ sym none
items_cut zero quote rest (Some n) fits e is_len ends within closed = absurd (omega (arith, is_len.0, is_len.1, fits))
items_cut (suc fuel) quote rest (Some n) fits e is_len ends within closed =
    let left : List ℕ = drop n rest in
    let others : ℕ = items_len quote left in
    let all : items_len quote rest ≡ n + others = items_len_more quote rest n e is_len.0 is_len.1 in
    let k : ℕ = items_len quote rest + 1 in
    let size : length (take k rest) ≡ k = length-take-le k rest (omega (arith, within)) in
    let parts : k ≡ n + (others + 1) = omega (arith, all) in
    let size_left : length left ≡ length rest - n = length-drop n rest in
    items_len_more quote (take k rest) n (item_cut quote rest n k e (omega (arith, all))) is_len.0 (omega (arith, size, all))
    ∙ ap (λ bytes. n + items_len quote bytes) (ap (λ i. drop n (take i rest)) parts ∙ drop-take n (others + 1) rest)
    ∙ ap (λ i. n + i)
    (items_cut fuel quote left (item_len quote left) (omega (arith, size_left, is_len.0, fits)) refl (item_within quote left) ends
    (omega (arith, size_left, all, within)) (get_or-drop n rest others 0 ∙ ap (λ i. get_or rest i 0) (sym all) ∙ closed))
    ∙ sym all
