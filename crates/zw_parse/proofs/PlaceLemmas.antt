-- Places of tokens, one behind the other.
use Rattle.std.proofs.Common.{◌≡◌, ℕ, zero, suc, get_or, map, All, ◌+◌, ◌-◌, ◌<◌, ◌≤◌, ◌^◌, List, [], ◌∷◌, ◌++◌, length, take, drop, not, refl, sym, ap, ◌∙◌, arith, length-take, length-drop}
use Rattle.std.proofs.lemmas.List.Sums.{suffix_len-le-length}
use Rattle.zw_base.specs.declared.stop.Place.{Place}
use Rattle.zw_token.specs.Bytes.{is_line_feed}
use Rattle.zw_token.specs.Tokens.{LiesIn, DoNotOverlap, place_at}
use Rattle.zw_token.specs.declared.token.Token.{Token}
use Rattle.std.proofs.Math.Seq.{take-suc}
use Rattle.std.proofs.lemmas.List.{map-append}
use Rattle.zw_parse.specs.Places.{place_behind}

all_taken : (xs : List ℕ) → take (length xs) xs ≡ xs
all_taken [] = refl
all_taken (x ∷ xs) = ap (λ l. x ∷ l) (all_taken xs)

none_taken : (m : ℕ) → take {A = ℕ} m [] ≡ []
none_taken zero = refl
none_taken (suc m) = refl

-- one front behind another
take_join : (n m k : ℕ) (xs : List ℕ) → k ≡ n + m → take n xs ++ take m (drop n xs) ≡ take k xs
take_join zero m k xs is = let same : k ≡ m = omega arith in ap (λ j. take j xs) (sym same)
take_join (suc n) m zero xs is = absurd (omega arith)
take_join (suc n) m (suc k) [] is = none_taken m
take_join (suc n) m (suc k) (x ∷ xs) is = ap (λ l. x ∷ l) (take_join n m k xs (omega arith))

pub behind-taken : (file : ℕ) (text : List ℕ) (at : ℕ) → place_behind file (take at text) ≡ place_at file text at
behind-taken file text at = rw (all_taken (take at text)) refl

pub column_fits : (file : ℕ) (text : List ℕ) (at n : ℕ) (place : Place) → place ≡ place_at file text at → at ≤ length text → length text ≤ 4194304 → place.column + length (take n (drop at text)) < 2 ^ 32
column_fits file text at n place is le short =
    omega (arith, ap (λ (p : Place). p.column) is, suffix_len-le-length (λ b. not (is_line_feed b)) (take at text), length-take at text, length-take n (drop at text), length-drop at text)

pub moved_to : (file : ℕ) (text : List ℕ) (at to : ℕ) (from place : Place) → from ≡ place_at file text at → at ≤ to → to ≤ length text → ((before : List ℕ) → from ≡ place_behind from.file before → place ≡ place_behind from.file (before ++ take (to - at) (drop at text))) → place ≡ place_at file text to
moved_to file text at to from place is le within moves =
    let same : from.file ≡ file = ap (λ (p : Place). p.file) is in
    let start : from ≡ place_behind from.file (take at text) = is ∙ sym (behind-taken file text at) ∙ ap (λ f. place_behind f (take at text)) (sym same) in
    let joined : take at text ++ take (to - at) (drop at text) ≡ take to text = take_join at (to - at) to text (omega arith) in
    moves (take at text) start ∙ ap (λ f. place_behind f (take at text ++ take (to - at) (drop at text))) same ∙ ap (place_behind file) joined ∙ behind-taken file text to

pub start_within : (text : List ℕ) (tokens : List Token) (i : ℕ) (d : Token) → All (LiesIn text) tokens → i < length tokens → (get_or tokens i d).start ≤ length text
start_within text tokens i d all lt = let w = all i d lt in omega (arith, w.0, w.1)

pub start_ahead : (text : List ℕ) (tokens : List Token) (i k : ℕ) (d e : Token) → All (LiesIn text) tokens → DoNotOverlap tokens → i + 1 ≤ k → k < length tokens → (get_or tokens i d).start ≤ (get_or tokens k e).start
start_ahead text tokens i k d e all apart le lt =
    let w = all i d (omega arith) in
    let first = apart i k d (omega arith) lt in
    let same : get_or tokens k d ≡ get_or tokens k e = get_or_same tokens k d e lt in
    omega (arith, w.0, first, ap (λ (t : Token). t.start) same)
  where
    get_or_same : (xs : List Token) (k : ℕ) (d e : Token) → k < length xs → get_or xs k d ≡ get_or xs k e
    get_or_same [] k d e lt = absurd (omega arith)
    get_or_same (x ∷ xs) zero d e lt = refl
    get_or_same (x ∷ xs) (suc k) d e lt = get_or_same xs k d e (omega arith)

pub list_on : (f : Token → Place) (tokens : List Token) (i : ℕ) (d : Token) (place : Place) (before after : List Place) → i < length tokens → after ≡ before ++ place ∷ [] → before ≡ map f (take i tokens) → place ≡ f (get_or tokens i d) → after ≡ map f (take (i + 1) tokens)
list_on f tokens i d place before after lt is so_far here =
    let e : i + 1 ≡ suc i = omega arith in
    is
    ∙ ap (λ l. l ++ place ∷ []) so_far
    ∙ ap (λ p. map f (take i tokens) ++ p ∷ []) here
    ∙ sym (ap (λ n. map f (take n tokens)) e ∙ ap (map f) (take-suc tokens i d lt) ∙ map-append f (take i tokens) (get_or tokens i d ∷ []))

-- what the loop keeps, one token on
pub record Kept (file : ℕ) (text : List ℕ) (tokens : List Token) (i at : ℕ) (place : Place) (list : List Place) : Type 0 where
  pub within : at ≤ length text
  pub ahead : (k : ℕ) (d : Token) → i ≤ k → k < length tokens → at ≤ (get_or tokens k d).start
  pub place_is : place ≡ place_at file text at
  pub list_is : list ≡ map (λ (t : Token). place_at file text t.start) (take i tokens)

pub one_on : (file : ℕ) (text : List ℕ) (tokens : List Token) (i at : ℕ) (d : Token) (from place : Place) (before after : List Place) → All (LiesIn text) tokens → DoNotOverlap tokens → i < length tokens → Kept file text tokens i at from before → ((front : List ℕ) → from ≡ place_behind from.file front → place ≡ place_behind from.file (front ++ take ((get_or tokens i d).start - at) (drop at text))) → after ≡ before ++ place ∷ [] → Kept file text tokens (i + 1) (get_or tokens i d).start place after
one_on file text tokens i at d from place before after all apart lt k moves is =
    let within = start_within text tokens i d all lt in
    let there = moved_to file text at (get_or tokens i d).start from place k.place_is (k.ahead i d (omega arith) lt) within moves in
    record {
      within = within;
      ahead = λ j e le fits. start_ahead text tokens i j d e all apart le fits;
      place_is = there;
      list_is = list_on (λ (t : Token). place_at file text t.start) tokens i d place before after lt is k.list_is there;
    }
