-- A line is read back as its words in one way.
use Rattle.std.proofs.Common.{◌≡◌, ℕ, true, false, true≢false, List, [], ◌∷◌, ◌++◌, get_or, refl, sym, ap, ◌∙◌, append_assoc, codes}
use Rattle.std.specs.Prelude.{nat_eq}
use Rattle.std.specs.List.{flat_map, list_all}
use Rattle.std.proofs.lemmas.Bool.{and_parts, eq-eqb}
use Rattle.zw_report.specs.Lines.{is_plain, word}
use Rattle.zw_report.proofs.Plain.{plain_byte}

abbrev tail_of : List ℕ → List ℕ
tail_of [] = []
tail_of (x ∷ xs) = xs

heads : (x y : ℕ) (xs ys : List ℕ) → x ∷ xs ≡ y ∷ ys → x ≡ y
heads x y xs ys e = ap (λ (l : List ℕ). get_or l 0 0) e

tails : (x y : ℕ) (xs ys : List ℕ) → x ∷ xs ≡ y ∷ ys → xs ≡ ys
tails x y xs ys e = ap tail_of e

-- what stands behind a word: something, which begins with no byte of a word
record Follows (text : List ℕ) : Type 0 where
  byte : ℕ
  rest : List ℕ
  whole : text ≡ byte ∷ rest
  other : plain_byte byte ≡ false

clash : (c : ℕ) (text more : List ℕ) → Follows text → plain_byte c ≡ true → text ≡ c ∷ more → ⊥
clash c text more f plain e =
    true≢false (sym plain ∙ (ap plain_byte (sym (heads f.byte c f.rest more (sym f.whole ∙ e))) ∙ f.other))

word_apart : (a b s t : List ℕ) → is_plain a ≡ true → is_plain b ≡ true → Follows s → Follows t → a ++ s ≡ b ++ t → (a ≡ b) × (s ≡ t)
word_apart [] [] s t p q f g e = (refl, e)
word_apart [] (d ∷ b) s t p q f g e = absurd (clash d s (b ++ t) f (and_parts _ _ q).0 e)
word_apart (c ∷ a) [] s t p q f g e = absurd (clash c t (a ++ s) g (and_parts _ _ p).0 (sym e))
word_apart (c ∷ a) (d ∷ b) s t p q f g e =
    let rest = word_apart a b s t (and_parts _ _ p).1 (and_parts _ _ q).1 f g (tails c d (a ++ s) (b ++ t) e) in
    (ap (λ (x : ℕ). x ∷ a) (heads c d (a ++ s) (b ++ t) e) ∙ ap (λ (l : List ℕ). d ∷ l) rest.0, rest.1)

abbrev ended : List (List ℕ) → List ℕ
ended words = flat_map word words ++ codes "\n"

follows : (words : List (List ℕ)) → Follows (ended words)
follows [] = record { byte = 10; rest = []; whole = refl; other = refl }
follows (w ∷ words) = record { byte = 32; rest = (w ++ flat_map word words) ++ codes "\n"; whole = refl; other = refl }

unlike : (x y : ℕ) → nat_eq x y ≡ false → x ≡ y → ⊥
unlike x y apart same = true≢false (sym (eq-eqb x y same) ∙ apart)

words_apart : (v w : List (List ℕ)) → list_all is_plain v ≡ true → list_all is_plain w ≡ true → ended v ≡ ended w → v ≡ w
words_apart [] [] p q e = refl
words_apart [] (b ∷ w) p q e = absurd (unlike 10 32 refl (heads 10 32 [] ((b ++ flat_map word w) ++ codes "\n") e))
words_apart (a ∷ v) [] p q e = absurd (unlike 32 10 refl (heads 32 10 ((a ++ flat_map word v) ++ codes "\n") [] e))
words_apart (a ∷ v) (b ∷ w) p q e =
    let behind : (a ++ flat_map word v) ++ codes "\n" ≡ (b ++ flat_map word w) ++ codes "\n" = tails 32 32 ((a ++ flat_map word v) ++ codes "\n") ((b ++ flat_map word w) ++ codes "\n") e in
    let moved = sym (append_assoc a (flat_map word v) (codes "\n")) ∙ (behind ∙ append_assoc b (flat_map word w) (codes "\n")) in
    let first = word_apart a b (ended v) (ended w) (and_parts _ _ p).0 (and_parts _ _ q).0 (follows v) (follows w) moved in
    ap (λ (x : List ℕ). x ∷ v) first.0 ∙ ap (λ (l : List (List ℕ)). b ∷ l) (words_apart v w (and_parts _ _ p).1 (and_parts _ _ q).1 first.1)

pub one_reading : (a b : List ℕ) (v w : List (List ℕ)) → list_all is_plain (a ∷ v) ≡ true → list_all is_plain (b ∷ w) ≡ true
    → a ++ flat_map word v ++ codes "\n" ≡ b ++ flat_map word w ++ codes "\n" → (a ≡ b) × (v ≡ w)
one_reading a b v w p q e =
    let moved = sym (append_assoc a (flat_map word v) (codes "\n")) ∙ (e ∙ append_assoc b (flat_map word w) (codes "\n")) in
    let first = word_apart a b (ended v) (ended w) (and_parts _ _ p).0 (and_parts _ _ q).0 (follows v) (follows w) moved in
    (first.0, words_apart v w (and_parts _ _ p).1 (and_parts _ _ q).1 first.1)
