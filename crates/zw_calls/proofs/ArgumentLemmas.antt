-- What the word of an argument stands for, and arguments by type.
use Rattle.std.proofs.Common.{◌≡◌, ◌∙◌, ℕ, Bool, true, false, cond, ◌&&◌, List, [], ◌∷◌, ◌++◌, length, map, refl, ap, subst, append_assoc, arith, codes}
use Rattle.std.specs.Prelude.{ℤ, pos, negsuc, FitsSigned}
use Rattle.std.specs.Int.{w128}
use Rattle.std.specs.List.{list_all}
use Rattle.std.specs.Str.{bytes_eq}
use Rattle.std.specs.Str.Parse.{IsNumeral}
use Rattle.std.proofs.lemmas.Int.{ints}
use Rattle.zw_base.specs.Numbers.{IsNumber, after_minus, number_spelt}
use Rattle.zw_report.specs.declared.arg.Arg.{Arg}
use Rattle.zw_report.specs.declared.arg.Arg.TheVariants.{Number, Truth}
use Rattle.zw_wasm.specs.declared.module.ValType.{ValType}
use Rattle.zw_wasm.specs.declared.module.ValType.TheVariants as ty
use Rattle.zw_wasm.specs.declared.num.Num.{Num}
use Rattle.zw_calls.proofs.TextLemmas.{numeral-digits}
use Rattle.zw_calls.specs.Arguments.{Fit, IsTaken, argument_of, number_of, typed, typed_all}
use Rattle.zw_calls.specs.Numbers.{IsNarrow, IsWide}
use Rattle.zw_calls.specs.Words.{is_argument, is_numeral}

argument-tests : (a b c : Bool) → a ≡ false → b ≡ false → cond a true (cond b true c) ≡ true → c ≡ true
argument-tests true b c ea eb e = cc
argument-tests false true c ea eb e = cc
argument-tests false false c ea eb e = e

plain-step : (a b : Bool) (x y z : Arg) → a ≡ false → b ≡ false → cond a x (cond b y z) ≡ z
plain-step true b x y z ea eb = cc
plain-step false true x y z ea eb = cc
plain-step false false x y z ea eb = refl

-- a word that is neither truth value
pub record IsOther (word : List ℕ) : Type 0 where
  pub not_true : bytes_eq word (codes "true") ≡ false
  pub not_false : bytes_eq word (codes "false") ≡ false
  pub argument : is_argument word ≡ true

digits : (word : List ℕ) → IsOther word → IsNumeral 10 (after_minus word)
digits word o = numeral-digits (after_minus word) (argument-tests (bytes_eq word (codes "true")) (bytes_eq word (codes "false")) (is_numeral (after_minus word)) o.not_true o.not_false o.argument)

number : (word : List ℕ) → IsOther word → argument_of word ≡ Number (number_spelt word)
number word o = plain-step (bytes_eq word (codes "true")) (bytes_eq word (codes "false")) (Truth true) (Truth false) (Number (number_spelt word)) o.not_true o.not_false

pub reads-none : (word : List ℕ) → IsOther word → (IsNumber word → ⊥) → FitsSigned w128 (number_of (argument_of word)) → ⊥
reads-none word o none fits = none (digits word o, subst (λ a. FitsSigned w128 (number_of a)) (number word o) fits)

narrow_fits : (n : ℤ) → IsNarrow n → FitsSigned w128 n
narrow_fits (pos n) h = record { sfits = omega (arith, ints, h.0, h.1) }
narrow_fits (negsuc n) h = record { sfits = omega (arith, ints, h.0, h.1) }

wide_fits : (n : ℤ) → IsWide n → FitsSigned w128 n
wide_fits (pos n) h = record { sfits = omega (arith, ints, h.0, h.1) }
wide_fits (negsuc n) h = record { sfits = omega (arith, ints, h.0, h.1) }

-- what a type takes fits in 128 bits with a sign
taken-fits : (type : ValType) (n : ℤ) → IsTaken type n → FitsSigned w128 n
taken-fits ty.I32 n h = narrow_fits n h
taken-fits ty.I64 n h = wide_fits n h

-- how far the words are taken: what those so far are, and those of the other types and words
pub record Taken (types : List ValType) (words : List (List ℕ)) (others : List ValType) (left : List (List ℕ)) (values : List Arg) (numbers : List Num) : Type 0 where
  pub are : list_all is_argument left ≡ true
  pub values_are : values ++ map argument_of left ≡ map argument_of words
  pub numbers_are : numbers ++ typed_all others left ≡ typed_all types words
  pub fit : Fit types words → Fit others left
  pub fit_back : Fit others left → Fit types words

taken-is : (types others more : List ValType) (words left last : List (List ℕ)) (values : List Arg) (numbers : List Num) → Taken types words others left values numbers → others ≡ more → left ≡ last → Taken types words more last values numbers
taken-is types others more words left last values numbers t e f = subst (λ x. Taken types words x last values numbers) e (subst (λ x. Taken types words others x values numbers) f t)

and-left : (a b : Bool) → (a && b) ≡ true → a ≡ true
and-left true b e = refl
and-left false b e = e

and-right : (a b : Bool) → (a && b) ≡ true → b ≡ true
and-right true b e = e
and-right false b e = cc

-- a type takes the next word
pub taken-more : (types others rest : List ValType) (type : ValType) (words left behind : List (List ℕ)) (word : List ℕ) (values : List Arg) (value : Arg) (numbers : List Num) (m : ℤ) (n : Num) → Taken types words others left values numbers → others ≡ type ∷ rest → left ≡ word ∷ behind → value ≡ argument_of word → m ≡ number_of value → IsTaken type m → n ≡ typed type m → Taken types words rest behind (values ++ (value ∷ [])) (numbers ++ (n ∷ []))
taken-more types others rest type words left behind word values value numbers m n t e f ev em taken en =
    let s : Taken types words (type ∷ rest) (word ∷ behind) values numbers = taken-is types others (type ∷ rest) words left (word ∷ behind) values numbers t e f in
    let em2 : m ≡ number_of (argument_of word) = em ∙ ap number_of ev in
    let here : IsTaken type (number_of (argument_of word)) = subst (λ x. IsTaken type x) em2 taken in
    record {
      are = and-right (is_argument word) (list_all is_argument behind) s.are;
      values_are = append_assoc values (value ∷ []) (map argument_of behind) ∙ ap (λ x. values ++ (x ∷ map argument_of behind)) ev ∙ s.values_are;
      numbers_are = append_assoc numbers (n ∷ []) (typed_all rest behind) ∙ ap (λ x. numbers ++ (x ∷ typed_all rest behind)) (en ∙ ap (λ x. typed type x) em2) ∙ s.numbers_are;
      fit = λ h. (s.fit h).1;
      fit_back = λ h. s.fit_back (here, h);
    }

no_words : (type : ValType) (rest : List ValType) (left : List (List ℕ)) → length left ≡ 0 → Fit (type ∷ rest) left → ⊥
no_words type rest [] none h = h
no_words type rest (w ∷ ws) none h = absurd (omega arith)

-- a type without a word
pub no-word : (types others rest : List ValType) (type : ValType) (words left : List (List ℕ)) (values : List Arg) (numbers : List Num) → Taken types words others left values numbers → others ≡ type ∷ rest → length left ≡ 0 → Fit types words → ⊥
no-word types others rest type words left values numbers t e none h = no_words type rest left none (subst (λ x. Fit x left) e (t.fit h))

next-taken : (types others rest : List ValType) (type : ValType) (words left behind : List (List ℕ)) (word : List ℕ) (values : List Arg) (numbers : List Num) → Taken types words others left values numbers → others ≡ type ∷ rest → left ≡ word ∷ behind → Fit types words → IsTaken type (number_of (argument_of word))
next-taken types others rest type words left behind word values numbers t e f h =
    let s : Taken types words (type ∷ rest) (word ∷ behind) values numbers = taken-is types others (type ∷ rest) words left (word ∷ behind) values numbers t e f in
    (s.fit h).0

-- a word whose number is past all types
pub no-value : (types others rest : List ValType) (type : ValType) (words left behind : List (List ℕ)) (word : List ℕ) (values : List Arg) (numbers : List Num) → Taken types words others left values numbers → others ≡ type ∷ rest → left ≡ word ∷ behind → (FitsSigned w128 (number_of (argument_of word)) → ⊥) → Fit types words → ⊥
no-value types others rest type words left behind word values numbers t e f none h =
    none (taken-fits type (number_of (argument_of word)) (next-taken types others rest type words left behind word values numbers t e f h))
