-- The words of calls: which words they are, that they are cut before `--steps`, and that they make their calls again.
use Rattle.std.proofs.Common.{◌≡◌, ◌∙◌, ℕ, ◌<◌, Bool, true, false, not, cond, ◌&&◌, nat_lt, nat_eq, List, [], ◌∷◌, ◌++◌, length, refl, ap, sym, subst, arith, codes}
use Rattle.std.specs.List.{flat_map, list_all, starts_with}
use Rattle.std.proofs.lemmas.List.{append-nil}
use Rattle.zw_calls.proofs.TextLemmas.{same_bytes}
use Rattle.zw_calls.specs.Requests.{Call, Request, Spells, GivesSteps, GivesNoSteps, words_of, is_call, is_word, are_calls, calls_of, leading_arguments, before_steps, from_steps}
use Rattle.zw_calls.specs.Words.{is_argument, is_name, is_steps}

-- ---- tests

both : (a b : Bool) → a ≡ true → b ≡ true → (a && b) ≡ true
both true b ea eb = eb
both false b ea eb = cc

and-left : (a b : Bool) → (a && b) ≡ true → a ≡ true
and-left true b e = refl
and-left false b e = e

and-right : (a b : Bool) → (a && b) ≡ true → b ≡ true
and-right true b e = e
and-right false b e = cc

if-and-left : (a b : Bool) → cond a b false ≡ true → a ≡ true
if-and-left true b e = refl
if-and-left false b e = e

if-and-right : (a b : Bool) → cond a b false ≡ true → b ≡ true
if-and-right true b e = e
if-and-right false b e = cc

or-left : (a b : Bool) → a ≡ true → cond a true b ≡ true
or-left true b e = refl
or-left false b e = cc

or-right : (a b : Bool) → b ≡ true → cond a true b ≡ true
or-right true b e = refl
or-right false b e = e

when-true : {A : Type 0} (b : Bool) (x y : A) → b ≡ true → cond b x y ≡ x
when-true true x y e = refl
when-true false x y e = cc

when-false : {A : Type 0} (b : Bool) (x y : A) → b ≡ false → cond b x y ≡ y
when-false true x y e = cc
when-false false x y e = refl

all-append : (p : List ℕ → Bool) (xs ys : List (List ℕ)) → list_all p xs ≡ true → list_all p ys ≡ true → list_all p (xs ++ ys) ≡ true
all-append p [] ys e f = f
all-append p (x ∷ xs) ys e f = both (p x) (list_all p (xs ++ ys)) (and-left (p x) (list_all p xs) e) (all-append p xs ys (and-right (p x) (list_all p xs) e) f)

-- ---- kinds of words

name-tests : (a b c : Bool) → cond a (cond b false (not c)) false ≡ true → c ≡ false
name-tests true true c e = cc
name-tests true false true e = cc
name-tests true false false e = refl
name-tests false b c e = cc

-- a name is no argument
pub name-no_argument : (word : List ℕ) → is_name word ≡ true → is_argument word ≡ false
name-no_argument word e = name-tests (nat_lt 0 (length word)) (starts_with nat_eq word (codes "--")) (is_argument word) e

argument-word : (word : List ℕ) → is_argument word ≡ true → is_word word ≡ true
argument-word word e = or-left (is_argument word) (is_name word) e

name-word : (word : List ℕ) → is_name word ≡ true → is_word word ≡ true
name-word word e = or-right (is_argument word) (is_name word) e

steps-tests : (word : List ℕ) (b : Bool) → is_steps word ≡ b → is_word word ≡ true → b ≡ false
steps-tests word true e h =
    let wrong : is_word (codes "--steps") ≡ true = subst (λ v. is_word v ≡ true) (same_bytes word (codes "--steps") e) h in
    cc
steps-tests word false e h = refl

-- `--steps` is no word of a call
word-no_steps : (word : List ℕ) → is_word word ≡ true → is_steps word ≡ false
word-no_steps word h = steps-tests word (is_steps word) refl h

arguments-words : (words : List (List ℕ)) → list_all is_argument words ≡ true → list_all is_word words ≡ true
arguments-words [] e = refl
arguments-words (w ∷ ws) e =
    both (is_word w) (list_all is_word ws)
    (argument-word w (and-left (is_argument w) (list_all is_argument ws) e))
    (arguments-words ws (and-right (is_argument w) (list_all is_argument ws) e))

-- all words of calls are names and arguments
calls-words : (calls : List Call) → list_all is_call calls ≡ true → list_all is_word (flat_map words_of calls) ≡ true
calls-words [] e = refl
calls-words (c ∷ cs) e =
    let here : is_call c ≡ true = and-left (is_call c) (list_all is_call cs) e in
    let behind : list_all is_call cs ≡ true = and-right (is_call c) (list_all is_call cs) e in
    both (is_word c.name) (list_all is_word (c.arguments ++ flat_map words_of cs))
    (name-word c.name (and-left (is_name c.name) (list_all is_argument c.arguments) here))
    (all-append is_word c.arguments (flat_map words_of cs)
    (arguments-words c.arguments (and-right (is_name c.name) (list_all is_argument c.arguments) here)) (calls-words cs behind))

-- one call or more begin with a name
calls-are_calls : (calls : List Call) → 0 < length calls → list_all is_call calls ≡ true → are_calls (flat_map words_of calls) ≡ true
calls-are_calls [] some e = absurd (omega arith)
calls-are_calls (c ∷ cs) some e =
    let here : is_call c ≡ true = and-left (is_call c) (list_all is_call cs) e in
    let all : list_all is_word (flat_map words_of (c ∷ cs)) ≡ true = calls-words (c ∷ cs) e in
    when-true (is_name c.name) (list_all is_word (c.arguments ++ flat_map words_of cs)) false (and-left (is_name c.name) (list_all is_argument c.arguments) here)
    ∙ and-right (is_word c.name) (list_all is_word (c.arguments ++ flat_map words_of cs)) all

-- ---- the cut before `--steps`

before-append : (xs ys : List (List ℕ)) → list_all is_word xs ≡ true → before_steps (xs ++ ys) ≡ xs ++ before_steps ys
before-append [] ys e = refl
before-append (x ∷ xs) ys e =
    when-false (is_steps x) [] (x ∷ before_steps (xs ++ ys)) (word-no_steps x (and-left (is_word x) (list_all is_word xs) e))
    ∙ ap (λ v. x ∷ v) (before-append xs ys (and-right (is_word x) (list_all is_word xs) e))

from-append : (xs ys : List (List ℕ)) → list_all is_word xs ≡ true → from_steps (xs ++ ys) ≡ from_steps ys
from-append [] ys e = refl
from-append (x ∷ xs) ys e =
    when-false (is_steps x) (x ∷ (xs ++ ys)) (from_steps (xs ++ ys)) (word-no_steps x (and-left (is_word x) (list_all is_word xs) e))
    ∙ from-append xs ys (and-right (is_word x) (list_all is_word xs) e)

before-behind : (ys : List (List ℕ)) (steps : ℕ) → GivesSteps ys steps → before_steps ys ≡ []
before-behind [] steps h = refl
before-behind (m ∷ []) steps h = absurd h
before-behind (m ∷ n ∷ []) steps h = when-true (is_steps m) [] (m ∷ before_steps (n ∷ [])) h.0
before-behind (m ∷ n ∷ k ∷ ws) steps h = absurd h

from-behind : (ys : List (List ℕ)) (steps : ℕ) → GivesSteps ys steps → from_steps ys ≡ ys
from-behind [] steps h = refl
from-behind (m ∷ []) steps h = absurd h
from-behind (m ∷ n ∷ []) steps h = when-true (is_steps m) (m ∷ n ∷ []) (from_steps (n ∷ [])) h.0
from-behind (m ∷ n ∷ k ∷ ws) steps h = absurd h

cut-step : (b : Bool) (w : List ℕ) (ws xs ys : List (List ℕ)) → xs ++ ys ≡ ws → cond b [] (w ∷ xs) ++ cond b (w ∷ ws) ys ≡ w ∷ ws
cut-step true w ws xs ys e = refl
cut-step false w ws xs ys e = ap (λ v. w ∷ v) e

-- the two parts are all words
cut-whole : (ws : List (List ℕ)) → before_steps ws ++ from_steps ws ≡ ws
cut-whole [] = refl
cut-whole (w ∷ ws) = cut-step (is_steps w) w ws (before_steps ws) (from_steps ws) (cut-whole ws)

-- ---- the calls that words make

abbrev make : List ℕ → List (List ℕ) → Call
make name arguments = record { name = name; arguments = arguments }

leading-append : (xs ys : List (List ℕ)) → list_all is_argument xs ≡ true → leading_arguments (xs ++ ys) ≡ xs ++ leading_arguments ys
leading-append [] ys e = refl
leading-append (x ∷ xs) ys e =
    when-true (is_argument x) (x ∷ leading_arguments (xs ++ ys)) [] (and-left (is_argument x) (list_all is_argument xs) e)
    ∙ ap (λ v. x ∷ v) (leading-append xs ys (and-right (is_argument x) (list_all is_argument xs) e))

calls_of-append : (xs ys : List (List ℕ)) → list_all is_argument xs ≡ true → calls_of (xs ++ ys) ≡ calls_of ys
calls_of-append [] ys e = refl
calls_of-append (x ∷ xs) ys e =
    when-true (is_argument x) (calls_of (xs ++ ys)) (make x (leading_arguments (xs ++ ys)) ∷ calls_of (xs ++ ys)) (and-left (is_argument x) (list_all is_argument xs) e)
    ∙ calls_of-append xs ys (and-right (is_argument x) (list_all is_argument xs) e)

-- no argument leads the words of calls
leading-calls : (calls : List Call) → list_all is_call calls ≡ true → leading_arguments (flat_map words_of calls) ≡ []
leading-calls [] e = refl
leading-calls (c ∷ cs) e =
    let here : is_call c ≡ true = and-left (is_call c) (list_all is_call cs) e in
    when-false (is_argument c.name) (c.name ∷ leading_arguments (c.arguments ++ flat_map words_of cs)) []
    (name-no_argument c.name (and-left (is_name c.name) (list_all is_argument c.arguments) here))

-- the words of calls make these calls
calls_of-words : (calls : List Call) → list_all is_call calls ≡ true → calls_of (flat_map words_of calls) ≡ calls
calls_of-words [] e = refl
calls_of-words (c ∷ cs) e =
    let here : is_call c ≡ true = and-left (is_call c) (list_all is_call cs) e in
    let behind : list_all is_call cs ≡ true = and-right (is_call c) (list_all is_call cs) e in
    let arguments : list_all is_argument c.arguments ≡ true = and-right (is_name c.name) (list_all is_argument c.arguments) here in
    let rest : List (List ℕ) = flat_map words_of cs in
    let led : leading_arguments (c.arguments ++ rest) ≡ c.arguments =
    leading-append c.arguments rest arguments ∙ ap (λ v. c.arguments ++ v) (leading-calls cs behind) ∙ append-nil c.arguments in
    let made : calls_of (c.arguments ++ rest) ≡ cs = calls_of-append c.arguments rest arguments ∙ calls_of-words cs behind in
    when-false (is_argument c.name) (calls_of (c.arguments ++ rest)) (make c.name (leading_arguments (c.arguments ++ rest)) ∷ calls_of (c.arguments ++ rest))
    (name-no_argument c.name (and-left (is_name c.name) (list_all is_argument c.arguments) here))
    ∙ ap (λ v. make c.name v ∷ calls_of (c.arguments ++ rest)) led
    ∙ ap (λ v. c ∷ v) made

words-step : (b : Bool) (w : List ℕ) (led ws : List (List ℕ)) (cs : List Call) → led ++ flat_map words_of cs ≡ ws → cond b (w ∷ led) [] ++ flat_map words_of (cond b cs (make w led ∷ cs)) ≡ w ∷ ws
words-step true w led ws cs e = ap (λ v. w ∷ v) e
words-step false w led ws cs e = ap (λ v. w ∷ v) e

words-calls_of : (ws : List (List ℕ)) → leading_arguments ws ++ flat_map words_of (calls_of ws) ≡ ws
words-calls_of [] = refl
words-calls_of (w ∷ ws) = words-step (is_argument w) w (leading_arguments ws) ws (calls_of ws) (words-calls_of ws)

leading-step : (b : Bool) (w : List ℕ) (led : List (List ℕ)) → is_argument w ≡ b → list_all is_argument led ≡ true → list_all is_argument (cond b (w ∷ led) []) ≡ true
leading-step true w led e h = both (is_argument w) (list_all is_argument led) e h
leading-step false w led e h = refl

leading-arguments : (ws : List (List ℕ)) → list_all is_argument (leading_arguments ws) ≡ true
leading-arguments [] = refl
leading-arguments (w ∷ ws) = leading-step (is_argument w) w (leading_arguments ws) refl (leading-arguments ws)

good-step : (b : Bool) (w : List ℕ) (led : List (List ℕ)) (cs : List Call) → cond b true (is_name w) ≡ true → list_all is_argument led ≡ true → list_all is_call cs ≡ true → list_all is_call (cond b cs (make w led ∷ cs)) ≡ true
good-step true w led cs e h k = k
good-step false w led cs e h k = both (is_call (make w led)) (list_all is_call cs) (both (is_name w) (list_all is_argument led) e h) k

calls_of-good : (ws : List (List ℕ)) → list_all is_word ws ≡ true → list_all is_call (calls_of ws) ≡ true
calls_of-good [] e = refl
calls_of-good (w ∷ ws) e =
    good-step (is_argument w) w (leading_arguments ws) (calls_of ws) (and-left (is_word w) (list_all is_word ws) e) (leading-arguments ws)
    (calls_of-good ws (and-right (is_word w) (list_all is_word ws) e))

some-step : (b : Bool) (c : Call) (cs : List Call) → b ≡ false → 0 < length (cond b cs (c ∷ cs))
some-step true c cs e = cc
some-step false c cs e = omega arith

-- ---- words of calls, as the code tests them

are_calls-words : (ws : List (List ℕ)) → are_calls ws ≡ true → list_all is_word ws ≡ true
are_calls-words [] e = refl
are_calls-words (w ∷ ws) e = both (is_word w) (list_all is_word ws) (name-word w (if-and-left (is_name w) (list_all is_word ws) e)) (if-and-right (is_name w) (list_all is_word ws) e)

are_calls-some : (ws : List (List ℕ)) → are_calls ws ≡ true → 0 < length (calls_of ws)
are_calls-some [] e = cc
are_calls-some (w ∷ ws) e = some-step (is_argument w) (make w (leading_arguments ws)) (calls_of ws) (name-no_argument w (if-and-left (is_name w) (list_all is_word ws) e))

are_calls-whole : (ws : List (List ℕ)) → are_calls ws ≡ true → flat_map words_of (calls_of ws) ≡ ws
are_calls-whole [] e = refl
are_calls-whole (w ∷ ws) e =
    let led : leading_arguments (w ∷ ws) ≡ [] = when-false (is_argument w) (w ∷ leading_arguments ws) [] (name-no_argument w (if-and-left (is_name w) (list_all is_word ws) e)) in
    ap (λ v. v ++ flat_map words_of (calls_of (w ∷ ws))) (sym led) ∙ words-calls_of (w ∷ ws)

-- ---- readings

-- words that the code takes spell the request of their parts
pub spells : (path : List ℕ) (rest : List (List ℕ)) (steps : ℕ) → 0 < length path → are_calls (before_steps rest) ≡ true → GivesSteps (from_steps rest) steps → Spells (path ∷ rest) (record { path = path; calls = calls_of (before_steps rest); steps = steps })
spells path rest steps some calls gives = record {
  behind = from_steps rest;
  words_are = ap (λ v. path ∷ v) (sym (ap (λ v. v ++ from_steps rest) (are_calls-whole (before_steps rest) calls) ∙ cut-whole rest));
  path = some;
  some_call = are_calls-some (before_steps rest) calls;
  calls = calls_of-good (before_steps rest) (are_calls-words (before_steps rest) calls);
  steps = gives;
}

-- the parts of words that spell a request
pub record Parts (rest : List (List ℕ)) (request : Request) (behind : List (List ℕ)) : Type 0 where
  pub before : before_steps rest ≡ flat_map words_of request.calls
  pub from : from_steps rest ≡ behind

pub parts : (path : List ℕ) (rest : List (List ℕ)) (request : Request) (s : Spells (path ∷ rest) request) → Parts rest request s.behind
parts path rest request s =
    let words : List (List ℕ) = flat_map words_of request.calls in
    let all : list_all is_word words ≡ true = calls-words request.calls s.calls in
    let whole : path ∷ rest ≡ request.path ∷ (words ++ s.behind) = s.words_are in
    let is : rest ≡ words ++ s.behind = cc in
    record {
      before = ap before_steps is ∙ before-append words s.behind all ∙ ap (λ v. words ++ v) (before-behind s.behind request.steps s.steps) ∙ append-nil words;
      from = ap from_steps is ∙ from-append words s.behind all ∙ from-behind s.behind request.steps s.steps;
    }

pub spelt_calls : (path : List ℕ) (rest : List (List ℕ)) (request : Request) → Spells (path ∷ rest) request → are_calls (before_steps rest) ≡ true
spelt_calls path rest request s = ap are_calls (parts path rest request s).before ∙ calls-are_calls request.calls s.some_call s.calls

pub spelt_steps : (path : List ℕ) (rest : List (List ℕ)) (request : Request) → Spells (path ∷ rest) request → GivesSteps (from_steps rest) request.steps
spelt_steps path rest request s = subst (λ v. GivesSteps v request.steps) (sym (parts path rest request s).from) s.steps

pub spelt_nothing : (request : Request) → Spells [] request → ⊥
spelt_nothing request s =
    let whole : [] ≡ request.path ∷ (flat_map words_of request.calls ++ s.behind) = s.words_are in
    cc

-- words that aren't words of calls before `--steps` spell nothing
pub none_calls : (words : List (List ℕ)) (path : List ℕ) (rest : List (List ℕ)) → words ≡ path ∷ rest → are_calls (before_steps rest) ≡ false → (request : Request) → Spells words request → ⊥
none_calls words path rest is e request s =
    let good : are_calls (before_steps rest) ≡ true = spelt_calls path rest request (subst (λ v. Spells v request) is s) in
    let wrong : false ≡ true = sym e ∙ good in
    cc

-- nor do those that give no number of steps
pub none_steps : (words : List (List ℕ)) (path : List ℕ) (rest : List (List ℕ)) → words ≡ path ∷ rest → GivesNoSteps (from_steps rest) → (request : Request) → Spells words request → ⊥
none_steps words path rest is none request s = none request.steps (spelt_steps path rest request (subst (λ v. Spells v request) is s))

-- words with all these spell the request of their parts
pub some_request : (words : List (List ℕ)) (path : List ℕ) (rest : List (List ℕ)) (steps : ℕ) (calls : List Call) → words ≡ path ∷ rest → 0 < length path → are_calls (before_steps rest) ≡ true → GivesSteps (from_steps rest) steps → calls ≡ calls_of (before_steps rest) → Spells words (record { path = path; calls = calls; steps = steps })
some_request words path rest steps calls is some good gives made =
    subst (λ v. Spells v (record { path = path; calls = calls; steps = steps })) (sym is)
    (subst (λ v. Spells (path ∷ rest) (record { path = path; calls = v; steps = steps })) (sym made) (spells path rest steps some good gives))

-- ---- one reading

one_count : (ys : List (List ℕ)) (m n : ℕ) → GivesSteps ys m → GivesSteps ys n → m ≡ n
one_count [] m n h k = h ∙ sym k
one_count (a ∷ []) m n h k = absurd h
one_count (a ∷ b ∷ []) m n h k = h.2 ∙ sym k.2
one_count (a ∷ b ∷ c ∷ ws) m n h k = absurd h

spelt_request : (path : List ℕ) (rest : List (List ℕ)) (request : Request) → Spells (path ∷ rest) request → (request.path ≡ path) × (request.calls ≡ calls_of (before_steps rest))
spelt_request path rest request s =
    let whole : path ∷ rest ≡ request.path ∷ (flat_map words_of request.calls ++ s.behind) = s.words_are in
    (cc, sym (ap calls_of (parts path rest request s).before ∙ calls_of-words request.calls s.calls))

same : (a b : Request) → a.path ≡ b.path → a.calls ≡ b.calls → a.steps ≡ b.steps → a ≡ b
same a b p q r =
    ap (λ v. let x : Request = record a { path = v } in x) p
    ∙ ap (λ v. let x : Request = record a { path = b.path; calls = v } in x) q
    ∙ ap (λ v. let x : Request = record b { steps = v } in x) r

pub one_request : (words : List (List ℕ)) (a b : Request) → Spells words a → Spells words b → a ≡ b
one_request [] a b s t = absurd (spelt_nothing a s)
one_request (path ∷ rest) a b s t =
    let x : (a.path ≡ path) × (a.calls ≡ calls_of (before_steps rest)) = spelt_request path rest a s in
    let y : (b.path ≡ path) × (b.calls ≡ calls_of (before_steps rest)) = spelt_request path rest b t in
    same a b (x.0 ∙ sym y.0) (x.1 ∙ sym y.1) (one_count (from_steps rest) a.steps b.steps (spelt_steps path rest a s) (spelt_steps path rest b t))
