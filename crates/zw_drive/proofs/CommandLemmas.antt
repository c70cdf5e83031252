-- What words ask for.
use Rattle.std.proofs.Common.{◌≡◌, ◌⊎◌, ℕ, Bool, true, false, cond, List, [], ◌∷◌, length, Option, Some, None, codes, refl, sym, ◌∙◌, ap, subst, inl, inr, nat_lt}
use Rattle.std.specs.List.{list_all}
use Rattle.std.specs.Str.{bytes_eq}
use Rattle.zw_calls.proofs.RequestLemmas.{one_request}
use Rattle.zw_calls.specs.Requests.{IsReading, Request, Spells, is_call, request_of}
use Rattle.zw_calls.specs.declared.request.RequestWords.{RequestWords}
use Rattle.zw_drive.specs.Commands.{Asks, AsksExec, CommandLine, Build, Check, Exec, Validate, command_of}

both_none : (b : Bool) (x y : Option CommandLine) → x ≡ None → y ≡ None → cond b x y ≡ None
both_none true x y e f = e
both_none false x y e f = f

exec_plain : (behind : List (List ℕ)) → command_of (codes "exec" ∷ behind) ≡ None
exec_plain [] = refl
exec_plain (word ∷ []) = both_none (nat_lt 0 (length word)) None None refl refl
exec_plain (word ∷ more ∷ words) = refl

-- words of `exec` are no other command
exec_none : (words : List (List ℕ)) (request : Request) → AsksExec words request → command_of words ≡ None
exec_none words request h = ap command_of h.words_are ∙ exec_plain h.behind

same_behind : (words behind other : List (List ℕ)) (verb : List ℕ) → words ≡ verb ∷ behind → words ≡ verb ∷ other → other ≡ behind
same_behind words behind other verb e f = cc

same_request : (words : List (List ℕ)) (a b : Request) → AsksExec words a → AsksExec words b → a ≡ b
same_request words a b h k =
    one_request h.behind a b h.spells
    (subst (λ (behind : List (List ℕ)). Spells behind b) (same_behind words h.behind k.behind (codes "exec") h.words_are k.words_are) k.spells)

abbrev Plain : List (List ℕ) → Option CommandLine → Type 0
Plain words asked = (command_of words ≡ asked) × ((request : Request) → AsksExec words request → ⊥)

abbrev Calls : List (List ℕ) → Option CommandLine → Type 0
Calls words asked = (request : Request) × (asked ≡ Some (Exec request)) × AsksExec words request

named : (words : List (List ℕ)) (line : CommandLine) → command_of words ≡ Some line → Plain words (Some line)
named words line e = (e, λ request h. let wrong : Some line ≡ None = sym e ∙ exec_none words request h in absurd cc)

kinds : (words : List (List ℕ)) (asked : Option CommandLine) → Asks words asked → Plain words asked ⊎ Calls words asked
kinds words None h = inl h
kinds words (Some (Check root)) h = inl (named words (Check root) h)
kinds words (Some (Build root)) h = inl (named words (Build root) h)
kinds words (Some (Validate file)) h = inl (named words (Validate file) h)
kinds words (Some (Exec request)) h = inr (request, refl, h)

-- words ask for one thing
pub one_asked : (words : List (List ℕ)) (a b : Option CommandLine) → Asks words a → Asks words b → a ≡ b
one_asked words a b h k =
    elim (kinds words a h) [
      | inl e ↦ elim (kinds words b k) [ inl f ↦ sym e.0 ∙ f.0 | inr f ↦ absurd (e.1 f.0 f.2) ]
      | inr e ↦ elim (kinds words b k) [
        | inl f ↦ absurd (f.1 e.0 e.2)
        | inr f ↦ e.1 ∙ ap (λ (r : Request). Some (Exec r)) (same_request words e.0 f.0 e.2 f.2) ∙ sym f.1
      ]
    ]

-- ---- what is read of words

none_of_four : (a b c d : Bool) (x y z : CommandLine) (request : Request) → (x ≡ Exec request → ⊥) → (y ≡ Exec request → ⊥) → (z ≡ Exec request → ⊥) → cond a (cond b (Some x) (cond c (Some y) (cond d (Some z) None))) None ≡ Some (Exec request) → ⊥
none_of_four true true c d x y z request no_x no_y no_z e = no_x cc
none_of_four true false true d x y z request no_x no_y no_z e = no_y cc
none_of_four true false false true x y z request no_x no_y no_z e = no_z cc
none_of_four true false false false x y z request no_x no_y no_z e = absurd cc
none_of_four false b c d x y z request no_x no_y no_z e = absurd cc

plain_never : (words : List (List ℕ)) (request : Request) → command_of words ≡ Some (Exec request) → ⊥
plain_never [] request e = absurd cc
plain_never (verb ∷ []) request e = absurd cc
plain_never (verb ∷ word ∷ []) request e =
    none_of_four (nat_lt 0 (length word)) (bytes_eq verb (codes "check")) (bytes_eq verb (codes "build")) (bytes_eq verb (codes "validate"))
    (Check word) (Build word) (Validate word) request (λ f. absurd cc) (λ f. absurd cc) (λ f. absurd cc) e
plain_never (verb ∷ word ∷ more ∷ words) request e = absurd cc

-- words whose first isn't `exec` ask for the command that they are
pub plain_asked : (words : List (List ℕ)) (asked : Option CommandLine) → asked ≡ command_of words → ((request : Request) → AsksExec words request → ⊥) → Asks words asked
plain_asked words None e other = (sym e, other)
plain_asked words (Some (Check root)) e other = sym e
plain_asked words (Some (Build root)) e other = sym e
plain_asked words (Some (Validate file)) e other = sym e
plain_asked words (Some (Exec request)) e other = absurd (plain_never words request (sym e))

pub no_words : (request : Request) → AsksExec [] request → ⊥
no_words request h = let e = h.words_are in absurd cc

pub other_verb : (verb : List ℕ) (behind : List (List ℕ)) → (verb ≡ codes "exec" → ⊥) → (request : Request) → AsksExec (verb ∷ behind) request → ⊥
other_verb verb behind other request h = let e = h.words_are in other cc

-- words of `exec` ask for the request behind it, or for nothing
pub exec_asked : (words behind : List (List ℕ)) → words ≡ codes "exec" ∷ behind → (request : RequestWords) → IsReading behind (Some request) → Asks words (Some (Exec (request_of request)))
exec_asked words behind e request h = record { behind = behind; words_are = e; spells = h }

pub exec_unasked : (words behind : List (List ℕ)) → words ≡ codes "exec" ∷ behind → IsReading behind None → Asks words None
exec_unasked words behind e none = (
  ap command_of e ∙ exec_plain behind,
  λ request h. none request (subst (λ (b : List (List ℕ)). Spells b request) (same_behind words behind h.behind (codes "exec") e h.words_are) h.spells),
)

pub asked_calls : (words : List (List ℕ)) (request : Request) → Asks words (Some (Exec request)) → list_all is_call request.calls ≡ true
asked_calls words request h = h.spells.calls
