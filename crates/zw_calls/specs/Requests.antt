-- Requests: what the words behind `exec` or `run` ask for, `PATH CALL.. [--steps N]`. This project's own.
use Rattle.std.specs.Prelude.{◌≡◌, ℕ, ◌<◌, ◌≤◌, Bool, true, false, ◌&&◌, List, [], ◌∷◌, ◌++◌, length, map, Option, Some, None, if◌then◌else◌}
use Rattle.std.specs.List.{flat_map, list_all}
use Rattle.std.specs.Str.Parse.{digits_value}
use Rattle.zw_calls.specs.Words.{is_argument, is_name, is_numeral, is_steps}
use Rattle.zw_calls.specs.declared.request.CallWords.{CallWords}
use Rattle.zw_calls.specs.declared.request.RequestWords.{RequestWords}

-- a call by the name of an export, with the words of its arguments
pub record Call : Type 0 where
  pub name : List ℕ
  pub arguments : List (List ℕ)

-- calls of what stands at a path, and the number of instructions that they may take together
pub record Request : Type 0 where
  pub path : List ℕ
  pub calls : List Call
  pub steps : ℕ

-- the words of a call
abbrev pub words_of : Call → List (List ℕ)
words_of call = call.name ∷ call.arguments

-- a name, and zero or more arguments
abbrev pub is_call : Call → Bool
is_call call = is_name call.name && list_all is_argument call.arguments

-- a number of steps: digits, with a value from 1 to 4,000,000,000
abbrev pub IsStepCount : List ℕ → Type 0
IsStepCount number = (is_numeral number ≡ true) × (1 ≤ digits_value 10 number) × (digits_value 10 number ≤ 4000000000)

-- the words behind the calls give the number of steps: `--steps` and a number, or none for 100,000,000
abbrev pub GivesSteps : List (List ℕ) → ℕ → Type 0
GivesSteps [] steps = steps ≡ 100000000
GivesSteps (mark ∷ []) steps = ⊥
GivesSteps (mark ∷ number ∷ []) steps = (is_steps mark ≡ true) × IsStepCount number × (steps ≡ digits_value 10 number)
GivesSteps (mark ∷ number ∷ more ∷ words) steps = ⊥

abbrev pub GivesNoSteps : List (List ℕ) → Type 0
GivesNoSteps words = (steps : ℕ) → GivesSteps words steps → ⊥

-- these words spell the request: a path that isn't empty, one call or more, and the number of steps
pub record Spells (words : List (List ℕ)) (request : Request) : Type 0 where
  pub behind : List (List ℕ)
  pub words_are : words ≡ request.path ∷ (flat_map words_of request.calls ++ behind)
  pub path : 0 < length request.path
  pub some_call : 0 < length request.calls
  pub calls : list_all is_call request.calls ≡ true
  pub steps : GivesSteps behind request.steps

-- the calls that words make: each word that is no argument names one, and the arguments behind it are its own
abbrev pub leading_arguments : List (List ℕ) → List (List ℕ)
leading_arguments [] = []
leading_arguments (word ∷ words) = if is_argument word then word ∷ leading_arguments words else []

abbrev pub calls_of : List (List ℕ) → List Call
calls_of [] = []
calls_of (word ∷ words) =
    if is_argument word then calls_of words else record { name = word; arguments = leading_arguments words } ∷ calls_of words

-- the words before the first `--steps`, and those from it on
abbrev pub before_steps : List (List ℕ) → List (List ℕ)
before_steps [] = []
before_steps (word ∷ words) = if is_steps word then [] else word ∷ before_steps words

abbrev pub from_steps : List (List ℕ) → List (List ℕ)
from_steps [] = []
from_steps (word ∷ words) = if is_steps word then word ∷ words else from_steps words

-- a word of a call
abbrev pub is_word : List ℕ → Bool
is_word word = if is_argument word then true else is_name word

-- words of one call or more: a name stands first
abbrev pub are_calls : List (List ℕ) → Bool
are_calls [] = false
are_calls (name ∷ words) = if is_name name then list_all is_word words else false

-- what the words of the code stand for
abbrev pub call_of : CallWords → Call
call_of call = record { name = call.name.now; arguments = call.arguments.now }

abbrev pub request_of : RequestWords → Request
request_of request = record { path = request.path.now; calls = map call_of request.calls.items; steps = request.steps }

-- the request that the words spell, or none where they spell none
abbrev pub IsReading : List (List ℕ) → Option RequestWords → Type 0
IsReading words None = (request : Request) → Spells words request → ⊥
IsReading words (Some request) = Spells words (request_of request)
