-- The words of a command line, and what they ask for. This project's own.
use Rattle.std.specs.Prelude.{◌≡◌, ℕ, List, [], ◌∷◌, Option, Some, None, codes, if◌then◌else◌, length, nat_lt}
use Rattle.std.specs.Str.{bytes_eq}
use Rattle.zw_calls.specs.Requests.{Request, Spells, request_of}
use Rattle.zw_drive.specs.declared.command.Command.{Command}
use Rattle.zw_drive.specs.declared.command.Command.TheVariants as code

-- what a command line asks for: checking or building the tree of files below a root, validating a module's file, or running calls of one
pub data CommandLine : Type 0 where
  Check : (root : List ℕ) → CommandLine
  Build : (root : List ℕ) → CommandLine
  Validate : (file : List ℕ) → CommandLine
  Exec : (request : Request) → CommandLine

-- the command of a verb and one word
abbrev pub command_on : List ℕ → List ℕ → Option CommandLine
command_on verb word =
    if bytes_eq verb (codes "check")
    then Some (Check word)
    else (if bytes_eq verb (codes "build") then Some (Build word) else (if bytes_eq verb (codes "validate") then Some (Validate word) else None))

-- the command of these words, where they are `check`, `build` or `validate`, and a word that isn't empty
abbrev pub command_of : List (List ℕ) → Option CommandLine
command_of [] = None
command_of (verb ∷ []) = None
command_of (verb ∷ word ∷ []) = if nat_lt 0 (length word) then command_on verb word else None
command_of (verb ∷ word ∷ more ∷ words) = None

-- the words are `exec` and those of a request
pub record AsksExec (words : List (List ℕ)) (request : Request) : Type 0 where
  pub behind : List (List ℕ)
  pub words_are : words ≡ codes "exec" ∷ behind
  pub spells : Spells behind request

-- the words ask for this, or for nothing
abbrev pub Asks : List (List ℕ) → Option CommandLine → Type 0
Asks words None = (command_of words ≡ None) × ((request : Request) → AsksExec words request → ⊥)
Asks words (Some (Check root)) = command_of words ≡ Some (Check root)
Asks words (Some (Build root)) = command_of words ≡ Some (Build root)
Asks words (Some (Validate file)) = command_of words ≡ Some (Validate file)
Asks words (Some (Exec request)) = AsksExec words request

-- the command line that a command of the code stands for
abbrev pub line_of : Command → Option CommandLine
line_of (code.Check root) = Some (Check root.now)
line_of (code.Build root) = Some (Build root.now)
line_of (code.Validate file) = Some (Validate file.now)
line_of (code.Exec request) = Some (Exec (request_of request))
line_of code.Unknown = None
