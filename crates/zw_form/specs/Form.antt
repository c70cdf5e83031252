-- The form of a file that is built by now: extern functions, and exported functions whose result is a sum.
use Rattle.std.specs.Prelude.{◌≡◌, ◌⊎◌, ℕ, ◌<◌, ◌≤◌, ◌^◌, List, map, All, Some}
use Rattle.zw_base.specs.declared.stop.Refused.{Refused}
use Rattle.zw_base.specs.declared.stop.Refused.TheVariants as refused
use Rattle.zw_base.specs.declared.stop.Stop.{Stop}
use Rattle.zw_parse.specs.Syntax.{IsTreeOf, IsSyntaxStop}
use Rattle.zw_token.specs.Tokens.{Tokens, TextStop, stop_at}
use Rattle.zw_token.specs.declared.token.TextError.{TextError}
use Rattle.zw_token.specs.declared.token.Token.{Token}
use Rattle.zw_tree.specs.Trees.{Forest}
use Rattle.zw_tree.specs.declared.ast.Entry.{Entry}
use Rattle.zw_form.specs.Members.{Member, members_of, functions_of, Passes, IsFirstStop, IsLight, IsWeightStop, weight_of}
use Rattle.zw_form.specs.Programs.{program_of}
use Rattle.zw_form.specs.Rules.{steps_of}
use Rattle.zw_form.specs.Trees.{Tree, declaration_of}
use Rattle.zw_form.specs.declared.members.TheConstants.{WEIGHT_LIMIT}
use Rattle.zw_form.specs.declared.program.Program.{Program}
use Rattle.zw_form.specs.declared.source.Step.{Step}
use Rattle.zw_form.specs.declared.source.Step.TheVariants.{Parameter, Number, Operate, Call}

-- A text of the form, with its declarations: it has tokens and a tree, each member of the file is one of the declarations, and
-- none has a stop.
pub record HasForm (text : List ℕ) (trees : List Tree) : Type 0 where
  pub tokens : List Token
  pub file : Forest Entry
  pub has_tokens : Tokens text tokens
  pub has_tree : IsTreeOf 0 text tokens file
  pub declares : map (λ (m : Member). m.declares) (members_of text tokens file) ≡ map (λ (t : Tree). Some t) trees
  pub pass : All (Passes (functions_of (members_of text tokens file))) (members_of text tokens file)
  pub light : All IsLight (members_of text tokens file)

-- the program of a text of the form
abbrev pub IsProgramOf : List ℕ → Program → Type 0
IsProgramOf text p = (trees : List Tree) × HasForm text trees × (p ≡ program_of (map declaration_of trees))

-- a stop of the text as such: it has no tokens
abbrev pub IsTextStop : List ℕ → Stop → Type 0
IsTextStop text stop = (at : ℕ) × (error : TextError) × TextStop text at error × (stop ≡ stop_at 0 text at error)

-- a stop of a text with tokens that has no tree
pub record IsTreeStop (text : List ℕ) (stop : Stop) : Type 0 where
  pub tokens : List Token
  pub has_tokens : Tokens text tokens
  pub stops : IsSyntaxStop 0 text tokens stop

-- a stop of a text with a tree: error 36 or limit 5 of the first member that has one, and behind these limit 11
pub record IsFormStop (text : List ℕ) (stop : Stop) : Type 0 where
  pub tokens : List Token
  pub file : Forest Entry
  pub has_tokens : Tokens text tokens
  pub has_tree : IsTreeOf 0 text tokens file
  pub stops : IsFirstStop (members_of text tokens file) stop ⊎ IsWeightStop (members_of text tokens file) stop

-- the stop of a text
abbrev pub IsStopOf : List ℕ → Stop → Type 0
IsStopOf text stop = IsTextStop text stop ⊎ (IsTreeStop text stop ⊎ IsFormStop text stop)

-- why a text isn't read: it has a stop, or memory ran out
abbrev pub IsRefusal : List ℕ → Refused → Type 0
IsRefusal text (refused.Stop stop) = IsStopOf text stop
IsRefusal text refused.Oom = Unit {0}

-- a number is one of 32 bits
abbrev pub FitsStep : Step → Type 0
FitsStep (Parameter name) = Unit {0}
FitsStep (Number n) = n < 2 ^ 32
FitsStep (Operate operator) = Unit {0}
FitsStep (Call callee) = Unit {0}

-- What the form gives beside its rules: no exported function's frame is too heavy, and numbers are of 32 bits.
pub record IsSmall (trees : List Tree) : Type 0 where
  pub weights_are_small : All (λ (t : Tree). weight_of (declaration_of t) ≤ WEIGHT_LIMIT) trees
  pub numbers_fit : All (λ (t : Tree). All FitsStep (steps_of (declaration_of t))) trees
