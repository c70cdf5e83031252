-- The tree of a text by the grammar, and where a text stops that has none.
use Rattle.std.specs.Prelude.{◌≡◌, ℕ, ◌-◌, List, drop, length, None}
use Rattle.zw_base.specs.declared.stop.Refused.{Refused}
use Rattle.zw_base.specs.declared.stop.Refused.TheVariants as refused
use Rattle.zw_base.specs.declared.stop.Stop.{Stop}
use Rattle.zw_base.specs.declared.stop.StopKind.{StopKind}
use Rattle.zw_base.specs.declared.stop.StopKind.TheVariants.{Error, Limit}
use Rattle.zw_token.specs.Tokens.{place_at}
use Rattle.zw_token.specs.declared.token.Token.{Token}
use Rattle.zw_tree.specs.Trees.{Forest, none, tree, map_forest}
use Rattle.zw_tree.specs.declared.ast.Entry.{Entry}
use Rattle.zw_tree.specs.declared.kind.NodeKind.TheVariants.{Root}
use Rattle.zw_grammar.specs.Building.{Span, Building}
use Rattle.zw_parse_expr.specs.Files.{IsFile, IsWrongFile, IsNestedFile}
use Rattle.zw_parse_expr.specs.Lexemes.{Lexeme, lexemes}
use Rattle.zw_parse.specs.Entries.{entry_at, first_start}

-- the node of a file has all its tokens
abbrev pub root_span : List Lexeme → Span
root_span list = record { kind = Root; first = 0; last = length list - 1 }

-- the members below it
abbrev pub tree_of_file : List Lexeme → Building → Forest Span
tree_of_file list b = tree (root_span list) b.ended none

-- the tree of a text: its tokens are read by the grammar with no rule nested too deep, and each node says what its tokens stand for
pub record IsTreeOf (file : ℕ) (text : List ℕ) (tokens : List Token) (forest : Forest Entry) : Type 0 where
  pub building : Building
  pub reads : IsFile (lexemes text tokens) building
  pub flat : building.passed ≡ None
  pub is : forest ≡ map_forest (entry_at file text tokens) (tree_of_file (lexemes text tokens) building)

-- a stop at the token with this number
abbrev pub stop_of : StopKind → ℕ → List ℕ → List Token → ℕ → Stop
stop_of kind file text tokens number = record { kind = kind; place = place_at file text (first_start (drop number tokens)) }

-- where a text stops that has no tree: at the first token after which no grammatical text goes on, unless a rule is nested too deep
-- before it; or at the token that begins the first rule nested too deep
pub data IsSyntaxStop (file : ℕ) (text : List ℕ) (tokens : List Token) (stop : Stop) : Type 0 where
  wrong : (number : ℕ) → IsWrongFile (lexemes text tokens) number → ((other : ℕ) → IsNestedFile (lexemes text tokens) other → ⊥) →
      stop ≡ stop_of (Error 6) file text tokens number → IsSyntaxStop file text tokens stop
  nested : (number : ℕ) → IsNestedFile (lexemes text tokens) number → stop ≡ stop_of (Limit 3) file text tokens number → IsSyntaxStop file text tokens stop

-- a text is refused because it has a stop, or because memory ran out
abbrev pub IsSyntaxRefusal : ℕ → List ℕ → List Token → Refused → Type 0
IsSyntaxRefusal file text tokens (refused.Stop stop) = IsSyntaxStop file text tokens stop
IsSyntaxRefusal file text tokens refused.Oom = Unit {0}

-- the tokens that a node has
abbrev pub span_in : Entry → Span
span_in entry = record { kind = entry.node.kind; first = entry.node.first; last = entry.node.last }
