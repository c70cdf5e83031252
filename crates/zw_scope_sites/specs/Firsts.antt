-- Firsts: what the first of trees that stand side by side says.
use Rattle.std.specs.Prelude.{ℕ, List, []}
use Rattle.zw_tree.specs.Trees.{Forest, none, tree}
use Rattle.zw_tree.specs.declared.ast.Entry.{Entry}
use Rattle.zw_tree.specs.declared.kind.NodeKind.{NodeKind}
use Rattle.zw_tree.specs.declared.kind.NodeKind.TheVariants.{Unreachable}
use Rattle.zw_scope_sites.specs.Scopes.{kind_of}

-- its kind; where there is none, a kind that no rule asks for
abbrev pub kind_at : Forest Entry → NodeKind
kind_at none = Unreachable
kind_at (tree root below behind) = kind_of root

-- the bytes that it stands for
abbrev pub text_at : Forest Entry → List ℕ
text_at none = []
text_at (tree root below behind) = root.name

-- its first token
abbrev pub token_at : Forest Entry → ℕ
token_at none = 0
token_at (tree root below behind) = root.node.first
