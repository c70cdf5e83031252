-- What marks build: trees whose nodes name their first and their last terminal, and how deep rules nest.
use Rattle.std.specs.Prelude.{ℕ, zero, suc, ◌-◌, nat_lt, ◌==◌, Bool, false, List, [], ◌∷◌, Option, Some, None, slice_get, if◌then◌else◌}
use Rattle.zw_tree.specs.declared.kind.NodeKind.{NodeKind}
use Rattle.zw_tree.specs.Trees.{Forest, none, tree, beside, trees}
use Rattle.zw_grammar.specs.declared.grammar.Mark.{Mark}
use Rattle.zw_grammar.specs.declared.grammar.Mark.TheVariants.{Open, Wrap, Close, Leaf, Word, Enter, Leave}
use Rattle.zw_grammar.specs.declared.builder.TheConstants.{MAX_DEPTH}

-- a node: its kind, and the numbers of its first and of its last terminal
pub record Span : Type 0 where
  pub kind : NodeKind
  pub first : ℕ
  pub last : ℕ

-- a node that has begun, and the trees beside it that had ended before
pub record Begun : Type 0 where
  pub kind : NodeKind
  pub first : ℕ
  pub before : Forest Span

-- the trees that have ended in the innermost open node, the open nodes from the inside out, how many rules that count are open,
-- and where the first one begins that is nested too deep
pub record Building : Type 0 where
  pub ended : Forest Span
  pub begun : List Begun
  pub depth : ℕ
  pub passed : Option ℕ

-- nothing is built
abbrev pub nothing : Building
nothing = record { ended = none; begun = []; depth = 0; passed = None }

-- the first trees of a forest, as many as this
abbrev pub front : {A : Type 0} → ℕ → Forest A → Forest A
front n none = none
front zero (tree root below behind) = none
front (suc n) (tree root below behind) = tree root below (front n behind)

-- the trees of a forest without so many of the first
abbrev pub rest : {A : Type 0} → ℕ → Forest A → Forest A
rest n none = none
rest zero (tree root below behind) = tree root below behind
rest (suc n) (tree root below behind) = rest n behind

-- the first terminal of these trees; where there are none it is the next one
abbrev pub start_of : ℕ → Forest Span → ℕ
start_of next none = next
start_of next (tree root below behind) = root.first

-- a node begins, with these of the trees that have ended as its first children
abbrev pub begin : NodeKind → ℕ → Forest Span → Forest Span → Building → Building
begin kind first before inside b = record { ended = inside; begun = record { kind = kind; first = first; before = before } ∷ b.begun; depth = b.depth; passed = b.passed }

-- the innermost open node ends with this terminal
abbrev pub ends : ℕ → List Begun → Building → Building
ends last [] b = b
ends last (node ∷ outer) b = record { ended = beside node.before (tree (record { kind = node.kind; first = node.first; last = last }) b.ended none); begun = outer; depth = b.depth; passed = b.passed }

-- a node of one terminal
abbrev pub one : NodeKind → ℕ → Building → Building
one kind place b = record { ended = beside b.ended (tree (record { kind = kind; first = place; last = place }) none none); begun = b.begun; depth = b.depth; passed = b.passed }

-- the first of two places that are passed
abbrev pub first_of : Option ℕ → ℕ → Option ℕ
first_of None place = Some place
first_of (Some earlier) place = Some earlier

-- a rule that counts begins
abbrev pub enter : ℕ → Building → Building
enter place b = if nat_lt b.depth MAX_DEPTH
    then record { ended = b.ended; begun = b.begun; depth = suc b.depth; passed = b.passed }
    else record { ended = b.ended; begun = b.begun; depth = b.depth; passed = first_of b.passed place }

abbrev pub stands : Option ℕ → ℕ → Bool
stands None terminal = false
stands (Some other) terminal = other == terminal

-- the terminal stands at this place
abbrev pub is_at : List ℕ → ℕ → ℕ → Bool
is_at text place terminal = stands (slice_get text place) terminal

-- a node begins, with all trees that have ended but so many as its first children
abbrev pub wrapped : NodeKind → ℕ → ℕ → Building → Building
wrapped kind next k b = begin kind (start_of next (rest k b.ended)) (front k b.ended) (rest k b.ended) b

-- what a mark does before the terminal with this number
abbrev pub marked : List ℕ → ℕ → Mark → Building → Building
marked text next (Open kind back) b = begin kind (next - back) b.ended none b
marked text next (Wrap kind n) b = wrapped kind next (trees b.ended - n) b
marked text next Close b = ends (next - 1) b.begun b
marked text next (Leaf kind back) b = one kind (next - back) b
marked text next (Word terminal kind other back) b = one (if is_at text (next - back) terminal then kind else other) (next - back) b
marked text next (Enter back) b = enter (next - back) b
marked text next Leave b = record { ended = b.ended; begun = b.begun; depth = b.depth - 1; passed = b.passed }

-- all trees: those of the open nodes, without these nodes, and those that have ended
abbrev pub all_trees : List Begun → Forest Span → Forest Span
all_trees [] ended = ended
all_trees (node ∷ outer) ended = beside (all_trees outer node.before) ended

-- all trees stand below one node, which has the terminals from the first up to this one
abbrev pub enclosed : NodeKind → ℕ → Building → Building
enclosed kind last b = record { ended = tree (record { kind = kind; first = 0; last = last }) b.ended none; begun = []; depth = b.depth; passed = b.passed }
