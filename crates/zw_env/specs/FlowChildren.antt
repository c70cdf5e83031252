-- The children of a form by their positions, and what they are for.
use Rattle.std.specs.Prelude.{ℕ, suc, Bool, true, false, not, ◌||◌, List, [], ◌∷◌, Option, Some, None}
use Rattle.zw_tree.specs.Trees.{Forest, none, tree}
use Rattle.zw_tree.specs.Numbering.{inside_first, after}
use Rattle.zw_tree.specs.declared.ast.Entry.{Entry}
use Rattle.zw_tree.specs.declared.kind.NodeKind.{NodeKind}
use Rattle.zw_tree.specs.declared.kind.NodeKind.TheVariants as kind
use Rattle.zw_env.specs.Children.{is_word, first_name, has}

-- ---- kinds of parts that belong to a form and are no forms themselves

abbrev pub is_label : NodeKind → Bool
is_label kind.Label = true
is_label _ = false

abbrev pub is_capture : NodeKind → Bool
is_capture kind.Capture = true
is_capture kind.PointerCapture = true
is_capture _ = false

abbrev pub is_pointer_capture : NodeKind → Bool
is_pointer_capture kind.PointerCapture = true
is_pointer_capture _ = false

abbrev pub is_else : NodeKind → Bool
is_else kind.Else = true
is_else _ = false

abbrev pub is_step : NodeKind → Bool
is_step kind.ContinueExpression = true
is_step _ = false

abbrev pub is_inline : NodeKind → Bool
is_inline kind.InlineWord = true
is_inline _ = false

abbrev pub is_range : NodeKind → Bool
is_range kind.ForRange = true
is_range _ = false

abbrev pub is_any_type : NodeKind → Bool
is_any_type kind.AnyType = true
is_any_type _ = false

abbrev pub is_parameter : NodeKind → Bool
is_parameter kind.Parameter = true
is_parameter _ = false

abbrev pub is_blank : NodeKind → Bool
is_blank kind.Blank = true
is_blank _ = false

abbrev pub is_statement : NodeKind → Bool
is_statement kind.Label = false
is_statement _ = true

-- an operand, a type, a condition, a body
abbrev pub is_form : NodeKind → Bool
is_form found = not (is_word found || (is_label found || (is_capture found || (is_else found || (is_step found || (is_inline found || is_range found))))))

-- ---- positions

-- the positions of the roots of such kinds, where the first has this position
abbrev pub positions_from : (NodeKind → Bool) → ℕ → Forest Entry → List ℕ
positions_from is k none = []
positions_from is k (tree root inside behind) =
    elim (is root.node.kind) [ true ↦ k ∷ positions_from is (suc k) behind | false ↦ positions_from is (suc k) behind ]

-- the positions of the children of such kinds, in order
abbrev pub positions : (NodeKind → Bool) → Forest Entry → List ℕ
positions is here = positions_from is 0 (inside_first here)

abbrev pub forms : Forest Entry → List ℕ
forms here = positions is_form here

abbrev pub first_in : {A : Type 0} → List A → Option A
first_in [] = None
first_in (a ∷ more) = Some a

-- the child at a position, with the trees behind it
abbrev pub child_at : Forest Entry → ℕ → Forest Entry
child_at here k = after k (inside_first here)

-- the first form below a child that only holds it: an `else` or a step
abbrev pub held_by : Forest Entry → ℕ → List ℕ → Option (List ℕ)
held_by here k [] = None
held_by here k (j ∷ others) = Some (k ∷ j ∷ [])

abbrev pub held_in : Forest Entry → Option ℕ → Option (List ℕ)
held_in here None = None
held_in here (Some k) = held_by here k (forms (child_at here k))

-- where the statement of the `else` is, and the step
abbrev pub else_of : Forest Entry → Option (List ℕ)
else_of here = held_in here (first_in (positions is_else here))

abbrev pub step_of : Forest Entry → Option (List ℕ)
step_of here = held_in here (first_in (positions is_step here))

-- ---- labels and captures

abbrev pub name_found : List ℕ → Option (List ℕ)
name_found [] = None
name_found (c ∷ cs) = Some (c ∷ cs)

abbrev pub label_among : Forest Entry → Option (List ℕ)
label_among none = None
label_among (tree root inside behind) = elim (is_label root.node.kind) [ true ↦ name_found (first_name inside) | false ↦ label_among behind ]

abbrev pub label_of : Forest Entry → Option (List ℕ)
label_of here = label_among (inside_first here)

abbrev pub else_has_capture : Forest Entry → Option ℕ → Bool
else_has_capture here None = false
else_has_capture here (Some k) = has (child_at here k) is_capture

-- a capture of the form itself, or of its `else`
abbrev pub has_capture : Forest Entry → Bool
has_capture here = has here is_capture || else_has_capture here (first_in (positions is_else here))
