-- The rules of literals, names, parentheses, operators and builtins, where operands may be of any form. One case for each kind of node.
use Rattle.std.specs.Prelude.{ℕ, Bool, ℤ, List, [], ◌∷◌, Option, Some, None, if◌then◌else◌}
use Rattle.zw_num.specs.declared.int_ty.IntTy.TheVariants.{Comptime}
use Rattle.zw_num.specs.Arithmetic.{is_in}
use Rattle.zw_base.specs.declared.stop.StopKind.TheVariants.{Error, Limit}
use Rattle.zw_tree.specs.declared.ast.Entry.{Entry}
use Rattle.zw_tree.specs.declared.kind.NodeKind.{NodeKind}
use Rattle.zw_tree.specs.declared.kind.NodeKind.TheVariants as kind
use Rattle.zw_num.specs.declared.operator.Operator.{Operator}
use Rattle.zw_types.specs.TypeTrees as tree
use Rattle.zw_types.specs.TypeTrees.{TypeTree}
use Rattle.zw_typed.specs.Nodes.{And, Or}
use Rattle.zw_env.specs.FlowParts.{Part, Rule, Next, Ask, Lookup, Done, Halt, wanted_of, a_value, operand_at, last_of}
use Rattle.zw_env.specs.FlowChildren.{forms}
use Rattle.zw_forms_scalar.specs.Operators.{binary_operator, unary_operator}
use Rattle.zw_forms_scalar.specs.FlowPrimitives.{primitive}
use Rattle.zw_forms_scalar.specs.FlowOperators.{binary_rule, unary_rule, logic_rule}
use Rattle.zw_forms_scalar.specs.FlowBuiltins.{builtin_rule}

-- a number or character; past the range of `comptime_int` it has none
abbrev pub literal : {N : Type 0} → Option ℤ → Next N
literal (Some z) = if is_in Comptime z then Done (a_value tree.ComptimeIntType (tree.NumberValue z)) else Halt (Limit 9)
literal None = Halt (Limit 9)

-- a name that isn't quoted may be that of a primitive
abbrev pub plain_name : {N : Type 0} → List ℕ → List (Part N) → Next N
plain_name name parts = elim (primitive name) [ Some next ↦ next | None ↦ last_of (Lookup name) parts ]

-- what is wanted of parentheses is wanted of what is inside, its place too
abbrev pub parentheses_on : {N : Type 0} → List ℕ → Rule N
parentheses_on (child ∷ others) site parts =
    last_of (Ask (record (operand_at site child (wanted_of site.wanted)) { as_place = site.as_place })) parts
parentheses_on [] site parts = Halt (Error 36)

abbrev pub unary_or_none : {N : Type 0} → Option (Operator × (TypeTree → Bool)) → Rule N
unary_or_none (Some (name, is_defined)) site parts = unary_rule name is_defined site parts
unary_or_none None site parts = Halt (Error 36)

abbrev pub operator_rule : {N : Type 0} → NodeKind → Rule N
operator_rule kind site parts =
    elim (binary_operator kind) [
      | Some found ↦ binary_rule found.0 found.1 site parts
      | None ↦ unary_or_none (unary_operator kind) site parts
    ]

-- what the form of this entry asks for
abbrev pub scalar_rule : {N : Type 0} → NodeKind → Entry → Rule N
scalar_rule kind.Number entry site parts = literal entry.number
scalar_rule kind.Character entry site parts = literal entry.number
scalar_rule kind.Identifier entry site parts = plain_name entry.name parts
scalar_rule kind.QuotedIdentifier entry site parts = last_of (Lookup entry.name) parts
scalar_rule kind.Parentheses entry site parts = parentheses_on (forms site.here) site parts
scalar_rule kind.And entry site parts = logic_rule And site parts
scalar_rule kind.Or entry site parts = logic_rule Or site parts
scalar_rule kind.Builtin entry site parts = builtin_rule entry.name site parts
scalar_rule other entry site parts = operator_rule other site parts
