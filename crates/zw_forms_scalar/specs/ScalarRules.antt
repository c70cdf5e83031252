-- The rules of literals, names, parentheses, operators and builtins. One case for each kind of node: a later form adds its own.
use Rattle.std.specs.Prelude.{ℕ, Bool, ℤ, if◌then◌else◌, List, [], ◌∷◌, Option, Some, None}
use Rattle.zw_num.specs.declared.int_ty.IntTy.TheVariants.{Comptime}
use Rattle.zw_num.specs.Arithmetic.{is_in}
use Rattle.zw_base.specs.declared.stop.StopKind.TheVariants.{Error, Limit}
use Rattle.zw_tree.specs.declared.ast.Entry.{Entry}
use Rattle.zw_tree.specs.declared.kind.NodeKind.{NodeKind}
use Rattle.zw_tree.specs.declared.kind.NodeKind.TheVariants as kind
use Rattle.zw_num.specs.declared.operator.Operator.{Operator}
use Rattle.zw_types.specs.TypeTrees as tree
use Rattle.zw_types.specs.TypeTrees.{TypeTree}
use Rattle.zw_typed.specs.Nodes.{And, Or}
use Rattle.zw_env.specs.Parts.{Part, Next, Visit, Lookup, Done, Halt, a_value}
use Rattle.zw_forms_scalar.specs.Primitives.{primitive}
use Rattle.zw_forms_scalar.specs.Operators.{binary_operator, unary_operator, binary_rule, unary_rule, logic_rule}
use Rattle.zw_forms_scalar.specs.Builtins.{operand, builtin_rule}

-- a number or character; past the range of `comptime_int` it has none
abbrev pub literal : {N : Type 0} → Option ℤ → Next N
literal (Some z) = if is_in Comptime z then Done (a_value tree.ComptimeIntType (tree.NumberValue z)) else Halt (Limit 9)
literal None = Halt (Limit 9)

-- a name that isn't quoted may be that of a primitive
abbrev pub named_part : {N : Type 0} → List ℕ → List (Part N) → Next N
named_part name [] = Lookup name
named_part name (found ∷ more) = Done found

abbrev pub plain_name : {N : Type 0} → List ℕ → List (Part N) → Next N
plain_name name parts = elim (primitive name) [ Some next ↦ next | None ↦ named_part name parts ]

abbrev pub passed_on : {N : Type 0} → Option TypeTree → ℕ → List (Part N) → Next N
passed_on wanted inside [] = Visit inside wanted
passed_on wanted inside (part ∷ more) = Done part

abbrev pub unary_or_none : {N : Type 0} → Option (Operator × (TypeTree → Bool)) → List ℕ → List (Part N) → Next N
unary_or_none (Some (name, is_defined)) operands parts = unary_rule name is_defined (operand operands 0) parts
unary_or_none None operands parts = Halt (Error 36)

abbrev pub operator_rule : {N : Type 0} → NodeKind → List ℕ → List (Part N) → Next N
operator_rule kind operands parts =
    elim (binary_operator kind) [
      | Some found ↦ binary_rule found.0 found.1 (operand operands 0) (operand operands 1) parts
      | None ↦ unary_or_none (unary_operator kind) operands parts
    ]

-- what the form of this entry asks for, with these forms as its children, the wanted type and the parts so far
abbrev pub scalar_rule : {N : Type 0} → NodeKind → Entry → List ℕ → Option TypeTree → List (Part N) → Next N
scalar_rule kind.Number entry operands wanted parts = literal entry.number
scalar_rule kind.Character entry operands wanted parts = literal entry.number
scalar_rule kind.Identifier entry operands wanted parts = plain_name entry.name parts
scalar_rule kind.QuotedIdentifier entry operands wanted parts = named_part entry.name parts
scalar_rule kind.Parentheses entry operands wanted parts = passed_on wanted (operand operands 0) parts
scalar_rule kind.And entry operands wanted parts = logic_rule And (operand operands 0) (operand operands 1) parts
scalar_rule kind.Or entry operands wanted parts = logic_rule Or (operand operands 0) (operand operands 1) parts
scalar_rule kind.Builtin entry operands wanted parts = builtin_rule entry.name wanted operands parts
scalar_rule other entry operands wanted parts = operator_rule other operands parts
