-- What the nodes of a file's tree say in the form: a sum is a chain of `+`, `-` and `+%` whose terms are identifiers, numbers
-- and calls. A function here takes the text with its tokens and the trees, and answers None where they aren't of the form.
use Rattle.std.specs.Prelude.{ℕ, ℤ, pos, negsuc, ◌^◌, nat_lt, Bool, true, false, ◌&&◌, ◌||◌, List, [], ◌∷◌, codes, slice_get, slice_range, Option, Some, None, if◌then◌else◌}
use Rattle.std.specs.Option.{option_map, option_and_then}
use Rattle.std.specs.Str.{bytes_eq}
use Rattle.zw_token.specs.Names.{is_primitive}
use Rattle.zw_token.specs.Numbers.{is_decimal}
use Rattle.zw_token.specs.declared.token.Token.{Token}
use Rattle.zw_tree.specs.Numbering.{inside_first, siblings}
use Rattle.zw_tree.specs.Trees.{Forest, none, tree, preorder}
use Rattle.zw_tree.specs.declared.ast.Entry.{Entry}
use Rattle.zw_tree.specs.declared.kind.NodeKind.{NodeKind}
use Rattle.zw_tree.specs.declared.kind.NodeKind.TheVariants as kind
use Rattle.zw_form.specs.Trees.{Sum, Parameter, Number, Operate, Result, Sums, NoSum, More, CallStatement, Body, Tree, Extern, Export}
use Rattle.zw_form.specs.declared.roles.Role.{Role}
use Rattle.zw_form.specs.declared.roles.Role.TheVariants as role
use Rattle.zw_num.specs.declared.operator.Arithmetic.{Arithmetic}
use Rattle.zw_num.specs.declared.operator.Arithmetic.TheVariants.{Add, Sub, AddWrap}

-- the part that a node of this kind has in the form
abbrev pub role_of : NodeKind → Role
role_of kind.Function = role.Function
role_of kind.ComptimeBlock = role.Comptime
role_of kind.ExternWord = role.Extern
role_of kind.ExportWord = role.Export
role_of kind.Name = role.Name
role_of kind.QuotedName = role.QuotedName
role_of kind.Parameter = role.Parameter
role_of kind.Block = role.Block
role_of kind.Return = role.Return
role_of kind.Call = role.Call
role_of kind.Add = role.Operator Add
role_of kind.Subtract = role.Operator Sub
role_of kind.AddWrap = role.Operator AddWrap
role_of kind.Identifier = role.Identifier
role_of kind.QuotedIdentifier = role.QuotedIdentifier
role_of kind.Number = role.Number
role_of _ = role.Other

-- both, where both are there
abbrev pub both : {A B C : Type 0} → (A → B → C) → Option A → Option B → Option C
both f (Some x) (Some y) = Some (f x y)
both f (Some x) None = None
both f None y = None

-- what each of these is, where each is something
abbrev pub each : {A B : Type 0} → (A → Option B) → List A → Option (List B)
each f [] = Some []
each f (x ∷ xs) = both (λ y ys. y ∷ ys) (f x) (each f xs)

-- the last of a list, and those before it
abbrev pub split_last : {A : Type 0} → List A → Option (List A × A)
split_last [] = None
split_last (x ∷ []) = Some ([], x)
split_last (x ∷ (y ∷ ys)) = option_map (λ p. (x ∷ p.0, p.1)) (split_last (y ∷ ys))

-- what the first root says: its part in the form, what it stands for, and its first token
abbrev pub role_at : Forest Entry → Role
role_at none = role.Other
role_at (tree root below behind) = role_of root.node.kind

abbrev pub name_at : Forest Entry → List ℕ
name_at none = []
name_at (tree root below behind) = root.name

abbrev pub number_at : Forest Entry → Option ℤ
number_at none = None
number_at (tree root below behind) = root.number

abbrev pub token_at : Forest Entry → ℕ
token_at none = 0
token_at (tree root below behind) = root.node.first

-- ---- names and numbers

-- A name that isn't quoted is none of a primitive type or value.
abbrev pub plain_name : List ℕ → Option (List ℕ)
plain_name name = if is_primitive name then None else Some name

-- the name that a node introduces
abbrev pub name_by : Role → List ℕ → Option (List ℕ)
name_by role.Name name = plain_name name
name_by role.QuotedName name = Some name
name_by _ name = None

abbrev pub introduced : Forest Entry → Option (List ℕ)
introduced t = name_by (role_at t) (name_at t)

-- the name that a node mentions
abbrev pub mention_by : Role → List ℕ → Option (List ℕ)
mention_by role.Identifier name = plain_name name
mention_by role.QuotedIdentifier name = Some name
mention_by _ name = None

abbrev pub mentioned : Forest Entry → Option (List ℕ)
mentioned t = mention_by (role_at t) (name_at t)

-- the bytes of a token
abbrev pub bytes_of : List ℕ → Token → List ℕ
bytes_of text token = slice_range text token.start token.end

abbrev pub bytes_in : List ℕ → Option Token → List ℕ
bytes_in text None = []
bytes_in text (Some token) = bytes_of text token

-- the bytes of the token with this number
abbrev pub spelled : List ℕ → List Token → ℕ → List ℕ
spelled text tokens n = bytes_in text (slice_get tokens n)

-- a number of 32 bits, whose token is decimal digits alone
abbrev pub number_in : List ℕ → Option ℤ → Option ℕ
number_in digits None = None
number_in digits (Some (pos n)) = if is_decimal digits && nat_lt n (2 ^ 32) then Some n else None
number_in digits (Some (negsuc n)) = None

-- ---- sums

abbrev pub is_number : Sum → Bool
is_number (Parameter name) = false
is_number (Number n) = true
is_number (Operate operator left right) = false
is_number (Result callee args) = false

-- An operator has two operands, of which at least one is no number: numbers alone would have no type of their own.
abbrev pub operated : Arithmetic → Sums → Option Sum
operated operator (More left (More right NoSum)) = if is_number left && is_number right then None else Some (Operate operator left right)
operated operator (More left (More right (More other others))) = None
operated operator (More left NoSum) = None
operated operator NoSum = None

-- The first child of a call is a name, and the others are its arguments.
abbrev pub call_in : Sums → Option CallStatement
call_in NoSum = None
call_in (More (Parameter callee) args) = Some (record { callee = callee; args = args })
call_in (More (Number n) args) = None
call_in (More (Operate operator left right) args) = None
call_in (More (Result callee others) args) = None

abbrev pub sum_by : Role → List ℕ → Option ℕ → Option Sums → Option Sum
sum_by role.Identifier name number below = option_map Parameter (plain_name name)
sum_by role.QuotedIdentifier name number below = Some (Parameter name)
sum_by role.Number name number below = option_map Number number
sum_by (role.Operator operator) name number below = option_and_then (operated operator) below
sum_by role.Call name number below = option_map (λ (call : CallStatement). Result call.callee call.args) (option_and_then call_in below)
sum_by _ name number below = None

-- the sums that these trees are, in order
abbrev pub sums_of : List ℕ → List Token → Forest Entry → Option Sums
sums_of text tokens none = Some NoSum
sums_of text tokens (tree root below behind) =
    both More (sum_by (role_of root.node.kind) root.name (number_in (spelled text tokens root.node.first) root.number) (sums_of text tokens below)) (sums_of text tokens behind)

-- the sum that the first tree is
abbrev pub sum_of : List ℕ → List Token → Forest Entry → Option Sum
sum_of text tokens t = sum_by (role_at t) (name_at t) (number_in (spelled text tokens (token_at t)) (number_at t)) (sums_of text tokens (inside_first t))

-- ---- bodies

abbrev pub call_by : Role → Option Sums → Option CallStatement
call_by role.Call below = option_and_then call_in below
call_by _ below = None

-- a statement is a call
abbrev pub statement_of : List ℕ → List Token → Forest Entry → Option CallStatement
statement_of text tokens t = call_by (role_at t) (sums_of text tokens (inside_first t))

abbrev pub only : Sums → Option Sum
only NoSum = None
only (More sum NoSum) = Some sum
only (More sum (More other others)) = None

abbrev pub return_by : Role → Option Sums → Option Sum
return_by role.Return below = option_and_then only below
return_by _ below = None

-- what is returned
abbrev pub returned : List ℕ → List Token → Forest Entry → Option Sum
returned text tokens t = return_by (role_at t) (sums_of text tokens (inside_first t))

-- calls, and then what is returned
abbrev pub body_in : List ℕ → List Token → List (Forest Entry) × Forest Entry → Option Body
body_in text tokens parts =
    both (λ statements sum. record { statements = statements; sum = sum }) (each (statement_of text tokens) parts.0) (returned text tokens parts.1)

abbrev pub body_by : Role → List ℕ → List Token → List (Forest Entry) → Option Body
body_by role.Block text tokens parts = option_and_then (body_in text tokens) (split_last parts)
body_by _ text tokens parts = None

abbrev pub body_of : List ℕ → List Token → Forest Entry → Option Body
body_of text tokens t = body_by (role_at t) text tokens (siblings (inside_first t))

-- ---- functions

-- whether a type is `u32` or `void`
abbrev pub type_by : Role → List ℕ → Option Bool
type_by role.Identifier name = if bytes_eq name (codes "u32") then Some true else (if bytes_eq name (codes "void") then Some false else None)
type_by _ name = None

abbrev pub type_of : Forest Entry → Option Bool
type_of t = type_by (role_at t) (name_at t)

-- a name of the type `u32`
abbrev pub if_number : Option (List ℕ) → Option Bool → Option (List ℕ)
if_number name (Some true) = name
if_number name (Some false) = None
if_number name None = None

abbrev pub param_by : Role → List (Forest Entry) → Option (List ℕ)
param_by role.Parameter (name ∷ type ∷ []) = if_number (introduced name) (type_of type)
param_by _ parts = None

abbrev pub param_of : Forest Entry → Option (List ℕ)
param_of t = param_by (role_at t) (siblings (inside_first t))

-- parameters, and the type of the result: the names of those, and whether there is a result
abbrev pub signature_in : List (Forest Entry) × Forest Entry → Option (List (List ℕ) × Bool)
signature_in parts = both (λ params has_result. (params, has_result)) (each param_of parts.0) (type_of parts.1)

abbrev pub signature_of : List (Forest Entry) → Option (List (List ℕ) × Bool)
signature_of parts = option_and_then signature_in (split_last parts)

abbrev pub extern_tree : List ℕ → List (List ℕ) × Bool → Tree
extern_tree name signature = Extern (record { name = name; params = signature.0; has_result = signature.1 })

-- an exported function gives a `u32`
abbrev pub export_tree : List ℕ → List (List ℕ) × Bool → Option Body → Option Tree
export_tree name signature body = if signature.1 then option_map (Export name signature.0) body else None

abbrev pub export_in : List ℕ → List Token → List ℕ → List (Forest Entry) × Forest Entry → Option Tree
export_in text tokens name parts = option_and_then (λ signature. export_tree name signature (body_of text tokens parts.1)) (signature_of parts.0)

-- `extern`, a name, parameters and a type; or `export`, the same, and a body
abbrev pub function_by : Role → List ℕ → List Token → List (Forest Entry) → List ℕ → Option Tree
function_by role.Extern text tokens parts name = option_map (extern_tree name) (signature_of parts)
function_by role.Export text tokens parts name = option_and_then (export_in text tokens name) (split_last parts)
function_by _ text tokens parts name = None

abbrev pub member_by : Role → List ℕ → List Token → List (Forest Entry) → Option Tree
member_by role.Function text tokens (linkage ∷ name ∷ parts) = option_and_then (function_by (role_at linkage) text tokens parts) (introduced name)
member_by _ text tokens parts = None

-- the declaration that a member of a file is
abbrev pub member_of : List ℕ → List Token → Forest Entry → Option Tree
member_of text tokens t = member_by (role_at t) text tokens (siblings (inside_first t))

-- whether it is the word `export`
abbrev pub is_export : Role → Bool
is_export role.Export = true
is_export _ = false

-- A unit: a block that runs at compile time, or a function with `export`, which is its first word or stands behind `pub`.
abbrev pub unit_by : Role → List (Forest Entry) → Bool
unit_by role.Comptime parts = true
unit_by role.Function (first ∷ (second ∷ parts)) = is_export (role_at first) || is_export (role_at second)
unit_by _ parts = false

abbrev pub is_unit : Forest Entry → Bool
is_unit t = unit_by (role_at t) (siblings (inside_first t))

-- The nodes of a function's body, which is its last part: all that stand below its block.
abbrev pub nodes_by : Role → Forest Entry → List Entry
nodes_by role.Block below = preorder below
nodes_by _ below = []

abbrev pub nodes_in : Option (List (Forest Entry) × Forest Entry) → List Entry
nodes_in None = []
nodes_in (Some parts) = nodes_by (role_at parts.1) (inside_first parts.1)

abbrev pub body_nodes : Forest Entry → List Entry
body_nodes t = nodes_in (split_last (siblings (inside_first t)))
