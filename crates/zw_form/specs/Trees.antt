-- Trees: the functions of the form, as trees. A sum's terms may be calls, whose arguments are sums.
use Rattle.std.specs.Prelude.{ℕ, ◌+◌, true, false, List, [], ◌∷◌, ◌++◌}
use Rattle.std.specs.List.{flat_map}
use Rattle.zw_form.specs.declared.source.Declaration.{Declaration}
use Rattle.zw_form.specs.declared.source.Declaration.TheVariants as source
use Rattle.zw_form.specs.declared.source.ExternFunction.{ExternFunction}
use Rattle.zw_num.specs.declared.operator.Arithmetic.{Arithmetic}
use Rattle.zw_form.specs.declared.source.Step.{Step}
use Rattle.zw_form.specs.declared.source.Step.TheVariants as step

mutual
  -- a parameter by its name, a number, an operator with its two operands, or the result of a call
  pub data Sum : Type 0 where
    Parameter : (name : List ℕ) → Sum
    Number : (n : ℕ) → Sum
    Operate : (operator : Arithmetic) (left right : Sum) → Sum
    Result : (callee : List ℕ) (args : Sums) → Sum

  pub data Sums : Type 0 where
    NoSum : Sums
    More : (sum : Sum) (others : Sums) → Sums

-- a statement, which calls a function without a result
pub record CallStatement : Type 0 where
  pub callee : List ℕ
  pub args : Sums

-- what an exported function does: its statements in order, and then the sum that it returns
pub record Body : Type 0 where
  pub statements : List CallStatement
  pub sum : Sum

-- a declaration of a file
pub data Tree : Type 0 where
  Extern : (function : ExternFunction) → Tree
  Export : (name : List ℕ) (params : List (List ℕ)) (body : Body) → Tree

-- how many sums there are
abbrev pub count_of : Sums → ℕ
count_of NoSum = 0
count_of (More sum others) = count_of others + 1

-- The steps of a sum, in the order in which they are taken: operands before the operator, from left to right, and
-- arguments before the call.
abbrev mutual
  pub sum_steps : Sum → List Step
  sum_steps (Parameter name) = step.Parameter name ∷ []
  sum_steps (Number n) = step.Number n ∷ []
  sum_steps (Operate operator left right) = sum_steps left ++ (sum_steps right ++ step.Operate operator ∷ [])
  sum_steps (Result callee args) = args_steps args ++ step.Call (record { name = callee; args = count_of args; has_result = true }) ∷ []

  pub args_steps : Sums → List Step
  args_steps NoSum = []
  args_steps (More sum others) = sum_steps sum ++ args_steps others

-- The names of the functions that are called, in the order of the text: a function before those that its arguments call.
abbrev mutual
  pub sum_callees : Sum → List (List ℕ)
  sum_callees (Parameter name) = []
  sum_callees (Number n) = []
  sum_callees (Operate operator left right) = sum_callees left ++ sum_callees right
  sum_callees (Result callee args) = callee ∷ args_callees args

  pub args_callees : Sums → List (List ℕ)
  args_callees NoSum = []
  args_callees (More sum others) = sum_callees sum ++ args_callees others

abbrev pub statement_steps : CallStatement → List Step
statement_steps s = args_steps s.args ++ step.Call (record { name = s.callee; args = count_of s.args; has_result = false }) ∷ []

abbrev pub statement_callees : CallStatement → List (List ℕ)
statement_callees s = s.callee ∷ args_callees s.args

abbrev pub body_steps : Body → List Step
body_steps b = flat_map statement_steps b.statements ++ sum_steps b.sum

abbrev pub body_callees : Body → List (List ℕ)
body_callees b = flat_map statement_callees b.statements ++ sum_callees b.sum

-- the declaration in steps
abbrev pub declaration_of : Tree → Declaration
declaration_of (Extern function) = source.Extern function
declaration_of (Export name params body) =
    source.Export (record { name = name; params = params; callees = body_callees body; steps = body_steps body })
