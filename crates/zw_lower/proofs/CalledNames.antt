-- The names that a file's exports call: each call's name is among them, and each of them is the name of a call.
use Rattle.std.proofs.Common.{ℕ, true, false, List, [], ◌∷◌, ◌++◌, All}
use Rattle.std.specs.List.{flat_map}
use Rattle.std.proofs.lemmas.List.Elements.{All-nil, All-cons, All-head, All-tail, All-append}
use Rattle.zw_form.specs.Trees.{Sum, Parameter, Number, Operate, Result, Sums, NoSum, More, CallStatement, Body, count_of, sum_steps, args_steps, statement_steps, body_steps, sum_callees, args_callees, statement_callees, body_callees}
use Rattle.zw_form.specs.declared.source.Step.{Step}
use Rattle.zw_form.specs.declared.source.Step.TheVariants as step
use Rattle.zw_lower.proofs.ListLemmas.{All-left, All-right}

-- what holds of the name that a step calls, where it calls one
abbrev pub OfCall : (List ℕ → Type 0) → Step → Type 0
OfCall P (step.Parameter name) = Unit {0}
OfCall P (step.Number n) = Unit {0}
OfCall P (step.Operate operator) = Unit {0}
OfCall P (step.Call callee) = P callee.name

-- what holds of all names that are called holds of each call
mutual
  sum_calls : (P : List ℕ → Type 0) (s : Sum) → All P (sum_callees s) → All (OfCall P) (sum_steps s)
  sum_calls P (Parameter name) h = All-cons (OfCall P) (step.Parameter name) [] tt (All-nil (OfCall P))
  sum_calls P (Number n) h = All-cons (OfCall P) (step.Number n) [] tt (All-nil (OfCall P))
  sum_calls P (Operate operator left right) h =
      All-append (OfCall P) (sum_steps left) (sum_steps right ++ step.Operate operator ∷ [])
      (sum_calls P left (All-left P (sum_callees left) (sum_callees right) h))
      (All-append (OfCall P) (sum_steps right) (step.Operate operator ∷ [])
      (sum_calls P right (All-right P (sum_callees left) (sum_callees right) h))
      (All-cons (OfCall P) (step.Operate operator) [] tt (All-nil (OfCall P))))
  sum_calls P (Result callee args) h =
      let call = step.Call (record { name = callee; args = count_of args; has_result = true }) in
      All-append (OfCall P) (args_steps args) (call ∷ [])
      (args_calls P args (All-tail P callee (args_callees args) h))
      (All-cons (OfCall P) call [] (All-head P callee (args_callees args) h) (All-nil (OfCall P)))

  args_calls : (P : List ℕ → Type 0) (args : Sums) → All P (args_callees args) → All (OfCall P) (args_steps args)
  args_calls P NoSum h = All-nil (OfCall P)
  args_calls P (More sum others) h =
      All-append (OfCall P) (sum_steps sum) (args_steps others)
      (sum_calls P sum (All-left P (sum_callees sum) (args_callees others) h))
      (args_calls P others (All-right P (sum_callees sum) (args_callees others) h))

statement_calls : (P : List ℕ → Type 0) (s : CallStatement) → All P (statement_callees s) → All (OfCall P) (statement_steps s)
statement_calls P s h =
    let call = step.Call (record { name = s.callee; args = count_of s.args; has_result = false }) in
    All-append (OfCall P) (args_steps s.args) (call ∷ [])
    (args_calls P s.args (All-tail P s.callee (args_callees s.args) h))
    (All-cons (OfCall P) call [] (All-head P s.callee (args_callees s.args) h) (All-nil (OfCall P)))

statements_calls : (P : List ℕ → Type 0) (statements : List CallStatement) → All P (flat_map statement_callees statements) → All (OfCall P) (flat_map statement_steps statements)
statements_calls P [] h = All-nil (OfCall P)
statements_calls P (s ∷ statements) h =
    All-append (OfCall P) (statement_steps s) (flat_map statement_steps statements)
    (statement_calls P s (All-left P (statement_callees s) (flat_map statement_callees statements) h))
    (statements_calls P statements (All-right P (statement_callees s) (flat_map statement_callees statements) h))

pub body_calls : (P : List ℕ → Type 0) (b : Body) → All P (body_callees b) → All (OfCall P) (body_steps b)
body_calls P b h =
    let callees = flat_map statement_callees b.statements in
    All-append (OfCall P) (flat_map statement_steps b.statements) (sum_steps b.sum)
    (statements_calls P b.statements (All-left P callees (sum_callees b.sum) h))
    (sum_calls P b.sum (All-right P callees (sum_callees b.sum) h))

-- and what holds of each call holds of all names that are called
mutual
  sum_called : (P : List ℕ → Type 0) (s : Sum) → All (OfCall P) (sum_steps s) → All P (sum_callees s)
  sum_called P (Parameter name) h = All-nil P
  sum_called P (Number n) h = All-nil P
  sum_called P (Operate operator left right) h =
      let behind = All-right (OfCall P) (sum_steps left) (sum_steps right ++ step.Operate operator ∷ []) h in
      All-append P (sum_callees left) (sum_callees right)
      (sum_called P left (All-left (OfCall P) (sum_steps left) (sum_steps right ++ step.Operate operator ∷ []) h))
      (sum_called P right (All-left (OfCall P) (sum_steps right) (step.Operate operator ∷ []) behind))
  sum_called P (Result callee args) h =
      let call = step.Call (record { name = callee; args = count_of args; has_result = true }) in
      let here : P callee = All-head (OfCall P) call [] (All-right (OfCall P) (args_steps args) (call ∷ []) h) in
      All-cons P callee (args_callees args) here (args_called P args (All-left (OfCall P) (args_steps args) (call ∷ []) h))

  args_called : (P : List ℕ → Type 0) (args : Sums) → All (OfCall P) (args_steps args) → All P (args_callees args)
  args_called P NoSum h = All-nil P
  args_called P (More sum others) h =
      All-append P (sum_callees sum) (args_callees others)
      (sum_called P sum (All-left (OfCall P) (sum_steps sum) (args_steps others) h))
      (args_called P others (All-right (OfCall P) (sum_steps sum) (args_steps others) h))

statement_called : (P : List ℕ → Type 0) (s : CallStatement) → All (OfCall P) (statement_steps s) → All P (statement_callees s)
statement_called P s h =
    let call = step.Call (record { name = s.callee; args = count_of s.args; has_result = false }) in
    let here : P s.callee = All-head (OfCall P) call [] (All-right (OfCall P) (args_steps s.args) (call ∷ []) h) in
    All-cons P s.callee (args_callees s.args) here (args_called P s.args (All-left (OfCall P) (args_steps s.args) (call ∷ []) h))

statements_called : (P : List ℕ → Type 0) (statements : List CallStatement) → All (OfCall P) (flat_map statement_steps statements) → All P (flat_map statement_callees statements)
statements_called P [] h = All-nil P
statements_called P (s ∷ statements) h =
    All-append P (statement_callees s) (flat_map statement_callees statements)
    (statement_called P s (All-left (OfCall P) (statement_steps s) (flat_map statement_steps statements) h))
    (statements_called P statements (All-right (OfCall P) (statement_steps s) (flat_map statement_steps statements) h))

pub body_called : (P : List ℕ → Type 0) (b : Body) → All (OfCall P) (body_steps b) → All P (body_callees b)
body_called P b h =
    let steps = flat_map statement_steps b.statements in
    All-append P (flat_map statement_callees b.statements) (sum_callees b.sum)
    (statements_called P b.statements (All-left (OfCall P) steps (sum_steps b.sum) h))
    (sum_called P b.sum (All-right (OfCall P) steps (sum_steps b.sum) h))
