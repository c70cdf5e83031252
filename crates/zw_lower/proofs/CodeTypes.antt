-- The types of the code of steps, in a context that has what the steps name.
use Rattle.std.proofs.Common.{◌≡◌, ℕ, zero, suc, ◌+◌, Bool, true, false, List, [], ◌∷◌, ◌++◌, length, replicate, reverse, Some, All, refl, sym, ap, ◌∙◌, subst, add-one, append_assoc}
use Rattle.std.specs.Prelude.{slice_get}
use Rattle.std.specs.List.{flat_map}
use Rattle.std.specs.Option.{option_to_list}
use Rattle.std.proofs.lemmas.List.{reverse-append, replicate_more}
use Rattle.std.proofs.lemmas.List.Concat.{flat_map-append}
use Rattle.std.proofs.lemmas.List.Elements.{All-head}
use Rattle.zw_names.specs.NameSets.{number_in}
use Rattle.zw_form.specs.Programs.{action_of}
use Rattle.zw_form.specs.Trees.{Sum, Parameter, Number, Operate, Result, Sums, NoSum, More, CallStatement, Body, count_of, sum_steps, args_steps, statement_steps, body_steps}
use Rattle.zw_num.specs.declared.operator.Arithmetic.{Arithmetic}
use Rattle.zw_num.specs.declared.operator.Operator.TheVariants as family
use Rattle.zw_form.specs.declared.source.Step.{Step}
use Rattle.zw_form.specs.declared.source.Step.TheVariants as step
use Rattle.zw_lower.proofs.ListLemmas.{All-left, All-right}
use Rattle.zw_lower.proofs.OnU32.{arithmetic-right}
use Rattle.zw_lower.proofs.Running.{steps_code}
use Rattle.zw_lower.specs.Modules.{on_u32, action_code, number_type}
use Rattle.zw_safety.specs.Checked.{ScratchIsTyped, PanicStateIsTyped}
use Rattle.zw_safety.specs.Families.{stored_code}
use Rattle.zw_safety_narrow.specs.Operators.{writes_locals}
use Rattle.zw_wasm.proofs.TypingTakes.{takes-none, takes-then, takes-local_get, takes-i32_const, takes-call}
use Rattle.zw_wasm.specs.declared.module.Instr.{Instr}
use Rattle.zw_wasm.specs.declared.module.Instr.TheVariants.{Call}
use Rattle.zw_wasm.specs.declared.module.ValType.{ValType}
use Rattle.zw_wasm.specs.declared.module.ValType.TheVariants.{I32}
use Rattle.zw_wasm.specs.Functions.{func_type}
use Rattle.zw_wasm.specs.Sequences.{Takes}
use Rattle.zw_wasm.specs.Typing.{Context}

-- the context has what a step names
abbrev pub IsTyped : Context → List (List ℕ) → List (List ℕ) → Step → Type 0
IsTyped x imports params (step.Parameter name) = slice_get x.locals (number_in params name) ≡ Some I32
IsTyped x imports params (step.Number n) = Unit {0}
IsTyped x imports params (step.Operate operator) = writes_locals (family.Arithmetic operator) (on_u32 0) ≡ true → ScratchIsTyped (length params) x.locals
IsTyped x imports params (step.Call callee) = func_type x.module_ (number_in imports callee.name) ≡ Some (number_type callee.args callee.has_result)

-- it has what all steps name, and the state of a panic
pub record AreTyped (x : Context) (imports params : List (List ℕ)) (steps : List Step) : Type 0 where
  pub state : PanicStateIsTyped x.module_
  pub each : All (IsTyped x imports params) steps

first_part : {x : Context} {imports params : List (List ℕ)} (a b : List Step) → AreTyped x imports params (a ++ b) → AreTyped x imports params a
first_part {x} {imports} {params} a b h = record { state = h.state; each = All-left (IsTyped x imports params) a b h.each }

other_part : {x : Context} {imports params : List (List ℕ)} (a b : List Step) → AreTyped x imports params (a ++ b) → AreTyped x imports params b
other_part {x} {imports} {params} a b h = record { state = h.state; each = All-right (IsTyped x imports params) a b h.each }

-- the code of steps takes these types to those
abbrev pub StepsTake : Context → List (List ℕ) → List (List ℕ) → List Step → List ValType → List ValType → Type 0
StepsTake x imports params steps ts us = Takes x (steps_code imports params steps) ts us

take_then : (x : Context) (imports params : List (List ℕ)) (a b : List Step) (ts us vs : List ValType) → StepsTake x imports params a ts us → StepsTake x imports params b us vs → StepsTake x imports params (a ++ b) ts vs
take_then x imports params a b ts us vs p q =
    subst (λ (code : List Instr). Takes x code ts vs) (sym (flat_map-append (λ s. action_code (length params) (action_of imports params s)) a b)) (takes-then p q)

-- ---- lists of one type

replicate-onto : (n : ℕ) (t : ValType) (ts : List ValType) → replicate n t ++ (t ∷ ts) ≡ replicate (n + 1) t ++ ts
replicate-onto n t ts = sym (append_assoc (replicate n t) (t ∷ []) ts) ∙ ap (λ us. us ++ ts) (replicate_more n t)

reverse-replicate : (n : ℕ) (t : ValType) → reverse (replicate n t) ≡ replicate n t
reverse-replicate zero t = refl
reverse-replicate (suc n) t =
    reverse-append (t ∷ []) (replicate n t)
    ∙ ap (λ us. us ++ t ∷ []) (reverse-replicate n t)
    ∙ replicate_more n t
    ∙ ap (λ k. replicate k t) (add-one n)

-- ---- single steps

operator_takes : (x : Context) (scratch : ℕ) (operator : Arithmetic) (ts : List ValType) → (writes_locals (family.Arithmetic operator) (on_u32 0) ≡ true → ScratchIsTyped scratch x.locals) → PanicStateIsTyped x.module_ → Takes x (stored_code (family.Arithmetic operator) (on_u32 scratch)) (I32 ∷ I32 ∷ ts) (I32 ∷ ts)
operator_takes x scratch operator ts h state = (arithmetic-right operator scratch).typed x ts h state

-- a call takes as many numbers as the function has parameters
call_takes : (x : Context) (k args : ℕ) (has_result : Bool) (ts : List ValType) → func_type x.module_ k ≡ Some (number_type args has_result) → Takes x (Call k ∷ []) (replicate args I32 ++ ts) (option_to_list (number_type args has_result).result ++ ts)
call_takes x k args has_result ts h =
    subst (λ (us : List ValType). Takes x (Call k ∷ []) (us ++ ts) (option_to_list (number_type args has_result).result ++ ts)) (reverse-replicate args I32) (takes-call x k (number_type args has_result) ts h)

-- ---- terms and sums

mutual
  sum_takes : (x : Context) (imports params : List (List ℕ)) (s : Sum) (ts : List ValType) → AreTyped x imports params (sum_steps s) → StepsTake x imports params (sum_steps s) ts (I32 ∷ ts)
  sum_takes x imports params (Parameter name) ts h = takes-local_get x (number_in params name) I32 ts (All-head (IsTyped x imports params) (step.Parameter name) [] h.each)
  sum_takes x imports params (Number n) ts h = takes-i32_const x _ ts
  sum_takes x imports params (Operate operator left right) ts h =
      let operate = step.Operate operator ∷ [] in
      let behind = other_part (sum_steps left) (sum_steps right ++ operate) h in
      let last = other_part (sum_steps right) operate behind in
      let operated = operator_takes x (length params) operator ts (All-head (IsTyped x imports params) (step.Operate operator) [] last.each) h.state in
      take_then x imports params (sum_steps left) (sum_steps right ++ operate) ts (I32 ∷ ts) (I32 ∷ ts)
      (sum_takes x imports params left ts (first_part (sum_steps left) (sum_steps right ++ operate) h))
      (take_then x imports params (sum_steps right) operate (I32 ∷ ts) (I32 ∷ I32 ∷ ts) (I32 ∷ ts)
      (sum_takes x imports params right (I32 ∷ ts) (first_part (sum_steps right) operate behind))
      (takes-then operated (takes-none x (I32 ∷ ts))))
  sum_takes x imports params (Result callee args) ts h =
      let call = step.Call (record { name = callee; args = count_of args; has_result = true }) in
      let behind = other_part (args_steps args) (call ∷ []) h in
      take_then x imports params (args_steps args) (call ∷ []) ts (replicate (count_of args) I32 ++ ts) (I32 ∷ ts)
      (args_take x imports params args ts (first_part (args_steps args) (call ∷ []) h))
      (call_takes x (number_in imports callee) (count_of args) true ts (All-head (IsTyped x imports params) call [] behind.each))

  args_take : (x : Context) (imports params : List (List ℕ)) (args : Sums) (ts : List ValType) → AreTyped x imports params (args_steps args) → StepsTake x imports params (args_steps args) ts (replicate (count_of args) I32 ++ ts)
  args_take x imports params NoSum ts h = takes-none x ts
  args_take x imports params (More sum others) ts h =
      take_then x imports params (sum_steps sum) (args_steps others) ts (I32 ∷ ts) (replicate (count_of others + 1) I32 ++ ts)
      (sum_takes x imports params sum ts (first_part (sum_steps sum) (args_steps others) h))
      (subst (λ (us : List ValType). StepsTake x imports params (args_steps others) (I32 ∷ ts) us) (replicate-onto (count_of others) I32 ts)
      (args_take x imports params others (I32 ∷ ts) (other_part (sum_steps sum) (args_steps others) h)))

-- ---- statements and bodies

statement_takes : (x : Context) (imports params : List (List ℕ)) (s : CallStatement) (ts : List ValType) → AreTyped x imports params (statement_steps s) → StepsTake x imports params (statement_steps s) ts ts
statement_takes x imports params s ts h =
    let call = step.Call (record { name = s.callee; args = count_of s.args; has_result = false }) in
    let behind = other_part (args_steps s.args) (call ∷ []) h in
    take_then x imports params (args_steps s.args) (call ∷ []) ts (replicate (count_of s.args) I32 ++ ts) ts
    (args_take x imports params s.args ts (first_part (args_steps s.args) (call ∷ []) h))
    (call_takes x (number_in imports s.callee) (count_of s.args) false ts (All-head (IsTyped x imports params) call [] behind.each))

statements_take : (x : Context) (imports params : List (List ℕ)) (statements : List CallStatement) (ts : List ValType) → AreTyped x imports params (flat_map statement_steps statements) → StepsTake x imports params (flat_map statement_steps statements) ts ts
statements_take x imports params [] ts h = takes-none x ts
statements_take x imports params (s ∷ statements) ts h =
    let others = flat_map statement_steps statements in
    take_then x imports params (statement_steps s) others ts ts ts
    (statement_takes x imports params s ts (first_part (statement_steps s) others h))
    (statements_take x imports params statements ts (other_part (statement_steps s) others h))

-- the code of a body gives one number
pub body_takes : (x : Context) (imports params : List (List ℕ)) (b : Body) (ts : List ValType) → AreTyped x imports params (body_steps b) → StepsTake x imports params (body_steps b) ts (I32 ∷ ts)
body_takes x imports params b ts h =
    let statements = flat_map statement_steps b.statements in
    take_then x imports params statements (sum_steps b.sum) ts ts (I32 ∷ ts)
    (statements_take x imports params b.statements ts (first_part statements (sum_steps b.sum) h))
    (sum_takes x imports params b.sum ts (other_part statements (sum_steps b.sum) h))
