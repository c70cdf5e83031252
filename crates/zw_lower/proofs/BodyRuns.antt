-- The code of a sum, a term, arguments and statements comes out as evaluating them does.
use Rattle.std.proofs.Common.{◌≡◌, ℕ, true, false, List, [], ◌∷◌, ◌++◌, refl, sym, ap, ◌∙◌, append_assoc, All, Contains}
use Rattle.std.proofs.lemmas.List.{reverse-append}
use Rattle.std.proofs.lemmas.List.Elements.{All-head}
use Rattle.std.specs.List.{flat_map}
use Rattle.zw_form.specs.Form.{FitsStep}
use Rattle.zw_form.specs.Rules.{IsKnown}
use Rattle.zw_form.specs.Source.{Evaluated, Gives, gives, and_then, operator_value, or_overflow, event_of, asked, sum_value, args_value, statement_done, statements_done, body_value}
use Rattle.zw_form.specs.Trees.{Sum, Parameter, Operate, Result, Sums, NoSum, More, CallStatement, Body, count_of, sum_steps, args_steps, statement_steps, body_steps, sum_callees, args_callees, statement_callees, body_callees}
use Rattle.zw_form.specs.Trees as terms
use Rattle.zw_form.specs.declared.source.ExternFunction.{ExternFunction}
use Rattle.zw_form.specs.declared.source.Step.{Step}
use Rattle.zw_form.specs.declared.source.Step.TheVariants as step
use Rattle.zw_lower.proofs.BodySmall.{AreArgs, IsSmall, IsAny, gives-any, ReadsSmall, sum-small, args-small}
use Rattle.zw_lower.proofs.ComesCompose.{gone_on, comes-then}
use Rattle.zw_lower.proofs.Running.{Comes, Imports, Placed, one_number, numbers_reversed, steps_code, words}
use Rattle.zw_lower.proofs.ListLemmas.{All-right}
use Rattle.zw_lower.proofs.StepsReady.{Ready, ready-left, ready-right, ready-args, ready-last, ready-on}
use Rattle.zw_lower.proofs.StepsRun.{StepsCome, steps-then, called, no_numbers, nothing-comes, parameter-comes, number-comes, operator-comes, call-comes, call-told}
use Rattle.zw_wasm.specs.declared.module.Instr.{Instr}
use Rattle.zw_wasm.specs.declared.module.Module.{Module}
use Rattle.zw_wasm.specs.declared.num.Num.{Num}
use Rattle.zw_wasm.specs.declared.num.Num.TheVariants.{I32}
use Rattle.zw_wasm.specs.Reduction.{Config}
use Rattle.zw_wasm.specs.Sequences.{placed}
use Rattle.zw_wasm.specs.Signature.{View}
use Rattle.zw_wasm.specs.Structure.{code_of}

reads : {m : Module} {v : View} {externs : List ExternFunction} {imports params : List (List ℕ)} {values : List ℕ → ℕ} {steps : List Step} {callees : List (List ℕ)} {c : Config} → Ready m v externs imports params values steps callees c → ReadsSmall externs params values steps
reads h = record { params_are = h.at.small; known = h.known; fits = h.fits }

last-known : (externs : List ExternFunction) (params : List (List ℕ)) (steps : List Step) (last : Step) → All (IsKnown externs params) (steps ++ last ∷ []) → IsKnown externs params last
last-known externs params steps last h = All-head (IsKnown externs params) last [] (All-right (IsKnown externs params) steps (last ∷ []) h)

-- the first number lies below the others
numbers-below : (n : ℕ) (ns : List ℕ) (os : List Num) → numbers_reversed ns ++ (I32 n ∷ os) ≡ numbers_reversed (n ∷ ns) ++ os
numbers-below n ns os =
    sym (append_assoc (numbers_reversed ns) (I32 n ∷ []) os) ∙ ap (λ xs. xs ++ os) (sym (reverse-append (I32 n ∷ []) (words ns)))

-- a number, and then the others
args-come : (m : Module) (v : View) (imports params : List (List ℕ)) (steps : List Step) (r : Evaluated (List ℕ)) (n : ℕ) (c : Config) (os : List Num) (rest : List Instr) → StepsCome m v imports params numbers_reversed r steps c (I32 n ∷ os) rest (I32 n ∷ os) → StepsCome m v imports params numbers_reversed (and_then r (λ numbers more. gives (n ∷ numbers) more)) steps c (I32 n ∷ os) rest os
args-come m v imports params steps r n c os rest h =
    let under = I32 n ∷ os in
    comes-then IsAny m v params numbers_reversed numbers_reversed r.events r.end (λ numbers more. gives (n ∷ numbers) more) (placed (code_of (steps_code imports params steps ++ rest)) under c) (code_of rest) under (code_of rest) os h (gives-any r.end)
    (λ numbers left locals any kept. nothing-comes m v imports params numbers_reversed (n ∷ numbers) (gone_on r.events left locals c) (numbers_reversed numbers ++ under) rest os (numbers-below n numbers os))

mutual
  pub sum_comes : (m : Module) (v : View) (externs : List ExternFunction) (imports params : List (List ℕ)) (values : List ℕ → ℕ) (s : Sum) (c : Config) (os : List Num) (rest : List Instr) → Ready m v externs imports params values (sum_steps s) (sum_callees s) c → StepsCome m v imports params one_number (sum_value values s c.world.replies) (sum_steps s) c os rest os
  sum_comes m v externs imports params values (Parameter name) c os rest h = parameter-comes m v externs imports params values name c os rest h
  sum_comes m v externs imports params values (terms.Number n) c os rest h = number-comes m v imports params n c os rest (All-head FitsStep (step.Number n) [] h.fits)
  sum_comes m v externs imports params values (Operate operator left right) c os rest h =
      let operate = step.Operate operator ∷ [] in
      let r = sum_value values left c.world.replies in
      let own = ready-left (sum_steps left) (sum_steps right ++ operate) (sum_callees left) (sum_callees right) h in
      let behind = ready-right (sum_steps left) (sum_steps right ++ operate) (sum_callees left) (sum_callees right) h in
      steps-then IsSmall m v imports params one_number one_number (sum_steps left) (sum_steps right ++ operate) r (λ x more. and_then (sum_value values right more) (λ y others. or_overflow (operator_value operator x y) others)) c os os rest os
      (sum_comes m v externs imports params values left c os (steps_code imports params (sum_steps right ++ operate) ++ rest) own)
      (sum-small externs params values left c.world.replies (reads own))
      (λ x more locals x_is kept.
      let d = gone_on r.events more locals c in
      let here = ready-on r.events more locals behind kept in
      let o = sum_value values right more in
      let first = ready-args (sum_steps right) operate [] (sum_callees right) here in
      let last = ready-last (sum_steps right) operate (sum_callees right) here in
      steps-then IsSmall m v imports params one_number one_number (sum_steps right) operate o (λ y others. or_overflow (operator_value operator x y) others) d (I32 x ∷ os) (I32 x ∷ os) rest os
      (sum_comes m v externs imports params values right d (I32 x ∷ os) (steps_code imports params operate ++ rest) first)
      (sum-small externs params values right more (reads first))
      (λ y others others_locals y_is others_kept.
      operator-comes m v externs imports params values operator x y (gone_on o.events others others_locals d) os rest (ready-on o.events others others_locals last others_kept) x_is y_is))
  sum_comes m v externs imports params values (Result callee args) c os rest h =
      let r = args_value values args c.world.replies in
      let last = called callee (count_of args) true in
      let own = ready-args (args_steps args) (last ∷ []) (callee ∷ []) (args_callees args) h in
      steps-then (AreArgs (count_of args)) m v imports params numbers_reversed one_number (args_steps args) (last ∷ []) r (λ numbers left. asked (event_of callee numbers) left) c os os rest os
      (args_comes m v externs imports params values args c os (steps_code imports params (last ∷ []) ++ rest) own)
      (args-small externs params values args c.world.replies (reads own))
      (λ numbers left locals are kept. call-comes m v externs imports params callee (count_of args) numbers (gone_on r.events left locals c) os rest h.imported (last-known externs params (args_steps args) last h.known) (All-head (Contains imports) callee (args_callees args) h.called) are)

  pub args_comes : (m : Module) (v : View) (externs : List ExternFunction) (imports params : List (List ℕ)) (values : List ℕ → ℕ) (args : Sums) (c : Config) (os : List Num) (rest : List Instr) → Ready m v externs imports params values (args_steps args) (args_callees args) c → StepsCome m v imports params numbers_reversed (args_value values args c.world.replies) (args_steps args) c os rest os
  args_comes m v externs imports params values NoSum c os rest h = nothing-comes m v imports params numbers_reversed [] c os rest os refl
  args_comes m v externs imports params values (More sum others) c os rest h =
      let r = sum_value values sum c.world.replies in
      let own = ready-left (sum_steps sum) (args_steps others) (sum_callees sum) (args_callees others) h in
      let behind = ready-right (sum_steps sum) (args_steps others) (sum_callees sum) (args_callees others) h in
      steps-then IsSmall m v imports params one_number numbers_reversed (sum_steps sum) (args_steps others) r (λ n left. and_then (args_value values others left) (λ numbers more. gives (n ∷ numbers) more)) c os os rest os
      (sum_comes m v externs imports params values sum c os (steps_code imports params (args_steps others) ++ rest) own)
      (sum-small externs params values sum c.world.replies (reads own))
      (λ n left locals small kept.
      args-come m v imports params (args_steps others) (args_value values others left) n (gone_on r.events left locals c) os rest
      (args_comes m v externs imports params values others (gone_on r.events left locals c) (I32 n ∷ os) rest (ready-on r.events left locals behind kept)))

-- a call whose function gives nothing
pub statement_comes : (m : Module) (v : View) (externs : List ExternFunction) (imports params : List (List ℕ)) (values : List ℕ → ℕ) (s : CallStatement) (c : Config) (os : List Num) (rest : List Instr) → Ready m v externs imports params values (statement_steps s) (statement_callees s) c → StepsCome m v imports params no_numbers (statement_done values s c.world.replies) (statement_steps s) c os rest os
statement_comes m v externs imports params values s c os rest h =
    let r = args_value values s.args c.world.replies in
    let last = called s.callee (count_of s.args) false in
    let own = ready-args (args_steps s.args) (last ∷ []) (s.callee ∷ []) (args_callees s.args) h in
    steps-then (AreArgs (count_of s.args)) m v imports params numbers_reversed no_numbers (args_steps s.args) (last ∷ []) r (λ numbers left. record { events = event_of s.callee numbers ∷ []; end = Gives tt left }) c os os rest os
    (args_comes m v externs imports params values s.args c os (steps_code imports params (last ∷ []) ++ rest) own)
    (args-small externs params values s.args c.world.replies (reads own))
    (λ numbers left locals are kept. call-told m v externs imports params s.callee (count_of s.args) numbers (gone_on r.events left locals c) os rest h.imported (last-known externs params (args_steps s.args) last h.known) (All-head (Contains imports) s.callee (args_callees s.args) h.called) are)

pub statements_comes : (m : Module) (v : View) (externs : List ExternFunction) (imports params : List (List ℕ)) (values : List ℕ → ℕ) (statements : List CallStatement) (c : Config) (os : List Num) (rest : List Instr) → Ready m v externs imports params values (flat_map statement_steps statements) (flat_map statement_callees statements) c → StepsCome m v imports params no_numbers (statements_done values statements c.world.replies) (flat_map statement_steps statements) c os rest os
statements_comes m v externs imports params values [] c os rest h = nothing-comes m v imports params no_numbers tt c os rest os refl
statements_comes m v externs imports params values (s ∷ statements) c os rest h =
    let r = statement_done values s c.world.replies in
    let others = flat_map statement_steps statements in
    let names = flat_map statement_callees statements in
    let own = ready-left (statement_steps s) others (statement_callees s) names h in
    let behind = ready-right (statement_steps s) others (statement_callees s) names h in
    steps-then IsAny m v imports params no_numbers no_numbers (statement_steps s) others r (λ done left. statements_done values statements left) c os os rest os
    (statement_comes m v externs imports params values s c os (steps_code imports params others ++ rest) own)
    (gives-any r.end)
    (λ done left locals any kept. statements_comes m v externs imports params values statements (gone_on r.events left locals c) os rest (ready-on r.events left locals behind kept))

body-comes : (m : Module) (v : View) (externs : List ExternFunction) (imports params : List (List ℕ)) (values : List ℕ → ℕ) (b : Body) (c : Config) (os : List Num) (rest : List Instr) → Ready m v externs imports params values (body_steps b) (body_callees b) c → StepsCome m v imports params one_number (body_value values b c.world.replies) (body_steps b) c os rest os
body-comes m v externs imports params values b c os rest h =
    let r = statements_done values b.statements c.world.replies in
    let first = flat_map statement_steps b.statements in
    let names = flat_map statement_callees b.statements in
    let own = ready-left first (sum_steps b.sum) names (sum_callees b.sum) h in
    let behind = ready-right first (sum_steps b.sum) names (sum_callees b.sum) h in
    steps-then IsAny m v imports params no_numbers one_number first (sum_steps b.sum) r (λ done left. sum_value values b.sum left) c os os rest os
    (statements_comes m v externs imports params values b.statements c os (steps_code imports params (sum_steps b.sum) ++ rest) own)
    (gives-any r.end)
    (λ done left locals any kept. sum_comes m v externs imports params values b.sum (gone_on r.events left locals c) os rest (ready-on r.events left locals behind kept))

-- The code of a function's body comes out as what it returns.
pub body_comes : (m : Module) (v : View) (externs : List ExternFunction) (imports params : List (List ℕ)) (values : List ℕ → ℕ) (b : Body) (c : Config) (os : List Num) (rest : List Instr) → Imports m v externs imports → All (IsKnown externs params) (body_steps b) → All FitsStep (body_steps b) → All (Contains imports) (body_callees b) → Placed imports params values (body_steps b) c → let r = body_value values b c.world.replies in Comes m v params one_number r.events r.end (placed (code_of (steps_code imports params (body_steps b) ++ rest)) os c) (code_of rest) os
body_comes m v externs imports params values b c os rest imported known fits names at =
    body-comes m v externs imports params values b c os rest (record { imported = imported; known = known; fits = fits; called = names; at = at })
