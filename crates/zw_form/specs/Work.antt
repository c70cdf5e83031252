-- What reading the nodes of a body gives: steps, and the names of the functions that are called, as far as it has come and with what
-- is still to be done.
use Rattle.std.specs.Prelude.{◌≡◌, ◌≢◌, ℕ, ◌+◌, ◌*◌, Bool, true, false, List, [], ◌∷◌, ◌++◌, Option, Some, None}
use Rattle.std.specs.List.{flat_map}
use Rattle.std.specs.Option.{option_map}
use Rattle.zw_token.specs.declared.token.Token.{Token}
use Rattle.zw_tree.specs.Numbering.{from, inside_first, after}
use Rattle.zw_tree.specs.Trees.{Forest, count}
use Rattle.zw_tree.specs.declared.ast.Entry.{Entry}
use Rattle.zw_form.specs.Nodes.{both, role_at, sum_of, sums_of}
use Rattle.zw_form.specs.Trees.{Sum, Sums, NoSum, More, CallStatement, Body, count_of, sum_steps, sum_callees, args_steps, args_callees, statement_steps, statement_callees, body_steps, body_callees}
use Rattle.zw_form.specs.declared.roles.Role.TheVariants as role
use Rattle.zw_form.specs.declared.source.Step.{Step}
use Rattle.zw_form.specs.declared.source.Step.TheVariants as step
use Rattle.zw_form.specs.declared.sums.Reader.{Reader}
use Rattle.zw_form.specs.declared.sums.Task.{Task}
use Rattle.zw_form.specs.declared.sums.Task.TheVariants.{Children, Take}

-- steps, and the names of functions
abbrev pub Work : Type 0
Work = List Step × List (List ℕ)

abbrev pub no_work : Option Work
no_work = Some ([], [])

-- one thing and then another, where each is of the form
infixr 6 ◌▷◌
abbrev pub ◌▷◌ : Option Work → Option Work → Option Work
a ▷ b = both (λ (x y : Work). (x.0 ++ y.0, x.1 ++ y.1)) a b

abbrev pub sum_work : Sum → Work
sum_work s = (sum_steps s, sum_callees s)

abbrev pub args_work : Sums → Work
args_work args = (args_steps args, args_callees args)

-- a call, for its result or not
abbrev pub call_work : Bool → CallStatement → Work
call_work has_result call = (
  args_steps call.args ++ step.Call (record { name = call.callee; args = count_of call.args; has_result = has_result }) ∷ [],
  call.callee ∷ args_callees call.args,
)

abbrev pub statements_work : List CallStatement → Work
statements_work statements = (flat_map statement_steps statements, flat_map statement_callees statements)

abbrev pub body_work : Body → Work
body_work b = (body_steps b, body_callees b)

-- what is done
abbrev pub done : Reader → Option Work
done reader = Some (reader.steps, reader.callees)

-- what a task gives
abbrev pub task_work : List ℕ → List Token → Forest Entry → Task → Option Work
task_work text tokens file (Children n k) = option_map args_work (sums_of text tokens (after k (inside_first (from file n))))
task_work text tokens file (Take s) = Some (s ∷ [], [])

-- what tasks give, of which the last is next
abbrev pub tasks_work : List ℕ → List Token → Forest Entry → List Task → Option Work
tasks_work text tokens file [] = no_work
tasks_work text tokens file (task ∷ tasks) = tasks_work text tokens file tasks ▷ task_work text tokens file task

-- what there is in the end
abbrev pub planned : List ℕ → List Token → Forest Entry → Reader → Option Work
planned text tokens file reader = done reader ▷ tasks_work text tokens file reader.tasks.items

-- the work is begun, before what was still to be done; or it isn't of the form
abbrev pub Begins : List ℕ → List Token → Forest Entry → Bool → Reader → Reader → Option Work → Type 0
Begins text tokens file true old new work = planned text tokens file new ≡ (done old ▷ work ▷ tasks_work text tokens file old.tasks.items)
Begins text tokens file false old new work = work ≡ None

-- all is done; or something isn't of the form
abbrev pub Finishes : List ℕ → List Token → Forest Entry → Bool → Reader → Reader → Type 0
Finishes text tokens file true old new = (planned text tokens file old ≡ done new) × (new.tasks.items ≡ [])
Finishes text tokens file false old new = planned text tokens file old ≡ None

-- the work is done, where nothing was still to be done; or it isn't of the form
abbrev pub Reads : Bool → Reader → Reader → Option Work → Type 0
Reads true old new work = ((done old ▷ work) ≡ done new) × (new.tasks.items ≡ [])
Reads false old new work = work ≡ None

-- the sums that these trees are
abbrev pub sums_in : List ℕ → List Token → List (Forest Entry) → Option Sums
sums_in text tokens [] = Some NoSum
sums_in text tokens (t ∷ ts) = both More (sum_of text tokens t) (sums_in text tokens ts)

-- two operands, of which at least one is no number
abbrev pub AreOperands : List (Forest Entry) → Type 0
AreOperands [] = ⊥
AreOperands (left ∷ []) = ⊥
AreOperands (left ∷ right ∷ []) = role_at left ≡ role.Number → role_at right ≢ role.Number
AreOperands (left ∷ right ∷ other ∷ others) = ⊥

-- how much is still to be done, at most
abbrev pub task_weight : Forest Entry → Task → ℕ
task_weight file (Children n k) = 3 * count (after k (inside_first (from file n))) + 1
task_weight file (Take s) = 1

abbrev pub tasks_weight : Forest Entry → List Task → ℕ
tasks_weight file [] = 0
tasks_weight file (task ∷ tasks) = task_weight file task + tasks_weight file tasks
