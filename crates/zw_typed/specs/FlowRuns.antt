-- What a run has while nodes are evaluated, and how evaluating ends (this project's own).
use Rattle.std.specs.Prelude.{ℕ, zero, suc, Bool, true, List, [], ◌∷◌, slice_get, slice_set, length, Option, Some, None, option_and_then}
use Rattle.zw_session.specs.Sessions.{HostEvent, Halt, Running}
use Rattle.zw_types.specs.TypeTrees.{TypeTree, ValueTree}
use Rattle.zw_values.specs.ObjectStore.{Store, at_run_time, made, killed}
use Rattle.zw_typed.specs.Weights.{run_size}
use Rattle.zw_typed.specs.FlowCounts.{Counts, visited, with_moved}

-- The objects; the object of each variable of the function that is evaluated, where the variable is declared; the replies and the turns
-- that are left; the host calls so far; and what was counted so far.
pub record Run : Type 0 where
  pub store : Store
  pub variables : List (Option ℕ)
  pub replies : List ℕ
  pub turns : ℕ
  pub events : List HostEvent
  pub counts : Counts

-- How evaluating ends: with a value; by leaving to a target, or by a return, with a value and its type, since values don't tell their types;
-- halted; or stuck, where the node is none that the analysis makes.
pub data End (V : Type 0) : Type 0 where
  Gives : (value : V) → End V
  Leaves : (target : ℕ) (ty : TypeTree) (value : ValueTree) → End V
  Returns : (ty : TypeTree) (value : ValueTree) → End V
  Stops : (halt : Halt) → End V
  Stuck : End V

-- the end, and what the run has then, whatever the end is
pub record Evaluated (V : Type 0) : Type 0 where
  pub end : End V
  pub run : Run

abbrev pub gives : {V : Type 0} → V → Run → Evaluated V
gives value run = record { end = Gives value; run = run }

abbrev pub stops : {V : Type 0} → Halt → Run → Evaluated V
stops halt run = record { end = Stops halt; run = run }

abbrev pub stuck : {V : Type 0} → Run → Evaluated V
stuck run = record { end = Stuck; run = run }

abbrev pub goes_on : {V W : Type 0} → End V → Run → (V → Run → Evaluated W) → Evaluated W
goes_on (Gives value) run go = go value run
goes_on (Leaves target ty value) run go = record { end = Leaves target ty value; run = run }
goes_on (Returns ty value) run go = record { end = Returns ty value; run = run }
goes_on (Stops halt) run go = stops halt run
goes_on Stuck run go = stuck run

-- one thing, and then another with its value
abbrev pub and_then : {V W : Type 0} → Evaluated V → (V → Run → Evaluated W) → Evaluated W
and_then r go = goes_on r.end r.run go

-- ---- what is counted

abbrev pub with_visit : Bool → ℕ → Run → Run
with_visit counts work run = record run { counts = visited counts work run.counts }

abbrev pub with_bytes : ℕ → Run → Run
with_bytes bytes run = record run { counts = with_moved bytes run.counts }

-- a value of this type is moved
abbrev pub with_value : TypeTree → Run → Run
with_value ty run = with_bytes (run_size ty) run

-- one turn more, where one is left
abbrev pub turn : {V : Type 0} → ℕ → Run → (Run → Evaluated V) → Evaluated V
turn zero run go = stops Running run
turn (suc left) run go = go (record run { turns = left })

abbrev pub with_turn : {V : Type 0} → Run → (Run → Evaluated V) → Evaluated V
with_turn run go = turn run.turns run go

-- ---- variables

abbrev pub object_of : Run → ℕ → Option ℕ
object_of run k = option_and_then (λ obj. obj) (slice_get run.variables k)

-- from here on the variable is a new object
abbrev pub declared : ℕ → TypeTree → ValueTree → Bool → Run → Run
declared k ty value writable run = record run {
  store = made run.store (record { ty = ty; value = value; stage = at_run_time; writable = writable; live = true });
  variables = slice_set run.variables k (Some (length run.store));
}

abbrev pub object_ended : Option ℕ → Store → Store
object_ended None store = store
object_ended (Some obj) store = killed store obj

-- the objects of these variables are no longer live
abbrev pub ended : List ℕ → Run → Run
ended [] run = run
ended (k ∷ ks) run = ended ks (record run { store = object_ended (object_of run k) run.store; variables = slice_set run.variables k None })

abbrev pub scoped : {V : Type 0} → List ℕ → Evaluated V → Evaluated V
scoped ks r = record { end = r.end; run = ended ks r.run }
