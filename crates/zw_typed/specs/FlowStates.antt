-- What holds of a run while a function's nodes that fit are evaluated, and of each end (this project's own): declared variables have live objects of
-- their own with values of their types, and nothing is stuck or wild.
use Rattle.std.specs.Prelude.{◌≡◌, ◌<◌, ◌≤◌, ℕ, true, List, length, slice_get, Option, Some, option_and_then}
use Rattle.zw_session.specs.Sessions.{Halt, Panicked, WantsReply, Running, Wild, Trapped}
use Rattle.zw_types.specs.TypeTrees.{TypeTree, ValueTree}
use Rattle.zw_values.specs.ObjectStore.{Object, Store}
use Rattle.zw_typed.specs.ValueTypes.{IsValueOf, AreValuesOf}
use Rattle.zw_typed.specs.FlowRuns.{Run, End, Gives, Leaves, Returns, Stops, Stuck}
use Rattle.zw_typed.specs.FlowMeanings.{Calls}
use Rattle.zw_typed.specs.FlowTypes.{Signature, Context, Opened, target_type, is_among}

-- the object of a variable
abbrev pub object_at : List (Option ℕ) → ℕ → Option ℕ
object_at variables k = option_and_then (λ obj. obj) (slice_get variables k)

-- the variable has a live object with a value of the type
pub record IsDeclared (store : Store) (variables : List (Option ℕ)) (ty : TypeTree) (k : ℕ) : Type 0 where
  pub obj : ℕ
  pub object : Object
  pub named : object_at variables k ≡ Some obj
  pub there : slice_get store obj ≡ Some object
  pub live : object.live ≡ true
  pub fits : IsValueOf ty object.value

-- In a function that was called with the outer objects, where these variables are declared: each variable has a place; what variables name are
-- objects that the function made, no two of them one; those that are declared are there; and the outer objects are as they were.
pub record IsState (c : Context) (outer : Store) (live : List ℕ) (store : Store) (variables : List (Option ℕ)) : Type 0 where
  pub room : length variables ≡ length c.variables
  pub own : (k obj : ℕ) → object_at variables k ≡ Some obj → (length outer ≤ obj) × (obj < length store)
  pub apart : (j k obj : ℕ) → object_at variables j ≡ Some obj → object_at variables k ≡ Some obj → j ≡ k
  pub declared : (k : ℕ) (ty : TypeTree) → is_among live k ≡ true → slice_get c.variables k ≡ Some ty → IsDeclared store variables ty k
  pub grown : length outer ≤ length store
  pub outside : (obj : ℕ) (object : Object) → slice_get outer obj ≡ Some object → slice_get store obj ≡ Some object

-- how what fits may halt: it isn't wild, and there is no trap
abbrev pub HaltFits : Halt → Type 0
HaltFits (Panicked cause message) = Unit {0}
HaltFits WantsReply = Unit {0}
HaltFits Running = Unit {0}
HaltFits Wild = ⊥
HaltFits (Trapped code) = ⊥

-- An end where these targets are open and these variables declared: what is given is so; what leaves has a value of the type of a target that is
-- open; what returns has one of the function's result; and nothing is stuck.
abbrev pub EndFits : {V : Type 0} → Context → Store → List Opened → List ℕ → (V → Run → Type 0) → End V → Run → Type 0
EndFits c outer around live Given (Gives value) run = Given value run
EndFits c outer around live Given (Leaves target ty value) run =
    ((to : TypeTree) × (target_type around target ≡ Some to) × IsValueOf to value) × IsState c outer live run.store run.variables
EndFits c outer around live Given (Returns ty value) run = IsValueOf c.result value × IsState c outer live run.store run.variables
EndFits c outer around live Given (Stops halt) run = HaltFits halt
EndFits c outer around live Given Stuck run = ⊥

-- a call leaves the caller's variables and objects as they were
pub record IsBehindCall (before after : Run) : Type 0 where
  pub variables : after.variables ≡ before.variables
  pub grown : length before.store ≤ length after.store
  pub outside : (obj : ℕ) (object : Object) → slice_get before.store obj ≡ Some object → slice_get after.store obj ≡ Some object

-- a call gives a value of the function's result, or halts
abbrev pub CallFits : TypeTree → Run → End ValueTree → Run → Type 0
CallFits result before (Gives value) run = IsValueOf result value × IsBehindCall before run
CallFits result before (Leaves target ty value) run = ⊥
CallFits result before (Returns ty value) run = ⊥
CallFits result before (Stops halt) run = HaltFits halt
CallFits result before Stuck run = ⊥

-- so does each call of functions with these signatures, on arguments of their types
abbrev pub CallsFit : List Signature → Calls → Type 0
CallsFit functions calls =
    (f : ℕ) (s : Signature) → slice_get functions f ≡ Some s → (args : List ValueTree) → AreValuesOf s.params args → (run : Run) →
    CallFits s.result run (calls f args run).end (calls f args run).run
