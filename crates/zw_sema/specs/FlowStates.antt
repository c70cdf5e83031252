-- What the walk carries where there are statements, variables and calls, and what it comes to (this project's own).
use Rattle.std.specs.Prelude.{ℕ, ◌+◌, true, false, nat_eq, List, [], ◌∷◌, ◌++◌, Option, Some, None}
use Rattle.zw_base.specs.declared.stop.StopKind.{StopKind}
use Rattle.zw_base.specs.declared.stop.Place.{Place}
use Rattle.zw_types.specs.TypeTrees.{TypeTree}
use Rattle.zw_typed.specs.FlowNodes.{FlowNode}
use Rattle.zw_env.specs.FlowParts.{Part}
use Rattle.zw_env.specs.Counting.{Counters, begun, resumed}

-- a part whose node is one for run time
abbrev pub RunPart : Type 0
RunPart = Part FlowNode

-- What a unit has of its own: what each declaring node stands for, the latest first; the types of the function's parameters, of its other variables,
-- and of its result; the number of the next target; and what left to targets that are open, in order.
pub record Own : Type 0 where
  pub names : List (ℕ × RunPart)
  pub params : List TypeTree
  pub variables : List TypeTree
  pub result : Option TypeTree
  pub next_target : ℕ
  pub arrived : List RunPart

abbrev pub own_at_first : Own
own_at_first = record { names = []; params = []; variables = []; result = None; next_target = 0; arrived = [] }

-- a declaration of a container whose unit is being walked, or was
pub data Progress : Type 0 where
  UnderWay : Progress
  Analysed : RunPart → Progress

-- What is counted; what the unit has of its own; the declarations that were met, the latest first; and the functions of the program by their declarations,
-- exports first.
pub record State : Type 0 where
  pub counters : Counters
  pub own : Own
  pub declarations : List (ℕ × Progress)
  pub functions : List ℕ

-- A part; at compile time a part that leaves to a target; a stop with its place; or the bound on the walk was too small. Each but the last has the state then.
pub data Out : Type 0 where
  Found : RunPart → State → Out
  Left : ℕ → RunPart → State → Out
  Stopped : StopKind → Place → State → Out
  TooSmall : Out

-- ---- what each number leads to

abbrev pub named_by : List (ℕ × RunPart) → ℕ → Option RunPart
named_by [] n = None
named_by ((m, part) ∷ more) n = elim (nat_eq m n) [ true ↦ Some part | false ↦ named_by more n ]

abbrev pub progress_of : List (ℕ × Progress) → ℕ → Option Progress
progress_of [] n = None
progress_of ((m, progress) ∷ more) n = elim (nat_eq m n) [ true ↦ Some progress | false ↦ progress_of more n ]

-- the place of a declaration in the list of functions
abbrev pub place_among : List ℕ → ℕ → ℕ → Option ℕ
place_among [] n k = None
place_among (m ∷ ms) n k = elim (nat_eq m n) [ true ↦ Some k | false ↦ place_among ms n (k + 1) ]

-- ---- changes of what a unit has

abbrev pub with_own : State → Own → State
with_own state own = record { counters = state.counters; own = own; declarations = state.declarations; functions = state.functions }

abbrev pub bound : ℕ → RunPart → State → State
bound n part state = let own : Own = state.own in with_own state (record own { names = (n, part) ∷ own.names })

abbrev pub with_arrived : RunPart → State → State
with_arrived part state = let own : Own = state.own in with_own state (record own { arrived = own.arrived ++ part ∷ [] })

-- ---- units

-- the unit of a declaration has a quota and names of its own
abbrev pub unit_begun : ℕ → State → State
unit_begun n state =
    record { counters = begun state.counters; own = own_at_first; declarations = (n, UnderWay) ∷ state.declarations; functions = state.functions }

abbrev pub unit_ended : ℕ → RunPart → State → State → State
unit_ended n part before behind = record {
  counters = resumed before.counters behind.counters;
  own = before.own;
  declarations = (n, Analysed part) ∷ behind.declarations;
  functions = behind.functions;
}

-- What isn't evaluated leaves no variable, nothing that left, and no function; the declarations that it reached were met.
abbrev pub unevaluated : State → State → State
unevaluated before behind =
    record { counters = behind.counters; own = before.own; declarations = behind.declarations; functions = before.functions }
