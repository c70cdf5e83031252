-- The rule of calls (Zig Language Reference 0.13.0, Functions), with the numbers of its errors (this project's own): 16 a known value is required, 18 no function
-- or a wrong number of arguments, 36 not built yet.
use Rattle.std.specs.Prelude.{ℕ, Bool, true, false, nat_eq, List, [], ◌∷◌, length, Option, Some, None}
use Rattle.zw_base.specs.declared.stop.StopKind.TheVariants.{Error}
use Rattle.zw_types.specs.TypeTrees as tree
use Rattle.zw_types.specs.TypeTrees.{TypeTree, ValueTree}
use Rattle.zw_values.specs.ObjectStore.{Stage, at_compile_time, at_run_time}
use Rattle.zw_env.specs.FlowParts.{Part, Occurrence, Rule, Next, Ask, Emit, Halt, Calling, Wanted, Nothing, OfType, known_of, any_lost, is_comptime_only, operand_at, take, take_each, last_of}
use Rattle.zw_env.specs.FlowChildren.{forms}
use Rattle.zw_forms_decl.specs.DeclarationRules.{wanted_types, result_of}

-- each argument with the type that is wanted of it: none past the last parameter
pub record Argument : Type 0 where
  pub child : ℕ
  pub wanted : Wanted

abbrev pub arguments : List ℕ → List TypeTree → List Argument
arguments [] types = []
arguments (n ∷ ns) [] = record { child = n; wanted = Nothing } ∷ arguments ns []
arguments (n ∷ ns) (ty ∷ types) = record { child = n; wanted = OfType ty } ∷ arguments ns types

abbrev pub with_arguments : {N : Type 0} → Occurrence → List Argument → List (Part N) → (List (Part N) → List (Part N) → Next N) → Next N
with_arguments site args parts due = take_each (λ a taken. Ask (operand_at site a.child a.wanted)) args [] parts due

-- their number is told behind them
abbrev pub call_due : {N : Type 0} → ValueTree → List TypeTree → TypeTree → List (Part N) → List (Part N) → Next N
call_due f params result args parts =
    elim (nat_eq (length args) (length params)) [
      | false ↦ Halt (Error 18)
      | true ↦ elim (any_lost args) [ true ↦ Halt (Error 16) | false ↦ last_of (Emit (Calling f args) result) parts ]
    ]

abbrev pub call_with : {N : Type 0} → ValueTree → List TypeTree → TypeTree → List ℕ → Rule N
call_with f params result args site parts = with_arguments site (arguments args params) parts (λ given more. call_due f params result given more)

-- a call that is evaluated at compile time isn't built yet
abbrev pub is_early : Stage → TypeTree → Bool
is_early at_compile_time result = true
is_early at_run_time result = is_comptime_only result

abbrev pub call_known : {N : Type 0} → Bool → ValueTree → List TypeTree → TypeTree → List ℕ → Rule N
call_known true f params result args site parts = call_with f params result args site parts
call_known false f params result args site parts =
    elim (is_early site.stage result) [ true ↦ Halt (Error 36) | false ↦ call_with f params result args site parts ]

abbrev pub call_of : {N : Type 0} → TypeTree → Option ValueTree → List ℕ → Rule N
call_of (tree.FuncType params result comptime outside) (Some f) args site parts = call_known outside f (wanted_types params) (result_of result) args site parts
call_of (tree.FuncType params result comptime outside) None args site parts = Halt (Error 16)
call_of _ known args site parts = with_arguments site (arguments args []) parts (λ given more. Halt (Error 18))

-- the callee, then the arguments
abbrev pub call_on : {N : Type 0} → List ℕ → Rule N
call_on (callee ∷ args) site parts = take (Ask (operand_at site callee Nothing)) parts (λ f more. call_of f.ty (known_of f) args site more)
call_on [] site parts = Halt (Error 36)

abbrev pub call_rule : {N : Type 0} → Rule N
call_rule site parts = call_on (forms site.here) site parts
