-- The rules of `break`, `continue`, `return` and `unreachable` (Zig Language Reference 0.13.0, Blocks, while, Functions, unreachable).
use Rattle.std.specs.Prelude.{ℕ, List, [], ◌∷◌}
use Rattle.zw_base.specs.declared.stop.StopKind.TheVariants.{Error}
use Rattle.zw_types.specs.TypeTrees as tree
use Rattle.zw_values.specs.ObjectStore.{Stage, at_compile_time, at_run_time}
use Rattle.zw_env.specs.FlowParts.{Part, Rule, Next, Ask, Emit, Leave, Halt, Stopping, Destination, OutOf, NextIn, OutOfFunction, AsBrought, nothing, operand_at, take, last_of}
use Rattle.zw_env.specs.FlowChildren.{forms, label_of}

-- with a value, of which the type is wanted that is wanted there, or without one
abbrev pub leaving : {N : Type 0} → Destination → List ℕ → Rule N
leaving to [] site parts = last_of (Leave to nothing) parts
leaving to (value ∷ others) site parts = take (Ask (operand_at site value (AsBrought to))) parts (λ v more. last_of (Leave to v) more)

abbrev pub break_rule : {N : Type 0} → Rule N
break_rule site parts = leaving (OutOf (label_of site.here)) (forms site.here) site parts

abbrev pub continue_rule : {N : Type 0} → Rule N
continue_rule site parts = last_of (Leave (NextIn (label_of site.here)) nothing) parts

abbrev pub return_rule : {N : Type 0} → Rule N
return_rule site parts = leaving OutOfFunction (forms site.here) site parts

-- at compile time it is illegal
abbrev pub unreachable_in : {N : Type 0} → Stage → List (Part N) → Next N
unreachable_in at_compile_time parts = Halt (Error 21)
unreachable_in at_run_time parts = last_of (Emit (Stopping 6) tree.NoReturnType) parts

abbrev pub unreachable_rule : {N : Type 0} → Rule N
unreachable_rule site parts = unreachable_in site.stage parts
