-- The loop of `bodies::bodies`: the bodies so far, and then those of the functions left, are those of all functions.
use Rattle.std.proofs.Common.{◌≡◌, ◌++◌, map, drop}
use Rattle.zw_lower.specs.Modules.{body_of}
use Rattle.zw_lower.proofs.bodies.bodies.Given as goal

abbrev pub invariant-loop-function : goal.invariant-loop-function
invariant-loop-function l =
    l.bodies ++ map body_of (drop l.function-index l.functions) ≡ map body_of l.functions
