use Rattle.std.proofs.Common.{drop}
use Rattle.zw_calls.proofs.ArgumentLemmas.{Taken}
use Rattle.zw_calls.proofs.arguments.read_arguments.Given as goal

-- the arguments so far, and those of the other words by the other types
abbrev pub invariant-loop-ty : goal.invariant-loop-ty
invariant-loop-ty l = Taken l.types l.words (drop l.ty-index l.types) l.left l.values l.numbers
