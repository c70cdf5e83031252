use Rattle.std.proofs.Common.{◌≡◌, ◌++◌, reverse, length}
use Rattle.zw_grammar.proofs.machine.push_all.Given as goal

abbrev pub invariant-loop-last : goal.invariant-loop-last
invariant-loop-last l = l.stack.items ++ reverse l.symbols ≡ l.initial.stack.items ++ reverse l.initial.symbols

abbrev pub decreases-loop-last : goal.decreases-loop-last
decreases-loop-last l = length l.symbols
