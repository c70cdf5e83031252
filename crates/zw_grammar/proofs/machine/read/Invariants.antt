use Rattle.zw_grammar.specs.Ends.{IsText}
use Rattle.zw_grammar.specs.Nodes.{nodes_of}
use Rattle.zw_grammar.specs.Plain.{plain}
use Rattle.zw_grammar.proofs.EndLemmas.{Kept}
use Rattle.zw_grammar.proofs.machine.read.Given as goal

abbrev pub invariant-loop-at : goal.invariant-loop-at
invariant-loop-at l = (t : IsText (plain l.rules) l.start l.terminals) → Kept (plain l.rules) l.start l.terminals t.complete.completions t.end l.from l.at l.stack.items (nodes_of l.initial.into) l.into
