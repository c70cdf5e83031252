use Rattle.std.proofs.Common.{List, reverse}
use Rattle.zw_grammar.specs.declared.builder.Built.{Built}
use Rattle.zw_grammar.specs.Building.{Building}
use Rattle.zw_grammar.specs.Grammars.{steps_of}
use Rattle.zw_grammar.specs.Nodes.{HoldsBehind}
use Rattle.zw_grammar.specs.Plain.{plain}
use Rattle.zw_grammar.specs.Turns.{Comes, reading}
use Rattle.zw_grammar.proofs.machine.take_next.Given as goal

abbrev pub invariant-loop-symbol : goal.invariant-loop-symbol
invariant-loop-symbol l = (older : List Built) (b : Building) → HoldsBehind older l.initial.into b → Comes (plain l.rules) l.terminals (reading l.initial.stack.items l.at b) l.stack.items l.at older l.into

abbrev pub decreases-loop-symbol : goal.decreases-loop-symbol
decreases-loop-symbol l = steps_of (plain l.rules) (reverse l.stack.items)
