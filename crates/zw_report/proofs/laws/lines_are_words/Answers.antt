use Rattle.std.proofs.Common.{◌∷◌, [], refl, codes}
use Rattle.hex.specs.Hex.{IsBytes}
use Rattle.zw_report.specs.declared.end.End.{End}
use Rattle.zw_report.specs.declared.end.End.TheVariants.{Result, Panic, WantsReply, StepsOut, Trap}
use Rattle.zw_report.specs.Lines.{HasLine, end_line, message_of}
use Rattle.zw_report.specs.Words.{IsLine}
use Rattle.zw_report.proofs.LineWords.{call_is_line, event_is_line, panic_is_line, result_is_line, stop_is_line}
use Rattle.zw_report.proofs.laws.lines_are_words.Goals as goal

end_is_line : (end : End) → HasLine end → IsBytes (message_of end) → IsLine (end_line end)
end_is_line (Result ty number) e h = result_is_line ty number
end_is_line (Panic cause message) e h = panic_is_line cause message e.0 e.1 h
end_is_line WantsReply e h = (codes "wants", codes "reply" ∷ [], refl, refl)
end_is_line StepsOut e h = (codes "steps", codes "ran" ∷ codes "out" ∷ [], refl, refl)
end_is_line Trap e h = (codes "trap", [], refl, refl)

pub returns-clause-calls : goal.returns-clause-calls
returns-clause-calls c = call_is_line

pub returns-clause-events : goal.returns-clause-events
returns-clause-events c = event_is_line

pub returns-clause-ends : goal.returns-clause-ends
returns-clause-ends c = end_is_line

pub returns-clause-stops : goal.returns-clause-stops
returns-clause-stops c = stop_is_line
