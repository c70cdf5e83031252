-- What is written, and the text of the type that is next, are the whole text.
use Rattle.std.proofs.Common.{◌≡◌, ◌<◌, length, ◌++◌, string_bytes}
use Rattle.zw_types.specs.Readings.{type_at}
use Rattle.zw_types.specs.TypeTexts.{type_text}
use Rattle.zw_types.proofs.types.Types.text.Given as goal

abbrev pub invariant-loop-text : goal.invariant-loop-text
invariant-loop-text l = (l.next.0 < length l.self.trees) × (string_bytes l.text ++ type_text (type_at l.self.trees l.next) ≡ type_text (type_at l.self.trees l.fn.id))

abbrev pub decreases-loop-text : goal.decreases-loop-text
decreases-loop-text l = l.next.0
