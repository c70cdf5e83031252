use Rattle.std.proofs.Common.{◌≡◌, ◌++◌, take}
use Rattle.zw_parse.specs.Spellings.{lines_behind}
use Rattle.zw_parse.proofs.spelling.push_lines.Given as goal

abbrev pub invariant-loop-line : goal.invariant-loop-line
invariant-loop-line l = l.bytes.items ≡ l.initial.bytes.items ++ lines_behind l.text (take l.line-index l.lines)
