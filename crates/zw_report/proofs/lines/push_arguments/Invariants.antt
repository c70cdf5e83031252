use Rattle.std.proofs.Common.{◌≡◌, ◌++◌, take}
use Rattle.std.specs.List.{flat_map}
use Rattle.zw_report.specs.Lines.{argument}
use Rattle.zw_report.proofs.lines.push_arguments.Given as goal

-- the arguments so far stand at the end
abbrev pub invariant-loop-arg : goal.invariant-loop-arg
invariant-loop-arg l = l.line.items ≡ l.fn.line.items ++ flat_map argument (take l.arg-index l.args)
