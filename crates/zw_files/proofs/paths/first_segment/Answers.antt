use Rattle.std.proofs.Common.{◌+◌, sym, ◌∙◌, arith}
use Rattle.std.proofs.lemmas.List.{take_rest, length-drop}
use Rattle.zw_files.proofs.PathLemmas.{last-segment, next-segment}
use Rattle.zw_files.proofs.paths.first_segment.Goals as goal

pub returns-then-end-path : goal.returns-then-end-path
returns-then-end-path c = last-segment c.args.path.now (sym c.first_slash-end.ensures.at ∙ c.if-end-path.true)

pub returns : goal.returns
returns c = rw take_rest (next-segment c.args.path.now c.first_slash-end.result c.first_slash-end.ensures.at c.if-end-path.false, omega (arith, length-drop (c.first_slash-end.result + 1) c.args.path.now))
