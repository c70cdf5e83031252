use Rattle.std.proofs.lemmas.List.{take_rest}
use Rattle.zw_calls.proofs.LineLemmas.{first-line, last-line}
use Rattle.zw_calls.proofs.TextLemmas.{not_empty}
use Rattle.zw_calls.proofs.replies.first_line.Goals as goal

pub returns-then-end-text : goal.returns-then-end-text
returns-then-end-text c = rw take_rest (last-line c.args.text.now c.line_end-end.result c.line_end-end.ensures c.if-end-text.true (not_empty c.args.text.now c.is_empty.result c.is_empty.ensures c.if-is_empty.false))

pub returns : goal.returns
returns c = rw (c.without_carriage_return.ensures, take_rest) (first-line c.args.text.now c.line_end-end.result c.line_end-end.ensures c.if-end-text.false)
