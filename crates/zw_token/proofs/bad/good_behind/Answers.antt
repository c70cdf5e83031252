use Rattle.std.proofs.Common.{sym, ap, ◌∙◌}
use Rattle.std.proofs.lemmas.List.{take_rest}
use Rattle.zw_token.specs.Bytes.{starts_bad}
use Rattle.zw_token.proofs.FirstBad.{bad_control, plain_more}
use Rattle.zw_token.proofs.bad.good_behind.Goals as goal

pub returns-then-starts_bad-clause-none : goal.returns-then-starts_bad-clause-none
returns-then-starts_bad-clause-none c =
    bad_control c.args.text.now c.args.at c.args.valid c.requires.good (ap starts_bad (sym (take_rest c.args.text.now c.args.at)) ∙ sym c.if-starts_bad.ensures)

pub returns-then-byte-lt127-clause-some : goal.returns-then-byte-lt127-clause-some
returns-then-byte-lt127-clause-some c =
    plain_more c.args.text.now c.args.at c.args.valid c.requires.good c.if-at-valid.true c.requires.within c.if-byte-ge32.true c.if-byte-lt127.true
