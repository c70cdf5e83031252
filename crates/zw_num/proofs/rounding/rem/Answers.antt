use Rattle.std.proofs.Common.{Ok, ap, sym, ◌∙◌}
use Rattle.std.specs.Int.{w128, cast_unsigned}
use Rattle.zw_num.specs.Arithmetic.{truncated, rest_of}
use Rattle.zw_num.proofs.DivisionLemmas.{rest_is, divided_is, rem_read_back}
use Rattle.zw_num.proofs.WrappedLemmas.{read_back}
use Rattle.zw_num.proofs.rounding.rem.Goals as goal

pub returns-clause-value : goal.returns-clause-value
returns-clause-value c =
    let a = c.args.a in
    let b = c.args.b in
    let r = c.wrapping_rem.result in
    let is = rem_read_back a b r c.ranges.a.sfits c.ranges.b.sfits c.wrapping_rem.ensures in
    ap Ok (read_back r c.wrapping_rem.type_inv ∙ is ∙ sym (rest_is a b))
    ∙ sym (divided_is b (Ok (rest_of a b (truncated a b))) (λ e. c.if-b-eq0.false (ap (cast_unsigned w128) e)))
