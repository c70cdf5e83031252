use Rattle.std.proofs.Common.{pos, ap, ◌∙◌, arith}
use Rattle.std.specs.Prelude.{min}
use Rattle.std.proofs.lemmas.Int.{to_z_pos}
use Rattle.std.specs.Int.{w128}
use lib.Count.{count_trailing_zeros}
use Rattle.zw_num.specs.Arithmetic.{width, pattern}
use Rattle.zw_num.proofs.CountLemmas.{trailing_narrow}
use Rattle.zw_num.proofs.WrappedLemmas.{read_back, few_bits}
use Rattle.zw_num.proofs.counting.ctz.Goals as goal

pub returns : goal.returns
returns c =
    let w = width c.args.ty in
    let few = few_bits c.args.ty c.requires.is_type in
    let is = c.pattern.ensures.value ∙ ap (pattern w) (read_back c.args.a c.ranges.a.sfits) in
    let same = c.min.ensures ∙ ap (min (count_trailing_zeros 128 c.pattern.result)) c.width.ensures ∙ trailing_narrow w 128 c.pattern.result (omega arith) in
    to_z_pos w128 c.min.result (omega arith) ∙ ap pos (same ∙ ap (count_trailing_zeros w) is)
