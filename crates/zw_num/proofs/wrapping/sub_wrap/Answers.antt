use Rattle.std.proofs.Common.{◌∙◌}
use Rattle.zw_num.proofs.WrappedLemmas.{read_back, wrapped_difference}
use Rattle.zw_num.proofs.wrapping.sub_wrap.Goals as goal

pub returns : goal.returns
returns c = read_back c.wrap.result c.wrap.type_inv ∙ c.wrap.ensures ∙ wrapped_difference c.args.ty c.requires.is_type c.requires.sized c.args.a c.args.b c.ranges.a c.ranges.b
