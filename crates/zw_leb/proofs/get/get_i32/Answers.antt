use Rattle.zw_leb.proofs.ReadLemmas.{narrow, narrowed}
use Rattle.zw_leb.proofs.get.get_i32.Goals as goal

pub overflow_cast-result : goal.overflow_cast-result
overflow_cast-result c = narrow _ _ _ c.in_ok-number.ensures

pub returns : goal.returns
returns c = narrowed _ _ _ c.in_ok-number.ensures
