use Rattle.std.proofs.Common.{sym, ◌∙◌}
use Rattle.zw_layout.proofs.LayoutLemmas.{HasLayout-simple}
use Rattle.zw_layout.proofs.laws.one_layout.Goals as goal

pub returns : goal.returns
returns c = λ table ty a b h k. HasLayout-simple table ty a h ∙ sym (HasLayout-simple table ty b k)
