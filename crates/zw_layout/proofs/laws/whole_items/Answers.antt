use Rattle.std.proofs.Common.{Some}
use Rattle.zw_layout.proofs.LayoutLemmas.{HasLayout-whole}
use Rattle.zw_layout.proofs.laws.whole_items.Goals as goal

pub returns : goal.returns
returns c = λ table ty layout h. HasLayout-whole table ty (Some layout) h
