use Rattle.zw_grammar.proofs.OrderLemmas.{read_in_order}
use Rattle.zw_grammar.proofs.laws.nodes_in_order.Goals as goal

pub returns : goal.returns
returns c = read_in_order
