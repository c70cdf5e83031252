use Rattle.zw_parse.proofs.SyntaxLemmas.{stop_once}
use Rattle.zw_parse.proofs.laws.one_stop_of_syntax.Goals as goal

pub returns : goal.returns
returns c = stop_once
