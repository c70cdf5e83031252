use Rattle.zw_values.proofs.PathLemmas.{others_after_write}
use Rattle.zw_values.proofs.laws.other_paths_stay.Goals as goal

pub returns : goal.returns
returns c = λ v new w path other h a. others_after_write v new w path other h a
