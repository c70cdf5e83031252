use Rattle.std.proofs.Common.{sym, ◌∙◌}
use Rattle.zw_values.proofs.PathLemmas.{read_after_write, written_where_there}
use Rattle.zw_values.proofs.laws.written_is_read.Goals as goal

pub returns-clause-read : goal.returns-clause-read
returns-clause-read c = λ v new w path h. read_after_write v new w path h

pub returns-clause-there : goal.returns-clause-there
returns-clause-there c = λ v new path. let h = written_where_there v new path in (λ x. sym h ∙ x, λ x. h ∙ x)
