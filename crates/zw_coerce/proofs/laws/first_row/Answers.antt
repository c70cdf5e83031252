use Rattle.zw_values.specs.Coercions.{rows}
use Rattle.zw_coerce.proofs.FirstRowLemmas.{first_of_rows, rows_of_first}
use Rattle.zw_coerce.proofs.laws.first_row.Goals as goal

pub returns : goal.returns
returns c = λ from known to number. (
  λ h. first_of_rows from known to number rows 1 h,
  λ f. rows_of_first from known to number rows 1 f.place f.row f.counted f.stands f.applies f.others_before,
)
