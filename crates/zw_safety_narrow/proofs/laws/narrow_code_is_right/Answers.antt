use Rattle.zw_safety_narrow.proofs.FamiliesRight.{family_right}
use Rattle.zw_safety_narrow.proofs.laws.narrow_code_is_right.Goals as goal

pub returns : goal.returns
returns c = λ operator setting served. family_right operator setting served
