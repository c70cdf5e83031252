use Rattle.zw_drive.proofs.ValidateLemmas.{validates_bytes, validates_nothing}
use Rattle.zw_drive.proofs.validate.validate.Goals as goal

pub returns-in-Ok-clause-ends : goal.returns-in-Ok-clause-ends
returns-in-Ok-clause-ends g c =
    validates_bytes _ _ _ _ _ c.in-Ok.bytes.items _ c.in-Ok.ensures.ends (rw c.deref.ensures.value at c.validate_bytes.ensures.ends)

pub returns-in-Err-clause-ends : goal.returns-in-Err-clause-ends
returns-in-Err-clause-ends g c = validates_nothing _ _ _ _ c.in-Err.e c.in-Err.ensures.ends
