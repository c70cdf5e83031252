use Rattle.std.proofs.Common.{◌≡◌, ◌++◌, take, length}
use Rattle.zw_leb.specs.Leb.{unsigned}
use Rattle.zw_leb.proofs.put.put_u32.Given as goal

-- what is written and the spelling of the rest are the spelling of the whole
abbrev pub invariant-loop-rest : goal.invariant-loop-rest
invariant-loop-rest l = (take l.leb.len l.leb.bytes ++ unsigned l.rest ≡ unsigned l.v) × (length (take l.leb.len l.leb.bytes) ≡ l.leb.len)

abbrev pub decreases-loop-rest : goal.decreases-loop-rest
decreases-loop-rest l = l.rest
