-- The lists have one length, and are equal as far as they were compared.
use Rattle.std.proofs.Common.{◌≡◌, length, take}
use Rattle.zw_types.proofs.equality.same_ids.Given as goal

abbrev pub invariant-loop-i : goal.invariant-loop-i
invariant-loop-i l = (length l.a ≡ length l.b) × (take l.i l.a ≡ take l.i l.b)
