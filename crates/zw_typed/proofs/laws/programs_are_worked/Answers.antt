-- Each example computes; that the program is well-formed is shown by hand.
use Rattle.std.proofs.Common.{refl}
use Rattle.zw_typed.proofs.CallingLemmas.{calling-well_formed}
use Rattle.zw_typed.proofs.laws.programs_are_worked.Goals as goal

pub returns : goal.returns
returns c = record { read = refl; words = refl; no_bits = refl; imports = refl; well_formed = calling-well_formed }
