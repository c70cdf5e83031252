-- Each example computes.
use Rattle.std.proofs.Common.{refl}
use Rattle.std.specs.Fmt.{digits}
use Rattle.zw_types.proofs.laws.texts_are_worked.Goals as goal

pub returns : goal.returns
unfolding digits
returns c = record { byte = refl; signed = refl; size = refl; literal = refl; array = refl; ended = refl; optional_pointer = refl; many = refl; text = refl; slice = refl; union_of_errors = refl; container = refl }
