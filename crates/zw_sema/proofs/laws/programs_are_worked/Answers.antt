-- Each example computes; the program is well-formed by its own lemma.
use Rattle.std.proofs.Common.{refl}
use Rattle.zw_num.specs.Arithmetic.{power}
use Rattle.zw_values.specs.Sameness.{is_same}
use Rattle.zw_typed.proofs.CallingLemmas.{calling-well_formed}
use Rattle.zw_sema.proofs.laws.programs_are_worked.Goals as goal

pub returns : goal.returns
unfolding power is_same
returns c = record { program = record { accepted = tt; functions = refl; places = refl; names = (refl, tt); imports = refl; well_formed = calling-well_formed }; heaviest = refl; too_heavy = refl; first_heavy = refl }
