-- By the lemmas on both walks; each example computes.
use Rattle.std.proofs.Common.{refl}
use Rattle.zw_num.specs.Arithmetic.{power}
use Rattle.zw_values.specs.Sameness.{is_same}
use Rattle.zw_sema.specs.Building.{row}
use Rattle.zw_sema.specs.Exchanged.{whole, number_in}
use Rattle.zw_sema.specs.WorkedExchanged.{asking}
use Rattle.zw_sema.proofs.MovedFiles.{file-tells, file-silent, file-programs}
use Rattle.zw_sema.proofs.MovedTrees.{says-itself}
use Rattle.zw_sema.proofs.MovedMembers.{renumbered, whole-moves, members-part, members-reached}
use Rattle.zw_sema.proofs.laws.unreached_declarations_may_grow.Goals as goal

pub returns-clause-parts : goal.returns-clause-parts
returns-clause-parts c = λ root inside n among. members-part root inside n among

pub returns-clause-told : goal.returns-clause-told
returns-clause-told c = λ file other bound x enough missed. file-tells (renumbered file other) (whole file) (whole other) (number_in file) bound (whole-moves file other x) enough missed

pub returns-clause-sessions : goal.returns-clause-sessions
returns-clause-sessions c = λ file other bound calls replies x enough missed.
    file-silent (renumbered file other) (whole file) (whole other) (number_in file) bound calls replies (whole-moves file other x) enough missed

pub returns-clause-programs : goal.returns-clause-programs
returns-clause-programs c = λ file other bound p x missed is. file-programs (renumbered file other) (whole file) (whole other) (number_in file) bound p (whole-moves file other x) missed is

pub returns-clause-reached : goal.returns-clause-reached
returns-clause-reached c = λ file other bound x enough missed k n m e d. members-reached file other bound x enough missed k n m e d

pub returns-clause-worked : goal.returns-clause-worked
unfolding power is_same
returns-clause-worked c = record {
  text = refl;
  other_text = refl;
  exchanged = record { front = tt; behind = says-itself (row asking); name = refl; declares = refl; declares_too = refl; waits = refl; waits_too = refl };
  not_reached = refl;
  numbers = refl;
  other_numbers = refl;
  asks = refl;
  asks_too = refl;
}
