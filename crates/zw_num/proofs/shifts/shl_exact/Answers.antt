use Rattle.std.proofs.Common.{◌≡◌, ◌*ℤ◌, ℤ, true, false, FitsSigned, ap, sym, subst, ◌∙◌}
use Rattle.std.specs.Int.{w128}
use Rattle.zw_num.specs.Arithmetic.{power, is_in, is_amount, none_lost}
use Rattle.zw_num.proofs.ExactLemmas.{outside}
use Rattle.zw_num.proofs.ShiftLemmas.{shift_read_back, amount_taken, loses}
use Rattle.zw_num.proofs.WrappedLemmas.{read_back}
use Rattle.zw_num.proofs.shifts.shl_exact.Goals as goal
use Rattle.zw_num.proofs.shifts.shl_exact.Goals.{in_default-via-in-Some+else-contains, in_default-via-in_default}

pub returns-in-Sized : goal.returns-in-Sized
returns-in-Sized c =
    let ty = c.args.ty in
    let amount = c.args.b in
    let z = c.args.a *ℤ power amount in
    let taken : is_amount ty amount ≡ true = sym (ap (is_amount ty) (read_back amount c.ranges.b.sfits)) ∙ sym c.is_amount.ensures ∙ c.if-not-is_amount.false in
    let same = shift_read_back c.args.a amount c.ranges.a.sfits c.ranges.b.sfits in
    let out : is_in ty z ≡ false = elim c.in_default.branch [
      | in_default-via-in-Some+else-contains w ↦
          let found = w.in-Some.ensures in
          let product = read_back w.in-Some.product (subst (λ (x : ℤ). FitsSigned w128 x) (sym found.1) found.0).sfits in
          sym (ap (is_in ty) (product ∙ found.1 ∙ same)) ∙ sym w.contains.ensures ∙ w.if-contains.false
      | in_default-via-in_default w ↦ outside ty c.requires.is_type z (λ fits. w.in_default.ensures (subst (λ (x : ℤ). FitsSigned w128 x) (sym same) fits))
    ] in
    loses ty c.in-Sized.signed c.in-Sized.bits z c.in-Sized.is out ∙ sym (amount_taken ty amount (none_lost ty z) taken)
