use Rattle.std.proofs.Common.{◌≡◌, ◌*ℤ◌, true, ap, sym, subst, ◌∙◌}
use Rattle.std.specs.Int.{w128, cast_signed, cast_unsigned}
use Rattle.zw_num.specs.Arithmetic.{IsSized, power, is_amount, kept, wrapped}
use Rattle.zw_num.proofs.ShiftLemmas.{amount_taken, keeps}
use Rattle.zw_num.proofs.WrappedLemmas.{read_back, wrapped_product}
use Rattle.zw_num.proofs.shifts.shl.Goals as goal

pub returns-in-Sized : goal.returns-in-Sized
returns-in-Sized c =
    let ty = c.args.ty in
    let amount = c.args.b in
    let same = read_back amount c.ranges.b.sfits in
    let taken : is_amount ty amount ≡ true = sym (ap (is_amount ty) same) ∙ sym c.is_amount.ensures ∙ c.if-not-is_amount.false in
    let factor = c.power_of_two.ensures ∙ ap power same in
    let product = wrapped_product ty c.requires.is_type (subst IsSized (sym c.in-Sized.is) tt) c.args.a c.power_of_two.result c.ranges.a (record { sfits = c.power_of_two.type_inv }) in
    let r = read_back c.wrap.result c.wrap.type_inv ∙ c.wrap.ensures ∙ product ∙ ap (λ z. wrapped ty (c.args.a *ℤ z)) factor in
    keeps ty c.in-Sized.signed c.in-Sized.bits (cast_signed w128 (cast_unsigned w128 c.wrap.result)) (c.args.a *ℤ power amount) c.in-Sized.is r
    ∙ sym (amount_taken ty amount (kept ty (c.args.a *ℤ power amount)) taken)
