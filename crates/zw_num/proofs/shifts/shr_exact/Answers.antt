use Rattle.std.proofs.Common.{◌≡◌, ◌^◌, ◌<◌, ◌*ℤ◌, ℤ, true, Ok, FitsSigned, ap, sym, subst, ◌∙◌}
use Rattle.std.specs.Int.{w128, cast_signed, cast_unsigned}
use lib.Signed.{mag}
use Rattle.zw_num.specs.Arithmetic.{power, floored, is_amount, none_dropped}
use Rattle.zw_num.proofs.ShiftLemmas.{shift_read_back, amount_taken, drops_none, drops_some}
use Rattle.zw_num.proofs.WrappedLemmas.{read_back}
use Rattle.zw_num.proofs.shifts.shr_exact.Goals as goal

quotient_is : (a amount q : ℤ) → mag a < 2 ^ 127 → mag amount < 2 ^ 127 → q ≡ floored (cast_signed w128 (cast_unsigned w128 a)) (power (cast_signed w128 (cast_unsigned w128 amount))) → q ≡ floored a (power amount)
quotient_is a amount q f g e =
    e ∙ ap (λ (z : ℤ). floored z (power (cast_signed w128 (cast_unsigned w128 amount)))) (read_back a f) ∙ ap (λ (z : ℤ). floored a (power z)) (read_back amount g)

pub returns-in-Some : goal.returns-in-Some
returns-in-Some c =
    let a = c.args.a in
    let amount = c.args.b in
    let q = c.by_power-quotient.result in
    let taken : is_amount c.args.ty amount ≡ true = sym (ap (is_amount c.args.ty) (read_back amount c.ranges.b.sfits)) ∙ sym c.is_amount.ensures ∙ c.if-not-is_amount.false in
    let is = quotient_is a amount q c.ranges.a.sfits c.ranges.b.sfits c.by_power-quotient.ensures in
    let same = shift_read_back q amount c.by_power-quotient.type_inv c.ranges.b.sfits in
    let found = c.in-Some.ensures in
    let product = read_back c.in-Some.product (subst (λ (x : ℤ). FitsSigned w128 x) (sym found.1) found.0).sfits in
    let all : q *ℤ power amount ≡ a = sym same ∙ sym found.1 ∙ sym product ∙ ap (cast_signed w128) c.if-product-a.true ∙ read_back a c.ranges.a.sfits in
    ap Ok (read_back q c.by_power-quotient.type_inv) ∙ drops_none a (power amount) q is all ∙ sym (amount_taken c.args.ty amount (none_dropped a (power amount)) taken)

pub returns-in_default : goal.returns-in_default
returns-in_default c =
    let a = c.args.a in
    let amount = c.args.b in
    let q = c.by_power-quotient.result in
    let taken : is_amount c.args.ty amount ≡ true = sym (ap (is_amount c.args.ty) (read_back amount c.ranges.b.sfits)) ∙ sym c.is_amount.ensures ∙ c.if-not-is_amount.false in
    let is = quotient_is a amount q c.ranges.a.sfits c.ranges.b.sfits c.by_power-quotient.ensures in
    let same = shift_read_back q amount c.by_power-quotient.type_inv c.ranges.b.sfits in
    let found = c.in-Some.ensures in
    let apart = λ (all : q *ℤ power amount ≡ a). c.if-product-a.false (ap (cast_unsigned w128) (found.1 ∙ same ∙ all)) in
    drops_some a (power amount) q is apart ∙ sym (amount_taken c.args.ty amount (none_dropped a (power amount)) taken)

pub returns-in_default-2 : goal.returns-in_default-2
returns-in_default-2 c =
    let a = c.args.a in
    let amount = c.args.b in
    let q = c.by_power-quotient.result in
    let taken : is_amount c.args.ty amount ≡ true = sym (ap (is_amount c.args.ty) (read_back amount c.ranges.b.sfits)) ∙ sym c.is_amount.ensures ∙ c.if-not-is_amount.false in
    let is = quotient_is a amount q c.ranges.a.sfits c.ranges.b.sfits c.by_power-quotient.ensures in
    let same = shift_read_back q amount c.by_power-quotient.type_inv c.ranges.b.sfits in
    let apart = λ (all : q *ℤ power amount ≡ a). c.in_default.ensures (subst (λ (x : ℤ). FitsSigned w128 x) (sym (same ∙ all)) c.ranges.a) in
    drops_some a (power amount) q is apart ∙ sym (amount_taken c.args.ty amount (none_dropped a (power amount)) taken)
