use Rattle.std.proofs.Common.{◌≡◌, ◌∙◌, ap, sym, arith, eq-eqb}
use Rattle.std.proofs.lemmas.List.{take_all}
use Rattle.zw_token.specs.Numbers.{digits_value}
use Rattle.zw_token.proofs.Digits.{product_small, sum_small, digit_added, digits_value_skip}
use Rattle.zw_token.proofs.numbers.digits_value.Goals as goal
use Rattle.zw_token.proofs.numbers.digits_value.Goals.{then-digit-ne95+in_ok-checked_mul+in_ok-value, else-digit-ne95}

pub returns-in_err-checked_mul : goal.returns-in_err-checked_mul
returns-in_err-checked_mul c =
    rw c.from_residual.ensures
    (λ small. c.in_err-checked_mul.ensures (product_small c.args.base c.args.digits.now c.loop-digit.digit-index c.loop-digit.value c.from.result _ c.requires c.loop-digit-test.true c.if-digit-ne95.true c.loop-digit.invariant.is c.from.ensures small))

pub returns-in_err-value : goal.returns-in_err-value
returns-in_err-value c =
    rw c.from_residual-in_err-value.ensures
    (λ small. c.in_err-value.ensures (sum_small c.args.base c.args.digits.now c.loop-digit.digit-index c.loop-digit.value c.from.result c.in_ok-checked_mul.field-0 c.from-then-digit-ne95.result _ c.requires c.loop-digit-test.true c.if-digit-ne95.true c.loop-digit.invariant.is c.from.ensures c.in_ok-checked_mul.ensures.1 (c.from-then-digit-ne95.ensures ∙ c.digit_value.ensures) small))

pub loop-digit-preserved : goal.loop-digit-preserved
loop-digit-preserved c =
    elim c.if-digit-ne95.branch [
      | then-digit-ne95+in_ok-checked_mul+in_ok-value w ↦
          let added = digit_added c.args.base c.args.digits.now c.loop-digit.digit-index c.loop-digit.value w.from.result w.in_ok-checked_mul.field-0 w.from-then-digit-ne95.result c.loop-digit-test.true w.if-digit-ne95.true c.loop-digit.invariant.is w.from.ensures w.in_ok-checked_mul.ensures.1 (w.from-then-digit-ne95.ensures ∙ w.digit_value.ensures) in
          record {
            is = w.value-is ∙ w.in_ok-value.ensures.1 ∙ added;
            fits = omega (arith, w.value-is, w.in_ok-value.ensures.0, w.in_ok-value.ensures.1);
          }
      | else-digit-ne95 w ↦ record {
        is = w.value-is ∙ c.loop-digit.invariant.is ∙ sym (digits_value_skip c.args.base c.args.digits.now c.loop-digit.digit-index c.loop-digit-test.true (eq-eqb _ _ w.if-digit-ne95.false));
        fits = omega (arith, w.value-is, c.loop-digit.invariant.fits);
      }
    ]

pub returns : goal.returns
returns c =
    let whole : c.loop-digit.value ≡ digits_value c.args.base c.args.digits.now = c.loop-digit.invariant.is ∙ ap (digits_value c.args.base) (take_all c.loop-digit.digit-index c.args.digits.now c.loop-digit-test.false) in
    (omega (arith, whole, c.loop-digit.invariant.fits), whole)
