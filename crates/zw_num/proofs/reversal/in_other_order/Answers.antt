use Rattle.std.proofs.Common.{◌≡◌, ◌^◌, ◌<◌, ℕ, subst, arith}
use Rattle.zw_num.specs.Arithmetic.{reversed}
use Rattle.zw_num.proofs.ReversalLemmas.{start_whole, start_small, end_whole, step, front_below, power_below}
use Rattle.zw_num.proofs.reversal.in_other_order.Goals as goal

pub loop-init : goal.loop-init
loop-init c = record { whole = start_whole c.args.base c.args.count c.args.number; small = start_small c.args.base }

pub overflow_mul-out : goal.overflow_mul-out
overflow_mul-out c =
    let below = front_below c.args.base c.loop.counter c.loop.out c.loop.rest c.requires.base c.loop.invariant.small in
    let power = power_below c.args.base c.loop.counter c.args.count c.requires.base c.loop-test.true in
    record { fits = omega (arith, c.requires.fits) }

pub overflow_add-out : goal.overflow_add-out
overflow_add-out c =
    let below = front_below c.args.base c.loop.counter c.loop.out c.loop.rest c.requires.base c.loop.invariant.small in
    let power = power_below c.args.base c.loop.counter c.args.count c.requires.base c.loop-test.true in
    record { fits = omega (arith, c.requires.fits) }

pub loop-preserved : goal.loop-preserved
loop-preserved c = record {
  whole = step c.args.base c.args.count c.loop.counter c.loop.out c.loop.rest (reversed c.args.base c.args.count c.args.number) c.loop-test.true c.loop.invariant.whole;
  small = front_below c.args.base c.loop.counter c.loop.out c.loop.rest c.requires.base c.loop.invariant.small;
}

pub returns-clause-value : goal.returns-clause-value
returns-clause-value c =
    end_whole c.args.base c.args.count c.loop.counter c.loop.out c.loop.rest (reversed c.args.base c.args.count c.args.number) c.loop-test.false c.loop.invariant.whole

pub returns-clause-small : goal.returns-clause-small
returns-clause-small c =
    let all : c.loop.counter ≡ c.args.count = omega arith in
    subst (λ (k : ℕ). c.loop.out < c.args.base ^ k) all c.loop.invariant.small
