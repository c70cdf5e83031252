use Rattle.std.proofs.Common.{◌≡◌, ◌+◌, ◌-◌, ◌*◌, ◌^◌, ◌<◌}
use Rattle.zw_num.specs.Arithmetic.{reversed}
use Rattle.zw_num.proofs.reversal.in_other_order.Given as goal

-- what is there, followed by what the rest gives, is what the whole gives
abbrev pub invariant-loop : goal.invariant-loop
invariant-loop l = record {
  whole : l.out * l.base ^ (l.count - l.counter) + reversed l.base (l.count - l.counter) l.rest ≡ reversed l.base l.count l.fn.number;
  small : l.out < l.base ^ l.counter;
}
