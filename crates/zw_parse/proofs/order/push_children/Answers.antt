use Rattle.std.proofs.Common.{arith, refl}
use Rattle.zw_parse.proofs.OrderLemmas.{size-at, size_fits, none_pushed, one_pushed, all_pushed, child_size, closer}
use Rattle.zw_parse.proofs.order.push_children.Goals as goal

pub overflow_sub-begin : goal.overflow_sub-begin
overflow_sub-begin c = let t = c.requires.tree in size_fits c.args.built.now c.args.at t.0 t.1 _ t.2

pub loop-end-init : goal.loop-end-init
loop-end-init c = record {
  within = omega (arith, c.requires.within);
  pushed = λ root below ends. none_pushed c.args.built.now c.args.at root below ends _ _ c.args.parent _ (size-at c.args.built.now c.args.at root below _ ends) refl;
}

pub overflow_sub-end : goal.overflow_sub-end
overflow_sub-end c =
    let t = c.requires.tree in
    (child_size c.args.built.now c.args.at t.0 t.1 t.2 _ c.loop-end.end c.args.parent _ _ _ c.loop-end-test.true (c.loop-end.invariant.pushed t.0 t.1 t.2)).1

pub loop-end-smaller : goal.loop-end-smaller
loop-end-smaller c =
    let t = c.requires.tree in
    closer c.args.built.now c.args.at t.0 t.1 t.2 _ c.loop-end.end c.args.parent _ _ _ c.loop-end-test.true (c.loop-end.invariant.pushed t.0 t.1 t.2)

pub loop-end-preserved : goal.loop-end-preserved
loop-end-preserved c = record {
  within = omega (arith, c.loop-end.invariant.within);
  pushed = λ root below ends. one_pushed c.args.built.now c.args.at root below ends _ c.loop-end.end c.args.parent _ _ c.loop-end.waiting.items c.push.new.self.items c.loop-end-test.true (c.loop-end.invariant.pushed root below ends) c.in_ok-push.ensures.items;
}

pub returns : goal.returns
returns c = λ root lower rest ends st. all_pushed c.args.built.now c.args.at root lower ends _ c.loop-end.end c.args.parent _ _ rest c.loop-end-test.false (c.loop-end.invariant.pushed root lower ends) st
