use Rattle.std.proofs.Common.{arith, rules, ◌≡◌, length}
use Rattle.zw_parse.proofs.OrderLemmas.{some_nodes, first_kept, take_next, kept_on, next_within, next_fewer, next_tree, longer}
use Rattle.zw_parse.proofs.order.preorder.Goals as goal

pub overflow_sub-built : goal.overflow_sub-built
overflow_sub-built c = some_nodes c.args.built.now c.requires.tree.0 c.requires.tree.1

pub loop-next-init : goal.loop-next-init
loop-next-init c = λ forest t. rw (c.new-order.ensures.items, c.in_ok-push.ensures.items, c.new-waiting.ensures.items) (first_kept c.args.built.now forest t)

pub overflow_cast-number : goal.overflow_cast-number
overflow_cast-number c =
    let t = c.requires.tree in
    let number : c.len-number.result ≡ length c.loop-next.order.items = search rules in
    omega (arith, next_fewer c.args.built.now t.0 t.1 c.loop-next.waiting.items c.pop.new.self.items c.in-Some.next c.loop-next.order.items c.in-Some.ensures.items (c.loop-next.invariant t.0 t.1), c.requires.short)

pub offset_bounds-built-next : goal.offset_bounds-built-next
offset_bounds-built-next c =
    let t = c.requires.tree in
    omega (arith, next_within c.args.built.now t.0 t.1 c.loop-next.waiting.items c.pop.new.self.items c.in-Some.next c.loop-next.order.items c.in-Some.ensures.items (c.loop-next.invariant t.0 t.1), c.requires.short)

pub bounds-built-next : goal.bounds-built-next
bounds-built-next c =
    let t = c.requires.tree in
    next_within c.args.built.now t.0 t.1 c.loop-next.waiting.items c.pop.new.self.items c.in-Some.next c.loop-next.order.items c.in-Some.ensures.items (c.loop-next.invariant t.0 t.1)

pub push_children-requires : goal.push_children-requires
push_children-requires c =
    let t = c.requires.tree in
    record {
      within = next_within c.args.built.now t.0 t.1 c.loop-next.waiting.items c.pop.new.self.items c.in-Some.next c.loop-next.order.items c.in-Some.ensures.items (c.loop-next.invariant t.0 t.1);
      tree = next_tree c.args.built.now t.0 t.1 c.loop-next.waiting.items c.pop.new.self.items c.in-Some.next c.loop-next.order.items c.in-Some.ensures.items (c.loop-next.invariant t.0 t.1);
    }

pub loop-next-smaller : goal.loop-next-smaller
loop-next-smaller c =
    let t = c.requires.tree in
    let fewer = next_fewer c.args.built.now t.0 t.1 c.loop-next.waiting.items c.pop.new.self.items c.in-Some.next c.loop-next.order.items c.in-Some.ensures.items (c.loop-next.invariant t.0 t.1) in
    longer c.args.built.now c.loop-next.order.items c.push-in-Some.new.self.items _ c.in_ok-push-2.ensures.items fewer

pub loop-next-preserved : goal.loop-next-preserved
loop-next-preserved c = λ forest t.
    let number : c.len-number.result ≡ length c.loop-next.order.items = search rules in
    kept_on c.args.built.now forest c.in-Some.next _ _ c.loop-next.order.items c.push-in-Some.new.self.items c.len-number.result _ number c.in_ok-push-2.ensures.items c.in_ok-push_children.ensures
    (take_next c.args.built.now forest c.loop-next.waiting.items c.pop.new.self.items c.in-Some.next c.loop-next.order.items c.in-Some.ensures.items (c.loop-next.invariant forest t))
