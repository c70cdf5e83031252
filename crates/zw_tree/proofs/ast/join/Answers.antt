use Rattle.std.proofs.Common.{rules, ◌≡◌, ◌<◌, length}
use Rattle.zw_tree.proofs.SlotLemmas.{joined-set}
use Rattle.zw_tree.proofs.ast.join.Goals as goal

pub returns-in-Ok-clause-ok : goal.returns-in-Ok-clause-ok
returns-in-Ok-clause-ok c =
    let within : c.in-Some.p < length c.args.slots.now.items = rw c.in-Some.is at c.requires.parent_within in
    let number : c.len-n.result ≡ length c.args.slots.now.items = search rules in
    joined-set _ _ c.args.slot c.index_mut.result.now c.in-Some.p c.len-n.result c.push-2.new.self c.in_ok-push.ensures.items c.in-Some.is within c.index_mut.ensures.value c.in-Ok.ensures.ok number
