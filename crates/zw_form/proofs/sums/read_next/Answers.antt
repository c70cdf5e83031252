use Rattle.std.proofs.Common.{◌≡◌, ◌+◌, Bool, refl, arith}
use Rattle.std.proofs.lemmas.Grind.{common_steps}
use Rattle.std.proofs.lemmas.Result.{IfOk-weaker}
use Rattle.zw_form.specs.Work.{done, tasks_work}
use Rattle.zw_form.proofs.WorkLemmas.{next-begins, next-weight, nothing-next}
use Rattle.zw_form.proofs.sums.read_next.Goals as goal

pub returns-in_default-clause-begins : goal.returns-in_default-clause-begins
returns-in_default-clause-begins c =
    nothing-next c.args.text.now c.args.tokens.now c.args.ast.now c.args.n c.args.k c.in_default.ensures (done c.args.reader.now) (tasks_work c.args.text.now c.args.tokens.now c.args.ast.now c.args.reader.now.tasks.items)

pub returns-clause-begins : goal.returns-clause-begins
returns-clause-begins c =
    let next : c.in_ok-next.next ≡ c.args.k + 1 = grind (arith, common_steps) in
    IfOk-weaker c.read_node.result _ _ (λ (ok : Bool) h. next-begins c.args.text.now c.args.tokens.now c.args.ast.now c.args.n c.args.k c.in-Some.sum c.in-Some.ensures.0 c.in-Some.ensures.1 c.args.reader.now _ _ c.in_ok-next.next next refl c.in_ok-push.ensures.items ok h)
    c.read_node.ensures.begins

pub returns-clause-weight : goal.returns-clause-weight
returns-clause-weight c =
    let next : c.in_ok-next.next ≡ c.args.k + 1 = grind (arith, common_steps) in
    IfOk-weaker c.read_node.result _ _ (λ (ok : Bool) h. next-weight c.args.ast.now c.args.n c.args.k c.in-Some.sum c.in-Some.ensures.0 c.in-Some.ensures.1 c.args.reader.now.tasks.items _ c.in_ok-next.next next c.in_ok-push.ensures.items _ h)
    c.read_node.ensures.weight
