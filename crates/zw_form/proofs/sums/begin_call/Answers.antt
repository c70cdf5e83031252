use Rattle.std.proofs.Common.{◌∷◌, [], ◌++◌, ap, ◌∙◌, arith}
use Rattle.zw_tree.specs.Numbering.{from, inside_first}
use Rattle.zw_form.specs.declared.source.Step.TheVariants as step
use Rattle.zw_form.specs.declared.sums.Task.TheVariants.{Take}
use Rattle.zw_form.proofs.WorkLemmas.{call-begun, weight-push, behind-count}
use Rattle.zw_form.proofs.sums.begin_call.Goals as goal

pub returns-clause-begins : goal.returns-clause-begins
returns-clause-begins c = λ text tokens.
    let old = c.args.reader.now in
    call-begun text tokens c.args.ast.now c.args.n c.in-Some.callee c.in-Some.ensures.0 c.in-Some.ensures.1 c.in-Some-mentioned.name.now c.in-Some-mentioned.ensures
    c.args.has_result c.in_ok-args.args c.in_ok-args.ensures
    old.steps old.callees c.push.new.self old.tasks.items c.push-2.new.self.items c.push-3.new.self.items
    (c.in_ok-push.ensures.ok ∙ ap (λ n. old.callees ++ n ∷ []) c.in_ok-from_slice.ensures)
    (c.in_ok-push-2.ensures.items ∙ ap (λ n. old.tasks.items ++ Take (step.Call (record { name = n; args = c.in_ok-args.args; has_result = c.args.has_result })) ∷ []) c.in_ok-from_slice-2.ensures)
    c.in_ok-push-3.ensures.items

pub returns-clause-weight : goal.returns-clause-weight
returns-clause-weight c =
    let first = weight-push c.args.ast.now c.args.reader.now.tasks.items c.push-2.new.self.items _ c.in_ok-push-2.ensures.items in
    let second = weight-push c.args.ast.now c.push-2.new.self.items c.push-3.new.self.items _ c.in_ok-push-3.ensures.items in
    let fewer = behind-count (inside_first (from c.args.ast.now c.args.n)) in
    omega (arith, first, second, fewer)
