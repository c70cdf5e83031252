use Rattle.std.proofs.Common.{◌∷◌, [], ◌++◌, ap, sym, ◌∙◌, arith}
use Rattle.zw_form.specs.Work.{done}
use Rattle.zw_form.specs.declared.sums.Task.TheVariants.{Children, Take}
use Rattle.zw_form.proofs.WorkLemmas.{taken, begun, not-begun, weight-push}
use Rattle.zw_form.proofs.sums.finish.Goals as goal

pub loop-task-smaller-in_ok-push-in-Take : goal.loop-task-smaller-in_ok-push-in-Take
loop-task-smaller-in_ok-push-in-Take c =
    let popped = c.in-Some.ensures.items ∙ ap (λ t. c.pop.new.self.items ++ t ∷ []) c.in-Take.is in
    let weight = weight-push c.args.ast.now c.pop.new.self.items c.loop-task.reader.tasks.items (Take c.in-Take.step) popped in
    omega (arith, weight)

pub loop-task-preserved-in_ok-push-in-Take : goal.loop-task-preserved-in_ok-push-in-Take
loop-task-preserved-in_ok-push-in-Take c =
    let popped = c.in-Some.ensures.items ∙ ap (λ t. c.pop.new.self.items ++ t ∷ []) c.in-Take.is in
    taken c.args.text.now c.args.tokens.now c.args.ast.now c.in-Take.step c.loop-task.reader.steps c.push.new.self c.loop-task.reader.callees c.loop-task.reader.tasks.items c.pop.new.self.items popped c.in_ok-push-in-Take.ensures.ok
    ∙ c.loop-task.invariant

pub returns-then-not-branch : goal.returns-then-not-branch
returns-then-not-branch c =
    let popped = c.in-Some.ensures.items ∙ ap (λ t. c.pop.new.self.items ++ t ∷ []) c.in-Children.is in
    let none = rw c.if-not-branch.true at c.in_ok-read_next-in-Children.ensures.begins in
    sym c.loop-task.invariant
    ∙ not-begun c.args.text.now c.args.tokens.now c.args.ast.now (Children c.in-Children.n c.in-Children.k) (done c.loop-task.reader) c.loop-task.reader.tasks.items c.pop.new.self.items popped none

pub loop-task-smaller : goal.loop-task-smaller
loop-task-smaller c =
    let popped = c.in-Some.ensures.items ∙ ap (λ t. c.pop.new.self.items ++ t ∷ []) c.in-Children.is in
    let weight = weight-push c.args.ast.now c.pop.new.self.items c.loop-task.reader.tasks.items (Children c.in-Children.n c.in-Children.k) popped in
    omega (arith, weight, c.in_ok-read_next-in-Children.ensures.weight)

pub loop-task-preserved : goal.loop-task-preserved
loop-task-preserved c =
    let popped = c.in-Some.ensures.items ∙ ap (λ t. c.pop.new.self.items ++ t ∷ []) c.in-Children.is in
    let next = rw c.if-not-branch.false at c.in_ok-read_next-in-Children.ensures.begins in
    next
    ∙ begun c.args.text.now c.args.tokens.now c.args.ast.now (Children c.in-Children.n c.in-Children.k) (done c.loop-task.reader) c.loop-task.reader.tasks.items c.pop.new.self.items popped
    ∙ c.loop-task.invariant
