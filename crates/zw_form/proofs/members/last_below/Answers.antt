use Rattle.std.proofs.Common.{◌∙◌, length, ◌-◌, slice_get, ap, sym, arith}
use Rattle.zw_tree.proofs.Standing.{last-child, no-child}
use Rattle.zw_form.proofs.members.last_below.Goals as goal

pub loop-last-smaller : goal.loop-last-smaller
loop-last-smaller c =
    let at = c.in-Some.ensures.value ∙ ap (λ xs. slice_get xs (length xs - 1)) c.children.ensures in
    let r = last-child c.args.ast.now c.loop-last.last c.in-Some.child.now c.loop-last.invariant.0 at in
    omega (arith, r.0, r.1, c.loop-last.invariant.0)

pub loop-last-preserved : goal.loop-last-preserved
loop-last-preserved c =
    let at = c.in-Some.ensures.value ∙ ap (λ xs. slice_get xs (length xs - 1)) c.children.ensures in
    let r = last-child c.args.ast.now c.loop-last.last c.in-Some.child.now c.loop-last.invariant.0 at in
    (r.1, r.2 ∙ c.loop-last.invariant.1)

pub returns : goal.returns
returns c =
    let at = c.in_default.ensures.value ∙ ap (λ xs. slice_get xs (length xs - 1)) c.children.ensures in
    sym (no-child c.args.ast.now c.loop-last.last at) ∙ c.loop-last.invariant.1
