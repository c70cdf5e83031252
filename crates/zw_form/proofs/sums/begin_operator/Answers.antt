use Rattle.std.proofs.Common.{List, Option, ap, ◌∙◌, subst, arith}
use Rattle.std.specs.Option.{option_map, option_and_then}
use Rattle.zw_tree.specs.Numbering.{from, inside_first, siblings}
use Rattle.zw_tree.specs.Trees.{Forest}
use Rattle.zw_tree.specs.declared.ast.Entry.{Entry}
use Rattle.zw_form.specs.Nodes.{operated}
use Rattle.zw_form.specs.Trees.{Sums}
use Rattle.zw_form.specs.Work.{AreOperands, sum_work}
use Rattle.zw_form.proofs.WorkLemmas.{operator-begun, sums-siblings, no-operands, weight-push}
use Rattle.zw_form.proofs.sums.begin_operator.Goals as goal

pub returns-then-not-are_operands-clause-begins : goal.returns-then-not-are_operands-clause-begins
returns-then-not-are_operands-clause-begins c = λ text tokens.
    let f = inside_first (from c.args.ast.now c.args.n) in
    ap (λ (s : Option Sums). option_map sum_work (option_and_then (operated c.args.operator) s)) (sums-siblings text tokens f)
    ∙ ap (option_map sum_work) (no-operands text tokens c.args.operator (siblings f) (subst (λ (ts : List (Forest Entry)). AreOperands ts → ⊥) c.children.ensures c.if-not-are_operands.ensures))

pub returns-clause-begins : goal.returns-clause-begins
returns-clause-begins c = λ text tokens.
    let old = c.args.reader.now in
    operator-begun text tokens c.args.ast.now c.args.n c.args.operator (subst AreOperands c.children.ensures c.if-not-are_operands.ensures)
    old.steps old.callees old.tasks.items c.push.new.self.items c.push-2.new.self.items c.in_ok-push.ensures.items c.in_ok-push-2.ensures.items

pub returns-clause-weight : goal.returns-clause-weight
returns-clause-weight c =
    let first = weight-push c.args.ast.now c.args.reader.now.tasks.items c.push.new.self.items _ c.in_ok-push.ensures.items in
    let second = weight-push c.args.ast.now c.push.new.self.items c.push-2.new.self.items _ c.in_ok-push-2.ensures.items in
    omega (arith, first, second)
