use Rattle.std.proofs.Common.{Some, ◌∙◌}
use Rattle.zw_tree.specs.Numbering.{from}
use Rattle.zw_form.specs.declared.source.Declaration.TheVariants as source
use Rattle.zw_form.proofs.FunctionLemmas.{no-signature, no-number, no-body, exported}
use Rattle.zw_form.proofs.functions.read_export.Goals as goal

pub returns-in_default-2 : goal.returns-in_default-2
returns-in_default-2 c =
    no-signature (from c.args.ast.now) c.args.nodes.now c.in-Some.nodes.now c.in-Some.block.now c.in-Some.ensures.cases.0 c.args.text.now c.args.tokens.now c.args.name.now
    (rw c.in_default-2.is at c.in_ok-params.ensures)

pub returns-then-not-has_result : goal.returns-then-not-has_result
returns-then-not-has_result c =
    let signature = rw c.in-Some-2.is at c.in_ok-params.ensures in
    no-number (from c.args.ast.now) c.args.nodes.now c.in-Some.nodes.now c.in-Some.block.now c.in-Some.ensures.cases.0 c.args.text.now c.args.tokens.now c.args.name.now
    c.in-Some-2.field-0.params c.in-Some-2.field-0.has_result signature c.if-not-has_result.true

pub returns-in_default-3 : goal.returns-in_default-3
returns-in_default-3 c =
    let signature = rw c.in-Some-2.is at c.in_ok-params.ensures in
    no-body (from c.args.ast.now) c.args.nodes.now c.in-Some.nodes.now c.in-Some.block.now c.in-Some.ensures.cases.0 c.args.text.now c.args.tokens.now c.args.name.now
    c.in-Some-2.field-0.params c.in-Some-2.field-0.has_result signature c.if-not-has_result.false (rw c.in_default-3.is at c.in_ok-steps.ensures)

pub returns : goal.returns
returns c =
    let signature = rw c.in-Some-2.is at c.in_ok-params.ensures in
    let body = rw c.in-Some-3.is at c.in_ok-steps.ensures in
    let params = c.in-Some-2.field-0.params in
    let callees = c.in-Some-3.field-0.callees in
    let steps = c.in-Some-3.field-0.steps in
    (λ j. Some (source.Export (record { name = c.in_ok-name.ensures j; params = params; callees = callees; steps = steps })))
    ∙ exported (from c.args.ast.now) c.args.nodes.now c.in-Some.nodes.now c.in-Some.block.now c.in-Some.ensures.cases.0 c.args.text.now c.args.tokens.now c.args.name.now
    params c.in-Some-2.field-0.has_result signature c.if-not-has_result.false steps callees body
