use Rattle.std.proofs.Common.{sym, ◌∙◌}
use Rattle.zw_tree.specs.Numbering.{from}
use Rattle.zw_form.proofs.FunctionLemmas.{no-type, no-params, signed}
use Rattle.zw_form.proofs.functions.read_signature.Goals as goal

pub returns-in_default-has_number : goal.returns-in_default-has_number
returns-in_default-has_number c =
    no-type (from c.args.ast.now) c.args.nodes.now c.in-Some.nodes.now c.in-Some.last.now c.in-Some.ensures.cases.0 (sym c.in_default-has_number.ensures)

pub returns-in_default-2 : goal.returns-in_default-2
returns-in_default-2 c =
    no-params (from c.args.ast.now) c.args.nodes.now c.in-Some.nodes.now c.in-Some.last.now c.in-Some.ensures.cases.0 (sym c.in_default-2.is ∙ c.in_ok-params.ensures)

pub returns : goal.returns
returns c =
    signed (from c.args.ast.now) c.args.nodes.now c.in-Some.nodes.now c.in-Some.last.now c.in-Some.ensures.cases.0 c.in-Some-2.params c.in-Some-has_number.has_result
    (sym c.in-Some-2.is ∙ c.in_ok-params.ensures) (sym c.in-Some-has_number.ensures)
