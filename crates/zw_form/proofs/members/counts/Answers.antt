use Rattle.std.proofs.Common.{sym, ◌∙◌}
use Rattle.zw_tree.specs.Numbering.{from}
use Rattle.zw_form.proofs.MemberLemmas.{declared-counts}
use Rattle.zw_form.proofs.members.counts.Goals as goal

pub returns-in-Some : goal.returns-in-Some
returns-in-Some c =
    declared-counts c.args.text.now c.args.tokens.now (from c.args.ast.now c.args.n) (sym c.is_unit.ensures ∙ c.if-is_unit.false) c.in-Some.declaration
    (sym c.in_ok-declaration.ensures ∙ c.in-Some.is) c.name.result.now c.name.ensures c.may_be_function.result c.may_be_function.ensures
