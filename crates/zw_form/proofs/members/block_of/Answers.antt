use Rattle.std.proofs.Common.{sym, ◌∙◌}
use Rattle.zw_form.proofs.MemberLemmas.{no-block, block-is}
use Rattle.zw_form.proofs.members.block_of.Goals as goal

pub returns-in_default : goal.returns-in_default
returns-in_default c =
    no-block c.args.ast.now c.args.member c.children.result.now c.in_ok-last.field-0.now c.children.ensures c.in_ok-last.ensures.value (λ is. c.in_default.not-Block (c.role.ensures ∙ is))

pub returns : goal.returns
returns c =
    block-is c.args.ast.now c.args.member c.children.result.now c.in_ok-last.field-0.now c.children.ensures c.in_ok-last.ensures.value (sym c.role.ensures ∙ c.in-Block.is)
