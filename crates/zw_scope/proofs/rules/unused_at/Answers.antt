use Rattle.std.proofs.Common.{◌∙◌, sym}
use Rattle.zw_scope.proofs.RuleLemmas.{unused-marked, unused-told}
use Rattle.zw_scope.proofs.rules.unused_at.Goals as goal

pub returns-then-is_marked-clause-told : goal.returns-then-is_marked-clause-told
returns-then-is_marked-clause-told c = λ nodes s are read.
    unused-marked c.args.ast.now c.args.lists.now c.args.site c.args.n s read nodes c.args.marks.now are c.requires c.in_ok-name.name c.in_ok-name.ensures.0 c.in_ok-name.ensures.1 c.text.result.now c.text.ensures
    (sym (c.is_to_be_mentioned.ensures c.args.lists.now s read) ∙ c.if-not-is_to_be_mentioned.false) c.is_repeated.result c.is_marked.result (c.is_repeated.ensures s read) c.is_marked.ensures c.if-is_repeated.false c.if-is_marked.true

pub returns-clause-told : goal.returns-clause-told
returns-clause-told c = λ nodes s are read.
    unused-told c.args.ast.now c.args.lists.now c.args.site c.args.n s read nodes c.args.marks.now are c.requires c.in_ok-name.name c.in_ok-name.ensures.0 c.in_ok-name.ensures.1 c.text.result.now c.text.ensures
    (sym (c.is_to_be_mentioned.ensures c.args.lists.now s read) ∙ c.if-not-is_to_be_mentioned.false) c.is_repeated.result c.is_marked.result (c.is_repeated.ensures s read) c.is_marked.ensures c.if-is_repeated.false c.if-is_marked.false
