use Rattle.std.proofs.Common.{◌∙◌, sym}
use Rattle.zw_tree.specs.Numbering.{from}
use Rattle.zw_scope.proofs.RuleLemmas.{text-named, shadow-local, shadow-declared}
use Rattle.zw_scope.proofs.rules.is_shadow.Goals as goal

pub returns-then-local_hides : goal.returns-then-local_hides
returns-then-local_hides c = λ s entry read named.
    shadow-local s entry c.text.result.now (c.text.ensures ∙ text-named (from c.args.ast.now c.args.name) entry named) (sym (c.names_primitive.ensures entry named) ∙ c.if-names_primitive.false)
    c.local_hides.result c.if-local_hides.true (c.local_hides.ensures s read)

pub returns : goal.returns
returns c = λ s entry read named.
    shadow-declared s entry c.text.result.now c.text-2.result.now (c.text.ensures ∙ text-named (from c.args.ast.now c.args.name) entry named) (c.text-2.ensures ∙ text-named (from c.args.ast.now c.args.name) entry named) (sym (c.names_primitive.ensures entry named) ∙ c.if-names_primitive.false)
    c.local_hides.result c.declaration_hides.result c.if-local_hides.false (c.local_hides.ensures s read) (c.declaration_hides.ensures s read)
