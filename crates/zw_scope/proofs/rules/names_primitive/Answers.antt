use Rattle.std.proofs.Common.{◌∙◌, sym, ap}
use Rattle.zw_scope_sites.specs.Scopes.{is_unquoted}
use Rattle.zw_token.specs.Names.{is_primitive}
use Rattle.zw_scope.proofs.RuleLemmas.{primitive-read, both-true, both-false}
use Rattle.zw_tree.specs.Numbering.{from}
use Rattle.zw_scope_sites.specs.Firsts.{kind_at, text_at}
use Rattle.zw_scope.proofs.rules.names_primitive.Goals as goal

pub returns-then-is_unquoted : goal.returns-then-is_unquoted
returns-then-is_unquoted c = λ entry at.
    let f = from c.args.ast.now c.args.n in
    c.is_primitive_name.ensures ∙ ap is_primitive c.text.ensures ∙ both-true (is_unquoted (kind_at f)) (is_primitive (text_at f)) (sym (c.is_unquoted.ensures ∙ ap is_unquoted c.kind.ensures) ∙ c.if-is_unquoted.true) ∙ sym (primitive-read f entry at)

pub returns-else-is_unquoted : goal.returns-else-is_unquoted
returns-else-is_unquoted c = λ entry at.
    let f = from c.args.ast.now c.args.n in
    c.is_unquoted.ensures ∙ ap is_unquoted c.kind.ensures ∙ both-false (is_unquoted (kind_at f)) (is_primitive (text_at f)) (sym (c.is_unquoted.ensures ∙ ap is_unquoted c.kind.ensures) ∙ c.if-is_unquoted.false) ∙ sym (primitive-read f entry at)
