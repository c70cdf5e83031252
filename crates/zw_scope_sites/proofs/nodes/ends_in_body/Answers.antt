use Rattle.std.proofs.Common.{◌∙◌, not, sym, ap}
use Rattle.zw_scope_sites.specs.Scopes.{is_block}
use Rattle.zw_scope_sites.proofs.SayLemmas.{body-last, ends-short, no-body}
use Rattle.zw_scope_sites.proofs.nodes.ends_in_body.Goals as goal

pub returns-in_default : goal.returns-in_default
returns-in_default c = ends-short c.args.ast.now c.args.n c.children.result.now c.children.ensures c.in_default.len_below

pub returns-then-not-is_before_result : goal.returns-then-not-is_before_result
returns-then-not-is_before_result c =
    c.is_block.ensures ∙ ap is_block c.kind-then-not-is_before_result.ensures
    ∙ body-last c.args.ast.now c.args.n c.children.result.now c.children.ensures c.in-len2-up.len_at_least c.kind.result c.kind.ensures (sym c.is_before_result.ensures ∙ c.if-not-is_before_result.true)

pub returns-else-not-is_before_result : goal.returns-else-not-is_before_result
returns-else-not-is_before_result c =
    ap not c.if-not-is_before_result.false
    ∙ no-body c.args.ast.now c.args.n c.children.result.now c.children.ensures c.in-len2-up.len_at_least c.kind.result c.kind.ensures (sym c.is_before_result.ensures ∙ c.if-not-is_before_result.false)
