use Rattle.std.proofs.Common.{[], ◌∙◌, sym, ap}
use Rattle.zw_scope.specs.NameRules.{repeated, names_once}
use Rattle.zw_scope_sites.specs.Firsts.{kind_at}
use Rattle.zw_tree.specs.Numbering.{inside_first}
use Rattle.zw_scope.proofs.CheckLemmas.{six-more}
use Rattle.zw_scope.proofs.ReadLemmas.{read-is, no-site}
use Rattle.zw_scope.proofs.check.check_node.Goals as goal

pub returns-in_default : goal.returns-in_default
returns-in_default c = λ nodes s vs are got h. absurd (no-site c.args.ast.now c.args.sites.now.lists c.args.sites.now.list.items c.requires.placed c.args.n s got (sym c.site_at.ensures ∙ c.in_default.is))

pub returns : goal.returns
returns c = λ nodes s vs are got h.
    let read = read-is c.args.ast.now c.args.sites.now.lists c.args.sites.now.list.items c.requires.placed c.args.n s got c.in-Some.site (sym c.site_at.ensures ∙ c.in-Some.is) in
    six-more c.args.ast.now c.tell.result vs _ _ _ _ _ _ _ _ _ _ _ _
    (c.shadow_at.ensures.told s read) (c.unknown_at.ensures.told s read) (c.unused_at.ensures.told nodes s are read)
    (sym (ap (λ f. repeated [] (names_once (kind_at f) (inside_first f))) read.here))
    (c.label_at.ensures.told s read) (c.flow_at.ensures.told s read)
    (c.tell.ensures _ (c.tell-labels.ensures _ (c.in_ok-duplicates.ensures _ (c.tell-unused.ensures _ (c.tell-unknowns.ensures _ (c.tell-shadows.ensures vs h))))))
