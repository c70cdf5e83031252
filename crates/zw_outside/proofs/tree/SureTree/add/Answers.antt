use Rattle.std.proofs.Common.{ap, ◌∙◌}
use Rattle.zw_outside.proofs.FindLemmas.{held_among, held-same, held-other}
use Rattle.zw_outside.proofs.tree.SureTree.add.Goals as goal

pub returns-clause-set : goal.returns-clause-set
returns-clause-set c =
    ap (λ files. held_among files c.args.path.now) c.in_ok-push.ensures.ok
    ∙ held-same c.args.self.now.files c.args.path.now c.args.bytes.now c.in_ok-path.path c.in_ok-bytes.bytes (c.in_ok-path.ensures ∙ c.bytes.ensures) c.in_ok-bytes.ensures

pub returns-clause-others : goal.returns-clause-others
returns-clause-others c = λ other ne.
    ap (λ files. held_among files other) c.in_ok-push.ensures.ok
    ∙ held-other c.args.self.now.files c.args.path.now c.in_ok-path.path c.in_ok-bytes.bytes other (c.in_ok-path.ensures ∙ c.bytes.ensures) ne
