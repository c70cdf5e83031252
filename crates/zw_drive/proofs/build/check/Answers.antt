use Rattle.zw_drive.specs.Due.{IsCheckDue}
use Rattle.zw_drive.proofs.BuildLemmas.{checks_text, text_fits, tree_ungathered}
use Rattle.zw_drive.proofs.build.check.Goals as goal

pub check_text-requires : goal.check_text-requires
check_text-requires g c =
    text_fits c.args.root.now (g.T.Tree.loaded c.args.tree.now) (g.T.Tree.loaded c.gather.new.tree) c.in-Ok.files c.root_text.result.now c.in-Ok.ensures.gathers c.root_text.ensures

pub returns-in-Ok-clause-ends : goal.returns-in-Ok-clause-ends
returns-in-Ok-clause-ends g c =
    checks_text c.args.root.now (g.T.Tree.loaded c.args.tree.now) (g.T.Tree.loaded c.gather.new.tree) c.in-Ok.files c.root_text.result.now c.in-Ok.ensures.gathers c.root_text.ensures
    c.check_text.result c.check_text.ensures

pub returns-in-Err-clause-ends : goal.returns-in-Err-clause-ends
returns-in-Err-clause-ends g c =
    λ taken.
    rw c.ungathered.ensures
    (tree_ungathered IsCheckDue c.args.root.now (g.T.Tree.loaded c.args.tree.now) (g.T.Tree.loaded c.gather.new.tree) taken c.in-Err.e c.in-Err.ensures.gathers)
