use Rattle.zw_drive.specs.Due.{IsBuildDue}
use Rattle.zw_drive.proofs.BuildLemmas.{builds_text, text_fits, tree_ungathered}
use Rattle.zw_drive.proofs.build.build.Goals as goal

pub build_text-requires : goal.build_text-requires
build_text-requires g c =
    text_fits c.args.root.now (g.T.Tree.loaded c.args.tree.now) (g.T.Tree.loaded c.gather.new.tree) c.in-Ok.files c.root_text.result.now c.in-Ok.ensures.gathers c.root_text.ensures

pub returns-in-Ok-clause-ends : goal.returns-in-Ok-clause-ends
returns-in-Ok-clause-ends g c =
    builds_text c.args.root.now (g.T.Tree.loaded c.args.tree.now) (g.T.Tree.loaded c.gather.new.tree) c.in-Ok.files c.root_text.result.now c.in-Ok.ensures.gathers c.root_text.ensures
    (g.O.Sink.taken c.args.out.now) (g.O.Sink.taken c.build_text.new.out) c.build_text.result c.build_text.ensures.ends

pub returns-in-Err-clause-ends : goal.returns-in-Err-clause-ends
returns-in-Err-clause-ends g c =
    rw c.ungathered.ensures
    (tree_ungathered IsBuildDue c.args.root.now (g.T.Tree.loaded c.args.tree.now) (g.T.Tree.loaded c.gather.new.tree) (g.O.Sink.taken c.args.out.now) c.in-Err.e c.in-Err.ensures.gathers)
