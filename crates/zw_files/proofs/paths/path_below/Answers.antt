use Rattle.std.proofs.Common.{◌++◌, ◌∷◌, [], ap, ◌∙◌, map, arith}
use Rattle.std.proofs.lemmas.List.{length-map}
use Rattle.zw_files.specs.Paths.{root_folder}
use Rattle.zw_files.proofs.PathLemmas.{joined-next, now-at}
use Rattle.zw_files.proofs.paths.path_below.Goals as goal

pub loop-at-preserved : goal.loop-at-preserved
loop-at-preserved c =
    let below = c.args.below.now in
    let item = now-at below c.loop-at.at (record { ref_ptr = (0, 0); now = [] }) in
    joined-next (map (λ segment. segment.now) below) c.loop-at.at (root_folder c.args.root.now) c.loop-at.path.items c.push_segment.new.path.items
    (omega (arith, length-map below (λ segment. segment.now))) c.loop-at.invariant
    (λ e. c.in_ok-push_segment.ensures.first e ∙ ap (λ x. c.loop-at.path.items ++ x) item)
    (λ h. c.in_ok-push_segment.ensures.later h ∙ ap (λ x. c.loop-at.path.items ++ (47 ∷ x)) item)
