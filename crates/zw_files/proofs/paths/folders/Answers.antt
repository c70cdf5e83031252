use Rattle.std.proofs.Common.{◌++◌, ap, ◌∙◌, map}
use Rattle.std.proofs.lemmas.List.{map_push}
use Rattle.zw_files.specs.Paths.{all_but_last, segments}
use Rattle.zw_files.proofs.PathLemmas.{folders-next}
use Rattle.zw_files.proofs.paths.folders.Goals as goal

pub loop-behind-preserved : goal.loop-behind-preserved
loop-behind-preserved c =
    let found = rw c.in-Some.is at c.first_segment.ensures in
    ap (λ names. names ++ all_but_last (segments c.in-Some.behind.now)) (ap (map (λ folder. folder.now)) c.in_ok-push.ensures.items ∙ map_push (λ folder. folder.now) c.loop-behind.folders.items c.first_segment.result.0)
    ∙ folders-next (map (λ folder. folder.now) c.loop-behind.folders.items) c.first_segment.result.0.now c.loop-behind.rest.now c.in-Some.behind.now found.0
    ∙ c.loop-behind.invariant
