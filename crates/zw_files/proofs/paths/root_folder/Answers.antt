use Rattle.std.proofs.Common.{ap, not, arith}
use Rattle.zw_files.specs.Paths.{is_slash}
use Rattle.zw_files.proofs.PathLemmas.{folder-ends, no-folder}
use Rattle.zw_files.proofs.paths.root_folder.Goals as goal

pub returns-then-root-end-eq47 : goal.returns-then-root-end-eq47
returns-then-root-end-eq47 c =
    folder-ends c.args.root.now c.loop-end.end c.loop-end.invariant.0 c.loop-end.invariant.1 (λ _. ap (λ b. not (is_slash b)) c.if-root-end-eq47.true)

pub returns : goal.returns
returns c = no-folder c.args.root.now (λ k w. c.loop-end.invariant.1 k (omega arith) w)
