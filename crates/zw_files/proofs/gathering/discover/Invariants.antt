use Rattle.std.proofs.Common.{◌≡◌, ◌-◌, length}
use Rattle.zw_files.specs.Gathering.{IsWithin, Passes, found_in}
use Rattle.zw_files.specs.declared.stops.TheConstants.{FILES_LIMIT}
use Rattle.zw_files.proofs.gathering.discover.Given as goal

abbrev pub invariant-loop-file : goal.invariant-loop-file
invariant-loop-file g l = record {
  passes : Passes l.root (found_in l.fn.files) (g.T.Tree.loaded l.fn.tree) (g.T.Tree.loaded l.tree) (found_in l.files);
  within : IsWithin l.files;
  same : g.T.Tree.faults l.tree ≡ g.T.Tree.faults l.fn.tree;
}

abbrev pub decreases-loop-file : goal.decreases-loop-file
decreases-loop-file g l = FILES_LIMIT - length l.files.asts
