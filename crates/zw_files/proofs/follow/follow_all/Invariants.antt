use Rattle.std.proofs.Common.{◌≡◌, ◌-◌, ◌≤◌, drop, length, []}
use Rattle.zw_tree.specs.Trees.{preorder}
use Rattle.zw_files.specs.Discovery.{follow_all}
use Rattle.zw_files.specs.Gathering.{names_in, paths_in}
use Rattle.zw_files.specs.Imports.{imports, imports_from}
use Rattle.zw_files.specs.declared.stops.TheConstants.{FILES_LIMIT}
use Rattle.zw_files.proofs.follow.follow_all.Given as goal

abbrev pub invariant-loop-literal : goal.invariant-loop-literal
invariant-loop-literal l = record {
  few : length (names_in l.paths) ≤ FILES_LIMIT;
  same : follow_all l.root l.path (paths_in l.fn.paths) [] (imports l.ast) ≡ follow_all l.root l.path (paths_in l.paths) l.numbers (imports_from (l.literal - 1) (drop (l.literal - 1) (preorder l.ast)));
}
