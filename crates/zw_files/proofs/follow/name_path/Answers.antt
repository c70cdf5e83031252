use Rattle.std.proofs.Common.{[]}
use Rattle.zw_files.proofs.FollowLemmas.{named-old, not-found}
use Rattle.zw_files.proofs.follow.name_path.Goals as goal

pub returns-in-Some-clause-named : goal.returns-in-Some-clause-named
returns-in-Some-clause-named c =
    named-old c.args.paths.now.entries [] c.args.place c.args.path.items c.in-Some.number (rw c.as_slice.ensures.value at c.in-Some.ensures.index)

pub add_path-requires-clause-is_new : goal.add_path-requires-clause-is_new
add_path-requires-clause-is_new c = not-found c.args.path.items c.args.paths.now.entries (rw c.as_slice.ensures.value at c.in-None.ensures.index)
