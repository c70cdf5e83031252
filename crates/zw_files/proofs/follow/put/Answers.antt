use Rattle.zw_files.proofs.FollowLemmas.{paths-put}
use Rattle.zw_files.proofs.follow.put.Goals as goal

pub returns : goal.returns
returns c = paths-put c.args.paths.now.entries c.insert.new.self.entries c.args.path c.args.place c.in_ok-insert.ensures.entries c.requires
