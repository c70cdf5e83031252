use Rattle.std.proofs.Common.{[], sym, ap, ◌∙◌, arith, Ok}
use Rattle.zw_files.specs.Gathering.{paths_in}
use Rattle.zw_files.proofs.FollowLemmas.{named-past, named-next, size-of}
use Rattle.zw_files.proofs.follow.add_path.Goals as goal

pub returns-then-number-ge-FILES_LIMIT-clause-named : goal.returns-then-number-ge-FILES_LIMIT-clause-named
returns-then-number-ge-FILES_LIMIT-clause-named c =
    named-past c.args.paths.now.entries [] c.args.place c.args.path.items c.requires.is_new (omega (arith, size-of c.args.paths.now.entries, c.len-number.ensures.len))

pub returns-clause-named : goal.returns-clause-named
returns-clause-named c =
    let size = size-of c.args.paths.now.entries in
    named-next c.args.paths.now.entries c.put.new.paths.entries c.args.place c.args.path.items c.requires.is_new (omega (arith, size, c.len-number.ensures.len)) c.in_ok-put.ensures
    ∙ ap (λ n. Ok (paths_in c.put.new.paths, n)) (sym size ∙ sym c.len-number.ensures.len)
