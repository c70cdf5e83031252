-- Each entry was seen.
use Rattle.std.proofs.Common.{arith}
use Rattle.std.proofs.lemmas.Option.{slice_get_within}
use Rattle.zw_types.proofs.PartLemmas.{entries_closed}
use Rattle.zw_types.proofs.kept.next_known.Goals as goal

pub returns : goal.returns
returns c =
    let es = c.args.entries.now in
    entries_closed es c.requires.entries c.args.kept.now (λ k e is none. c.loop-place.invariant k e (omega (arith, slice_get_within es k e is, c.loop-place-test.false)) is none)
