use Rattle.std.proofs.Common.{◌≡◌, take}
use Rattle.zw_files.specs.Gathering.{names_in}
use Rattle.zw_files.proofs.gathering.words.Given as goal

abbrev pub invariant-loop-number : goal.invariant-loop-number
invariant-loop-number l = l.words ≡ take l.number (names_in l.paths)
