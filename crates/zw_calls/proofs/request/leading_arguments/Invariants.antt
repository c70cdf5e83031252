use Rattle.std.proofs.Common.{◌≡◌, ◌++◌, take, drop}
use Rattle.zw_calls.specs.Requests.{leading_arguments}
use Rattle.zw_calls.proofs.request.leading_arguments.Given as goal

-- the words so far are arguments
abbrev pub invariant-loop-at : goal.invariant-loop-at
invariant-loop-at l = take l.at l.words ++ leading_arguments (drop l.at l.words) ≡ leading_arguments l.words
