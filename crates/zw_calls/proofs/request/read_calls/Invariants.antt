use Rattle.std.proofs.Common.{◌≡◌, ◌++◌, map, drop}
use Rattle.zw_calls.specs.Requests.{call_of, calls_of}
use Rattle.zw_calls.proofs.request.read_calls.Given as goal

-- the calls so far, and those that the other words make
abbrev pub invariant-loop-at : goal.invariant-loop-at
invariant-loop-at l = map call_of l.calls.items ++ calls_of (drop l.at l.words) ≡ calls_of l.words
