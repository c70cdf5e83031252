use Rattle.std.proofs.Common.{◌≡◌, ◌++◌, take, drop}
use Rattle.zw_calls.specs.Requests.{before_steps, from_steps}
use Rattle.zw_calls.proofs.request.split_steps.Given as goal

-- the words so far stand before the first `--steps`
abbrev pub invariant-loop-at : goal.invariant-loop-at
invariant-loop-at l = record {
  before : take l.at l.words ++ before_steps (drop l.at l.words) ≡ before_steps l.words;
  from : from_steps (drop l.at l.words) ≡ from_steps l.words;
}
