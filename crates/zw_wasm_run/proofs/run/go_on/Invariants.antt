use Rattle.std.proofs.Common.{◌≡◌, ◌≤◌}
use Rattle.zw_wasm_run.specs.Bodies.{body_of}
use Rattle.zw_wasm_run.proofs.Looping.{GoesOn}
use Rattle.zw_wasm_run.proofs.run.go_on.Given as goal

abbrev pub invariant-frames : goal.invariant-frames
invariant-frames l = GoesOn l.code l.fn.store l.fn.stacks l.fn.steps l.store l.stacks l.steps

abbrev pub decreases-frames : goal.decreases-frames
decreases-frames l = l.steps

abbrev pub invariant-steps : goal.invariant-steps
invariant-steps l = record {
  goes : GoesOn l.code l.fn.store l.fn.stacks l.fn.steps l.store l.stacks l.steps;
  own : l.instrs ≡ body_of l.code l.stacks.frame.body;
  fewer : l.steps ≤ l.initial.steps;
}

abbrev pub decreases-steps : goal.decreases-steps
decreases-steps l = l.steps
