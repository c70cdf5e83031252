use Rattle.std.proofs.Common.{◌+◌, length}
use Rattle.zw_wasm_run.specs.Rooms.{HoldsFewer, KeepsRoom}
use Rattle.zw_wasm_run.proofs.Ending.{GoesLike}
use Rattle.zw_wasm_run.proofs.settle.settle.Given as goal

abbrev pub invariant-ends : goal.invariant-ends
invariant-ends l = record {
  like : GoesLike l.code l.initial.stacks l.stacks;
  room : KeepsRoom l.initial.stacks l.stacks;
  fewer : HoldsFewer l.initial.stacks l.stacks;
}

abbrev pub decreases-ends : goal.decreases-ends
decreases-ends l = length l.stacks.labels.items + length l.stacks.frames.items
