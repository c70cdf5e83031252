use Rattle.std.proofs.Common.{◌-◌, ◌≤◌, length}
use Rattle.zw_wasm.specs.ModuleBytes.{EachInTurn}
use Rattle.zw_wasm_read.specs.Reads.{Leaves}
use Rattle.zw_wasm_read.proofs.vectors.read_vector.Given as goal

-- the items so far stand behind the count
abbrev pub invariant-loop-alloc : goal.invariant-loop-alloc
invariant-loop-alloc g l = record {
  so_far : Leaves (EachInTurn g.T.Decode.spells l.items) l.initial.rest l.rest;
  few : length l.items ≤ l.count;
}

abbrev pub decreases-loop-alloc : goal.decreases-loop-alloc
decreases-loop-alloc g l = l.count - length l.items
