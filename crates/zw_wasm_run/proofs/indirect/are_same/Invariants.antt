use Rattle.std.proofs.Common.{◌≡◌, drop}
use Rattle.zw_wasm.specs.Typing.{same_types}
use Rattle.zw_wasm_run.proofs.indirect.are_same.Given as goal

abbrev pub invariant-loop-place : goal.invariant-loop-place
invariant-loop-place l = same_types l.left l.right ≡ same_types (drop l.place l.left) (drop l.place l.right)
