use Rattle.std.proofs.Common.{◌≡◌, ℕ, ◌<◌, Some, length, slice_get}
use Rattle.zw_scope.specs.MembersOf.{Declares}
use Rattle.zw_scope.proofs.members.heads_of.Given as goal

abbrev pub invariant-loop-n : goal.invariant-loop-n
invariant-loop-n l = record {
  sized : length l.heads.items ≡ l.n;
  each : (n : ℕ) → n < l.n → (head : ℕ) × (slice_get l.heads.items n ≡ Some head) × Declares l.ast l.lists n head;
}
