use Rattle.std.proofs.Common.{◌≡◌, ℕ, ◌<◌, Option, Some, length, slice_get}
use Rattle.zw_scope.specs.MembersOf.{Names}
use Rattle.zw_scope.proofs.members.named_of.Given as goal

abbrev pub invariant-loop-n : goal.invariant-loop-n
invariant-loop-n l = record {
  sized : length l.list.items ≡ l.n;
  each : (n : ℕ) → n < l.n → (o : Option ℕ) × (slice_get l.list.items n ≡ Some o) × Names l.ast n o;
}
