-- The peer of the types so far and of those that are left is the peer of all.
use Rattle.std.proofs.Common.{◌≡◌, ◌<◌, length, map, drop}
use Rattle.zw_types.specs.Readings.{type_at}
use Rattle.zw_values.specs.Coercions.{peer_of_all}
use Rattle.zw_coerce.specs.Answers.{peer_in}
use Rattle.zw_coerce.proofs.peers.peer.Given as goal

abbrev pub invariant-loop-i : goal.invariant-loop-i
invariant-loop-i l = (l.chosen.0 < length l.types.trees) × (peer_of_all (type_at l.types.trees l.chosen) (map (type_at l.types.trees) (drop l.i l.of)) ≡ peer_in l.types.trees l.of) × (l.types ≡ l.initial.types)
