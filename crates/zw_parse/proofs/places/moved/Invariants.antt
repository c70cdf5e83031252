use Rattle.std.proofs.Common.{◌≡◌, ℕ, List, ◌+◌, ◌≤◌, ◌++◌, take}
use Rattle.zw_parse.specs.Places.{place_behind}
use Rattle.zw_parse.proofs.places.moved.Given as goal

abbrev pub invariant-loop-byte : goal.invariant-loop-byte
invariant-loop-byte l = record {
  line : l.line ≤ l.from.line + l.byte-index;
  column : l.column ≤ l.from.column + l.byte-index;
  place : (before : List ℕ) → l.from ≡ place_behind l.from.file before → record { file = l.from.file; line = l.line; column = l.column } ≡ place_behind l.from.file (before ++ take l.byte-index l.passed);
}
