use Rattle.std.proofs.Common.{◌≡◌, ℕ, ◌<◌, ◌≤◌, length, take, Some, slice_get}
use Rattle.zw_token.specs.Tables.{texts}
use Rattle.zw_token.proofs.tables.longest_front.Given as goal

-- the longest of the texts so far, if its length isn't 0
abbrev pub invariant-loop-k : goal.invariant-loop-k
invariant-loop-k l = record {
  within : l.len ≤ length l.rest;
  found : 0 < l.len → slice_get (texts l.table) l.place ≡ Some (take l.len l.rest);
  longest : (j : ℕ) → j < l.k → (m : ℕ) → l.len < m → m ≤ length l.rest → slice_get (texts l.table) j ≡ Some (take m l.rest) → ⊥;
}
