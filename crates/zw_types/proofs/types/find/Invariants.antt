-- No entry before this one has the form.
use Rattle.std.proofs.Common.{◌≡◌, ℕ, ◌<◌, get_or}
use Rattle.zw_types.specs.declared.types.Entry.{Entry}
use Rattle.zw_types.proofs.types.find.Given as goal

abbrev pub invariant-loop-number : goal.invariant-loop-number
invariant-loop-number l = (k : ℕ) (d : Entry) → k < l.number → (get_or l.entries k d).form ≡ l.form → ⊥
