use Rattle.std.proofs.Common.{◌≡◌, ◌≢◌, take, AllPairs}
use Rattle.zw_names.specs.NameSets.{names_in}
use Rattle.zw_form.proofs.names.differ.Given as goal

abbrev pub invariant-loop-name : goal.invariant-loop-name
invariant-loop-name l = record {
  names : names_in l.set ≡ take l.name-index l.names;
  differ : AllPairs (λ x y. x ≢ y) (take l.name-index l.names);
}
