-- Each example computes.
use Rattle.std.proofs.Common.{◌≡◌, false, Some, refl, arith, inl, inr}
use Rattle.zw_values.specs.ObjectStore.{Object}
use Rattle.zw_values.specs.WorkedStores.{pair, pairs, variable}
use Rattle.zw_values.proofs.laws.stores_are_worked.Goals as goal

pub returns-clause-places : goal.returns-clause-places
returns-clause-places c = record { whole = refl; element = refl; past = refl; payload = refl; no_payload = refl; other_stays = refl; written = refl; undefined = refl; ended = refl; ended_alone = refl; none_there = refl }

writable_is : (object : Object) → Some (variable pairs (pair 7 8)) ≡ Some object → object.writable ≡ false → ⊥
writable_is object e h = cc

pub returns-clause-wild : goal.returns-clause-wild
returns-clause-wild c = record {
  undefined = refl;
  defined = λ e. cc;
  dead = refl;
  live = λ e. cc;
  no_element = omega arith;
  last_element = λ h. omega (arith, h);
  past_end = omega arith;
  at_end = λ h. omega (arith, h);
  constant = inl (_, refl, refl);
  without_size = inr refl;
  of_variable = λ h. elim h [ inl w ↦ writable_is w.0 w.1 w.2 | inr e ↦ omega (arith, e) ];
}
