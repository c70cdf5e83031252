-- The types that a value mentions are the same in both tables.
use Rattle.std.proofs.Common.{◌<◌, ℕ, length, List, All}
use Rattle.std.proofs.lemmas.Option.{slice_get-get_or, get_or_from_slice_get}
use Rattle.zw_types.specs.TypeTrees as tree
use Rattle.zw_types.specs.Readings.{types_in, types_in_form}
use Rattle.zw_types.specs.Tables.{TypeTable, Keeps}
use Rattle.zw_types.proofs.Each.{Each, Each-weaker, Each-from_All}
use Rattle.zw_types.proofs.Agreement.{Same, value_agrees, form_agrees}
use Rattle.zw_types.proofs.laws.readings_stay.Goals as goal

same : (old new : TypeTable) → Keeps old new → (ks : List ℕ) → All (λ k. k < length old.trees) ks → Each (Same new.trees old.trees) ks
same old new keeps ks known =
    Each-weaker (λ k. k < length old.trees) (Same new.trees old.trees)
    (λ k h. get_or_from_slice_get new.trees k _ tree.VoidType (keeps.trees k _ (slice_get-get_or old.trees k tree.VoidType h)))
    ks (Each-from_All (λ k. k < length old.trees) ks known)

pub returns-clause-values : goal.returns-clause-values
returns-clause-values c = λ old new value keeps known. value_agrees new.trees old.trees value (same old new keeps (types_in value) known)

pub returns-clause-forms : goal.returns-clause-forms
returns-clause-forms c = λ old new form keeps known. form_agrees new.trees old.trees form (same old new keeps (types_in_form form) known)
