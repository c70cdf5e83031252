use Rattle.std.proofs.Common.{◌≡◌, true, subst}
use Rattle.zw_types.specs.TypeTrees.{TypeTree}
use Rattle.zw_values.specs.Sameness.{is_same}
use Rattle.zw_values.proofs.SameLemmas.{is_same-refl, is_same-true}
use Rattle.zw_values.proofs.laws.same_types_are_equal.Goals as goal

pub returns : goal.returns
returns c = λ a b. (λ h. is_same-true a b h, λ e. subst (λ (x : TypeTree). is_same a x ≡ true) e (is_same-refl a))
