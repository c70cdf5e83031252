-- In a table equal types have one number.
use Rattle.std.proofs.Common.{◌≡◌, ℕ, true, slice_index_or, sym, ◌∙◌, subst}
use Rattle.std.proofs.lemmas.Bool.Decides.{eqb_tells}
use Rattle.std.proofs.Common.{inl, inr}
use Rattle.zw_types.specs.TypeTrees as tree
use Rattle.zw_types.specs.Readings.{type_at}
use Rattle.zw_types.proofs.ListLemmas.{one_place}
use Rattle.zw_values.specs.Sameness.{is_same}
use Rattle.zw_values.proofs.SameLemmas.{is_same-refl, is_same-apart}
use Rattle.zw_values.proofs.types.is_same.Goals as goal

pub returns : goal.returns
returns c =
    let trees = c.args.types.now.trees in
    let a = type_at trees c.args.a in
    let b = type_at trees c.args.b in
    elim (eqb_tells c.args.a.0 c.args.b.0) [
      | inl e ↦ e.0 ∙ sym (subst (λ (k : ℕ). is_same a (slice_index_or trees k tree.VoidType) ≡ true) e.1 (is_same-refl a))
      | inr e ↦ e.0 ∙ sym (is_same-apart a b (λ same. e.1 (one_place trees tree.VoidType c.get.ensures.table.once c.args.a.0 c.args.b.0 c.requires.a_held c.requires.b_held same)))
    ]
