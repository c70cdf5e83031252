-- Where the types differ and both are integer types, the second row tells.
use Rattle.std.proofs.Common.{◌≡◌, false, sym, ◌∙◌, subst}
use Rattle.std.specs.Option.{option_map, option_copied}
use Rattle.zw_types.specs.TypeTrees.{TypeTree}
use Rattle.zw_types.specs.Readings.{type_at, value_tree}
use Rattle.zw_values.specs.Coercions.{has_no_value}
use Rattle.zw_coerce.proofs.IntegerLemmas.{coercion-known}
use Rattle.zw_coerce.proofs.rows.row.Goals as goal

pub returns-in-Some-Some-2 : goal.returns-in-Some-Some-2
returns-in-Some-Some-2 c =
    let trees = c.args.types.now.trees in
    let valued = subst (λ (t : TypeTree). has_no_value t ≡ false) c.get.ensures.form (sym (c.has_no_value.ensures trees) ∙ c.if-has_no_value.false) in
    c.known_row.ensures trees
    ∙ sym (coercion-known (type_at trees c.args.from) (option_map (value_tree trees) (option_copied c.args.known)) (type_at trees c.args.to)
    c.in-Some-Some.from c.in-Some-Some.to
    (sym c.is_same.ensures ∙ c.if-is_same.false) valued
    (sym c.in-Some-Some.ensures.integers) (sym c.in-Some-Some.ensures'.integers)
    (sym c.has_all.ensures ∙ c.if-has_all.false))
