use Rattle.std.proofs.Common.{ℕ, ap}
use Rattle.zw_types.specs.declared.value.TypeId.{TypeId}
use Rattle.zw_types.specs.TypeTrees as tree
use Rattle.zw_types.proofs.ListLemmas.{one_place}
use Rattle.zw_types.proofs.laws.one_number.Goals as goal

pub returns : goal.returns
returns c = λ table is a b same.
    ap (λ (k : ℕ). let id : TypeId = record { 0 = k } in id) (one_place table.trees tree.VoidType is.once c.args.a.0 c.args.b.0 a b same)
