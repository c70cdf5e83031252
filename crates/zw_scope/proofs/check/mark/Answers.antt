use Rattle.std.proofs.Common.{Option, ℕ, ◌++◌, ap, length, true, sym, subst, arith}
use Rattle.std.specs.Prelude.{slice_set}
use Rattle.std.specs.Option.{option_to_list}
use Rattle.zw_scope.specs.Telling.{AreMarks}
use Rattle.zw_scope.proofs.MarkLemmas.{marked, unmarked}
use Rattle.zw_scope.proofs.check.mark.Goals as goal

pub returns-then-at-as_slice : goal.returns-then-at-as_slice
returns-then-at-as_slice c = λ file nodes are.
    let size = ap length c.as_slice.ensures.value in
    subst (λ (o : Option ℕ). AreMarks file (slice_set c.args.marks.now.items c.in-Some.node true) (nodes ++ option_to_list o)) (sym c.in-Some.is)
    (marked file c.args.marks.now.items nodes c.in-Some.node are (omega (arith, size)))

pub returns-else-at-as_slice : goal.returns-else-at-as_slice
returns-else-at-as_slice c = λ file nodes are.
    let size = ap length c.as_slice.ensures.value in
    subst (λ (o : Option ℕ). AreMarks file c.args.marks.now.items (nodes ++ option_to_list o)) (sym c.in-Some.is)
    (unmarked file c.args.marks.now.items nodes c.in-Some.node are (omega (arith, size)))
