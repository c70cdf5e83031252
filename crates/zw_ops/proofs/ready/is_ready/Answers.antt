use Rattle.std.proofs.Common.{map, sym, subst}
use Rattle.zw_types.specs.Readings.{type_at, value_tree}
use Rattle.zw_ops.specs.Operands.{IsReady}
use Rattle.zw_ops.proofs.ready.is_ready.Goals as goal

pub returns-in-Arithmetic : goal.returns-in-Arithmetic
returns-in-Arithmetic c is =
    let trees = c.args.types.now.trees in
    subst (λ op. IsReady op (map (type_at trees) c.args.from.now) (type_at trees c.args.to) (map (value_tree trees) c.args.args.now))
    (sym c.in-Arithmetic.is) (c.are_two_ready.ensures is)

pub returns-in-Division : goal.returns-in-Division
returns-in-Division c is =
    let trees = c.args.types.now.trees in
    subst (λ op. IsReady op (map (type_at trees) c.args.from.now) (type_at trees c.args.to) (map (value_tree trees) c.args.args.now))
    (sym c.in-Division.is) (c.are_two_ready-in-Division.ensures is)

pub returns-in-Bitwise : goal.returns-in-Bitwise
returns-in-Bitwise c is =
    let trees = c.args.types.now.trees in
    subst (λ op. IsReady op (map (type_at trees) c.args.from.now) (type_at trees c.args.to) (map (value_tree trees) c.args.args.now))
    (sym c.in-Bitwise.is) (c.are_two_ready-in-Bitwise.ensures is)

pub returns-in-Shift : goal.returns-in-Shift
returns-in-Shift c is =
    let trees = c.args.types.now.trees in
    subst (λ op. IsReady op (map (type_at trees) c.args.from.now) (type_at trees c.args.to) (map (value_tree trees) c.args.args.now))
    (sym c.in-Shift.is) (c.is_shift_ready.ensures is (map (type_at trees) c.args.from.now))

pub returns-in-Count : goal.returns-in-Count
returns-in-Count c is =
    let trees = c.args.types.now.trees in
    subst (λ op. IsReady op (map (type_at trees) c.args.from.now) (type_at trees c.args.to) (map (value_tree trees) c.args.args.now))
    (sym c.in-Count.is) (c.is_count_ready.ensures is (type_at trees c.args.to))
