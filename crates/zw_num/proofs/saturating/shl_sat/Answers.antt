use Rattle.std.proofs.Common.{◌*ℤ◌, ◌≤ℤ◌, ◌<ℤ◌, ℤ, pos, FitsSigned, sym, subst, ◌∙◌, arith}
use Rattle.std.proofs.lemmas.Int.{ints}
use Rattle.std.specs.Int.{w128}
use Rattle.zw_num.specs.Arithmetic.{power}
use Rattle.zw_num.proofs.ExactLemmas.{low_end, high_end}
use Rattle.zw_num.proofs.ShiftLemmas.{shift_read_back, below_zero, from_zero}
use Rattle.zw_num.proofs.WrappedLemmas.{read_back}
use Rattle.zw_num.proofs.saturating.shl_sat.Goals as goal

pub returns-in-None : goal.returns-in-None
returns-in-None c =
    let same = shift_read_back c.args.a c.args.b c.ranges.a.sfits c.ranges.b.sfits in
    let far = λ (fits : FitsSigned w128 (c.args.a *ℤ power c.args.b)). c.in-None.ensures (subst (λ (x : ℤ). FitsSigned w128 x) (sym same) fits) in
    let negative : c.args.a <ℤ pos 0 = omega (arith, ints) in
    read_back c.least.result c.least.type_inv ∙ c.least.ensures
    ∙ low_end c.args.ty c.requires.is_type (c.args.a *ℤ power c.args.b) (below_zero c.args.a c.args.b negative) far

pub returns-in-None-2 : goal.returns-in-None-2
returns-in-None-2 c =
    let same = shift_read_back c.args.a c.args.b c.ranges.a.sfits c.ranges.b.sfits in
    let far = λ (fits : FitsSigned w128 (c.args.a *ℤ power c.args.b)). c.in-None.ensures (subst (λ (x : ℤ). FitsSigned w128 x) (sym same) fits) in
    let positive : pos 0 ≤ℤ c.args.a = omega (arith, ints) in
    read_back c.greatest.result c.greatest.type_inv ∙ c.greatest.ensures
    ∙ high_end c.args.ty c.requires.is_type (c.args.a *ℤ power c.args.b) (from_zero c.args.a c.args.b positive) far
