use Rattle.std.proofs.Common.{◌*ℤ◌, ℤ, FitsSigned, subst, sym}
use Rattle.std.specs.Int.{w128}
use Rattle.zw_num.proofs.ExactLemmas.{exact_far}
use Rattle.zw_num.proofs.WrappedLemmas.{product_kept}
use Rattle.zw_num.proofs.exact.mul.Goals as goal

pub returns-in-None : goal.returns-in-None
returns-in-None c =
    let same = product_kept c.args.a c.args.b c.ranges.a.sfits c.ranges.b.sfits in
    let far = λ (fits : FitsSigned w128 (c.args.a *ℤ c.args.b)). c.in-None.ensures (subst (λ (x : ℤ). FitsSigned w128 x) (sym same) fits) in
    sym (exact_far c.args.ty c.requires.is_type (c.args.a *ℤ c.args.b) far)
