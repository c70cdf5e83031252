-- The loop ends at the scopes that stay.
use Rattle.std.proofs.Common.{◌≡◌, ℕ, drop, ◌∙◌, ap, arith}
use Rattle.zw_defer.specs.ScopeExit.{left_scopes}
use Rattle.zw_defer.proofs.exits.exit_list.Goals as goal

pub returns : goal.returns
returns c =
    let last : c.loop-place.place ≡ c.args.keep = omega arith in
    c.loop-place.invariant.0 ∙ ap (λ (k : ℕ). left_scopes c.args.error (drop k c.args.scopes.now)) last
