use Rattle.std.proofs.Common.{refl, ◌+◌, arith}
use Rattle.zw_token.proofs.Groups.{part_of, longest_of_group}
use Rattle.zw_token.proofs.Signs.{sign-lt}
use Rattle.zw_token.proofs.tables.longest_from.Goals as goal

pub returns-in_err-place-clause-none : goal.returns-in_err-place-clause-none
returns-in_err-place-clause-none c =
    rw c.from_residual.ensures
    (longest_of_group _ c.args.rest.now c.args.first 0 c.sign_group-from.result.0 c.sign_group-from.result.1 refl c.requires c.sign_group-from.ensures.from c.sign_group-from.ensures.to c.in_err-place.ensures.none)

pub overflow_add-result : goal.overflow_add-result
overflow_add-result c =
    let small = sign-lt (c.sign_group-from.result.0 + c.in_ok-place.place) _ (part_of _ c.sign_group-from.result.0 _ c.in_ok-place.place _ c.in_ok-place.ensures.found) in omega (arith, small)

pub returns-clause-found : goal.returns-clause-found
returns-clause-found c = part_of _ c.sign_group-from.result.0 _ c.in_ok-place.place _ c.in_ok-place.ensures.found

pub returns-clause-longest : goal.returns-clause-longest
returns-clause-longest c =
    longest_of_group _ c.args.rest.now c.args.first c.in_ok-place.len c.sign_group-from.result.0 c.sign_group-from.result.1 refl c.requires c.sign_group-from.ensures.from c.sign_group-from.ensures.to c.in_ok-place.ensures.longest
