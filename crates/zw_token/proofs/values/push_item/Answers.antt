use Rattle.std.proofs.Common.{IsSome, ◌<◌, length, subst, sym}
use Rattle.std.proofs.lemmas.List.{take_rest}
use Rattle.zw_token.specs.Literals.{escape_len}
use Rattle.zw_token.proofs.Escapes.{escape_is_item, escape_some}
use Rattle.zw_token.proofs.values.push_item.Goals as goal

pub push_escape-requires-clause-is_escape : goal.push_escape-requires-clause-is_escape
push_escape-requires-clause-is_escape c = subst (λ r. IsSome (escape_len r)) (sym (take_rest c.args.rest.now 1)) (escape_is_item 34 c.args.rest.now c.args.len c.requires.is_item c.if-rest-eq92.true)

pub push_escape-requires-clause-some : goal.push_escape-requires-clause-some
push_escape-requires-clause-some c = subst (λ r. 0 < length r) (sym (take_rest c.args.rest.now 1)) (escape_some _ (escape_is_item 34 c.args.rest.now c.args.len c.requires.is_item c.if-rest-eq92.true))
