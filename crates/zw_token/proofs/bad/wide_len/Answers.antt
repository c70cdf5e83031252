use Rattle.std.proofs.Common.{◌≡◌, ◌+◌, get_or, sym, ap, ◌∙◌, arith}
use Rattle.std.specs.Str.{continuation_len}
use Rattle.std.proofs.lemmas.Bool.{false≢true}
use Rattle.std.proofs.lemmas.Str.{IsUtf8-from_is_utf8, is_utf8-from_IsUtf8}
use Rattle.zw_token.proofs.CodePoints.{wide_none}
use Rattle.zw_token.proofs.bad.wide_len.Goals as goal
use Rattle.zw_token.proofs.bad.wide_len.Goals.{After-continuation_len-len}

-- the first byte asks for so many
asked : (c : After-continuation_len-len) → 1 + c.continuation_len-len.result ≡ 1 + continuation_len (get_or c.args.rest.now 0 0)
asked c = ap (λ n. 1 + n) (c.continuation_len-len.ensures ∙ ap continuation_len c.requires)

pub returns-then-rest-len-clause-none : goal.returns-then-rest-len-clause-none
returns-then-rest-len-clause-none c =
    wide_none c.args.rest.now (1 + c.continuation_len-len.result) (asked (goal.at.returns-then-rest-len-clause-none c).After-continuation_len-len)
    (λ within utf8. let short = c.if-rest-len.true in omega (arith, short, within))

pub returns-then-is_utf8-clause-some : goal.returns-then-is_utf8-clause-some
returns-then-is_utf8-clause-some c = let within = c.if-rest-len.false in (omega arith, within, IsUtf8-from_is_utf8 _ (sym c.if-is_utf8.ensures))

pub returns-else-is_utf8-clause-none : goal.returns-else-is_utf8-clause-none
returns-else-is_utf8-clause-none c =
    wide_none c.args.rest.now (1 + c.continuation_len-len.result) (asked (goal.at.returns-else-is_utf8-clause-none c).After-continuation_len-len)
    (λ within utf8. false≢true (c.if-is_utf8.ensures ∙ is_utf8-from_IsUtf8 _ utf8))
