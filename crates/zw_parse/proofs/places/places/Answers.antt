use Rattle.zw_parse.proofs.PlaceLemmas.{Kept, column_fits, one_on}
use Rattle.zw_parse.proofs.places.places.Goals as goal

pub moved-place-requires-clause-column : goal.moved-place-requires-clause-column
moved-place-requires-clause-column c = column_fits c.args.file c.args.text.now c.loop-token.at _ c.loop-token.place c.loop-token.invariant.place c.loop-token.invariant.within c.requires.short

pub loop-token-preserved : goal.loop-token-preserved
loop-token-preserved c =
    let i = c.loop-token.invariant in
    let k : Kept c.args.file c.args.text.now c.args.tokens.now c.loop-token.token-index c.loop-token.at c.loop-token.place c.loop-token.list.items = record { within = i.within; ahead = i.ahead; place_is = i.place; list_is = i.list } in
    let n = one_on _ _ _ _ _ _ _ _ _ _ c.requires.within c.requires.apart c.loop-token-test.true k c.moved-place.ensures c.in_ok-push.ensures.items in
    record { within = n.within; ahead = n.ahead; place = n.place_is; list = n.list_is }
