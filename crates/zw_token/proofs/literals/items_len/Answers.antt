use Rattle.std.proofs.Common.{◌≡◌, ◌≤◌, Some, length, drop, sym, ap, ◌∙◌, arith, length-drop}
use Rattle.std.proofs.lemmas.List.{take_rest, drop-drop}
use Rattle.zw_token.specs.Literals.{item_len, items_len}
use Rattle.zw_token.proofs.Items.{items_len_more}
use Rattle.zw_token.proofs.literals.items_len.Goals as goal

pub loop-len-preserved : goal.loop-len-preserved
loop-len-preserved c =
    let at = c.loop-len.at in
    let len = c.in-Some.len in
    let all = c.args.rest.now in
    let rest = take_rest all at in
    let is_item : item_len c.args.quote (drop at all) ≡ Some len = sym (c.in-Some.ensures.value ∙ ap (item_len c.args.quote) rest) in
    let fits : len ≤ length (drop at all) = omega (arith, c.in-Some.ensures.within.1, ap length rest) in
    let more = items_len_more c.args.quote (drop at all) len is_item c.in-Some.ensures.within.0 fits in
    let behind = ap (items_len c.args.quote) (drop-drop len at all) in
    record {
      within = omega (arith, fits, length-drop at all, c.loop-len.invariant.within);
      counted = omega (arith, more, behind, c.loop-len.invariant.counted);
    }
