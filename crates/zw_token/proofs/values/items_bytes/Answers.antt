use Rattle.std.proofs.Common.{◌≡◌, ◌++◌, ◌+◌, ◌≤◌, Some, length, drop, sym, ap, ◌∙◌, arith, append_assoc, length-drop}
use Rattle.std.proofs.lemmas.List.{take_rest, drop-drop}
use Rattle.zw_token.specs.Literals.{item_len, item_at, items_bytes}
use Rattle.zw_token.proofs.Items.{items_bytes_more}
use Rattle.zw_token.proofs.values.items_bytes.Goals as goal

pub loop-len-preserved : goal.loop-len-preserved
loop-len-preserved c =
    let at = c.loop-len.at in
    let len = c.in-Some.len in
    let all = c.args.rest.now in
    let rest = take_rest all at in
    let is_item : item_len 34 (drop at all) ≡ Some len = sym (c.in-Some.ensures.value ∙ ap (item_len 34) rest) in
    let fits : len ≤ length (drop at all) = omega (arith, c.in-Some.ensures.within.1, ap length rest) in
    let more = items_bytes_more 34 (drop at all) len is_item c.in-Some.ensures.within.0 fits in
    let behind = ap (items_bytes 34) (drop-drop len at all) in
    let front = c.loop-len.bytes.items in
    let left = items_bytes 34 (drop (at + len) all) in
    let pushed = c.in_ok-push_item.ensures ∙ ap (λ r. front ++ (item_at len r).stands_for) rest in
    record {
      within = omega (arith, fits, length-drop at all, c.loop-len.invariant.within);
      so_far = ap (λ x. x ++ left) pushed ∙ append_assoc front (item_at len (drop at all)).stands_for left ∙ ap (λ y. front ++ y) (ap (λ z. (item_at len (drop at all)).stands_for ++ z) (sym behind) ∙ sym more) ∙ c.loop-len.invariant.so_far;
    }
