use Rattle.std.proofs.Common.{◌≡◌, ◌≤◌, IsSome, length, get_or, drop, subst, sym, ◌∙◌, arith}
use Rattle.std.proofs.lemmas.List.{take_rest, drop-drop, get_or-drop}
use Rattle.zw_token.specs.Literals.{escape_len}
use Rattle.zw_token.proofs.Escapes.{escape_is_item, character_item, character_size}
use Rattle.zw_token.proofs.values.char_value.Goals as goal

pub bounds-text-1 : goal.bounds-text-1
bounds-text-1 c = let two = character_size c.args.text.now (length c.args.text.now) c.requires in omega arith

pub escape_number-requires : goal.escape_number-requires
escape_number-requires c =
    let text = c.args.text.now in
    let item = character_item text (length text) c.requires in
    let first : get_or (drop 1 text) 0 0 ≡ 92 = get_or-drop 1 text 0 0 ∙ c.if-text-eq92.true in
    subst (λ r. IsSome (escape_len r)) (drop-drop 1 1 text ∙ sym (take_rest text 2)) (escape_is_item 39 (drop 1 text) item.0 item.1 first)

pub slice_bounds-point_number-count : goal.slice_bounds-point_number-count
slice_bounds-point_number-count c = let two = character_size c.args.text.now (length c.args.text.now) c.requires in omega arith

pub slice_bounds-point_number-start : goal.slice_bounds-point_number-start
slice_bounds-point_number-start c =
    let two : 2 ≤ length c.args.text.now = character_size c.args.text.now (length c.args.text.now) c.requires in
    let one : 1 ≤ length c.args.text.now = omega arith in
    one
