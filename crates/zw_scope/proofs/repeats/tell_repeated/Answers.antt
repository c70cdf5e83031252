use Rattle.std.proofs.Common.{[], ◌∷◌, ◌++◌, List, get_or, append-nil, append_assoc, refl, sym, subst, arith}
use Rattle.zw_tree.specs.Numbering.{from}
use Rattle.zw_scope_sites.specs.Firsts.{text_at}
use Rattle.zw_scope.specs.NameRules.{Violation}
use Rattle.zw_scope.specs.Telling.{IsFirstOf, tells}
use Rattle.zw_scope.proofs.RepeatLemmas.{any-none, repeated-next, repeated-end}
use Rattle.zw_scope.proofs.repeats.tell_repeated.Goals as goal

pub loop-name-init : goal.loop-name-init
loop-name-init c =
    let empty = c.new-seen.ensures.empty in
    ([], [], (λ vs h. subst (λ (ws : List Violation). IsFirstOf c.args.ast.now ws c.args.so_far) (sym (append-nil vs)) h), refl, λ x. sym (any-none x _ empty))

pub loop-name-preserved : goal.loop-name-preserved
loop-name-preserved c =
    let file = c.args.ast.now in
    let i = c.loop-name.name-index in
    let name = get_or c.args.names.now i 0 in
    let inv = c.loop-name.invariant in
    let r = c.in_ok-seen_before.ensures.told inv.0 inv.4 in
    let lt = c.requires i 0 (omega arith) in (
      text_at (from file name) ∷ inv.0,
      inv.1 ++ tells file 11 c.in_ok-seen_before.field-0,
      (λ vs h. subst (λ (ws : List Violation). IsFirstOf file ws c.tell-first.result) (append_assoc vs inv.1 (tells file 11 c.in_ok-seen_before.field-0)) (c.tell-first.ensures (vs ++ inv.1) (inv.2 vs h))),
      repeated-next file c.args.names.now i name (omega arith) refl lt inv.0 _ c.in_ok-seen_before.field-0 r inv.1 inv.3,
      r.passes,
    )

pub returns : goal.returns
returns c = λ vs h.
    let inv = c.loop-name.invariant in
    subst (λ (ws : List Violation). IsFirstOf c.args.ast.now (vs ++ ws) c.loop-name.first) (repeated-end c.args.ast.now c.args.names.now c.loop-name.name-index (omega arith) inv.0 inv.1 inv.3) (inv.2 vs h)
