use Rattle.std.proofs.Common.{◌≡◌, ℕ, ◌-◌, ◌<◌, ◌++◌, length, get_or, inl, inr, refl, sym, ap, ◌∙◌, arith}
use Rattle.zw_tree.specs.Trees.{Forest, trees}
use Rattle.zw_grammar.specs.Building.{Span, start_of, front, rest}
use Rattle.zw_grammar.specs.Nodes.{nodes}
use Rattle.zw_grammar.proofs.TreeLemmas.{front_all, rest_all, one_tree_more, no_tree_more, front_within}
use Rattle.zw_grammar.proofs.builder.last_trees.Goals as goal
use Rattle.zw_grammar.proofs.builder.last_trees.Goals.{then-least-before+then-before-list, else-least-before}
use Rattle.zw_grammar.specs.declared.builder.Built.{Built}
use Rattle.zw_tree.specs.declared.kind.NodeKind.TheVariants.{Root}

pub loop-init : goal.loop-init
loop-init c = λ older ended e least.
    let all : trees ended ≡ trees ended - 0 = omega arith in (
      ap (λ (f : Forest Span). start_of c.args.next f) (sym (rest_all ended)) ∙ ap (λ (k : ℕ). start_of c.args.next (rest k ended)) all,
      ap length e ∙ (ap (λ (f : Forest Span). length (older ++ nodes f)) (sym (front_all ended)) ∙ ap (λ (k : ℕ). length (older ++ nodes (front k ended))) all),
    )

pub loop-preserved : goal.loop-preserved
loop-preserved c = λ older ended e least.
    let at = c.loop.invariant older ended e least in
    elim c.if-least-before.branch [
      | then-least-before+then-before-list w ↦
          let d : Built = record { kind = Root; first = 0; last = 0; size = 0 } in
          let node : Built = get_or c.args.list.now (c.loop.before - 1) d in
          let more : length older < c.loop.before = omega (arith, w.if-least-before.true) in
          let next = one_tree_more c.args.list.now older ended c.args.next c.loop.counter c.loop.before node d e at.1 more refl in
          (w.first-is ∙ next.0, w.before-is ∙ (w.saturating_sub-before.ensures ∙ next.1))
      | else-least-before w ↦
          let within = front_within (trees ended - c.loop.counter) ended c.args.list.now older e in
          let none_left : length older < c.loop.before → ⊥ = λ more.
          elim w.else-least-before.either [ inl p ↦ let far = p.1 in let long = at.1 in omega arith | inr p ↦ omega (arith, p) ] in
          let next = no_tree_more c.args.list.now older ended c.args.next c.loop.counter c.loop.before c.loop.first e at.1 at.0 none_left in
          (w.first-is ∙ next.0, w.before-is ∙ next.1)
    ]
