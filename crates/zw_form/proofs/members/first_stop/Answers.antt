use Rattle.std.proofs.Common.{ℕ, ◌+◌, ◌<◌, List, length, drop, get_or, ap, sym, ◌∙◌, refl, subst, arith}
use Rattle.std.proofs.lemmas.Bool.{false≢true}
use Rattle.zw_tree.specs.Numbering.{below}
use Rattle.zw_tree.specs.Trees.{count}
use Rattle.zw_tree.proofs.Nodes.{count-preorder, last-within}
use Rattle.zw_form.proofs.ListedLemmas.{Passed, drop-item, drop-past, passed-none, passed-next, passed-all, not_built, too_many}
use Rattle.zw_form.proofs.members.first_stop.Goals as goal
use Rattle.zw_form.proofs.members.first_stop.Goals.{in-Some+else-left-nodes, in_default}

pub loop-index-init : goal.loop-index-init
loop-index-init c text tokens are = passed-none text tokens c.args.ast.now c.args.members.now c.args.functions.now are

pub returns-then-not-branch : goal.returns-then-not-branch
returns-then-not-branch c text tokens are =
    let ns = c.args.members.now in
    let i = c.loop-index.index in
    let within : i < length ns = omega arith in
    not_built text tokens c.args.ast.now ns c.args.functions.now (get_or ns i 0) (drop (i + 1) ns) i c.loop-index.left
    (subst (λ (todo : List ℕ). Passed text tokens c.args.ast.now ns c.args.functions.now todo i c.loop-index.left) (drop-item ns i within) (c.loop-index.invariant text tokens are))
    are (λ kept. false≢true (sym c.if-not-branch.true ∙ c.in_ok-keeps.ensures.1 kept)) (c.requires.there i 0 within) c.stop_at.result c.stop_at.ensures

pub stop_at-requires-then-left-nodes : goal.stop_at-requires-then-left-nodes
stop_at-requires-then-left-nodes c =
    omega (arith, last-within c.args.ast.now c.in-Some.block c.in-Some.ensures.0, c.last_below.ensures, c.if-left-nodes.true)

pub returns-then-left-nodes : goal.returns-then-left-nodes
returns-then-left-nodes c text tokens are =
    let ns = c.args.members.now in
    let i = c.loop-index.index in
    let within : i < length ns = omega arith in
    let many : c.loop-index.left < count (below c.args.ast.now c.in-Some.block) = omega (arith, c.last_below.ensures, c.if-left-nodes.true) in
    too_many text tokens c.args.ast.now ns c.args.functions.now (get_or ns i 0) (drop (i + 1) ns) i c.loop-index.left
    (subst (λ (todo : List ℕ). Passed text tokens c.args.ast.now ns c.args.functions.now todo i c.loop-index.left) (drop-item ns i within) (c.loop-index.invariant text tokens are))
    are (c.in_ok-keeps.ensures.0 c.if-not-branch.false) c.in-Some.block c.in-Some.ensures.0 c.in-Some.ensures.1 many (c.in-Some.block + 1 + c.loop-index.left) refl
    c.stop_at-then-left-nodes.result c.stop_at-then-left-nodes.ensures

pub loop-index-preserved : goal.loop-index-preserved
loop-index-preserved c text tokens are =
    let ns = c.args.members.now in
    let i = c.loop-index.index in
    let within : i < length ns = omega arith in
    let p = subst (λ (todo : List ℕ). Passed text tokens c.args.ast.now ns c.args.functions.now todo i c.loop-index.left) (drop-item ns i within) (c.loop-index.invariant text tokens are) in
    let kept = c.in_ok-keeps.ensures.0 c.if-not-branch.false in
    passed-next text tokens c.args.ast.now ns c.args.functions.now (get_or ns i 0) (drop (i + 1) ns) i c.loop-index.left p kept c.match-block_of.left
    (elim c.match-block_of.branch [
      | in-Some+else-left-nodes w ↦
          omega (arith, w.left-is, ap length w.in-Some.ensures.1, count-preorder (below c.args.ast.now w.in-Some.block), w.last_below.ensures, w.if-left-nodes.false)
      | in_default w ↦ omega (arith, w.left-is, ap length w.in_default.ensures)
    ])

pub returns : goal.returns
returns c text tokens are =
    let ns = c.args.members.now in
    let i = c.loop-index.index in
    passed-all text tokens c.args.ast.now ns c.args.functions.now are i c.loop-index.left
    (subst (λ (todo : List ℕ). Passed text tokens c.args.ast.now ns c.args.functions.now todo i c.loop-index.left) (drop-past ns i (omega arith)) (c.loop-index.invariant text tokens are))
