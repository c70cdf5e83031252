use Rattle.std.proofs.Common.{ℕ, ◌+◌, ◌<◌, List, length, drop, get_or, refl, subst, arith}
use Rattle.std.proofs.lemmas.Bool.{false≢true}
use Rattle.zw_form.proofs.ListedLemmas.{Light, drop-item, drop-past, light-none, light-next, light-all, too_heavy}
use Rattle.zw_form.proofs.members.weight_stop.Goals as goal

pub loop-index-init : goal.loop-index-init
loop-index-init c text tokens are all = light-none text tokens c.args.ast.now c.args.members.now c.args.functions.now are all

pub returns-then-not-is_light_at : goal.returns-then-not-is_light_at
returns-then-not-is_light_at c text tokens are all =
    let ns = c.args.members.now in
    let i = c.loop-index.index in
    let within : i < length ns = omega arith in
    too_heavy text tokens c.args.ast.now ns c.args.functions.now (get_or ns i 0) (drop (i + 1) ns) i
    (subst (λ (todo : List ℕ). Light text tokens c.args.ast.now ns c.args.functions.now todo i) (drop-item ns i within) (c.loop-index.invariant text tokens are all))
    all (λ light. false≢true (c.if-not-is_light_at.ensures.1 light)) (c.requires i 0 within) c.stop_at.result c.stop_at.ensures

pub loop-index-preserved : goal.loop-index-preserved
loop-index-preserved c text tokens are all =
    let ns = c.args.members.now in
    let i = c.loop-index.index in
    let within : i < length ns = omega arith in
    light-next text tokens c.args.ast.now ns c.args.functions.now (get_or ns i 0) (drop (i + 1) ns) i
    (subst (λ (todo : List ℕ). Light text tokens c.args.ast.now ns c.args.functions.now todo i) (drop-item ns i within) (c.loop-index.invariant text tokens are all))
    (c.if-not-is_light_at.ensures.0 refl)

pub returns : goal.returns
returns c text tokens are all =
    let ns = c.args.members.now in
    let i = c.loop-index.index in
    light-all text tokens c.args.ast.now ns c.args.functions.now are i
    (subst (λ (todo : List ℕ). Light text tokens c.args.ast.now ns c.args.functions.now todo i) (drop-past ns i (omega arith)) (c.loop-index.invariant text tokens are all))
