use Rattle.std.proofs.Common.{◌≡◌, ◌+◌, List, [], ◌∷◌, ◌++◌, drop, length, refl, ap, subst, ◌∙◌, rules}
use Rattle.std.specs.Option.{option_to_list}
use Rattle.zw_wasm.specs.declared.module.Instr.{Instr}
use Rattle.zw_wasm.specs.declared.module.Instr.TheVariants as instr
use Rattle.zw_wasm_words.specs.declared.frame.Label.{Label}
use Rattle.zw_wasm_run.specs.Control.{AreArms}
use Rattle.zw_wasm_run.proofs.Stepping.{choice_steps, choice_traps, here_at, label_as}
use Rattle.zw_wasm_run.proofs.begin.choice.Goals as goal

pub returns-in_default-clause-takes : goal.returns-in_default-clause-takes
returns-in_default-clause-takes c m same =
    let old = c.args.stacks.now in
    let is = c.args.instrs.now in
    let at = old.frame.at in
    choice_traps m c.args.ty c.arms_at-arms.result old _
    (subst (λ (x : List Instr). drop at x ≡ instr.If c.args.ty ∷ drop (at + 1) x) same (here_at at is (instr.If c.args.ty) c.requires.here))
    (subst (λ x. AreArms x at c.arms_at-arms.result) same c.arms_at-arms.ensures) (search rules)

pub returns-clause-takes : goal.returns-clause-takes
returns-clause-takes c m same =
    let old = c.args.stacks.now in
    let is = c.args.instrs.now in
    let at = old.frame.at in
    let arms = c.arms_at-arms.result in
    let left = c.pop.new.self.items in
    let words : c.len.result ≡ length left = search rules in
    choice_steps m c.args.ty arms c.in-Some.word left old _
    (subst (λ (x : List Instr). drop at x ≡ instr.If c.args.ty ∷ drop (at + 1) x) same (here_at at is (instr.If c.args.ty) c.requires.here))
    (subst (λ x. AreArms x at arms) same c.arms_at-arms.ensures) (search rules)
    (ap (λ n. record old.frame { at = n }) c.arm-stacks.ensures) refl
    (c.in_ok-push.ensures.items ∙ ap (λ (l : Label). old.labels.items ++ l ∷ []) (label_as c.results.result (length (option_to_list c.args.ty)) arms.follows arms.follows c.len.result (length left) c.results.ensures words)) refl
