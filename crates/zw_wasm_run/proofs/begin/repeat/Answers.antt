use Rattle.std.proofs.Common.{◌≡◌, ◌+◌, ◌≤◌, List, [], ◌∷◌, ◌++◌, drop, false, length, refl, ap, subst, ◌∙◌, arith, rules}
use Rattle.std.specs.Prelude.{slice_index_or}
use Rattle.zw_wasm.specs.declared.module.Instr.{Instr}
use Rattle.zw_wasm.specs.declared.module.Instr.TheVariants as instr
use Rattle.zw_wasm_words.specs.declared.frame.Label.{Label}
use Rattle.zw_wasm_run.specs.declared.control.SequenceEnd.{SequenceEnd}
use Rattle.zw_wasm_run.specs.Control.{IsEnd}
use Rattle.zw_wasm_run.proofs.AllFrames.{label_place}
use Rattle.zw_wasm_run.proofs.Stepping.{loop_steps, here_at, label_as}
use Rattle.zw_wasm_run.proofs.begin.repeat.Goals as goal

pub returns-clause-takes : goal.returns-clause-takes
returns-clause-takes c m same =
    let old = c.args.stacks.now in
    let is = c.args.instrs.now in
    let at = old.frame.at in
    let none : SequenceEnd = record { next = 0; by_else = false } in
    let e : SequenceEnd = slice_index_or c.args.ends.now (at + 1) none in
    let inside : at + 1 ≤ length is = omega (arith, label_place at is (instr.Loop c.args.ty) c.requires.here) in
    let words : c.len.result ≡ length old.words.items = search rules in
    loop_steps m c.args.ty e old _
    (subst (λ (x : List Instr). drop at x ≡ instr.Loop c.args.ty ∷ drop (at + 1) x) same (here_at at is (instr.Loop c.args.ty) c.requires.here))
    (subst (λ x. IsEnd x (at + 1) e) same (c.requires.ends.each (at + 1) none (omega arith) inside))
    refl refl (c.in_ok-push.ensures.items ∙ ap (λ (l : Label). old.labels.items ++ l ∷ []) (label_as 0 0 at e.next c.len.result (length old.words.items) refl words)) refl
