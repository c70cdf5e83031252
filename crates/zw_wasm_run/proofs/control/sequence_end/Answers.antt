use Rattle.std.proofs.Common.{◌+◌, ◌∷◌, drop, false, ap, ◌∙◌, arith}
use Rattle.std.proofs.lemmas.List.{drop_more}
use Rattle.zw_wasm_run.proofs.FlatCode.{end-choice, end-plain, is-plain}
use Rattle.zw_wasm_run.proofs.control.sequence_end.Goals as goal

pub returns-in-If : goal.returns-in-If
returns-in-If c =
    let instrs = c.args.instrs.now in
    let rest = drop (c.args.place + 1) instrs in
    let here = drop_more instrs c.args.place _ c.requires.inside ∙ ap (λ i. i ∷ rest) c.in-If.is in
    let behind = c.arms_at.ensures.behind in
    let end = c.requires.behind.each c.arms_at.result.follows (record { next = 0; by_else = false }) (omega arith) c.arms_at.ensures.within in
    end-choice instrs c.args.place c.arms_at.result c.in-If.field-0 _ here c.arms_at.ensures end

pub returns-in_default : goal.returns-in_default
returns-in_default c =
    end-plain c.args.instrs.now c.args.place _ _ (drop_more c.args.instrs.now c.args.place _ c.requires.inside)
    (is-plain _ c.in_default.not-Block c.in_default.not-Loop c.in_default.not-If c.in_default.not-Else c.in_default.not-End)
    (c.requires.behind.each (c.args.place + 1) (record { next = 0; by_else = false }) (omega arith) (omega arith))
