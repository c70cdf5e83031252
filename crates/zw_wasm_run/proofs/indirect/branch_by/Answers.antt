use Rattle.std.proofs.Common.{◌≡◌, ◌%◌, ◌^◌, ◌∷◌, ◌++◌, [], refl, rules}
use Rattle.std.specs.Prelude.{slice_get}
use Rattle.zw_wasm.specs.Reduction.{branched_by, label_or}
use Rattle.zw_wasm_run.proofs.Popping.{behind_operand, branches_by}
use Rattle.zw_wasm_run.proofs.indirect.branch_by.Goals as goal

pub returns-clause-acts : goal.returns-clause-acts
returns-clause-acts c =
    let old = c.args.stacks.now in
    let m = c.args.m.now in
    let labels = c.args.labels.now in
    let w = c.in-Some.word in
    let words : old.words.items ≡ c.pop.new.self.items ++ w ∷ [] = search rules in
    let n : c.label_at-n.result ≡ label_or c.args.default (slice_get labels (w % 2 ^ 32)) = search rules in
    behind_operand m old _ w (branched_by labels c.args.default) c.branch-n.result c.branch-n.new.stacks refl refl refl words (branches_by m labels c.args.default (w % 2 ^ 32) c.label_at-n.result _ c.branch-n.result c.branch-n.new.stacks n (c.branch-n.ensures.acts m c.requires.end))
