use Rattle.std.proofs.Common.{◌≡◌, ◌%◌, ◌^◌, ◌∷◌, ◌++◌, [], false, refl, rules}
use Rattle.std.specs.Prelude.{nat_eq}
use Rattle.zw_wasm.specs.Reduction.{branched_unless_zero}
use Rattle.zw_wasm_words.specs.declared.effect.Effect.TheVariants as effect
use Rattle.zw_wasm_run.proofs.Popping.{behind_operand, branches_if, stays_here}
use Rattle.zw_wasm_run.proofs.indirect.branch_if.Goals as goal

pub returns-then-low-eq0-clause-acts : goal.returns-then-low-eq0-clause-acts
returns-then-low-eq0-clause-acts c =
    let old = c.args.stacks.now in
    let n = c.args.n in
    let w = c.in-Some.word in
    let words : old.words.items ≡ c.pop.new.self.items ++ w ∷ [] = search rules in
    let zero : w % 2 ^ 32 ≡ 0 = search rules in
    behind_operand c.args.m.now old _ w (branched_unless_zero n) effect.Goes _ refl refl refl words (stays_here c.args.m.now n (w % 2 ^ 32) _ zero)

pub returns-clause-acts : goal.returns-clause-acts
returns-clause-acts c =
    let old = c.args.stacks.now in
    let m = c.args.m.now in
    let n = c.args.n in
    let w = c.in-Some.word in
    let words : old.words.items ≡ c.pop.new.self.items ++ w ∷ [] = search rules in
    let some : nat_eq (w % 2 ^ 32) 0 ≡ false = search rules in
    behind_operand m old _ w (branched_unless_zero n) c.branch-n.result c.branch-n.new.stacks refl refl refl words (branches_if m n (w % 2 ^ 32) _ c.branch-n.result c.branch-n.new.stacks some (c.branch-n.ensures.acts m c.requires.end))
