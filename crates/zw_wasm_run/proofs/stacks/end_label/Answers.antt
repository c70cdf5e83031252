use Rattle.std.proofs.Common.{◌≡◌, ◌+◌, ◌∷◌, ◌++◌, [], length, refl, arith, rules}
use Rattle.zw_wasm_run.proofs.Stepping.{ends_label}
use Rattle.zw_wasm_run.proofs.stacks.end_label.Goals as goal

pub returns-in-Some-clause-ends : goal.returns-in-Some-clause-ends
returns-in-Some-clause-ends c m =
    let old = c.args.stacks.now in
    let left = c.pop.new.self.items in
    let parts : old.labels.items ≡ left ++ c.in-Some.label ∷ [] = search rules in
    let count : length old.labels.items ≡ length left + 1 = search rules in
    ends_label m c.in-Some.label old _ (omega (arith, count, c.requires.own)) parts refl refl refl
