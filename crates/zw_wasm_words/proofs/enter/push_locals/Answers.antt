use Rattle.std.proofs.Common.{ℕ, ◌+◌, ◌<◌, length, arith, rules}
use Rattle.std.specs.Prelude.{vec_capacity}
use Rattle.zw_wasm.specs.declared.module.ValType.{ValType}
use Rattle.zw_wasm.specs.declared.module.ValType.TheVariants.{I32}
use Rattle.zw_wasm_words.specs.Words.{zero_words}
use Rattle.zw_wasm_words.proofs.Wanting.{locals_fit_in}
use Rattle.zw_wasm_words.proofs.enter.push_locals.Goals as goal

pub returns-in_err-push_zeros-clause-wants : goal.returns-in_err-push_zeros-clause-wants
returns-in_err-push_zeros-clause-wants c =
    let old = c.args.stack.now in
    let runs = c.args.runs.now in
    let none : ℕ × ValType = (0, I32) in
    let fit = locals_fit_in old.items c.loop-count.stack.items runs c.loop-count.count-index none c.loop-count-test.true c.loop-count.invariant.items in
    let short : vec_capacity old < length old.items + length (zero_words runs) = omega (arith, fit, c.loop-count.invariant.room, c.in_err-push_zeros.ensures.wants) in
    search rules
