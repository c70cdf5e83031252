use Rattle.std.proofs.Common.{◌≤◌, arith}
use Rattle.zw_wasm_read.specs.MemoryArguments.{IsMemoryArgument}
use Rattle.zw_wasm_read.proofs.Exits.{exit}
use Rattle.zw_wasm_read.proofs.InstructionLemmas.{memory_behind}
use Rattle.zw_wasm_read.proofs.instructions.read_store.Goals as goal

pub returns-in_err-at : goal.returns-in_err-at
returns-in_err-at c =
    let lo : 0x28 ≤ c.args.code = omega (arith, c.requires.low) in
    let hi : c.args.code ≤ 0x3E = omega (arith, c.requires.high) in
    exit IsMemoryArgument _ _ _ c.from_residual.ensures.1 c.in_err-at.ensures (λ unfit i rest l. let at = memory_behind _ i _ _ lo hi l in unfit at.0 _ at.1)
