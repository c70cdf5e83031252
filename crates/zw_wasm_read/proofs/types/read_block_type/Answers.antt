use Rattle.zw_wasm.specs.ModuleBytes.{Byte}
use Rattle.zw_wasm_read.proofs.Exits.{exit}
use Rattle.zw_wasm_read.proofs.TypeLemmas.{block-first}
use Rattle.zw_wasm_read.proofs.types.read_block_type.Goals as goal

pub returns-in_err-rest : goal.returns-in_err-rest
returns-in_err-rest c = exit Byte _ _ _ c.from_residual.ensures.1 c.in_err-rest.ensures (λ unfit x rest l. let b = block-first x _ _ l in unfit b.0 _ b.1)
