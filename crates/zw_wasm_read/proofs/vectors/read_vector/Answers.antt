use Rattle.std.proofs.Common.{arith, length-append}
use Rattle.zw_wasm.specs.ModuleBytes.{IsU32}
use Rattle.zw_wasm_read.proofs.Exits.{exit}
use Rattle.zw_wasm_read.proofs.Leaving.{turn}
use Rattle.zw_wasm_read.proofs.VectorLemmas.{one_more, vector_unfit, whole_vector}
use Rattle.zw_wasm_read.proofs.vectors.read_vector.Goals as goal

pub returns-in_err-count : goal.returns-in_err-count
returns-in_err-count g c = exit IsU32 _ _ _ c.from_residual.ensures.1 c.in_err-count.ensures (λ unfit xs rest l. unfit _ _ (turn l).first)

pub returns-in_err-item : goal.returns-in_err-item
returns-in_err-item g c =
    exit g.T.Decode.spells _ _ _ c.from_residual-in_err-item.ensures.1 c.in_err-item.ensures.reads
    (vector_unfit g.T.Decode.spells c.in_err-item.ensures.sure _ _ _ _ _ c.in_ok-count.ensures c.loop-alloc.invariant.so_far (omega arith))

pub loop-alloc-preserved : goal.loop-alloc-preserved
loop-alloc-preserved g c = record {
  so_far = rw c.in_ok-push.ensures.ok (one_more g.T.Decode.spells _ _ _ _ _ c.loop-alloc.invariant.so_far c.in_ok-item.ensures.reads);
  few = rw (c.in_ok-push.ensures.ok, length-append) (omega arith);
}

pub returns : goal.returns
returns g c = whole_vector g.T.Decode.spells _ _ _ _ _ c.in_ok-count.ensures c.loop-alloc.invariant.so_far c.loop-alloc.invariant.few (omega arith)
