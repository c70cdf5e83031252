use Rattle.std.proofs.Common.{arith, length-append}
use Rattle.zw_wasm_read.proofs.VectorLemmas.{one_more}
use Rattle.zw_wasm_read.proofs.SectionLemmas.{bytes_left}
use Rattle.zw_wasm_read.proofs.sections.read_entries.Goals as goal

pub loop-alloc-preserved : goal.loop-alloc-preserved
loop-alloc-preserved g c = record {
  so_far = rw c.in_ok-push-in-Ok-decode.ensures.ok (one_more g.T.Decode.spells _ _ _ _ _ c.loop-alloc.invariant.so_far c.in-Ok-decode.ensures.reads);
  few = rw (c.in_ok-push-in-Ok-decode.ensures.ok, length-append) (omega arith);
}

pub returns-then-not-is_empty : goal.returns-then-not-is_empty
returns-then-not-is_empty g c = bytes_left g.T.Decode.spells _ _ _ _ _ _ c.in-Ok.ensures c.loop-alloc.invariant.so_far c.loop-alloc.invariant.few (omega arith) c.is_empty.ensures c.if-not-is_empty.true
