-- Writing a module whose parts fit.
use Rattle.std.proofs.Common.{ℕ, List, Option, Result, Ok, Err, inl}
use Rattle.zw_base.specs.declared.outside.PutErr.{PutErr}
use Rattle.zw_base.specs.declared.outside.PutErr.TheVariants as put
use Rattle.zw_wasm.proofs.Encodes.{encodes}
use Rattle.zw_wasm.specs.Fits.{Fits}
use Rattle.zw_wasm.specs.Writing.{WritesSpelling}
use Rattle.zw_wasm.specs.declared.module.Module.{Module}

-- its shortest spelling is a spelling, whatever the sink answered
pub writes_spelling : (m : Module) (old new : Option (List ℕ)) (result : Result (Unit {0}) PutErr) → Fits m → WritesSpelling m old new result
writes_spelling m old new (Ok x) fits = λ well. encodes m well fits
writes_spelling m old new (Err put.Failed) fits = λ well. encodes m well fits
writes_spelling m old new (Err put.Oom) fits = inl (λ well. encodes m well fits)
