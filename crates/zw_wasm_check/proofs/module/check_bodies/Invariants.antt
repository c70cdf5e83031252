use Rattle.std.proofs.Common.{◌≡◌, drop}
use Rattle.zw_wasm.specs.Validity.{bodies_violation}
use Rattle.zw_wasm_check.proofs.module.check_bodies.Given as goal

abbrev pub invariant-loop-number : goal.invariant-loop-number
invariant-loop-number l = bodies_violation l.m 0 l.m.codes ≡ bodies_violation l.m l.number (drop l.number l.m.codes)
