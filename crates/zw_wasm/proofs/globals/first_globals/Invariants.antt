use Rattle.std.proofs.Common.{◌≡◌, [], take, map}
use Rattle.zw_wasm.specs.declared.module.GlobalDef.{GlobalDef}
use Rattle.zw_wasm.specs.ModuleMachine.{constant_of}
use Rattle.zw_wasm.specs.Structure.{num_of}
use Rattle.zw_wasm.proofs.globals.first_globals.Given as goal

abbrev pub invariant-loop-global : goal.invariant-loop-global
invariant-loop-global l = l.globals ≡ map (λ (g : GlobalDef). num_of g.ty (constant_of [] g.init)) (take l.global-index l.m.globals)
