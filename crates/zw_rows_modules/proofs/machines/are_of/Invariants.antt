use Rattle.std.proofs.Common.{◌≡◌, map, take}
use Rattle.zw_wasm_sound.specs.Rules.{type_of}
use Rattle.zw_rows_modules.proofs.machines.are_of.Given as goal

abbrev pub invariant-loop-place : goal.invariant-loop-place
invariant-loop-place l = map type_of (take l.place l.numbers) ≡ take l.place l.types
