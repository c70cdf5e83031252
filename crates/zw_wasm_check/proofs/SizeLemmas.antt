-- A module that bytes spell has fewer than 2^32 of each thing that a place counts.
use Rattle.std.proofs.Common.{ℕ, ◌<◌, ◌≤◌, ◌^◌, List, [], ◌∷◌, length, get_or, length-append, arith}
use Rattle.std.specs.List.{flat_map}
use Rattle.std.proofs.lemmas.List.Elements.{All-get_or, All-from_recursion}
use Rattle.zw_wasm.specs.declared.module.CodeBody.{CodeBody}
use Rattle.zw_wasm.specs.declared.module.Instr.{Instr}
use Rattle.zw_wasm.specs.declared.module.Module.{Module}
use Rattle.zw_wasm.specs.Fits.{Fits, FitsCode}
use Rattle.zw_wasm.specs.Opcodes.{immediate_of}
use Rattle.zw_wasm.specs.Spelling.{expression, immediate, instruction, local_run, vector}
use Rattle.zw_wasm.specs.ModuleBytes.{local_count}
use Rattle.zw_wasm.specs.WellFormed.{IsWellFormed, IsWellFormedCode}

-- each instruction has a byte
instrs_within : (is : List Instr) → length is ≤ length (flat_map instruction is)
instrs_within [] = omega arith
instrs_within (i ∷ is) =
    let later = instrs_within is in
    let both = length-append (immediate (immediate_of i)) (flat_map instruction is) in
    omega (arith, later, both)

pub few_instrs : (m : Module) (k : ℕ) (d : CodeBody) → Fits m → k < length m.codes → length (get_or m.codes k d).instrs < 2 ^ 32
few_instrs m k d fits inside =
    let c = get_or m.codes k d in
    let fit = All-get_or FitsCode m.codes k d inside fits.1.codes.items.each in
    omega (arith, fit.2, instrs_within c.instrs, length-append (vector local_run c.locals) (expression c.instrs))

pub few_locals : (m : Module) (k : ℕ) (d : CodeBody) → IsWellFormed m → k < length m.codes → local_count (get_or m.codes k d).locals < 2 ^ 32
few_locals m k d formed inside = (All-get_or IsWellFormedCode m.codes k d inside (All-from_recursion IsWellFormedCode m.codes formed.codes)).0
