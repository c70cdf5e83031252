-- An instruction behind its opcode.
use Rattle.std.specs.Prelude.{◌≡◌, ◌⊎◌, ℕ, ◌≤◌, List}
use Rattle.zw_wasm.specs.declared.module.Instr.{Instr}
use Rattle.zw_wasm.specs.ModuleBytes.{IsImmediate}
use Rattle.zw_wasm.specs.Opcodes.{Nothing, immediate_of, opcode}

-- bytes that spell what stands behind this opcode in an instruction
pub record IsBehind (code : ℕ) (i : Instr) (bytes : List ℕ) : Type 0 where
  pub same : opcode i ≡ code
  pub immediate : IsImmediate (immediate_of i) bytes

-- an instruction that is its opcode alone
pub record IsAlone (code : ℕ) (i : Instr) : Type 0 where
  pub same : opcode i ≡ code
  pub nothing : immediate_of i ≡ Nothing

-- an opcode with an index behind it
abbrev pub HasIndex : ℕ → Type 0
HasIndex code = (code ≡ 0x0C) ⊎ (code ≡ 0x0D) ⊎ (code ≡ 0x10) ⊎ ((0x20 ≤ code) × (code ≤ 0x24))

-- an opcode that no operand follows, or none at all
pub record HasNoOperands (code : ℕ) : Type 0 where
  pub not_table : code ≡ 0x0E → ⊥
  pub not_indirect : code ≡ 0x11 → ⊥
  pub not_block : 2 ≤ code → code ≤ 4 → ⊥
  pub not_index : HasIndex code → ⊥
  pub not_access : 0x28 ≤ code → code ≤ 0x42 → ⊥
