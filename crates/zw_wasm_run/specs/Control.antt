-- Control: where the sequences of a body's flat code end, and what a block, a loop or an `if` holds there.
use Rattle.std.specs.Prelude.{◌≡◌, ℕ, ◌+◌, ◌<◌, ◌≤◌, List, ◌∷◌, length, drop, Option, slice_get, slice_index_or}
use Rattle.zw_wasm.specs.declared.module.CodeBody.{CodeBody}
use Rattle.zw_wasm.specs.declared.module.Instr.{Instr}
use Rattle.zw_wasm.specs.declared.module.Instr.TheVariants.{If}
use Rattle.zw_wasm.specs.declared.module.ValType.{ValType}
use Rattle.zw_wasm.specs.Structure.{Choice, begun_with, code_of, first_part, other_parts, parts}
use Rattle.zw_wasm_run.specs.Bodies.{instrs_in}
use Rattle.zw_wasm_run.specs.declared.control.Arms.{Arms}
use Rattle.zw_wasm_run.specs.declared.control.SequenceEnd.{SequenceEnd}

-- the end of the sequence that begins at a place: its parts begin with what is before the end, and go on behind it
pub record IsEnd (instrs : List Instr) (from : ℕ) (e : SequenceEnd) : Type 0 where
  pub behind : from ≤ e.next
  pub within : e.next ≤ length instrs
  pub by_else : e.by_else ≡ (first_part (parts (drop from instrs))).by_else
  pub others : parts (drop e.next instrs) ≡ other_parts (parts (drop from instrs))

-- the ends of the sequences from a place on
pub record AreEndsFrom (instrs : List Instr) (from : ℕ) (ends : List SequenceEnd) : Type 0 where
  pub count : length ends ≡ length instrs + 1
  pub each : (at : ℕ) (d : SequenceEnd) → from ≤ at → at ≤ length instrs → IsEnd instrs at (slice_index_or ends at d)

abbrev pub AreEnds : List Instr → List SequenceEnd → Type 0
AreEnds instrs ends = AreEndsFrom instrs 0 ends

-- what an `if` at this place chooses from, and what follows it
pub record AreArms (instrs : List Instr) (at : ℕ) (arms : Arms) : Type 0 where
  pub behind : at < arms.follows
  pub within : arms.follows ≤ length instrs
  pub choice : (ty : Option ValType) → parts (If ty ∷ drop (at + 1) instrs) ≡ begun_with (λ rest. Choice ty (code_of (drop arms.then_code instrs)) (code_of (drop arms.else_code instrs)) rest) (parts (drop arms.follows instrs))

-- for each body up to this one the ends of its sequences
pub record HaveEndsTo (codes : List CodeBody) (behind : ℕ) (ends : List (List SequenceEnd)) : Type 0 where
  pub count : length ends ≡ behind
  pub each : (n : ℕ) (d : List SequenceEnd) → n < behind → AreEnds (instrs_in (slice_get codes n)) (slice_index_or ends n d)

-- for each body the ends of its sequences
abbrev pub HaveEnds : List CodeBody → List (List SequenceEnd) → Type 0
HaveEnds codes ends = HaveEndsTo codes (length codes) ends
