-- An instruction behind its opcode is read by the opcode, and is the only one there.
use Rattle.std.proofs.Common.{◌≡◌, ℕ, ◌≤◌, ℤ, List, Option, refl, sym, ap, subst, ◌∙◌}
use Rattle.zw_wasm.specs.declared.module.Instr.{Instr}
use Rattle.zw_wasm.specs.declared.module.MemoryArgument.{MemoryArgument}
use Rattle.zw_wasm.specs.declared.module.ValType.{ValType}
use Rattle.zw_wasm.specs.ModuleBytes.{◌⌢◌, Byte, IsU32, IsS32, IsS64, IsVector, IsBlockType, IsImmediate, IsInstruction}
use Rattle.zw_wasm.specs.Opcodes.{Immediate, Nothing, BlockType, Index, Labels, IndexAndZero, Zero, Memory, Signed32, Signed64, immediate_of, opcode}
use Rattle.zw_wasm_read.specs.MemoryArguments.{IsMemoryArgument}
use Rattle.zw_wasm_read.specs.Operands.{HasIndex, IsBehind}
use Rattle.zw_wasm_read.specs.Reads.{Leaves}
use Rattle.zw_wasm_read.specs.Uniqueness.{Sure}
use Rattle.zw_wasm_read.proofs.Leaving.{turn, then, as_kind, nothing}
use Rattle.zw_wasm_read.proofs.OperandLemmas.{GoesWith, goes, same_instr, block_operand, index_operand, labels_operand, indirect_operand, zero_operand, memory_operand, const_32_operand, const_64_operand, no_operand}
use Rattle.zw_wasm_read.proofs.Uniqueness.{sure-byte, sure-u32, sure-s32, sure-s64, sure-vector, sure-block_type, exactly-rest, then_one, behind}

-- the operand that goes with the opcode
pub with_code : (code : ℕ) (i : Instr) (bytes rest : List ℕ) → Leaves (IsBehind code i) bytes rest → GoesWith (immediate_of i) code
with_code code i bytes rest l = subst (λ (c : ℕ). GoesWith (immediate_of i) c) l.spelled.same (goes i)

pub operand : (code : ℕ) (i : Instr) (bytes rest : List ℕ) → Leaves (IsBehind code i) bytes rest → Leaves (IsImmediate (immediate_of i)) bytes rest
operand code i bytes rest l = as_kind (λ front p. p.immediate) l

operand_as : (a : Immediate) (i : Instr) (bytes rest : List ℕ) → immediate_of i ≡ a → Leaves (IsImmediate (immediate_of i)) bytes rest → Leaves (IsImmediate a) bytes rest
operand_as a i bytes rest e l = subst (λ (b : Immediate). Leaves (IsImmediate b) bytes rest) e l

pub block_behind : (code : ℕ) (i : Instr) (bytes rest : List ℕ) → 2 ≤ code → code ≤ 4 → Leaves (IsBehind code i) bytes rest → (r : Option ValType) × Leaves (IsBlockType r) bytes rest
block_behind code i bytes rest lo hi l =
    let a = block_operand (immediate_of i) code (with_code code i bytes rest l) lo hi in
    (a.0, operand_as (BlockType a.0) i bytes rest a.1 (operand code i bytes rest l))

pub index_behind : (code : ℕ) (i : Instr) (bytes rest : List ℕ) → HasIndex code → Leaves (IsBehind code i) bytes rest → (n : ℕ) × Leaves (IsU32 n) bytes rest
index_behind code i bytes rest has l =
    let a = index_operand (immediate_of i) code (with_code code i bytes rest l) has in
    (a.0, operand_as (Index a.0) i bytes rest a.1 (operand code i bytes rest l))

pub labels_behind : (i : Instr) (bytes rest : List ℕ) → Leaves (IsBehind 0x0E i) bytes rest → (ls : List ℕ) × (d : ℕ) × Leaves (IsVector IsU32 ls ⌢ IsU32 d) bytes rest
labels_behind i bytes rest l =
    let a = labels_operand (immediate_of i) 0x0E (with_code 0x0E i bytes rest l) refl in
    (a.0, a.1, operand_as (Labels a.0 a.1) i bytes rest a.2 (operand 0x0E i bytes rest l))

pub indirect_behind : (i : Instr) (bytes rest : List ℕ) → Leaves (IsBehind 0x11 i) bytes rest → (n : ℕ) × Leaves (IsU32 n ⌢ Byte 0x00) bytes rest
indirect_behind i bytes rest l =
    let a = indirect_operand (immediate_of i) 0x11 (with_code 0x11 i bytes rest l) refl in
    (a.0, operand_as (IndexAndZero a.0) i bytes rest a.1 (operand 0x11 i bytes rest l))

pub zero_behind : (code : ℕ) (i : Instr) (bytes rest : List ℕ) → 0x3F ≤ code → code ≤ 0x40 → Leaves (IsBehind code i) bytes rest → Leaves (Byte 0x00) bytes rest
zero_behind code i bytes rest lo hi l =
    operand_as Zero i bytes rest (zero_operand (immediate_of i) code (with_code code i bytes rest l) lo hi) (operand code i bytes rest l)

pub memory_behind : (code : ℕ) (i : Instr) (bytes rest : List ℕ) → 0x28 ≤ code → code ≤ 0x3E → Leaves (IsBehind code i) bytes rest → (at : MemoryArgument) × Leaves (IsMemoryArgument at) bytes rest
memory_behind code i bytes rest lo hi l =
    let a = memory_operand (immediate_of i) code (with_code code i bytes rest l) lo hi in
    (a.0, operand_as (Memory a.0) i bytes rest a.1 (operand code i bytes rest l))

pub const_32_behind : (i : Instr) (bytes rest : List ℕ) → Leaves (IsBehind 0x41 i) bytes rest → (z : ℤ) × Leaves (IsS32 z) bytes rest
const_32_behind i bytes rest l =
    let a = const_32_operand (immediate_of i) 0x41 (with_code 0x41 i bytes rest l) refl in
    (a.0, operand_as (Signed32 a.0) i bytes rest a.1 (operand 0x41 i bytes rest l))

pub const_64_behind : (i : Instr) (bytes rest : List ℕ) → Leaves (IsBehind 0x42 i) bytes rest → (z : ℤ) × Leaves (IsS64 z) bytes rest
const_64_behind i bytes rest l =
    let a = const_64_operand (immediate_of i) 0x42 (with_code 0x42 i bytes rest l) refl in
    (a.0, operand_as (Signed64 a.0) i bytes rest a.1 (operand 0x42 i bytes rest l))

-- ---- whole instructions

pub behind_code : (code : ℕ) (i : Instr) (bytes mid rest : List ℕ) → Leaves (Byte code) bytes mid → Leaves (IsBehind code i) mid rest → Leaves (IsInstruction i) bytes rest
behind_code code i bytes mid rest l m =
    then (subst (λ (c : ℕ). Leaves (Byte c) bytes mid) (sym m.spelled.same) l) (operand code i mid rest m)

pub code_of : (code : ℕ) (i : Instr) (bytes mid rest : List ℕ) → Leaves (Byte code) bytes mid → Leaves (IsInstruction i) bytes rest → Leaves (IsBehind code i) mid rest
code_of code i bytes mid rest l m =
    let b = behind sure-byte code l m in
    as_kind (λ front p. record { same = sym b.0; immediate = p }) b.1

-- ---- the only one

abbrev argument : ℕ → ℕ → MemoryArgument
argument align offset = record { align = align; offset = offset }

same_argument : (x y : MemoryArgument) → x.align ≡ y.align → x.offset ≡ y.offset → x ≡ y
same_argument x y e f = ap (λ (n : ℕ). argument n x.offset) e ∙ ap (λ (n : ℕ). argument y.align n) f

immediate_one : (a b : Immediate) (code : ℕ) (bytes r s : List ℕ) → GoesWith a code → GoesWith b code → Leaves (IsImmediate a) bytes r → Leaves (IsImmediate b) bytes s → (a ≡ b) × (r ≡ s)
immediate_one Nothing b code bytes r s g h l m =
    let e = no_operand b code h g in
    (sym e, sym (nothing l) ∙ nothing (subst (λ (c : Immediate). Leaves (IsImmediate c) bytes s) e m))
immediate_one (BlockType x) b code bytes r s g h l m =
    let e = block_operand b code h g.0 g.1 in
    let same = sure-block_type.one x e.0 bytes r s l (subst (λ (c : Immediate). Leaves (IsImmediate c) bytes s) e.1 m) in
    (ap (λ (o : Option ValType). BlockType o) same.0 ∙ sym e.1, same.1)
immediate_one (Index x) b code bytes r s g h l m =
    let e = index_operand b code h g in
    let same = sure-u32.one x e.0 bytes r s l (subst (λ (c : Immediate). Leaves (IsImmediate c) bytes s) e.1 m) in
    (ap (λ (n : ℕ). Index n) same.0 ∙ sym e.1, same.1)
immediate_one (Labels x d) b code bytes r s g h l m =
    let e = labels_operand b code h g in
    let same = then_one (sure-vector sure-u32) sure-u32 l (subst (λ (c : Immediate). Leaves (IsImmediate c) bytes s) e.2 m) in
    (ap (λ (ls : List ℕ). Labels ls d) same.0 ∙ ap (λ (n : ℕ). Labels e.0 n) same.1 ∙ sym e.2, same.2)
immediate_one (IndexAndZero x) b code bytes r s g h l m =
    let e = indirect_operand b code h g in
    let same = then_one sure-u32 sure-byte l (subst (λ (c : Immediate). Leaves (IsImmediate c) bytes s) e.1 m) in
    (ap (λ (n : ℕ). IndexAndZero n) same.0 ∙ sym e.1, same.2)
immediate_one Zero b code bytes r s g h l m =
    let e = zero_operand b code h g.0 g.1 in
    (sym e, exactly-rest _ l (subst (λ (c : Immediate). Leaves (IsImmediate c) bytes s) e m))
immediate_one (Memory x) b code bytes r s g h l m =
    let e = memory_operand b code h g.0 g.1 in
    let same = then_one sure-u32 sure-u32 l (subst (λ (c : Immediate). Leaves (IsImmediate c) bytes s) e.1 m) in
    (ap (λ (at : MemoryArgument). Memory at) (same_argument x e.0 same.0 same.1) ∙ sym e.1, same.2)
immediate_one (Signed32 x) b code bytes r s g h l m =
    let e = const_32_operand b code h g in
    let same = sure-s32.one x e.0 bytes r s l (subst (λ (c : Immediate). Leaves (IsImmediate c) bytes s) e.1 m) in
    (ap (λ (z : ℤ). Signed32 z) same.0 ∙ sym e.1, same.1)
immediate_one (Signed64 x) b code bytes r s g h l m =
    let e = const_64_operand b code h g in
    let same = sure-s64.one x e.0 bytes r s l (subst (λ (c : Immediate). Leaves (IsImmediate c) bytes s) e.1 m) in
    (ap (λ (z : ℤ). Signed64 z) same.0 ∙ sym e.1, same.1)

pub sure-instruction : Sure IsInstruction
sure-instruction = record {
  one = λ i j bytes r s l m.
      let t = turn l in
      let u = turn m in
      let code = sure-byte.one (opcode i) (opcode j) bytes t.mid u.mid t.first u.first in
      let other = subst (λ (at : List ℕ). Leaves (IsImmediate (immediate_of i)) at r) code.1 t.second in
      let same = immediate_one (immediate_of i) (immediate_of j) (opcode j) u.mid r s (subst (λ (c : ℕ). GoesWith (immediate_of i) c) code.0 (goes i)) (goes j) other u.second in
      (same_instr i j code.0 same.0, same.1);
}
