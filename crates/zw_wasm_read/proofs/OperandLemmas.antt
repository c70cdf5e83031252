-- Which opcodes go with which operands, and the instruction by both.
use Rattle.std.proofs.Common.{◌≡◌, ◌⊎◌, ℕ, ◌<◌, ◌≤◌, ℤ, eqb, List, [], ◌∷◌, Option, refl, sym, ap, ◌∙◌, inl, inr, arith, lit≤, lit<, if◌then◌else◌}
use Rattle.zw_wasm.specs.declared.module.BinaryOperator.{BinaryOperator}
use Rattle.zw_wasm.specs.declared.module.BinaryOperator.TheVariants.{Add, Sub, Mul, DivS, DivU, RemS, RemU, And, Or, Xor, Shl, ShrS, ShrU, Rotl, Rotr}
use Rattle.zw_wasm.specs.declared.module.Comparison.{Comparison}
use Rattle.zw_wasm.specs.declared.module.Comparison.TheVariants.{Eq, Ne, LtS, LtU, GtS, GtU, LeS, LeU, GeS, GeU}
use Rattle.zw_wasm.specs.declared.module.Conversion.{Conversion}
use Rattle.zw_wasm.specs.declared.module.Conversion.TheVariants.{Wrap, ExtendS, ExtendU}
use Rattle.zw_wasm.specs.declared.module.Instr.{Instr}
use Rattle.zw_wasm.specs.declared.module.Instr.TheVariants.{Unreachable, Nop, Block, Loop, If, Else, End, Br, BrIf, BrTable, Return, Call, CallIndirect, Drop, Select, LocalGet, LocalSet, LocalTee, GlobalGet, GlobalSet, Load, Store, MemorySize, MemoryGrow, I32Const, I64Const, IsZero, Compare, Unary, Binary, Convert}
use Rattle.zw_wasm.specs.declared.module.LoadKind.{LoadKind}
use Rattle.zw_wasm.specs.declared.module.LoadKind.TheVariants as load
use Rattle.zw_wasm.specs.declared.module.MemoryArgument.{MemoryArgument}
use Rattle.zw_wasm.specs.declared.module.StoreKind.{StoreKind}
use Rattle.zw_wasm.specs.declared.module.StoreKind.TheVariants as store
use Rattle.zw_wasm.specs.declared.module.UnaryOperator.{UnaryOperator}
use Rattle.zw_wasm.specs.declared.module.UnaryOperator.TheVariants.{Clz, Ctz, Popcnt}
use Rattle.zw_wasm.specs.declared.module.ValType.{ValType}
use Rattle.zw_wasm.specs.declared.module.ValType.TheVariants.{I32, I64}
use Rattle.zw_wasm.specs.Opcodes.{Immediate, Nothing, BlockType, Index, Labels, IndexAndZero, Zero, Memory, Signed32, Signed64, immediate_of, opcode, load_opcode, store_opcode, comparison_opcode, unary_opcode, binary_opcode, conversion_opcode}
use Rattle.zw_wasm_read.specs.Operands.{HasIndex, HasNoOperands}

-- ---- the ranges of opcodes

pub load_range : (kind : LoadKind) → (0x28 ≤ load_opcode kind) × (load_opcode kind ≤ 0x35)
load_range load.I32 = (lit≤ tt, lit≤ tt)
load_range load.I64 = (lit≤ tt, lit≤ tt)
load_range load.I32S8 = (lit≤ tt, lit≤ tt)
load_range load.I32U8 = (lit≤ tt, lit≤ tt)
load_range load.I32S16 = (lit≤ tt, lit≤ tt)
load_range load.I32U16 = (lit≤ tt, lit≤ tt)
load_range load.I64S8 = (lit≤ tt, lit≤ tt)
load_range load.I64U8 = (lit≤ tt, lit≤ tt)
load_range load.I64S16 = (lit≤ tt, lit≤ tt)
load_range load.I64U16 = (lit≤ tt, lit≤ tt)
load_range load.I64S32 = (lit≤ tt, lit≤ tt)
load_range load.I64U32 = (lit≤ tt, lit≤ tt)

pub store_range : (kind : StoreKind) → (0x36 ≤ store_opcode kind) × (store_opcode kind ≤ 0x3E)
store_range store.I32 = (lit≤ tt, lit≤ tt)
store_range store.I64 = (lit≤ tt, lit≤ tt)
store_range store.I32Low8 = (lit≤ tt, lit≤ tt)
store_range store.I32Low16 = (lit≤ tt, lit≤ tt)
store_range store.I64Low8 = (lit≤ tt, lit≤ tt)
store_range store.I64Low16 = (lit≤ tt, lit≤ tt)
store_range store.I64Low32 = (lit≤ tt, lit≤ tt)

-- the opcodes that each kind of operand goes with
abbrev pub GoesWith : Immediate → ℕ → Type 0
GoesWith Nothing code = HasNoOperands code
GoesWith (BlockType result) code = (2 ≤ code) × (code ≤ 4)
GoesWith (Index index) code = HasIndex code
GoesWith (Labels labels default) code = code ≡ 0x0E
GoesWith (IndexAndZero index) code = code ≡ 0x11
GoesWith Zero code = (0x3F ≤ code) × (code ≤ 0x40)
GoesWith (Memory at) code = (0x28 ≤ code) × (code ≤ 0x3E)
GoesWith (Signed32 z) code = code ≡ 0x41
GoesWith (Signed64 z) code = code ≡ 0x42

no_index : (code : ℕ) → (code ≡ 0x0C → ⊥) → (code ≡ 0x0D → ⊥) → (code ≡ 0x10 → ⊥) → (0x20 ≤ code → code ≤ 0x24 → ⊥) → HasIndex code → ⊥
no_index code a b c d (inl e) = a e
no_index code a b c d (inr (inl e)) = b e
no_index code a b c d (inr (inr (inl e))) = c e
no_index code a b c d (inr (inr (inr e))) = d e.0 e.1

-- an opcode above those with operands
high_alone : (code : ℕ) → 0x42 < code → HasNoOperands code
high_alone code high = record {
  not_table = λ e. omega arith;
  not_indirect = λ e. omega arith;
  not_block = λ a b. omega arith;
  not_index = no_index code (λ e. omega arith) (λ e. omega arith) (λ e. omega arith) (λ a b. omega arith);
  not_access = λ a b. omega arith;
}

comparison_above : (kind : Comparison) → 0x42 < comparison_opcode kind
comparison_above Eq = lit< tt
comparison_above Ne = lit< tt
comparison_above LtS = lit< tt
comparison_above LtU = lit< tt
comparison_above GtS = lit< tt
comparison_above GtU = lit< tt
comparison_above LeS = lit< tt
comparison_above LeU = lit< tt
comparison_above GeS = lit< tt
comparison_above GeU = lit< tt

unary_above : (kind : UnaryOperator) → 0x42 < unary_opcode kind
unary_above Clz = lit< tt
unary_above Ctz = lit< tt
unary_above Popcnt = lit< tt

binary_above : (kind : BinaryOperator) → 0x42 < binary_opcode kind
binary_above Add = lit< tt
binary_above Sub = lit< tt
binary_above Mul = lit< tt
binary_above DivS = lit< tt
binary_above DivU = lit< tt
binary_above RemS = lit< tt
binary_above RemU = lit< tt
binary_above And = lit< tt
binary_above Or = lit< tt
binary_above Xor = lit< tt
binary_above Shl = lit< tt
binary_above ShrS = lit< tt
binary_above ShrU = lit< tt
binary_above Rotl = lit< tt
binary_above Rotr = lit< tt

conversion_above : (kind : Conversion) → 0x42 < conversion_opcode kind
conversion_above Wrap = lit< tt
conversion_above ExtendS = lit< tt
conversion_above ExtendU = lit< tt

-- an opcode below those with operands, or between them
low_alone : (code : ℕ) → (code ≤ 1) ⊎ (code ≡ 0x05) ⊎ (code ≡ 0x0B) ⊎ (code ≡ 0x0F) ⊎ ((0x1A ≤ code) × (code ≤ 0x1B)) → HasNoOperands code
low_alone code (inl e) = record { not_table = λ a. omega arith; not_indirect = λ a. omega arith; not_block = λ a b. omega arith; not_index = no_index code (λ a. omega arith) (λ a. omega arith) (λ a. omega arith) (λ a b. omega arith); not_access = λ a b. omega arith }
low_alone code (inr (inl e)) = record { not_table = λ a. omega arith; not_indirect = λ a. omega arith; not_block = λ a b. omega arith; not_index = no_index code (λ a. omega arith) (λ a. omega arith) (λ a. omega arith) (λ a b. omega arith); not_access = λ a b. omega arith }
low_alone code (inr (inr (inl e))) = record { not_table = λ a. omega arith; not_indirect = λ a. omega arith; not_block = λ a b. omega arith; not_index = no_index code (λ a. omega arith) (λ a. omega arith) (λ a. omega arith) (λ a b. omega arith); not_access = λ a b. omega arith }
low_alone code (inr (inr (inr (inl e)))) = record { not_table = λ a. omega arith; not_indirect = λ a. omega arith; not_block = λ a b. omega arith; not_index = no_index code (λ a. omega arith) (λ a. omega arith) (λ a. omega arith) (λ a b. omega arith); not_access = λ a b. omega arith }
low_alone code (inr (inr (inr (inr e)))) = record { not_table = λ a. omega arith; not_indirect = λ a. omega arith; not_block = λ a b. omega arith; not_index = no_index code (λ a. omega arith) (λ a. omega arith) (λ a. omega arith) (λ a b. omega arith); not_access = λ a b. omega arith }

pub goes : (i : Instr) → GoesWith (immediate_of i) (opcode i)
goes Unreachable = low_alone 0x00 (inl (lit≤ tt))
goes Nop = low_alone 0x01 (inl (lit≤ tt))
goes (Block result) = (lit≤ tt, lit≤ tt)
goes (Loop result) = (lit≤ tt, lit≤ tt)
goes (If result) = (lit≤ tt, lit≤ tt)
goes Else = low_alone 0x05 (inr (inl refl))
goes End = low_alone 0x0B (inr (inr (inl refl)))
goes (Br label) = inl refl
goes (BrIf label) = inr (inl refl)
goes (BrTable default labels) = refl
goes Return = low_alone 0x0F (inr (inr (inr (inl refl))))
goes (Call f) = inr (inr (inl refl))
goes (CallIndirect ty) = refl
goes Drop = low_alone 0x1A (inr (inr (inr (inr (lit≤ tt, lit≤ tt)))))
goes Select = low_alone 0x1B (inr (inr (inr (inr (lit≤ tt, lit≤ tt)))))
goes (LocalGet n) = inr (inr (inr (lit≤ tt, lit≤ tt)))
goes (LocalSet n) = inr (inr (inr (lit≤ tt, lit≤ tt)))
goes (LocalTee n) = inr (inr (inr (lit≤ tt, lit≤ tt)))
goes (GlobalGet n) = inr (inr (inr (lit≤ tt, lit≤ tt)))
goes (GlobalSet n) = inr (inr (inr (lit≤ tt, lit≤ tt)))
goes (Load kind at) = let r = load_range kind in (r.0, omega (arith, r.1))
goes (Store kind at) = let r = store_range kind in (omega (arith, r.0), r.1)
goes MemorySize = (lit≤ tt, lit≤ tt)
goes MemoryGrow = (lit≤ tt, lit≤ tt)
goes (I32Const z) = refl
goes (I64Const z) = refl
goes (IsZero ty) = high_alone _ (omega arith)
goes (Compare ty comparison) = high_alone _ (omega (arith, comparison_above comparison))
goes (Unary ty operator) = high_alone _ (omega (arith, unary_above operator))
goes (Binary ty operator) = high_alone _ (omega (arith, binary_above operator))
goes (Convert conversion) = high_alone _ (conversion_above conversion)

-- ---- the kind of operand by the opcode

index_not_block : (code : ℕ) → HasIndex code → 2 ≤ code → code ≤ 4 → ⊥
index_not_block code (inl h) lo hi = omega arith
index_not_block code (inr (inl h)) lo hi = omega arith
index_not_block code (inr (inr (inl h))) lo hi = omega arith
index_not_block code (inr (inr (inr h))) lo hi = omega arith

index_not_table : (code : ℕ) → HasIndex code → code ≡ 0x0E → ⊥
index_not_table code (inl h) e = omega arith
index_not_table code (inr (inl h)) e = omega arith
index_not_table code (inr (inr (inl h))) e = omega arith
index_not_table code (inr (inr (inr h))) e = omega arith

index_not_indirect : (code : ℕ) → HasIndex code → code ≡ 0x11 → ⊥
index_not_indirect code (inl h) e = omega arith
index_not_indirect code (inr (inl h)) e = omega arith
index_not_indirect code (inr (inr (inl h))) e = omega arith
index_not_indirect code (inr (inr (inr h))) e = omega arith

index_not_high : (code : ℕ) → HasIndex code → 0x28 ≤ code → ⊥
index_not_high code (inl h) lo = omega arith
index_not_high code (inr (inl h)) lo = omega arith
index_not_high code (inr (inr (inl h))) lo = omega arith
index_not_high code (inr (inr (inr h))) lo = omega arith

pub block_operand : (a : Immediate) (code : ℕ) → GoesWith a code → 2 ≤ code → code ≤ 4 → (r : Option ValType) × (a ≡ BlockType r)
block_operand Nothing code g lo hi = absurd (g.not_block lo hi)
block_operand (BlockType r) code g lo hi = (r, refl)
block_operand (Index n) code g lo hi = absurd (index_not_block code g lo hi)
block_operand (Labels ls d) code g lo hi = absurd (omega arith)
block_operand (IndexAndZero n) code g lo hi = absurd (omega arith)
block_operand Zero code g lo hi = absurd (omega arith)
block_operand (Memory at) code g lo hi = absurd (omega arith)
block_operand (Signed32 z) code g lo hi = absurd (omega arith)
block_operand (Signed64 z) code g lo hi = absurd (omega arith)

pub index_operand : (a : Immediate) (code : ℕ) → GoesWith a code → HasIndex code → (n : ℕ) × (a ≡ Index n)
index_operand Nothing code g has = absurd (g.not_index has)
index_operand (BlockType r) code g has = absurd (index_not_block code has g.0 g.1)
index_operand (Index n) code g has = (n, refl)
index_operand (Labels ls d) code g has = absurd (index_not_table code has g)
index_operand (IndexAndZero n) code g has = absurd (index_not_indirect code has g)
index_operand Zero code g has = absurd (index_not_high code has (omega arith))
index_operand (Memory at) code g has = absurd (index_not_high code has (omega arith))
index_operand (Signed32 z) code g has = absurd (index_not_high code has (omega arith))
index_operand (Signed64 z) code g has = absurd (index_not_high code has (omega arith))

pub labels_operand : (a : Immediate) (code : ℕ) → GoesWith a code → code ≡ 0x0E → (ls : List ℕ) × (d : ℕ) × (a ≡ Labels ls d)
labels_operand Nothing code g e = absurd (g.not_table e)
labels_operand (BlockType r) code g e = absurd (omega arith)
labels_operand (Index n) code g e = absurd (index_not_table code g e)
labels_operand (Labels ls d) code g e = (ls, d, refl)
labels_operand (IndexAndZero n) code g e = absurd (omega arith)
labels_operand Zero code g e = absurd (omega arith)
labels_operand (Memory at) code g e = absurd (omega arith)
labels_operand (Signed32 z) code g e = absurd (omega arith)
labels_operand (Signed64 z) code g e = absurd (omega arith)

pub indirect_operand : (a : Immediate) (code : ℕ) → GoesWith a code → code ≡ 0x11 → (n : ℕ) × (a ≡ IndexAndZero n)
indirect_operand Nothing code g e = absurd (g.not_indirect e)
indirect_operand (BlockType r) code g e = absurd (omega arith)
indirect_operand (Index n) code g e = absurd (index_not_indirect code g e)
indirect_operand (Labels ls d) code g e = absurd (omega arith)
indirect_operand (IndexAndZero n) code g e = (n, refl)
indirect_operand Zero code g e = absurd (omega arith)
indirect_operand (Memory at) code g e = absurd (omega arith)
indirect_operand (Signed32 z) code g e = absurd (omega arith)
indirect_operand (Signed64 z) code g e = absurd (omega arith)

pub zero_operand : (a : Immediate) (code : ℕ) → GoesWith a code → 0x3F ≤ code → code ≤ 0x40 → a ≡ Zero
zero_operand Nothing code g lo hi = absurd (g.not_access (omega arith) (omega arith))
zero_operand (BlockType r) code g lo hi = absurd (omega arith)
zero_operand (Index n) code g lo hi = absurd (index_not_high code g (omega arith))
zero_operand (Labels ls d) code g lo hi = absurd (omega arith)
zero_operand (IndexAndZero n) code g lo hi = absurd (omega arith)
zero_operand Zero code g lo hi = refl
zero_operand (Memory at) code g lo hi = absurd (omega arith)
zero_operand (Signed32 z) code g lo hi = absurd (omega arith)
zero_operand (Signed64 z) code g lo hi = absurd (omega arith)

pub memory_operand : (a : Immediate) (code : ℕ) → GoesWith a code → 0x28 ≤ code → code ≤ 0x3E → (at : MemoryArgument) × (a ≡ Memory at)
memory_operand Nothing code g lo hi = absurd (g.not_access (omega arith) (omega arith))
memory_operand (BlockType r) code g lo hi = absurd (omega arith)
memory_operand (Index n) code g lo hi = absurd (index_not_high code g (omega arith))
memory_operand (Labels ls d) code g lo hi = absurd (omega arith)
memory_operand (IndexAndZero n) code g lo hi = absurd (omega arith)
memory_operand Zero code g lo hi = absurd (omega arith)
memory_operand (Memory at) code g lo hi = (at, refl)
memory_operand (Signed32 z) code g lo hi = absurd (omega arith)
memory_operand (Signed64 z) code g lo hi = absurd (omega arith)

pub const_32_operand : (a : Immediate) (code : ℕ) → GoesWith a code → code ≡ 0x41 → (z : ℤ) × (a ≡ Signed32 z)
const_32_operand Nothing code g e = absurd (g.not_access (omega arith) (omega arith))
const_32_operand (BlockType r) code g e = absurd (omega arith)
const_32_operand (Index n) code g e = absurd (index_not_high code g (omega arith))
const_32_operand (Labels ls d) code g e = absurd (omega arith)
const_32_operand (IndexAndZero n) code g e = absurd (omega arith)
const_32_operand Zero code g e = absurd (omega arith)
const_32_operand (Memory at) code g e = absurd (omega arith)
const_32_operand (Signed32 z) code g e = (z, refl)
const_32_operand (Signed64 z) code g e = absurd (omega arith)

pub const_64_operand : (a : Immediate) (code : ℕ) → GoesWith a code → code ≡ 0x42 → (z : ℤ) × (a ≡ Signed64 z)
const_64_operand Nothing code g e = absurd (g.not_access (omega arith) (omega arith))
const_64_operand (BlockType r) code g e = absurd (omega arith)
const_64_operand (Index n) code g e = absurd (index_not_high code g (omega arith))
const_64_operand (Labels ls d) code g e = absurd (omega arith)
const_64_operand (IndexAndZero n) code g e = absurd (omega arith)
const_64_operand Zero code g e = absurd (omega arith)
const_64_operand (Memory at) code g e = absurd (omega arith)
const_64_operand (Signed32 z) code g e = absurd (omega arith)
const_64_operand (Signed64 z) code g e = (z, refl)

pub no_operand : (a : Immediate) (code : ℕ) → GoesWith a code → HasNoOperands code → a ≡ Nothing
no_operand Nothing code g none = refl
no_operand (BlockType r) code g none = absurd (none.not_block g.0 g.1)
no_operand (Index n) code g none = absurd (none.not_index g)
no_operand (Labels ls d) code g none = absurd (none.not_table g)
no_operand (IndexAndZero n) code g none = absurd (none.not_indirect g)
no_operand Zero code g none = absurd (none.not_access (omega arith) (omega arith))
no_operand (Memory at) code g none = absurd (none.not_access (omega arith) (omega arith))
no_operand (Signed32 z) code g none = absurd (none.not_access (omega arith) (omega arith))
no_operand (Signed64 z) code g none = absurd (none.not_access (omega arith) (omega arith))

-- ---- the instruction by its opcode and its operand

-- the one of these with this opcode, or the last
abbrev pub pick : ℕ → Instr → List Instr → Instr
pick code last [] = last
pick code last (i ∷ is) = if eqb (opcode i) code then i else pick code last is

abbrev alone_ones : List Instr
alone_ones = Unreachable ∷ Nop ∷ Else ∷ End ∷ Return ∷ Drop ∷ Select ∷ IsZero I32 ∷ IsZero I64 ∷ Compare I32 Eq ∷ Compare I32 Ne ∷ Compare I32 LtS ∷ Compare I32 LtU ∷ Compare I32 GtS ∷ Compare I32 GtU ∷ Compare I32 LeS ∷ Compare I32 LeU ∷ Compare I32 GeS ∷ Compare I32 GeU ∷ Compare I64 Eq ∷ Compare I64 Ne ∷ Compare I64 LtS ∷ Compare I64 LtU ∷ Compare I64 GtS ∷ Compare I64 GtU ∷ Compare I64 LeS ∷ Compare I64 LeU ∷ Compare I64 GeS ∷ Compare I64 GeU ∷ Unary I32 Clz ∷ Unary I32 Ctz ∷ Unary I32 Popcnt ∷ Unary I64 Clz ∷ Unary I64 Ctz ∷ Unary I64 Popcnt ∷ Binary I32 Add ∷ Binary I32 Sub ∷ Binary I32 Mul ∷ Binary I32 DivS ∷ Binary I32 DivU ∷ Binary I32 RemS ∷ Binary I32 RemU ∷ Binary I32 And ∷ Binary I32 Or ∷ Binary I32 Xor ∷ Binary I32 Shl ∷ Binary I32 ShrS ∷ Binary I32 ShrU ∷ Binary I32 Rotl ∷ Binary I32 Rotr ∷ Binary I64 Add ∷ Binary I64 Sub ∷ Binary I64 Mul ∷ Binary I64 DivS ∷ Binary I64 DivU ∷ Binary I64 RemS ∷ Binary I64 RemU ∷ Binary I64 And ∷ Binary I64 Or ∷ Binary I64 Xor ∷ Binary I64 Shl ∷ Binary I64 ShrS ∷ Binary I64 ShrU ∷ Binary I64 Rotl ∷ Binary I64 Rotr ∷ Convert Wrap ∷ Convert ExtendS ∷ Convert ExtendU ∷ []

abbrev accesses : MemoryArgument → List Instr
accesses at = Load load.I32 at ∷ Load load.I64 at ∷ Load load.I32S8 at ∷ Load load.I32U8 at ∷ Load load.I32S16 at ∷ Load load.I32U16 at ∷ Load load.I64S8 at ∷ Load load.I64U8 at ∷ Load load.I64S16 at ∷ Load load.I64U16 at ∷ Load load.I64S32 at ∷ Load load.I64U32 at ∷ Store store.I32 at ∷ Store store.I64 at ∷ Store store.I32Low8 at ∷ Store store.I32Low16 at ∷ Store store.I64Low8 at ∷ Store store.I64Low16 at ∷ Store store.I64Low32 at ∷ []

abbrev pub instr_of : ℕ → Immediate → Instr
instr_of code Nothing = pick code Unreachable alone_ones
instr_of code (BlockType r) = pick code Unreachable (Block r ∷ Loop r ∷ If r ∷ [])
instr_of code (Index n) = pick code Unreachable (Br n ∷ BrIf n ∷ Call n ∷ LocalGet n ∷ LocalSet n ∷ LocalTee n ∷ GlobalGet n ∷ GlobalSet n ∷ [])
instr_of code (Labels ls d) = BrTable d ls
instr_of code (IndexAndZero n) = CallIndirect n
instr_of code Zero = pick code Unreachable (MemorySize ∷ MemoryGrow ∷ [])
instr_of code (Memory at) = pick code Unreachable (accesses at)
instr_of code (Signed32 z) = I32Const z
instr_of code (Signed64 z) = I64Const z

load_by : (at : MemoryArgument) (kind : LoadKind) → instr_of (opcode (Load kind at)) (immediate_of (Load kind at)) ≡ Load kind at
load_by at load.I32 = refl
load_by at load.I64 = refl
load_by at load.I32S8 = refl
load_by at load.I32U8 = refl
load_by at load.I32S16 = refl
load_by at load.I32U16 = refl
load_by at load.I64S8 = refl
load_by at load.I64U8 = refl
load_by at load.I64S16 = refl
load_by at load.I64U16 = refl
load_by at load.I64S32 = refl
load_by at load.I64U32 = refl

store_by : (at : MemoryArgument) (kind : StoreKind) → instr_of (opcode (Store kind at)) (immediate_of (Store kind at)) ≡ Store kind at
store_by at store.I32 = refl
store_by at store.I64 = refl
store_by at store.I32Low8 = refl
store_by at store.I32Low16 = refl
store_by at store.I64Low8 = refl
store_by at store.I64Low16 = refl
store_by at store.I64Low32 = refl

conversion_by : (kind : Conversion) → instr_of (opcode (Convert kind)) (immediate_of (Convert kind)) ≡ Convert kind
conversion_by Wrap = refl
conversion_by ExtendS = refl
conversion_by ExtendU = refl

compare_by : (ty : ValType) (kind : Comparison) → instr_of (opcode (Compare ty kind)) (immediate_of (Compare ty kind)) ≡ Compare ty kind
compare_by I32 Eq = refl
compare_by I32 Ne = refl
compare_by I32 LtS = refl
compare_by I32 LtU = refl
compare_by I32 GtS = refl
compare_by I32 GtU = refl
compare_by I32 LeS = refl
compare_by I32 LeU = refl
compare_by I32 GeS = refl
compare_by I32 GeU = refl
compare_by I64 Eq = refl
compare_by I64 Ne = refl
compare_by I64 LtS = refl
compare_by I64 LtU = refl
compare_by I64 GtS = refl
compare_by I64 GtU = refl
compare_by I64 LeS = refl
compare_by I64 LeU = refl
compare_by I64 GeS = refl
compare_by I64 GeU = refl

unary_by : (ty : ValType) (kind : UnaryOperator) → instr_of (opcode (Unary ty kind)) (immediate_of (Unary ty kind)) ≡ Unary ty kind
unary_by I32 Clz = refl
unary_by I32 Ctz = refl
unary_by I32 Popcnt = refl
unary_by I64 Clz = refl
unary_by I64 Ctz = refl
unary_by I64 Popcnt = refl

binary_by : (ty : ValType) (kind : BinaryOperator) → instr_of (opcode (Binary ty kind)) (immediate_of (Binary ty kind)) ≡ Binary ty kind
binary_by I32 Add = refl
binary_by I32 Sub = refl
binary_by I32 Mul = refl
binary_by I32 DivS = refl
binary_by I32 DivU = refl
binary_by I32 RemS = refl
binary_by I32 RemU = refl
binary_by I32 And = refl
binary_by I32 Or = refl
binary_by I32 Xor = refl
binary_by I32 Shl = refl
binary_by I32 ShrS = refl
binary_by I32 ShrU = refl
binary_by I32 Rotl = refl
binary_by I32 Rotr = refl
binary_by I64 Add = refl
binary_by I64 Sub = refl
binary_by I64 Mul = refl
binary_by I64 DivS = refl
binary_by I64 DivU = refl
binary_by I64 RemS = refl
binary_by I64 RemU = refl
binary_by I64 And = refl
binary_by I64 Or = refl
binary_by I64 Xor = refl
binary_by I64 Shl = refl
binary_by I64 ShrS = refl
binary_by I64 ShrU = refl
binary_by I64 Rotl = refl
binary_by I64 Rotr = refl

zero_by : (ty : ValType) → instr_of (opcode (IsZero ty)) (immediate_of (IsZero ty)) ≡ IsZero ty
zero_by I32 = refl
zero_by I64 = refl

pub instr_by : (i : Instr) → instr_of (opcode i) (immediate_of i) ≡ i
instr_by Unreachable = refl
instr_by Nop = refl
instr_by (Block result) = refl
instr_by (Loop result) = refl
instr_by (If result) = refl
instr_by Else = refl
instr_by End = refl
instr_by (Br label) = refl
instr_by (BrIf label) = refl
instr_by (BrTable default labels) = refl
instr_by Return = refl
instr_by (Call f) = refl
instr_by (CallIndirect ty) = refl
instr_by Drop = refl
instr_by Select = refl
instr_by (LocalGet n) = refl
instr_by (LocalSet n) = refl
instr_by (LocalTee n) = refl
instr_by (GlobalGet n) = refl
instr_by (GlobalSet n) = refl
instr_by MemorySize = refl
instr_by MemoryGrow = refl
instr_by (I32Const z) = refl
instr_by (I64Const z) = refl
instr_by (Load kind at) = load_by at kind
instr_by (Store kind at) = store_by at kind
instr_by (IsZero ty) = zero_by ty
instr_by (Compare ty comparison) = compare_by ty comparison
instr_by (Unary ty operator) = unary_by ty operator
instr_by (Binary ty operator) = binary_by ty operator
instr_by (Convert conversion) = conversion_by conversion

-- two instructions with one opcode and one operand are one
pub same_instr : (i j : Instr) → opcode i ≡ opcode j → immediate_of i ≡ immediate_of j → i ≡ j
same_instr i j e f = sym (instr_by i) ∙ ap (λ (code : ℕ). instr_of code (immediate_of i)) e ∙ ap (λ (a : Immediate). instr_of (opcode j) a) f ∙ instr_by j
