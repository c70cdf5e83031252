-- Checked: what the code of an operator does. It takes two operands, and leaves the value that the operator gives on the
-- exact numbers, or tells the cause and traps.
use Rattle.std.specs.Prelude.{◌≡◌, ℕ, ◌+◌, ◌<◌, ◌≤◌, true, false, List, ◌∷◌, length, Option, Some, None, slice_get, slice_set}
use Rattle.zw_num.specs.declared.int_ty.IntTy.{IntTy}
use Rattle.zw_num.specs.declared.int_ty.IntTy.TheVariants.{Sized}
use Rattle.zw_session.specs.Causes.{integer_overflow}
use Rattle.zw_wasm.specs.declared.module.GlobalDef.{GlobalDef}
use Rattle.zw_wasm.specs.declared.module.Module.{Module}
use Rattle.zw_wasm.specs.declared.module.ValType.{ValType}
use Rattle.zw_wasm.specs.declared.module.ValType.TheVariants as ty
use Rattle.zw_wasm.specs.Reduction.{Config, World, Store, Trap, unreachable_trap}
use Rattle.zw_wasm.specs.Sequences.{placed, with_locals, Runs, Halts}
use Rattle.zw_wasm.specs.Signature.{View}
use Rattle.zw_wasm.specs.declared.num.Num.{Num}
use Rattle.zw_wasm.specs.declared.num.Num.TheVariants.{I32}
use Rattle.zw_wasm.specs.Structure.{Code}

abbrev pub u32 : IntTy
u32 = Sized false 32

-- the eight locals that code writes are there
abbrev pub HasScratch : ℕ → List Num → Type 0
HasScratch scratch locals = scratch + 8 ≤ length locals

-- of these types: four are i32, and the next four i64
pub record ScratchIsTyped (scratch : ℕ) (locals : List ValType) : Type 0 where
  pub first : (k : ℕ) → k < 4 → slice_get locals (scratch + k) ≡ Some ty.I32
  pub second : (k : ℕ) → k < 4 → slice_get locals (scratch + 4 + k) ≡ Some ty.I64

-- the three globals that hold the state of a panic are there
abbrev pub HasPanicState : Store → Type 0
HasPanicState store = 3 ≤ length store.globals

-- a global that can be set, of 32 bits
pub record IsNumberGlobal (m : Module) (n : ℕ) : Type 0 where
  pub global : GlobalDef
  pub there : slice_get m.globals n ≡ Some global
  pub type_is : global.ty ≡ ty.I32
  pub mutable : global.mutable ≡ true

pub record PanicStateIsTyped (m : Module) : Type 0 where
  pub cause : IsNumberGlobal m 0
  pub pointer : IsNumberGlobal m 1
  pub count : IsNumberGlobal m 2

-- the locals are as they were, but for those eight
pub record KeepsOthers (scratch : ℕ) (before after : List Num) : Type 0 where
  pub count : length after ≡ length before
  pub below : (n : ℕ) → n < scratch → slice_get after n ≡ slice_get before n
  pub above : (n : ℕ) → scratch + 8 ≤ n → slice_get after n ≡ slice_get before n

-- the globals after a panic with this cause and no message
abbrev pub panic_globals : ℕ → List Num → List Num
panic_globals cause globals = slice_set (slice_set (slice_set globals 0 (I32 cause)) 1 (I32 0)) 2 (I32 0)

abbrev pub panicked : ℕ → World → World
panicked cause w = record w { store = record w.store { globals = panic_globals cause w.store.globals } }

-- how many instructions the code of an operator takes at most
abbrev pub most_instructions : ℕ
most_instructions = 128

-- from a configuration the code leaves this value on the operands, and goes on
pub record Leaves (m : Module) (v : View) (scratch value : ℕ) (start : Config) (rest : Code) (os : List Num) : Type 0 where
  pub locals : List Num
  pub kept : KeepsOthers scratch start.frame.locals locals
  pub taken : ℕ
  pub few : taken ≤ most_instructions
  pub runs : Runs m v start (placed rest (I32 value ∷ os) (with_locals locals start)) taken

-- from a configuration the code tells an overflow and traps
pub record Overflows (m : Module) (v : View) (start : Config) : Type 0 where
  pub taken : ℕ
  pub few : taken ≤ most_instructions
  pub halts : Halts m v start (Trap unreachable_trap) (panicked integer_overflow start.world) taken

-- the one where there is a value, and else the other
abbrev pub Answers : Module → View → ℕ → Option ℕ → Config → Code → List Num → Type 0
Answers m v scratch (Some value) start rest os = Leaves m v scratch value start rest os
Answers m v scratch None start rest os = Overflows m v start
