-- Rules: the types of numbers, of instructions and of code (WebAssembly Core Specification 1.0, 3.3). Types of operands stand the
-- last first, as operands do while code runs.
use Rattle.std.specs.Prelude.{◌≡◌, ℕ, ℤ, true, nat_le, List, [], ◌∷◌, ◌++◌, map, reverse, Some, slice_get}
use Rattle.std.specs.Option.{option_to_list}
use Rattle.zw_wasm.specs.declared.module.BinaryOperator.{BinaryOperator}
use Rattle.zw_wasm.specs.declared.module.Comparison.{Comparison}
use Rattle.zw_wasm.specs.declared.module.Conversion.{Conversion}
use Rattle.zw_wasm.specs.declared.module.FuncType.{FuncType}
use Rattle.zw_wasm.specs.declared.module.GlobalDef.{GlobalDef}
use Rattle.zw_wasm.specs.declared.module.Instr.{Instr}
use Rattle.zw_wasm.specs.declared.module.Instr.TheVariants as instr
use Rattle.zw_wasm.specs.declared.module.Limits.{Limits}
use Rattle.zw_wasm.specs.declared.module.LoadKind.{LoadKind}
use Rattle.zw_wasm.specs.declared.module.MemoryArgument.{MemoryArgument}
use Rattle.zw_wasm.specs.declared.module.StoreKind.{StoreKind}
use Rattle.zw_wasm.specs.declared.module.UnaryOperator.{UnaryOperator}
use Rattle.zw_wasm.specs.declared.module.ValType.{ValType}
use Rattle.zw_wasm.specs.declared.module.ValType.TheVariants as ty
use Rattle.zw_wasm.specs.declared.num.Num.{Num}
use Rattle.zw_wasm.specs.declared.num.Num.TheVariants.{I32, I64}
use Rattle.zw_wasm.specs.Accesses.{load_type, load_width, natural_alignment, store_type, store_width}
use Rattle.zw_wasm.specs.Functions.{func_type}
use Rattle.zw_wasm.specs.Structure.{Code, Ends, Plain, Choice, Block, Repeat}
use Rattle.zw_wasm.specs.Typing.{Context, converts_from, converts_to}

-- the type of a number; it says nothing of how great its bits are
abbrev pub type_of : Num → ValType
type_of (I32 n) = ty.I32
type_of (I64 n) = ty.I64

abbrev pub types_of : List Num → List ValType
types_of vs = map type_of vs

-- What an instruction does to operands: it puts some in place of others, or it takes some and never goes on to what stands
-- behind it.
pub data InstrType : Type 0 where
  Replaces : (takes puts : List ValType) → InstrType
  Leaves : (takes : List ValType) → InstrType

-- An instruction has a type under labels, to which branches take operands of these types, the innermost label first (3.3.1 to
-- 3.3.5). What begins, divides or ends a sequence has none.
pub data HasType (x : Context) (ls : List (List ValType)) : Instr → InstrType → Type 0 where
  unreachable : HasType x ls instr.Unreachable (Leaves [])
  nop : HasType x ls instr.Nop (Replaces [] [])
  br : (n : ℕ) (bs : List ValType) → slice_get ls n ≡ Some bs → HasType x ls (instr.Br n) (Leaves (reverse bs))
  br_if : (n : ℕ) (bs : List ValType) → slice_get ls n ≡ Some bs → HasType x ls (instr.BrIf n) (Replaces (ty.I32 ∷ reverse bs) (reverse bs))
  br_table : (labels : List ℕ) (default : ℕ) (bs : List ValType) → slice_get ls default ≡ Some bs → ((k n : ℕ) → slice_get labels k ≡ Some n → slice_get ls n ≡ Some bs) → HasType x ls (instr.BrTable default labels) (Leaves (ty.I32 ∷ reverse bs))
  returns : HasType x ls instr.Return (Leaves (reverse x.returns))
  call : (f : ℕ) (t : FuncType) → func_type x.module_ f ≡ Some t → HasType x ls (instr.Call f) (Replaces (reverse t.params) (reverse (option_to_list t.result)))
  call_indirect : (k : ℕ) (t : FuncType) (table : Limits) → slice_get x.module_.tables 0 ≡ Some table → slice_get x.module_.types k ≡ Some t → HasType x ls (instr.CallIndirect k) (Replaces (ty.I32 ∷ reverse t.params) (reverse (option_to_list t.result)))
  drop : (t : ValType) → HasType x ls instr.Drop (Replaces (t ∷ []) [])
  select : (t : ValType) → HasType x ls instr.Select (Replaces (ty.I32 ∷ t ∷ t ∷ []) (t ∷ []))
  local_get : (n : ℕ) (t : ValType) → slice_get x.locals n ≡ Some t → HasType x ls (instr.LocalGet n) (Replaces [] (t ∷ []))
  local_set : (n : ℕ) (t : ValType) → slice_get x.locals n ≡ Some t → HasType x ls (instr.LocalSet n) (Replaces (t ∷ []) [])
  local_tee : (n : ℕ) (t : ValType) → slice_get x.locals n ≡ Some t → HasType x ls (instr.LocalTee n) (Replaces (t ∷ []) (t ∷ []))
  global_get : (n : ℕ) (g : GlobalDef) → slice_get x.module_.globals n ≡ Some g → HasType x ls (instr.GlobalGet n) (Replaces [] (g.ty ∷ []))
  global_set : (n : ℕ) (g : GlobalDef) → slice_get x.module_.globals n ≡ Some g → g.mutable ≡ true → HasType x ls (instr.GlobalSet n) (Replaces (g.ty ∷ []) [])
  load : (kind : LoadKind) (at : MemoryArgument) (memory : Limits) → slice_get x.module_.memories 0 ≡ Some memory → nat_le at.align (natural_alignment (load_width kind)) ≡ true → HasType x ls (instr.Load kind at) (Replaces (ty.I32 ∷ []) (load_type kind ∷ []))
  store : (kind : StoreKind) (at : MemoryArgument) (memory : Limits) → slice_get x.module_.memories 0 ≡ Some memory → nat_le at.align (natural_alignment (store_width kind)) ≡ true → HasType x ls (instr.Store kind at) (Replaces (store_type kind ∷ ty.I32 ∷ []) [])
  memory_size : (memory : Limits) → slice_get x.module_.memories 0 ≡ Some memory → HasType x ls instr.MemorySize (Replaces [] (ty.I32 ∷ []))
  memory_grow : (memory : Limits) → slice_get x.module_.memories 0 ≡ Some memory → HasType x ls instr.MemoryGrow (Replaces (ty.I32 ∷ []) (ty.I32 ∷ []))
  i32_const : (z : ℤ) → HasType x ls (instr.I32Const z) (Replaces [] (ty.I32 ∷ []))
  i64_const : (z : ℤ) → HasType x ls (instr.I64Const z) (Replaces [] (ty.I64 ∷ []))
  is_zero : (t : ValType) → HasType x ls (instr.IsZero t) (Replaces (t ∷ []) (ty.I32 ∷ []))
  compare : (t : ValType) (comparison : Comparison) → HasType x ls (instr.Compare t comparison) (Replaces (t ∷ t ∷ []) (ty.I32 ∷ []))
  unary : (t : ValType) (operator : UnaryOperator) → HasType x ls (instr.Unary t operator) (Replaces (t ∷ []) (t ∷ []))
  binary : (t : ValType) (operator : BinaryOperator) → HasType x ls (instr.Binary t operator) (Replaces (t ∷ t ∷ []) (t ∷ []))
  convert : (conversion : Conversion) → HasType x ls (instr.Convert conversion) (Replaces (converts_from conversion ∷ []) (converts_to conversion ∷ []))

-- From operands of the first types the instruction goes on, over what lies below, to operands of which this holds; or it never
-- goes on.
abbrev pub TakesTo : InstrType → List ValType → (List ValType → Type 0) → Type 0
TakesTo (Replaces takes puts) ts goes = (below : List ValType) × (ts ≡ takes ++ below) × goes (puts ++ below)
TakesTo (Leaves takes) ts goes = (below : List ValType) × (ts ≡ takes ++ below)

pub record RunsInstr (x : Context) (ls : List (List ValType)) (i : Instr) (ts : List ValType) (goes : List ValType → Type 0) : Type 0 where
  pub ty : InstrType
  pub has : HasType x ls i ty
  pub takes : TakesTo ty ts goes

-- Code leads from operands of these types to those of its results, and finds no others at its end, unless it never comes there
-- (3.3.6). What stands behind an instruction that never goes on may be anything.
abbrev pub IsTypedCode : Context → List (List ValType) → List ValType → Code → List ValType → Type 0
IsTypedCode x ls results Ends ts = ts ≡ reverse results
IsTypedCode x ls results (Plain i rest) ts = RunsInstr x ls i ts (IsTypedCode x ls results rest)
IsTypedCode x ls results (Choice result a b rest) ts =
    (below : List ValType)
    × (ts ≡ ty.I32 ∷ below)
    × IsTypedCode x (option_to_list result ∷ ls) (option_to_list result) a []
    × IsTypedCode x (option_to_list result ∷ ls) (option_to_list result) b []
    × IsTypedCode x ls results rest (reverse (option_to_list result) ++ below)
IsTypedCode x ls results (Block result body rest) ts =
    IsTypedCode x (option_to_list result ∷ ls) (option_to_list result) body []
    × IsTypedCode x ls results rest (reverse (option_to_list result) ++ ts)
IsTypedCode x ls results (Repeat result body rest) ts =
    IsTypedCode x ([] ∷ ls) (option_to_list result) body []
    × IsTypedCode x ls results rest (reverse (option_to_list result) ++ ts)
