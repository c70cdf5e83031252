-- What the bytes of a module ask of it beside numbers of 32 bits: its names are UTF-8, its exports are of a kind that
-- there is, each list of instructions ends where its own end stands, and each function has its code. And which lists of
-- instructions end so: those of the grammar, which are made of closed ones.
use Rattle.std.specs.Prelude.{◌≡◌, ◌<◌, ◌^◌, Bool, true, List, [], ◌∷◌, ◌++◌, length, Option, None, IsUtf8}
use Rattle.std.specs.List.{AllByRecursion}
use Rattle.zw_wasm.specs.declared.module.FuncImport.{FuncImport}
use Rattle.zw_wasm.specs.declared.module.GlobalDef.{GlobalDef}
use Rattle.zw_wasm.specs.declared.module.ExportDef.{ExportDef}
use Rattle.zw_wasm.specs.declared.module.Element.{Element}
use Rattle.zw_wasm.specs.declared.module.DataSegment.{DataSegment}
use Rattle.zw_wasm.specs.declared.module.CodeBody.{CodeBody}
use Rattle.zw_wasm.specs.declared.module.Instr.{Instr}
use Rattle.zw_wasm.specs.declared.module.Instr.TheVariants.{Unreachable, Block, Loop, If, Else, End}
use Rattle.zw_wasm.specs.declared.module.Module.{Module}
use Rattle.zw_wasm.specs.declared.module.ValType.{ValType}
use Rattle.zw_wasm.specs.Structure.{is_plain}
use Rattle.zw_wasm.specs.ModuleBytes.{ClosesIn, EndsOnce, local_count}

abbrev pub HasNames : FuncImport → Type 0
HasNames i = IsUtf8 i.module × IsUtf8 i.field

abbrev pub IsWellFormedExport : ExportDef → Type 0
IsWellFormedExport e = IsUtf8 e.name × (e.kind < 4)

abbrev pub IsWellFormedCode : CodeBody → Type 0
IsWellFormedCode c = (local_count c.locals < 2 ^ 32) × EndsOnce c.instrs

pub record IsWellFormed (m : Module) : Type 0 where
  pub same_count : length m.funcs ≡ length m.codes
  pub imports : AllByRecursion HasNames m.imports
  pub globals : AllByRecursion (λ (g : GlobalDef). EndsOnce g.init) m.globals
  pub exports : AllByRecursion IsWellFormedExport m.exports
  pub elements : AllByRecursion (λ (e : Element). EndsOnce e.at) m.elements
  pub codes : AllByRecursion IsWellFormedCode m.codes
  pub datas : AllByRecursion (λ (d : DataSegment). EndsOnce d.at) m.datas

-- ---- sequences of instructions

-- a plain instruction (6.5)
abbrev pub IsPlain : Instr → Type 0
IsPlain i = is_plain i ≡ true

-- Instructions that end all that they begin, and nothing else: they may stand before any others.
pub record IsClosed (is : List Instr) : Type 0 where
  pub by : (open_ifs : List Bool) (rest : List Instr) → ClosesIn open_ifs rest → ClosesIn open_ifs (is ++ rest)

-- a block, and a loop
abbrev pub block_of : Option ValType → List Instr → List Instr
block_of result is = Block result ∷ is ++ End ∷ []

abbrev pub loop_of : Option ValType → List Instr → List Instr
loop_of result is = Loop result ∷ is ++ End ∷ []

-- an `if` with what it chooses, or nothing
abbrev pub if_block : Option ValType → List Instr → List Instr
if_block result is = If result ∷ is ++ End ∷ []

-- an `if` with the two that it chooses from
abbrev pub if_else_block : Option ValType → List Instr → List Instr → List Instr
if_else_block result is js = If result ∷ is ++ Else ∷ js ++ End ∷ []

-- What is closed: plain instructions, one closed list after another, and a block, a loop or an `if` round closed lists.
-- Such a list and an `end` are an expression.
pub record SequencesClose : Type 0 where
  pub nothing : IsClosed []
  pub plain : (i : Instr) → IsPlain i → IsClosed (i ∷ [])
  pub then : (is js : List Instr) → IsClosed is → IsClosed js → IsClosed (is ++ js)
  pub in_block : (result : Option ValType) (is : List Instr) → IsClosed is → IsClosed (block_of result is)
  pub in_loop : (result : Option ValType) (is : List Instr) → IsClosed is → IsClosed (loop_of result is)
  pub chosen : (result : Option ValType) (is : List Instr) → IsClosed is → IsClosed (if_block result is)
  pub chosen_from_two : (result : Option ValType) (is js : List Instr) → IsClosed is → IsClosed js → IsClosed (if_else_block result is js)
  pub ends : (is : List Instr) → IsClosed is → EndsOnce (is ++ End ∷ [])

-- Lists of instructions that are an expression, and some that are none.
pub record ExpressionsEnd : Type 0 where
  pub of_if : EndsOnce (If None ∷ Unreachable ∷ End ∷ End ∷ [])
  pub of_else : EndsOnce (If None ∷ Else ∷ If None ∷ Else ∷ End ∷ End ∷ End ∷ [])
  pub of_block : EndsOnce (Block None ∷ Loop None ∷ If None ∷ Else ∷ End ∷ End ∷ End ∷ End ∷ [])
  pub no_end : ¬ EndsOnce (If None ∷ End ∷ [])
  pub behind_end : ¬ EndsOnce (If None ∷ End ∷ End ∷ Unreachable ∷ [])
  pub second_end : ¬ EndsOnce (If None ∷ End ∷ End ∷ End ∷ [])
  pub no_if : ¬ EndsOnce (Else ∷ End ∷ [])
  pub else_in_block : ¬ EndsOnce (Block None ∷ Else ∷ End ∷ End ∷ [])
  pub else_in_loop : ¬ EndsOnce (If None ∷ Loop None ∷ Else ∷ End ∷ End ∷ End ∷ [])
  pub second_else : ¬ EndsOnce (If None ∷ Else ∷ Else ∷ End ∷ End ∷ [])
  pub else_behind_if : ¬ EndsOnce (If None ∷ End ∷ Else ∷ End ∷ End ∷ [])

-- A sequence of instructions by the grammar (5.4.1): plain ones, a block or a loop round a sequence, and an `if` with one
-- sequence or two inside it.
pub data IsSequence : List Instr → Type 0 where
  empty : IsSequence []
  plain : (i : Instr) (is : List Instr) → IsPlain i → IsSequence is → IsSequence (i ∷ is)
  in_block : (result : Option ValType) (is rest : List Instr) → IsSequence is → IsSequence rest → IsSequence (block_of result is ++ rest)
  in_loop : (result : Option ValType) (is rest : List Instr) → IsSequence is → IsSequence rest → IsSequence (loop_of result is ++ rest)
  chosen : (result : Option ValType) (is rest : List Instr) → IsSequence is → IsSequence rest → IsSequence (if_block result is ++ rest)
  chosen_from_two : (result : Option ValType) (is js rest : List Instr) → IsSequence is → IsSequence js → IsSequence rest → IsSequence (if_else_block result is js ++ rest)

-- a sequence and its end, which is an expression by the grammar (5.4.6)
pub record IsEndedSequence (instrs : List Instr) : Type 0 where
  pub sequence : List Instr
  pub by_grammar : IsSequence sequence
  pub whole : instrs ≡ sequence ++ End ∷ []
