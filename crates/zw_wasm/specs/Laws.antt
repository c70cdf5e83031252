-- Laws: what the definitions of validity and reduction owe to those who build on them.
use Rattle.std.specs.Prelude.{◌≡◌, ℕ, ◌+◌, ◌≤◌, true, false, nat_eq, List, [], ◌∷◌, ◌++◌, length, reverse, Option, Some, None, slice_get}
use Rattle.std.specs.Option.{option_to_list}
use Rattle.zw_session.specs.Bounds.{StaysEnded}
use Rattle.zw_session.specs.Sessions.{Scalar}
use Rattle.zw_wasm.specs.declared.module.Instr.{Instr}
use Rattle.zw_wasm.specs.declared.module.Instr.TheVariants.{Unreachable, Loop, If, Else, End, Br, BrIf, Return, LocalGet, LocalSet}
use Rattle.zw_wasm.specs.declared.module.Instr.TheVariants as instr
use Rattle.zw_wasm.specs.declared.module.Module.{Module}
use Rattle.zw_wasm.specs.declared.module.ValType.{ValType}
use Rattle.zw_wasm.specs.declared.module.ValType.TheVariants.{I32, I64}
use Rattle.zw_wasm.specs.declared.num.Num.{Num}
use Rattle.zw_wasm.specs.declared.num.Num.TheVariants as num
use Rattle.zw_wasm.specs.ModuleBytes.{EndsOnce}
use Rattle.zw_wasm.specs.ModuleMachine.{carrier, comes_in, module_machine}
use Rattle.zw_wasm.specs.Reduction.{Config, Frame, Label, World, Stop, labelled, under_label, under_loop}
use Rattle.zw_wasm.specs.Sequences.{IsCodeOf, LeavesIn, Runs, Halts, Takes, TakesIn, at_body_end, at_label, placed}
use Rattle.zw_wasm.specs.Signature.{Reading, Unsigned, Signed, Logical, View, is_in_range}
use Rattle.zw_wasm.specs.Structure.{Code, Ends, Plain, Choice, Block, Repeat, Spells, code_of, i32_add}
use Rattle.zw_wasm.specs.Typing.{Context}
use Rattle.zw_wasm.specs.WellFormed.{block_of, if_block, if_else_block, loop_of}

-- Two runs, one from where the other leads to, are one run; and two sequences, one of which takes what the other
-- leaves, are one sequence.
pub record SequencesCompose : Type 0 where
  pub run : (m : Module) (v : View) (c d e : Config) (i j : ℕ) → Runs m v c d i → Runs m v d e j → Runs m v c e (i + j)
  pub halts : (m : Module) (v : View) (c d : Config) (s : Stop) (w : World) (i j : ℕ) → Runs m v c d i → Halts m v d s w j → Halts m v c s w (i + j)
  pub typed : (x : Context) (is js : List Instr) (ts us vs : List ValType) → Takes x is ts us → Takes x js us vs → Takes x (is ++ js) ts vs

-- What blocks, loops and branches do wherever they stand. A branch takes along as many operands as its label wants, and a
-- return as many as the function has results; the others are left behind.
pub record BranchesRun : Type 0 where
  pub block : (m : Module) (v : View) (c : Config) (t : Option ValType) (body rest : Code) (os : List Num) → Runs m v (placed (Block t body rest) os c) (under_label t body (placed rest os c)) 1
  pub loop : (m : Module) (v : View) (c : Config) (t : Option ValType) (body rest : Code) (os : List Num) → Runs m v (placed (Repeat t body rest) os c) (under_loop t body (placed rest os c)) 1
  -- the end of what a label is round takes no instruction
  pub ends : (m : Module) (v : View) (c : Config) (arity : ℕ) (branch code rest : Code) (os below : List Num) → Runs m v (placed Ends os (labelled arity branch code (placed rest below c))) (placed rest (os ++ below) c) 0
  pub branch : (m : Module) (v : View) (c : Config) (n : ℕ) (l : Label) (rest : Code) (vs os : List Num) → slice_get c.frame.labels n ≡ Some l → length vs ≡ l.arity → Runs m v (placed (Plain (Br n) rest) (vs ++ os) c) (at_label l n vs c) 1
  pub branch_if : (m : Module) (v : View) (c : Config) (n x : ℕ) (l : Label) (rest : Code) (vs os : List Num) → slice_get c.frame.labels n ≡ Some l → length vs ≡ l.arity → nat_eq x 0 ≡ false → Runs m v (placed (Plain (BrIf n) rest) (num.I32 x ∷ vs ++ os) c) (at_label l n vs c) 1
  pub branch_if_not : (m : Module) (v : View) (c : Config) (n : ℕ) (rest : Code) (os : List Num) → Runs m v (placed (Plain (BrIf n) rest) (num.I32 0 ∷ os) c) (placed rest os c) 1
  pub returns : (m : Module) (v : View) (c : Config) (rest : Code) (vs os : List Num) → length vs ≡ c.frame.arity → Runs m v (placed (Plain Return rest) (vs ++ os) c) (at_body_end vs c) 1
  -- a return leaves its results to the frame below
  pub body_end : (m : Module) (v : View) (c : Config) (f : Frame) (below : List Frame) (vs : List Num) → c.below ≡ f ∷ below → Runs m v (at_body_end vs c) (record c { frame = record f { operands = vs ++ f.operands }; below = below }) 0

-- How sequences with blocks, loops and branches are typed wherever they stand. A branch finds its operands above others, the
-- last type first.
pub record BranchesAreTyped : Type 0 where
  pub anywhere : (x : Context) (ls : List (List ValType)) (is : List Instr) (ts us : List ValType) → Takes x is ts us → TakesIn x ls is ts us
  pub then : (x : Context) (ls : List (List ValType)) (is js : List Instr) (ts us vs : List ValType) → TakesIn x ls is ts us → TakesIn x ls js us vs → TakesIn x ls (is ++ js) ts vs
  pub then_leaves : (x : Context) (ls : List (List ValType)) (is js : List Instr) (ts us : List ValType) → TakesIn x ls is ts us → LeavesIn x ls js us → LeavesIn x ls (is ++ js) ts
  pub branch : (x : Context) (ls : List (List ValType)) (n : ℕ) (bs ts : List ValType) → slice_get ls n ≡ Some bs → LeavesIn x ls (Br n ∷ []) (reverse bs ++ ts)
  pub branch_if : (x : Context) (ls : List (List ValType)) (n : ℕ) (bs ts : List ValType) → slice_get ls n ≡ Some bs → TakesIn x ls (BrIf n ∷ []) (I32 ∷ reverse bs ++ ts) (reverse bs ++ ts)
  pub returns : (x : Context) (ls : List (List ValType)) (ts : List ValType) → LeavesIn x ls (Return ∷ []) (reverse x.returns ++ ts)
  pub unreachable : (x : Context) (ls : List (List ValType)) (ts : List ValType) → LeavesIn x ls (Unreachable ∷ []) ts
  pub block : (x : Context) (ls : List (List ValType)) (t : Option ValType) (is : List Instr) (ts : List ValType) → IsCodeOf x (option_to_list t ∷ ls) t is → TakesIn x ls (block_of t is) ts (option_to_list t ++ ts)
  pub loop : (x : Context) (ls : List (List ValType)) (t : Option ValType) (is : List Instr) (ts : List ValType) → IsCodeOf x ([] ∷ ls) t is → TakesIn x ls (loop_of t is) ts (option_to_list t ++ ts)
  pub one : (x : Context) (ls : List (List ValType)) (is : List Instr) (ts : List ValType) → IsCodeOf x ([] ∷ ls) None is → TakesIn x ls (if_block None is) (I32 ∷ ts) ts
  pub two : (x : Context) (ls : List (List ValType)) (t : Option ValType) (is js : List Instr) (ts : List ValType) → IsCodeOf x (option_to_list t ∷ ls) t is → IsCodeOf x (option_to_list t ∷ ls) t js → TakesIn x ls (if_else_block t is js) (I32 ∷ ts) (option_to_list t ++ ts)

-- a declared type whose values a number of WebAssembly can carry
abbrev pub IsCarried : Reading → Type 0
IsCarried (Unsigned bits) = bits ≤ 64
IsCarried (Signed bits) = bits ≤ 64
IsCarried Logical = Unit {0}

-- every value in the range of a declared type can be handed over as a number of the type that carries it
abbrev pub ValuesComeIn : Type 0
ValuesComeIn = (r : Reading) (value : Scalar) → IsCarried r → is_in_range r value ≡ true → comes_in (carrier r) value ≡ true

-- a call of any module that ended stays ended, with the same record, under a larger bound
abbrev pub ModulesStayEnded : Type 0
ModulesStayEnded = (m : Module) (v : View) → StaysEnded (module_machine m v)

-- A flat list spells the code that it is read as.
pub record HasCode (is : List Instr) : Type 0 where
  pub front : List Instr
  pub spelled : Spells (code_of is) front
  pub ends : is ≡ front ++ End ∷ []

-- What flat lists become: what is spelled is read back, and what that is for some lists.
pub record CodeIsStructured : Type 0 where
  -- up to the `end`, whatever stands behind it
  pub spelled : (c : Code) (is rest : List Instr) → Spells c is → code_of (is ++ End ∷ rest) ≡ c
  -- every list that has an end of its own and nothing behind it is such a list
  pub read : (is : List Instr) → EndsOnce is → HasCode is
  pub behind_end : code_of (LocalGet 0 ∷ End ∷ LocalGet 1 ∷ End ∷ []) ≡ Plain (LocalGet 0) Ends
  -- one code, and two; what follows is behind the choice
  pub one : code_of (LocalGet 0 ∷ If None ∷ Unreachable ∷ End ∷ LocalGet 1 ∷ End ∷ []) ≡ Plain (LocalGet 0) (Choice None (Plain Unreachable Ends) Ends (Plain (LocalGet 1) Ends))
  pub two : code_of (LocalGet 0 ∷ If (Some I32) ∷ LocalGet 1 ∷ Else ∷ LocalGet 2 ∷ LocalGet 3 ∷ i32_add ∷ End ∷ LocalSet 4 ∷ End ∷ []) ≡ Plain (LocalGet 0) (Choice (Some I32) (Plain (LocalGet 1) Ends) (Plain (LocalGet 2) (Plain (LocalGet 3) (Plain i32_add Ends))) (Plain (LocalSet 4) Ends))
  pub empty : code_of (If None ∷ Else ∷ End ∷ End ∷ []) ≡ Choice None Ends Ends Ends
  -- one after the other, and one in the other: an `else` belongs to the innermost `if` that is open
  pub in_turn : code_of (If None ∷ LocalGet 0 ∷ End ∷ If (Some I64) ∷ LocalGet 1 ∷ Else ∷ LocalGet 2 ∷ End ∷ End ∷ []) ≡ Choice None (Plain (LocalGet 0) Ends) Ends (Choice (Some I64) (Plain (LocalGet 1) Ends) (Plain (LocalGet 2) Ends) Ends)
  pub nested : code_of (If None ∷ LocalGet 0 ∷ If (Some I32) ∷ LocalGet 1 ∷ Else ∷ LocalGet 2 ∷ End ∷ LocalSet 3 ∷ End ∷ LocalGet 4 ∷ End ∷ []) ≡ Choice None (Plain (LocalGet 0) (Choice (Some I32) (Plain (LocalGet 1) Ends) (Plain (LocalGet 2) Ends) (Plain (LocalSet 3) Ends))) Ends (Plain (LocalGet 4) Ends)
  pub outer_else : code_of (If None ∷ If None ∷ LocalGet 0 ∷ End ∷ LocalGet 1 ∷ Else ∷ LocalGet 2 ∷ End ∷ LocalGet 3 ∷ End ∷ []) ≡ Choice None (Choice None (Plain (LocalGet 0) Ends) Ends (Plain (LocalGet 1) Ends)) (Plain (LocalGet 2) Ends) (Plain (LocalGet 3) Ends)
  pub in_else : code_of (If None ∷ LocalGet 0 ∷ Else ∷ If None ∷ LocalGet 1 ∷ Else ∷ LocalGet 2 ∷ End ∷ LocalGet 3 ∷ End ∷ End ∷ []) ≡ Choice None (Plain (LocalGet 0) Ends) (Choice None (Plain (LocalGet 1) Ends) (Plain (LocalGet 2) Ends) (Plain (LocalGet 3) Ends)) Ends
  -- blocks and loops, in turn, in one another, and in an `if`
  pub block : code_of (instr.Block (Some I32) ∷ LocalGet 0 ∷ End ∷ LocalGet 1 ∷ End ∷ []) ≡ Block (Some I32) (Plain (LocalGet 0) Ends) (Plain (LocalGet 1) Ends)
  pub loop : code_of (instr.Block None ∷ Loop None ∷ Br 0 ∷ End ∷ Br 1 ∷ End ∷ LocalGet 0 ∷ End ∷ []) ≡ Block None (Repeat None (Plain (Br 0) Ends) (Plain (Br 1) Ends)) (Plain (LocalGet 0) Ends)
  pub block_in_if : code_of (If None ∷ instr.Block None ∷ LocalGet 0 ∷ End ∷ Else ∷ Loop None ∷ End ∷ LocalGet 1 ∷ End ∷ End ∷ []) ≡ Choice None (Block None (Plain (LocalGet 0) Ends) Ends) (Repeat None Ends (Plain (LocalGet 1) Ends)) Ends
