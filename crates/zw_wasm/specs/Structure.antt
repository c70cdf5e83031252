-- Structure: numbers, and code as it is executed (WebAssembly Core Specification 1.0, 4.2). A body's flat list becomes
-- code in which what a block, a loop or an `if` holds is inside it, and which ends by itself, so that reduction has no step
-- for an `else` or an `end`.
use Rattle.std.specs.Prelude.{◌≡◌, ℕ, ℤ, ◌^◌, ◌%◌, Bool, true, false, List, [], ◌∷◌, ◌++◌, replicate, Option, if◌then◌else◌}
use Rattle.std.specs.Int.{Width, cast_unsigned, w32, w64}
use Rattle.zw_wasm.specs.declared.module.BinaryOperator.TheVariants.{Add, Sub}
use Rattle.zw_wasm.specs.declared.module.Comparison.TheVariants.{LtU}
use Rattle.zw_wasm.specs.declared.module.Instr.{Instr}
use Rattle.zw_wasm.specs.declared.module.Instr.TheVariants.{Loop, If, Else, End}
use Rattle.zw_wasm.specs.declared.module.Instr.TheVariants as instr
use Rattle.zw_wasm.specs.declared.module.ValType.{ValType}
use Rattle.zw_wasm.specs.declared.module.ValType.TheVariants as ty
pub use Rattle.zw_wasm.specs.declared.num.Num.{Num}
pub use Rattle.zw_wasm.specs.declared.num.Num.TheVariants.{I32, I64}

-- the operators on i32 that stand most often
abbrev pub i32_add : Instr
i32_add = instr.Binary ty.I32 Add

abbrev pub i32_sub : Instr
i32_sub = instr.Binary ty.I32 Sub

abbrev pub i32_lt_u : Instr
i32_lt_u = instr.Compare ty.I32 LtU

-- how wide the numbers of a type are
abbrev pub width_of : ValType → Width
width_of ty.I32 = w32
width_of ty.I64 = w64

-- the number of a type with these bits, of which it has room for all
abbrev pub number : ValType → ℕ → Num
number ty.I32 n = I32 n
number ty.I64 n = I64 n

-- the number of a type with these bits, of which it takes the lowest
abbrev pub num_of : ValType → ℕ → Num
num_of ty.I32 n = I32 (n % 2 ^ 32)
num_of ty.I64 n = I64 (n % 2 ^ 64)

-- the number without its width
abbrev pub bits_of : Num → ℕ
bits_of (I32 n) = n
bits_of (I64 n) = n

-- the bits of a constant of 32 bits, in two's complement
abbrev pub word_of : ℤ → ℕ
word_of z = cast_unsigned w32 z

-- and of one of 64 bits
abbrev pub long_of : ℤ → ℕ
long_of z = cast_unsigned w64 z

-- Code: instructions one after another, to its end. A choice has the code for an operand that isn't 0, and that for 0.
pub data Code : Type 0 where
  Ends : Code
  Plain : (instr : Instr) (rest : Code) → Code
  Choice : (result : Option ValType) (then_code else_code : Code) (rest : Code) → Code
  Block : (result : Option ValType) (body : Code) (rest : Code) → Code
  Repeat : (result : Option ValType) (body : Code) (rest : Code) → Code

-- the code of a sequence, and whether an `else` ends it, or else an `end`
pub record Part : Type 0 where
  pub code : Code
  pub by_else : Bool

abbrev pub first_part : List Part → Part
first_part [] = record { code = Ends; by_else = false }
first_part (p ∷ ps) = p

abbrev pub other_parts : List Part → List Part
other_parts [] = []
other_parts (p ∷ ps) = ps

-- the first part with something before it
abbrev pub begun_with : (Code → Code) → List Part → List Part
begun_with before ps = record { code = before (first_part ps).code; by_else = (first_part ps).by_else } ∷ other_parts ps

-- a choice without an `else`, of the first part and nothing
abbrev pub choice_of_one : Option ValType → List Part → List Part
choice_of_one result ps = begun_with (λ rest. Choice result (first_part ps).code Ends rest) (other_parts ps)

-- a choice of the first part and the second
abbrev pub choice_of_two : Option ValType → List Part → List Part
choice_of_two result ps =
    begun_with (λ rest. Choice result (first_part ps).code (first_part (other_parts ps)).code rest) (other_parts (other_parts ps))

-- a choice, by how its first part ends
abbrev pub choice_of : Option ValType → List Part → List Part
choice_of result ps = if (first_part ps).by_else then choice_of_two result ps else choice_of_one result ps

-- the first part in a block, or in a loop
abbrev pub block_of : Option ValType → List Part → List Part
block_of result ps = begun_with (λ rest. Block result (first_part ps).code rest) (other_parts ps)

abbrev pub loop_of : Option ValType → List Part → List Part
loop_of result ps = begun_with (λ rest. Repeat result (first_part ps).code rest) (other_parts ps)

-- The code of a flat list in parts, of which each but the last has its `end` or `else` behind it: the first is what the
-- list begins with, up to where it ends; the second begins there, and is what stands round the first.
abbrev pub parts : List Instr → List Part
parts [] = []
parts (End ∷ is) = record { code = Ends; by_else = false } ∷ parts is
parts (Else ∷ is) = record { code = Ends; by_else = true } ∷ parts is
parts (If result ∷ is) = choice_of result (parts is)
parts (instr.Block result ∷ is) = block_of result (parts is)
parts (Loop result ∷ is) = loop_of result (parts is)
parts (i ∷ is) = begun_with (λ rest. Plain i rest) (parts is)

-- the code of a flat list, up to the end of its outermost sequence
abbrev pub code_of : List Instr → Code
code_of is = (first_part (parts is)).code

-- a plain instruction, which begins, divides or ends no sequence (6.5)
abbrev pub is_plain : Instr → Bool
is_plain (instr.Block result) = false
is_plain (Loop result) = false
is_plain (If result) = false
is_plain Else = false
is_plain End = false
is_plain i = true

-- The flat list of some code, without the `end` behind it (5.4.1). A choice whose second code is empty is written with an
-- `else` or without.
pub data Spells : Code → List Instr → Type 0 where
  nothing : Spells Ends []
  plain : (i : Instr) (rest : Code) (is : List Instr) → is_plain i ≡ true → Spells rest is → Spells (Plain i rest) (i ∷ is)
  of_block : (result : Option ValType) (a rest : Code) (is js : List Instr) → Spells a is → Spells rest js → Spells (Block result a rest) (instr.Block result ∷ is ++ End ∷ js)
  of_loop : (result : Option ValType) (a rest : Code) (is js : List Instr) → Spells a is → Spells rest js → Spells (Repeat result a rest) (Loop result ∷ is ++ End ∷ js)
  without_else : (result : Option ValType) (a rest : Code) (is js : List Instr) → Spells a is → Spells rest js → Spells (Choice result a Ends rest) (If result ∷ is ++ End ∷ js)
  with_else : (result : Option ValType) (a b rest : Code) (is js ks : List Instr) → Spells a is → Spells b js → Spells rest ks → Spells (Choice result a b rest) (If result ∷ is ++ Else ∷ js ++ End ∷ ks)

-- the locals of a body begin at 0 (4.4.7.1)
abbrev pub zeros : List (ℕ × ValType) → List Num
zeros [] = []
zeros (run ∷ runs) = replicate run.0 (num_of run.1 0) ++ zeros runs
