-- The code of checked operators.
use Rattle.std.specs.Prelude.{ℕ, pos, ◌+◌, List, [], ◌∷◌, ◌++◌, None}
use Rattle.zw_session.specs.Causes.{integer_overflow}
use Rattle.zw_wasm.specs.declared.module.Instr.{Instr}
use Rattle.zw_wasm.specs.declared.module.Instr.TheVariants.{Unreachable, If, End, LocalGet, LocalSet, GlobalSet, I32Const}
use Rattle.zw_wasm.specs.Structure.{i32_add, i32_lt_u, i32_sub}

-- a panic with this cause and no message: the cause and where the message lies are set, and the code traps
abbrev pub panic_code : ℕ → List Instr
panic_code cause =
    I32Const (pos cause) ∷ GlobalSet 0 ∷ I32Const (pos 0) ∷ GlobalSet 1 ∷ I32Const (pos 0) ∷ GlobalSet 2 ∷ Unreachable ∷ []

-- the same where the operand isn't 0
abbrev pub if_panics : ℕ → List Instr
if_panics cause = If None ∷ panic_code cause ++ End ∷ []

-- both operands into the first two of the eight locals, the right one into the first; and back
abbrev pub kept : ℕ → List Instr
kept scratch = LocalSet scratch ∷ LocalSet (scratch + 1) ∷ LocalGet (scratch + 1) ∷ LocalGet scratch ∷ []

-- whether a local is less than another one
abbrev pub less : ℕ → ℕ → List Instr
less local other = LocalGet local ∷ LocalGet other ∷ i32_lt_u ∷ []

-- a sum is less than an operand exactly where it is not in the type
abbrev pub add_code : ℕ → List Instr
add_code scratch =
    kept scratch ++ i32_add ∷ LocalSet scratch ∷ less scratch (scratch + 1) ++ if_panics integer_overflow ++ LocalGet scratch ∷ []

-- a difference isn't in the type exactly where the left operand is less than the right one
abbrev pub sub_code : ℕ → List Instr
sub_code scratch =
    kept scratch ++ i32_lt_u ∷ if_panics integer_overflow ++ LocalGet (scratch + 1) ∷ LocalGet scratch ∷ i32_sub ∷ []
