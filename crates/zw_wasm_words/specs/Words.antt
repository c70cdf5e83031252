-- Words: numbers as the machine keeps them, in words of 64 bits. A word says nothing of its type: it holds an i32 in its
-- lowest 32 bits, whatever the others are.
use Rattle.std.specs.Prelude.{◌≡◌, ℕ, ◌^◌, ◌%◌, List, [], ◌∷◌, ◌++◌, replicate}
use Rattle.zw_wasm.specs.declared.module.ValType.{ValType}
use Rattle.zw_wasm.specs.declared.module.ValType.TheVariants as ty
use Rattle.zw_wasm.specs.declared.num.Num.{Num}
use Rattle.zw_wasm.specs.declared.num.Num.TheVariants.{I32, I64}

-- the bits of the number of a type that a word holds
abbrev pub bits_in : ValType → ℕ → ℕ
bits_in ty.I32 w = w % 2 ^ 32
bits_in ty.I64 w = w

-- a word holds a number
abbrev pub Holds : ℕ → Num → Type 0
Holds w (I32 n) = n ≡ w % 2 ^ 32
Holds w (I64 n) = n ≡ w

-- words hold numbers, one by one
abbrev pub Hold : List ℕ → List Num → Type 0
Hold [] [] = Unit {0}
Hold (w ∷ ws) (v ∷ vs) = Holds w v × Hold ws vs
Hold [] (v ∷ vs) = ⊥
Hold (w ∷ ws) [] = ⊥

-- the words of locals that begin at 0
abbrev pub zero_words : List (ℕ × ValType) → List ℕ
zero_words [] = []
zero_words (run ∷ runs) = replicate run.0 0 ++ zero_words runs
