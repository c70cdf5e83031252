-- Arguments: what the words of a call's arguments stand for, and the numbers that they are by the types of its parameters. This
-- project's own.
use Rattle.std.specs.Prelude.{◌≡◌, ℕ, true, false, List, [], ◌∷◌, map, codes, Option, Some, None, if◌then◌else◌, ℤ, pos}
use Rattle.std.specs.Str.{bytes_eq}
use Rattle.zw_base.specs.Numbers.{number_spelt}
use Rattle.zw_report.specs.declared.arg.Arg.{Arg}
use Rattle.zw_report.specs.declared.arg.Arg.TheVariants.{Number, Truth}
use Rattle.zw_wasm.specs.declared.module.ValType.{ValType}
use Rattle.zw_wasm.specs.declared.module.ValType.TheVariants as ty
use Rattle.zw_wasm.specs.declared.num.Num.{Num}
use Rattle.zw_wasm.specs.declared.num.Num.TheVariants as num
use Rattle.zw_calls.specs.Numbers.{IsNarrow, IsWide, modulo}
use Rattle.zw_calls.specs.declared.arguments.Arguments.{Arguments}

-- what an argument's word stands for: a truth value, or a number of any size
abbrev pub argument_of : List ℕ → Arg
argument_of word =
    if bytes_eq word (codes "true") then Truth true else (if bytes_eq word (codes "false") then Truth false else Number (number_spelt word))

-- the number that an argument is: `true` is 1 and `false` is 0
abbrev pub number_of : Arg → ℤ
number_of (Number number) = number
number_of (Truth truth) = if truth then pos 1 else pos 0

-- an `i32` takes -2^31 to 2^32 - 1, and an `i64` -2^63 to 2^64 - 1
abbrev pub IsTaken : ValType → ℤ → Type 0
IsTaken ty.I32 number = IsNarrow number
IsTaken ty.I64 number = IsWide number

-- the number of this type that an argument is, modulo the type's width
abbrev pub typed : ValType → ℤ → Num
typed ty.I32 number = num.I32 (modulo 4294967296 number)
typed ty.I64 number = num.I64 (modulo 18446744073709551616 number)

-- there is an argument for each type, and each type takes its own
abbrev pub Fit : List ValType → List (List ℕ) → Type 0
Fit [] [] = Unit {0}
Fit [] (word ∷ words) = ⊥
Fit (type ∷ types) [] = ⊥
Fit (type ∷ types) (word ∷ words) = IsTaken type (number_of (argument_of word)) × Fit types words

-- the numbers by these types
abbrev pub typed_all : List ValType → List (List ℕ) → List Num
typed_all [] words = []
typed_all (type ∷ types) [] = []
typed_all (type ∷ types) (word ∷ words) = typed type (number_of (argument_of word)) ∷ typed_all types words

-- the arguments that the words are by these types, or none where they don't fit
abbrev pub AreArguments : List ValType → List (List ℕ) → Option Arguments → Type 0
AreArguments types words None = Fit types words → ⊥
AreArguments types words (Some read) =
    Fit types words × (read.values ≡ map argument_of words) × (read.numbers ≡ typed_all types words)
