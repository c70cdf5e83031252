-- Exported functions worked out by hand (Zig Language Reference 0.13.0): what is told of a text, and its sessions.
use Rattle.std.specs.Prelude.{◌≡◌, ℕ, ◌^◌, true, List, [], ◌∷◌, codes}
use Rattle.zw_base.specs.declared.stop.StopKind.TheVariants.{Error, Limit}
use Rattle.zw_session.specs.Sessions.{Truth, Finished}
use Rattle.zw_tree.specs.Trees.{Forest}
use Rattle.zw_tree.specs.declared.ast.Entry.{Entry}
use Rattle.zw_tree.specs.declared.kind.NodeKind.{NodeKind}
use Rattle.zw_tree.specs.declared.kind.NodeKind.TheVariants as kind
use Rattle.zw_sema.specs.Building.{form, mention, number, builtin, parens, parameter, export_of, return_of, Fine, Stops, told, called, run, n, minus, gives, ends, panics}

abbrev pub a : List ℕ
a = codes "a"

abbrev pub b : List ℕ
b = codes "b"

abbrev pub c : List ℕ
c = codes "c"

abbrev pub f : List ℕ
f = codes "f"

abbrev pub u8 : List ℕ
u8 = codes "u8"

abbrev pub i64 : List ℕ
i64 = codes "i64"

abbrev pub bool : List ℕ
bool = codes "bool"

-- two operands behind one another: one byte, ` + ` or another sign of one byte with blanks, and the next operand
abbrev pub of_two : NodeKind → ℕ → Forest Entry → Forest Entry → Forest Entry
of_two kind column left right = form kind column (left ∷ right ∷ [])

-- `export fn f(a: u8, b: u8) u8 { return a + b; }`
abbrev pub sum : List (Forest Entry)
sum = export_of 1 f (parameter 13 a u8 ∷ parameter 20 b u8 ∷ []) 27 u8 (return_of 32 (of_two kind.Add 39 (mention 39 a) (mention 43 b)) ∷ []) ∷ []

-- `export fn f() bool { return (1 << n) > 0; }`
abbrev pub shifted : ℕ → List (Forest Entry)
shifted n =
    export_of 1 f [] 15 bool
    (return_of 22 (of_two kind.Greater 29 (parens 29 (of_two kind.ShiftLeft 30 (number 30 1) (number 35 n))) (number 42 0)) ∷ []) ∷ []

-- `export fn f(a: i64, b: i64) i64 { return E; }`
abbrev pub of_longs : Forest Entry → List (Forest Entry)
of_longs value = export_of 1 f (parameter 13 a i64 ∷ parameter 21 b i64 ∷ []) 29 i64 (return_of 35 value ∷ []) ∷ []

abbrev pub builtin_on_longs : List ℕ → List (Forest Entry)
builtin_on_longs text = of_longs (builtin 42 text (mention 60 a ∷ mention 63 b ∷ []))

abbrev pub product : List (Forest Entry)
product = of_longs (of_two kind.Multiply 42 (mention 42 a) (mention 46 b))

-- `export fn f() T { return E; }` with a type of two letters
abbrev pub constant : List ℕ → Forest Entry → List (Forest Entry)
constant ty value = export_of 1 f [] 15 ty (return_of 20 value ∷ []) ∷ []

pub record WorkedIntegers : Type 0 where
  -- 255 is the last value of `u8`
  pub sum_is_fine : told sum ≡ Fine
  pub sum_holds : run sum (called f (n 255 ∷ n 0 ∷ []) ∷ []) [] ≡ ends (gives (n 255) ∷ []) Finished
  pub sum_past : run sum (called f (n 200 ∷ n 100 ∷ []) ∷ []) [] ≡ ends [] (panics 1)
  -- 2 to the 126th is in the range of `comptime_int`, and 2 to the 127th isn't: told at the shift, which begins in column 30
  pub shift_is_fine : run (shifted 126) (called f [] ∷ []) [] ≡ ends (gives (Truth true) ∷ []) Finished
  pub shift_past : told (shifted 127) ≡ Stops (Limit 9) 30
  -- the least `i64` has no negative in its type
  pub product_past : run product (called f (minus (2 ^ 63) ∷ minus 1 ∷ []) ∷ []) [] ≡ ends [] (panics 1)
  pub product_zero : run product (called f (n 5 ∷ n 0 ∷ []) ∷ []) [] ≡ ends (gives (n 0) ∷ []) Finished
  pub quotient_past : run (builtin_on_longs (codes "divTrunc")) (called f (minus (2 ^ 63) ∷ minus 1 ∷ []) ∷ []) [] ≡ ends [] (panics 1)
  pub quotient_of_zero : run (builtin_on_longs (codes "divTrunc")) (called f (n 5 ∷ n 0 ∷ []) ∷ []) [] ≡ ends [] (panics 7)
  -- a remainder has a value where the quotient has none
  pub rest : run (builtin_on_longs (codes "rem")) (called f (minus (2 ^ 63) ∷ minus 1 ∷ []) ∷ []) [] ≡ ends (gives (n 0) ∷ []) Finished
  pub rest_of_zero : run (builtin_on_longs (codes "rem")) (called f (n 5 ∷ n 0 ∷ []) ∷ []) [] ≡ ends [] (panics 7)
  -- `return -1;` as an `i8`: the host sees the whole number
  pub negative : run (constant (codes "i8") (form kind.Negate 27 (number 28 1 ∷ []))) (called f [] ∷ []) [] ≡ ends (gives (minus 1) ∷ []) Finished
  -- a known number that isn't in the wanted type, a truth value where a number is wanted, and a type of more than 64 bits
  pub past_type : told (constant u8 (number 27 256)) ≡ Stops (Error 15) 27
  pub no_number : told (constant u8 (mention 27 (codes "true"))) ≡ Stops (Error 14) 27
  pub too_wide : told (constant (codes "u65") (number 28 0)) ≡ Stops (Limit 12) 15
