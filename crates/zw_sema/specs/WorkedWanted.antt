-- Which parts have a wanted type, and where it is told that they can't become of it, worked out by hand (Zig Language Reference 0.13.0,
-- Result Location Semantics, Type Coercion).
use Rattle.std.specs.Prelude.{◌≡◌, List, [], ◌∷◌, codes}
use Rattle.zw_base.specs.declared.stop.StopKind.TheVariants.{Error}
use Rattle.zw_session.specs.Sessions.{Finished}
use Rattle.zw_tree.specs.Trees.{Forest}
use Rattle.zw_tree.specs.declared.ast.Entry.{Entry}
use Rattle.zw_tree.specs.declared.kind.NodeKind.TheVariants as kind
use Rattle.zw_sema.specs.Building.{form, mention, number, builtin, parens, parameter, export_of, return_of, typed_const, plain_const, Fine, Stops, told, called, run, n, gives, ends, panics}
use Rattle.zw_sema.specs.WorkedExpressions.{a, b, f, u8, of_two, constant}
use Rattle.zw_sema.specs.WorkedDeclarations.{gives_back}

-- `export fn f(a: u8, b: u16) u16 { return E; }`, where E begins in column 41
abbrev pub of_bytes : Forest Entry → List (Forest Entry)
of_bytes value = export_of 1 f (parameter 13 a u8 ∷ parameter 20 b (codes "u16") ∷ []) 28 (codes "u16") (return_of 34 value ∷ []) ∷ []

-- `@as(u8, E)` in column 27
abbrev pub as_byte : Forest Entry → Forest Entry
as_byte value = builtin 27 (codes "as") (mention 31 u8 ∷ value ∷ [])

pub record WorkedWanted : Type 0 where
  -- the initialiser of a typed constant
  pub initialiser : told (typed_const 1 a u8 (number 15 256) ∷ gives_back 20 (mention 46 a) ∷ []) ≡ Stops (Error 15) 15
  -- the second operand of `@as`
  pub as_operand : told (constant u8 (as_byte (number 35 256))) ≡ Stops (Error 15) 35
  -- parentheses pass on the wanted type: told at what is inside
  pub in_parentheses : told (constant u8 (parens 27 (number 28 256))) ≡ Stops (Error 15) 28
  -- the operands of a sum have none, so that one that doesn't fit the peer type is told at the sum: `a + 300`
  pub in_sum : told (of_bytes (of_two kind.Add 41 (mention 41 a) (number 45 300))) ≡ Stops (Error 15) 41
  -- a `u8` becomes a `u16` in `a + b`, which is the peer type
  pub peer : run (of_bytes (of_two kind.Add 41 (mention 41 a) (mention 45 b))) (called f (n 255 ∷ n 300 ∷ []) ∷ []) [] ≡ ends (gives (n 555) ∷ []) Finished
  -- but a sum of two `u8` is one, and becomes a `u16` only then
  pub narrow : run (of_bytes (of_two kind.Add 41 (mention 41 a) (mention 45 a))) (called f (n 200 ∷ n 0 ∷ []) ∷ []) [] ≡ ends [] (panics 1)
  -- the amount of a shift of a `u8` is a `u3`
  pub amount : told (of_bytes (of_two kind.ShiftLeft 41 (mention 41 a) (number 46 8))) ≡ Stops (Error 15) 46
  pub amount_fits : run (of_bytes (of_two kind.ShiftLeft 41 (mention 41 a) (number 46 7))) (called f (n 3 ∷ n 0 ∷ []) ∷ []) [] ≡ ends (gives (n 128) ∷ []) Finished
  -- `@intCast` takes its type from what is wanted, and wants one
  pub cast : run (constant u8 (builtin 27 (codes "intCast") (number 36 7 ∷ []))) (called f [] ∷ []) [] ≡ ends (gives (n 7) ∷ []) Finished
  pub cast_of_none : told (plain_const 1 a (builtin 11 (codes "intCast") (number 20 7 ∷ [])) ∷ gives_back 24 (mention 50 a) ∷ []) ≡ Stops (Error 29) 11
  -- a known number that `@intCast` can't give is illegal while compiling
  pub cast_past : told (constant u8 (builtin 27 (codes "intCast") (number 36 256 ∷ []))) ≡ Stops (Error 21) 27
  -- comparisons take any two integers: `@sizeOf(u8) == 1`, where `@sizeOf` is a `comptime_int`
  pub measured : told (constant (codes "bool") (of_two kind.Equal 29 (builtin 29 (codes "sizeOf") (mention 37 u8 ∷ [])) (number 44 1))) ≡ Fine
  -- `@as(@TypeOf(a), 7)` with a `u8`
  pub type_of :
      run (of_bytes (builtin 41 (codes "as") (builtin 45 (codes "TypeOf") (mention 53 a ∷ []) ∷ number 57 7 ∷ []))) (called f (n 0 ∷ n 0 ∷ []) ∷ []) []
      ≡ ends (gives (n 7) ∷ []) Finished
  -- the amount of a shift of a `comptime_int` is one too, and has to be known: `1 << a`, told at the shift
  pub literal_amount : told (of_bytes (of_two kind.ShiftLeft 41 (number 41 1) (mention 46 a))) ≡ Stops (Error 16) 41
  -- a left operand that is no integer wants nothing of the right one: `true << 300`, told at the shift
  pub no_amount : told (of_bytes (of_two kind.ShiftLeft 41 (mention 41 (codes "true")) (number 49 300))) ≡ Stops (Error 20) 41
  -- the amount of `<<|` is of any unsigned type: `b <<| a` with a `u8`, which holds at the greatest `u16`; and none below 0: `a <<| -1`
  pub saturating_amount : run (of_bytes (of_two kind.ShiftLeftSaturate 41 (mention 41 b) (mention 47 a))) (called f (n 200 ∷ n 1 ∷ []) ∷ []) [] ≡ ends (gives (n 65535) ∷ []) Finished
  pub negative_amount : told (of_bytes (of_two kind.ShiftLeftSaturate 41 (mention 41 a) (form kind.Negate 47 (number 48 1 ∷ [])))) ≡ Stops (Error 20) 41
  -- the operands of `@min` have none, so that one that doesn't fit the peer type is told at the builtin: `@min(a, 300)`
  pub in_least : told (of_bytes (builtin 41 (codes "min") (mention 46 a ∷ number 49 300 ∷ []))) ≡ Stops (Error 15) 41
