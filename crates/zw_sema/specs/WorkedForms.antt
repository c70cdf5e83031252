-- Further forms worked out by hand: on which types operators and builtins are defined, and what functions may be (Zig Language Reference
-- 0.13.0, Operators, Builtin Functions, Functions).
use Rattle.std.specs.Prelude.{◌≡◌, ℕ, ◌+◌, suc, zero, true, List, [], ◌∷◌, None, codes}
use Rattle.zw_base.specs.declared.stop.StopKind.TheVariants.{Error, Limit}
use Rattle.zw_session.specs.Sessions as session
use Rattle.zw_session.specs.Sessions.{Truth, Finished}
use Rattle.zw_tree.specs.Trees.{Forest}
use Rattle.zw_tree.specs.declared.ast.Entry.{Entry}
use Rattle.zw_tree.specs.declared.kind.NodeKind.{NodeKind}
use Rattle.zw_tree.specs.declared.kind.NodeKind.TheVariants as kind
use Rattle.zw_sema.specs.Building.{form, written, mention, number, builtin, parens, parameter, export_of, extern_of, return_of, plain_const, Fine, Stops, told, called, run, n, minus, gives, ends, panics}
use Rattle.zw_sema.specs.WorkedExpressions.{a, b, c, f, u8, bool, of_two, constant}
use Rattle.zw_sema.specs.WorkedHost.{h, call}

-- `export fn f(a: u8, b: u8) u8 { return E; }`, where E begins in column 39
abbrev pub of_bytes : Forest Entry → List (Forest Entry)
of_bytes value = export_of 1 f (parameter 13 a u8 ∷ parameter 20 b u8 ∷ []) 27 u8 (return_of 32 value ∷ []) ∷ []

-- `a S 0`, `a S b` with a sign of one letter
abbrev pub by : NodeKind → Forest Entry → Forest Entry
by kind right = of_two kind 39 (mention 39 a) right

-- the result of `f(a, b)`
abbrev pub result : Forest Entry → ℕ → ℕ → session.Session
result value x y = run (of_bytes value) (called f (n x ∷ n y ∷ []) ∷ []) []

abbrev pub is : ℕ → session.Session
is k = ends (gives (n k) ∷ []) Finished

-- parentheses in parentheses, so many, around the number 1
abbrev pub nested : ℕ → ℕ → Forest Entry
nested zero column = number column 1
nested (suc k) column = parens column (nested k (column + 1))

pub record WorkedOperators : Type 0 where
  -- unsigned division: a denominator of 0 panics where it isn't known, and is illegal where it is
  pub quotient : result (by kind.Divide (mention 43 b)) 7 2 ≡ is 3
  pub by_zero : result (by kind.Divide (mention 43 b)) 7 0 ≡ ends [] (panics 7)
  pub by_known_zero : told (of_bytes (by kind.Remainder (number 43 0))) ≡ Stops (Error 21) 39
  -- `5 / 0` on `comptime_int`, and `-5 / 2`: the numerator has to be at least 0 and the denominator above 0
  pub literal_by_zero : told (constant u8 (of_two kind.Divide 27 (number 27 5) (number 31 0))) ≡ Stops (Error 20) 27
  pub negative_numerator : told (constant u8 (of_two kind.Divide 27 (form kind.Negate 27 (number 28 5 ∷ [])) (number 32 2))) ≡ Stops (Error 20) 27
  -- operators on types where they aren't defined: `-a` on `u8`, `!1`, `~1`, `true + 1`, `true < 1`; and `true == 1` has no peer type
  pub negated_byte : told (of_bytes (form kind.Negate 39 (mention 40 a ∷ []))) ≡ Stops (Error 20) 39
  pub not_number : told (constant bool (form kind.Not 29 (number 30 1 ∷ []))) ≡ Stops (Error 20) 29
  pub not_literal : told (constant u8 (form kind.BitNot 27 (number 28 1 ∷ []))) ≡ Stops (Error 20) 27
  pub truth_sum : told (constant u8 (of_two kind.Add 27 (mention 27 (codes "true")) (number 34 1))) ≡ Stops (Error 20) 27
  pub truth_order : told (constant bool (of_two kind.Less 29 (mention 29 (codes "true")) (number 36 1))) ≡ Stops (Error 20) 29
  pub truth_number : told (constant bool (of_two kind.Equal 29 (mention 29 (codes "true")) (number 37 1))) ≡ Stops (Error 14) 29
  -- comparisons of exact values: `a < 300` holds for each byte
  pub exact : run (export_of 1 f (parameter 13 a u8 ∷ []) 20 bool (return_of 27 (of_two kind.Less 34 (mention 34 a) (number 38 300)) ∷ []) ∷ []) (called f (n 255 ∷ []) ∷ []) []
      ≡ ends (gives (Truth true) ∷ []) Finished
  -- `a +% b` and `a +| b`
  pub wraps : result (by kind.AddWrap (mention 44 b)) 255 2 ≡ is 1
  pub stays : result (by kind.AddSaturate (mention 44 b)) 255 2 ≡ is 255
  -- `@min(a, b)`, `@intFromBool(a == b)`, `@as(i8, @bitCast(a))` as what is returned of an `i8`
  pub least : result (builtin 39 (codes "min") (mention 44 a ∷ mention 47 b ∷ [])) 9 4 ≡ is 4
  pub from_truth : result (builtin 39 (codes "intFromBool") (of_two kind.Equal 52 (mention 52 a) (mention 57 b) ∷ [])) 5 5 ≡ is 1
  pub same_bits :
      run (export_of 1 f (parameter 13 a u8 ∷ []) 20 (codes "i8") (return_of 25 (builtin 32 (codes "bitCast") (mention 41 a ∷ [])) ∷ []) ∷ []) (called f (n 255 ∷ []) ∷ []) []
      ≡ ends (gives (minus 1) ∷ []) Finished
  -- a number of operands that is wrong, and a builtin that isn't built yet
  pub one_operand : told (of_bytes (builtin 39 (codes "divTrunc") (mention 49 a ∷ []))) ≡ Stops (Error 18) 39
  pub unbuilt : told (of_bytes (builtin 39 (codes "tagName") (mention 48 a ∷ []))) ≡ Stops (Error 36) 39
  -- `@as(comptime_int, a) + 1`: a byte that isn't known becomes a `comptime_int`, and the first form that uses it needs it known
  pub unknown_literal :
      told (of_bytes (of_two kind.Add 39 (builtin 39 (codes "as") (mention 43 (codes "comptime_int") ∷ mention 57 a ∷ [])) (number 62 1))) ≡ Stops (Error 16) 39
  -- `return @as(comptime_int, a)` and `@as(u8, @as(comptime_int, a))`: the form that uses it is the return, and the outer `@as`
  pub returned_literal : told (of_bytes (builtin 39 (codes "as") (mention 43 (codes "comptime_int") ∷ mention 57 a ∷ []))) ≡ Stops (Error 16) 32
  pub cast_literal :
      told (of_bytes (builtin 39 (codes "as") (mention 43 u8 ∷ builtin 47 (codes "as") (mention 51 (codes "comptime_int") ∷ mention 65 a ∷ []) ∷ []))) ≡ Stops (Error 16) 39
  -- a number past 2 ^ 127 - 1 has no value
  pub past_literal : told (constant u8 (written kind.Number 27 [] None [])) ≡ Stops (Limit 9) 27
  -- parentheses in one another, nearly as deep as a text may nest
  pub deep : run (constant u8 (nested 252 27)) (called f [] ∷ []) [] ≡ is 1

pub record WorkedFunctions : Type 0 where
  -- `export fn f() void { }`
  pub empty : run (export_of 1 f [] 15 (codes "void") [] ∷ []) (called f [] ∷ []) [] ≡ ends (session.Result None ∷ []) Finished
  -- `export fn f() u8 { }`: told at the function
  pub no_return : told (export_of 1 f [] 15 u8 [] ∷ []) ≡ Stops (Error 32) 1
  -- `return;` where a value is wanted
  pub bare_return : told (export_of 1 f [] 15 u8 (form kind.Return 20 [] ∷ []) ∷ []) ≡ Stops (Error 14) 20
  -- types that an export can't have, and names that a module exports anyway
  pub odd_width : told (export_of 1 f (parameter 13 a (codes "u7") ∷ []) 20 (codes "void") [] ∷ []) ≡ Stops (Error 33) 1
  pub reserved : told (export_of 1 (codes "memory") [] 20 (codes "void") [] ∷ []) ≡ Stops (Error 33) 1
  -- `extern fn h(x: u8) u7;`: told at the extern where it is mentioned, and not at all where it isn't
  pub odd_extern : told (extern_of 1 h (parameter 13 (codes "x") u8 ∷ []) 20 (codes "u7") ∷ export_of 24 f [] 38 u8 (return_of 43 (call 50 (number 52 1 ∷ [])) ∷ []) ∷ []) ≡ Stops (Error 33) 1
  pub unmentioned : told (extern_of 1 h (parameter 13 (codes "x") u8 ∷ []) 20 (codes "u7") ∷ export_of 24 f [] 38 u8 (return_of 43 (number 50 1) ∷ []) ∷ []) ≡ Fine
  -- `h(a);` leaves a value
  pub ignored : told (extern_of 1 h (parameter 13 (codes "x") u8 ∷ []) 20 u8 ∷ export_of 24 f (parameter 36 a u8 ∷ []) 43 (codes "void") (call 50 (mention 52 a ∷ []) ∷ []) ∷ []) ≡ Stops (Error 28) 50
  -- what is called isn't a function
  pub no_function : told (plain_const 1 h (number 11 1) ∷ export_of 14 f [] 28 u8 (return_of 33 (call 40 []) ∷ []) ∷ []) ≡ Stops (Error 18) 40
  -- a statement that isn't built yet; behind a return none is looked at
  pub unbuilt_statement : told (export_of 1 f [] 15 u8 (plain_const 20 a (number 30 1) ∷ return_of 33 (mention 40 a) ∷ []) ∷ []) ≡ Stops (Error 36) 20
  pub behind_return : told (export_of 1 f [] 15 u8 (return_of 20 (number 27 1) ∷ plain_const 30 a (number 40 1) ∷ []) ∷ []) ≡ Fine
  -- a name that nothing has
  pub unknown : told (constant u8 (mention 27 c)) ≡ Stops (Error 9) 27
