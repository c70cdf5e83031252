-- Types as values, worked out by hand (Zig Language Reference 0.13.0, Types, @TypeOf): they are compared, named by constants, and wanted.
use Rattle.std.specs.Prelude.{◌≡◌, true, false, Bool, List, [], ◌∷◌, codes}
use Rattle.zw_base.specs.declared.stop.StopKind.TheVariants.{Error}
use Rattle.zw_session.specs.Sessions as session
use Rattle.zw_session.specs.Sessions.{Truth, Finished}
use Rattle.zw_tree.specs.Trees.{Forest}
use Rattle.zw_tree.specs.declared.ast.Entry.{Entry}
use Rattle.zw_tree.specs.declared.kind.NodeKind.TheVariants as kind
use Rattle.zw_sema.specs.Building.{mention, number, builtin, parameter, export_of, return_of, plain_const, Stops, told, called, run, n, gives, ends, panics}
use Rattle.zw_sema.specs.WorkedExpressions.{a, b, f, u8, bool, of_two, constant}

-- what `export fn f() bool { return E; }` gives, where E begins in column 29
abbrev pub whether : Forest Entry → session.Session
whether value = run (constant bool value) (called f [] ∷ []) []

abbrev pub is : Bool → session.Session
is answer = ends (gives (Truth answer) ∷ []) Finished

-- `const T = u8; export fn f(a: T) T { return a + 1; }`
abbrev pub named : List (Forest Entry)
named =
    plain_const 1 (codes "T") (mention 11 u8)
    ∷ export_of 15 f (parameter 27 a (codes "T") ∷ []) 33 (codes "T") (return_of 37 (of_two kind.Add 44 (mention 44 a) (number 48 1)) ∷ []) ∷ []

pub record WorkedTypes : Type 0 where
  -- `u8 == u8`, `u8 == u16`, `u8 != i8`, `bool == u8`
  pub same : whether (of_two kind.Equal 29 (mention 29 u8) (mention 35 u8)) ≡ is true
  pub wider : whether (of_two kind.Equal 29 (mention 29 u8) (mention 35 (codes "u16"))) ≡ is false
  pub signed : whether (of_two kind.NotEqual 29 (mention 29 u8) (mention 35 (codes "i8"))) ≡ is true
  pub truths : whether (of_two kind.Equal 29 (mention 29 bool) (mention 37 u8)) ≡ is false
  -- `usize == u32`: `usize` is a type of its own
  pub size : whether (of_two kind.Equal 29 (mention 29 (codes "usize")) (mention 38 (codes "u32"))) ≡ is false
  -- `@TypeOf(1) == comptime_int`
  pub literal : whether (of_two kind.Equal 29 (builtin 29 (codes "TypeOf") (number 37 1 ∷ [])) (mention 43 (codes "comptime_int"))) ≡ is true
  -- `bool == true`: a type and a truth value have no peer type, told at the comparison
  pub no_peer : told (constant bool (of_two kind.Equal 29 (mention 29 bool) (mention 37 (codes "true")))) ≡ Stops (Error 14) 29
  -- `bool < u8`: types have no order
  pub no_order : told (constant bool (of_two kind.Less 29 (mention 29 bool) (mention 36 u8))) ≡ Stops (Error 20) 29
  -- `export fn f(a: u8) bool { return @TypeOf(a) == u8; }`: the type is known, the value isn't
  pub of_parameter :
      run (export_of 1 f (parameter 13 a u8 ∷ []) 20 bool (return_of 27 (of_two kind.Equal 34 (builtin 34 (codes "TypeOf") (mention 42 a ∷ [])) (mention 48 u8)) ∷ []) ∷ []) (called f (n 7 ∷ []) ∷ []) []
      ≡ is true
  -- `export fn f(a: u8, b: u16) bool { return @TypeOf(a, b) == u16; }`: the peer type
  pub of_peers :
      run (export_of 1 f (parameter 13 a u8 ∷ parameter 20 b (codes "u16") ∷ []) 28 bool
      (return_of 35 (of_two kind.Equal 42 (builtin 42 (codes "TypeOf") (mention 50 a ∷ mention 53 b ∷ [])) (mention 59 (codes "u16"))) ∷ []) ∷ []) (called f (n 7 ∷ n 8 ∷ []) ∷ []) []
      ≡ is true
  -- a constant names a type: the parameter and the result are of it
  pub by_name : run named (called f (n 7 ∷ []) ∷ []) [] ≡ ends (gives (n 8) ∷ []) Finished
  pub by_name_past : run named (called f (n 255 ∷ []) ∷ []) [] ≡ ends [] (panics 1)
