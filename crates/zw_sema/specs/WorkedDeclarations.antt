-- Constants of a file worked out by hand (Zig Language Reference 0.13.0, Container Level Variables).
use Rattle.std.specs.Prelude.{◌≡◌, ℕ, ◌+◌, [], ◌∷◌, codes}
use Rattle.zw_base.specs.declared.stop.StopKind.TheVariants.{Error}
use Rattle.zw_session.specs.Sessions.{Finished}
use Rattle.zw_tree.specs.Trees.{Forest}
use Rattle.zw_tree.specs.declared.ast.Entry.{Entry}
use Rattle.zw_tree.specs.declared.kind.NodeKind.TheVariants as kind
use Rattle.zw_sema.specs.Building.{form, mention, name, number, export_of, return_of, typed_const, Fine, Stops, told, called, run, n, gives, ends}
use Rattle.zw_sema.specs.WorkedExpressions.{a, b, f, u8, of_two}

-- `export fn f() u8 { return E; }` from this column on, where E begins 26 columns later
abbrev pub gives_back : ℕ → Forest Entry → Forest Entry
gives_back column value = export_of column f [] (column + 14) u8 (return_of (column + 19) value ∷ [])

pub record WorkedConstants : Type 0 where
  -- `const a: u8 = b + 1; const b: u8 = a; export fn f() u8 { return a; }`: `a` needs `b`, which needs `a`
  pub loop :
      told (typed_const 1 a u8 (of_two kind.Add 15 (mention 15 b) (number 19 1)) ∷ typed_const 22 b u8 (mention 36 a) ∷ gives_back 39 (mention 65 a) ∷ [])
      ≡ Stops (Error 26) 36
  -- `const a: u8 = 255; export fn f() u8 { return a + 1; }`: a sum of known numbers, told at the sum
  pub known_sum_past : told (typed_const 1 a u8 (number 15 255) ∷ gives_back 20 (of_two kind.Add 46 (mention 46 a) (number 50 1)) ∷ []) ≡ Stops (Error 21) 46
  -- `const a: u8 = 254; ..`: 255
  pub known_sum :
      run (typed_const 1 a u8 (number 15 254) ∷ gives_back 20 (of_two kind.Add 46 (mention 46 a) (number 50 1)) ∷ []) (called f [] ∷ []) []
      ≡ ends (gives (n 255) ∷ []) Finished
  -- `export fn f() u8 { return 7; } const a: u8 = true;`: nothing mentions the constant
  pub not_reached : told (gives_back 1 (number 27 7) ∷ typed_const 32 a u8 (mention 46 (codes "true")) ∷ []) ≡ Fine
  -- `fn b() u8 { return true; } export fn f() u8 { return 7; }`
  pub function_not_reached :
      run (form kind.Function 1 (name 4 b ∷ mention 8 u8 ∷ form kind.Block 11 (return_of 13 (mention 20 (codes "true")) ∷ []) ∷ []) ∷ gives_back 28 (number 54 7) ∷ [])
      (called f [] ∷ []) [] ≡ ends (gives (n 7) ∷ []) Finished
