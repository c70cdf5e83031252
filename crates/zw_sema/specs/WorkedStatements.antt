-- Statements worked out by hand (Zig Language Reference 0.13.0, Variables, Blocks, if, while, for): what is told of a text, and its sessions.
use Rattle.std.specs.Prelude.{◌≡◌, ℕ, true, false, List, [], ◌∷◌, codes}
use Rattle.zw_session.specs.Sessions as session
use Rattle.zw_session.specs.Sessions.{Truth, Finished}
use Rattle.zw_tree.specs.Trees.{Forest}
use Rattle.zw_tree.specs.declared.ast.Entry.{Entry}
use Rattle.zw_tree.specs.declared.kind.NodeKind.TheVariants as kind
use Rattle.zw_sema.specs.Building.{mention, number, parameter, export_of, return_of, called, n, gives, ends}
use Rattle.zw_sema.specs.WorkedExpressions.{c, f, u8, bool}
use Rattle.zw_sema.specs.FlowTexts.{a_const, var_of, update, when, runs}

abbrev pub x : List ℕ
x = codes "x"

-- `export fn f(c: bool) u8 {`, of which the first statement begins in column 26
abbrev pub on_truth : List (Forest Entry) → List (Forest Entry)
on_truth statements = export_of 1 f (parameter 13 c bool ∷ []) 22 u8 statements ∷ []

-- `export fn f() u8 {`, of which the first statement begins in column 20
abbrev pub plain : List (Forest Entry) → List (Forest Entry)
plain statements = export_of 1 f [] 15 u8 statements ∷ []

abbrev pub is : ℕ → session.Session
is k = ends (gives (n k) ∷ []) Finished

pub record WorkedFirst : Type 0 where
  -- `return 7;`
  pub seven : runs (plain (return_of 20 (number 27 7) ∷ [])) (called f [] ∷ []) [] 0 ≡ is 7
  -- `const x = 5; return x;`, and `var x: u8 = 5; x += 1; return x;`
  pub constant : runs (plain (a_const 20 x (number 30 5) ∷ return_of 33 (mention 40 x) ∷ [])) (called f [] ∷ []) [] 0 ≡ is 5
  pub variable : runs (plain (var_of 20 x u8 (number 32 5) ∷ update kind.AddAssign 35 (mention 35 x) (number 40 1) ∷ return_of 43 (mention 50 x) ∷ [])) (called f [] ∷ []) [] 0 ≡ is 6
  -- `if (c) return 1; return 2;`
  pub either : runs (on_truth (when 26 (mention 30 c) (return_of 33 (number 40 1)) ∷ return_of 43 (number 50 2) ∷ [])) (called f (Truth true ∷ []) ∷ []) [] 0 ≡ is 1
  pub other : runs (on_truth (when 26 (mention 30 c) (return_of 33 (number 40 1)) ∷ return_of 43 (number 50 2) ∷ [])) (called f (Truth false ∷ []) ∷ []) [] 0 ≡ is 2
