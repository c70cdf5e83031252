-- A declaration that isn't reached, and another in its place, worked out by hand.
use Rattle.std.specs.Prelude.{◌≡◌, true, false, [], ◌∷◌, codes}
use Rattle.zw_tree.specs.Trees.{Forest}
use Rattle.zw_tree.specs.declared.ast.Entry.{Entry}
use Rattle.zw_tree.specs.declared.kind.NodeKind.TheVariants as kind
use Rattle.zw_sema.specs.Files.{analysed, is_reached}
use Rattle.zw_sema.specs.Unreached.{IsAnother}
use Rattle.zw_sema.specs.Building.{mention, number, typed_const, plain_const, enough, file}
use Rattle.zw_sema.specs.WorkedExpressions.{a, b, u8, of_two}
use Rattle.zw_sema.specs.WorkedDeclarations.{gives_back}

-- `export fn f() u8 { return 7; }`, and `const a` behind it, the node 8
abbrev pub behind_seven : Forest Entry → Forest Entry
behind_seven constant = file (gives_back 1 (number 27 7) ∷ constant ∷ [])

-- `const a: u8 = true;` and `const a = b + 1;`
abbrev pub wrong : Forest Entry
wrong = behind_seven (typed_const 32 a u8 (mention 46 (codes "true")))

abbrev pub unknown : Forest Entry
unknown = behind_seven (plain_const 32 a (of_two kind.Add 42 (mention 42 b) (number 46 1)))

-- `export fn f() u8 { return a; } const a: u8 = true;`
abbrev pub mentioned : Forest Entry
mentioned = file (gives_back 1 (mention 27 a) ∷ typed_const 32 a u8 (mention 46 (codes "true")) ∷ [])

pub record WorkedUnreached : Type 0 where
  -- the two files differ in the constant alone, and nothing mentions it
  pub another : IsAnother wrong unknown 8
  pub not_reached : is_reached 8 (analysed enough wrong) ≡ false
  -- where it is mentioned it is reached, though the file is refused for it
  pub reached : is_reached 8 (analysed enough mentioned) ≡ true
