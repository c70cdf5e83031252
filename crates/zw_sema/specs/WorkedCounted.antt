-- What sessions count, added up by hand: visits, moved bytes and work.
use Rattle.std.specs.Prelude.{◌≡◌, true, List, [], ◌∷◌, codes}
use Rattle.zw_session.specs.Sessions.{Truth}
use Rattle.zw_tree.specs.Trees.{Forest}
use Rattle.zw_tree.specs.declared.ast.Entry.{Entry}
use Rattle.zw_tree.specs.declared.kind.NodeKind.TheVariants as kind
use Rattle.zw_sema.specs.Building.{form, mention, number, parameter, export_of, return_of, called}
use Rattle.zw_sema.specs.WorkedExpressions.{c, f, u8, bool}
use Rattle.zw_sema.specs.WorkedStatements.{x}
use Rattle.zw_sema.specs.FlowTexts.{block, var_of, update, when, no_capture, range, call_of, fn_of, counts, g, void}

-- `export fn f() u8 { return 7; }`
abbrev pub seven_text : List (Forest Entry)
seven_text =
    export_of 1 f [] 15 u8 (return_of 20 (number 27 7) ∷ []) ∷ []

-- `export fn f() u8 { var x: u8 = 5; x += 1; return x; }`
abbrev pub variable_text : List (Forest Entry)
variable_text =
    export_of 1 f [] 15 u8 (var_of 20 x u8 (number 32 5) ∷ update kind.AddAssign 35 (mention 35 x) (number 40 1) ∷
    return_of 43 (mention 50 x) ∷ []) ∷ []

-- `fn g(x: u8) u8 { return x; } export fn f() u8 { return g(4); }`
abbrev pub through_call_text : List (Forest Entry)
through_call_text =
    fn_of 1 g (parameter 6 x u8 ∷ []) 13 u8 (return_of 18 (mention 25 x) ∷ []) ∷
    export_of 30 f [] 44 u8 (return_of 49 (call_of 56 g (number 58 4 ∷ [])) ∷ []) ∷ []

-- `export fn f(c: bool) u8 { if (c) return 1; return 2; }`
abbrev pub choice_text : List (Forest Entry)
choice_text =
    export_of 1 f (parameter 13 c bool ∷ []) 22 u8 (when 27 (mention 31 c) (return_of 34 (number 41 1)) ∷ return_of 44 (number 51 2) ∷
    []) ∷ []

-- `export fn f() void { for (0..2) |_| {} }`
abbrev pub range_text : List (Forest Entry)
range_text =
    export_of 1 f [] 15 void (form kind.For 22 (range 27 (number 27 0) (number 30 2) ∷ no_capture 34 ∷ block 37 [] ∷ []) ∷ []) ∷ []

-- `export fn f() void { while (true) {} }`
abbrev pub for_ever_text : List (Forest Entry)
for_ever_text =
    export_of 1 f [] 15 void (form kind.While 22 (mention 29 (codes "true") ∷ block 35 [] ∷ []) ∷ []) ∷ []

-- `export fn f() u8 { return 7; }`
abbrev pub twice_text : List (Forest Entry)
twice_text =
    export_of 1 f [] 15 u8 (return_of 20 (number 27 7) ∷ []) ∷ []

pub record WorkedCounted : Type 0 where
  -- the call 32, the block 2, the return 4, the number 2, and a byte that is returned 16
  pub seven : counts seven_text (called f [] ∷ []) [] 0 ≡ record { visits = 4; moved = 1; work = 56 }
  -- visits: the call, the block, `var`, 5, the sum, x, 1, `return`, x; bytes: bound, read, written, read, returned; 32 + 2 + 2 + 4 + 2 + 4 + 144 + 4 + 2 + 4 + 4, and 16 a byte
  pub variable : counts variable_text (called f [] ∷ []) [] 0 ≡ record { visits = 9; moved = 5; work = 284 }
  -- 32 + 2 + 4 + 32 + 2 for f, and 32 + 2 + 4 + 4 for g; a byte is bound, read, and returned twice
  pub through_call : counts through_call_text (called f [] ∷ []) [] 1 ≡ record { visits = 9; moved = 4; work = 178 }
  -- 32 + 2 + 8 + 4 + 4 + 2; a byte is bound, read and returned
  pub choice : counts choice_text (called f (Truth true ∷ []) ∷ []) [] 0 ≡ record { visits = 6; moved = 3; work = 100 }
  -- 32 + 2 + 4 + 2 + 64, two bounds of 2, two turns of 4 + 2 + 16, and 4 + 2 to leave; the call, the block, the loop, two bounds, two bodies
  pub range : counts range_text (called f [] ∷ []) [] 9 ≡ record { visits = 7; moved = 0; work = 158 }
  -- three, and four conditions and four bodies; 32 + 2 + 4 + 4, four times 8 + 2 + 4 + 2, and three returns of 16
  pub for_ever : counts for_ever_text (called f [] ∷ []) [] 3 ≡ record { visits = 11; moved = 0; work = 154 }
  -- two calls count twice what one counts
  pub twice : counts twice_text (called f [] ∷ called f [] ∷ []) [] 0 ≡ record { visits = 8; moved = 2; work = 112 }
