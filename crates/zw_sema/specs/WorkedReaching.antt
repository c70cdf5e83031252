-- What is reached and what is not, joins, calls and loops without end, worked out by hand.
use Rattle.std.specs.Prelude.{◌≡◌, true, false, List, [], ◌∷◌, codes}
use Rattle.zw_base.specs.declared.stop.StopKind.TheVariants.{Error}
use Rattle.zw_session.specs.Sessions.{Truth, Finished}
use Rattle.zw_tree.specs.Trees.{Forest}
use Rattle.zw_tree.specs.declared.ast.Entry.{Entry}
use Rattle.zw_tree.specs.declared.kind.NodeKind.TheVariants as kind
use Rattle.zw_sema.specs.Building.{form, mention, name, number, builtin, parens, parameter, export_of, return_of, called, n, gives, ends, panics, Stops}
use Rattle.zw_sema.specs.WorkedExpressions.{a, c, f, u8, bool}
use Rattle.zw_sema.specs.WorkedStatements.{x}
use Rattle.zw_sema.specs.FlowTexts.{block, const_of, discard, when, choose, call_of, fn_of, tells, runs, runs_within, still, g, u16, void}

-- `fn g() u8 { return true; } export fn f() u8 { return 7; }`
abbrev pub not_called_text : List (Forest Entry)
not_called_text =
    fn_of 1 g [] 8 u8 (return_of 13 (mention 20 (codes "true")) ∷ []) ∷ export_of 28 f [] 42 u8 (return_of 47 (number 54 7) ∷ []) ∷ []

-- `export fn f() u8 { if (1 == 8) { const x: u8 = true; _ = x; } return 1; }`
abbrev pub known_arm_text : List (Forest Entry)
known_arm_text =
    export_of 1 f [] 15 u8 (when 20 (form kind.Equal 24 (number 24 1 ∷ number 29 8 ∷
    [])) (block 32 (const_of 34 x u8 (mention 48 (codes "true")) ∷ discard 54 (mention 58 x) ∷ [])) ∷ return_of 63 (number 70 1) ∷
    []) ∷ []

-- `export fn f(c: bool) u8 { if (c) { const x: u8 = true; _ = x; } return 1; }`
abbrev pub open_arm_text : List (Forest Entry)
open_arm_text =
    export_of 1 f (parameter 13 c bool ∷ []) 22 u8 (when 27 (mention 31 c) (block 34 (const_of 36 x u8 (mention 50 (codes "true")) ∷
    discard 56 (mention 60 x) ∷ [])) ∷ return_of 65 (number 72 1) ∷ []) ∷ []

-- `export fn f(c: bool) u16 { return (if (c) @as(u8, 200) else @as(u16, 1)) + 100; }`
abbrev pub peer_text : List (Forest Entry)
peer_text =
    export_of 1 f (parameter 13 c bool ∷
    []) 22 u16 (return_of 28 (form kind.Add 35 (parens 35 (choose 36 (mention 40 c) (builtin 43 (codes "as") (mention 47 u8 ∷
    number 51 200 ∷ [])) (builtin 61 (codes "as") (mention 65 u16 ∷ number 70 1 ∷ []))) ∷ number 76 100 ∷ [])) ∷ []) ∷ []

-- `fn g(a: u16) u16 { if (a == 0) return 0; return g(a - 1) + 1; } export fn f(a: u16) u16 { return g(a); }`
abbrev pub deep_text : List (Forest Entry)
deep_text =
    fn_of 1 g (parameter 6 a u16 ∷ []) 14 u16 (when 20 (form kind.Equal 24 (mention 24 a ∷ number 29 0 ∷
    [])) (return_of 32 (number 39 0)) ∷ return_of 42 (form kind.Add 49 (call_of 49 g (form kind.Subtract 51 (mention 51 a ∷
    number 55 1 ∷ []) ∷ []) ∷ number 60 1 ∷ [])) ∷ []) ∷ export_of 65 f (parameter 77 a u16 ∷
    []) 85 u16 (return_of 91 (call_of 98 g (mention 100 a ∷ [])) ∷ []) ∷ []

-- `export fn f() u8 { const a: u8 = 255; return a + 1; }`
abbrev pub known_sum_text : List (Forest Entry)
known_sum_text =
    export_of 1 f [] 15 u8 (const_of 20 a u8 (number 34 255) ∷ return_of 39 (form kind.Add 46 (mention 46 a ∷ number 50 1 ∷ [])) ∷ []) ∷
    []

-- `export fn f() void { while (true) {} }`
abbrev pub spin_text : List (Forest Entry)
spin_text =
    export_of 1 f [] 15 void (form kind.While 22 (mention 29 (codes "true") ∷ block 35 [] ∷ []) ∷ []) ∷ []

-- `comptime {} export fn f() u8 { return true; }`
abbrev pub block_first_text : List (Forest Entry)
block_first_text =
    form kind.ComptimeBlock 1 (block 10 [] ∷ []) ∷ export_of 13 f [] 27 u8 (return_of 32 (mention 39 (codes "true")) ∷ []) ∷ []

-- `export fn f() u8 { return true; } comptime {}`
abbrev pub export_first_text : List (Forest Entry)
export_first_text =
    export_of 1 f [] 15 u8 (return_of 20 (mention 27 (codes "true")) ∷ []) ∷ form kind.ComptimeBlock 35 (block 44 [] ∷ []) ∷ []

-- `export fn f() void { inline while (false) {} }`
abbrev pub inline_text : List (Forest Entry)
inline_text =
    export_of 1 f [] 15 void (form kind.While 22 (form kind.InlineWord 22 [] ∷ mention 36 (codes "false") ∷ block 43 [] ∷ []) ∷ []) ∷ []

-- `export fn f(comptime a: u8) u8 { return a; }`
abbrev pub known_parameter_text : List (Forest Entry)
known_parameter_text =
    export_of 1 f (form kind.Parameter 13 (form kind.ComptimeWord 13 [] ∷ name 22 a ∷ mention 25 u8 ∷ []) ∷
    []) 29 u8 (return_of 34 (mention 41 a) ∷ []) ∷ []

pub record WorkedReaching : Type 0 where
  -- a function that nothing calls is not walked
  pub not_called : runs not_called_text (called f [] ∷ []) [] 0 ≡ ends (gives (n 7) ∷ []) Finished
  -- nor is an arm under a condition that is known not to hold
  pub known_arm : runs known_arm_text (called f [] ∷ []) [] 0 ≡ ends (gives (n 1) ∷ []) Finished
  -- but under one that is not known it is
  pub open_arm : tells open_arm_text ≡ Stops (Error 14) 50
  -- the sum is one of `u16`, which holds both arms
  pub peer : runs peer_text (called f (Truth true ∷ []) ∷ []) [] 0 ≡ ends (gives (n 300) ∷ []) Finished
  pub peer_other : runs peer_text (called f (Truth false ∷ []) ∷ []) [] 0 ≡ ends (gives (n 101) ∷ []) Finished
  -- the exported call and a + 1 more: where 5 may be active a is 3, and one more panics
  pub deep : runs_within 5 deep_text (called f (n 3 ∷ []) ∷ []) [] 99 ≡ ends (gives (n 3) ∷ []) Finished
  pub deep_too_deep : runs_within 5 deep_text (called f (n 4 ∷ []) ∷ []) [] 99 ≡ ends [] (panics 19)
  -- a known sum past the range
  pub known_sum : tells known_sum_text ≡ Stops (Error 21) 46
  -- it runs under any number of turns
  pub spin : runs spin_text (called f [] ∷ []) [] 0 ≡ ends [] still
  pub spin_more : runs spin_text (called f [] ∷ []) [] 7 ≡ ends [] still
  -- blocks of the file that are evaluated while compiling are not built yet, at their turn
  pub block_first : tells block_first_text ≡ Stops (Error 36) 1
  -- an export in front of one comes first
  pub export_first : tells export_first_text ≡ Stops (Error 14) 27
  -- nor are loops that are written out
  pub inline : tells inline_text ≡ Stops (Error 36) 22
  -- the host gives no parameter that is known while compiling
  pub known_parameter : tells known_parameter_text ≡ Stops (Error 33) 1
