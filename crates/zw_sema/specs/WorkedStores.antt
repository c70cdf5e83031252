-- What is written and what is discarded, worked out by hand (Zig Language Reference 0.13.0, Assignment, Variables).
use Rattle.std.specs.Prelude.{◌≡◌, List, [], ◌∷◌, codes, None}
use Rattle.zw_base.specs.declared.stop.StopKind.TheVariants.{Error}
use Rattle.zw_session.specs.Sessions as session
use Rattle.zw_session.specs.Sessions.{Finished}
use Rattle.zw_tree.specs.Trees.{Forest}
use Rattle.zw_tree.specs.declared.ast.Entry.{Entry}
use Rattle.zw_tree.specs.declared.kind.NodeKind.TheVariants as kind
use Rattle.zw_sema.specs.Building.{form, mention, number, builtin, parens, parameter, export_of, return_of, called, n, gives, ends, Stops}
use Rattle.zw_sema.specs.WorkedExpressions.{a, f, u8, i64}
use Rattle.zw_sema.specs.WorkedStatements.{x}
use Rattle.zw_sema.specs.FlowTexts.{block, a_const, const_of, var_of, assign, update, discard, fn_of, tells, runs, g, i, u16, void}

-- `export fn f() void { const x: u8 = 1; x = 2; }`
abbrev pub to_constant_text : List (Forest Entry)
to_constant_text =
    export_of 1 f [] 15 void (const_of 22 x u8 (number 36 1) ∷ assign 39 (mention 39 x) (number 43 2) ∷ []) ∷ []

-- `export fn f(a: u8) void { a = 2; }`
abbrev pub to_parameter_text : List (Forest Entry)
to_parameter_text =
    export_of 1 f (parameter 13 a u8 ∷ []) 20 void (assign 27 (mention 27 a) (number 31 2) ∷ []) ∷ []

-- `export fn f(a: u8) void { a = true; }`
abbrev pub right_first_text : List (Forest Entry)
right_first_text =
    export_of 1 f (parameter 13 a u8 ∷ []) 20 void (assign 27 (mention 27 a) (mention 31 (codes "true")) ∷ []) ∷ []

-- `export fn f(a: u8) void { a += 2; }`
abbrev pub update_constant_text : List (Forest Entry)
update_constant_text =
    export_of 1 f (parameter 13 a u8 ∷ []) 20 void (update kind.AddAssign 27 (mention 27 a) (number 32 2) ∷ []) ∷ []

-- `const i: u8 = 1; export fn f() void { i = 2; }`
abbrev pub to_file_text : List (Forest Entry)
to_file_text =
    const_of 1 i u8 (number 15 1) ∷ export_of 18 f [] 32 void (assign 39 (mention 39 i) (number 43 2) ∷ []) ∷ []

-- `export fn f(a: u8) void { a + 1 = 2; }`
abbrev pub to_value_text : List (Forest Entry)
to_value_text =
    export_of 1 f (parameter 13 a u8 ∷ []) 20 void (assign 27 (form kind.Add 27 (mention 27 a ∷ number 31 1 ∷ [])) (number 35 2) ∷ []) ∷
    []

-- `export fn f(a: u8) void { const x = a; x = 2; }`
abbrev pub to_local_text : List (Forest Entry)
to_local_text =
    export_of 1 f (parameter 13 a u8 ∷ []) 20 void (a_const 27 x (mention 37 a) ∷ assign 40 (mention 40 x) (number 44 2) ∷ []) ∷ []

-- `export fn f() u8 { var x: u8 = 1; (x) = 2; return x; }`
abbrev pub parens_text : List (Forest Entry)
parens_text =
    export_of 1 f [] 15 u8 (var_of 20 x u8 (number 32 1) ∷ assign 35 (parens 35 (mention 36 x)) (number 41 2) ∷
    return_of 44 (mention 51 x) ∷ []) ∷ []

-- `export fn f(a: u8) u16 { var x: u16 = a; x += 300; return x; }`
abbrev pub wider_text : List (Forest Entry)
wider_text =
    export_of 1 f (parameter 13 a u8 ∷ []) 20 u16 (var_of 26 x u16 (mention 39 a) ∷
    update kind.AddAssign 42 (mention 42 x) (number 47 300) ∷ return_of 52 (mention 59 x) ∷ []) ∷ []

-- `export fn f(a: u8) u8 { var x: u8 = a; x <<= 3; x >>= 1; x <<|= 300; return x; }`
abbrev pub shifted_text : List (Forest Entry)
shifted_text =
    export_of 1 f (parameter 13 a u8 ∷ []) 20 u8 (var_of 25 x u8 (mention 37 a) ∷
    update kind.ShiftLeftAssign 40 (mention 40 x) (number 46 3) ∷ update kind.ShiftRightAssign 49 (mention 49 x) (number 55 1) ∷
    update kind.ShiftLeftSaturateAssign 58 (mention 58 x) (number 65 300) ∷ return_of 70 (mention 77 x) ∷ []) ∷ []

-- `export fn f(a: u8) u8 { var x: u8 = a; x -%= 1; x +|= 3; x *%= 2; return x; }`
abbrev pub wrapped_text : List (Forest Entry)
wrapped_text =
    export_of 1 f (parameter 13 a u8 ∷ []) 20 u8 (var_of 25 x u8 (mention 37 a) ∷
    update kind.SubtractWrapAssign 40 (mention 40 x) (number 46 1) ∷ update kind.AddSaturateAssign 49 (mention 49 x) (number 55 3) ∷
    update kind.MultiplyWrapAssign 58 (mention 58 x) (number 64 2) ∷ return_of 67 (mention 74 x) ∷ []) ∷ []

-- `export fn f() void { var x: u8 = 1; x <<= 8; }`
abbrev pub amount_text : List (Forest Entry)
amount_text =
    export_of 1 f [] 15 void (var_of 22 x u8 (number 34 1) ∷ update kind.ShiftLeftAssign 37 (mention 37 x) (number 43 8) ∷ []) ∷ []

-- `export fn f() void { var x: u8 = 1; x /= 0; }`
abbrev pub zero_text : List (Forest Entry)
zero_text =
    export_of 1 f [] 15 void (var_of 22 x u8 (number 34 1) ∷ update kind.DivideAssign 37 (mention 37 x) (number 42 0) ∷ []) ∷ []

-- `export fn f(a: i64) void { var x: i64 = 1; x /= a; }`
abbrev pub signed_text : List (Forest Entry)
signed_text =
    export_of 1 f (parameter 13 a i64 ∷ []) 21 void (var_of 28 x i64 (number 41 1) ∷
    update kind.DivideAssign 44 (mention 44 x) (mention 49 a) ∷ []) ∷ []

-- `export fn f() void { _ = true + 1; }`
abbrev pub discard_void_text : List (Forest Entry)
discard_void_text =
    export_of 1 f [] 15 void (discard 22 (form kind.Add 26 (mention 26 (codes "true") ∷ number 33 1 ∷ [])) ∷ []) ∷ []

-- `fn g() u8 { return true; } export fn f() void { _ = g; _ = {}; _ = true; }`
abbrev pub discard_function_text : List (Forest Entry)
discard_function_text =
    fn_of 1 g [] 8 u8 (return_of 13 (mention 20 (codes "true")) ∷ []) ∷ export_of 28 f [] 42 void (discard 49 (mention 53 g) ∷
    discard 56 (block 60 []) ∷ discard 64 (mention 68 (codes "true")) ∷ []) ∷ []

-- `export fn f() void { @setEvalBranchQuota(5000); }`
abbrev pub quota_text : List (Forest Entry)
quota_text =
    export_of 1 f [] 15 void (builtin 22 (codes "setEvalBranchQuota") (number 42 5000 ∷ []) ∷ []) ∷ []

pub record WorkedStores : Type 0 where
  -- a constant is not written
  pub to_constant : tells to_constant_text ≡ Stops (Error 19) 39
  -- nor is a parameter
  pub to_parameter : tells to_parameter_text ≡ Stops (Error 19) 27
  -- the right side comes first: its stop is told
  pub right_first : tells right_first_text ≡ Stops (Error 14) 31
  -- nor is it with an operator
  pub update_constant : tells update_constant_text ≡ Stops (Error 19) 27
  -- a constant of the file is not written
  pub to_file : tells to_file_text ≡ Stops (Error 19) 39
  -- a value is no place
  pub to_value : tells to_value_text ≡ Stops (Error 19) 27
  -- a local constant that is not known is no place to write
  pub to_local : tells to_local_text ≡ Stops (Error 19) 40
  -- parentheses are the place that they hold
  pub parens : runs parens_text (called f [] ∷ []) [] 0 ≡ ends (gives (n 2) ∷ []) Finished
  -- what is written becomes of the type of the place
  pub wider : runs wider_text (called f (n 255 ∷ []) ∷ []) [] 0 ≡ ends (gives (n 555) ∷ []) Finished
  -- the amounts are of their own types; the last one is past the width
  pub shifted_zero : runs shifted_text (called f (n 0 ∷ []) ∷ []) [] 0 ≡ ends (gives (n 0) ∷ []) Finished
  pub shifted : runs shifted_text (called f (n 2 ∷ []) ∷ []) [] 0 ≡ ends (gives (n 255) ∷ []) Finished
  -- wrapping and saturating forms: 255, 255, 254
  pub wrapped : runs wrapped_text (called f (n 0 ∷ []) ∷ []) [] 0 ≡ ends (gives (n 254) ∷ []) Finished
  -- the amount of a shift of 8 bits has 3
  pub amount : tells amount_text ≡ Stops (Error 15) 43
  -- a known denominator 0 is illegal
  pub zero : tells zero_text ≡ Stops (Error 21) 37
  -- signed numbers that are not known are not divided so
  pub signed : tells signed_text ≡ Stops (Error 20) 44
  -- what is discarded is walked
  pub discard_void : tells discard_void_text ≡ Stops (Error 20) 26
  -- what is known is discarded without a trace, and a function is not walked
  pub discard_function : runs discard_function_text (called f [] ∷ []) [] 0 ≡ ends (session.Result None ∷ []) Finished
  -- a builtin that gives nothing is a statement
  pub quota : runs quota_text (called f [] ∷ []) [] 0 ≡ ends (session.Result None ∷ []) Finished
