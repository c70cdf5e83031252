-- Calls of functions worked out by hand (Zig Language Reference 0.13.0, Functions): sessions, and which functions are units.
use Rattle.std.specs.Prelude.{◌≡◌, List, [], ◌∷◌, codes, None}
use Rattle.zw_base.specs.declared.stop.StopKind.TheVariants.{Error}
use Rattle.zw_session.specs.Sessions as session
use Rattle.zw_session.specs.Sessions.{Finished}
use Rattle.zw_tree.specs.Trees.{Forest}
use Rattle.zw_tree.specs.declared.ast.Entry.{Entry}
use Rattle.zw_tree.specs.declared.kind.NodeKind.TheVariants as kind
use Rattle.zw_sema.specs.Building.{form, mention, number, builtin, parameter, export_of, extern_of, return_of, called, n, shows, gives, ends, panics, Stops}
use Rattle.zw_sema.specs.WorkedExpressions.{a, b, f, u8}
use Rattle.zw_sema.specs.WorkedHost.{h}
use Rattle.zw_sema.specs.WorkedStatements.{x}
use Rattle.zw_sema.specs.FlowTexts.{a_const, const_of, when, choose, call_of, fn_of, tells, runs, still, g, i, noreturn, void}

-- `fn g(x: u8) u8 { return x + 1; } export fn f(a: u8) u8 { return g(g(a)); }`
abbrev pub nested_text : List (Forest Entry)
nested_text =
    fn_of 1 g (parameter 6 x u8 ∷ []) 13 u8 (return_of 18 (form kind.Add 25 (mention 25 x ∷ number 29 1 ∷ [])) ∷ []) ∷
    export_of 34 f (parameter 46 a u8 ∷ []) 53 u8 (return_of 58 (call_of 65 g (call_of 67 g (mention 69 a ∷ []) ∷ [])) ∷ []) ∷ []

-- `extern fn h(x: u8) u8; fn g(a: u8, b: u8) u8 { return a - b; } export fn f() u8 { return g(h(1), h(2)); }`
abbrev pub order_text : List (Forest Entry)
order_text =
    extern_of 1 h (parameter 13 x u8 ∷ []) 20 u8 ∷ fn_of 24 g (parameter 29 a u8 ∷ parameter 36 b u8 ∷
    []) 43 u8 (return_of 48 (form kind.Subtract 55 (mention 55 a ∷ mention 59 b ∷ [])) ∷ []) ∷
    export_of 64 f [] 78 u8 (return_of 83 (call_of 90 g (call_of 92 h (number 94 1 ∷ []) ∷ call_of 98 h (number 100 2 ∷ []) ∷ [])) ∷
    []) ∷ []

-- `export fn f(a: u8) u8 { if (a == 0) return 1; return g(a - 1); } export fn g(a: u8) u8 { if (a == 0) return 2; return f(a - 1); }`
abbrev pub each_other_text : List (Forest Entry)
each_other_text =
    export_of 1 f (parameter 13 a u8 ∷ []) 20 u8 (when 25 (form kind.Equal 29 (mention 29 a ∷ number 34 0 ∷
    [])) (return_of 37 (number 44 1)) ∷ return_of 47 (call_of 54 g (form kind.Subtract 56 (mention 56 a ∷ number 60 1 ∷ []) ∷ [])) ∷
    []) ∷ export_of 66 g (parameter 78 a u8 ∷ []) 85 u8 (when 90 (form kind.Equal 94 (mention 94 a ∷ number 99 0 ∷
    [])) (return_of 102 (number 109 2)) ∷ return_of 112 (call_of 119 f (form kind.Subtract 121 (mention 121 a ∷ number 125 1 ∷ []) ∷
    [])) ∷ []) ∷ []

-- `export fn f(a: u8) u8 { const x: u8 = if (true) a else g(); return x; } fn g() u8 { return true; }`
abbrev pub unevaluated_text : List (Forest Entry)
unevaluated_text =
    export_of 1 f (parameter 13 a u8 ∷
    []) 20 u8 (const_of 25 x u8 (choose 39 (mention 43 (codes "true")) (mention 49 a) (call_of 56 g [])) ∷
    return_of 61 (mention 68 x) ∷ []) ∷ fn_of 73 g [] 80 u8 (return_of 85 (mention 92 (codes "true")) ∷ []) ∷ []

-- `fn g() u8 { return true; } export fn f(a: u8) u8 { return @as(@TypeOf(g()), a); }`
abbrev pub type_of_text : List (Forest Entry)
type_of_text =
    fn_of 1 g [] 8 u8 (return_of 13 (mention 20 (codes "true")) ∷ []) ∷ export_of 28 f (parameter 40 a u8 ∷
    []) 47 u8 (return_of 52 (builtin 59 (codes "as") (builtin 63 (codes "TypeOf") (call_of 71 g [] ∷ []) ∷ mention 77 a ∷ [])) ∷ []) ∷
    []

-- `fn g() u8 { return true; } export fn f() u8 { return g(); }`
abbrev pub reached_text : List (Forest Entry)
reached_text =
    fn_of 1 g [] 8 u8 (return_of 13 (mention 20 (codes "true")) ∷ []) ∷ export_of 28 f [] 42 u8 (return_of 47 (call_of 54 g []) ∷ []) ∷
    []

-- `export fn f() u8 { return g(); } fn g() u8 { return true; } export fn i() u8 { return false; }`
abbrev pub second_unit_text : List (Forest Entry)
second_unit_text =
    export_of 1 f [] 15 u8 (return_of 20 (call_of 27 g []) ∷ []) ∷ fn_of 34 g [] 41 u8 (return_of 46 (mention 53 (codes "true")) ∷ []) ∷
    export_of 61 i [] 75 u8 (return_of 80 (mention 87 (codes "false")) ∷ []) ∷ []

-- `fn g() noreturn { unreachable; } export fn f() u8 { g(); }`
abbrev pub never_text : List (Forest Entry)
never_text =
    fn_of 1 g [] 8 noreturn (form kind.Unreachable 19 [] ∷ []) ∷ export_of 34 f [] 48 u8 (call_of 53 g [] ∷ []) ∷ []

-- `const i = g; fn g(x: u8) u8 { return x; } export fn f() u8 { return i(4); }`
abbrev pub by_name_text : List (Forest Entry)
by_name_text =
    a_const 1 i (mention 11 g) ∷ fn_of 14 g (parameter 19 x u8 ∷ []) 26 u8 (return_of 31 (mention 38 x) ∷ []) ∷
    export_of 43 f [] 57 u8 (return_of 62 (call_of 69 i (number 71 4 ∷ [])) ∷ []) ∷ []

-- `extern fn h(x: u8) void; fn g(x: u8) void { h(x); } export fn f() void { g(1); g(2); }`
abbrev pub nothing_back_text : List (Forest Entry)
nothing_back_text =
    extern_of 1 h (parameter 13 x u8 ∷ []) 20 void ∷ fn_of 26 g (parameter 31 x u8 ∷ []) 38 void (call_of 45 h (mention 47 x ∷ []) ∷
    []) ∷ export_of 53 f [] 67 void (call_of 74 g (number 76 1 ∷ []) ∷ call_of 80 g (number 82 2 ∷ []) ∷ []) ∷ []

pub record WorkedCalls : Type 0 where
  -- arguments come first; each call is a turn
  pub nested : runs nested_text (called f (n 3 ∷ []) ∷ []) [] 2 ≡ ends (gives (n 5) ∷ []) Finished
  pub nested_short : runs nested_text (called f (n 3 ∷ []) ∷ []) [] 1 ≡ ends [] still
  pub nested_past : runs nested_text (called f (n 254 ∷ []) ∷ []) [] 2 ≡ ends [] (panics 1)
  -- arguments are evaluated from left to right
  pub order : runs order_text (called f [] ∷ []) (9 ∷ 4 ∷ []) 1 ≡ ends (shows h (n 1 ∷ []) ∷ shows h (n 2 ∷ []) ∷ gives (n 5) ∷ []) Finished
  -- two exports call each other
  pub each_other : runs each_other_text (called f (n 2 ∷ []) ∷ called f (n 3 ∷ []) ∷ called g (n 2 ∷ []) ∷ []) [] 7 ≡ ends (gives (n 1) ∷ gives (n 2) ∷ gives (n 2) ∷ []) Finished
  pub each_other_short : runs each_other_text (called f (n 2 ∷ []) ∷ called f (n 3 ∷ []) ∷ called g (n 2 ∷ []) ∷ []) [] 6 ≡ ends (gives (n 1) ∷ gives (n 2) ∷ []) still
  -- the part that is not chosen is not walked, and its function is no unit
  pub unevaluated : runs unevaluated_text (called f (n 5 ∷ []) ∷ []) [] 0 ≡ ends (gives (n 5) ∷ []) Finished
  -- `@TypeOf` evaluates nothing, so the function is no unit
  pub type_of : runs type_of_text (called f (n 5 ∷ []) ∷ []) [] 0 ≡ ends (gives (n 5) ∷ []) Finished
  -- a function that is called is a unit, with a stop of its own
  pub reached : tells reached_text ≡ Stops (Error 14) 20
  -- all exports come before other functions
  pub second_unit : tells second_unit_text ≡ Stops (Error 14) 87
  -- a call that never comes back needs no `return` behind it
  pub never : runs never_text (called f [] ∷ []) [] 1 ≡ ends [] (panics 6)
  -- a constant may be a function
  pub by_name : runs by_name_text (called f [] ∷ []) [] 1 ≡ ends (gives (n 4) ∷ []) Finished
  -- calls of functions that give nothing are statements
  pub nothing_back : runs nothing_back_text (called f [] ∷ []) [] 2 ≡ ends (shows h (n 1 ∷ []) ∷ shows h (n 2 ∷ []) ∷ session.Result None ∷ []) Finished
