-- Calls within calls, worked out by hand: turns, and how many calls are active.
use Rattle.std.specs.Prelude.{◌≡◌, List, [], ◌∷◌, codes}
use Rattle.zw_session.specs.Sessions.{Finished}
use Rattle.zw_tree.specs.Trees.{Forest}
use Rattle.zw_tree.specs.declared.ast.Entry.{Entry}
use Rattle.zw_tree.specs.declared.kind.NodeKind.TheVariants as kind
use Rattle.zw_sema.specs.Building.{form, mention, number, parameter, export_of, extern_of, return_of, called, n, shows, gives, ends, panics}
use Rattle.zw_sema.specs.WorkedExpressions.{a, b, f, u8}
use Rattle.zw_sema.specs.WorkedHost.{h}
use Rattle.zw_sema.specs.WorkedStatements.{x}
use Rattle.zw_sema.specs.FlowTexts.{block, a_const, when, call_of, fn_of, runs, runs_within, still, g, i, noreturn, y}

-- `export fn f(a: u8) u8 { if (a == 0) return 0; return f(a - 1) + 2; }`
abbrev pub recursion_text : List (Forest Entry)
recursion_text =
    export_of 1 f (parameter 13 a u8 ∷ []) 20 u8 (when 25 (form kind.Equal 29 (mention 29 a ∷ number 34 0 ∷
    [])) (return_of 37 (number 44 0)) ∷ return_of 47 (form kind.Add 54 (call_of 54 f (form kind.Subtract 56 (mention 56 a ∷
    number 60 1 ∷ []) ∷ []) ∷ number 65 2 ∷ [])) ∷ []) ∷ []

-- `export fn f(a: u8) u8 { if (a == 0) return 0; return f(a - 1) + 2; }`
abbrev pub active_text : List (Forest Entry)
active_text =
    export_of 1 f (parameter 13 a u8 ∷ []) 20 u8 (when 25 (form kind.Equal 29 (mention 29 a ∷ number 34 0 ∷
    [])) (return_of 37 (number 44 0)) ∷ return_of 47 (form kind.Add 54 (call_of 54 f (form kind.Subtract 56 (mention 56 a ∷
    number 60 1 ∷ []) ∷ []) ∷ number 65 2 ∷ [])) ∷ []) ∷ []

-- `export fn f() u8 { return f(); }`
abbrev pub endless_text : List (Forest Entry)
endless_text =
    export_of 1 f [] 15 u8 (return_of 20 (call_of 27 f []) ∷ []) ∷ []

-- `extern fn h(x: u8) u8; fn g(a: u8, b: u8) u8 { return a - b; } export fn f() u8 { return g(h(1), return h(2)); }`
abbrev pub argument_text : List (Forest Entry)
argument_text =
    extern_of 1 h (parameter 13 x u8 ∷ []) 20 u8 ∷ fn_of 24 g (parameter 29 a u8 ∷ parameter 36 b u8 ∷
    []) 43 u8 (return_of 48 (form kind.Subtract 55 (mention 55 a ∷ mention 59 b ∷ [])) ∷ []) ∷
    export_of 64 f [] 78 u8 (return_of 83 (call_of 90 g (call_of 92 h (number 94 1 ∷ []) ∷ return_of 98 (call_of 105 h (number 107 2 ∷
    [])) ∷ [])) ∷ []) ∷ []

-- `fn g() noreturn { while (true) {} } export fn f() u8 { return g() + true; }`
abbrev pub never_back_text : List (Forest Entry)
never_back_text =
    fn_of 1 g [] 8 noreturn (form kind.While 19 (mention 26 (codes "true") ∷ block 32 [] ∷ []) ∷ []) ∷
    export_of 37 f [] 51 u8 (return_of 56 (form kind.Add 63 (call_of 63 g [] ∷ mention 69 (codes "true") ∷ [])) ∷ []) ∷ []

-- `fn g(x: u8) u8 { return x + 1; } export fn f() u8 { const y = g; return y(y(1)); }`
abbrev pub local_name_text : List (Forest Entry)
local_name_text =
    fn_of 1 g (parameter 6 x u8 ∷ []) 13 u8 (return_of 18 (form kind.Add 25 (mention 25 x ∷ number 29 1 ∷ [])) ∷ []) ∷
    export_of 34 f [] 48 u8 (a_const 53 y (mention 63 g) ∷ return_of 66 (call_of 73 y (call_of 75 y (number 77 1 ∷ []) ∷ [])) ∷ []) ∷
    []

-- `fn g(a: u8) u8 { if (a == 0) return 0; return i(a - 1); } fn i(a: u8) u8 { return g(a); } export fn f(a: u8) u8 { return g(a) + g(a); }`
abbrev pub depth_text : List (Forest Entry)
depth_text =
    fn_of 1 g (parameter 6 a u8 ∷ []) 13 u8 (when 18 (form kind.Equal 22 (mention 22 a ∷ number 27 0 ∷
    [])) (return_of 30 (number 37 0)) ∷ return_of 40 (call_of 47 i (form kind.Subtract 49 (mention 49 a ∷ number 53 1 ∷ []) ∷ [])) ∷
    []) ∷ fn_of 59 i (parameter 64 a u8 ∷ []) 71 u8 (return_of 76 (call_of 83 g (mention 85 a ∷ [])) ∷ []) ∷
    export_of 91 f (parameter 103 a u8 ∷ []) 110 u8 (return_of 115 (form kind.Add 122 (call_of 122 g (mention 124 a ∷ []) ∷
    call_of 129 g (mention 131 a ∷ []) ∷ [])) ∷ []) ∷ []

-- `extern fn h() u8; export fn f(a: u8) u8 { return f(h()); }`
abbrev pub behind_arguments_text : List (Forest Entry)
behind_arguments_text =
    extern_of 1 h [] 15 u8 ∷ export_of 19 f (parameter 31 a u8 ∷ []) 38 u8 (return_of 43 (call_of 50 f (call_of 52 h [] ∷ [])) ∷ []) ∷ []

pub record WorkedActive : Type 0 where
  -- a function calls itself; three calls from inside are three turns
  pub recursion : runs recursion_text (called f (n 3 ∷ []) ∷ []) [] 3 ≡ ends (gives (n 6) ∷ []) Finished
  pub recursion_short : runs recursion_text (called f (n 3 ∷ []) ∷ []) [] 2 ≡ ends [] still
  -- so many calls may be active as three need, or one less
  pub active : runs_within 4 active_text (called f (n 3 ∷ []) ∷ []) [] 9 ≡ ends (gives (n 6) ∷ []) Finished
  pub active_less : runs_within 3 active_text (called f (n 3 ∷ []) ∷ []) [] 9 ≡ ends [] (panics 19)
  -- under any number of turns it still runs
  pub endless_none : runs endless_text (called f [] ∷ []) [] 0 ≡ ends [] still
  pub endless_one : runs endless_text (called f [] ∷ []) [] 1 ≡ ends [] still
  pub endless_five : runs endless_text (called f [] ∷ []) [] 5 ≡ ends [] still
  -- an argument that returns ends the call, behind the first argument
  pub argument : runs argument_text (called f [] ∷ []) (9 ∷ 4 ∷ []) 0 ≡ ends (shows h (n 1 ∷ []) ∷ shows h (n 2 ∷ []) ∷ gives (n 4) ∷ []) Finished
  -- an operand that never comes back ends its form: one turn for the call, and those of the loop
  pub never_back : runs never_back_text (called f [] ∷ []) [] 3 ≡ ends [] still
  -- a local constant may be a function
  pub local_name : runs local_name_text (called f [] ∷ []) [] 2 ≡ ends (gives (n 3) ∷ []) Finished
  -- calls that ended are not active: f, g, i, g, i, g
  pub depth : runs_within 6 depth_text (called f (n 2 ∷ []) ∷ []) [] 99 ≡ ends (gives (n 0) ∷ []) Finished
  pub depth_less : runs_within 5 depth_text (called f (n 2 ∷ []) ∷ []) [] 99 ≡ ends [] (panics 19)
  -- the call that may not be active panics behind its arguments
  pub behind_arguments : runs_within 2 behind_arguments_text (called f (n 1 ∷ []) ∷ []) (5 ∷ 6 ∷ []) 99 ≡ ends (shows h [] ∷ shows h [] ∷ []) (panics 19)
  pub behind_arguments_running : runs_within 2 behind_arguments_text (called f (n 1 ∷ []) ∷ []) (5 ∷ 6 ∷ []) 0 ≡ ends (shows h [] ∷ []) still
