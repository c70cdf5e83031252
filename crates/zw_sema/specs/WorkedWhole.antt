-- Functions with several forms, and what belongs to which function, worked out by hand.
use Rattle.std.specs.Prelude.{◌≡◌, true, false, List, [], ◌∷◌, codes, None}
use Rattle.zw_base.specs.declared.stop.StopKind.TheVariants.{Error}
use Rattle.zw_session.specs.Sessions as session
use Rattle.zw_session.specs.Sessions.{Truth, Finished}
use Rattle.zw_tree.specs.Trees.{Forest}
use Rattle.zw_tree.specs.declared.ast.Entry.{Entry}
use Rattle.zw_tree.specs.declared.kind.NodeKind.TheVariants as kind
use Rattle.zw_sema.specs.Building.{form, mention, name, number, builtin, parens, parameter, export_of, extern_of, return_of, called, n, shows, gives, ends, panics, Stops}
use Rattle.zw_sema.specs.WorkedExpressions.{a, b, f, u8, bool}
use Rattle.zw_sema.specs.WorkedHost.{h}
use Rattle.zw_sema.specs.WorkedStatements.{x}
use Rattle.zw_sema.specs.FlowTexts.{block, label, labelled, a_const, var_of, assign, update, discard, when, choose, step, capture, range, leave_to, call_of, fn_of, tells, runs, still, g, i, o, void, y}

-- `const i = g; var g: u8 = 1; export fn f() u8 { return i; }`
abbrev pub container_variable_text : List (Forest Entry)
container_variable_text =
    a_const 1 i (mention 11 g) ∷ var_of 14 g u8 (number 26 1) ∷ export_of 29 f [] 43 u8 (return_of 48 (mention 55 i) ∷ []) ∷ []

-- `var g: u8 = 1; export fn f() u8 { return 1; }`
abbrev pub not_mentioned_text : List (Forest Entry)
not_mentioned_text =
    var_of 1 g u8 (number 13 1) ∷ export_of 16 f [] 30 u8 (return_of 35 (number 42 1) ∷ []) ∷ []

-- `export fn f() u8 { _ = @TypeOf(b: { var y: u8 = 1; y = 2; break :b y; }); var x: u8 = 1; x += 1; return x; }`
abbrev pub unevaluated_text : List (Forest Entry)
unevaluated_text =
    export_of 1 f [] 15 u8 (discard 20 (builtin 24 (codes "TypeOf") (labelled 32 b (var_of 37 y u8 (number 49 1) ∷
    assign 52 (mention 52 y) (number 56 2) ∷ leave_to 59 b (mention 68 y) ∷ []) ∷ [])) ∷ var_of 75 x u8 (number 87 1) ∷
    update kind.AddAssign 90 (mention 90 x) (number 95 1) ∷ return_of 98 (mention 105 x) ∷ []) ∷ []

-- `fn g(x: u8) u8 { var y: u8 = x; y += 1; return y; } export fn f(x: u8) u8 { var y: u8 = x; y = g(y) + y; return y; }`
abbrev pub two_functions_text : List (Forest Entry)
two_functions_text =
    fn_of 1 g (parameter 6 x u8 ∷ []) 13 u8 (var_of 18 y u8 (mention 30 x) ∷ update kind.AddAssign 33 (mention 33 y) (number 38 1) ∷
    return_of 41 (mention 48 y) ∷ []) ∷ export_of 53 f (parameter 65 x u8 ∷ []) 72 u8 (var_of 77 y u8 (mention 89 x) ∷
    assign 92 (mention 92 y) (form kind.Add 96 (call_of 96 g (mention 98 y ∷ []) ∷ mention 103 y ∷ [])) ∷
    return_of 106 (mention 113 y) ∷ []) ∷ []

-- `export fn f(a: u8) u8 { var x: u8 = a; if (a > 0) { x += f(a - 1); } return x; }`
abbrev pub own_variables_text : List (Forest Entry)
own_variables_text =
    export_of 1 f (parameter 13 a u8 ∷ []) 20 u8 (var_of 25 x u8 (mention 37 a) ∷ when 40 (form kind.Greater 44 (mention 44 a ∷
    number 48 0 ∷ [])) (block 51 (update kind.AddAssign 53 (mention 53 x) (call_of 58 f (form kind.Subtract 60 (mention 60 a ∷
    number 64 1 ∷ []) ∷ [])) ∷ [])) ∷ return_of 70 (mention 77 x) ∷ []) ∷ []

-- `extern fn h(x: u8) u8; export fn f() u8 { var x: u8 = 250; while (true) : (x += h(x)) {} }`
abbrev pub host_loop_text : List (Forest Entry)
host_loop_text =
    extern_of 1 h (parameter 13 x u8 ∷ []) 20 u8 ∷ export_of 24 f [] 38 u8 (var_of 43 x u8 (number 55 250) ∷
    form kind.While 60 (mention 67 (codes "true") ∷ step 76 (update kind.AddAssign 76 (mention 76 x) (call_of 81 h (mention 83 x ∷
    []))) ∷ block 87 [] ∷ []) ∷ []) ∷ []

-- `export fn f(a: u8) u8 { return o: { i: { y: { if (a == 0) break :o 1; if (a == 1) break :i; if (a == 2) break :y; return 4; } break :o 3; } break :o 2; }; }`
abbrev pub many_text : List (Forest Entry)
many_text =
    export_of 1 f (parameter 13 a u8 ∷
    []) 20 u8 (return_of 25 (labelled 32 o (labelled 37 i (labelled 42 y (when 47 (form kind.Equal 51 (mention 51 a ∷ number 56 0 ∷
    [])) (leave_to 59 o (number 68 1)) ∷ when 71 (form kind.Equal 75 (mention 75 a ∷ number 80 1 ∷
    [])) (form kind.Break 83 (label 90 i ∷ [])) ∷ when 93 (form kind.Equal 97 (mention 97 a ∷ number 102 2 ∷
    [])) (form kind.Break 105 (label 112 y ∷ [])) ∷ return_of 115 (number 122 4) ∷ []) ∷ leave_to 127 o (number 136 3) ∷ []) ∷
    leave_to 141 o (number 150 2) ∷ [])) ∷ []) ∷ []

-- `export fn f(a: u8, b: u8) bool { var x = a < b; x = x == (b == 3); return x; }`
abbrev pub truth_text : List (Forest Entry)
truth_text =
    export_of 1 f (parameter 13 a u8 ∷ parameter 20 b u8 ∷ []) 27 bool (form kind.Var 34 (name 38 x ∷ form kind.Less 42 (mention 42 a ∷
    mention 46 b ∷ []) ∷ []) ∷ assign 49 (mention 49 x) (form kind.Equal 53 (mention 53 x ∷
    parens 58 (form kind.Equal 59 (mention 59 b ∷ number 64 3 ∷ [])) ∷ [])) ∷ return_of 68 (mention 75 x) ∷ []) ∷ []

-- `export fn f() void { const x = {}; var y: void = {}; y = x; return y; }`
abbrev pub nothing_variable_text : List (Forest Entry)
nothing_variable_text =
    export_of 1 f [] 15 void (a_const 22 x (block 32 []) ∷ var_of 36 y void (block 50 []) ∷ assign 54 (mention 54 y) (mention 58 x) ∷
    return_of 61 (mention 68 y) ∷ []) ∷ []

-- `extern fn h(x: u8) void; export fn f(a: u8) u8 { h(a); return 7 / a; }`
abbrev pub sessions_text : List (Forest Entry)
sessions_text =
    extern_of 1 h (parameter 13 x u8 ∷ []) 20 void ∷ export_of 26 f (parameter 38 a u8 ∷ []) 45 u8 (call_of 50 h (mention 52 a ∷ []) ∷
    return_of 56 (form kind.Divide 63 (number 63 7 ∷ mention 67 a ∷ [])) ∷ []) ∷ []

-- `export fn f(a: u8) u8 { return a / (1 - 1); }`
abbrev pub division_text : List (Forest Entry)
division_text =
    export_of 1 f (parameter 13 a u8 ∷ []) 20 u8 (return_of 25 (form kind.Divide 32 (mention 32 a ∷
    parens 36 (form kind.Subtract 37 (number 37 1 ∷ number 41 1 ∷ [])) ∷ [])) ∷ []) ∷ []

-- `export fn f() u8 { return if (true) 300 else 1; }`
abbrev pub unused_operand_text : List (Forest Entry)
unused_operand_text =
    export_of 1 f [] 15 u8 (return_of 20 (choose 27 (mention 31 (codes "true")) (number 37 300) (number 46 1)) ∷ []) ∷ []

-- `fn g() void { _ = true + 1; } export fn f() void { g(); _ = @as(u8, 300); }`
abbrev pub before_export_text : List (Forest Entry)
before_export_text =
    fn_of 1 g [] 8 void (discard 15 (form kind.Add 19 (mention 19 (codes "true") ∷ number 26 1 ∷ [])) ∷ []) ∷
    export_of 31 f [] 45 void (call_of 52 g [] ∷ discard 57 (builtin 61 (codes "as") (mention 65 u8 ∷ number 69 300 ∷ [])) ∷ []) ∷ []

-- `export fn f() void { for (0..3) |i| { i += 1; } }`
abbrev pub to_capture_operator_text : List (Forest Entry)
to_capture_operator_text =
    export_of 1 f [] 15 void (form kind.For 22 (range 27 (number 27 0) (number 30 3) ∷ capture 34 i ∷
    block 37 (update kind.AddAssign 39 (mention 39 i) (number 44 1) ∷ []) ∷ []) ∷ []) ∷ []

-- `fn g(x: u8) u8 { return x; } export fn f() u8 { return g(300); }`
abbrev pub argument_range_text : List (Forest Entry)
argument_range_text =
    fn_of 1 g (parameter 6 x u8 ∷ []) 13 u8 (return_of 18 (mention 25 x) ∷ []) ∷
    export_of 30 f [] 44 u8 (return_of 49 (call_of 56 g (number 58 300 ∷ [])) ∷ []) ∷ []

pub record WorkedWhole : Type 0 where
  -- variables of the file are not built yet, at their first token
  pub container_variable : tells container_variable_text ≡ Stops (Error 36) 14
  -- nothing mentions it
  pub not_mentioned : runs not_mentioned_text (called f [] ∷ []) [] 0 ≡ ends (gives (n 1) ∷ []) Finished
  -- variables and targets of what is not evaluated are none of the function
  pub unevaluated : runs unevaluated_text (called f [] ∷ []) [] 0 ≡ ends (gives (n 2) ∷ []) Finished
  -- each call has variables of its own
  pub two_functions : runs two_functions_text (called f (n 3 ∷ []) ∷ []) [] 1 ≡ ends (gives (n 7) ∷ []) Finished
  -- so has each call of one function: 3 + 2 + 1 + 0
  pub own_variables : runs own_variables_text (called f (n 3 ∷ []) ∷ []) [] 3 ≡ ends (gives (n 6) ∷ []) Finished
  -- the host is asked in the step, until the sum is past the range
  pub host_loop : runs host_loop_text (called f [] ∷ []) (2 ∷ 4 ∷ []) 9 ≡ ends (shows h (n 250 ∷ []) ∷ shows h (n 252 ∷ []) ∷ []) (panics 1)
  pub host_loop_wants : runs host_loop_text (called f [] ∷ []) (2 ∷ []) 9 ≡ ends (shows h (n 250 ∷ []) ∷ shows h (n 252 ∷ []) ∷ []) (session.Ended session.WantsReply)
  pub host_loop_running : runs host_loop_text (called f [] ∷ []) (2 ∷ []) 0 ≡ ends (shows h (n 250 ∷ []) ∷ []) still
  -- out of three blocks, by each label
  pub many : runs many_text (called f (n 0 ∷ []) ∷ []) [] 0 ≡ ends (gives (n 1) ∷ []) Finished
  pub many_one : runs many_text (called f (n 1 ∷ []) ∷ []) [] 0 ≡ ends (gives (n 2) ∷ []) Finished
  pub many_two : runs many_text (called f (n 2 ∷ []) ∷ []) [] 0 ≡ ends (gives (n 3) ∷ []) Finished
  pub many_none : runs many_text (called f (n 3 ∷ []) ∷ []) [] 0 ≡ ends (gives (n 4) ∷ []) Finished
  -- a variable may be a truth value
  pub truth : runs truth_text (called f (n 1 ∷ n 3 ∷ []) ∷ []) [] 0 ≡ ends (gives (Truth true) ∷ []) Finished
  pub truth_other : runs truth_text (called f (n 5 ∷ n 3 ∷ []) ∷ []) [] 0 ≡ ends (gives (Truth false) ∷ []) Finished
  -- and nothing
  pub nothing_variable : runs nothing_variable_text (called f [] ∷ []) [] 0 ≡ ends (session.Result None ∷ []) Finished
  -- the session ends with the first call that panics
  pub sessions : runs sessions_text (called f (n 1 ∷ []) ∷ called f (n 0 ∷ []) ∷ called f (n 7 ∷ []) ∷ []) [] 0 ≡ ends (shows h (n 1 ∷ []) ∷ gives (n 7) ∷ shows h (n 0 ∷ []) ∷ []) (panics 7)
  -- a known denominator 0
  pub division : tells division_text ≡ Stops (Error 21) 32
  -- the type that is wanted of the form is wanted of its arm
  pub unused_operand : tells unused_operand_text ≡ Stops (Error 15) 37
  -- the export comes first, then what it calls
  pub before_export : tells before_export_text ≡ Stops (Error 15) 69
  -- a capture is not written by an operator either
  pub to_capture_operator : tells to_capture_operator_text ≡ Stops (Error 19) 39
  -- an argument has the type of its parameter
  pub argument_range : tells argument_range_text ≡ Stops (Error 15) 58
