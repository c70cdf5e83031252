-- Where statements stop, worked out by hand: each stop and its column.
use Rattle.std.specs.Prelude.{◌≡◌, List, [], ◌∷◌, codes}
use Rattle.zw_base.specs.declared.stop.StopKind.TheVariants.{Error}
use Rattle.zw_tree.specs.Trees.{Forest}
use Rattle.zw_tree.specs.declared.ast.Entry.{Entry}
use Rattle.zw_tree.specs.declared.kind.NodeKind.TheVariants as kind
use Rattle.zw_sema.specs.Building.{form, mention, name, number, builtin, parameter, export_of, extern_of, return_of, Stops}
use Rattle.zw_sema.specs.WorkedExpressions.{a, f, u8, bool}
use Rattle.zw_sema.specs.WorkedHost.{h}
use Rattle.zw_sema.specs.WorkedStatements.{x}
use Rattle.zw_sema.specs.FlowTexts.{block, labelled, a_const, const_of, var_of, assign, discard, when, choose, leave_to, call_of, fn_of, tells, g, o, void}

-- `export fn f(a: u8) void { a; }`
abbrev pub left_value_text : List (Forest Entry)
left_value_text =
    export_of 1 f (parameter 13 a u8 ∷ []) 20 void (mention 27 a ∷ []) ∷ []

-- `extern fn h() u8; export fn f() void { h(); }`
abbrev pub left_call_text : List (Forest Entry)
left_call_text =
    extern_of 1 h [] 15 u8 ∷ export_of 19 f [] 33 void (call_of 40 h [] ∷ []) ∷ []

-- `export fn f(a: bool) u8 { if (a) return 1; }`
abbrev pub falls_text : List (Forest Entry)
falls_text =
    export_of 1 f (parameter 13 a bool ∷ []) 22 u8 (when 27 (mention 31 a) (return_of 34 (number 41 1)) ∷ []) ∷ []

-- `export fn f(a: bool) void { _ = if (a) 5 else true; }`
abbrev pub no_peer_text : List (Forest Entry)
no_peer_text =
    export_of 1 f (parameter 13 a bool ∷ []) 22 void (discard 29 (choose 33 (mention 37 a) (number 40 5) (mention 47 (codes "true"))) ∷
    []) ∷ []

-- `export fn f(a: bool) void { _ = if (a) 5 else 6; }`
abbrev pub two_known_text : List (Forest Entry)
two_known_text =
    export_of 1 f (parameter 13 a bool ∷ []) 22 void (discard 29 (choose 33 (mention 37 a) (number 40 5) (number 47 6)) ∷ []) ∷ []

-- `export fn f() void { var x = 5; x = 6; }`
abbrev pub no_type_text : List (Forest Entry)
no_type_text =
    export_of 1 f [] 15 void (form kind.Var 22 (name 26 x ∷ number 30 5 ∷ []) ∷ assign 33 (mention 33 x) (number 37 6) ∷ []) ∷ []

-- `export fn f() void { var x: u8 = 300; x = 1; }`
abbrev pub too_big_text : List (Forest Entry)
too_big_text =
    export_of 1 f [] 15 void (var_of 22 x u8 (number 34 300) ∷ assign 39 (mention 39 x) (number 43 1) ∷ []) ∷ []

-- `export fn f() u8 { return o: { break :o 300; }; }`
abbrev pub too_big_break_text : List (Forest Entry)
too_big_break_text =
    export_of 1 f [] 15 u8 (return_of 20 (labelled 27 o (leave_to 32 o (number 41 300) ∷ [])) ∷ []) ∷ []

-- `fn g(x: u8) u8 { return x; } export fn f() u8 { return g(1, true); }`
abbrev pub arguments_text : List (Forest Entry)
arguments_text =
    fn_of 1 g (parameter 6 x u8 ∷ []) 13 u8 (return_of 18 (mention 25 x) ∷ []) ∷
    export_of 30 f [] 44 u8 (return_of 49 (call_of 56 g (number 58 1 ∷ mention 61 (codes "true") ∷ [])) ∷ []) ∷ []

-- `fn g(x: u8) u8 { return x; } export fn f() u8 { return g(true, 2); }`
abbrev pub argument_text : List (Forest Entry)
argument_text =
    fn_of 1 g (parameter 6 x u8 ∷ []) 13 u8 (return_of 18 (mention 25 x) ∷ []) ∷
    export_of 30 f [] 44 u8 (return_of 49 (call_of 56 g (mention 58 (codes "true") ∷ number 64 2 ∷ [])) ∷ []) ∷ []

-- `export fn f(a: u8) u8 { return a(1); }`
abbrev pub no_function_text : List (Forest Entry)
no_function_text =
    export_of 1 f (parameter 13 a u8 ∷ []) 20 u8 (return_of 25 (call_of 32 a (number 34 1 ∷ [])) ∷ []) ∷ []

-- `const x = unreachable; export fn f() u8 { return x; }`
abbrev pub unreached_text : List (Forest Entry)
unreached_text =
    a_const 1 x (form kind.Unreachable 11 []) ∷ export_of 24 f [] 38 u8 (return_of 43 (mention 50 x) ∷ []) ∷ []

-- `export fn f(a: u8) void { const x: u8 = 1; _ = @as(if (a == 1) u8 else bool, x); }`
abbrev pub parameter_early_text : List (Forest Entry)
parameter_early_text =
    export_of 1 f (parameter 13 a u8 ∷ []) 20 void (const_of 27 x u8 (number 41 1) ∷
    discard 44 (builtin 48 (codes "as") (choose 52 (form kind.Equal 56 (mention 56 a ∷ number 61 1 ∷
    [])) (mention 64 u8) (mention 72 bool) ∷ mention 78 x ∷ [])) ∷ []) ∷ []

-- `const x: u8 = x + 1; export fn f() u8 { return x; }`
abbrev pub itself_text : List (Forest Entry)
itself_text =
    const_of 1 x u8 (form kind.Add 15 (mention 15 x ∷ number 19 1 ∷ [])) ∷ export_of 22 f [] 36 u8 (return_of 41 (mention 48 x) ∷ []) ∷
    []

-- `export fn f(a: u8) u8 { if (a) return 1; return 2; }`
abbrev pub no_truth_text : List (Forest Entry)
no_truth_text =
    export_of 1 f (parameter 13 a u8 ∷ []) 20 u8 (when 25 (mention 29 a) (return_of 32 (number 39 1)) ∷ return_of 42 (number 49 2) ∷
    []) ∷ []

-- `fn g() u8 { return 1; } const x = g(); export fn f() u8 { return x; }`
abbrev pub early_call_text : List (Forest Entry)
early_call_text =
    fn_of 1 g [] 8 u8 (return_of 13 (number 20 1) ∷ []) ∷ a_const 25 x (call_of 35 g []) ∷
    export_of 40 f [] 54 u8 (return_of 59 (mention 66 x) ∷ []) ∷ []

-- `const x = while (true) {}; export fn f() u8 { return x; }`
abbrev pub early_loop_text : List (Forest Entry)
early_loop_text =
    a_const 1 x (form kind.While 11 (mention 18 (codes "true") ∷ block 24 [] ∷ [])) ∷
    export_of 28 f [] 42 u8 (return_of 47 (mention 54 x) ∷ []) ∷ []

pub record WorkedStops : Type 0 where
  -- a statement leaves no value
  pub left_value : tells left_value_text ≡ Stops (Error 28) 27
  -- nor does a call
  pub left_call : tells left_call_text ≡ Stops (Error 28) 40
  -- control comes to the end where a value is wanted
  pub falls : tells falls_text ≡ Stops (Error 32) 1
  -- arms without a peer type are told at the form
  pub no_peer : tells no_peer_text ≡ Stops (Error 14) 33
  -- numbers without a type of run time do not join under a condition that is not known
  pub two_known : tells two_known_text ≡ Stops (Error 16) 33
  -- a variable has a type of run time
  pub no_type : tells no_type_text ≡ Stops (Error 16) 22
  -- the number does not fit
  pub too_big : tells too_big_text ≡ Stops (Error 15) 34
  -- what is wanted of the block is wanted of the value
  pub too_big_break : tells too_big_break_text ≡ Stops (Error 15) 41
  -- a wrong number of arguments
  pub arguments : tells arguments_text ≡ Stops (Error 18) 56
  -- an argument that does not fit comes first
  pub argument : tells argument_text ≡ Stops (Error 14) 58
  -- what is called is a function
  pub no_function : tells no_function_text ≡ Stops (Error 18) 32
  -- it is illegal while compiling
  pub unreached : tells unreached_text ≡ Stops (Error 21) 11
  -- a parameter is not there while compiling
  pub parameter_early : tells parameter_early_text ≡ Stops (Error 23) 56
  -- a constant can not need itself
  pub itself : tells itself_text ≡ Stops (Error 26) 15
  -- a condition is a truth value
  pub no_truth : tells no_truth_text ≡ Stops (Error 20) 25
  -- calls while compiling are not built yet
  pub early_call : tells early_call_text ≡ Stops (Error 36) 35
  -- nor are loops
  pub early_loop : tells early_loop_text ≡ Stops (Error 36) 11
