-- Blocks while compiling, and units, worked out by hand: what is told of a text, and its sessions.
use Rattle.std.specs.Prelude.{◌≡◌, List, [], ◌∷◌, codes}
use Rattle.zw_base.specs.declared.stop.StopKind.TheVariants.{Error}
use Rattle.zw_session.specs.Sessions.{Finished}
use Rattle.zw_tree.specs.Trees.{Forest}
use Rattle.zw_tree.specs.declared.ast.Entry.{Entry}
use Rattle.zw_tree.specs.declared.kind.NodeKind.TheVariants as kind
use Rattle.zw_sema.specs.Building.{form, mention, number, builtin, parameter, export_of, extern_of, return_of, called, n, gives, ends, Stops}
use Rattle.zw_sema.specs.WorkedExpressions.{a, b, f, u8}
use Rattle.zw_sema.specs.WorkedHost.{h}
use Rattle.zw_sema.specs.WorkedStatements.{x}
use Rattle.zw_sema.specs.FlowTexts.{label, labelled, a_const, const_of, var_of, assign, discard, when, choose, leave_to, call_of, fn_of, tells, runs, g, i, o, void, y}

-- `const i = b: { const y = 4; break :b y + 1; }; export fn f() u8 { return i; }`
abbrev pub block_text : List (Forest Entry)
block_text =
    a_const 1 i (labelled 11 b (a_const 16 y (number 26 4) ∷ leave_to 29 b (form kind.Add 38 (mention 38 y ∷ number 42 1 ∷ [])) ∷ [])) ∷
    export_of 48 f [] 62 u8 (return_of 67 (mention 74 i) ∷ []) ∷ []

-- `const i = b: { if (true) break :b 5; break :b 6; }; export fn f() u8 { return i; }`
abbrev pub first_text : List (Forest Entry)
first_text =
    a_const 1 i (labelled 11 b (when 16 (mention 20 (codes "true")) (leave_to 26 b (number 35 5)) ∷ leave_to 38 b (number 47 6) ∷ [])) ∷
    export_of 53 f [] 67 u8 (return_of 72 (mention 79 i) ∷ []) ∷ []

-- `const i = o: { b: { if (true) break :o 5; break :b; } break :o 6; }; export fn f() u8 { return i; }`
abbrev pub past_inner_text : List (Forest Entry)
past_inner_text =
    a_const 1 i (labelled 11 o (labelled 16 b (when 21 (mention 25 (codes "true")) (leave_to 31 o (number 40 5)) ∷
    form kind.Break 43 (label 50 b ∷ []) ∷ []) ∷ leave_to 55 o (number 64 6) ∷ [])) ∷
    export_of 70 f [] 84 u8 (return_of 89 (mention 96 i) ∷ []) ∷ []

-- `const i = o: { b: { if (true) break :b; break :o 5; } break :o 6; }; export fn f() u8 { return i; }`
abbrev pub past_rest_text : List (Forest Entry)
past_rest_text =
    a_const 1 i (labelled 11 o (labelled 16 b (when 21 (mention 25 (codes "true")) (form kind.Break 31 (label 38 b ∷ [])) ∷
    leave_to 41 o (number 50 5) ∷ []) ∷ leave_to 55 o (number 64 6) ∷ [])) ∷ export_of 70 f [] 84 u8 (return_of 89 (mention 96 i) ∷
    []) ∷ []

-- `const i = 1 + b: { break :b 5; }; export fn f() u8 { return i; }`
abbrev pub in_sum_text : List (Forest Entry)
in_sum_text =
    a_const 1 i (form kind.Add 11 (number 11 1 ∷ labelled 15 b (leave_to 20 b (number 29 5) ∷ []) ∷ [])) ∷
    export_of 35 f [] 49 u8 (return_of 54 (mention 61 i) ∷ []) ∷ []

-- `const i = b: { 5; break :b 1; }; export fn f() u8 { return i; }`
abbrev pub value_text : List (Forest Entry)
value_text =
    a_const 1 i (labelled 11 b (number 16 5 ∷ leave_to 19 b (number 28 1) ∷ [])) ∷ export_of 34 f [] 48 u8 (return_of 53 (mention 60 i) ∷
    []) ∷ []

-- `const i: u8 = b: { break :b 300; }; export fn f() u8 { return i; }`
abbrev pub range_text : List (Forest Entry)
range_text =
    const_of 1 i u8 (labelled 15 b (leave_to 20 b (number 29 300) ∷ [])) ∷ export_of 37 f [] 51 u8 (return_of 56 (mention 63 i) ∷ []) ∷
    []

-- `const i = b: { var y: u8 = 1; y = 2; break :b y; }; export fn f() u8 { return i; }`
abbrev pub variable_text : List (Forest Entry)
variable_text =
    a_const 1 i (labelled 11 b (var_of 16 y u8 (number 28 1) ∷ assign 31 (mention 31 y) (number 35 2) ∷ leave_to 38 b (mention 47 y) ∷
    [])) ∷ export_of 53 f [] 67 u8 (return_of 72 (mention 79 i) ∷ []) ∷ []

-- `export fn f() u8 { const x = g(1); return x; } fn g(y: u8) u8 { const i = y + 1; return i + true; }`
abbrev pub inside_text : List (Forest Entry)
inside_text =
    export_of 1 f [] 15 u8 (a_const 20 x (call_of 30 g (number 32 1 ∷ [])) ∷ return_of 36 (mention 43 x) ∷ []) ∷
    fn_of 48 g (parameter 53 y u8 ∷ []) 60 u8 (a_const 65 i (form kind.Add 75 (mention 75 y ∷ number 79 1 ∷ [])) ∷
    return_of 82 (form kind.Add 89 (mention 89 i ∷ mention 93 (codes "true") ∷ [])) ∷ []) ∷ []

-- `export fn f() u8 { return g(1); } fn g(x: true) u8 { return x; }`
abbrev pub signature_text : List (Forest Entry)
signature_text =
    export_of 1 f [] 15 u8 (return_of 20 (call_of 27 g (number 29 1 ∷ [])) ∷ []) ∷ fn_of 35 g (parameter 40 x (codes "true") ∷
    []) 49 u8 (return_of 54 (mention 61 x) ∷ []) ∷ []

-- `export fn f() void { g(); } fn g() void { h(true); } extern fn h(x: u8) void; export fn i() void { h(false); }`
abbrev pub export_order_text : List (Forest Entry)
export_order_text =
    export_of 1 f [] 15 void (call_of 22 g [] ∷ []) ∷ fn_of 29 g [] 36 void (call_of 43 h (mention 45 (codes "true") ∷ []) ∷ []) ∷
    extern_of 54 h (parameter 66 x u8 ∷ []) 73 void ∷ export_of 79 i [] 93 void (call_of 100 h (mention 102 (codes "false") ∷ []) ∷
    []) ∷ []

-- `export fn f(a: u8) void { _ = @as(@TypeOf(a), 300); }`
abbrev pub comptime_parameter_text : List (Forest Entry)
comptime_parameter_text =
    export_of 1 f (parameter 13 a u8 ∷ []) 20 void (discard 27 (builtin 31 (codes "as") (builtin 35 (codes "TypeOf") (mention 43 a ∷
    []) ∷ number 47 300 ∷ [])) ∷ []) ∷ []

-- `extern fn h() u8; export fn f() u8 { return @as(@TypeOf(h()), 5); }`
abbrev pub type_of_call_text : List (Forest Entry)
type_of_call_text =
    extern_of 1 h [] 15 u8 ∷
    export_of 19 f [] 33 u8 (return_of 38 (builtin 45 (codes "as") (builtin 49 (codes "TypeOf") (call_of 57 h [] ∷ []) ∷ number 63 5 ∷
    [])) ∷ []) ∷ []

-- `export fn f() u8 { _ = @TypeOf(return 3); return 1; }`
abbrev pub type_of_return_text : List (Forest Entry)
type_of_return_text =
    export_of 1 f [] 15 u8 (discard 20 (builtin 24 (codes "TypeOf") (return_of 32 (number 39 3) ∷ [])) ∷ return_of 43 (number 50 1) ∷
    []) ∷ []

-- `const i = if (false) unreachable else true + 1; export fn f() u8 { return i; }`
abbrev pub unreachable_part_text : List (Forest Entry)
unreachable_part_text =
    a_const 1 i (choose 11 (mention 15 (codes "false")) (form kind.Unreachable 22 []) (form kind.Add 39 (mention 39 (codes "true") ∷
    number 46 1 ∷ []))) ∷ export_of 49 f [] 63 u8 (return_of 68 (mention 75 i) ∷ []) ∷ []

pub record WorkedEarly : Type 0 where
  -- a block of the file is evaluated while compiling
  pub block : runs block_text (called f [] ∷ []) [] 0 ≡ ends (gives (n 5) ∷ []) Finished
  -- the first `break` that is come to leaves it
  pub first : runs first_text (called f [] ∷ []) [] 0 ≡ ends (gives (n 5) ∷ []) Finished
  -- it leaves the inner block too
  pub past_inner : runs past_inner_text (called f [] ∷ []) [] 0 ≡ ends (gives (n 5) ∷ []) Finished
  -- or the inner one alone
  pub past_rest : runs past_rest_text (called f [] ∷ []) [] 0 ≡ ends (gives (n 6) ∷ []) Finished
  -- a block in a sum
  pub in_sum : runs in_sum_text (called f [] ∷ []) [] 0 ≡ ends (gives (n 6) ∷ []) Finished
  -- a statement leaves no value while compiling either
  pub value : tells value_text ≡ Stops (Error 28) 16
  -- what leaves becomes of the type that is wanted
  pub range : tells range_text ≡ Stops (Error 15) 29
  -- variables while compiling are not built yet
  pub variable : tells variable_text ≡ Stops (Error 36) 16
  -- the stop of a unit stands in its own body
  pub inside : tells inside_text ≡ Stops (Error 20) 89
  -- a parameter has a type
  pub signature : tells signature_text ≡ Stops (Error 14) 43
  -- exports are walked before other functions
  pub export_order : tells export_order_text ≡ Stops (Error 14) 102
  -- `@TypeOf` may name a parameter
  pub comptime_parameter : tells comptime_parameter_text ≡ Stops (Error 15) 47
  -- nothing is asked of the host for the type
  pub type_of_call : runs type_of_call_text (called f [] ∷ []) [] 0 ≡ ends (gives (n 5) ∷ []) Finished
  -- and nothing returns
  pub type_of_return : runs type_of_return_text (called f [] ∷ []) [] 0 ≡ ends (gives (n 1) ∷ []) Finished
  -- the chosen part alone is evaluated
  pub unreachable_part : tells unreachable_part_text ≡ Stops (Error 20) 39
