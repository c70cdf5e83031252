-- What joins, what returns and where names are visible, worked out by hand: each stop and its column.
use Rattle.std.specs.Prelude.{◌≡◌, List, [], ◌∷◌, codes}
use Rattle.zw_base.specs.declared.stop.StopKind.TheVariants.{Error}
use Rattle.zw_tree.specs.Trees.{Forest}
use Rattle.zw_tree.specs.declared.ast.Entry.{Entry}
use Rattle.zw_tree.specs.declared.kind.NodeKind.TheVariants as kind
use Rattle.zw_sema.specs.Building.{form, mention, number, builtin, parameter, export_of, return_of, Stops}
use Rattle.zw_sema.specs.WorkedExpressions.{a, b, f, u8, i64, bool}
use Rattle.zw_sema.specs.WorkedStatements.{x}
use Rattle.zw_sema.specs.FlowTexts.{block, labelled, a_const, const_of, discard, of_else, when, choose, no_capture, range, leave_to, call_of, fn_of, tells, g, noreturn, void}

-- `export fn f(a: bool) void { const x = b: { if (a) break :b 1; break :b 2; }; _ = x; }`
abbrev pub breaks_text : List (Forest Entry)
breaks_text =
    export_of 1 f (parameter 13 a bool ∷ []) 22 void (a_const 29 x (labelled 39 b (when 44 (mention 48 a) (leave_to 51 b (number 60 1)) ∷
    leave_to 63 b (number 72 2) ∷ [])) ∷ discard 78 (mention 82 x) ∷ []) ∷ []

-- `export fn f(a: bool) u8 { const x = if (a) 5 else return 1; return x; }`
abbrev pub lost_text : List (Forest Entry)
lost_text =
    export_of 1 f (parameter 13 a bool ∷ []) 22 u8 (a_const 27 x (choose 37 (mention 41 a) (number 44 5) (return_of 51 (number 58 1))) ∷
    return_of 61 (mention 68 x) ∷ []) ∷ []

-- `export fn f(a: bool, x: u8) u8 { return x + b: { if (a) break :b 1; return 9; }; }`
abbrev pub lost_sum_text : List (Forest Entry)
lost_sum_text =
    export_of 1 f (parameter 13 a bool ∷ parameter 22 x u8 ∷ []) 29 u8 (return_of 34 (form kind.Add 41 (mention 41 x ∷
    labelled 45 b (when 50 (mention 54 a) (leave_to 57 b (number 66 1)) ∷ return_of 69 (number 76 9) ∷ []) ∷ [])) ∷ []) ∷ []

-- `export fn f(a: bool) void { if (a) 5; }`
abbrev pub arm_alone_text : List (Forest Entry)
arm_alone_text =
    export_of 1 f (parameter 13 a bool ∷ []) 22 void (when 29 (mention 33 a) (number 36 5) ∷ []) ∷ []

-- `export fn f() void { if (true) 5; }`
abbrev pub arm_known_text : List (Forest Entry)
arm_known_text =
    export_of 1 f [] 15 void (when 22 (mention 26 (codes "true")) (number 32 5) ∷ []) ∷ []

-- `export fn f(a: bool) void { while (a) {} else @as(u8, 5); }`
abbrev pub loop_value_text : List (Forest Entry)
loop_value_text =
    export_of 1 f (parameter 13 a bool ∷ []) 22 void (form kind.While 29 (mention 36 a ∷ block 39 [] ∷
    of_else 42 (builtin 47 (codes "as") (mention 51 u8 ∷ number 55 5 ∷ [])) ∷ []) ∷ []) ∷ []

-- `export fn f() u8 { { const x: u8 = 1; _ = x; } return x; }`
abbrev pub behind_text : List (Forest Entry)
behind_text =
    export_of 1 f [] 15 u8 (block 20 (const_of 22 x u8 (number 36 1) ∷ discard 39 (mention 43 x) ∷ []) ∷ return_of 48 (mention 55 x) ∷
    []) ∷ []

-- `export fn f() u8 { return; }`
abbrev pub returns_void_text : List (Forest Entry)
returns_void_text =
    export_of 1 f [] 15 u8 (form kind.Return 20 [] ∷ []) ∷ []

-- `export fn f() void { return 5; }`
abbrev pub returns_value_text : List (Forest Entry)
returns_value_text =
    export_of 1 f [] 15 void (return_of 22 (number 29 5) ∷ []) ∷ []

-- `fn g() noreturn {} export fn f() u8 { g(); }`
abbrev pub ends_text : List (Forest Entry)
ends_text =
    fn_of 1 g [] 8 noreturn [] ∷ export_of 20 f [] 34 u8 (call_of 39 g [] ∷ []) ∷ []

-- `fn g() noreturn { return; } export fn f() u8 { g(); }`
abbrev pub goes_back_text : List (Forest Entry)
goes_back_text =
    fn_of 1 g [] 8 noreturn (form kind.Return 19 [] ∷ []) ∷ export_of 29 f [] 43 u8 (call_of 48 g [] ∷ []) ∷ []

-- `export fn f() void { for (0..4294967296) |_| {} }`
abbrev pub bound_text : List (Forest Entry)
bound_text =
    export_of 1 f [] 15 void (form kind.For 22 (range 27 (number 27 0) (number 30 4294967296) ∷ no_capture 43 ∷ block 46 [] ∷ []) ∷ []) ∷
    []

-- `export fn f(a: i64) void { for (0..a) |_| {} }`
abbrev pub bound_type_text : List (Forest Entry)
bound_type_text =
    export_of 1 f (parameter 13 a i64 ∷ []) 21 void (form kind.For 28 (range 33 (number 33 0) (mention 36 a) ∷ no_capture 40 ∷
    block 43 [] ∷ []) ∷ []) ∷ []

pub record WorkedRefused : Type 0 where
  -- several numbers without a type of run time
  pub breaks : tells breaks_text ≡ Stops (Error 16) 39
  -- the number is not known where one arm returns
  pub lost : tells lost_text ≡ Stops (Error 16) 27
  -- the same in a sum
  pub lost_sum : tells lost_sum_text ≡ Stops (Error 16) 41
  -- a number does not join nothing
  pub arm_alone : tells arm_alone_text ≡ Stops (Error 14) 29
  -- the chosen arm is what the statement leaves
  pub arm_known : tells arm_known_text ≡ Stops (Error 28) 22
  -- a loop that leaves a value is no statement
  pub loop_value : tells loop_value_text ≡ Stops (Error 28) 29
  -- a local is not visible behind its block
  pub behind : tells behind_text ≡ Stops (Error 9) 55
  -- a return without a value where one is wanted
  pub returns_void : tells returns_void_text ≡ Stops (Error 14) 20
  -- and with one where none is
  pub returns_value : tells returns_value_text ≡ Stops (Error 14) 29
  -- a function that never comes back has no end
  pub ends : tells ends_text ≡ Stops (Error 32) 1
  -- and does not return
  pub goes_back : tells goes_back_text ≡ Stops (Error 14) 19
  -- a bound is a `usize`
  pub bound : tells bound_text ≡ Stops (Error 15) 30
  -- and nothing that may not be one
  pub bound_type : tells bound_type_text ≡ Stops (Error 14) 36
