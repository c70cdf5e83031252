-- Loops over ranges worked out by hand (Zig Language Reference 0.13.0, for): what is told of a text, and its sessions.
use Rattle.std.specs.Prelude.{◌≡◌, List, [], ◌∷◌}
use Rattle.zw_base.specs.declared.stop.StopKind.TheVariants.{Error}
use Rattle.zw_session.specs.Sessions.{Finished}
use Rattle.zw_tree.specs.Trees.{Forest}
use Rattle.zw_tree.specs.declared.ast.Entry.{Entry}
use Rattle.zw_tree.specs.declared.kind.NodeKind.TheVariants as kind
use Rattle.zw_sema.specs.Building.{form, mention, number, parameter, export_of, return_of, called, n, gives, ends, panics, Stops}
use Rattle.zw_sema.specs.WorkedExpressions.{a, b, f, u8, bool}
use Rattle.zw_sema.specs.WorkedStatements.{x}
use Rattle.zw_sema.specs.FlowTexts.{block, var_of, assign, update, discard, of_else, when, capture, no_capture, range, open_range, leave_with, tells, runs, still, i, usize, void}

-- `export fn f() usize { var x: usize = 0; for (0..3) |i| { x += i; } return x; }`
abbrev pub three_text : List (Forest Entry)
three_text =
    export_of 1 f [] 15 usize (var_of 23 x usize (number 38 0) ∷ form kind.For 41 (range 46 (number 46 0) (number 49 3) ∷ capture 53 i ∷
    block 56 (update kind.AddAssign 58 (mention 58 x) (mention 63 i) ∷ []) ∷ []) ∷ return_of 68 (mention 75 x) ∷ []) ∷ []

-- `export fn f() usize { var x: usize = 0; for (0..3, 5..) |a, b| { x += a * b; } return x; }`
abbrev pub beside_text : List (Forest Entry)
beside_text =
    export_of 1 f [] 15 usize (var_of 23 x usize (number 38 0) ∷ form kind.For 41 (range 46 (number 46 0) (number 49 3) ∷
    open_range 52 (number 52 5) ∷ capture 58 a ∷ capture 61 b ∷
    block 64 (update kind.AddAssign 66 (mention 66 x) (form kind.Multiply 71 (mention 71 a ∷ mention 75 b ∷ [])) ∷ []) ∷ []) ∷
    return_of 80 (mention 87 x) ∷ []) ∷ []

-- `export fn f() usize { var x: usize = 0; for (3..1) |i| { x += i; } return x; }`
abbrev pub down_text : List (Forest Entry)
down_text =
    export_of 1 f [] 15 usize (var_of 23 x usize (number 38 0) ∷ form kind.For 41 (range 46 (number 46 3) (number 49 1) ∷ capture 53 i ∷
    block 56 (update kind.AddAssign 58 (mention 58 x) (mention 63 i) ∷ []) ∷ []) ∷ return_of 68 (mention 75 x) ∷ []) ∷ []

-- `export fn f(a: usize, b: usize) usize { var x: usize = 0; for (a..b) |i| { x += i; } return x; }`
abbrev pub down_open_text : List (Forest Entry)
down_open_text =
    export_of 1 f (parameter 13 a usize ∷ parameter 23 b usize ∷ []) 33 usize (var_of 41 x usize (number 56 0) ∷
    form kind.For 59 (range 64 (mention 64 a) (mention 67 b) ∷ capture 71 i ∷
    block 74 (update kind.AddAssign 76 (mention 76 x) (mention 81 i) ∷ []) ∷ []) ∷ return_of 86 (mention 93 x) ∷ []) ∷ []

-- `export fn f() u8 { for (0..2, 0..3) |_, _| {} return 1; }`
abbrev pub differ_text : List (Forest Entry)
differ_text =
    export_of 1 f [] 15 u8 (form kind.For 20 (range 25 (number 25 0) (number 28 2) ∷ range 31 (number 31 0) (number 34 3) ∷
    no_capture 38 ∷ no_capture 41 ∷ block 44 [] ∷ []) ∷ return_of 47 (number 54 1) ∷ []) ∷ []

-- `export fn f(a: usize) u8 { for (0..a, 0..3) |_, _| {} return 1; }`
abbrev pub differ_open_text : List (Forest Entry)
differ_open_text =
    export_of 1 f (parameter 13 a usize ∷ []) 23 u8 (form kind.For 28 (range 33 (number 33 0) (mention 36 a) ∷
    range 39 (number 39 0) (number 42 3) ∷ no_capture 46 ∷ no_capture 49 ∷ block 52 [] ∷ []) ∷ return_of 55 (number 62 1) ∷ []) ∷ []

-- `export fn f(a: usize) u8 { for (0..9, 2..a) |_, _| {} return 1; }`
abbrev pub first_down_text : List (Forest Entry)
first_down_text =
    export_of 1 f (parameter 13 a usize ∷ []) 23 u8 (form kind.For 28 (range 33 (number 33 0) (number 36 9) ∷
    range 39 (number 39 2) (mention 42 a) ∷ no_capture 46 ∷ no_capture 49 ∷ block 52 [] ∷ []) ∷ return_of 55 (number 62 1) ∷ []) ∷ []

-- `export fn f(a: usize) u8 { return for (0..3) |i| { if (i == a) break 7; } else 8; }`
abbrev pub range_else_text : List (Forest Entry)
range_else_text =
    export_of 1 f (parameter 13 a usize ∷ []) 23 u8 (return_of 28 (form kind.For 35 (range 40 (number 40 0) (number 43 3) ∷
    capture 47 i ∷ block 50 (when 52 (form kind.Equal 56 (mention 56 i ∷ mention 61 a ∷ [])) (leave_with 64 (number 70 7)) ∷ []) ∷
    of_else 75 (number 80 8) ∷ [])) ∷ []) ∷ []

-- `export fn f() void { for (0..3) |i| { i = 1; } }`
abbrev pub capture_written_text : List (Forest Entry)
capture_written_text =
    export_of 1 f [] 15 void (form kind.For 22 (range 27 (number 27 0) (number 30 3) ∷ capture 34 i ∷
    block 37 (assign 39 (mention 39 i) (number 43 1) ∷ []) ∷ []) ∷ []) ∷ []

-- `export fn f() void { for (0..3) |a, b| { _ = a; _ = b; } }`
abbrev pub capture_count_text : List (Forest Entry)
capture_count_text =
    export_of 1 f [] 15 void (form kind.For 22 (range 27 (number 27 0) (number 30 3) ∷ capture 34 a ∷ capture 37 b ∷
    block 40 (discard 42 (mention 46 a) ∷ discard 49 (mention 53 b) ∷ []) ∷ []) ∷ []) ∷ []

-- `export fn f() void { for (0..) |i| { _ = i; } }`
abbrev pub no_end_text : List (Forest Entry)
no_end_text =
    export_of 1 f [] 15 void (form kind.For 22 (open_range 27 (number 27 0) ∷ capture 33 i ∷ block 36 (discard 38 (mention 42 i) ∷ []) ∷
    []) ∷ []) ∷ []

-- `export fn f(a: u8) void { while (a) {} }`
abbrev pub not_truth_text : List (Forest Entry)
not_truth_text =
    export_of 1 f (parameter 13 a u8 ∷ []) 20 void (form kind.While 27 (mention 34 a ∷ block 37 [] ∷ []) ∷ []) ∷ []

-- `export fn f(a: bool) void { while (a) 5; }`
abbrev pub body_value_text : List (Forest Entry)
body_value_text =
    export_of 1 f (parameter 13 a bool ∷ []) 22 void (form kind.While 29 (mention 36 a ∷ number 39 5 ∷ []) ∷ []) ∷ []

pub record WorkedRanges : Type 0 where
  -- 0, 1 and 2; each turn returns to the test, the last one too
  pub three : runs three_text (called f [] ∷ []) [] 3 ≡ ends (gives (n 3) ∷ []) Finished
  pub three_short : runs three_text (called f [] ∷ []) [] 2 ≡ ends [] still
  -- 0 * 5 + 1 * 6 + 2 * 7
  pub beside : runs beside_text (called f [] ∷ []) [] 3 ≡ ends (gives (n 20) ∷ []) Finished
  -- a range that runs down panics, known or not
  pub down : runs down_text (called f [] ∷ []) [] 9 ≡ ends [] (panics 1)
  -- the same of bounds that are not known
  pub down_open : runs down_open_text (called f (n 3 ∷ n 1 ∷ []) ∷ []) [] 9 ≡ ends [] (panics 1)
  pub down_open_up : runs down_open_text (called f (n 1 ∷ n 3 ∷ []) ∷ []) [] 2 ≡ ends (gives (n 3) ∷ []) Finished
  pub down_open_empty : runs down_open_text (called f (n 2 ∷ n 2 ∷ []) ∷ []) [] 0 ≡ ends (gives (n 0) ∷ []) Finished
  -- lengths that differ panic
  pub differ : runs differ_text (called f [] ∷ []) [] 9 ≡ ends [] (panics 15)
  -- the same of one that is not known
  pub differ_open : runs differ_open_text (called f (n 2 ∷ []) ∷ []) [] 9 ≡ ends [] (panics 15)
  pub differ_open_same : runs differ_open_text (called f (n 3 ∷ []) ∷ []) [] 3 ≡ ends (gives (n 1) ∷ []) Finished
  -- each difference comes before the lengths
  pub first_down : runs first_down_text (called f (n 1 ∷ []) ∷ []) [] 9 ≡ ends [] (panics 1)
  -- the `else` gives the value where no `break` does
  pub range_else : runs range_else_text (called f (n 1 ∷ []) ∷ []) [] 1 ≡ ends (gives (n 7) ∷ []) Finished
  pub range_else_none : runs range_else_text (called f (n 5 ∷ []) ∷ []) [] 3 ≡ ends (gives (n 8) ∷ []) Finished
  -- a capture is a constant
  pub capture_written : tells capture_written_text ≡ Stops (Error 19) 39
  -- each operand has one capture
  pub capture_count : tells capture_count_text ≡ Stops (Error 20) 22
  -- one range at least has an end
  pub no_end : tells no_end_text ≡ Stops (Error 20) 22
  -- a condition is a truth value
  pub not_truth : tells not_truth_text ≡ Stops (Error 20) 27
  -- a body leaves no value
  pub body_value : tells body_value_text ≡ Stops (Error 28) 39
