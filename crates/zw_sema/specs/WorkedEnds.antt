-- What is known, what leaves and what never comes to its end, worked out by hand (Zig Language Reference 0.13.0, noreturn, while, for).
use Rattle.std.specs.Prelude.{◌≡◌, true, false, List, [], ◌∷◌, codes}
use Rattle.zw_session.specs.Sessions.{Truth, Finished}
use Rattle.zw_tree.specs.Trees.{Forest}
use Rattle.zw_tree.specs.declared.ast.Entry.{Entry}
use Rattle.zw_tree.specs.declared.kind.NodeKind.TheVariants as kind
use Rattle.zw_sema.specs.Building.{form, mention, name, number, parameter, export_of, return_of, called, n, gives, ends, panics}
use Rattle.zw_sema.specs.WorkedExpressions.{a, b, f, u8, bool}
use Rattle.zw_sema.specs.WorkedStatements.{x}
use Rattle.zw_sema.specs.FlowTexts.{block, label, a_const, var_of, assign, update, discard, of_else, when, choose, step, capture, no_capture, range, open_range, leave, leave_to, leave_with, go_on_in, runs, still, o, usize, y}

-- `export fn f() u8 { const x = while (false) {} else 300; return x - 299; }`
abbrev pub known_loop_text : List (Forest Entry)
known_loop_text =
    export_of 1 f [] 15 u8 (a_const 20 x (form kind.While 30 (mention 37 (codes "false") ∷ block 44 [] ∷ of_else 47 (number 52 300) ∷
    [])) ∷ return_of 57 (form kind.Subtract 64 (mention 64 x ∷ number 68 299 ∷ [])) ∷ []) ∷ []

-- `export fn f() u8 { const x = 3; if (x == 3) { return 1; } else { return true; } }`
abbrev pub chosen_text : List (Forest Entry)
chosen_text =
    export_of 1 f [] 15 u8 (a_const 20 x (number 30 3) ∷ choose 33 (form kind.Equal 37 (mention 37 x ∷ number 42 3 ∷
    [])) (block 45 (return_of 47 (number 54 1) ∷ [])) (block 64 (return_of 66 (mention 73 (codes "true")) ∷ [])) ∷ []) ∷ []

-- `export fn f(a: bool) u8 { _ = a or return 5; return 6; }`
abbrev pub or_return_text : List (Forest Entry)
or_return_text =
    export_of 1 f (parameter 13 a bool ∷ []) 22 u8 (discard 27 (form kind.Or 31 (mention 31 a ∷ return_of 36 (number 43 5) ∷ [])) ∷
    return_of 46 (number 53 6) ∷ []) ∷ []

-- `export fn f(a: u8) u8 { while (a < 3) : (true + 1) { return 1; } return 2; }`
abbrev pub step_left_text : List (Forest Entry)
step_left_text =
    export_of 1 f (parameter 13 a u8 ∷ []) 20 u8 (form kind.While 25 (form kind.Less 32 (mention 32 a ∷ number 36 3 ∷ []) ∷
    step 42 (form kind.Add 42 (mention 42 (codes "true") ∷ number 49 1 ∷ [])) ∷ block 52 (return_of 54 (number 61 1) ∷ []) ∷ []) ∷
    return_of 66 (number 73 2) ∷ []) ∷ []

-- `export fn f() u8 { var x: u8 = 0; while (true) : (if (x == 2) break) { x += 1; } return x; }`
abbrev pub break_in_step_text : List (Forest Entry)
break_in_step_text =
    export_of 1 f [] 15 u8 (var_of 20 x u8 (number 32 0) ∷ form kind.While 35 (mention 42 (codes "true") ∷
    step 51 (when 51 (form kind.Equal 55 (mention 55 x ∷ number 60 2 ∷ [])) (leave 63)) ∷
    block 70 (update kind.AddAssign 72 (mention 72 x) (number 77 1) ∷ []) ∷ []) ∷ return_of 82 (mention 89 x) ∷ []) ∷ []

-- `export fn f(a: u8) u8 { return o: while (true) { for (0..3) |_| { if (a == 1) break :o 7; break; } break 8; }; }`
abbrev pub out_of_inner_text : List (Forest Entry)
out_of_inner_text =
    export_of 1 f (parameter 13 a u8 ∷ []) 20 u8 (return_of 25 (form kind.While 32 (label 32 o ∷ mention 42 (codes "true") ∷
    block 48 (form kind.For 50 (range 55 (number 55 0) (number 58 3) ∷ no_capture 62 ∷
    block 65 (when 67 (form kind.Equal 71 (mention 71 a ∷ number 76 1 ∷ [])) (leave_to 79 o (number 88 7)) ∷ leave 91 ∷ []) ∷ []) ∷
    leave_with 100 (number 106 8) ∷ []) ∷ [])) ∷ []) ∷ []

-- `export fn f() usize { var x: usize = 0; o: for (0..3) |a| { for (0..3) |b| { if (b == a) continue :o; x += 1; } } return x; }`
abbrev pub next_of_range_text : List (Forest Entry)
next_of_range_text =
    export_of 1 f [] 15 usize (var_of 23 x usize (number 38 0) ∷ form kind.For 41 (label 41 o ∷ range 49 (number 49 0) (number 52 3) ∷
    capture 56 a ∷ block 59 (form kind.For 61 (range 66 (number 66 0) (number 69 3) ∷ capture 73 b ∷
    block 76 (when 78 (form kind.Equal 82 (mention 82 b ∷ mention 87 a ∷ [])) (go_on_in 90 o) ∷
    update kind.AddAssign 103 (mention 103 x) (number 108 1) ∷ []) ∷ []) ∷ []) ∷ []) ∷ return_of 115 (mention 122 x) ∷ []) ∷ []

-- `export fn f() usize { var x: usize = 0; for (0..2, 4294967295..) |_, b| { x = b; } return x; }`
abbrev pub past_end_text : List (Forest Entry)
past_end_text =
    export_of 1 f [] 15 usize (var_of 23 x usize (number 38 0) ∷ form kind.For 41 (range 46 (number 46 0) (number 49 2) ∷
    open_range 52 (number 52 4294967295) ∷ no_capture 67 ∷ capture 70 b ∷ block 73 (assign 75 (mention 75 x) (mention 79 b) ∷ []) ∷
    []) ∷ return_of 84 (mention 91 x) ∷ []) ∷ []

-- `export fn f() u8 { var x: u8 = 0; for (0..2, 4294967295..) |_, _| { x += 1; } return x; }`
abbrev pub past_blank_text : List (Forest Entry)
past_blank_text =
    export_of 1 f [] 15 u8 (var_of 20 x u8 (number 32 0) ∷ form kind.For 35 (range 40 (number 40 0) (number 43 2) ∷
    open_range 46 (number 46 4294967295) ∷ no_capture 61 ∷ no_capture 64 ∷
    block 67 (update kind.AddAssign 69 (mention 69 x) (number 74 1) ∷ []) ∷ []) ∷ return_of 79 (mention 86 x) ∷ []) ∷ []

-- `export fn f(a: u8) u8 { var x: u8 = 0; while (x < 2) : (x += 1) { if (x == a) break; } else return 9; return x; }`
abbrev pub else_returns_text : List (Forest Entry)
else_returns_text =
    export_of 1 f (parameter 13 a u8 ∷ []) 20 u8 (var_of 25 x u8 (number 37 0) ∷ form kind.While 40 (form kind.Less 47 (mention 47 x ∷
    number 51 2 ∷ []) ∷ step 57 (update kind.AddAssign 57 (mention 57 x) (number 62 1)) ∷
    block 65 (when 67 (form kind.Equal 71 (mention 71 x ∷ mention 76 a ∷ [])) (leave 79) ∷ []) ∷
    of_else 88 (return_of 93 (number 100 9)) ∷ []) ∷ return_of 103 (mention 110 x) ∷ []) ∷ []

-- `export fn f() u8 { var x: u8 = 0; for (0..3) |_| { var y: u8 = 1; y += x; x = y; } return x; }`
abbrev pub each_turn_text : List (Forest Entry)
each_turn_text =
    export_of 1 f [] 15 u8 (var_of 20 x u8 (number 32 0) ∷ form kind.For 35 (range 40 (number 40 0) (number 43 3) ∷ no_capture 47 ∷
    block 50 (var_of 52 y u8 (number 64 1) ∷ update kind.AddAssign 67 (mention 67 y) (mention 72 x) ∷
    assign 75 (mention 75 x) (mention 79 y) ∷ []) ∷ []) ∷ return_of 84 (mention 91 x) ∷ []) ∷ []

-- `export fn f(a: u8) u8 { var x = a; const y = x; x = 9; return y; }`
abbrev pub stays_text : List (Forest Entry)
stays_text =
    export_of 1 f (parameter 13 a u8 ∷ []) 20 u8 (form kind.Var 25 (name 29 x ∷ mention 33 a ∷ []) ∷ a_const 36 y (mention 46 x) ∷
    assign 49 (mention 49 x) (number 53 9) ∷ return_of 56 (mention 63 y) ∷ []) ∷ []

pub record WorkedEnds : Type 0 where
  -- a loop that does not begin is its `else`, which is known
  pub known_loop : runs known_loop_text (called f [] ∷ []) [] 0 ≡ ends (gives (n 1) ∷ []) Finished
  -- the condition is known, so the other arm is not walked
  pub chosen : runs chosen_text (called f [] ∷ []) [] 0 ≡ ends (gives (n 1) ∷ []) Finished
  -- the right side returns where it is come to
  pub or_return : runs or_return_text (called f (Truth true ∷ []) ∷ []) [] 0 ≡ ends (gives (n 6) ∷ []) Finished
  pub or_return_other : runs or_return_text (called f (Truth false ∷ []) ∷ []) [] 0 ≡ ends (gives (n 5) ∷ []) Finished
  -- the body never comes to the step, which is not walked
  pub step_left : runs step_left_text (called f (n 1 ∷ []) ∷ []) [] 0 ≡ ends (gives (n 1) ∷ []) Finished
  pub step_left_other : runs step_left_text (called f (n 5 ∷ []) ∷ []) [] 0 ≡ ends (gives (n 2) ∷ []) Finished
  -- a `break` in the step leaves the loop
  pub break_in_step : runs break_in_step_text (called f [] ∷ []) [] 1 ≡ ends (gives (n 2) ∷ []) Finished
  -- a value leaves both loops, or a `break` the inner one
  pub out_of_inner : runs out_of_inner_text (called f (n 1 ∷ []) ∷ []) [] 0 ≡ ends (gives (n 7) ∷ []) Finished
  pub out_of_inner_inner : runs out_of_inner_text (called f (n 2 ∷ []) ∷ []) [] 0 ≡ ends (gives (n 8) ∷ []) Finished
  -- 0 + 1 + 2; turns: three of the outer loop, and 0, 1 and 2 of the inner one
  pub next_of_range : runs next_of_range_text (called f [] ∷ []) [] 6 ≡ ends (gives (n 3) ∷ []) Finished
  pub next_of_range_short : runs next_of_range_text (called f [] ∷ []) [] 5 ≡ ends [] still
  -- the second capture is past `usize`
  pub past_end : runs past_end_text (called f [] ∷ []) [] 9 ≡ ends [] (panics 1)
  -- where it is `_` none is made
  pub past_blank : runs past_blank_text (called f [] ∷ []) [] 2 ≡ ends (gives (n 2) ∷ []) Finished
  -- the `else` returns where no `break` came
  pub else_returns : runs else_returns_text (called f (n 1 ∷ []) ∷ []) [] 1 ≡ ends (gives (n 1) ∷ []) Finished
  pub else_returns_none : runs else_returns_text (called f (n 7 ∷ []) ∷ []) [] 2 ≡ ends (gives (n 9) ∷ []) Finished
  -- the variable of a body is a new one each turn: 1, 2, 3
  pub each_turn : runs each_turn_text (called f [] ∷ []) [] 3 ≡ ends (gives (n 3) ∷ []) Finished
  -- a constant keeps the value that the variable had
  pub stays : runs stays_text (called f (n 4 ∷ []) ∷ []) [] 0 ≡ ends (gives (n 4) ∷ []) Finished
