-- What never comes to its end, and what joins, worked out by hand (Zig Language Reference 0.13.0, noreturn, Peer Type Resolution).
use Rattle.std.specs.Prelude.{◌≡◌, true, false, List, [], ◌∷◌, codes}
use Rattle.zw_base.specs.declared.stop.StopKind.TheVariants.{Error}
use Rattle.zw_session.specs.Sessions.{Truth, Finished}
use Rattle.zw_tree.specs.Trees.{Forest}
use Rattle.zw_tree.specs.declared.ast.Entry.{Entry}
use Rattle.zw_tree.specs.declared.kind.NodeKind.TheVariants as kind
use Rattle.zw_sema.specs.Building.{form, mention, number, parameter, export_of, extern_of, return_of, called, n, shows, gives, ends, Stops}
use Rattle.zw_sema.specs.WorkedExpressions.{a, b, f, u8, bool}
use Rattle.zw_sema.specs.WorkedHost.{h}
use Rattle.zw_sema.specs.WorkedStatements.{x}
use Rattle.zw_sema.specs.FlowTexts.{block, label, labelled, a_const, const_of, var_of, assign, update, discard, when, choose, step, no_capture, range, leave, leave_to, leave_with, go_on, call_of, tells, runs, still, i, o, void, y}

-- `export fn f() u8 { return return 5; }`
abbrev pub returned_twice_text : List (Forest Entry)
returned_twice_text =
    export_of 1 f [] 15 u8 (return_of 20 (return_of 27 (number 34 5)) ∷ []) ∷ []

-- `export fn f() u8 { const x: u8 = return 1; _ = x + true; }`
abbrev pub const_ends_text : List (Forest Entry)
const_ends_text =
    export_of 1 f [] 15 u8 (const_of 20 x u8 (return_of 34 (number 41 1)) ∷ discard 44 (form kind.Add 48 (mention 48 x ∷
    mention 52 (codes "true") ∷ [])) ∷ []) ∷ []

-- `export fn f() u8 { var x: u8 = 1; x = return 5; x = true; }`
abbrev pub store_ends_text : List (Forest Entry)
store_ends_text =
    export_of 1 f [] 15 u8 (var_of 20 x u8 (number 32 1) ∷ assign 35 (mention 35 x) (return_of 39 (number 46 5)) ∷
    assign 49 (mention 49 x) (mention 53 (codes "true")) ∷ []) ∷ []

-- `export fn f() u8 { if (return 5) { return true; } }`
abbrev pub condition_ends_text : List (Forest Entry)
condition_ends_text =
    export_of 1 f [] 15 u8 (when 20 (return_of 24 (number 31 5)) (block 34 (return_of 36 (mention 43 (codes "true")) ∷ [])) ∷ []) ∷ []

-- `export fn f() u8 { for (0..return 5) |_| { return true; } }`
abbrev pub bound_ends_text : List (Forest Entry)
bound_ends_text =
    export_of 1 f [] 15 u8 (form kind.For 20 (range 25 (number 25 0) (return_of 28 (number 35 5)) ∷ no_capture 39 ∷
    block 42 (return_of 44 (mention 51 (codes "true")) ∷ []) ∷ []) ∷ []) ∷ []

-- `export fn f(a: bool) u8 { if (a) { return 1; } else { return 2; } }`
abbrev pub both_return_text : List (Forest Entry)
both_return_text =
    export_of 1 f (parameter 13 a bool ∷ []) 22 u8 (choose 27 (mention 31 a) (block 34 (return_of 36 (number 43 1) ∷
    [])) (block 53 (return_of 55 (number 62 2) ∷ [])) ∷ []) ∷ []

-- `export fn f(a: bool) u8 { o: { if (a) break :o; return 1; } }`
abbrev pub may_fall_text : List (Forest Entry)
may_fall_text =
    export_of 1 f (parameter 13 a bool ∷ []) 22 u8 (labelled 27 o (when 32 (mention 36 a) (form kind.Break 39 (label 46 o ∷ [])) ∷
    return_of 49 (number 56 1) ∷ []) ∷ []) ∷ []

-- `export fn f() u8 { while (true) { while (true) { break; } } }`
abbrev pub inner_break_text : List (Forest Entry)
inner_break_text =
    export_of 1 f [] 15 u8 (form kind.While 20 (mention 27 (codes "true") ∷ block 33 (form kind.While 35 (mention 42 (codes "true") ∷
    block 48 (leave 50 ∷ []) ∷ []) ∷ []) ∷ []) ∷ []) ∷ []

-- `export fn f() u8 { while (true) { if (false) break; } }`
abbrev pub break_unwalked_text : List (Forest Entry)
break_unwalked_text =
    export_of 1 f [] 15 u8 (form kind.While 20 (mention 27 (codes "true") ∷ block 33 (when 35 (mention 39 (codes "false")) (leave 46) ∷
    []) ∷ []) ∷ []) ∷ []

-- `export fn f() u8 { var x: u8 = 0; while (x < 2) : (x += 1) { continue; x = true; } return x; }`
abbrev pub continue_ends_text : List (Forest Entry)
continue_ends_text =
    export_of 1 f [] 15 u8 (var_of 20 x u8 (number 32 0) ∷ form kind.While 35 (form kind.Less 42 (mention 42 x ∷ number 46 2 ∷ []) ∷
    step 52 (update kind.AddAssign 52 (mention 52 x) (number 57 1)) ∷ block 60 (go_on 62 ∷
    assign 72 (mention 72 x) (mention 76 (codes "true")) ∷ []) ∷ []) ∷ return_of 84 (mention 91 x) ∷ []) ∷ []

-- `export fn f(a: bool, b: u8) u8 { const x = if (a) b else 300; return x; }`
abbrev pub peer_range_text : List (Forest Entry)
peer_range_text =
    export_of 1 f (parameter 13 a bool ∷ parameter 22 b u8 ∷
    []) 29 u8 (a_const 34 x (choose 44 (mention 48 a) (mention 51 b) (number 58 300)) ∷ return_of 63 (mention 70 x) ∷ []) ∷ []

-- `export fn f(a: bool, b: u8) u8 { const x = o: { if (a) break :o b; break :o 300; }; return x; }`
abbrev pub break_range_text : List (Forest Entry)
break_range_text =
    export_of 1 f (parameter 13 a bool ∷ parameter 22 b u8 ∷
    []) 29 u8 (a_const 34 x (labelled 44 o (when 49 (mention 53 a) (leave_to 56 o (mention 65 b)) ∷ leave_to 68 o (number 77 300) ∷
    [])) ∷ return_of 85 (mention 92 x) ∷ []) ∷ []

-- `export fn f(a: bool) void { _ = while (a) { break 5; }; }`
abbrev pub no_else_text : List (Forest Entry)
no_else_text =
    export_of 1 f (parameter 13 a bool ∷ []) 22 void (discard 29 (form kind.While 33 (mention 40 a ∷
    block 43 (leave_with 45 (number 51 5) ∷ []) ∷ [])) ∷ []) ∷ []

-- `extern fn h() u8; export fn f() u8 { const x = h(); const y = x; return x - y; }`
abbrev pub once_text : List (Forest Entry)
once_text =
    extern_of 1 h [] 15 u8 ∷ export_of 19 f [] 33 u8 (a_const 38 x (call_of 48 h []) ∷ a_const 53 y (mention 63 x) ∷
    return_of 66 (form kind.Subtract 73 (mention 73 x ∷ mention 77 y ∷ [])) ∷ []) ∷ []

-- `const i = f; export fn f(a: u8) u8 { if (a == 0) return 7; return i(a - 1); }`
abbrev pub through_constant_text : List (Forest Entry)
through_constant_text =
    a_const 1 i (mention 11 f) ∷ export_of 14 f (parameter 26 a u8 ∷ []) 33 u8 (when 38 (form kind.Equal 42 (mention 42 a ∷ number 47 0 ∷
    [])) (return_of 50 (number 57 7)) ∷ return_of 60 (call_of 67 i (form kind.Subtract 69 (mention 69 a ∷ number 73 1 ∷ []) ∷ [])) ∷
    []) ∷ []

pub record WorkedPassing : Type 0 where
  -- the inner one returns
  pub returned_twice : runs returned_twice_text (called f [] ∷ []) [] 0 ≡ ends (gives (n 5) ∷ []) Finished
  -- a constant whose value never comes ends its block
  pub const_ends : runs const_ends_text (called f [] ∷ []) [] 0 ≡ ends (gives (n 1) ∷ []) Finished
  -- so does what is written
  pub store_ends : runs store_ends_text (called f [] ∷ []) [] 0 ≡ ends (gives (n 5) ∷ []) Finished
  -- and a condition
  pub condition_ends : runs condition_ends_text (called f [] ∷ []) [] 0 ≡ ends (gives (n 5) ∷ []) Finished
  -- and a bound
  pub bound_ends : runs bound_ends_text (called f [] ∷ []) [] 0 ≡ ends (gives (n 5) ∷ []) Finished
  -- where both arms return nothing comes behind them
  pub both_return : runs both_return_text (called f (Truth true ∷ []) ∷ []) [] 0 ≡ ends (gives (n 1) ∷ []) Finished
  pub both_return_other : runs both_return_text (called f (Truth false ∷ []) ∷ []) [] 0 ≡ ends (gives (n 2) ∷ []) Finished
  -- a `break` comes to the end
  pub may_fall : tells may_fall_text ≡ Stops (Error 32) 1
  -- the `break` leaves the inner loop, so the outer one never ends
  pub inner_break : runs inner_break_text (called f [] ∷ []) [] 3 ≡ ends [] still
  -- a `break` that is not walked leaves nothing
  pub break_unwalked : runs break_unwalked_text (called f [] ∷ []) [] 3 ≡ ends [] still
  -- what stands behind `continue` is not walked
  pub continue_ends : runs continue_ends_text (called f [] ∷ []) [] 2 ≡ ends (gives (n 2) ∷ []) Finished
  -- 300 is no `u8`, which both arms become
  pub peer_range : tells peer_range_text ≡ Stops (Error 15) 44
  -- the same of a block
  pub break_range : tells break_range_text ≡ Stops (Error 15) 44
  -- where the loop ends without a `break` nothing comes
  pub no_else : tells no_else_text ≡ Stops (Error 14) 33
  -- a constant is computed once; the reply is taken modulo 256
  pub once : runs once_text (called f [] ∷ []) (300 ∷ []) 0 ≡ ends (shows h [] ∷ gives (n 0) ∷ []) Finished
  -- a constant may be the export itself
  pub through_constant : runs through_constant_text (called f (n 2 ∷ []) ∷ []) [] 2 ≡ ends (gives (n 7) ∷ []) Finished
