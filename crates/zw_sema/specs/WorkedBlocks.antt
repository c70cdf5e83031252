-- Blocks, leaving, choices and assignments worked out by hand (Zig Language Reference 0.13.0, Blocks, if, Assignment).
use Rattle.std.specs.Prelude.{◌≡◌, true, false, List, [], ◌∷◌, codes, None}
use Rattle.zw_session.specs.Sessions as session
use Rattle.zw_session.specs.Sessions.{Truth, Finished}
use Rattle.zw_tree.specs.Trees.{Forest}
use Rattle.zw_tree.specs.declared.ast.Entry.{Entry}
use Rattle.zw_tree.specs.declared.kind.NodeKind.TheVariants as kind
use Rattle.zw_sema.specs.Building.{form, mention, number, parens, parameter, export_of, extern_of, return_of, called, n, shows, gives, ends, panics}
use Rattle.zw_sema.specs.WorkedExpressions.{a, b, c, f, u8, i64, bool}
use Rattle.zw_sema.specs.WorkedHost.{h}
use Rattle.zw_sema.specs.WorkedStatements.{x}
use Rattle.zw_sema.specs.FlowTexts.{block, label, labelled, a_const, const_of, var_of, assign, update, discard, when, choose, leave_to, call_of, runs, i, o, u16, void}

-- `export fn f(a: bool) u8 { return o: { i: { if (a) break :o 7; break :i; } break :o 1; }; }`
abbrev pub two_out_text : List (Forest Entry)
two_out_text =
    export_of 1 f (parameter 13 a bool ∷
    []) 22 u8 (return_of 27 (labelled 34 o (labelled 39 i (when 44 (mention 48 a) (leave_to 51 o (number 60 7)) ∷
    form kind.Break 63 (label 70 i ∷ []) ∷ []) ∷ leave_to 75 o (number 84 1) ∷ [])) ∷ []) ∷ []

-- `export fn f() u8 { var x: u8 = 1; x += b: { x = 10; break :b 1; }; return x; }`
abbrev pub changed_text : List (Forest Entry)
changed_text =
    export_of 1 f [] 15 u8 (var_of 20 x u8 (number 32 1) ∷
    update kind.AddAssign 35 (mention 35 x) (labelled 40 b (assign 45 (mention 45 x) (number 49 10) ∷ leave_to 53 b (number 62 1) ∷
    [])) ∷ return_of 68 (mention 75 x) ∷ []) ∷ []

-- `export fn f() u8 { const x = b: { break :b 300; }; return x - 299; }`
abbrev pub known_text : List (Forest Entry)
known_text =
    export_of 1 f [] 15 u8 (a_const 20 x (labelled 30 b (leave_to 35 b (number 44 300) ∷ [])) ∷
    return_of 52 (form kind.Subtract 59 (mention 59 x ∷ number 63 299 ∷ [])) ∷ []) ∷ []

-- `export fn f(a: bool, b: u8, c: u16) u16 { return o: { if (a) break :o b; break :o c; }; }`
abbrev pub joined_text : List (Forest Entry)
joined_text =
    export_of 1 f (parameter 13 a bool ∷ parameter 22 b u8 ∷ parameter 29 c u16 ∷
    []) 37 u16 (return_of 43 (labelled 50 o (when 55 (mention 59 a) (leave_to 62 o (mention 71 b)) ∷ leave_to 74 o (mention 83 c) ∷
    [])) ∷ []) ∷ []

-- `export fn f(a: u8, b: u8, c: u16, i: i64) bool { const x = if (a == 0) b else if (a == 1) c else if (a == 2) 5 else i; return x == i; }`
abbrev pub chain_text : List (Forest Entry)
chain_text =
    export_of 1 f (parameter 13 a u8 ∷ parameter 20 b u8 ∷ parameter 27 c u16 ∷ parameter 35 i i64 ∷
    []) 43 bool (a_const 50 x (choose 60 (form kind.Equal 64 (mention 64 a ∷ number 69 0 ∷
    [])) (mention 72 b) (choose 79 (form kind.Equal 83 (mention 83 a ∷ number 88 1 ∷
    [])) (mention 91 c) (choose 98 (form kind.Equal 102 (mention 102 a ∷ number 107 2 ∷ [])) (number 110 5) (mention 117 i)))) ∷
    return_of 120 (form kind.Equal 127 (mention 127 x ∷ mention 132 i ∷ [])) ∷ []) ∷ []

-- `export fn f(a: u8) u8 { const x = a + 1; o: { if (x == 3) break :o; return x; } return 9; }`
abbrev pub unknown_text : List (Forest Entry)
unknown_text =
    export_of 1 f (parameter 13 a u8 ∷ []) 20 u8 (a_const 25 x (form kind.Add 35 (mention 35 a ∷ number 39 1 ∷ [])) ∷
    labelled 42 o (when 47 (form kind.Equal 51 (mention 51 x ∷ number 56 3 ∷ [])) (form kind.Break 59 (label 66 o ∷ [])) ∷
    return_of 69 (mention 76 x) ∷ []) ∷ return_of 81 (number 88 9) ∷ []) ∷ []

-- `extern fn h(x: u8) u8; export fn f(a: u8) void { _ = 5; _ = a; _ = h(a); _ = h(a) + 1; }`
abbrev pub discarded_text : List (Forest Entry)
discarded_text =
    extern_of 1 h (parameter 13 x u8 ∷ []) 20 u8 ∷ export_of 24 f (parameter 36 a u8 ∷ []) 43 void (discard 50 (number 54 5) ∷
    discard 57 (mention 61 a) ∷ discard 64 (call_of 68 h (mention 70 a ∷ [])) ∷
    discard 74 (form kind.Add 78 (call_of 78 h (mention 80 a ∷ []) ∷ number 85 1 ∷ [])) ∷ []) ∷ []

-- `export fn f() void { {} o: {} return {}; }`
abbrev pub nothing_text : List (Forest Entry)
nothing_text =
    export_of 1 f [] 15 void (block 22 [] ∷ labelled 25 o [] ∷ return_of 31 (block 38 []) ∷ []) ∷ []

-- `export fn f() u8 { return 1; _ = true + 1; }`
abbrev pub behind_return_text : List (Forest Entry)
behind_return_text =
    export_of 1 f [] 15 u8 (return_of 20 (number 27 1) ∷ discard 30 (form kind.Add 34 (mention 34 (codes "true") ∷ number 41 1 ∷ [])) ∷
    []) ∷ []

-- `extern fn h(x: u8) u8; export fn f(a: u8) u8 { return h(a) + (return 4) + (true + 1); }`
abbrev pub ended_text : List (Forest Entry)
ended_text =
    extern_of 1 h (parameter 13 x u8 ∷ []) 20 u8 ∷ export_of 24 f (parameter 36 a u8 ∷
    []) 43 u8 (return_of 48 (form kind.Add 55 (form kind.Add 55 (call_of 55 h (mention 57 a ∷ []) ∷
    parens 62 (return_of 63 (number 70 4)) ∷ []) ∷ parens 75 (form kind.Add 76 (mention 76 (codes "true") ∷ number 83 1 ∷ [])) ∷ [])) ∷
    []) ∷ []

-- `export fn f(a: bool) u8 { const x: u8 = if (a) 5 else return 6; return x; }`
abbrev pub arm_text : List (Forest Entry)
arm_text =
    export_of 1 f (parameter 13 a bool ∷
    []) 22 u8 (const_of 27 x u8 (choose 41 (mention 45 a) (number 48 5) (return_of 55 (number 62 6))) ∷ return_of 65 (mention 72 x) ∷
    []) ∷ []

-- `export fn f(a: bool) u8 { if (a) unreachable; return 1; }`
abbrev pub dead_text : List (Forest Entry)
dead_text =
    export_of 1 f (parameter 13 a bool ∷ []) 22 u8 (when 27 (mention 31 a) (form kind.Unreachable 34 []) ∷ return_of 47 (number 54 1) ∷
    []) ∷ []

pub record WorkedBlocks : Type 0 where
  -- a value leaves two blocks at once
  pub two_out : runs two_out_text (called f (Truth true ∷ []) ∷ []) [] 0 ≡ ends (gives (n 7) ∷ []) Finished
  pub two_out_other : runs two_out_text (called f (Truth false ∷ []) ∷ []) [] 0 ≡ ends (gives (n 1) ∷ []) Finished
  -- the place is read before the right side is evaluated
  pub changed : runs changed_text (called f [] ∷ []) [] 0 ≡ ends (gives (n 2) ∷ []) Finished
  -- a block that does nothing but leave with what is known is known
  pub known : runs known_text (called f [] ∷ []) [] 0 ≡ ends (gives (n 1) ∷ []) Finished
  -- the values that leave a block become of the type that is wanted of it
  pub joined : runs joined_text (called f (Truth true ∷ n 7 ∷ n 300 ∷ []) ∷ []) [] 0 ≡ ends (gives (n 7) ∷ []) Finished
  pub joined_other : runs joined_text (called f (Truth false ∷ n 7 ∷ n 300 ∷ []) ∷ []) [] 0 ≡ ends (gives (n 300) ∷ []) Finished
  -- arms of `u8`, `u16`, a known number and `i64` join as `i64`, which holds all
  pub chain : runs chain_text (called f (n 0 ∷ n 7 ∷ n 300 ∷ n 7 ∷ []) ∷ []) [] 0 ≡ ends (gives (Truth true) ∷ []) Finished
  pub chain_second : runs chain_text (called f (n 1 ∷ n 7 ∷ n 300 ∷ n 7 ∷ []) ∷ []) [] 0 ≡ ends (gives (Truth false) ∷ []) Finished
  pub chain_third : runs chain_text (called f (n 2 ∷ n 7 ∷ n 300 ∷ n 5 ∷ []) ∷ []) [] 0 ≡ ends (gives (Truth true) ∷ []) Finished
  pub chain_last : runs chain_text (called f (n 3 ∷ n 7 ∷ n 300 ∷ n 9 ∷ []) ∷ []) [] 0 ≡ ends (gives (Truth true) ∷ []) Finished
  -- a local constant that is not known is computed where it stands
  pub unknown : runs unknown_text (called f (n 2 ∷ []) ∷ []) [] 0 ≡ ends (gives (n 9) ∷ []) Finished
  pub unknown_other : runs unknown_text (called f (n 3 ∷ []) ∷ []) [] 0 ≡ ends (gives (n 4) ∷ []) Finished
  pub unknown_past : runs unknown_text (called f (n 255 ∷ []) ∷ []) [] 0 ≡ ends [] (panics 1)
  -- what is discarded is evaluated all the same
  pub discarded : runs discarded_text (called f (n 3 ∷ []) ∷ []) (4 ∷ 255 ∷ []) 0 ≡ ends (shows h (n 3 ∷ []) ∷ shows h (n 3 ∷ []) ∷ []) (panics 1)
  pub discarded_done : runs discarded_text (called f (n 3 ∷ []) ∷ []) (4 ∷ 5 ∷ []) 0 ≡ ends (shows h (n 3 ∷ []) ∷ shows h (n 3 ∷ []) ∷ session.Result None ∷ []) Finished
  -- blocks may be empty, and give `void`
  pub nothing : runs nothing_text (called f [] ∷ []) [] 0 ≡ ends (session.Result None ∷ []) Finished
  -- what stands behind a `return` is not walked
  pub behind_return : runs behind_return_text (called f [] ∷ []) [] 0 ≡ ends (gives (n 1) ∷ []) Finished
  -- an operand that returns ends its form: the host is asked, and the last operand is not walked
  pub ended : runs ended_text (called f (n 3 ∷ []) ∷ []) (9 ∷ []) 0 ≡ ends (shows h (n 3 ∷ []) ∷ gives (n 4) ∷ []) Finished
  -- an arm that returns gives way
  pub arm : runs arm_text (called f (Truth true ∷ []) ∷ []) [] 0 ≡ ends (gives (n 5) ∷ []) Finished
  pub arm_other : runs arm_text (called f (Truth false ∷ []) ∷ []) [] 0 ≡ ends (gives (n 6) ∷ []) Finished
  -- it panics where it is reached
  pub dead : runs dead_text (called f (Truth true ∷ []) ∷ []) [] 0 ≡ ends [] (panics 6)
  pub dead_other : runs dead_text (called f (Truth false ∷ []) ∷ []) [] 0 ≡ ends (gives (n 1) ∷ []) Finished
