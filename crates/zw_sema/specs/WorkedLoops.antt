-- Loops on a condition worked out by hand (Zig Language Reference 0.13.0, while): what their sessions are.
use Rattle.std.specs.Prelude.{◌≡◌, List, [], ◌∷◌, codes}
use Rattle.zw_session.specs.Sessions as session
use Rattle.zw_session.specs.Sessions.{Finished}
use Rattle.zw_tree.specs.Trees.{Forest}
use Rattle.zw_tree.specs.declared.ast.Entry.{Entry}
use Rattle.zw_tree.specs.declared.kind.NodeKind.TheVariants as kind
use Rattle.zw_sema.specs.Building.{form, mention, number, parameter, export_of, extern_of, return_of, called, n, shows, gives, ends}
use Rattle.zw_sema.specs.WorkedExpressions.{a, f, u8, bool}
use Rattle.zw_sema.specs.WorkedHost.{h}
use Rattle.zw_sema.specs.WorkedStatements.{x}
use Rattle.zw_sema.specs.FlowTexts.{block, label, var_of, assign, update, of_else, when, step, leave, leave_with, go_on, go_on_in, call_of, runs, still, o, y}

-- `export fn f(a: u8) u8 { var x: u8 = 0; while (x < a) : (x += 1) {} return x; }`
abbrev pub steps_text : List (Forest Entry)
steps_text =
    export_of 1 f (parameter 13 a u8 ∷ []) 20 u8 (var_of 25 x u8 (number 37 0) ∷ form kind.While 40 (form kind.Less 47 (mention 47 x ∷
    mention 51 a ∷ []) ∷ step 57 (update kind.AddAssign 57 (mention 57 x) (number 62 1)) ∷ block 65 [] ∷ []) ∷
    return_of 68 (mention 75 x) ∷ []) ∷ []

-- `export fn f(a: u8) u8 { var x: u8 = 0; while (x < a) { x += 1; } else { x = 9; } return x; }`
abbrev pub otherwise_text : List (Forest Entry)
otherwise_text =
    export_of 1 f (parameter 13 a u8 ∷ []) 20 u8 (var_of 25 x u8 (number 37 0) ∷ form kind.While 40 (form kind.Less 47 (mention 47 x ∷
    mention 51 a ∷ []) ∷ block 54 (update kind.AddAssign 56 (mention 56 x) (number 61 1) ∷ []) ∷
    of_else 66 (block 71 (assign 73 (mention 73 x) (number 77 9) ∷ [])) ∷ []) ∷ return_of 82 (mention 89 x) ∷ []) ∷ []

-- `export fn f() u8 { while (true) {} }`
abbrev pub for_ever_text : List (Forest Entry)
for_ever_text =
    export_of 1 f [] 15 u8 (form kind.While 20 (mention 27 (codes "true") ∷ block 33 [] ∷ []) ∷ []) ∷ []

-- `export fn f() u8 { while (true) { break; } return 4; }`
abbrev pub left_text : List (Forest Entry)
left_text =
    export_of 1 f [] 15 u8 (form kind.While 20 (mention 27 (codes "true") ∷ block 33 (leave 35 ∷ []) ∷ []) ∷ return_of 44 (number 51 4) ∷
    []) ∷ []

-- `export fn f() u8 { var x: u8 = 0; var y: u8 = 0; o: while (x < 2) : (x += 1) { while (true) { y += 1; continue :o; } } return y; }`
abbrev pub outer_text : List (Forest Entry)
outer_text =
    export_of 1 f [] 15 u8 (var_of 20 x u8 (number 32 0) ∷ var_of 35 y u8 (number 47 0) ∷ form kind.While 50 (label 50 o ∷
    form kind.Less 60 (mention 60 x ∷ number 64 2 ∷ []) ∷ step 70 (update kind.AddAssign 70 (mention 70 x) (number 75 1)) ∷
    block 78 (form kind.While 80 (mention 87 (codes "true") ∷ block 93 (update kind.AddAssign 95 (mention 95 y) (number 100 1) ∷
    go_on_in 103 o ∷ []) ∷ []) ∷ []) ∷ []) ∷ return_of 120 (mention 127 y) ∷ []) ∷ []

-- `export fn f(a: u8) u8 { var x: u8 = 0; return while (x < 3) : (x += 1) { if (x == a) break 7; } else 8; }`
abbrev pub value_text : List (Forest Entry)
value_text =
    export_of 1 f (parameter 13 a u8 ∷ []) 20 u8 (var_of 25 x u8 (number 37 0) ∷
    return_of 40 (form kind.While 47 (form kind.Less 54 (mention 54 x ∷ number 58 3 ∷ []) ∷
    step 64 (update kind.AddAssign 64 (mention 64 x) (number 69 1)) ∷ block 72 (when 74 (form kind.Equal 78 (mention 78 x ∷
    mention 83 a ∷ [])) (leave_with 86 (number 92 7)) ∷ []) ∷ of_else 97 (number 102 8) ∷ [])) ∷ []) ∷ []

-- `export fn f() u8 { var x: u8 = 0; var y: u8 = 0; while (x < 3) : (x += 1) { if (x == 1) continue; y += 1; } return y; }`
abbrev pub plain_continue_text : List (Forest Entry)
plain_continue_text =
    export_of 1 f [] 15 u8 (var_of 20 x u8 (number 32 0) ∷ var_of 35 y u8 (number 47 0) ∷
    form kind.While 50 (form kind.Less 57 (mention 57 x ∷ number 61 3 ∷ []) ∷
    step 67 (update kind.AddAssign 67 (mention 67 x) (number 72 1)) ∷ block 75 (when 77 (form kind.Equal 81 (mention 81 x ∷
    number 86 1 ∷ [])) (go_on 89) ∷ update kind.AddAssign 99 (mention 99 y) (number 104 1) ∷ []) ∷ []) ∷
    return_of 109 (mention 116 y) ∷ []) ∷ []

-- `export fn f() u8 { var x: u8 = 0; while (x < 2) : ({ x += 1; if (x == 1) continue; x += 1; }) {} return x; }`
abbrev pub step_continue_text : List (Forest Entry)
step_continue_text =
    export_of 1 f [] 15 u8 (var_of 20 x u8 (number 32 0) ∷ form kind.While 35 (form kind.Less 42 (mention 42 x ∷ number 46 2 ∷ []) ∷
    step 52 (block 52 (update kind.AddAssign 54 (mention 54 x) (number 59 1) ∷ when 62 (form kind.Equal 66 (mention 66 x ∷
    number 71 1 ∷ [])) (go_on 74) ∷ update kind.AddAssign 84 (mention 84 x) (number 89 1) ∷ [])) ∷ block 95 [] ∷ []) ∷
    return_of 98 (mention 105 x) ∷ []) ∷ []

-- `export fn f() u8 { var x: u8 = 1; while (false) { x = true; } else { x = 2; } return x; }`
abbrev pub never_text : List (Forest Entry)
never_text =
    export_of 1 f [] 15 u8 (var_of 20 x u8 (number 32 1) ∷ form kind.While 35 (mention 42 (codes "false") ∷
    block 49 (assign 51 (mention 51 x) (mention 55 (codes "true")) ∷ []) ∷
    of_else 63 (block 68 (assign 70 (mention 70 x) (number 74 2) ∷ [])) ∷ []) ∷ return_of 79 (mention 86 x) ∷ []) ∷ []

-- `extern fn h() bool; export fn f() u8 { var x: u8 = 0; while (h()) { x += 1; } return x; }`
abbrev pub host_text : List (Forest Entry)
host_text =
    extern_of 1 h [] 15 bool ∷ export_of 21 f [] 35 u8 (var_of 40 x u8 (number 52 0) ∷ form kind.While 55 (call_of 62 h [] ∷
    block 67 (update kind.AddAssign 69 (mention 69 x) (number 74 1) ∷ []) ∷ []) ∷ return_of 79 (mention 86 x) ∷ []) ∷ []

pub record WorkedLoops : Type 0 where
  -- the step runs behind each body, and each return to the condition is a turn: three are not two
  pub steps : runs steps_text (called f (n 3 ∷ []) ∷ []) [] 3 ≡ ends (gives (n 3) ∷ []) Finished
  pub steps_short : runs steps_text (called f (n 3 ∷ []) ∷ []) [] 2 ≡ ends [] still
  -- the `else` runs where the condition does not hold any more
  pub otherwise : runs otherwise_text (called f (n 2 ∷ []) ∷ []) [] 2 ≡ ends (gives (n 9) ∷ []) Finished
  pub otherwise_none : runs otherwise_text (called f (n 0 ∷ []) ∷ []) [] 0 ≡ ends (gives (n 9) ∷ []) Finished
  -- what nothing leaves never comes to its end, so no return is wanted
  pub for_ever : runs for_ever_text (called f [] ∷ []) [] 5 ≡ ends [] still
  -- a `break` leaves it, and no turn was taken
  pub left : runs left_text (called f [] ∷ []) [] 0 ≡ ends (gives (n 4) ∷ []) Finished
  -- the inner loop never comes back; `continue` runs the step of the outer one, which has two turns
  pub outer : runs outer_text (called f [] ∷ []) [] 2 ≡ ends (gives (n 2) ∷ []) Finished
  pub outer_short : runs outer_text (called f [] ∷ []) [] 1 ≡ ends [] still
  -- the loop gives what `break` brings, or its `else`
  pub value_found : runs value_text (called f (n 1 ∷ []) ∷ []) [] 1 ≡ ends (gives (n 7) ∷ []) Finished
  pub value : runs value_text (called f (n 5 ∷ []) ∷ []) [] 3 ≡ ends (gives (n 8) ∷ []) Finished
  -- the step runs behind `continue` too
  pub plain_continue : runs plain_continue_text (called f [] ∷ []) [] 3 ≡ ends (gives (n 2) ∷ []) Finished
  -- a `continue` in the step ends the step: x is 1 then, and behind the next one 3
  pub step_continue : runs step_continue_text (called f [] ∷ []) [] 2 ≡ ends (gives (n 3) ∷ []) Finished
  -- a condition that is known not to hold leaves the `else` alone, and the body is not walked
  pub never : runs never_text (called f [] ∷ []) [] 0 ≡ ends (gives (n 2) ∷ []) Finished
  -- the condition asks the host before each turn
  pub host : runs host_text (called f [] ∷ []) (1 ∷ 1 ∷ 0 ∷ []) 2 ≡ ends (shows h [] ∷ shows h [] ∷ shows h [] ∷ gives (n 2) ∷ []) Finished
  pub host_running : runs host_text (called f [] ∷ []) (1 ∷ 1 ∷ 1 ∷ 1 ∷ []) 2 ≡ ends (shows h [] ∷ shows h [] ∷ shows h [] ∷ []) still
  pub host_wants : runs host_text (called f [] ∷ []) (1 ∷ []) 9 ≡ ends (shows h [] ∷ shows h [] ∷ []) (session.Ended session.WantsReply)
