-- Sessions of functions with statements, variables and calls, worked out by hand from the language and the rules of turns, visits and work.
use Rattle.std.specs.Prelude.{◌≡◌, ℕ, pos, Bool, true, false, List, [], ◌∷◌, codes, Option, Some, None}
use Rattle.zw_num.specs.declared.operator.Arithmetic.TheVariants as sum
use Rattle.zw_num.specs.declared.operator.Comparison.TheVariants as order
use Rattle.zw_num.specs.declared.operator.Operator.TheVariants as family
use Rattle.zw_session.specs.Sessions.{Number, Call, Panicked, WantsReply, Running, Trapped, Entry, Host, Result, Finished, Ended, Session, session}
use Rattle.zw_types.specs.TypeTrees as tree
use Rattle.zw_types.specs.TypeTrees.{TypeTree, ValueTree}
use Rattle.zw_typed.specs.NodeMeanings.{nothing}
use Rattle.zw_typed.specs.FlowNodes.{Variable, Range, FlowNode, node, nodes_from, Function, Constant, Read, Write, Declare, Operate, Choose, InOrder, Target, Leave, Repeat, Count, Call as Called, CallHost, Return, Stop}
use Rattle.zw_typed.specs.FlowCounts.{Counts}
use Rattle.zw_typed.specs.FlowMeanings.{usize}
use Rattle.zw_typed.specs.FlowMachines.{Functions, at_first, functions_machine, session_counts}

-- ---- a short way to write nodes: occurrences of the source, and helpers

abbrev pub u8 : TypeTree
u8 = tree.IntType false 8 false

abbrev pub number : ℕ → FlowNode
number n = node true u8 (Constant (tree.NumberValue (pos n)))

abbrev pub position : ℕ → FlowNode
position n = node true usize (Constant (tree.NumberValue (pos n)))

abbrev pub truth : Bool → FlowNode
truth b = node true tree.BoolType (Constant (tree.TruthValue b))

abbrev pub get : ℕ → FlowNode
get k = node true u8 (Read (Variable k))

abbrev pub set : ℕ → FlowNode → FlowNode
set k value = node true tree.VoidType (Write (Variable k) value)

abbrev pub plus : FlowNode → FlowNode → FlowNode
plus a b = node true u8 (Operate (family.Arithmetic sum.Add) (nodes_from (a ∷ b ∷ [])))

abbrev pub less : FlowNode → FlowNode → FlowNode
less a b = node true tree.BoolType (Operate (family.Comparison order.Less) (nodes_from (a ∷ b ∷ [])))

abbrev pub equal : FlowNode → FlowNode → FlowNode
equal a b = node true tree.BoolType (Operate (family.Comparison order.Equal) (nodes_from (a ∷ b ∷ [])))

abbrev pub block : List FlowNode → FlowNode
block statements = node true tree.VoidType (InOrder (nodes_from statements))

abbrev pub give : FlowNode → FlowNode
give value = node true tree.NoReturnType (Return value)

abbrev pub leave : ℕ → FlowNode → FlowNode
leave t value = node true tree.NoReturnType (Leave t value)

-- `void`, which nobody wrote
abbrev pub none : FlowNode
none = node false tree.VoidType (Constant nothing)

abbrev pub when : FlowNode → FlowNode → FlowNode
when c a = node true tree.VoidType (Choose c a none)

-- `while (c) : (step) body`, whose targets are `out`, `again` and `stepped`
abbrev pub loop : ℕ → ℕ → ℕ → FlowNode → FlowNode → FlowNode → FlowNode
loop out again stepped c step body = node true tree.VoidType (Target out (node false tree.NoReturnType (Repeat (node false tree.VoidType (Choose c
    (node false tree.VoidType (InOrder (nodes_from (node false tree.VoidType (Target again body) ∷ node false tree.VoidType (Target stepped step) ∷ []))))
    (node false tree.NoReturnType (Leave out none)))))))

-- `for (ranges) body`, whose targets are `out` and `again`
abbrev pub each : ℕ → ℕ → List Range → List FlowNode → FlowNode → FlowNode
each out again ranges bounds body = node true tree.VoidType (Target out (node false tree.NoReturnType (InOrder (nodes_from (
    node false tree.VoidType (Count ranges (nodes_from bounds) (node false tree.VoidType (Target again body))) ∷
    node false tree.NoReturnType (Leave out none) ∷ [])))))

abbrev pub range : Option ℕ → Bool → Range
range capture has_end = record { capture = capture; has_end = has_end }

-- functions of `u8`s that give one, of so many parameters and other variables
abbrev pub function : List TypeTree → List TypeTree → FlowNode → Function
function params vars body = record { params = params; result = u8; vars = vars; body = body }

-- the exports `f` and `g` are the functions 0 and 1
abbrev pub program : List Function → Functions
program functions = record { functions = functions; exports = record { name = codes "f"; func = 0 } ∷ record { name = codes "g"; func = 1 } ∷ [] }

abbrev pub call_f : List ℕ → Call
call_f [] = record { name = codes "f"; args = [] }
call_f (a ∷ more) = record { name = codes "f"; args = Number (pos a) ∷ [] }

-- one call of `f`, with these replies, where so many calls may be active, within so many turns
abbrev pub told : ℕ → Functions → List ℕ → List ℕ → ℕ → Session
told depth p args replies turns = session (functions_machine depth p) (call_f args ∷ []) at_first replies turns

abbrev pub counts : ℕ → Functions → List ℕ → List ℕ → ℕ → Counts
counts depth p args replies turns = session_counts depth p (call_f args ∷ []) at_first replies turns

abbrev pub result : ℕ → Session
result n = record { entries = Result (Some (Number (pos n))) ∷ []; end = Finished }

abbrev pub panic : ℕ → Session
panic cause = record { entries = []; end = Ended (Panicked cause []) }

abbrev pub running : Session
running = record { entries = []; end = Ended Running }

-- ---- the functions

-- `var x: u8 = 0; while (x < n) : (x += 1) {} return x;` of a parameter n
abbrev pub up_to : Function
up_to = function (u8 ∷ []) (u8 ∷ []) (block (node true tree.VoidType (Declare 1 true (number 0)) ∷
    loop 0 1 2 (less (get 1) (get 0)) (set 1 (plus (get 1) (number 1))) (block []) ∷ give (get 1) ∷ []))

-- `while (true) {}`
abbrev pub for_ever : Function
for_ever = function [] [] (block (loop 0 1 2 (truth true) none (block []) ∷ []))

-- `return f();`, of itself
abbrev pub itself : Function
itself = function [] [] (block (give (node true u8 (Called 0 (nodes_from []))) ∷ []))

-- `return a: { b: { break :a 7; } return 1; };`
abbrev pub out_of_two : Function
out_of_two = function [] [] (block (give (node true u8 (Target 0 (block (node true tree.VoidType (Target 1 (block (leave 0 (number 7) ∷ []))) ∷ give (number 1) ∷ [])))) ∷ []))

-- `for (2..1) |_| {} return 0;`, and `for (0..3, 0..2) |_, _| {} return 0;`
abbrev pub over : List Range → List FlowNode → FlowNode → Function
over ranges bounds body = function [] (u8 ∷ usize ∷ usize ∷ []) (block (node true tree.VoidType (Declare 0 true (number 0)) ∷ each 0 1 ranges bounds body ∷ give (get 0) ∷ []))

-- `x += 1;` of variable 0
abbrev pub one_more : FlowNode
one_more = block (set 0 (plus (get 0) (number 1)) ∷ [])

-- a call of `extern fn h() u8`, and the record of one
abbrev pub asks : FlowNode
asks = node true u8 (CallHost (record { name = codes "h"; params = []; result = u8 }) (nodes_from []))

abbrev pub asked : Entry
asked = Host (record { name = codes "h"; args = []; shown = [] })

-- `while (h() < 2) {} return 0;`
abbrev pub asking : Function
asking = function [] [] (block (loop 0 1 2 (less asks (number 2)) none (block []) ∷ give (number 0) ∷ []))

-- `return f(h());`, of itself
abbrev pub itself_of_asked : Function
itself_of_asked = function (u8 ∷ []) [] (block (give (node true u8 (Called 0 (nodes_from (asks ∷ [])))) ∷ []))

-- `f`: `return g(n);`, and `g`: `if (n == 0) return 4; return f(n - 1);`
abbrev pub minus : FlowNode → FlowNode → FlowNode
minus a b = node true u8 (Operate (family.Arithmetic sum.Sub) (nodes_from (a ∷ b ∷ [])))

abbrev pub to_other : Function
to_other = function (u8 ∷ []) [] (block (give (node true u8 (Called 1 (nodes_from (get 0 ∷ [])))) ∷ []))

abbrev pub and_back : Function
and_back = function (u8 ∷ []) [] (block (when (equal (get 0) (number 0)) (give (number 4)) ∷
    give (node true u8 (Called 0 (nodes_from (minus (get 0) (number 1) ∷ [])))) ∷ []))

-- a function with `var x: u8 = n;` in front, its variable 0
abbrev pub with_variable : ℕ → List FlowNode → Function
with_variable n statements = function [] (u8 ∷ []) (block (node true tree.VoidType (Declare 0 true (number n)) ∷ statements))

-- `var x: u8 = 0; outer: while (x < 2) : (x += 1) { while (true) { continue :outer; } } return x;`
abbrev pub outer_goes_on : Function
outer_goes_on = with_variable 0 (loop 0 1 2 (less (get 0) (number 2)) (set 0 (plus (get 0) (number 1)))
    (block (loop 3 4 5 (truth true) none (block (leave 1 none ∷ [])) ∷ [])) ∷ give (get 0) ∷ [])

-- `var x: u8 = 1; x += b: { x = 10; break :b 1; }; return x;`
abbrev pub read_before : Function
read_before = with_variable 1 (set 0 (plus (get 0) (node true u8 (Target 0 (block (set 0 (number 10) ∷ leave 0 (number 1) ∷ []))))) ∷ give (get 0) ∷ [])

-- `while (c) : (step) body else e` with a value, and `for (ranges) body else e`; their targets as above
abbrev pub loop_else : TypeTree → FlowNode → FlowNode → FlowNode → FlowNode → FlowNode
loop_else ty c step body e = node true ty (Target 0 (node false tree.NoReturnType (Repeat (node false tree.VoidType (Choose c
    (node false tree.VoidType (InOrder (nodes_from (node false tree.VoidType (Target 1 body) ∷ node false tree.VoidType (Target 2 step) ∷ []))))
    (node false tree.NoReturnType (Leave 0 e)))))))

abbrev pub each_else : List Range → List FlowNode → FlowNode → FlowNode → FlowNode
each_else ranges bounds body e = node true u8 (Target 0 (node false tree.NoReturnType (InOrder (nodes_from (
    node false tree.VoidType (Count ranges (nodes_from bounds) (node false tree.VoidType (Target 1 body))) ∷
    node false tree.NoReturnType (Leave 0 e) ∷ [])))))

-- `var x: u8 = 0; return while (x < 2) : (x += 1) body else 9;`
abbrev pub nine_else : FlowNode → Function
nine_else body = with_variable 0 (give (loop_else u8 (less (get 0) (number 2)) (set 0 (plus (get 0) (number 1))) body (number 9)) ∷ [])

-- `var x: u8 = 0; while (x < 2) : (x += 1) {} else x = 9; return x;`
abbrev pub set_else : Function
set_else = with_variable 0 (loop_else tree.VoidType (less (get 0) (number 2)) (set 0 (plus (get 0) (number 1))) (block []) (set 0 (number 9)) ∷ give (get 0) ∷ [])

-- `var x: u8 = 0; return for (0..2) |_| body else x;`
abbrev pub for_else : FlowNode → Function
for_else body = with_variable 0 (give (each_else (range None true ∷ []) (position 0 ∷ position 2 ∷ []) body (get 0)) ∷ [])

-- `var x: u8 = 0; outer: while (x < 2) : (x += 1) { while (true) : ({ continue :outer; }) {} } return x;`
abbrev pub on_from_step : Function
on_from_step = with_variable 0 (loop 0 1 2 (less (get 0) (number 2)) (set 0 (plus (get 0) (number 1)))
    (block (loop 3 4 5 (truth true) (block (leave 1 none ∷ [])) (block []) ∷ [])) ∷ give (get 0) ∷ [])

-- `var x: u8 = 0; l: while (x < 2) : ({ x += 1; continue :l; }) {} return x;`
abbrev pub on_in_step : Function
on_in_step = with_variable 0 (loop 0 1 2 (less (get 0) (number 2)) (block (set 0 (plus (get 0) (number 1)) ∷ leave 2 none ∷ [])) (block []) ∷ give (get 0) ∷ [])

-- the calls of `f` with these arguments, in one session
abbrev pub told_twice : Functions → List ℕ → List ℕ → ℕ → Session
told_twice p first second turns = session (functions_machine 2048 p) (call_f first ∷ call_f second ∷ []) at_first [] turns

abbrev pub counts_twice : Functions → List ℕ → List ℕ → ℕ → Counts
counts_twice p first second turns = session_counts 2048 p (call_f first ∷ call_f second ∷ []) at_first [] turns

pub record WorkedFlow : Type 0 where
  -- three turns come to 3, with three returns to the condition; with two turns it still runs, and without any where one is due
  pub three : told 2048 (program (up_to ∷ [])) (3 ∷ []) [] 3 ≡ result 3
  pub two_turns : told 2048 (program (up_to ∷ [])) (3 ∷ []) [] 2 ≡ running
  -- a condition that is false at once takes no turn
  pub no_turn : told 2048 (program (up_to ∷ [])) (0 ∷ []) [] 0 ≡ result 0
  -- a loop that nothing leaves runs on under any bound
  pub for_ever_runs : told 2048 (program (for_ever ∷ [])) [] [] 3 ≡ running
  -- A call of itself takes a turn: none is left at first, or the next one wants one more. Where five calls may be active, the sixth panics behind
  -- its four turns.
  pub no_turns : told 5 (program (itself ∷ [])) [] [] 0 ≡ running
  pub one_turn : told 5 (program (itself ∷ [])) [] [] 1 ≡ running
  pub depth : told 5 (program (itself ∷ [])) [] [] 4 ≡ panic 19
  pub depth_late : told 5 (program (itself ∷ [])) [] [] 3 ≡ running
  -- the value goes to the outer block, and what stands behind the inner one isn't evaluated
  pub two_blocks : told 2048 (program (out_of_two ∷ [])) [] [] 0 ≡ result 7
  -- the range runs down; the lengths are 3 and 2; a range that runs down comes before lengths that differ
  pub runs_down : told 2048 (program (over (range None true ∷ []) (position 2 ∷ position 1 ∷ []) one_more ∷ [])) [] [] 9 ≡ panic 1
  pub differ : told 2048 (program (over (range None true ∷ range None true ∷ []) (position 0 ∷ position 3 ∷ position 0 ∷ position 2 ∷ []) one_more ∷ [])) [] [] 9 ≡ panic 15
  pub down_first : told 2048 (program (over (range None true ∷ range None true ∷ []) (position 0 ∷ position 3 ∷ position 2 ∷ position 1 ∷ []) one_more ∷ [])) [] [] 9 ≡ panic 1
  -- side by side with a range without end there are three turns, and the last one too is a turn
  pub side_by_side : told 2048 (program (over (range (Some 1) true ∷ range (Some 2) false ∷ []) (position 0 ∷ position 3 ∷ position 5 ∷ []) one_more ∷ [])) [] [] 3 ≡ result 3
  pub last_turn : told 2048 (program (over (range (Some 1) true ∷ range (Some 2) false ∷ []) (position 0 ∷ position 3 ∷ position 5 ∷ []) one_more ∷ [])) [] [] 2 ≡ running
  -- 4294967295 is the last capture that `usize` holds: the second turn is one too far, but not where the capture is `_`
  pub past_usize : told 2048 (program (over (range None true ∷ range (Some 2) false ∷ []) (position 0 ∷ position 3 ∷ position 4294967295 ∷ []) one_more ∷ [])) [] [] 9 ≡ panic 1
  pub past_blank : told 2048 (program (over (range None true ∷ range None false ∷ []) (position 0 ∷ position 3 ∷ position 4294967295 ∷ []) one_more ∷ [])) [] [] 9 ≡ result 3
  -- The call, the body's block and the loop are three visits; then each of four conditions and four bodies is one: 11. Three returns were turns,
  -- and a fourth one was due.
  pub visits : (counts 2048 (program (for_ever ∷ [])) [] [] 3).visits ≡ 11
  -- the host is asked at each test of the condition: three times, with two returns between; a reply that is missing ends the session there
  pub host_in_condition : told 2048 (program (asking ∷ [])) [] (0 ∷ 1 ∷ 2 ∷ []) 2 ≡ record { entries = asked ∷ asked ∷ asked ∷ Result (Some (Number (pos 0))) ∷ []; end = Finished }
  pub host_runs : told 2048 (program (asking ∷ [])) [] (0 ∷ 1 ∷ 2 ∷ []) 1 ≡ record { entries = asked ∷ asked ∷ []; end = Ended Running }
  pub no_reply : told 2048 (program (asking ∷ [])) [] (0 ∷ 1 ∷ []) 9 ≡ record { entries = asked ∷ asked ∷ asked ∷ []; end = Ended WantsReply }
  -- the argument is evaluated, and then the call is one too many, which takes no turn
  pub argument_first : told 1 (program (itself_of_asked ∷ [])) (5 ∷ []) (7 ∷ []) 0 ≡ record { entries = asked ∷ []; end = Ended (Panicked 19 []) }
  -- where it isn't, it is the turn that is wanted, behind the argument too
  pub argument_then_turn : told 2 (program (itself_of_asked ∷ [])) (5 ∷ []) (7 ∷ []) 0 ≡ record { entries = asked ∷ []; end = Ended Running }
  -- `f(1)`, `g(1)`, `f(0)`, `g(0)`: three calls beside the exported one, each a turn
  pub each_other : told 4 (program (to_other ∷ and_back ∷ [])) (1 ∷ []) [] 3 ≡ result 4
  pub each_other_runs : told 4 (program (to_other ∷ and_back ∷ [])) (1 ∷ []) [] 2 ≡ running
  pub each_other_deep : told 3 (program (to_other ∷ and_back ∷ [])) (1 ∷ []) [] 9 ≡ panic 19
  -- The inner loop never returns to its condition: two turns are those of the outer one, whose step is evaluated behind a `continue`.
  pub goes_on_outside : told 2048 (program (outer_goes_on ∷ [])) [] [] 2 ≡ result 2
  pub goes_on_runs : told 2048 (program (outer_goes_on ∷ [])) [] [] 1 ≡ running
  -- the variable is read before the other operand writes it
  pub reads_first : told 2048 (program (read_before ∷ [])) [] [] 0 ≡ result 2
  -- 255 + 1 isn't a `u8`; `unreachable`; a variable that isn't declared can't be read, which is no end of a source
  pub overflows : told 2048 (program (with_variable 255 (give (plus (get 0) (number 1)) ∷ []) ∷ [])) [] [] 0 ≡ panic 1
  pub stops_there : told 2048 (program (function [] [] (node true tree.NoReturnType (Stop 6)) ∷ [])) [] [] 0 ≡ panic 6
  pub undeclared : told 2048 (program (function [] (u8 ∷ []) (give (get 0)) ∷ [])) [] [] 0 ≡ record { entries = []; end = Ended (Trapped 0) }
  -- `return 7;`: the call 32, the block 2, the return 4, the number 2, and one byte that is returned 16; four visits
  pub seven : counts 2048 (program (function [] [] (block (give (number 7) ∷ [])) ∷ [])) [] [] 0 ≡ record { visits = 4; moved = 1; work = 56 }
  -- `return a;`: a byte is bound, read and returned: 48, and 32 + 2 + 4 + 4
  pub argument : counts 2048 (program (function (u8 ∷ []) [] (block (give (get 0) ∷ [])) ∷ [])) (9 ∷ []) [] 0 ≡ record { visits = 4; moved = 3; work = 90 }
  -- `while (true) {}` under three turns: 32 + 2 + 4 + 4, four times 24 (the choice 8, the condition 2, in order 2, two targets 8, the body 2, the step
  -- that isn't there 2), and three returns of 16
  pub three_turns : counts 2048 (program (for_ever ∷ [])) [] [] 3 ≡ record { visits = 11; moved = 0; work = 186 }
  -- Two calls of the function that calls itself: twice a call, a block, a return and a node of a call; the third call gets no turn.
  pub calls : counts 5 (program (itself ∷ [])) [] [] 1 ≡ record { visits = 8; moved = 0; work = 140 }
  -- out of two blocks: the call and eight nodes; a byte comes to the outer block and is returned
  pub out : counts 2048 (program (out_of_two ∷ [])) [] [] 0 ≡ record { visits = 9; moved = 2; work = 88 }
  -- `return 7;` called twice counts twice what one call does
  pub seven_twice : counts_twice (program (function [] [] (block (give (number 7) ∷ [])) ∷ [])) [] [] 0 ≡ record { visits = 8; moved = 2; work = 112 }
  -- three turns for the first call and two for the second: the bound is one for both
  pub both_calls : told_twice (program (up_to ∷ [])) (3 ∷ []) (2 ∷ []) 5 ≡ record { entries = Result (Some (Number (pos 3))) ∷ Result (Some (Number (pos 2))) ∷ []; end = Finished }
  pub second_runs : told_twice (program (up_to ∷ [])) (3 ∷ []) (2 ∷ []) 4 ≡ record { entries = Result (Some (Number (pos 3))) ∷ []; end = Ended Running }
  -- behind a call that panics there is no other, and nothing more is counted: the call and the body's node are two visits
  pub none_behind : told_twice (program (function [] [] (node true tree.NoReturnType (Stop 6)) ∷ [])) [] [] 9 ≡ panic 6
  pub none_counted : counts_twice (program (function [] [] (node true tree.NoReturnType (Stop 6)) ∷ [])) [] [] 9 ≡ record { visits = 2; moved = 0; work = 48 }
  -- the condition is false behind two turns, and the loop's value is that of its `else`
  pub else_value : told 2048 (program (nine_else (block []) ∷ [])) [] [] 2 ≡ result 9
  pub else_runs : told 2048 (program (nine_else (block []) ∷ [])) [] [] 1 ≡ running
  -- a `break` with a value in the second body goes past the `else`, behind one turn
  pub past_else : told 2048 (program (nine_else (block (when (equal (get 0) (number 1)) (leave 0 (number 5)) ∷ [])) ∷ [])) [] [] 1 ≡ result 5
  -- an `else` without a value is evaluated for what it does
  pub else_set : told 2048 (program (set_else ∷ [])) [] [] 2 ≡ result 9
  -- so are those of a `for`, whose last turn is one: two for the `else`, none where the first body leaves
  pub for_else_value : told 2048 (program (for_else one_more ∷ [])) [] [] 2 ≡ result 2
  pub for_else_runs : told 2048 (program (for_else one_more ∷ [])) [] [] 1 ≡ running
  pub past_for_else : told 2048 (program (for_else (block (leave 0 (number 5) ∷ [])) ∷ [])) [] [] 0 ≡ result 5
  -- The inner loop's step goes on with the outer one, so the inner one never returns to its condition; both turns are the outer one's.
  pub from_step : told 2048 (program (on_from_step ∷ [])) [] [] 2 ≡ result 2
  pub from_step_runs : told 2048 (program (on_from_step ∷ [])) [] [] 1 ≡ running
  -- a step that goes on with its own loop is done, and the condition is next
  pub in_step : told 2048 (program (on_in_step ∷ [])) [] [] 2 ≡ result 2
