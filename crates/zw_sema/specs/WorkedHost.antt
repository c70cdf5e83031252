-- Calls of functions of the host, and `and` and `or`, worked out by hand (Zig Language Reference 0.13.0): in which order things happen.
use Rattle.std.specs.Prelude.{◌≡◌, ℕ, true, false, List, [], ◌∷◌, None, codes}
use Rattle.zw_base.specs.declared.stop.StopKind.TheVariants.{Error}
use Rattle.zw_session.specs.Sessions as session
use Rattle.zw_session.specs.Sessions.{Truth, WantsReply, Finished, Ended}
use Rattle.zw_tree.specs.Trees.{Forest}
use Rattle.zw_tree.specs.declared.ast.Entry.{Entry}
use Rattle.zw_tree.specs.declared.kind.NodeKind.{NodeKind}
use Rattle.zw_tree.specs.declared.kind.NodeKind.TheVariants as kind
use Rattle.zw_sema.specs.Building.{form, mention, name, number, parameter, export_of, extern_of, return_of, Stops, told, called, run, n, shows, gives, ends, panics}
use Rattle.zw_sema.specs.WorkedExpressions.{a, c, f, u8, bool, of_two}

abbrev pub h : List ℕ
h = codes "h"

-- `h(arguments)`
abbrev pub call : ℕ → List (Forest Entry) → Forest Entry
call column arguments = form kind.Call column (mention column h ∷ arguments)

-- `extern fn h(x: u8) u8; export fn f(a: u8) u8 { return E; }`, where E begins in column 55
abbrev pub with_host : Forest Entry → List (Forest Entry)
with_host value =
    extern_of 1 h (parameter 13 (codes "x") u8 ∷ []) 20 u8 ∷ export_of 24 f (parameter 36 a u8 ∷ []) 43 u8 (return_of 48 value ∷ []) ∷ []

-- `extern fn h() T; export fn f() T { return h(); }` with a type of so many letters
abbrev pub asks : List ℕ → List (Forest Entry)
asks ty = extern_of 1 h [] 15 ty ∷ export_of 24 f [] 38 ty (return_of 46 (call 53 []) ∷ []) ∷ []

-- `h(a) + a` and `a + h(a)`
abbrev pub call_first : List (Forest Entry)
call_first = with_host (of_two kind.Add 55 (call 55 (mention 57 a ∷ [])) (mention 62 a))

abbrev pub call_behind : List (Forest Entry)
call_behind = with_host (of_two kind.Add 55 (mention 55 a) (call 59 (mention 61 a ∷ [])))

-- `extern fn h(x: u8) void; export fn f(a: u8) void { h(a); h(a + 1); h(a); }`
abbrev pub three_calls : List (Forest Entry)
three_calls =
    extern_of 1 h (parameter 13 (codes "x") u8 ∷ []) 20 (codes "void")
    ∷ export_of 26 f (parameter 38 a u8 ∷ []) 45 (codes "void")
    (call 52 (mention 54 a ∷ []) ∷ call 58 (of_two kind.Add 60 (mention 60 a) (number 64 1) ∷ []) ∷ call 68 (mention 70 a ∷ []) ∷ []) ∷ []

pub record WorkedHost : Type 0 where
  -- the call is made before the sum is found to be too great, on whichever side it stands
  pub before_sum : run call_first (called f (n 255 ∷ []) ∷ []) (1 ∷ []) ≡ ends (shows h (n 255 ∷ []) ∷ []) (panics 1)
  pub behind_sum : run call_behind (called f (n 255 ∷ []) ∷ []) (1 ∷ []) ≡ ends (shows h (n 255 ∷ []) ∷ []) (panics 1)
  pub sum : run call_first (called f (n 255 ∷ []) ∷ []) (0 ∷ []) ≡ ends (shows h (n 255 ∷ []) ∷ gives (n 255) ∷ []) Finished
  -- `h(h(a))`: the argument's call comes first, and its reply is what the second call shows
  pub in_argument :
      run (with_host (call 55 (call 57 (mention 59 a ∷ []) ∷ []))) (called f (n 7 ∷ []) ∷ []) (8 ∷ 9 ∷ [])
      ≡ ends (shows h (n 7 ∷ []) ∷ shows h (n 8 ∷ []) ∷ gives (n 9) ∷ []) Finished
  -- a panic in the second of three calls; and none
  pub second_panics : run three_calls (called f (n 255 ∷ []) ∷ []) [] ≡ ends (shows h (n 255 ∷ []) ∷ []) (panics 1)
  pub three :
      run three_calls (called f (n 1 ∷ []) ∷ []) []
      ≡ ends (shows h (n 1 ∷ []) ∷ shows h (n 2 ∷ []) ∷ shows h (n 1 ∷ []) ∷ session.Result None ∷ []) Finished
  -- a reply is taken modulo the width, a `bool` by its lowest bit
  pub reply : run (asks u8) (called f [] ∷ []) (300 ∷ []) ≡ ends (shows h [] ∷ gives (n 44) ∷ []) Finished
  pub truth_reply : run (asks bool) (called f [] ∷ []) (2 ∷ []) ≡ ends (shows h [] ∷ gives (Truth false) ∷ []) Finished
  -- no reply is left
  pub no_reply : run (asks u8) (called f [] ∷ []) [] ≡ ends (shows h [] ∷ []) (Ended WantsReply)
  -- an argument has the parameter's type, and there are as many as parameters: the first told at the argument, the second at the call
  pub argument_past : told (with_host (call 55 (number 57 256 ∷ []))) ≡ Stops (Error 15) 57
  pub no_argument : told (with_host (call 55 [])) ≡ Stops (Error 18) 55
  -- a container's constant can't call the host: `const c = h(1);`, mentioned in `f`
  pub at_compile_time :
      told (form kind.Const 84 (name 90 c ∷ call 94 (number 96 1 ∷ []) ∷ []) ∷ with_host (mention 55 c)) ≡ Stops (Error 23) 94

-- `export fn f(c: bool) bool { return E; }`, where E begins in column 36
abbrev pub on_truth : Forest Entry → List (Forest Entry)
on_truth value = export_of 1 f (parameter 13 c bool ∷ []) 22 bool (return_of 29 value ∷ []) ∷ []

-- `extern fn h() bool; export fn f(c: bool) bool { return c and h(); }`, and with `or`
abbrev pub decides : NodeKind → List (Forest Entry)
decides kind =
    extern_of 1 h [] 15 bool ∷ export_of 21 f (parameter 33 c bool ∷ []) 42 bool (return_of 49 (of_two kind 56 (mention 56 c) (call 62 [])) ∷ []) ∷ []

pub record WorkedTruths : Type 0 where
  -- `false and 1`: the right operand isn't analysed
  pub not_analysed : run (on_truth (of_two kind.And 36 (mention 36 (codes "false")) (number 46 1))) (called f (Truth true ∷ []) ∷ []) []
      ≡ ends (gives (Truth false) ∷ []) Finished
  -- `c and 1`: it is, and is no truth value, told at the `and`
  pub analysed : told (on_truth (of_two kind.And 36 (mention 36 c) (number 42 1))) ≡ Stops (Error 20) 36
  -- `true and c`: what is left is `c`
  pub the_other : run (on_truth (of_two kind.And 36 (mention 36 (codes "true")) (mention 45 c))) (called f (Truth true ∷ []) ∷ []) []
      ≡ ends (gives (Truth true) ∷ []) Finished
  -- at run time the right operand is evaluated where the left one doesn't decide
  pub and_true : run (decides kind.And) (called f (Truth true ∷ []) ∷ []) (0 ∷ []) ≡ ends (shows h [] ∷ gives (Truth false) ∷ []) Finished
  pub and_false : run (decides kind.And) (called f (Truth false ∷ []) ∷ []) (1 ∷ []) ≡ ends (gives (Truth false) ∷ []) Finished
  pub or_true : run (decides kind.Or) (called f (Truth true ∷ []) ∷ []) (0 ∷ []) ≡ ends (gives (Truth true) ∷ []) Finished
  -- `true or 1`: the right operand isn't analysed; `c or 1`: it is
  pub or_not_analysed : run (on_truth (of_two kind.Or 36 (mention 36 (codes "true")) (number 44 1))) (called f (Truth false ∷ []) ∷ []) []
      ≡ ends (gives (Truth true) ∷ []) Finished
  pub or_analysed : told (on_truth (of_two kind.Or 36 (mention 36 c) (number 41 1))) ≡ Stops (Error 20) 36
  -- `1 and c`: the left operand decides nothing, told at the `and`
  pub left_number : told (on_truth (of_two kind.And 36 (number 36 1) (mention 42 c))) ≡ Stops (Error 20) 36
