-- What a run keeps: each relation of what a run has before and behind that goes on, and that each single change keeps, is kept by evaluating a
-- node, by a call, and by an exported one. So what a run has only grows.
use Rattle.std.proofs.Common.{◌≡◌, refl, ℕ, zero, suc, ◌+◌, ◌≤◌, Bool, true, false, List, [], ◌∷◌, ◌++◌, Option, Some, None, arith}
use Rattle.std.specs.Prelude.{◌-◌, length, replicate, slice_get}
use Rattle.std.specs.List.{list_any}
use Rattle.zw_session.specs.Sessions as sessions
use Rattle.zw_session.specs.Sessions.{Scalar, HostEvent}
use Rattle.zw_session.proofs.Prefixes.{prefix_same, prefix_trans, prefix_front}
use Rattle.zw_types.specs.TypeTrees as tree
use Rattle.zw_types.specs.TypeTrees.{TypeTree, ValueTree}
use Rattle.zw_values.specs.ObjectStore.{Store, Place, Holds, IsUndefined, IsDead, place_of, saved}
use Rattle.zw_num.specs.declared.operator.Operator.{Operator}
use Rattle.zw_values.specs.Applied as operation
use Rattle.zw_values.specs.Applied.{applied}
use Rattle.zw_values.specs.Wild.{is_undefined}
use Rattle.zw_typed.specs.Nodes.{Import, Logic, And, Or}
use Rattle.zw_typed.specs.NodeMeanings.{scalar_of, scalars_of}
use Rattle.zw_typed.specs.Exports.{values_of}
use Rattle.zw_typed.specs.FlowNodes.{Variable, FlowNode, FlowNodes, node, no_nodes, node_and, Function, type_of, types_of, Form, Constant, Read, Write, Declare, Scope, Operate, Become, Decide, Choose, InOrder, Target, Leave, Repeat, Count, Call, CallHost, Return, Stop}
use Rattle.zw_typed.specs.FlowCounts.{Counts, work_of, work_of_turn, work_of_call}
use Rattle.zw_typed.specs.FlowRanges.{Bounds, bounds_of, Turns, Due, Fails, NoEnd, turns_due}
use Rattle.zw_typed.specs.FlowRuns.{Run, End, Gives, Leaves, Returns, Stops, Stuck, Evaluated, gives, goes_on, and_then, with_visit, with_bytes, with_value, turn, with_turn, object_of, object_ended, declared, ended, scoped}
use Rattle.zw_typed.specs.Weights.{run_size}
use Rattle.zw_typed.specs.FlowMeanings.{Calls, usize, arrives, read_from, read, stored, written_to, write, wild_or_stuck, outcome_of, operated, by_truth, decided, at_label, at_target, repeated, capture_at, capture_of, captured, counted, by_turns, over_ranges, replied, host_called, evaluated, meant, all_evaluated, bound, returned, back, body_done, entered, found_called, calls_within}
use Rattle.zw_typed.specs.FlowMachines.{Functions, Kept, kept_by, run_from, call_of, call_end, result_end, result_of, exported, counts_after, session_counts}
use Rattle.zw_typed.specs.FlowLaws.{Grows, CountsGrow, RunsGrow}
use Rattle.std.specs.Prelude.{slice_set, pos, nat_eq, nat_le}

-- the relation goes on, and each single change keeps it that takes no turn and counts no node
pub record IsKept (R : Run → Run → Type 0) : Type 0 where
  pub same : (a : Run) → R a a
  pub trans : (a b c : Run) → R a b → R b c → R a c
  pub bytes : (a : Run) (bytes : ℕ) → R a (with_bytes bytes a)
  pub objects : (a : Run) (store : Store) (variables : List (Option ℕ)) → R a (record a { store = store; variables = variables })
  pub reply : (a : Run) (reply : ℕ) (replies : List ℕ) → a.replies ≡ reply ∷ replies → R a (record a { replies = replies })
  pub event : (a : Run) (event : HostEvent) → R a (record a { events = a.events ++ event ∷ [] })

-- those keep it too
pub record TakesTurns (R : Run → Run → Type 0) : Type 0 where
  pub visit : (a : Run) (counts : Bool) (work : ℕ) → R a (with_visit counts work a)
  pub turned : (a : Run) (left : ℕ) → a.turns ≡ suc left → R a (record a { turns = left })

module _ (R : Run → Run → Type 0) (keeps : IsKept R) where
  pub then_kept : {V W : Type 0} (a : Run) (r : Evaluated V) (go : V → Run → Evaluated W) →
      R a r.run → ((v : V) (b : Run) → R b (go v b).run) → R a (and_then r go).run
  then_kept {V} a r go h each = by_end r.end
    where
      by_end : (end : End V) → R a (goes_on end r.run go).run
      by_end (Gives v) = keeps.trans a r.run (go v r.run).run h (each v r.run)
      by_end (Leaves t ty v) = h
      by_end (Returns ty v) = h
      by_end (Stops halt) = h
      by_end Stuck = h

  pub value_kept : (ty : TypeTree) (a : Run) → R a (with_value ty a)
  value_kept ty a = keeps.bytes a (run_size ty)

  pub declared_kept : (k : ℕ) (ty : TypeTree) (v : ValueTree) (writable : Bool) (a : Run) → R a (declared k ty v writable a)
  declared_kept k ty v writable a = keeps.objects a (declared k ty v writable a).store (declared k ty v writable a).variables

  pub ended_kept : (ks : List ℕ) (a : Run) → R a (ended ks a)
  ended_kept [] a = keeps.same a
  ended_kept (k ∷ ks) a =
      let b : Run = record a { store = object_ended (object_of a k) a.store; variables = slice_set a.variables k None } in
      keeps.trans a b (ended ks b) (keeps.objects a b.store b.variables) (ended_kept ks b)

  pub scoped_kept : {V : Type 0} (ks : List ℕ) (a : Run) (r : Evaluated V) → R a r.run → R a (scoped ks r).run
  scoped_kept ks a r h = keeps.trans a r.run (ended ks r.run) h (ended_kept ks r.run)

  -- ---- places

  pub read_from_kept : (ty : TypeTree) (p : Place) (a : Run) → R a (read_from ty p a).run
  read_from_kept ty (Holds v) a = value_kept ty a
  read_from_kept ty (IsUndefined path) a = value_kept ty a
  read_from_kept ty IsDead a = keeps.same a

  pub read_kept : (ty : TypeTree) (o : Option ℕ) (a : Run) → R a (read ty o a).run
  read_kept ty None a = keeps.same a
  read_kept ty (Some obj) a = read_from_kept ty (place_of a.store obj []) a

  pub stored_kept : (ty : TypeTree) (o : Option Store) (a : Run) → R a (stored ty o a).run
  stored_kept ty None a = keeps.same a
  stored_kept ty (Some store) a =
      let b : Run = record a { store = store } in
      keeps.trans a b (with_value ty b) (keeps.objects a store a.variables) (value_kept ty b)

  pub written_to_kept : (p : Place) (ty : TypeTree) (obj : ℕ) (v : ValueTree) (a : Run) → R a (written_to p ty obj v a).run
  written_to_kept (Holds w) ty obj v a = stored_kept ty (saved a.store obj [] v) a
  written_to_kept (IsUndefined path) ty obj v a = stored_kept ty (saved a.store obj [] v) a
  written_to_kept IsDead ty obj v a = keeps.same a

  pub write_kept : (ty : TypeTree) (o : Option ℕ) (v : ValueTree) (a : Run) → R a (write ty o v a).run
  write_kept ty None v a = keeps.same a
  write_kept ty (Some obj) v a = written_to_kept (place_of a.store obj []) ty obj v a

  -- ---- operators

  pub wild_or_stuck_kept : (b : Bool) (a : Run) → R a (wild_or_stuck b a).run
  wild_or_stuck_kept true a = keeps.same a
  wild_or_stuck_kept false a = keeps.same a

  pub outcome_kept : (vs : List ValueTree) (o : operation.Outcome) (a : Run) → R a (outcome_of vs o a).run
  outcome_kept vs (operation.Gives v) a = keeps.same a
  outcome_kept vs (operation.Panics cause) a = keeps.same a
  outcome_kept vs operation.IsWild a = wild_or_stuck_kept (list_any is_undefined vs) a
  outcome_kept vs (operation.Passes limit) a = keeps.same a

  pub over_none_kept : (vs : List ValueTree) (body : Run → Evaluated ValueTree) (a : Run) → R a (over_ranges vs None body a).run
  over_none_kept vs body a = wild_or_stuck_kept (list_any is_undefined vs) a

  pub operated_kept : (o : Operator) (from : List TypeTree) (to : TypeTree) (vs : List ValueTree) (a : Run) → R a (operated o from to vs a).run
  operated_kept op from to vs a = outcome_kept vs (applied op from to vs) a

  pub by_truth_kept : {V : Type 0} (v : ValueTree) (t f : Run → Evaluated V) (a : Run) →
      ((b : Run) → R b (t b).run) → ((b : Run) → R b (f b).run) → R a (by_truth v t f a).run
  by_truth_kept (tree.TruthValue true) t f a h i = h a
  by_truth_kept (tree.TruthValue false) t f a h i = i a
  by_truth_kept tree.UndefinedValue t f a h i = keeps.same a
  by_truth_kept _ t f a h i = keeps.same a

  pub decided_kept : (l : Logic) (v : ValueTree) (other : Run → Evaluated ValueTree) (a : Run) → ((b : Run) → R b (other b).run) → R a (decided l v other a).run
  decided_kept And v other a h = by_truth_kept v other (λ run. gives (tree.TruthValue false) run) a h (λ b. keeps.same b)
  decided_kept Or v other a h = by_truth_kept v (λ run. gives (tree.TruthValue true) run) other a (λ b. keeps.same b) h

  -- ---- targets and loops

  pub at_label_kept : (b : Bool) (t : ℕ) (ty to : TypeTree) (v : ValueTree) (a : Run) → R a (at_label b t ty to v a).run
  at_label_kept true t ty to v a = value_kept to a
  at_label_kept false t ty to v a = keeps.same a

  pub at_target_kept : (t : ℕ) (from to : TypeTree) (end : End ValueTree) (a : Run) → R a (at_target t from to end a).run
  at_target_kept t from to (Gives v) a = value_kept to a
  at_target_kept t from to (Leaves target ty v) a = at_label_kept (nat_eq t target) target ty to v a
  at_target_kept t from to (Returns ty v) a = keeps.same a
  at_target_kept t from to (Stops halt) a = keeps.same a
  at_target_kept t from to Stuck a = keeps.same a

  pub capture_at_kept : (t : Bool) (k n : ℕ) (more : Run → Evaluated (List ℕ)) (a : Run) → ((b : Run) → R b (more b).run) → R a (capture_at t k n more a).run
  capture_at_kept true k n more a h =
      let b : Run = declared k usize (tree.NumberValue (pos n)) false a in
      then_kept a (more (with_value usize b)) _
      (keeps.trans a b (more (with_value usize b)).run (declared_kept k usize (tree.NumberValue (pos n)) false a)
      (keeps.trans b (with_value usize b) (more (with_value usize b)).run (value_kept usize b) (h (with_value usize b))))
      (λ ks c. keeps.same c)
  capture_at_kept false k n more a h = keeps.same a

  pub capture_of_kept : (o : Option ℕ) (n : ℕ) (more : Run → Evaluated (List ℕ)) (a : Run) → ((b : Run) → R b (more b).run) → R a (capture_of o n more a).run
  capture_of_kept None n more a h = h a
  capture_of_kept (Some k) n more a h = capture_at_kept (nat_le n 4294967295) k n more a h

  pub captured_kept : (bounds : List Bounds) (n : ℕ) (a : Run) → R a (captured bounds n a).run
  captured_kept [] n a = keeps.same a
  captured_kept (b ∷ more) n a = capture_of_kept b.capture (b.start + n) (λ next. captured more n next) a (λ next. captured_kept more n next)

  -- ---- calls of the host

  pub replied_kept : (ty : TypeTree) (replies : List ℕ) (a : Run) → a.replies ≡ replies → R a (replied ty replies a).run
  replied_kept tree.VoidType replies a e = keeps.same a
  replied_kept _ [] a e = keeps.same a
  replied_kept _ (r ∷ rs) a e = keeps.reply a r rs e

  pub host_kept : (i : Import) (vs : List ValueTree) (o : Option (List Scalar)) (a : Run) → R a (host_called i vs o a).run
  host_kept i vs None a = wild_or_stuck_kept (list_any is_undefined vs) a
  host_kept i vs (Some args) a =
      let e : HostEvent = record { name = i.name; args = args; shown = [] } in
      let b : Run = record a { events = a.events ++ e ∷ [] } in
      keeps.trans a b (replied i.result a.replies b).run (keeps.event a e) (replied_kept i.result a.replies b refl)

  -- ---- functions

  pub bound_kept : (k : ℕ) (types : List TypeTree) (vs : List ValueTree) (a : Run) → R a (bound k types vs a).run
  bound_kept k [] [] a = keeps.same a
  bound_kept k (ty ∷ types) (v ∷ vs) a =
      let b : Run = declared k ty v false a in
      then_kept a (bound (k + 1) types vs (with_value ty b)) _
      (keeps.trans a b (bound (k + 1) types vs (with_value ty b)).run (declared_kept k ty v false a)
      (keeps.trans b (with_value ty b) (bound (k + 1) types vs (with_value ty b)).run (value_kept ty b) (bound_kept (k + 1) types vs (with_value ty b))))
      (λ ks c. keeps.same c)
  bound_kept k [] (v ∷ vs) a = keeps.same a
  bound_kept k (ty ∷ types) [] a = keeps.same a

  pub returned_kept : (result : TypeTree) (end : End ValueTree) (a : Run) → R a (returned result end a).run
  returned_kept result (Gives v) a = value_kept result a
  returned_kept result (Leaves target ty v) a = keeps.same a
  returned_kept result (Returns ty v) a = value_kept result a
  returned_kept result (Stops halt) a = keeps.same a
  returned_kept result Stuck a = keeps.same a

  pub back_kept : (variables : List (Option ℕ)) (a : Run) (r : Evaluated ValueTree) → R a r.run → R a (back variables r).run
  back_kept variables a r h = keeps.trans a r.run (record r.run { variables = variables }) h (keeps.objects r.run r.run.store variables)

  -- ---- turns and nodes

  module _ (takes : TakesTurns R) where
    pub turn_kept : {V : Type 0} (n : ℕ) (a : Run) (go : Run → Evaluated V) → a.turns ≡ n → ((b : Run) → R b (go b).run) → R a (turn n a go).run
    turn_kept zero a go e each = keeps.same a
    turn_kept (suc left) a go e each =
        let b : Run = record a { turns = left } in
        keeps.trans a b (go b).run (takes.turned a left e) (each b)

    pub with_turn_kept : {V : Type 0} (a : Run) (go : Run → Evaluated V) → ((b : Run) → R b (go b).run) → R a (with_turn a go).run
    with_turn_kept a go each = turn_kept a.turns a go refl each

    pub repeated_kept : (n : ℕ) (body : Run → Evaluated ValueTree) (a : Run) → ((b : Run) → R b (body b).run) → R a (repeated n body a).run
    repeated_kept zero body a h = then_kept a (body a) _ (h a) (λ v b. keeps.same b)
    repeated_kept (suc left) body a h = then_kept a (body a) _ (h a) (λ v b. with_turn_kept b _ (λ c.
        keeps.trans c (with_visit false work_of_turn c) (repeated left body (with_visit false work_of_turn c)).run
        (takes.visit c false work_of_turn) (repeated_kept left body (with_visit false work_of_turn c) h)))

    pub counted_kept : (due : ℕ) (bounds : List Bounds) (n : ℕ) (body : Run → Evaluated ValueTree) (a : Run) →
        ((b : Run) → R b (body b).run) → R a (counted due bounds n body a).run
    counted_kept zero bounds n body a h = keeps.same a
    counted_kept (suc due) bounds n body a h =
        then_kept a (and_then (captured bounds n a) (λ ks after. scoped ks (body after))) _
        (then_kept a (captured bounds n a) (λ ks after. scoped ks (body after)) (captured_kept bounds n a) (λ ks b. scoped_kept ks b (body b) (h b)))
        (λ v b. with_turn_kept b _ (λ c.
        keeps.trans c (with_visit false work_of_turn c) (counted due bounds (n + 1) body (with_visit false work_of_turn c)).run
        (takes.visit c false work_of_turn) (counted_kept due bounds (n + 1) body (with_visit false work_of_turn c) h)))

    pub by_turns_kept : (ts : Turns) (bounds : List Bounds) (body : Run → Evaluated ValueTree) (a : Run) → ((b : Run) → R b (body b).run) → R a (by_turns ts bounds body a).run
    by_turns_kept (Due n) bounds body a h = counted_kept n bounds 0 body a h
    by_turns_kept (Fails cause) bounds body a h = keeps.same a
    by_turns_kept NoEnd bounds body a h = keeps.same a

    pub over_kept : (vs : List ValueTree) (o : Option (List Bounds)) (body : Run → Evaluated ValueTree) (a : Run) →
        ((b : Run) → R b (body b).run) → R a (over_ranges vs o body a).run
    over_kept vs None body a h = wild_or_stuck_kept (list_any is_undefined vs) a
    over_kept vs (Some bounds) body a h = by_turns_kept (turns_due bounds) bounds body a h

    module _ (calls : Calls) (called : (f : ℕ) (args : List ValueTree) (a : Run) → R a (calls f args a).run) where
      mutual
        pub node_kept : (n : FlowNode) (a : Run) → R a (evaluated calls n a).run
        node_kept (node counts ty form) a =
            let b : Run = with_visit counts (work_of form) a in
            keeps.trans a b (meant calls ty form b).run (takes.visit a counts (work_of form)) (form_kept ty form b)

        pub form_kept : (ty : TypeTree) (form : Form) (a : Run) → R a (meant calls ty form a).run
        form_kept ty (Constant v) a = keeps.same a
        form_kept ty (Read (Variable k)) a = read_kept ty (object_of a k) a
        form_kept ty (Write (Variable k) n) a =
            then_kept a (evaluated calls n a) _ (node_kept n a) (λ v b. write_kept (type_of n) (object_of b k) v b)
        form_kept ty (Declare k writable n) a =
            then_kept a (evaluated calls n a) _ (node_kept n a) (λ v b.
            keeps.trans b (declared k (type_of n) v writable b) (with_value (type_of n) (declared k (type_of n) v writable b))
            (declared_kept k (type_of n) v writable b) (value_kept (type_of n) (declared k (type_of n) v writable b)))
        form_kept ty (Scope ks n) a = scoped_kept ks a (evaluated calls n a) (node_kept n a)
        form_kept ty (Operate op kids) a =
            then_kept a (all_evaluated calls kids a) _ (kids_kept kids a) (λ vs b. operated_kept op (types_of kids) ty vs b)
        form_kept ty (Become n) a = then_kept a (evaluated calls n a) _ (node_kept n a) (λ v b. value_kept (type_of n) b)
        form_kept ty (Decide logic c d) a =
            then_kept a (evaluated calls c a) _ (node_kept c a) (λ v b. decided_kept logic v (λ next. evaluated calls d next) b (λ next. node_kept d next))
        form_kept ty (Choose c d e) a =
            then_kept a (evaluated calls c a) _ (node_kept c a) (λ v b. by_truth_kept v
            (λ next. and_then (evaluated calls d next) (λ given last. arrives (type_of d) ty given last))
            (λ next. and_then (evaluated calls e next) (λ given last. arrives (type_of e) ty given last)) b
            (λ next. then_kept next (evaluated calls d next) _ (node_kept d next) (λ given last. value_kept ty last))
            (λ next. then_kept next (evaluated calls e next) _ (node_kept e next) (λ given last. value_kept ty last)))
        form_kept ty (InOrder kids) a = then_kept a (all_evaluated calls kids a) _ (kids_kept kids a) (λ vs b. keeps.same b)
        form_kept ty (Target t n) a =
            let r : Evaluated ValueTree = evaluated calls n a in
            keeps.trans a r.run (at_target t (type_of n) ty r.end r.run).run (node_kept n a) (at_target_kept t (type_of n) ty r.end r.run)
        form_kept ty (Leave t n) a = then_kept a (evaluated calls n a) _ (node_kept n a) (λ v b. keeps.same b)
        form_kept ty (Repeat n) a = repeated_kept a.turns (λ next. evaluated calls n next) a (λ next. node_kept n next)
        form_kept ty (Count ranges bounds n) a =
            then_kept a (all_evaluated calls bounds a) _ (kids_kept bounds a)
            (λ vs b. over_kept vs (bounds_of ranges vs) (λ next. evaluated calls n next) b (λ next. node_kept n next))
        form_kept ty (Call f args) a = then_kept a (all_evaluated calls args a) _ (kids_kept args a) (λ vs b. called f vs b)
        form_kept ty (CallHost i args) a =
            then_kept a (all_evaluated calls args a) _ (kids_kept args a) (λ vs b. host_kept i vs (scalars_of vs) b)
        form_kept ty (Return n) a = then_kept a (evaluated calls n a) _ (node_kept n a) (λ v b. keeps.same b)
        form_kept ty (Stop cause) a = keeps.same a

        pub kids_kept : (ns : FlowNodes) (a : Run) → R a (all_evaluated calls ns a).run
        kids_kept no_nodes a = keeps.same a
        kids_kept (node_and n ns) a = then_kept a (evaluated calls n a) _ (node_kept n a) (λ v b.
            then_kept b (all_evaluated calls ns b) _ (kids_kept ns b) (λ vs c. keeps.same c))

    pub body_kept : (calls : Calls) → ((f : ℕ) (args : List ValueTree) (a : Run) → R a (calls f args a).run) → (f : Function) (ks : List ℕ) (b : Run) →
        R b (body_done f.result (scoped ks (evaluated calls f.body b))).run
    body_kept calls called f ks b =
        let s : Evaluated ValueTree = scoped ks (evaluated calls f.body b) in
        keeps.trans b s.run (returned f.result s.end s.run).run (scoped_kept ks b (evaluated calls f.body b) (node_kept calls called f.body b)) (returned_kept f.result s.end s.run)

    pub entered_kept : (calls : Calls) → ((f : ℕ) (args : List ValueTree) (a : Run) → R a (calls f args a).run) →
        (f : Function) (args : List ValueTree) (a : Run) → R a (entered calls f args a).run
    entered_kept calls called f args a =
        let seen : Run = with_visit true work_of_call a in
        let own : Run = record seen { variables = replicate (length f.params + length f.vars) None } in
        let r : Evaluated ValueTree = and_then (bound 0 f.params args own) (λ ks after. body_done f.result (scoped ks (evaluated calls f.body after))) in
        back_kept a.variables a r
        (keeps.trans a seen r.run (takes.visit a true work_of_call)
        (keeps.trans seen own r.run (keeps.objects seen seen.store own.variables)
        (then_kept own (bound 0 f.params args own) (λ ks after. body_done f.result (scoped ks (evaluated calls f.body after)))
        (bound_kept 0 f.params args own) (λ ks b. body_kept calls called f ks b))))

    pub found_kept : (calls : Calls) → ((f : ℕ) (args : List ValueTree) (a : Run) → R a (calls f args a).run) →
        (o : Option Function) (args : List ValueTree) (a : Run) → R a (found_called calls o args a).run
    found_kept calls called None args a = keeps.same a
    found_kept calls called (Some f) args a = with_turn_kept a _ (λ next. entered_kept calls called f args next)

    pub calls_kept : (functions : List Function) (room f : ℕ) (args : List ValueTree) (a : Run) → R a (calls_within functions room f args a).run
    calls_kept functions zero f args a = keeps.same a
    calls_kept functions (suc room) f args a =
        found_kept (calls_within functions room) (λ g more b. calls_kept functions room g more b) (slice_get functions f) args a

    pub exported_kept : (depth : ℕ) (p : Functions) (kept : Kept) (o : Option Function) (args : List Scalar) (replies : List ℕ) (turns : ℕ) →
        R (run_from kept replies turns) (call_of depth p kept o args replies turns).run
    exported_kept depth p kept None args replies turns = keeps.same (run_from kept replies turns)
    exported_kept depth p kept (Some f) args replies turns =
        entered_kept (calls_within p.functions (depth - 1)) (λ g more b. calls_kept p.functions (depth - 1) g more b) f (values_of args) (run_from kept replies turns)

-- ---- it grows

grown_visit : (a : Run) (counts : Bool) (work : ℕ) → Grows a (with_visit counts work a)
grown_visit a true work = record { turns = omega arith; visits = omega arith; moved = omega arith; work = omega arith; events = prefix_same a.events }
grown_visit a false work = record { turns = omega arith; visits = omega arith; moved = omega arith; work = omega arith; events = prefix_same a.events }

grown_turn : (a : Run) (left : ℕ) → a.turns ≡ suc left → left ≤ a.turns
grown_turn a left e = omega (arith, e)

grows_on : (a b c : Run) → Grows a b → Grows b c → Grows a c
grows_on a b c g h = record {
  turns = omega (arith, g.turns, h.turns);
  visits = omega (arith, g.visits, h.visits);
  moved = omega (arith, g.moved, h.moved);
  work = omega (arith, g.work, h.work);
  events = prefix_trans g.events h.events;
}

pub growing : IsKept Grows
growing = record {
  same = λ a. record { turns = omega arith; visits = omega arith; moved = omega arith; work = omega arith; events = prefix_same a.events };
  trans = grows_on;
  bytes = λ a n. record { turns = omega arith; visits = omega arith; moved = omega arith; work = omega arith; events = prefix_same a.events };
  objects = λ a store variables. record { turns = omega arith; visits = omega arith; moved = omega arith; work = omega arith; events = prefix_same a.events };
  reply = λ a r rs e. record { turns = omega arith; visits = omega arith; moved = omega arith; work = omega arith; events = prefix_same a.events };
  event = λ a e. record { turns = omega arith; visits = omega arith; moved = omega arith; work = omega arith; events = prefix_front a.events (e ∷ []) };
}

pub growing_by_turns : TakesTurns Grows
growing_by_turns = record {
  visit = grown_visit;
  turned = λ a left e. record { turns = grown_turn a left e; visits = omega arith; moved = omega arith; work = omega arith; events = prefix_same a.events };
}

-- ---- over a session

counts_same : (c : Counts) → CountsGrow c c
counts_same c = record { visits = omega arith; moved = omega arith; work = omega arith }

counts_on : (a b c : Counts) → CountsGrow a b → CountsGrow b c → CountsGrow a c
counts_on a b c g h = record { visits = omega (arith, g.visits, h.visits); moved = omega (arith, g.moved, h.moved); work = omega (arith, g.work, h.work) }

result_grows : (ty : TypeTree) (value : Option Scalar) (run : Run) (go : Kept → List ℕ → ℕ → Counts) →
    ((kept : Kept) (replies : List ℕ) (left : ℕ) → CountsGrow kept.counts (go kept replies left)) →
    CountsGrow run.counts (counts_after (result_end ty value run) run.counts go)
result_grows tree.VoidType value run go each = each (kept_by run) run.replies run.turns
result_grows _ (Some value) run go each = each (kept_by run) run.replies run.turns
result_grows _ None run go each = counts_same run.counts

end_grows : (ty : TypeTree) (end : End ValueTree) (run : Run) (go : Kept → List ℕ → ℕ → Counts) →
    ((kept : Kept) (replies : List ℕ) (left : ℕ) → CountsGrow kept.counts (go kept replies left)) →
    CountsGrow run.counts (counts_after (call_end ty end run) run.counts go)
end_grows ty (Gives v) run go each = result_grows ty (scalar_of v) run go each
end_grows ty (Leaves target from v) run go each = counts_same run.counts
end_grows ty (Returns from v) run go each = counts_same run.counts
end_grows ty (Stops halt) run go each = counts_same run.counts
end_grows ty Stuck run go each = counts_same run.counts

session_grows : (depth : ℕ) (p : Functions) (calls : List sessions.Call) (kept : Kept) (replies : List ℕ) (turns : ℕ) →
    CountsGrow kept.counts (session_counts depth p calls kept replies turns)
session_grows depth p [] kept replies turns = counts_same kept.counts
session_grows depth p (call ∷ calls) kept replies turns =
    let f : Option Function = exported p call.name in
    let r : Evaluated ValueTree = call_of depth p kept f call.args replies turns in
    let g : Grows (run_from kept replies turns) r.run = exported_kept Grows growing growing_by_turns depth p kept f call.args replies turns in
    counts_on kept.counts r.run.counts (counts_after (call_end (result_of f) r.end r.run) r.run.counts (λ k rs n. session_counts depth p calls k rs n))
    (record { visits = g.visits; moved = g.moved; work = g.work })
    (end_grows (result_of f) r.end r.run (λ k rs n. session_counts depth p calls k rs n) (λ k rs n. session_grows depth p calls k rs n))

pub runs_grow : RunsGrow
runs_grow = record {
  node = λ functions room n run. node_kept Grows growing growing_by_turns (calls_within functions room) (λ f args a. calls_kept Grows growing growing_by_turns functions room f args a) n run;
  called = λ functions room f args run. calls_kept Grows growing growing_by_turns functions room f args run;
  exported = λ depth p kept f args replies turns. exported_kept Grows growing growing_by_turns depth p kept f args replies turns;
  session = λ depth p calls kept replies turns. session_grows depth p calls kept replies turns;
}
