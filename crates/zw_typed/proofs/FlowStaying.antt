-- More turns change nothing where a run ended: by the calls that may be active, then the node, and loops by the turns that are left. Where a run
-- was still running, what it has with more turns has grown, so host calls come behind those that were made.
use Rattle.std.proofs.Common.{◌≡◌, refl, ℕ, zero, suc, ◌+◌, ◌≤◌, Bool, true, false, List, [], ◌∷◌, ◌++◌, Option, Some, None, ap, sym, ◌∙◌, subst, arith}
use Rattle.std.specs.Prelude.{◌-◌, length, replicate, slice_get, slice_set, pos, nat_eq, nat_le}
use Rattle.std.specs.List.{list_any}
use Rattle.zw_session.specs.Sessions.{Scalar, HostEvent, Panicked, WantsReply, Running, Wild, Trapped}
use Rattle.zw_session.specs.Lists.{IsPrefix}
use Rattle.zw_session.specs.Bounds.{StaysEnded, LeavesWithin}
use Rattle.zw_session.specs.Bounds as bounds
use Rattle.zw_session.proofs.Prefixes.{prefix_same, prefix_trans}
use Rattle.zw_session.proofs.Staying.{sessions_stay}
use Rattle.zw_types.specs.TypeTrees as tree
use Rattle.zw_types.specs.TypeTrees.{TypeTree, ValueTree}
use Rattle.zw_values.specs.ObjectStore.{Store, Place, Holds, IsUndefined, IsDead, place_of, saved}
use Rattle.zw_num.specs.declared.operator.Operator.{Operator}
use Rattle.zw_values.specs.Applied as operation
use Rattle.zw_values.specs.Applied.{applied}
use Rattle.zw_values.specs.Wild.{is_undefined}
use Rattle.zw_typed.specs.Nodes.{Import, Logic, And, Or}
use Rattle.zw_typed.specs.NodeMeanings.{scalar_of, scalars_of}
use Rattle.zw_typed.specs.Exports.{values_of}
use Rattle.zw_typed.specs.FlowNodes.{Variable, FlowNode, FlowNodes, node, no_nodes, node_and, Function, type_of, types_of, Form, Constant, Read, Write, Declare, Scope, Operate, Become, Decide, Choose, InOrder, Target, Leave, Repeat, Count, Call, CallHost, Return, Stop}
use Rattle.zw_typed.specs.FlowCounts.{work_of, work_of_turn, work_of_call}
use Rattle.zw_typed.specs.FlowRanges.{Bounds, bounds_of, Turns, Due, Fails, NoEnd, turns_due}
use Rattle.zw_typed.specs.FlowRuns.{Run, End, Gives, Leaves, Returns, Stops, Stuck, Evaluated, gives, goes_on, and_then, with_visit, with_value, turn, with_turn, object_of, object_ended, declared, ended, scoped}
use Rattle.zw_typed.specs.FlowMeanings.{Calls, usize, arrives, read_from, read, stored, written_to, write, wild_or_stuck, outcome_of, operated, by_truth, decided, at_label, at_target, repeated, capture_at, capture_of, captured, counted, by_turns, over_ranges, replied, host_called, evaluated, meant, all_evaluated, bound, returned, back, body_done, entered, found_called, calls_within}
use Rattle.zw_typed.specs.FlowMachines.{Functions, Kept, run_from, call_of, result_end, call_end, result_of, outcome, exported, functions_machine}
use Rattle.zw_typed.specs.FlowLaws.{Grows, more_turns, Lasts, RunsStayEnded}
use Rattle.zw_typed.proofs.FlowGrowth

-- with more turns it ends so too
abbrev pub Same : {V : Type 0} → ℕ → Evaluated V → Evaluated V → Type 0
Same k r later = Lasts k r.end r.run later

-- one thing and then another, where what is behind may differ by how its loop is counted
then_same : {V W : Type 0} (k : ℕ) (r later : Evaluated V) (go go_later : V → Run → Evaluated W) → Same k r later →
    ((v : V) (b : Run) → Same k (go v b) (go_later v (more_turns k b))) → ((v : V) (b : Run) → Grows b (go_later v b).run) →
    Same k (and_then r go) (and_then later go_later)
then_same {V} {W} k r later go go_later same each grows = by_end r.end r.run same
  where
    by_end : (end : End V) (run : Run) → Lasts k end run later → Same k (goes_on end run go) (and_then later go_later)
    by_end (Gives v) run h = subst (λ (l : Evaluated V). Same k (go v run) (and_then l go_later)) (sym h) (each v run)
    by_end (Leaves target ty v) run h = ap (λ (l : Evaluated V). and_then l go_later) h
    by_end (Returns ty v) run h = ap (λ (l : Evaluated V). and_then l go_later) h
    by_end (Stops (Panicked cause message)) run h = ap (λ (l : Evaluated V). and_then l go_later) h
    by_end (Stops WantsReply) run h = ap (λ (l : Evaluated V). and_then l go_later) h
    by_end (Stops Running) run h =
        prefix_trans h (FlowGrowth.then_kept Grows FlowGrowth.growing later.run later go_later (FlowGrowth.growing.same later.run) grows).events
    by_end (Stops Wild) run h = ap (λ (l : Evaluated V). and_then l go_later) h
    by_end (Stops (Trapped code)) run h = ap (λ (l : Evaluated V). and_then l go_later) h
    by_end Stuck run h = ap (λ (l : Evaluated V). and_then l go_later) h

-- the same end, with what the run has changed
abbrev pub changed : {V : Type 0} → (Run → Run) → Evaluated V → Evaluated V
changed f r = record { end = r.end; run = f r.run }

abbrev pub ends_with : {V : Type 0} → End V → Run → Evaluated V
ends_with end run = record { end = end; run = run }

-- a change of what a run has that looks at no turns and no host calls
changed_same : {V : Type 0} (k : ℕ) (f : Run → Run) → ((b : Run) → f (more_turns k b) ≡ more_turns k (f b)) → ((b : Run) → (f b).events ≡ b.events) →
    (r later : Evaluated V) → Same k r later → Same k (changed f r) (changed f later)
changed_same {V} k f turns events r later same = by_end r.end r.run same
  where
    both : (end : End V) (run : Run) → later ≡ ends_with end (more_turns k run) → changed f later ≡ ends_with end (more_turns k (f run))
    both end run h = ap (λ (l : Evaluated V). changed f l) h ∙ ap (λ (b : Run). ends_with end b) (turns run)

    by_end : (end : End V) (run : Run) → Lasts k end run later → Lasts k end (f run) (changed f later)
    by_end (Gives v) run h = both (Gives v) run h
    by_end (Leaves target ty v) run h = both (Leaves target ty v) run h
    by_end (Returns ty v) run h = both (Returns ty v) run h
    by_end (Stops (Panicked cause message)) run h = both (Stops (Panicked cause message)) run h
    by_end (Stops WantsReply) run h = both (Stops WantsReply) run h
    by_end (Stops Running) run h =
        subst (λ (es : List HostEvent). IsPrefix es (f later.run).events) (sym (events run))
        (subst (λ (es : List HostEvent). IsPrefix run.events es) (sym (events later.run)) h)
    by_end (Stops Wild) run h = both (Stops Wild) run h
    by_end (Stops (Trapped code)) run h = both (Stops (Trapped code)) run h
    by_end Stuck run h = both Stuck run h

ended_turns : (k : ℕ) (ks : List ℕ) (b : Run) → ended ks (more_turns k b) ≡ more_turns k (ended ks b)
ended_turns k [] b = refl
ended_turns k (x ∷ ks) b = ended_turns k ks (record b { store = object_ended (object_of b x) b.store; variables = slice_set b.variables x None })

ended_events : (ks : List ℕ) (b : Run) → (ended ks b).events ≡ b.events
ended_events [] b = refl
ended_events (x ∷ ks) b = ended_events ks (record b { store = object_ended (object_of b x) b.store; variables = slice_set b.variables x None })

scoped_same : {V : Type 0} (k : ℕ) (ks : List ℕ) (r later : Evaluated V) → Same k r later → Same k (scoped ks r) (scoped ks later)
scoped_same k ks r later h = changed_same k (λ (b : Run). ended ks b) (λ b. ended_turns k ks b) (λ b. ended_events ks b) r later h

suc_more : (n k : ℕ) → suc (n + k) ≡ suc n + k
suc_more n k = omega arith

-- a turn: where none was left, it was still running
turn_same : {V : Type 0} (k n : ℕ) (b : Run) (go go_later : Run → Evaluated V) → b.turns ≡ n →
    ((c : Run) → Same k (go c) (go_later (more_turns k c))) → ((c : Run) → Grows c (go_later c).run) → Same k (turn n b go) (turn (n + k) (more_turns k b) go_later)
turn_same k zero b go go_later e each grows = (FlowGrowth.turn_kept Grows FlowGrowth.growing FlowGrowth.growing_by_turns (zero + k) (more_turns k b) go_later (ap (λ (n : ℕ). n + k) e) grows).events
turn_same k (suc left) b go go_later e each grows =
    subst (λ (n : ℕ). Same k (turn (suc left) b go) (turn n (more_turns k b) go_later)) (suc_more left k) (each (record b { turns = left }))

with_turn_same : {V : Type 0} (k : ℕ) (b : Run) (go go_later : Run → Evaluated V) →
    ((c : Run) → Same k (go c) (go_later (more_turns k c))) → ((c : Run) → Grows c (go_later c).run) → Same k (with_turn b go) (with_turn (more_turns k b) go_later)
with_turn_same k b go go_later each grows = turn_same k b.turns b go go_later refl each grows

-- ---- places

read_from_same : (k : ℕ) (ty : TypeTree) (p : Place) (b : Run) → Same k (read_from ty p b) (read_from ty p (more_turns k b))
read_from_same k ty (Holds v) b = refl
read_from_same k ty (IsUndefined path) b = refl
read_from_same k ty IsDead b = refl

read_same : (k : ℕ) (ty : TypeTree) (o : Option ℕ) (b : Run) → Same k (read ty o b) (read ty o (more_turns k b))
read_same k ty None b = refl
read_same k ty (Some obj) b = read_from_same k ty (place_of b.store obj []) b

stored_same : (k : ℕ) (ty : TypeTree) (o : Option Store) (b : Run) → Same k (stored ty o b) (stored ty o (more_turns k b))
stored_same k ty None b = refl
stored_same k ty (Some store) b = refl

written_to_same : (k : ℕ) (p : Place) (ty : TypeTree) (obj : ℕ) (v : ValueTree) (b : Run) → Same k (written_to p ty obj v b) (written_to p ty obj v (more_turns k b))
written_to_same k (Holds w) ty obj v b = stored_same k ty (saved b.store obj [] v) b
written_to_same k (IsUndefined path) ty obj v b = stored_same k ty (saved b.store obj [] v) b
written_to_same k IsDead ty obj v b = refl

write_same : (k : ℕ) (ty : TypeTree) (o : Option ℕ) (v : ValueTree) (b : Run) → Same k (write ty o v b) (write ty o v (more_turns k b))
write_same k ty None v b = refl
write_same k ty (Some obj) v b = written_to_same k (place_of b.store obj []) ty obj v b

-- ---- operators

wild_or_stuck_same : (k : ℕ) (t : Bool) (b : Run) → Same k (wild_or_stuck t b) (wild_or_stuck t (more_turns k b))
wild_or_stuck_same k true b = refl
wild_or_stuck_same k false b = refl

outcome_same : (k : ℕ) (vs : List ValueTree) (o : operation.Outcome) (b : Run) → Same k (outcome_of vs o b) (outcome_of vs o (more_turns k b))
outcome_same k vs (operation.Gives v) b = refl
outcome_same k vs (operation.Panics cause) b = refl
outcome_same k vs operation.IsWild b = wild_or_stuck_same k (list_any is_undefined vs) b
outcome_same k vs (operation.Passes limit) b = refl

operated_same : (k : ℕ) (o : Operator) (from : List TypeTree) (to : TypeTree) (vs : List ValueTree) (b : Run) →
    Same k (operated o from to vs b) (operated o from to vs (more_turns k b))
operated_same k op from to vs b = outcome_same k vs (applied op from to vs) b

by_truth_same : {V : Type 0} (k : ℕ) (v : ValueTree) (t f : Run → Evaluated V) (b : Run) →
    ((c : Run) → Same k (t c) (t (more_turns k c))) → ((c : Run) → Same k (f c) (f (more_turns k c))) → Same k (by_truth v t f b) (by_truth v t f (more_turns k b))
by_truth_same k (tree.TruthValue true) t f b h i = h b
by_truth_same k (tree.TruthValue false) t f b h i = i b
by_truth_same k tree.UndefinedValue t f b h i = refl
by_truth_same k _ t f b h i = refl

decided_same : (k : ℕ) (l : Logic) (v : ValueTree) (other : Run → Evaluated ValueTree) (b : Run) → ((c : Run) → Same k (other c) (other (more_turns k c))) →
    Same k (decided l v other b) (decided l v other (more_turns k b))
decided_same k And v other b h = by_truth_same k v other (λ run. gives (tree.TruthValue false) run) b h (λ c. refl)
decided_same k Or v other b h = by_truth_same k v (λ run. gives (tree.TruthValue true) run) other b (λ c. refl) h

-- ---- targets and loops

at_label_same : (k : ℕ) (mine : Bool) (t : ℕ) (ty to : TypeTree) (v : ValueTree) (b : Run) → Same k (at_label mine t ty to v b) (at_label mine t ty to v (more_turns k b))
at_label_same k true t ty to v b = refl
at_label_same k false t ty to v b = refl

target_same : (k t : ℕ) (from to : TypeTree) (end : End ValueTree) (run : Run) (later : Evaluated ValueTree) → Lasts k end run later →
    Same k (at_target t from to end run) (at_target t from to later.end later.run)
target_same k t from to (Gives v) run later h = ap (λ (l : Evaluated ValueTree). at_target t from to l.end l.run) h
target_same k t from to (Leaves target ty v) run later h =
    subst (λ (l : Evaluated ValueTree). Same k (at_label (nat_eq t target) target ty to v run) (at_target t from to l.end l.run)) (sym h)
    (at_label_same k (nat_eq t target) target ty to v run)
target_same k t from to (Returns ty v) run later h = ap (λ (l : Evaluated ValueTree). at_target t from to l.end l.run) h
target_same k t from to (Stops (Panicked cause message)) run later h = ap (λ (l : Evaluated ValueTree). at_target t from to l.end l.run) h
target_same k t from to (Stops WantsReply) run later h = ap (λ (l : Evaluated ValueTree). at_target t from to l.end l.run) h
target_same k t from to (Stops Running) run later h = prefix_trans h (FlowGrowth.at_target_kept Grows FlowGrowth.growing t from to later.end later.run).events
target_same k t from to (Stops Wild) run later h = ap (λ (l : Evaluated ValueTree). at_target t from to l.end l.run) h
target_same k t from to (Stops (Trapped code)) run later h = ap (λ (l : Evaluated ValueTree). at_target t from to l.end l.run) h
target_same k t from to Stuck run later h = ap (λ (l : Evaluated ValueTree). at_target t from to l.end l.run) h

-- a body that grows and lasts
record Lasting {V : Type 0} (k : ℕ) (body : Run → Evaluated V) : Type 0 where
  grows : (b : Run) → Grows b (body b).run
  lasts : (b : Run) → Same k (body b) (body (more_turns k b))

visited_grows : {V : Type 0} (go : Run → Evaluated V) → ((b : Run) → Grows b (go b).run) → (c : Run) → Grows c (go (with_visit false work_of_turn c)).run
visited_grows go grows c =
    let b : Run = with_visit false work_of_turn c in
    FlowGrowth.growing.trans c b (go b).run (FlowGrowth.growing_by_turns.visit c false work_of_turn) (grows b)

turned_grows : {V : Type 0} (go : Run → Evaluated V) → ((b : Run) → Grows b (go b).run) → (c : Run) → Grows c (with_turn c (λ next. go (with_visit false work_of_turn next))).run
turned_grows go grows c =
    FlowGrowth.with_turn_kept Grows FlowGrowth.growing FlowGrowth.growing_by_turns c (λ next. go (with_visit false work_of_turn next)) (λ b. visited_grows go grows b)

again_grows : (m : ℕ) (body : Run → Evaluated ValueTree) → ((b : Run) → Grows b (body b).run) → (c : Run) → Grows c (repeated m body c).run
again_grows m body grows c = FlowGrowth.repeated_kept Grows FlowGrowth.growing FlowGrowth.growing_by_turns m body c grows

repeated_out : (k m : ℕ) (body : Run → Evaluated ValueTree) → Lasting k body → (b : Run) → Same k (repeated zero body b) (repeated m body (more_turns k b))
repeated_out k zero body l b = then_same k (body b) (body (more_turns k b)) _ _ (l.lasts b) (λ v c. prefix_same c.events) (λ v c. FlowGrowth.growing.same c)
repeated_out k (suc m) body l b =
    then_same k (body b) (body (more_turns k b)) _ (λ v after. with_turn after (λ next. repeated m body (with_visit false work_of_turn next))) (l.lasts b)
    (λ v c. (turned_grows (λ next. repeated m body next) (λ d. again_grows m body l.grows d) (more_turns k c)).events)
    (λ v c. turned_grows (λ next. repeated m body next) (λ d. again_grows m body l.grows d) c)

repeated_same : (k n : ℕ) (body : Run → Evaluated ValueTree) → Lasting k body → (b : Run) → Same k (repeated n body b) (repeated (n + k) body (more_turns k b))
repeated_same k zero body l b = repeated_out k (zero + k) body l b
repeated_same k (suc left) body l b =
    subst (λ (n : ℕ). Same k (repeated (suc left) body b) (repeated n body (more_turns k b))) (suc_more left k) (
    then_same k (body b) (body (more_turns k b)) (λ v after. with_turn after (λ next. repeated left body (with_visit false work_of_turn next)))
    (λ v after. with_turn after (λ next. repeated (left + k) body (with_visit false work_of_turn next))) (l.lasts b)
    (λ v c. with_turn_same k c (λ next. repeated left body (with_visit false work_of_turn next)) (λ next. repeated (left + k) body (with_visit false work_of_turn next))
    (λ d. repeated_same k left body l (with_visit false work_of_turn d))
    (λ d. visited_grows (λ next. repeated (left + k) body next) (λ e. again_grows (left + k) body l.grows e) d))
    (λ v c. turned_grows (λ next. repeated (left + k) body next) (λ e. again_grows (left + k) body l.grows e) c))

capture_at_same : (k : ℕ) (t : Bool) (x n : ℕ) (more : Run → Evaluated (List ℕ)) (b : Run) → ((c : Run) → Same k (more c) (more (more_turns k c))) →
    Same k (capture_at t x n more b) (capture_at t x n more (more_turns k b))
capture_at_same k true x n more b h =
    let c : Run = with_value usize (declared x usize (tree.NumberValue (pos n)) false b) in
    then_same k (more c) (more (more_turns k c)) _ _ (h c) (λ ks d. refl) (λ ks d. FlowGrowth.growing.same d)
capture_at_same k false x n more b h = refl

capture_of_same : (k : ℕ) (o : Option ℕ) (n : ℕ) (more : Run → Evaluated (List ℕ)) (b : Run) → ((c : Run) → Same k (more c) (more (more_turns k c))) →
    Same k (capture_of o n more b) (capture_of o n more (more_turns k b))
capture_of_same k None n more b h = h b
capture_of_same k (Some x) n more b h = capture_at_same k (nat_le n 4294967295) x n more b h

captured_same : (k : ℕ) (bs : List Bounds) (n : ℕ) (b : Run) → Same k (captured bs n b) (captured bs n (more_turns k b))
captured_same k [] n b = refl
captured_same k (x ∷ bs) n b = capture_of_same k x.capture (x.start + n) (λ next. captured bs n next) b (λ c. captured_same k bs n c)

counting_grows : (due : ℕ) (bs : List Bounds) (n : ℕ) (body : Run → Evaluated ValueTree) → ((b : Run) → Grows b (body b).run) → (c : Run) → Grows c (counted due bs n body c).run
counting_grows due bs n body grows c = FlowGrowth.counted_kept Grows FlowGrowth.growing FlowGrowth.growing_by_turns due bs n body c grows

counted_same : (k due : ℕ) (bs : List Bounds) (n : ℕ) (body : Run → Evaluated ValueTree) → Lasting k body → (b : Run) →
    Same k (counted due bs n body b) (counted due bs n body (more_turns k b))
counted_same k zero bs n body l b = refl
counted_same k (suc due) bs n body l b =
    then_same k (and_then (captured bs n b) (λ ks after. scoped ks (body after))) (and_then (captured bs n (more_turns k b)) (λ ks after. scoped ks (body after)))
    (λ v after. with_turn after (λ next. counted due bs (n + 1) body (with_visit false work_of_turn next)))
    (λ v after. with_turn after (λ next. counted due bs (n + 1) body (with_visit false work_of_turn next)))
    (then_same k (captured bs n b) (captured bs n (more_turns k b)) (λ ks after. scoped ks (body after)) (λ ks after. scoped ks (body after)) (captured_same k bs n b)
    (λ ks c. scoped_same k ks (body c) (body (more_turns k c)) (l.lasts c))
    (λ ks c. FlowGrowth.scoped_kept Grows FlowGrowth.growing ks c (body c) (l.grows c)))
    (λ v c. with_turn_same k c (λ next. counted due bs (n + 1) body (with_visit false work_of_turn next)) (λ next. counted due bs (n + 1) body (with_visit false work_of_turn next))
    (λ d. counted_same k due bs (n + 1) body l (with_visit false work_of_turn d))
    (λ d. visited_grows (λ next. counted due bs (n + 1) body next) (λ e. counting_grows due bs (n + 1) body l.grows e) d))
    (λ v c. turned_grows (λ next. counted due bs (n + 1) body next) (λ e. counting_grows due bs (n + 1) body l.grows e) c)

by_turns_same : (k : ℕ) (ts : Turns) (bs : List Bounds) (body : Run → Evaluated ValueTree) → Lasting k body → (b : Run) →
    Same k (by_turns ts bs body b) (by_turns ts bs body (more_turns k b))
by_turns_same k (Due n) bs body l b = counted_same k n bs 0 body l b
by_turns_same k (Fails cause) bs body l b = refl
by_turns_same k NoEnd bs body l b = refl

over_same : (k : ℕ) (vs : List ValueTree) (o : Option (List Bounds)) (body : Run → Evaluated ValueTree) → Lasting k body → (b : Run) →
    Same k (over_ranges vs o body b) (over_ranges vs o body (more_turns k b))
over_same k vs None body l b = wild_or_stuck_same k (list_any is_undefined vs) b
over_same k vs (Some bs) body l b = by_turns_same k (turns_due bs) bs body l b

-- ---- calls of the host

replied_same : (k : ℕ) (ty : TypeTree) (replies : List ℕ) (b : Run) → Same k (replied ty replies b) (replied ty replies (more_turns k b))
replied_same k tree.VoidType replies b = refl
replied_same k _ [] b = refl
replied_same k _ (r ∷ rs) b = refl

host_same : (k : ℕ) (i : Import) (vs : List ValueTree) (o : Option (List Scalar)) (b : Run) → Same k (host_called i vs o b) (host_called i vs o (more_turns k b))
host_same k i vs None b = wild_or_stuck_same k (list_any is_undefined vs) b
host_same k i vs (Some args) b = replied_same k i.result b.replies (record b { events = b.events ++ record { name = i.name; args = args; shown = [] } ∷ [] })

-- ---- nodes

module _ (k : ℕ) (calls : Calls) (grows : (f : ℕ) (args : List ValueTree) (b : Run) → Grows b (calls f args b).run)
    (lasts : (f : ℕ) (args : List ValueTree) (b : Run) → Same k (calls f args b) (calls f args (more_turns k b))) where
  one_grows : (n : FlowNode) (b : Run) → Grows b (evaluated calls n b).run
  one_grows n b = FlowGrowth.node_kept Grows FlowGrowth.growing FlowGrowth.growing_by_turns calls grows n b

  all_grow : (ns : FlowNodes) (b : Run) → Grows b (all_evaluated calls ns b).run
  all_grow ns b = FlowGrowth.kids_kept Grows FlowGrowth.growing FlowGrowth.growing_by_turns calls grows ns b

  arm_same : (ty : TypeTree) (n : FlowNode) (b : Run) → Same k (evaluated calls n b) (evaluated calls n (more_turns k b)) →
      Same k (and_then (evaluated calls n b) (λ given last. arrives (type_of n) ty given last))
      (and_then (evaluated calls n (more_turns k b)) (λ given last. arrives (type_of n) ty given last))
  arm_same ty n b h = then_same k (evaluated calls n b) (evaluated calls n (more_turns k b)) _ _ h (λ v c. refl) (λ v c. FlowGrowth.value_kept Grows FlowGrowth.growing ty c)

  arm_grows : (ty : TypeTree) (n : FlowNode) (b : Run) → Grows b (and_then (evaluated calls n b) (λ given last. arrives (type_of n) ty given last)).run
  arm_grows ty n b = FlowGrowth.then_kept Grows FlowGrowth.growing b (evaluated calls n b) _ (one_grows n b) (λ v c. FlowGrowth.value_kept Grows FlowGrowth.growing ty c)

  mutual
    node_same : (n : FlowNode) (b : Run) → Same k (evaluated calls n b) (evaluated calls n (more_turns k b))
    node_same (node counts ty form) b = form_same ty form (with_visit counts (work_of form) b)

    form_same : (ty : TypeTree) (form : Form) (b : Run) → Same k (meant calls ty form b) (meant calls ty form (more_turns k b))
    form_same ty (Constant v) b = refl
    form_same ty (Read (Variable x)) b = read_same k ty (object_of b x) b
    form_same ty (Write (Variable x) n) b =
        then_same k (evaluated calls n b) (evaluated calls n (more_turns k b)) (λ v after. write (type_of n) (object_of after x) v after)
        (λ v after. write (type_of n) (object_of after x) v after) (node_same n b)
        (λ v c. write_same k (type_of n) (object_of c x) v c) (λ v c. FlowGrowth.write_kept Grows FlowGrowth.growing (type_of n) (object_of c x) v c)
    form_same ty (Declare x writable n) b =
        then_same k (evaluated calls n b) (evaluated calls n (more_turns k b)) _ _ (node_same n b) (λ v c. refl) (λ v c.
        FlowGrowth.growing.trans c (declared x (type_of n) v writable c) (with_value (type_of n) (declared x (type_of n) v writable c))
        (FlowGrowth.declared_kept Grows FlowGrowth.growing x (type_of n) v writable c)
        (FlowGrowth.value_kept Grows FlowGrowth.growing (type_of n) (declared x (type_of n) v writable c)))
    form_same ty (Scope ks n) b = scoped_same k ks (evaluated calls n b) (evaluated calls n (more_turns k b)) (node_same n b)
    form_same ty (Operate op kids) b =
        then_same k (all_evaluated calls kids b) (all_evaluated calls kids (more_turns k b)) _ _ (kids_same kids b)
        (λ vs c. operated_same k op (types_of kids) ty vs c)
        (λ vs c. FlowGrowth.operated_kept Grows FlowGrowth.growing op (types_of kids) ty vs c)
    form_same ty (Become n) b =
        then_same k (evaluated calls n b) (evaluated calls n (more_turns k b)) _ _ (node_same n b) (λ v c. refl)
        (λ v c. FlowGrowth.value_kept Grows FlowGrowth.growing (type_of n) c)
    form_same ty (Decide logic d e) b =
        then_same k (evaluated calls d b) (evaluated calls d (more_turns k b)) _ _ (node_same d b)
        (λ v c. decided_same k logic v (λ next. evaluated calls e next) c (λ next. node_same e next))
        (λ v c. FlowGrowth.decided_kept Grows FlowGrowth.growing logic v (λ next. evaluated calls e next) c (λ next. one_grows e next))
    form_same ty (Choose d e f) b =
        then_same k (evaluated calls d b) (evaluated calls d (more_turns k b)) _ _ (node_same d b)
        (λ v c. by_truth_same k v
        (λ next. and_then (evaluated calls e next) (λ given last. arrives (type_of e) ty given last))
        (λ next. and_then (evaluated calls f next) (λ given last. arrives (type_of f) ty given last)) c
        (λ next. arm_same ty e next (node_same e next)) (λ next. arm_same ty f next (node_same f next)))
        (λ v c. FlowGrowth.by_truth_kept Grows FlowGrowth.growing v
        (λ next. and_then (evaluated calls e next) (λ given last. arrives (type_of e) ty given last))
        (λ next. and_then (evaluated calls f next) (λ given last. arrives (type_of f) ty given last)) c
        (λ next. arm_grows ty e next) (λ next. arm_grows ty f next))
    form_same ty (InOrder kids) b =
        then_same k (all_evaluated calls kids b) (all_evaluated calls kids (more_turns k b)) _ _ (kids_same kids b) (λ vs c. refl) (λ vs c. FlowGrowth.growing.same c)
    form_same ty (Target t n) b =
        target_same k t (type_of n) ty (evaluated calls n b).end (evaluated calls n b).run (evaluated calls n (more_turns k b)) (node_same n b)
    form_same ty (Leave t n) b =
        then_same k (evaluated calls n b) (evaluated calls n (more_turns k b)) _ _ (node_same n b) (λ v c. refl) (λ v c. FlowGrowth.growing.same c)
    form_same ty (Repeat n) b =
        repeated_same k b.turns (λ next. evaluated calls n next) (record { grows = λ next. one_grows n next; lasts = λ next. node_same n next }) b
    form_same ty (Count ranges ends n) b =
        then_same k (all_evaluated calls ends b) (all_evaluated calls ends (more_turns k b)) _ _ (kids_same ends b)
        (λ vs c. over_same k vs (bounds_of ranges vs) (λ next. evaluated calls n next)
        (record { grows = λ next. one_grows n next; lasts = λ next. node_same n next }) c)
        (λ vs c. FlowGrowth.over_kept Grows FlowGrowth.growing FlowGrowth.growing_by_turns vs (bounds_of ranges vs) (λ next. evaluated calls n next) c (λ next. one_grows n next))
    form_same ty (Call f args) b =
        then_same k (all_evaluated calls args b) (all_evaluated calls args (more_turns k b)) _ _ (kids_same args b) (λ vs c. lasts f vs c) (λ vs c. grows f vs c)
    form_same ty (CallHost i args) b =
        then_same k (all_evaluated calls args b) (all_evaluated calls args (more_turns k b)) _ _ (kids_same args b)
        (λ vs c. host_same k i vs (scalars_of vs) c) (λ vs c. FlowGrowth.host_kept Grows FlowGrowth.growing i vs (scalars_of vs) c)
    form_same ty (Return n) b =
        then_same k (evaluated calls n b) (evaluated calls n (more_turns k b)) _ _ (node_same n b) (λ v c. refl) (λ v c. FlowGrowth.growing.same c)
    form_same ty (Stop cause) b = refl

    kids_same : (ns : FlowNodes) (b : Run) → Same k (all_evaluated calls ns b) (all_evaluated calls ns (more_turns k b))
    kids_same no_nodes b = refl
    kids_same (node_and n ns) b =
        then_same k (evaluated calls n b) (evaluated calls n (more_turns k b)) _ _ (node_same n b)
        (λ v c. then_same k (all_evaluated calls ns c) (all_evaluated calls ns (more_turns k c)) _ _ (kids_same ns c) (λ vs d. refl) (λ vs d. FlowGrowth.growing.same d))
        (λ v c. FlowGrowth.then_kept Grows FlowGrowth.growing c (all_evaluated calls ns c) _ (all_grow ns c) (λ vs d. FlowGrowth.growing.same d))

-- ---- functions

bound_same : (k n : ℕ) (types : List TypeTree) (vs : List ValueTree) (b : Run) → Same k (bound n types vs b) (bound n types vs (more_turns k b))
bound_same k n [] [] b = refl
bound_same k n (ty ∷ types) (v ∷ vs) b =
    let c : Run = with_value ty (declared n ty v false b) in
    then_same k (bound (n + 1) types vs c) (bound (n + 1) types vs (more_turns k c)) _ _ (bound_same k (n + 1) types vs c) (λ ks d. refl) (λ ks d. FlowGrowth.growing.same d)
bound_same k n [] (v ∷ vs) b = refl
bound_same k n (ty ∷ types) [] b = refl

returned_same : (k : ℕ) (result : TypeTree) (end : End ValueTree) (run : Run) (later : Evaluated ValueTree) → Lasts k end run later →
    Same k (returned result end run) (returned result later.end later.run)
returned_same k result (Gives v) run later h = ap (λ (l : Evaluated ValueTree). returned result l.end l.run) h
returned_same k result (Leaves target ty v) run later h = ap (λ (l : Evaluated ValueTree). returned result l.end l.run) h
returned_same k result (Returns ty v) run later h = ap (λ (l : Evaluated ValueTree). returned result l.end l.run) h
returned_same k result (Stops (Panicked cause message)) run later h = ap (λ (l : Evaluated ValueTree). returned result l.end l.run) h
returned_same k result (Stops WantsReply) run later h = ap (λ (l : Evaluated ValueTree). returned result l.end l.run) h
returned_same k result (Stops Running) run later h = prefix_trans h (FlowGrowth.returned_kept Grows FlowGrowth.growing result later.end later.run).events
returned_same k result (Stops Wild) run later h = ap (λ (l : Evaluated ValueTree). returned result l.end l.run) h
returned_same k result (Stops (Trapped code)) run later h = ap (λ (l : Evaluated ValueTree). returned result l.end l.run) h
returned_same k result Stuck run later h = ap (λ (l : Evaluated ValueTree). returned result l.end l.run) h

back_same : (k : ℕ) (variables : List (Option ℕ)) (r later : Evaluated ValueTree) → Same k r later → Same k (back variables r) (back variables later)
back_same k variables r later h = changed_same k (λ (b : Run). record b { variables = variables }) (λ b. refl) (λ b. refl) r later h

entered_same : (k : ℕ) (calls : Calls) → ((f : ℕ) (args : List ValueTree) (b : Run) → Grows b (calls f args b).run) →
    ((f : ℕ) (args : List ValueTree) (b : Run) → Same k (calls f args b) (calls f args (more_turns k b))) →
    (f : Function) (args : List ValueTree) (b : Run) → Same k (entered calls f args b) (entered calls f args (more_turns k b))
entered_same k calls grows lasts f args b =
    let own : Run = record (with_visit true work_of_call b) { variables = replicate (length f.params + length f.vars) None } in
    back_same k b.variables
    (and_then (bound 0 f.params args own) (λ ks after. body_done f.result (scoped ks (evaluated calls f.body after))))
    (and_then (bound 0 f.params args (more_turns k own)) (λ ks after. body_done f.result (scoped ks (evaluated calls f.body after))))
    (then_same k (bound 0 f.params args own) (bound 0 f.params args (more_turns k own))
    (λ ks after. body_done f.result (scoped ks (evaluated calls f.body after)))
    (λ ks after. body_done f.result (scoped ks (evaluated calls f.body after)))
    (bound_same k 0 f.params args own)
    (λ ks c. returned_same k f.result (evaluated calls f.body c).end (ended ks (evaluated calls f.body c).run) (scoped ks (evaluated calls f.body (more_turns k c)))
    (scoped_same k ks (evaluated calls f.body c) (evaluated calls f.body (more_turns k c)) (node_same k calls grows lasts f.body c)))
    (λ ks c. FlowGrowth.body_kept Grows FlowGrowth.growing FlowGrowth.growing_by_turns calls grows f ks c))

found_same : (k : ℕ) (calls : Calls) → ((f : ℕ) (args : List ValueTree) (b : Run) → Grows b (calls f args b).run) →
    ((f : ℕ) (args : List ValueTree) (b : Run) → Same k (calls f args b) (calls f args (more_turns k b))) →
    (o : Option Function) (args : List ValueTree) (b : Run) → Same k (found_called calls o args b) (found_called calls o args (more_turns k b))
found_same k calls grows lasts None args b = refl
found_same k calls grows lasts (Some f) args b =
    with_turn_same k b (λ next. entered calls f args next) (λ next. entered calls f args next)
    (λ c. entered_same k calls grows lasts f args c) (λ c. FlowGrowth.entered_kept Grows FlowGrowth.growing FlowGrowth.growing_by_turns calls grows f args c)

calls_grow : (functions : List Function) (room f : ℕ) (args : List ValueTree) (b : Run) → Grows b (calls_within functions room f args b).run
calls_grow functions room f args b = FlowGrowth.calls_kept Grows FlowGrowth.growing FlowGrowth.growing_by_turns functions room f args b

calls_same : (k : ℕ) (functions : List Function) (room f : ℕ) (args : List ValueTree) (b : Run) →
    Same k (calls_within functions room f args b) (calls_within functions room f args (more_turns k b))
calls_same k functions zero f args b = refl
calls_same k functions (suc room) f args b =
    found_same k (calls_within functions room) (λ g more c. calls_grow functions room g more c) (λ g more c. calls_same k functions room g more c)
    (slice_get functions f) args b

-- ---- the machine

exported_same : (k depth : ℕ) (p : Functions) (kept : Kept) (o : Option Function) (args : List Scalar) (replies : List ℕ) (n : ℕ) →
    Same k (call_of depth p kept o args replies n) (call_of depth p kept o args replies (n + k))
exported_same k depth p kept None args replies n = refl
exported_same k depth p kept (Some f) args replies n =
    entered_same k (calls_within p.functions (depth - 1)) (λ g more c. calls_grow p.functions (depth - 1) g more c)
    (λ g more c. calls_same k p.functions (depth - 1) g more c) f (values_of args) (run_from kept replies n)

result_lasts : (k : ℕ) (ty : TypeTree) (value : Option Scalar) (run : Run) →
    bounds.Lasts k run.events (result_end ty value run) (record { events = run.events; end = result_end ty value (more_turns k run) })
result_lasts k tree.VoidType value run = refl
result_lasts k _ (Some value) run = refl
result_lasts k _ None run = refl

outcome_lasts : (k : ℕ) (ty : TypeTree) (end : End ValueTree) (run : Run) (later : Evaluated ValueTree) → Lasts k end run later →
    bounds.Lasts k run.events (call_end ty end run) (outcome ty later)
outcome_lasts k ty (Gives v) run later h =
    subst (λ (l : Evaluated ValueTree). bounds.Lasts k run.events (result_end ty (scalar_of v) run) (outcome ty l)) (sym h) (result_lasts k ty (scalar_of v) run)
outcome_lasts k ty (Leaves target from v) run later h = ap (λ (l : Evaluated ValueTree). outcome ty l) h
outcome_lasts k ty (Returns from v) run later h = ap (λ (l : Evaluated ValueTree). outcome ty l) h
outcome_lasts k ty (Stops (Panicked cause message)) run later h = ap (λ (l : Evaluated ValueTree). outcome ty l) h
outcome_lasts k ty (Stops WantsReply) run later h = ap (λ (l : Evaluated ValueTree). outcome ty l) h
outcome_lasts k ty (Stops Running) run later h = h
outcome_lasts k ty (Stops Wild) run later h = ap (λ (l : Evaluated ValueTree). outcome ty l) h
outcome_lasts k ty (Stops (Trapped code)) run later h = ap (λ (l : Evaluated ValueTree). outcome ty l) h
outcome_lasts k ty Stuck run later h = ap (λ (l : Evaluated ValueTree). outcome ty l) h

result_within : (ty : TypeTree) (value : Option Scalar) (run : Run) (n : ℕ) → run.turns ≤ n → LeavesWithin n (result_end ty value run)
result_within tree.VoidType value run n h = h
result_within _ (Some value) run n h = h
result_within _ None run n h = tt

end_within : (ty : TypeTree) (end : End ValueTree) (run : Run) (n : ℕ) → run.turns ≤ n → LeavesWithin n (call_end ty end run)
end_within ty (Gives v) run n h = result_within ty (scalar_of v) run n h
end_within ty (Leaves target from v) run n h = tt
end_within ty (Returns from v) run n h = tt
end_within ty (Stops halt) run n h = tt
end_within ty Stuck run n h = tt

machine_stays : (depth : ℕ) (p : Functions) → StaysEnded (functions_machine depth p)
machine_stays depth p = record {
  lasts = λ kept call replies n k.
      let f : Option Function = exported p call.name in
      let r : Evaluated ValueTree = call_of depth p kept f call.args replies n in
      outcome_lasts k (result_of f) r.end r.run (call_of depth p kept f call.args replies (n + k)) (exported_same k depth p kept f call.args replies n);
  left = λ kept call replies n.
      let f : Option Function = exported p call.name in
      let r : Evaluated ValueTree = call_of depth p kept f call.args replies n in
      end_within (result_of f) r.end r.run n (FlowGrowth.exported_kept Grows FlowGrowth.growing FlowGrowth.growing_by_turns depth p kept f call.args replies n).turns;
}

pub runs_stay_ended : RunsStayEnded
runs_stay_ended = record {
  node = λ functions room n run k. node_same k (calls_within functions room) (λ f args b. calls_grow functions room f args b)
      (λ f args b. calls_same k functions room f args b) n run;
  called = λ functions room f args run k. calls_same k functions room f args run;
  machine = machine_stays;
  sessions = λ depth p. sessions_stay (functions_machine depth p) (machine_stays depth p);
}
