-- Visits pay: for turns, and with moved bytes for work. By the calls that may be active, then the node, and loops by the turns that are left.
use Rattle.std.proofs.Common.{◌≡◌, refl, ℕ, zero, suc, ◌+◌, ◌*◌, ◌≤◌, true, false, List, [], ◌∷◌, Option, Some, None, arith}
use Rattle.std.specs.Prelude.{◌-◌, length, replicate, slice_get}
use Rattle.zw_session.specs.Sessions as sessions
use Rattle.zw_session.specs.Sessions.{Scalar}
use Rattle.zw_types.specs.TypeTrees as tree
use Rattle.zw_types.specs.TypeTrees.{TypeTree, ValueTree}
use Rattle.zw_typed.specs.Nodes.{Logic, And, Or}
use Rattle.zw_typed.specs.NodeMeanings.{scalar_of, scalars_of}
use Rattle.zw_typed.specs.Exports.{values_of}
use Rattle.zw_typed.specs.FlowNodes.{Variable, FlowNode, FlowNodes, node, no_nodes, node_and, Function, type_of, types_of, Form, Constant, Read, Write, Declare, Scope, Operate, Become, Decide, Choose, InOrder, Target, Leave, Repeat, Count, Call, CallHost, Return, Stop}
use Rattle.zw_typed.specs.FlowCounts.{Counts, work_of, work_of_turn, work_of_call}
use Rattle.zw_typed.specs.FlowRanges.{Bounds, bounds_of, Turns, Due, Fails, NoEnd, turns_due}
use Rattle.zw_typed.specs.FlowRuns.{Run, End, Gives, Leaves, Returns, Stops, Stuck, Evaluated, gives, goes_on, and_then, with_visit, with_value, turn, with_turn, object_of, declared, ended, scoped}
use Rattle.zw_typed.specs.FlowMeanings.{Calls, arrives, by_truth, decided, at_target, repeated, captured, counted, by_turns, over_ranges, evaluated, meant, all_evaluated, bound, returned, back, body_done, entered, found_called, calls_within}
use Rattle.zw_typed.specs.FlowMachines.{Functions, Kept, at_first, number_named, function_numbered, kept_by, run_from, call_of, call_end, result_end, result_of, exported, counts_after, turns_after, session_counts, session_turns}
use Rattle.zw_typed.specs.FlowNeeds.{paid_work, first_visits, visits_in, visits_among, need, need_in, need_left, need_among, need_later, AreTurnsPaid, FormTurnsPaid, AllTurnsPaid, IsFunctionPaid}
use Rattle.zw_typed.specs.FlowLaws.{Grows, Pays, AreFunctionsPaid, VisitsPay}
use Rattle.zw_typed.proofs.FlowGrowth.{IsKept}
use Rattle.zw_typed.proofs.FlowGrowth

-- ---- what pays

-- in words of numbers alone, so that each step is one of arithmetic
on_turns : (s av at bv bt cv ct : ℕ) → av + at + s ≤ bv + bt → bv + bt + 0 ≤ cv + ct → av + at + s ≤ cv + ct
on_turns s av at bv bt cv ct h i = omega (arith, h, i)

on_work : (s d e aw ap bw bp cw cp : ℕ) → bw + 256 * ap + 256 * s ≤ aw + 256 * bp + d → cw + 256 * bp + 256 * 0 ≤ bw + 256 * cp + e → cw + 256 * ap + 256 * s ≤ aw + 256 * cp + (d + e)
on_work s d e aw ap bw bp cw cp h i = omega (arith, h, i)

pays_on : (s d e : ℕ) (a b c : Run) → Pays s d a b → Pays 0 e b c → Pays s (d + e) a c
pays_on s d e a b c h i = record {
  turns = on_turns s a.counts.visits a.turns b.counts.visits b.turns c.counts.visits c.turns h.turns i.turns;
  work = on_work s d e a.counts.work (a.counts.visits + a.counts.moved) b.counts.work (b.counts.visits + b.counts.moved) c.counts.work (c.counts.visits + c.counts.moved) h.work i.work;
}

pays_same : (a : Run) → Pays 0 0 a a
pays_same a = record { turns = omega arith; work = omega arith }

more_work : (s d e bw ap aw bp : ℕ) → d ≤ e → bw + 256 * ap + 256 * s ≤ aw + 256 * bp + d → bw + 256 * ap + 256 * s ≤ aw + 256 * bp + e
more_work s d e bw ap aw bp l h = omega (arith, l, h)

pays_more : (s d e : ℕ) (a b : Run) → d ≤ e → Pays s d a b → Pays s e a b
pays_more s d e a b l h = record { turns = h.turns; work = more_work s d e b.counts.work (a.counts.visits + a.counts.moved) a.counts.work (b.counts.visits + b.counts.moved) l h.work }

left_work : (s d bw ap aw bp : ℕ) → bw + 256 * ap + 256 * s ≤ aw + 256 * bp + d → bw + 256 * ap + 256 * 0 ≤ aw + 256 * bp + (d - 256 * s)
left_work s d bw ap aw bp h = omega (arith, h)

left_turns : (s av at bv bt : ℕ) → av + at + s ≤ bv + bt → av + at + 0 ≤ bv + bt
left_turns s av at bv bt h = omega (arith, h)

-- the first visits are part of what is paid
pays_left : (s d : ℕ) (a b : Run) → Pays s d a b → Pays 0 (d - paid_work * s) a b
pays_left s d a b h = record {
  turns = left_turns s a.counts.visits a.turns b.counts.visits b.turns h.turns;
  work = left_work s d b.counts.work (a.counts.visits + a.counts.moved) a.counts.work (b.counts.visits + b.counts.moved) h.work;
}

moved_work : (w v m n : ℕ) → w + 16 * n + 256 * (v + m) + 256 * 0 ≤ w + 256 * (v + (m + n)) + 0
moved_work w v m n = omega arith

-- all that takes no turn and counts no node pays by itself
pub paying : IsKept (Pays 0 0)
paying = record {
  same = pays_same;
  trans = λ a b c h i. pays_on 0 0 0 a b c h i;
  bytes = λ a n. record { turns = omega arith; work = moved_work a.counts.work a.counts.visits a.counts.moved n };
  objects = λ a store variables. record { turns = omega arith; work = omega arith };
  reply = λ a r rs e. record { turns = omega arith; work = omega arith };
  event = λ a e. record { turns = omega arith; work = omega arith };
}

-- a node is counted, and is one visit where it stands for an occurrence
pays_visit : (a : Run) (work : ℕ) → Pays 1 work a (with_visit true work a)
pays_visit a work = record { turns = omega arith; work = omega arith }

pays_helper : (a : Run) (work : ℕ) → Pays 0 work a (with_visit false work a)
pays_helper a work = record { turns = omega arith; work = omega arith }

then_turns : (s t av at bv bt cv ct : ℕ) → av + at + s ≤ bv + bt → bv + bt + t ≤ cv + ct → av + at + (s + t) ≤ cv + ct
then_turns s t av at bv bt cv ct h i = omega (arith, h, i)

then_work : (s t d e aw ap bw bp cw cp : ℕ) → bw + 256 * ap + 256 * s ≤ aw + 256 * bp + d → cw + 256 * bp + 256 * t ≤ bw + 256 * cp + e → cw + 256 * ap + 256 * (s + t) ≤ aw + 256 * cp + (d + e)
then_work s t d e aw ap bw bp cw cp h i = omega (arith, h, i)

-- both begin so
pays_then : (s t d e : ℕ) (a b c : Run) → Pays s d a b → Pays t e b c → Pays (s + t) (d + e) a c
pays_then s t d e a b c h i = record {
  turns = then_turns s t a.counts.visits a.turns b.counts.visits b.turns c.counts.visits c.turns h.turns i.turns;
  work = then_work s t d e a.counts.work (a.counts.visits + a.counts.moved) b.counts.work (b.counts.visits + b.counts.moved) c.counts.work (c.counts.visits + c.counts.moved) h.work i.work;
}

-- one thing and then another
then_pays : {V W : Type 0} (s d e : ℕ) (a : Run) (r : Evaluated V) (go : V → Run → Evaluated W) →
    Pays s d a r.run → ((v : V) (b : Run) → Pays 0 e b (go v b).run) → Pays s (d + e) a (and_then r go).run
then_pays {V} {W} s d e a r go h each = by_end r.end
  where
    by_end : (end : End V) → Pays s (d + e) a (goes_on end r.run go).run
    by_end (Gives v) = pays_on s d e a r.run (go v r.run).run h (each v r.run)
    by_end (Leaves t ty v) = pays_more s d (d + e) a r.run (omega arith) h
    by_end (Returns ty v) = pays_more s d (d + e) a r.run (omega arith) h
    by_end (Stops halt) = pays_more s d (d + e) a r.run (omega arith) h
    by_end Stuck = pays_more s d (d + e) a r.run (omega arith) h

-- and then something that pays by itself
then_free : {V W : Type 0} (s d : ℕ) (a : Run) (r : Evaluated V) (go : V → Run → Evaluated W) →
    Pays s d a r.run → ((v : V) (b : Run) → Pays 0 0 b (go v b).run) → Pays s d a (and_then r go).run
then_free s d a r go h each = pays_more s (d + 0) d a (and_then r go).run (omega arith) (then_pays s d 0 a r go h each)

free_behind : (s d : ℕ) (a b c : Run) → Pays s d a b → Pays 0 0 b c → Pays s d a c
free_behind s d a b c h i = pays_more s (d + 0) d a c (omega arith) (pays_on s d 0 a b c h i)

by_truth_pays : {V : Type 0} (e : ℕ) (v : ValueTree) (t f : Run → Evaluated V) (a : Run) →
    ((b : Run) → Pays 0 e b (t b).run) → ((b : Run) → Pays 0 e b (f b).run) → Pays 0 e a (by_truth v t f a).run
by_truth_pays e (tree.TruthValue true) t f a h i = h a
by_truth_pays e (tree.TruthValue false) t f a h i = i a
by_truth_pays e tree.UndefinedValue t f a h i = pays_more 0 0 e a a (omega arith) (pays_same a)
by_truth_pays e _ t f a h i = pays_more 0 0 e a a (omega arith) (pays_same a)

decided_pays : (e : ℕ) (l : Logic) (v : ValueTree) (other : Run → Evaluated ValueTree) (a : Run) → ((b : Run) → Pays 0 e b (other b).run) →
    Pays 0 e a (decided l v other a).run
decided_pays e And v other a h = by_truth_pays e v other (λ run. gives (tree.TruthValue false) run) a h (λ b. pays_more 0 0 e b b (omega arith) (pays_same b))
decided_pays e Or v other a h = by_truth_pays e v (λ run. gives (tree.TruthValue true) run) other a (λ b. pays_more 0 0 e b b (omega arith) (pays_same b)) h

-- ---- turns

turn_turns : (s av at bv bt cv ct l : ℕ) → av + at + s ≤ bv + bt → bt ≡ suc l → bv + l + s ≤ cv + ct → 1 ≤ s → av + at + s ≤ cv + ct
turn_turns s av at bv bt cv ct l h e i j = omega (arith, h, e, i, j)

turn_work : (s d aw ap bw bp cw cp : ℕ) → bw + 256 * ap + 256 * s ≤ aw + 256 * bp + d → cw + 256 * bp + 256 * s ≤ (bw + 16) + 256 * cp + d → d + 16 ≤ 256 * s → cw + 256 * ap + 256 * s ≤ aw + 256 * cp + d
turn_work s d aw ap bw bp cw cp h i j = omega (arith, h, i, j)

first_of_turn : (s d : ℕ) → d + 16 ≤ 256 * s → 1 ≤ s
first_of_turn s d j = omega (arith, j)

-- what is behind a turn pays as the body in front of it did
pays_turn : (s d : ℕ) (a b c : Run) (left : ℕ) → d + work_of_turn ≤ paid_work * s → b.turns ≡ suc left → Pays s d a b →
    Pays s d (with_visit false work_of_turn (record b { turns = left })) c → Pays s d a c
pays_turn s d a b c left j e h i = record {
  turns = turn_turns s a.counts.visits a.turns b.counts.visits b.turns c.counts.visits c.turns left h.turns e i.turns (first_of_turn s d j);
  work = turn_work s d a.counts.work (a.counts.visits + a.counts.moved) b.counts.work (b.counts.visits + b.counts.moved) c.counts.work (c.counts.visits + c.counts.moved) h.work i.work j;
}

turn_pays : {V : Type 0} (s d n : ℕ) (a b : Run) (go : Run → Evaluated V) → d + work_of_turn ≤ paid_work * s → b.turns ≡ n → Pays s d a b →
    ((c : Run) → Pays s d c (go c).run) → Pays s d a (turn n b (λ next. go (with_visit false work_of_turn next))).run
turn_pays s d zero a b go j e h each = h
turn_pays s d (suc left) a b go j e h each =
    let next : Run = with_visit false work_of_turn (record b { turns = left }) in
    pays_turn s d a b (go next).run left j e h (each next)

-- behind a body that gives comes a turn
body_pays : {V : Type 0} (s d : ℕ) (a : Run) (r : Evaluated ValueTree) (go : Run → Evaluated V) → d + work_of_turn ≤ paid_work * s → Pays s d a r.run →
    ((c : Run) → Pays s d c (go c).run) → Pays s d a (and_then r (λ value after. with_turn after (λ next. go (with_visit false work_of_turn next)))).run
body_pays {V} s d a r go j h each = by_end r.end
  where
    by_end : (end : End ValueTree) → Pays s d a (goes_on end r.run (λ value after. with_turn after (λ next. go (with_visit false work_of_turn next)))).run
    by_end (Gives v) = turn_pays s d r.run.turns a r.run go j refl h each
    by_end (Leaves t ty v) = h
    by_end (Returns ty v) = h
    by_end (Stops halt) = h
    by_end Stuck = h

repeated_pays : (s d n : ℕ) (body : Run → Evaluated ValueTree) → d + work_of_turn ≤ paid_work * s → ((b : Run) → Pays s d b (body b).run) → (a : Run) →
    Pays s d a (repeated n body a).run
repeated_pays s d zero body j h a = then_free s d a (body a) _ (h a) (λ v b. pays_same b)
repeated_pays s d (suc left) body j h a = body_pays s d a (body a) (λ next. repeated left body next) j (h a) (λ c. repeated_pays s d left body j h c)

-- ---- as many turns as are due

fewer_turns : (s t av at bv bt : ℕ) → t ≤ s → av + at + s ≤ bv + bt → av + at + t ≤ bv + bt
fewer_turns s t av at bv bt l h = omega (arith, l, h)

fewer_work : (s t d e bw ap aw bp : ℕ) → t ≤ s → d ≤ e → bw + 256 * ap + 256 * s ≤ aw + 256 * bp + d → bw + 256 * ap + 256 * t ≤ aw + 256 * bp + e
fewer_work s t d e bw ap aw bp l m h = omega (arith, l, m, h)

pays_as : (s t d e : ℕ) (a b : Run) → t ≤ s → d ≤ e → Pays s d a b → Pays t e a b
pays_as s t d e a b l m h = record {
  turns = fewer_turns s t a.counts.visits a.turns b.counts.visits b.turns l h.turns;
  work = fewer_work s t d e b.counts.work (a.counts.visits + a.counts.moved) a.counts.work (b.counts.visits + b.counts.moved) l m h.work;
}

nothing_left : (s d : ℕ) → d + 16 ≤ 256 * s → d - 256 * s ≤ 0
nothing_left s d j = omega (arith, j)

pays_all : (s d : ℕ) (a b : Run) → d + work_of_turn ≤ paid_work * s → Pays s d a b → Pays 0 0 a b
pays_all s d a b j h = pays_more 0 (d - paid_work * s) 0 a b (nothing_left s d j) (pays_left s d a b h)

pays_front : (s d : ℕ) (a b c : Run) → Pays 0 0 a b → Pays s d b c → Pays s d a c
pays_front s d a b c h i = pays_as (0 + s) s (0 + d) d a c (omega arith) (omega arith) (pays_then 0 s 0 d a b c h i)

-- a turn of a `for` whose body gave has what the body begins with; one that ended else pays by itself
abbrev EndPays : ℕ → ℕ → Run → End ValueTree → Run → Type 0
EndPays s d a (Gives v) b = Pays s d a b
EndPays s d a _ b = Pays 0 0 a b

scoped_pays : (s d : ℕ) (ks : List ℕ) (body : Run → Evaluated ValueTree) → d + work_of_turn ≤ paid_work * s → (a b : Run) → Pays 0 0 a b → Pays s d b (body b).run →
    EndPays s d a (body b).end (ended ks (body b).run)
scoped_pays s d ks body j a b h i = by_end (body b).end
  where
    whole : Pays s d a (ended ks (body b).run)
    whole = free_behind s d a (body b).run (ended ks (body b).run) (pays_front s d a b (body b).run h i) (FlowGrowth.ended_kept (Pays 0 0) paying ks (body b).run)

    by_end : (end : End ValueTree) → EndPays s d a end (ended ks (body b).run)
    by_end (Gives v) = whole
    by_end (Leaves t ty v) = pays_all s d a (ended ks (body b).run) j whole
    by_end (Returns ty v) = pays_all s d a (ended ks (body b).run) j whole
    by_end (Stops halt) = pays_all s d a (ended ks (body b).run) j whole
    by_end Stuck = pays_all s d a (ended ks (body b).run) j whole

captured_pays : (s d : ℕ) (body : Run → Evaluated ValueTree) → d + work_of_turn ≤ paid_work * s → ((b : Run) → Pays s d b (body b).run) → (a : Run) (r : Evaluated (List ℕ)) →
    Pays 0 0 a r.run → EndPays s d a (and_then r (λ ks after. scoped ks (body after))).end (and_then r (λ ks after. scoped ks (body after))).run
captured_pays s d body j h a r i = by_end r.end
  where
    by_end : (end : End (List ℕ)) → EndPays s d a (goes_on end r.run (λ ks after. scoped ks (body after))).end (goes_on end r.run (λ ks after. scoped ks (body after))).run
    by_end (Gives ks) = scoped_pays s d ks body j a r.run i (h r.run)
    by_end (Leaves t ty v) = i
    by_end (Returns ty v) = i
    by_end (Stops halt) = i
    by_end Stuck = i

last_turns : (s av at bv bt cv ct l : ℕ) → av + at + s ≤ bv + bt → bt ≡ suc l → bv + l + 0 ≤ cv + ct → 1 ≤ s → av + at + 0 ≤ cv + ct
last_turns s av at bv bt cv ct l h e i j = omega (arith, h, e, i, j)

last_work : (s d aw ap bw bp cw cp : ℕ) → bw + 256 * ap + 256 * s ≤ aw + 256 * bp + d → cw + 256 * bp + 256 * 0 ≤ (bw + 16) + 256 * cp + 0 → d + 16 ≤ 256 * s → cw + 256 * ap + 256 * 0 ≤ aw + 256 * cp + 0
last_work s d aw ap bw bp cw cp h i j = omega (arith, h, i, j)

due_pays : (s d n : ℕ) (a b : Run) (go : Run → Evaluated ValueTree) → d + work_of_turn ≤ paid_work * s → b.turns ≡ n → Pays s d a b →
    ((c : Run) → Pays 0 0 c (go c).run) → Pays 0 0 a (turn n b (λ next. go (with_visit false work_of_turn next))).run
due_pays s d zero a b go j e h each = pays_all s d a b j h
due_pays s d (suc left) a b go j e h each =
    let c : Run = (go (with_visit false work_of_turn (record b { turns = left }))).run in
    let i : Pays 0 0 (with_visit false work_of_turn (record b { turns = left })) c = each (with_visit false work_of_turn (record b { turns = left })) in
    record {
      turns = last_turns s a.counts.visits a.turns b.counts.visits b.turns c.counts.visits c.turns left h.turns e i.turns (first_of_turn s d j);
      work = last_work s d a.counts.work (a.counts.visits + a.counts.moved) b.counts.work (b.counts.visits + b.counts.moved) c.counts.work (c.counts.visits + c.counts.moved) h.work i.work j;
    }

each_pays : (s d : ℕ) (a : Run) (go : Run → Evaluated ValueTree) → d + work_of_turn ≤ paid_work * s → (end : End ValueTree) (b : Run) → EndPays s d a end b →
    ((c : Run) → Pays 0 0 c (go c).run) → Pays 0 0 a (goes_on end b (λ value after. with_turn after (λ next. go (with_visit false work_of_turn next)))).run
each_pays s d a go j (Gives v) b h each = due_pays s d b.turns a b go j refl h each
each_pays s d a go j (Leaves t ty v) b h each = h
each_pays s d a go j (Returns ty v) b h each = h
each_pays s d a go j (Stops halt) b h each = h
each_pays s d a go j Stuck b h each = h

counted_pays : (s d due : ℕ) (bounds : List Bounds) (n : ℕ) (body : Run → Evaluated ValueTree) → d + work_of_turn ≤ paid_work * s → ((b : Run) → Pays s d b (body b).run) →
    (a : Run) → Pays 0 0 a (counted due bounds n body a).run
counted_pays s d zero bounds n body j h a = pays_same a
counted_pays s d (suc due) bounds n body j h a =
    let r : Evaluated ValueTree = and_then (captured bounds n a) (λ ks after. scoped ks (body after)) in
    each_pays s d a (λ next. counted due bounds (n + 1) body next) j r.end r.run
    (captured_pays s d body j h a (captured bounds n a) (FlowGrowth.captured_kept (Pays 0 0) paying bounds n a)) (λ c. counted_pays s d due bounds (n + 1) body j h c)

by_turns_pays : (s d : ℕ) (ts : Turns) (bounds : List Bounds) (body : Run → Evaluated ValueTree) → d + work_of_turn ≤ paid_work * s → ((b : Run) → Pays s d b (body b).run) →
    (a : Run) → Pays 0 0 a (by_turns ts bounds body a).run
by_turns_pays s d (Due n) bounds body j h a = counted_pays s d n bounds 0 body j h a
by_turns_pays s d (Fails cause) bounds body j h a = pays_same a
by_turns_pays s d NoEnd bounds body j h a = pays_same a

over_pays : (s d : ℕ) (vs : List ValueTree) (o : Option (List Bounds)) (body : Run → Evaluated ValueTree) → d + work_of_turn ≤ paid_work * s →
    ((b : Run) → Pays s d b (body b).run) → (a : Run) → Pays 0 0 a (over_ranges vs o body a).run
over_pays s d vs None body j h a = FlowGrowth.over_none_kept (Pays 0 0) paying vs body a
over_pays s d vs (Some bounds) body j h a = by_turns_pays s d (turns_due bounds) bounds body j h a

-- ---- nodes

arm_left : (x y : ℕ) → x ≤ x + y
arm_left x y = omega arith

arm_right : (x y : ℕ) → y ≤ x + y
arm_right x y = omega arith

module _ (calls : Calls) (called : (f : ℕ) (args : List ValueTree) (a : Run) → Pays 0 0 a (calls f args a).run) where
  arm_pays : (x y : ℕ) (n : FlowNode) (ty : TypeTree) (a : Run) → x ≤ y → Pays 0 x a (evaluated calls n a).run →
      Pays 0 y a (and_then (evaluated calls n a) (λ given last. arrives (type_of n) ty given last)).run
  arm_pays x y n ty a l h =
      let r : Evaluated ValueTree = and_then (evaluated calls n a) (λ given last. arrives (type_of n) ty given last) in
      pays_more 0 x y a r.run l (then_free 0 x a (evaluated calls n a) _ h (λ given last. FlowGrowth.value_kept (Pays 0 0) paying ty last))

  mutual
    pub node_pays : (n : FlowNode) → AreTurnsPaid n → (a : Run) → Pays (first_visits n) (need n) a (evaluated calls n a).run
    node_pays (node true ty form) p a =
        let b : Run = with_visit true (work_of form) a in
        let c : Run = (meant calls ty form b).run in
        pays_as (1 + visits_in form) (suc (visits_in form)) (work_of form + need_in form) (work_of form + need_in form) a c (omega arith) (omega arith)
        (pays_then 1 (visits_in form) (work_of form) (need_in form) a b c (pays_visit a (work_of form)) (form_pays ty form p b))
    node_pays (node false ty form) p a =
        let b : Run = with_visit false (work_of form) a in
        let c : Run = (meant calls ty form b).run in
        pays_as (0 + visits_in form) (visits_in form) (work_of form + need_in form) (work_of form + need_in form) a c (omega arith) (omega arith)
        (pays_then 0 (visits_in form) (work_of form) (need_in form) a b c (pays_helper a (work_of form)) (form_pays ty form p b))

    form_pays : (ty : TypeTree) (form : Form) → FormTurnsPaid form → (a : Run) → Pays (visits_in form) (need_in form) a (meant calls ty form a).run
    form_pays ty (Constant v) p a = pays_same a
    form_pays ty (Read (Variable k)) p a = FlowGrowth.read_kept (Pays 0 0) paying ty (object_of a k) a
    form_pays ty (Write (Variable k) n) p a =
        then_free (first_visits n) (need n) a (evaluated calls n a) _ (node_pays n p a) (λ v b. FlowGrowth.write_kept (Pays 0 0) paying (type_of n) (object_of b k) v b)
    form_pays ty (Declare k writable n) p a =
        then_free (first_visits n) (need n) a (evaluated calls n a) _ (node_pays n p a) (λ v b.
        paying.trans b (declared k (type_of n) v writable b) (with_value (type_of n) (declared k (type_of n) v writable b))
        (FlowGrowth.declared_kept (Pays 0 0) paying k (type_of n) v writable b)
        (FlowGrowth.value_kept (Pays 0 0) paying (type_of n) (declared k (type_of n) v writable b)))
    form_pays ty (Scope ks n) p a =
        let r : Evaluated ValueTree = evaluated calls n a in
        free_behind (first_visits n) (need n) a r.run (ended ks r.run) (node_pays n p a) (FlowGrowth.ended_kept (Pays 0 0) paying ks r.run)
    form_pays ty (Operate op kids) p a =
        then_free (visits_among kids) (need_among kids) a (all_evaluated calls kids a) _ (kids_pay kids p a)
        (λ vs b. FlowGrowth.operated_kept (Pays 0 0) paying op (types_of kids) ty vs b)
    form_pays ty (Become n) p a =
        then_free (first_visits n) (need n) a (evaluated calls n a) _ (node_pays n p a) (λ v b. FlowGrowth.value_kept (Pays 0 0) paying (type_of n) b)
    form_pays ty (Decide logic c d) p a =
        then_pays (first_visits c) (need c) (need_left d) a (evaluated calls c a) _ (node_pays c p.0 a)
        (λ v b. decided_pays (need_left d) logic v (λ next. evaluated calls d next) b (λ next. pays_left (first_visits d) (need d) next (evaluated calls d next).run (node_pays d p.1 next)))
    form_pays ty (Choose c d e) p a =
        then_pays (first_visits c) (need c) (need_left d + need_left e) a (evaluated calls c a) _ (node_pays c p.0 a) (λ v b. by_truth_pays (need_left d + need_left e) v
        (λ next. and_then (evaluated calls d next) (λ given last. arrives (type_of d) ty given last))
        (λ next. and_then (evaluated calls e next) (λ given last. arrives (type_of e) ty given last)) b
        (λ next. arm_pays (need_left d) (need_left d + need_left e) d ty next (arm_left (need_left d) (need_left e)) (pays_left (first_visits d) (need d) next (evaluated calls d next).run (node_pays d p.1 next)))
        (λ next. arm_pays (need_left e) (need_left d + need_left e) e ty next (arm_right (need_left d) (need_left e)) (pays_left (first_visits e) (need e) next (evaluated calls e next).run (node_pays e p.2 next))))
    form_pays ty (InOrder kids) p a = then_free (visits_among kids) (need_among kids) a (all_evaluated calls kids a) _ (kids_pay kids p a) (λ vs b. pays_same b)
    form_pays ty (Target t n) p a =
        let r : Evaluated ValueTree = evaluated calls n a in
        free_behind (first_visits n) (need n) a r.run (at_target t (type_of n) ty r.end r.run).run (node_pays n p a)
        (FlowGrowth.at_target_kept (Pays 0 0) paying t (type_of n) ty r.end r.run)
    form_pays ty (Leave t n) p a = then_free (first_visits n) (need n) a (evaluated calls n a) _ (node_pays n p a) (λ v b. pays_same b)
    form_pays ty (Repeat n) p a = repeated_pays (first_visits n) (need n) a.turns (λ next. evaluated calls n next) p.0 (λ b. node_pays n p.1 b) a
    form_pays ty (Count ranges bounds n) p a =
        then_free (visits_among bounds) (need_among bounds) a (all_evaluated calls bounds a) _ (kids_pay bounds p.0 a)
        (λ vs b. over_pays (first_visits n) (need n) vs (bounds_of ranges vs) (λ next. evaluated calls n next) p.1 (λ next. node_pays n p.2 next) b)
    form_pays ty (Call f args) p a = then_free (visits_among args) (need_among args) a (all_evaluated calls args a) _ (kids_pay args p a) (λ vs b. called f vs b)
    form_pays ty (CallHost i args) p a =
        then_free (visits_among args) (need_among args) a (all_evaluated calls args a) _ (kids_pay args p a)
        (λ vs b. FlowGrowth.host_kept (Pays 0 0) paying i vs (scalars_of vs) b)
    form_pays ty (Return n) p a = then_free (first_visits n) (need n) a (evaluated calls n a) _ (node_pays n p a) (λ v b. pays_same b)
    form_pays ty (Stop cause) p a = pays_same a

    kids_pay : (ns : FlowNodes) → AllTurnsPaid ns → (a : Run) → Pays (visits_among ns) (need_among ns) a (all_evaluated calls ns a).run
    kids_pay no_nodes p a = pays_same a
    kids_pay (node_and n ns) p a = then_pays (first_visits n) (need n) (need_later ns) a (evaluated calls n a) _ (node_pays n p.0 a) (λ v b.
        then_free 0 (need_later ns) b (all_evaluated calls ns b) _ (later_pay ns p.1 b) (λ vs c. pays_same c))

    later_pay : (ns : FlowNodes) → AllTurnsPaid ns → (a : Run) → Pays 0 (need_later ns) a (all_evaluated calls ns a).run
    later_pay no_nodes p a = pays_same a
    later_pay (node_and n ns) p a = then_pays 0 (need_left n) (need_later ns) a (evaluated calls n a) _ (pays_left (first_visits n) (need n) a (evaluated calls n a).run (node_pays n p.0 a)) (λ v b.
        then_free 0 (need_later ns) b (all_evaluated calls ns b) _ (later_pay ns p.1 b) (λ vs c. pays_same c))

-- ---- calls

body_paid : (s d bw ap aw bp : ℕ) → d + 32 ≤ 256 * suc s → bw + 256 * ap + 256 * (1 + s) ≤ aw + 256 * bp + (32 + d) → bw + 256 * ap + 256 * 1 ≤ aw + 256 * bp + 256
body_paid s d bw ap aw bp j h = omega (arith, j, h)

-- what the visit of a call and the first ones of its body pay for
pays_body : (s d : ℕ) (a b : Run) → d + work_of_call ≤ paid_work * suc s → Pays (1 + s) (work_of_call + d) a b → Pays 1 paid_work a b
pays_body s d a b j h = record {
  turns = fewer_turns (1 + s) 1 a.counts.visits a.turns b.counts.visits b.turns (omega arith) h.turns;
  work = body_paid s d b.counts.work (a.counts.visits + a.counts.moved) a.counts.work (b.counts.visits + b.counts.moved) j h.work;
}

entered_pays : (calls : Calls) → ((f : ℕ) (args : List ValueTree) (a : Run) → Pays 0 0 a (calls f args a).run) → (f : Function) → IsFunctionPaid f →
    (args : List ValueTree) (a : Run) → Pays 1 paid_work a (entered calls f args a).run
entered_pays calls called f p args a = by_end (bound 0 f.params args own) (FlowGrowth.bound_kept (Pays 0 0) paying 0 f.params args own)
  where
    own : Run
    own = record (with_visit true work_of_call a) { variables = replicate (length f.params + length f.vars) None }

    begun : Pays 1 work_of_call a own
    begun = free_behind 1 work_of_call a (with_visit true work_of_call a) own (pays_visit a work_of_call)
        (paying.objects (with_visit true work_of_call a) a.store own.variables)

    through : (ks : List ℕ) (b : Run) → Pays 0 0 own b → Pays 1 paid_work a (back a.variables (body_done f.result (scoped ks (evaluated calls f.body b)))).run
    through ks b h =
        let r : Evaluated ValueTree = evaluated calls f.body b in
        let s : Run = ended ks r.run in
        let t : Run = (returned f.result r.end s).run in
        let u : Run = record t { variables = a.variables } in
        pays_body (first_visits f.body) (need f.body) a u p.body
        (free_behind (1 + first_visits f.body) (work_of_call + need f.body) a t u
        (free_behind (1 + first_visits f.body) (work_of_call + need f.body) a s t
        (free_behind (1 + first_visits f.body) (work_of_call + need f.body) a r.run s
        (pays_then 1 (first_visits f.body) work_of_call (need f.body) a b r.run (free_behind 1 work_of_call a own b begun h) (node_pays calls called f.body p.turns b))
        (FlowGrowth.ended_kept (Pays 0 0) paying ks r.run))
        (FlowGrowth.returned_kept (Pays 0 0) paying f.result r.end s))
        (paying.objects t t.store a.variables))

    short : (b : Run) → Pays 0 0 own b → Pays 1 paid_work a (record b { variables = a.variables })
    short b h = pays_as 1 1 work_of_call paid_work a (record b { variables = a.variables }) (omega arith) (omega arith)
        (free_behind 1 work_of_call a b (record b { variables = a.variables }) (free_behind 1 work_of_call a own b begun h) (paying.objects b b.store a.variables))

    by_end : (r : Evaluated (List ℕ)) → Pays 0 0 own r.run →
        Pays 1 paid_work a (back a.variables (and_then r (λ ks after. body_done f.result (scoped ks (evaluated calls f.body after))))).run
    by_end r h = by_its r.end
      where
        by_its : (end : End (List ℕ)) → Pays 1 paid_work a (back a.variables (goes_on end r.run (λ ks after. body_done f.result (scoped ks (evaluated calls f.body after))))).run
        by_its (Gives ks) = through ks r.run h
        by_its (Leaves t ty v) = short r.run h
        by_its (Returns ty v) = short r.run h
        by_its (Stops halt) = short r.run h
        by_its Stuck = short r.run h

call_turns : (av at bv bt l : ℕ) → at ≡ suc l → av + l + 1 ≤ bv + bt → av + at + 0 ≤ bv + bt
call_turns av at bv bt l e h = omega (arith, e, h)

call_work : (bw ap aw bp : ℕ) → bw + 256 * ap + 256 * 1 ≤ aw + 256 * bp + 256 → bw + 256 * ap + 256 * 0 ≤ aw + 256 * bp + 0
call_work bw ap aw bp h = omega (arith, h)

-- the visit of a call pays for its turn
found_pays : (n : ℕ) (a : Run) (go : Run → Evaluated ValueTree) → a.turns ≡ n → ((b : Run) → Pays 1 paid_work b (go b).run) → Pays 0 0 a (turn n a go).run
found_pays zero a go e each = pays_same a
found_pays (suc left) a go e each =
    let c : Run = (go (record a { turns = left })).run in
    let h : Pays 1 paid_work (record a { turns = left }) c = each (record a { turns = left }) in
    record {
      turns = call_turns a.counts.visits a.turns c.counts.visits c.turns left e h.turns;
      work = call_work c.counts.work (a.counts.visits + a.counts.moved) a.counts.work (c.counts.visits + c.counts.moved) h.work;
    }

found_called_pays : (calls : Calls) → ((f : ℕ) (args : List ValueTree) (a : Run) → Pays 0 0 a (calls f args a).run) → (o : Option Function) →
    ((f : Function) → o ≡ Some f → IsFunctionPaid f) → (args : List ValueTree) (a : Run) → Pays 0 0 a (found_called calls o args a).run
found_called_pays calls called None p args a = pays_same a
found_called_pays calls called (Some f) p args a = found_pays a.turns a (λ next. entered calls f args next) refl (λ b. entered_pays calls called f (p f refl) args b)

pub calls_pay : (functions : List Function) → AreFunctionsPaid functions → (room f : ℕ) (args : List ValueTree) (a : Run) → Pays 0 0 a (calls_within functions room f args a).run
calls_pay functions p zero f args a = pays_same a
calls_pay functions p (suc room) f args a =
    found_called_pays (calls_within functions room) (λ g more b. calls_pay functions p room g more b) (slice_get functions f) (λ g e. p f g e) args a

-- ---- sessions

exported_pays : (depth : ℕ) (p : Functions) → AreFunctionsPaid p.functions → (o : Option Function) → ((f : Function) → o ≡ Some f → IsFunctionPaid f) →
    (kept : Kept) (args : List Scalar) (replies : List ℕ) (turns : ℕ) → Pays 0 0 (run_from kept replies turns) (call_of depth p kept o args replies turns).run
exported_pays depth p paid None each kept args replies turns = pays_same (run_from kept replies turns)
exported_pays depth p paid (Some f) each kept args replies turns =
    let a : Run = run_from kept replies turns in
    let b : Run = (entered (calls_within p.functions (depth - 1)) f (values_of args) a).run in
    let h : Pays 1 paid_work a b = entered_pays (calls_within p.functions (depth - 1)) (λ g more c. calls_pay p.functions paid (depth - 1) g more c) f (each f refl) (values_of args) a in
    record {
      turns = fewer_turns 1 0 a.counts.visits a.turns b.counts.visits b.turns (omega arith) h.turns;
      work = call_work b.counts.work (a.counts.visits + a.counts.moved) a.counts.work (b.counts.visits + b.counts.moved) h.work;
    }

exported_paid : (functions : List Function) → AreFunctionsPaid functions → (o : Option ℕ) (f : Function) → function_numbered functions o ≡ Some f → IsFunctionPaid f
exported_paid functions paid None f e = cc
exported_paid functions paid (Some k) f e = paid k f e

-- so many turns were taken, and visits and moved bytes paid
record Settled (k : Counts) (t : ℕ) (c : Counts) : Type 0 where
  turns : k.visits + t ≤ c.visits
  work : c.work + 256 * (k.visits + k.moved) ≤ k.work + 256 * (c.visits + c.moved)

settled_same : (c : Counts) → Settled c 0 c
settled_same c = record { turns = omega arith; work = omega arith }

result_settles : (ty : TypeTree) (value : Option Scalar) (run : Run) (go : Kept → List ℕ → ℕ → Counts) (took : Kept → List ℕ → ℕ → ℕ) →
    ((kept : Kept) (replies : List ℕ) (left : ℕ) → Settled kept.counts (took kept replies left) (go kept replies left)) →
    Settled run.counts (turns_after (result_end ty value run) took) (counts_after (result_end ty value run) run.counts go)
result_settles tree.VoidType value run go took each = each (kept_by run) run.replies run.turns
result_settles _ (Some value) run go took each = each (kept_by run) run.replies run.turns
result_settles _ None run go took each = settled_same run.counts

end_settles : (ty : TypeTree) (end : End ValueTree) (run : Run) (go : Kept → List ℕ → ℕ → Counts) (took : Kept → List ℕ → ℕ → ℕ) →
    ((kept : Kept) (replies : List ℕ) (left : ℕ) → Settled kept.counts (took kept replies left) (go kept replies left)) →
    Settled run.counts (turns_after (call_end ty end run) took) (counts_after (call_end ty end run) run.counts go)
end_settles ty (Gives v) run go took each = result_settles ty (scalar_of v) run go took each
end_settles ty (Leaves target from v) run go took each = settled_same run.counts
end_settles ty (Returns from v) run go took each = settled_same run.counts
end_settles ty (Stops halt) run go took each = settled_same run.counts
end_settles ty Stuck run go took each = settled_same run.counts

all_turns : (kv t rv rt n cv : ℕ) → rt ≤ t → kv + t + 0 ≤ rv + rt → rv + n ≤ cv → kv + ((t - rt) + n) ≤ cv
all_turns kv t rv rt n cv l h i = omega (arith, l, h, i)

all_work : (kw kp rw rp cw cp : ℕ) → rw + 256 * kp + 256 * 0 ≤ kw + 256 * rp + 0 → cw + 256 * rp ≤ rw + 256 * cp → cw + 256 * kp ≤ kw + 256 * cp
all_work kw kp rw rp cw cp h i = omega (arith, h, i)

session_settles : (depth : ℕ) (p : Functions) → AreFunctionsPaid p.functions → (calls : List sessions.Call) (kept : Kept) (replies : List ℕ) (turns : ℕ) →
    Settled kept.counts (session_turns depth p calls kept replies turns) (session_counts depth p calls kept replies turns)
session_settles depth p paid [] kept replies turns = settled_same kept.counts
session_settles depth p paid (call ∷ calls) kept replies turns =
    let f : Option Function = exported p call.name in
    let r : Evaluated ValueTree = call_of depth p kept f call.args replies turns in
    let h : Pays 0 0 (run_from kept replies turns) r.run =
    exported_pays depth p paid f (λ g e. exported_paid p.functions paid (number_named p.exports call.name) g e) kept call.args replies turns in
    let g : Grows (run_from kept replies turns) r.run =
    FlowGrowth.exported_kept Grows FlowGrowth.growing FlowGrowth.growing_by_turns depth p kept f call.args replies turns in
    let n : ℕ = turns_after (call_end (result_of f) r.end r.run) (λ k rs m. session_turns depth p calls k rs m) in
    let c : Counts = counts_after (call_end (result_of f) r.end r.run) r.run.counts (λ k rs m. session_counts depth p calls k rs m) in
    let i : Settled r.run.counts n c =
    end_settles (result_of f) r.end r.run (λ k rs m. session_counts depth p calls k rs m) (λ k rs m. session_turns depth p calls k rs m)
    (λ k rs m. session_settles depth p paid calls k rs m) in
    record {
      turns = all_turns kept.counts.visits turns r.run.counts.visits r.run.turns n c.visits g.turns h.turns i.turns;
      work = all_work kept.counts.work (kept.counts.visits + kept.counts.moved) r.run.counts.work (r.run.counts.visits + r.run.counts.moved) c.work (c.visits + c.moved) h.work i.work;
    }

first_work : (w p : ℕ) → w + 256 * 0 ≤ 0 + 256 * p → w ≤ 256 * p
first_work w p h = omega (arith, h)

pub visits_pay : (functions : List Function) → AreFunctionsPaid functions → VisitsPay functions
visits_pay functions paid = record {
  node = λ room n run p. node_pays (calls_within functions room) (λ f args a. calls_pay functions paid room f args a) n p run;
  called = λ room f args run. calls_pay functions paid room f args run;
  turns = λ exports depth calls kept replies turns. (session_settles depth (record { functions = functions; exports = exports }) paid calls kept replies turns).turns;
  work = λ exports depth calls replies turns.
      let p : Functions = record { functions = functions; exports = exports } in
      let c : Counts = session_counts depth p calls at_first replies turns in
      first_work c.work (c.visits + c.moved) (session_settles depth p paid calls at_first replies turns).work;
}
