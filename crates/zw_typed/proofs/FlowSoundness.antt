-- Nodes that fit keep to what holds of a run: declared variables have values of their types, what is given, left with or returned is of its type,
-- and nothing is stuck or wild. By the calls that may be active, then the node, and loops by the turns that are left.
use Rattle.std.proofs.Common.{◌≡◌, refl, ℕ, zero, suc, ◌+◌, Bool, true, false, List, [], ◌∷◌, ◌++◌, Option, Some, None, inl, inr, ◌⊎◌, sym, ◌∙◌, subst, arith}
use Rattle.std.specs.Prelude.{slice_set, nat_eq, nat_le, if◌then◌else◌, pos, All}
use Rattle.std.proofs.lemmas.List.Elements.{All-head, All-tail}
use Rattle.std.proofs.lemmas.Bool.{leb-true}
use Rattle.std.proofs.lemmas.Int.{ints}
use Rattle.zw_session.specs.Sessions.{Scalar}
use Rattle.zw_types.specs.TypeTrees as tree
use Rattle.zw_types.specs.TypeTrees.{TypeTree, ValueTree}
use Rattle.zw_values.specs.ObjectStore.{Store, Place}
use Rattle.zw_values.specs.Applied as operation
use Rattle.zw_values.specs.Applied.{applied}
use Rattle.zw_typed.specs.Nodes.{Import, Logic, And, Or}
use Rattle.zw_typed.specs.NodeMeanings.{nothing, scalars_of, value_from}
use Rattle.zw_typed.specs.ValueTypes.{IsTruth, IsValueOf, AreValuesOf}
use Rattle.zw_typed.specs.FlowNodes.{Variable, Range, FlowNode, FlowNodes, node, no_nodes, node_and, type_of, types_of, Form, Constant, Read, Write, Declare, Scope, Operate, Become, Decide, Choose, InOrder, Target, Leave, Repeat, Count, Call, CallHost, Return, Stop}
use Rattle.zw_typed.specs.FlowCounts.{work_of, work_of_turn}
use Rattle.zw_typed.specs.FlowRanges.{Bounds, bounds_of, Turns, Due, Fails, NoEnd, turns_due}
use Rattle.zw_typed.specs.FlowRuns.{Run, End, Gives, Leaves, Returns, Stops, Stuck, Evaluated, gives, goes_on, and_then, with_visit, with_value, turn, object_of, declared, ended, scoped}
use Rattle.zw_typed.specs.FlowMeanings.{Calls, usize, arrives, read_from, read, stored, written_to, write, outcome_of, by_truth, decided, at_label, at_target, repeated, capture_at, capture_of, captured, counted, by_turns, over_ranges, replied, host_called, evaluated, meant, all_evaluated}
use Rattle.zw_typed.specs.FlowTypes.{Context, Opened, target_type, is_among, behind, behind_form, behind_all, IsLive, IsNew, IsEnded, ComesTo, known_of, value_known, IsJoined, with_capture, CaptureFits, with_captures, CapturesFit, captures_of, AreRanges, TypeFits, IsHostImport, Fits, FormFits, AllFit}
use Rattle.zw_typed.specs.FlowStates.{IsDeclared, IsState, EndFits, CallFits, CallsFit}
use Rattle.zw_typed.proofs.OperatorLemmas.{operator_comes}
use Rattle.zw_typed.proofs.StateLemmas.{same_tree, among_later, among_behind, among_all, AllNew, state_fewer, state_declared, state_ended, state_written, state_called, place_holds, saved_is}
use Rattle.zw_typed.proofs.JoinLemmas.{IsAsKnown, coercion-fits, ends_as, captures_in, AreBounds, ranges_bound, turns_are_due, scalars_there, reply_fits}

module _ (c : Context) (outer : Store) where
  -- the state of a run
  abbrev pub Held : List ℕ → Run → Type 0
  Held live run = IsState c outer live run.store run.variables

  -- a value of the type is given, the known one where one is, and these variables are declared behind it
  abbrev pub ValueGiven : List ℕ → Option ValueTree → TypeTree → ValueTree → Run → Type 0
  ValueGiven more known ty v run = IsAsKnown known v × IsValueOf ty v × Held more run

  abbrev pub ValuesGiven : List ℕ → List TypeTree → List ValueTree → Run → Type 0
  ValuesGiven more types vs run = AreValuesOf types vs × Held more run

  -- how evaluating ends
  abbrev pub Sound : {V : Type 0} → List Opened → List ℕ → (V → Run → Type 0) → Evaluated V → Type 0
  Sound around live Given r = EndFits c outer around live Given r.end r.run

  -- ---- one thing after another

  pub sound_then : {V W : Type 0} (around : List Opened) (live : List ℕ) (P : V → Run → Type 0) (Q : W → Run → Type 0) (r : Evaluated V) (go : V → Run → Evaluated W) →
      Sound around live P r → ((v : V) (b : Run) → P v b → Sound around live Q (go v b)) → Sound around live Q (and_then r go)
  sound_then {V} {W} around live P Q r go h each = by_end r.end h
    where
      by_end : (end : End V) → EndFits c outer around live P end r.run → Sound around live Q (goes_on end r.run go)
      by_end (Gives v) h = each v r.run h
      by_end (Leaves t ty v) h = h
      by_end (Returns ty v) h = h
      by_end (Stops halt) h = h
      by_end Stuck h = h

  pub sound_as : {V : Type 0} (around : List Opened) (live : List ℕ) (P Q : V → Run → Type 0) (r : Evaluated V) → ((v : V) (b : Run) → P v b → Q v b) →
      Sound around live P r → Sound around live Q r
  sound_as {V} around live P Q r into h = by_end r.end h
    where
      by_end : (end : End V) → EndFits c outer around live P end r.run → EndFits c outer around live Q end r.run
      by_end (Gives v) h = into v r.run h
      by_end (Leaves t ty v) h = h
      by_end (Returns ty v) h = h
      by_end (Stops halt) h = h
      by_end Stuck h = h

  void_given : (live : List ℕ) (ty : TypeTree) (run : Run) → ty ≡ tree.VoidType → Held live run → ValueGiven live None ty nothing run
  void_given live ty run e s = (tt, subst (λ (t : TypeTree). IsValueOf t nothing) (sym e) tt, s)

  fewer : (n : FlowNode) (live : List ℕ) (run : Run) → Held (behind live n) run → Held live run
  fewer n live run s = state_fewer c outer live (behind live n) run.store run.variables (λ j m. among_behind n live j m) s

  fewer_all : (ns : FlowNodes) (live : List ℕ) (run : Run) → Held (behind_all live ns) run → Held live run
  fewer_all ns live run s = state_fewer c outer live (behind_all live ns) run.store run.variables (λ j m. among_all ns live j m) s

  -- ---- joins

  joined : (to : TypeTree) (n : FlowNode) (v : ValueTree) → IsJoined to n → IsAsKnown (known_of n) v → IsValueOf (type_of n) v → IsValueOf to v
  joined to n v (inl e) known i = absurd (subst (λ (t : TypeTree). IsValueOf t v) e i)
  joined to n v (inr (row, e)) known i = coercion-fits (type_of n) to (known_of n) v known i row e

  -- ---- places

  read_sound : (around : List Opened) (live : List ℕ) (ty : TypeTree) (k : ℕ) (run : Run) → IsLive c live ty k → Held live run →
      Sound around live (ValueGiven live None ty) (read ty (object_of run k) run)
  read_sound around live ty k run l s =
      let d : IsDeclared run.store run.variables ty k = s.declared k ty l.declared l.there in
      subst (λ (o : Option ℕ). Sound around live (ValueGiven live None ty) (read ty o run)) (sym d.named)
      (subst (λ (p : Place). Sound around live (ValueGiven live None ty) (read_from ty p run)) (sym (place_holds run.store run.variables ty k d)) (tt, d.fits, s))

  write_sound : (around : List Opened) (live : List ℕ) (to ty : TypeTree) (k : ℕ) (v : ValueTree) (run : Run) → to ≡ tree.VoidType → IsLive c live ty k → IsValueOf ty v → Held live run →
      Sound around live (ValueGiven live None to) (write ty (object_of run k) v run)
  write_sound around live to ty k v run e l i s =
      let d : IsDeclared run.store run.variables ty k = s.declared k ty l.declared l.there in
      let after : Store = slice_set run.store d.obj (record d.object { value = v }) in
      subst (λ (o : Option ℕ). Sound around live (ValueGiven live None to) (write ty o v run)) (sym d.named)
      (subst (λ (p : Place). Sound around live (ValueGiven live None to) (written_to p ty d.obj v run)) (sym (place_holds run.store run.variables ty k d))
      (subst (λ (o : Option Store). Sound around live (ValueGiven live None to) (stored ty o run)) (sym (saved_is run.store run.variables ty k d v))
      (void_given live to (with_value ty (record run { store = after })) e (state_written c outer live k ty v run.store run.variables l.there i d s))))

  -- ---- scopes

  -- what is declared behind is declared among more
  abbrev pub Among : List ℕ → List ℕ → Type 0
  Among live more = (j : ℕ) → is_among live j ≡ true → is_among more j ≡ true

  pub scoped_sound : {V : Type 0} (around : List Opened) (wide live ks : List ℕ) (P Q : V → Run → Type 0) (r : Evaluated V) → Among live wide → AllNew live ks →
      ((v : V) (b : Run) → P v b → Held live b × (Held live (ended ks b) → Q v (ended ks b))) → Sound around wide P r → Sound around live Q (scoped ks r)
  scoped_sound {V} around wide live ks P Q r among new into h = by_end r.end h
    where
      left : Held wide r.run → Held live (ended ks r.run)
      left s = state_ended c outer live ks r.run new (state_fewer c outer live wide r.run.store r.run.variables among s)

      by_end : (end : End V) → EndFits c outer around wide P end r.run → EndFits c outer around live Q end (ended ks r.run)
      by_end (Gives v) h = let i = into v r.run h in i.1 (state_ended c outer live ks r.run new i.0)
      by_end (Leaves t ty v) h = (h.0, left h.1)
      by_end (Returns ty v) h = (h.0, left h.1)
      by_end (Stops halt) h = h
      by_end Stuck h = h

  ended_new : (live ks : List ℕ) → All (λ k. IsEnded c live k) ks → AllNew live ks
  ended_new live [] all = tt
  ended_new live (k ∷ ks) all =
      ((All-head (λ k. IsEnded c live k) k ks all).own.new, ended_new live ks (All-tail (λ k. IsEnded c live k) k ks all))

  -- ---- operators

  outcome_sound : (around : List Opened) (live : List ℕ) (ty : TypeTree) (vs : List ValueTree) (o : operation.Outcome) (run : Run) → ComesTo ty o → Held live run →
      Sound around live (ValueGiven live None ty) (outcome_of vs o run)
  outcome_sound around live ty vs (operation.Gives v) run i s = (tt, i, s)
  outcome_sound around live ty vs (operation.Panics cause) run i s = tt
  outcome_sound around live ty vs operation.IsWild run i s = absurd i
  outcome_sound around live ty vs (operation.Passes limit) run i s = absurd i

  by_truth_sound : {V : Type 0} (around : List Opened) (live : List ℕ) (Q : V → Run → Type 0) (v : ValueTree) (t f : Run → Evaluated V) (run : Run) → IsTruth v →
      Sound around live Q (t run) → Sound around live Q (f run) → Sound around live Q (by_truth v t f run)
  by_truth_sound around live Q (tree.TruthValue true) t f run i h g = h
  by_truth_sound around live Q (tree.TruthValue false) t f run i h g = g
  by_truth_sound around live Q _ t f run i h g = absurd i

  truth_of : (ty : TypeTree) (v : ValueTree) → ty ≡ tree.BoolType → IsValueOf ty v → IsTruth v
  truth_of ty v e i = subst (λ (t : TypeTree). IsValueOf t v) e i

  decided_sound : (around : List Opened) (live : List ℕ) (ty : TypeTree) (l : Logic) (v : ValueTree) (other : Run → Evaluated ValueTree) (run : Run) → ty ≡ tree.BoolType → IsTruth v →
      Held live run → Sound around live (ValueGiven live None ty) (other run) → Sound around live (ValueGiven live None ty) (decided l v other run)
  decided_sound around live ty And v other run e i s h =
      by_truth_sound around live (ValueGiven live None ty) v other (λ r. gives (tree.TruthValue false) r) run i h (tt, subst (λ (t : TypeTree). IsValueOf t (tree.TruthValue false)) (sym e) tt, s)
  decided_sound around live ty Or v other run e i s h =
      by_truth_sound around live (ValueGiven live None ty) v (λ r. gives (tree.TruthValue true) r) other run i (tt, subst (λ (t : TypeTree). IsValueOf t (tree.TruthValue true)) (sym e) tt, s) h

  -- ---- targets and loops

  target_sound : (around : List Opened) (live : List ℕ) (t : ℕ) (from to : TypeTree) (more : List ℕ) (known : Option ValueTree) (end : End ValueTree) (run : Run) →
      ((v : ValueTree) → IsAsKnown known v → IsValueOf from v → IsValueOf to v) → ((b : Run) → Held more b → Held live b) →
      EndFits c outer (record { target = t; ty = to } ∷ around) live (ValueGiven more known from) end run →
      Sound around live (ValueGiven live None to) (at_target t from to end run)
  target_sound around live t from to more known (Gives v) run into back (is, i, s) = (tt, into v is i, back run s)
  target_sound around live t from to more known (Leaves target ty v) run into back ((at, e, i), s) = by_target (nat_eq t target) e
    where
      by_target : (same : Bool) → (if same then Some to else target_type around target) ≡ Some at → Sound around live (ValueGiven live None to) (at_label same target ty to v run)
      by_target true e = (tt, subst (λ (u : TypeTree). IsValueOf u v) (sym (same_tree to at e)) i, s)
      by_target false e = ((at, e, i), s)
  target_sound around live t from to more known (Returns ty v) run into back h = h
  target_sound around live t from to more known (Stops halt) run into back h = h
  target_sound around live t from to more known Stuck run into back h = h

  turn_sound : {V : Type 0} (around : List Opened) (live : List ℕ) (Q : V → Run → Type 0) (n : ℕ) (run : Run) (go : Run → Evaluated V) → Held live run →
      ((b : Run) → Held live b → Sound around live Q (go b)) → Sound around live Q (turn n run go)
  turn_sound around live Q zero run go s each = tt
  turn_sound around live Q (suc left) run go s each = each (record run { turns = left }) s

  repeated_sound : (around : List Opened) (live : List ℕ) (Q : ValueTree → Run → Type 0) (P : ValueTree → Run → Type 0) (n : ℕ) (body : Run → Evaluated ValueTree) →
      ((v : ValueTree) (b : Run) → P v b → Held live b) → ((b : Run) → Held live b → Sound around live P (body b)) → (run : Run) → Held live run → Sound around live Q (repeated n body run)
  repeated_sound around live Q P zero body held each run s = sound_then around live P Q (body run) _ (each run s) (λ v b h. tt)
  repeated_sound around live Q P (suc left) body held each run s = sound_then around live P Q (body run) _ (each run s) (λ v b h.
      turn_sound around live Q b.turns b _ (held v b h) (λ d i. repeated_sound around live Q P left body held each (with_visit false work_of_turn d) i))

  -- ---- captures

  usize_fits : (n : ℕ) → nat_le n 4294967295 ≡ true → IsValueOf usize (tree.NumberValue (pos n))
  usize_fits n e = record { at_least = omega (arith, ints); at_most = omega (arith, ints, leb-true n 4294967295 e) }

  -- what captures give: the variables that they are, new ones and declared beside those that were
  abbrev CapturesGiven : List ℕ → List ℕ → List ℕ → Run → Type 0
  CapturesGiven live more ks run = AllNew live ks × Held more run

  not_before : (live begun : List ℕ) (k : ℕ) → Among live begun → is_among begun k ≡ false → is_among live k ≡ false
  not_before live begun k among new = by_test (is_among live k) refl
    where
      true_false : true ≡ false → ⊥
      true_false e = cc

      by_test : (t : Bool) → is_among live k ≡ t → t ≡ false
      by_test true e = absurd (true_false (sym (among k e) ∙ new))
      by_test false e = refl

  capture_at_sound : (around : List Opened) (live begun more : List ℕ) (k n : ℕ) (room : Bool) → nat_le n 4294967295 ≡ room → Among live begun → IsNew c begun usize k →
      (later : Run → Evaluated (List ℕ)) → ((r : Run) → Held (k ∷ begun) r → Sound around live (CapturesGiven live more) (later r)) → (run : Run) → Held begun run →
      Sound around live (CapturesGiven live more) (capture_at room k n later run)
  capture_at_sound around live begun more k n false e among own later each run s = tt
  capture_at_sound around live begun more k n true e among own later each run s =
      let v : ValueTree = tree.NumberValue (pos n) in
      let r : Run = with_value usize (declared k usize v false run) in
      sound_then around live (CapturesGiven live more) (CapturesGiven live more) (later r) _
      (each r (state_declared c outer begun k usize v false run.store run.variables own.there (usize_fits n e) s))
      (λ ks b h. ((not_before live begun k among own.new, h.0), h.1))

  captured_sound : (around : List Opened) (live begun : List ℕ) (bounds : List Bounds) (n : ℕ) → Among live begun → CapturesFit c begun (captures_in bounds) → (run : Run) → Held begun run →
      Sound around live (CapturesGiven live (with_captures begun (captures_in bounds))) (captured bounds n run)
  captured_sound around live begun [] n among fit run s = (tt, s)
  captured_sound around live begun (b ∷ bounds) n among fit run s = by_capture b.capture fit.0 fit.1 (λ next into fits r held. captured_sound around live next bounds n into fits r held)
    where
      by_capture : (k : Option ℕ) → CaptureFits c begun k → CapturesFit c (with_capture begun k) (captures_in bounds) →
          ((next : List ℕ) → Among live next → CapturesFit c next (captures_in bounds) → (r : Run) → Held next r →
          Sound around live (CapturesGiven live (with_captures next (captures_in bounds))) (captured bounds n r)) →
          Sound around live (CapturesGiven live (with_captures (with_capture begun k) (captures_in bounds))) (capture_of k (b.start + n) (λ next. captured bounds n next) run)
      by_capture None fits more later = later begun among more run s
      by_capture (Some k) fits more later =
          capture_at_sound around live begun (with_captures (k ∷ begun) (captures_in bounds)) k (b.start + n) (nat_le (b.start + n) 4294967295) refl among fits
          (λ next. captured bounds n next) (λ r held. later (k ∷ begun) (λ j m. among_later begun k j (among j m)) more r held) run s

  -- what was declared in front of captures is so behind them
  among_captures : (live begun : List ℕ) (ks : List (Option ℕ)) → Among live begun → Among live (with_captures begun ks)
  among_captures live begun [] among = among
  among_captures live begun (None ∷ ks) among = among_captures live begun ks among
  among_captures live begun (Some k ∷ ks) among = among_captures live (k ∷ begun) ks (λ j m. among_later begun k j (among j m))

  -- a `for` with a body that is sound where its captures are declared
  counted_sound : (around : List Opened) (live : List ℕ) (ty : TypeTree) (P : ValueTree → Run → Type 0) (due : ℕ) (bounds : List Bounds) (n : ℕ) (body : Run → Evaluated ValueTree) →
      ty ≡ tree.VoidType → CapturesFit c live (captures_in bounds) → ((v : ValueTree) (b : Run) → P v b → Held live b) →
      ((b : Run) → Held (with_captures live (captures_in bounds)) b → Sound around (with_captures live (captures_in bounds)) P (body b)) → (run : Run) → Held live run →
      Sound around live (ValueGiven live None ty) (counted due bounds n body run)
  counted_sound around live ty P zero bounds n body e fit held each run s = void_given live ty run e s
  counted_sound around live ty P (suc due) bounds n body e fit held each run s =
      let wide : List ℕ = with_captures live (captures_in bounds) in
      let Q : ValueTree → Run → Type 0 = λ v b. Held live b in
      sound_then around live Q (ValueGiven live None ty) (and_then (captured bounds n run) (λ ks after. scoped ks (body after))) _
      (sound_then around live (CapturesGiven live wide) Q (captured bounds n run) _ (captured_sound around live live bounds n (λ j m. m) fit run s)
      (λ ks b h. scoped_sound around wide live ks P Q (body b) (among_captures live live (captures_in bounds) (λ j m. m)) h.0 (λ v d i. (held v d i, λ t. t)) (each b h.1)))
      (λ v b h. turn_sound around live (ValueGiven live None ty) b.turns b _ h
      (λ d i. counted_sound around live ty P due bounds (n + 1) body e fit held each (with_visit false work_of_turn d) i))

  by_turns_sound : (around : List Opened) (live : List ℕ) (ty : TypeTree) (P : ValueTree → Run → Type 0) (ts : Turns) (bounds : List Bounds) (body : Run → Evaluated ValueTree) →
      (ts ≡ NoEnd → ⊥) → ty ≡ tree.VoidType → CapturesFit c live (captures_in bounds) → ((v : ValueTree) (b : Run) → P v b → Held live b) →
      ((b : Run) → Held (with_captures live (captures_in bounds)) b → Sound around (with_captures live (captures_in bounds)) P (body b)) → (run : Run) → Held live run →
      Sound around live (ValueGiven live None ty) (by_turns ts bounds body run)
  by_turns_sound around live ty P (Due n) bounds body some e fit held each run s = counted_sound around live ty P n bounds 0 body e fit held each run s
  by_turns_sound around live ty P (Fails cause) bounds body some e fit held each run s = tt
  by_turns_sound around live ty P NoEnd bounds body some e fit held each run s = absurd (some refl)

  over_sound : (around : List Opened) (live : List ℕ) (ty : TypeTree) (P : ValueTree → Run → Type 0) (ranges : List Range) (types : List TypeTree) (vs : List ValueTree)
      (body : Run → Evaluated ValueTree) → AreRanges c live ranges types → AreValuesOf types vs → ty ≡ tree.VoidType → ((v : ValueTree) (b : Run) → P v b → Held live b) →
      ((b : Run) → Held (with_captures live (captures_of ranges)) b → Sound around (with_captures live (captures_of ranges)) P (body b)) → (run : Run) → Held live run →
      Sound around live (ValueGiven live None ty) (over_ranges vs (bounds_of ranges vs) body run)
  over_sound around live ty P ranges types vs body are k e held each run s =
      let b : AreBounds ranges vs = ranges_bound ranges types vs are.as_many are.numbers k in
      subst (λ (o : Option (List Bounds)). Sound around live (ValueGiven live None ty) (over_ranges vs o body run)) (sym b.is)
      (by_turns_sound around live ty P (turns_due b.bounds) b.bounds body (turns_are_due b.bounds (b.ends ∙ are.ends)) e
      (subst (λ (ks : List (Option ℕ)). CapturesFit c live ks) (sym b.captures) are.captures) held
      (subst (λ (ks : List (Option ℕ)). (d : Run) → Held (with_captures live ks) d → Sound around (with_captures live ks) P (body d)) (sym b.captures) each) run s)

  -- ---- calls

  replied_sound : (around : List Opened) (live : List ℕ) (result ty : TypeTree) (replies : List ℕ) (run : Run) → IsValueOf ty nothing ⊎ (result ≡ tree.VoidType → ⊥) →
      ((reply : ℕ) → IsValueOf ty (value_from result reply)) → Held live run → Sound around live (ValueGiven live None ty) (replied result replies run)
  replied_sound around live tree.VoidType ty replies run (inl i) said s = (tt, i, s)
  replied_sound around live tree.VoidType ty replies run (inr other) said s = absurd (other refl)
  replied_sound around live _ ty [] run void said s = tt
  replied_sound around live _ ty (reply ∷ replies) run void said s = (tt, said reply, s)

  void_or_not : (result ty : TypeTree) → ty ≡ result → IsValueOf ty nothing ⊎ (result ≡ tree.VoidType → ⊥)
  void_or_not tree.VoidType ty e = inl (subst (λ (t : TypeTree). IsValueOf t nothing) (sym e) tt)
  void_or_not _ ty e = inr (λ h. cc)

  host_sound : (around : List Opened) (live : List ℕ) (i : Import) (ty : TypeTree) (types : List TypeTree) (vs : List ValueTree) (run : Run) → IsHostImport i → ty ≡ i.result →
      types ≡ i.params → AreValuesOf types vs → Held live run → Sound around live (ValueGiven live None ty) (host_called i vs (scalars_of vs) run)
  host_sound around live i ty types vs run host e same k s =
      let there = scalars_there i.params vs host.shown (subst (λ (ts : List TypeTree). AreValuesOf ts vs) same k) in
      subst (λ (o : Option (List Scalar)). Sound around live (ValueGiven live None ty) (host_called i vs o run)) (sym there.1)
      (replied_sound around live i.result ty run.replies (record run { events = run.events ++ record { name = i.name; args = there.0; shown = [] } ∷ [] }) (void_or_not i.result ty e)
      (λ reply. subst (λ (t : TypeTree). IsValueOf t (value_from i.result reply)) (sym e) (reply_fits i.result reply host.gives)) s)

  call_sound : (around : List Opened) (live : List ℕ) (ty : TypeTree) (before : Run) (r : Evaluated ValueTree) → Held live before → CallFits ty before r.end r.run →
      Sound around live (ValueGiven live None ty) r
  call_sound around live ty before r s h = by_end r.end h
    where
      by_end : (end : End ValueTree) → CallFits ty before end r.run → EndFits c outer around live (ValueGiven live None ty) end r.run
      by_end (Gives v) h = (tt, h.0, state_called c outer live before r.run h.1 s)
      by_end (Leaves t from v) h = absurd h
      by_end (Returns from v) h = absurd h
      by_end (Stops halt) h = h
      by_end Stuck h = h

  -- ---- nodes

  -- where fewer variables are asked for
  sound_fewer : {V : Type 0} (around : List Opened) (live wide : List ℕ) (Q : V → Run → Type 0) (r : Evaluated V) → Among live wide → Sound around wide Q r → Sound around live Q r
  sound_fewer {V} around live wide Q r among h = by_end r.end h
    where
      by_end : (end : End V) → EndFits c outer around wide Q end r.run → EndFits c outer around live Q end r.run
      by_end (Gives v) h = h
      by_end (Leaves t ty v) h = (h.0, state_fewer c outer live wide r.run.store r.run.variables among h.1)
      by_end (Returns ty v) h = (h.0, state_fewer c outer live wide r.run.store r.run.variables among h.1)
      by_end (Stops halt) h = h
      by_end Stuck h = h

  or_never : (from to ty : TypeTree) (v : ValueTree) → (from ≡ to) ⊎ (from ≡ tree.NoReturnType) → ty ≡ to → IsValueOf from v → IsValueOf ty v
  or_never from to ty v (inl e) same i = subst (λ (t : TypeTree). IsValueOf t v) (e ∙ sym same) i
  or_never from to ty v (inr e) same i = absurd (subst (λ (t : TypeTree). IsValueOf t v) e i)

  module _ (calls : Calls) (called : CallsFit c.functions calls) where
    mutual
      pub node_sound : (around : List Opened) (live : List ℕ) (n : FlowNode) → Fits c around live n → (run : Run) → Held live run →
          Sound around live (ValueGiven (behind live n) (known_of n) (type_of n)) (evaluated calls n run)
      node_sound around live (node counts ty form) fit run s = form_sound around live ty form fit.0 fit.1 (with_visit counts (work_of form) run) s

      pub form_sound : (around : List Opened) (live : List ℕ) (ty : TypeTree) (form : Form) → TypeFits form ty → FormFits c around live ty form → (run : Run) → Held live run →
          Sound around live (ValueGiven (behind_form live form) (value_known form) ty) (meant calls ty form run)
      form_sound around live ty (Constant v) wide fit run s = (refl, fit, s)
      form_sound around live ty (Read (Variable k)) wide fit run s = read_sound around live ty k run fit s
      form_sound around live ty (Write (Variable k) n) wide (e, l, f) run s =
          sound_then around live (ValueGiven (behind live n) (known_of n) (type_of n)) (ValueGiven live None ty) (evaluated calls n run) _ (node_sound around live n f run s)
          (λ v b h. write_sound around live ty (type_of n) k v b e l h.1 (fewer n live b h.2))
      form_sound around live ty (Declare k writable n) wide (e, own, f) run s =
          sound_then around live (ValueGiven (behind live n) (known_of n) (type_of n)) (ValueGiven (k ∷ live) None ty) (evaluated calls n run) _ (node_sound around live n f run s)
          (λ v b h. void_given (k ∷ live) ty (with_value (type_of n) (declared k (type_of n) v writable b)) e
          (state_declared c outer live k (type_of n) v writable b.store b.variables own.there h.1 (fewer n live b h.2)))
      form_sound around live ty (Scope ks n) wide (e, all, f) run s =
          scoped_sound around live live ks (ValueGiven (behind live n) (known_of n) (type_of n)) (ValueGiven live None ty) (evaluated calls n run) (λ j m. m) (ended_new live ks all)
          (λ v b h. (fewer n live b h.2, λ t. (tt, subst (λ (u : TypeTree). IsValueOf u v) (sym e) h.1, t))) (node_sound around live n f run s)
      form_sound around live ty (Operate op kids) wide (fits, f) run s =
          sound_then around live (ValuesGiven (behind_all live kids) (types_of kids)) (ValueGiven live None ty) (all_evaluated calls kids run) _ (kids_sound around live kids f run s)
          (λ vs b h. outcome_sound around live ty vs (applied op (types_of kids) ty vs) b (operator_comes op (types_of kids) ty fits wide vs h.0) (fewer_all kids live b h.1))
      form_sound around live ty (Become n) wide ((row, e), f) run s =
          sound_then around live (ValueGiven (behind live n) (known_of n) (type_of n)) (ValueGiven live None ty) (evaluated calls n run) _ (node_sound around live n f run s)
          (λ v b h. (tt, coercion-fits (type_of n) ty (known_of n) v h.0 h.1 row e, fewer n live b h.2))
      form_sound around live ty (Decide logic a b) wide (e, ea, eb, fa, fb) run s =
          sound_then around live (ValueGiven (behind live a) (known_of a) (type_of a)) (ValueGiven live None ty) (evaluated calls a run) _ (node_sound around live a fa run s)
          (λ v d h. decided_sound around live ty logic v (λ next. evaluated calls b next) d e (truth_of (type_of a) v ea h.1) (fewer a live d h.2)
          (sound_as around live (ValueGiven (behind live b) (known_of b) (type_of b)) (ValueGiven live None ty) (evaluated calls b d)
          (λ w g i. (tt, or_never (type_of b) tree.BoolType ty w eb e i.1, fewer b live g i.2)) (node_sound around live b fb d (fewer a live d h.2))))
      form_sound around live ty (Choose d a b) wide (e, ja, jb, fd, fa, fb) run s =
          sound_then around live (ValueGiven (behind live d) (known_of d) (type_of d)) (ValueGiven live None ty) (evaluated calls d run) _ (node_sound around live d fd run s)
          (λ v g h. by_truth_sound around live (ValueGiven live None ty) v
          (λ next. and_then (evaluated calls a next) (λ given last. arrives (type_of a) ty given last))
          (λ next. and_then (evaluated calls b next) (λ given last. arrives (type_of b) ty given last)) g (truth_of (type_of d) v e h.1)
          (sound_then around live (ValueGiven (behind live a) (known_of a) (type_of a)) (ValueGiven live None ty) (evaluated calls a g) _ (node_sound around live a fa g (fewer d live g h.2))
          (λ w last i. (tt, joined ty a w ja i.0 i.1, fewer a live last i.2)))
          (sound_then around live (ValueGiven (behind live b) (known_of b) (type_of b)) (ValueGiven live None ty) (evaluated calls b g) _ (node_sound around live b fb g (fewer d live g h.2))
          (λ w last i. (tt, joined ty b w jb i.0 i.1, fewer b live last i.2))))
      form_sound around live ty (InOrder kids) wide (ends, all, f) run s =
          sound_then around live (ValuesGiven (behind_all live kids) (types_of kids)) (ValueGiven (behind_all live kids) None ty) (all_evaluated calls kids run) _
          (kids_sound around live kids f run s) (λ vs b h. (tt, ends_as ty (types_of kids) vs ends h.0, h.1))
      form_sound around live ty (Target t n) wide (none, j, f) run s =
          let r : Evaluated ValueTree = evaluated calls n run in
          target_sound around live t (type_of n) ty (behind live n) (known_of n) r.end r.run (λ v is i. joined ty n v j is i) (λ b h. fewer n live b h)
          (node_sound (record { target = t; ty = ty } ∷ around) live n f run s)
      form_sound around live ty (Leave t n) wide (e, (to, at, j), f) run s =
          sound_then around live (ValueGiven (behind live n) (known_of n) (type_of n)) (ValueGiven live None ty) (evaluated calls n run) _ (node_sound around live n f run s)
          (λ v b h. ((to, at, joined to n v j h.0 h.1), fewer n live b h.2))
      form_sound around live ty (Repeat n) wide (e, st, f) run s =
          repeated_sound around live (ValueGiven live None ty) (ValueGiven (behind live n) (known_of n) (type_of n)) run.turns (λ next. evaluated calls n next)
          (λ v b h. fewer n live b h.2) (λ b i. node_sound around live n f b i) run s
      form_sound around live ty (Count ranges bounds n) wide (e, are, st, fb, fn) run s =
          let more : List ℕ = with_captures live (captures_of ranges) in
          sound_then around live (ValuesGiven (behind_all live bounds) (types_of bounds)) (ValueGiven live None ty) (all_evaluated calls bounds run) _ (kids_sound around live bounds fb run s)
          (λ vs b h. over_sound around live ty (ValueGiven (behind more n) (known_of n) (type_of n)) ranges (types_of bounds) vs (λ next. evaluated calls n next) are h.0 e
          (λ v d i. state_fewer c outer live more d.store d.variables (among_captures live live (captures_of ranges) (λ j m. m)) (fewer n more d i.2))
          (λ d i. node_sound around more n fn d i) b (fewer_all bounds live b h.1))
      form_sound around live ty (Call f args) wide (e, fa) run s =
          sound_then around live (ValuesGiven (behind_all live args) (types_of args)) (ValueGiven live None ty) (all_evaluated calls args run) _ (kids_sound around live args fa run s)
          (λ vs b h. call_sound around live ty b (calls f vs b) (fewer_all args live b h.1) (called f (record { params = types_of args; result = ty }) e vs h.0 b))
      form_sound around live ty (CallHost i args) wide (host, e, same, fa) run s =
          sound_then around live (ValuesGiven (behind_all live args) (types_of args)) (ValueGiven live None ty) (all_evaluated calls args run) _ (kids_sound around live args fa run s)
          (λ vs b h. host_sound around live i ty (types_of args) vs b host e same h.0 (fewer_all args live b h.1))
      form_sound around live ty (Return n) wide (e, j, f) run s =
          sound_then around live (ValueGiven (behind live n) (known_of n) (type_of n)) (ValueGiven live None ty) (evaluated calls n run) _ (node_sound around live n f run s)
          (λ v b h. (joined c.result n v j h.0 h.1, fewer n live b h.2))
      form_sound around live ty (Stop cause) wide fit run s = tt

      pub kids_sound : (around : List Opened) (live : List ℕ) (ns : FlowNodes) → AllFit c around live ns → (run : Run) → Held live run →
          Sound around live (ValuesGiven (behind_all live ns) (types_of ns)) (all_evaluated calls ns run)
      kids_sound around live no_nodes fit run s = (tt, s)
      kids_sound around live (node_and n ns) (f, fs) run s =
          sound_then around live (ValueGiven (behind live n) (known_of n) (type_of n)) (ValuesGiven (behind_all (behind live n) ns) (type_of n ∷ types_of ns)) (evaluated calls n run) _
          (node_sound around live n f run s)
          (λ v b h. sound_fewer around live (behind live n) (ValuesGiven (behind_all (behind live n) ns) (type_of n ∷ types_of ns))
          (and_then (all_evaluated calls ns b) (λ values last. gives (v ∷ values) last)) (λ j m. among_behind n live j m)
          (sound_then around (behind live n) (ValuesGiven (behind_all (behind live n) ns) (types_of ns)) (ValuesGiven (behind_all (behind live n) ns) (type_of n ∷ types_of ns))
          (all_evaluated calls ns b) _ (kids_sound around (behind live n) ns fs b h.2) (λ vs d i. ((h.1, i.0), i.1))))
