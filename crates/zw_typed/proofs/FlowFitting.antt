-- Calls of functions that fit, sessions of them, and well-formed programs: nothing is stuck or wild.
use Rattle.std.proofs.Common.{◌≡◌, refl, ℕ, zero, suc, ◌+◌, Bool, true, false, List, [], ◌∷◌, ◌++◌, Option, Some, None, inl, inr, ◌⊎◌, ap, sym, ◌∙◌, subst, arith}
use Rattle.std.specs.Prelude.{◌-◌, slice_get, length, map, replicate, if◌then◌else◌, option_and_then, All}
use Rattle.std.specs.Str.{bytes_eq}
use Rattle.std.specs.Option.{option_map}
use Rattle.std.proofs.lemmas.List.{length-append}
use Rattle.std.proofs.lemmas.List.Elements.{All-head, All-tail}
use Rattle.std.proofs.lemmas.Option.{slice_get-map}
use Rattle.zw_num.specs.declared.int_ty.IntTy.TheVariants.{Sized}
use Rattle.zw_num.proofs.WrappedLemmas.{in_from_test}
use Rattle.zw_session.specs.Sessions.{Scalar, Number, Truth, HostEvent, CallEnd, Returned, Halted, Session, session, session_after}
use Rattle.zw_types.specs.TypeTrees as tree
use Rattle.zw_types.specs.TypeTrees.{TypeTree, ValueTree}
use Rattle.zw_types.proofs.ListLemmas.{slice_get_append_left}
use Rattle.zw_values.specs.ObjectStore.{Store}
use Rattle.zw_typed.specs.declared.program.Export.{Export}
use Rattle.zw_typed.specs.HostTypes.{is_result_type}
use Rattle.zw_typed.specs.NodeMeanings.{scalar_of}
use Rattle.zw_typed.specs.Exports.{is_of, are_of, value_of, values_of}
use Rattle.zw_typed.specs.ValueTypes.{IsValueOf, AreValuesOf}
use Rattle.zw_typed.specs.FlowNodes.{Function, type_of}
use Rattle.zw_typed.specs.FlowCounts.{work_of_call}
use Rattle.zw_typed.specs.FlowRuns.{Run, End, Gives, Leaves, Returns, Stops, Stuck, Evaluated, goes_on, and_then, with_visit, with_value, turn, declared, ended, scoped}
use Rattle.zw_typed.specs.FlowMeanings.{Calls, evaluated, bound, returned, back, body_done, entered, found_called, calls_within}
use Rattle.zw_typed.specs.FlowMachines.{Named, Functions, number_named, function_numbered, exported, Kept, run_from, call_of, result_end, call_end, result_of, args_fit, functions_machine}
use Rattle.zw_typed.specs.FlowTypes.{Signature, Context, target_type, is_among, behind, known_of, signature, context_in, with_parameters, FunctionFits}
use Rattle.zw_typed.specs.FlowNeeds.{IsFunctionPaid}
use Rattle.zw_typed.specs.FlowPrograms.{NumberedFunction, FlowProgram, and_more, all_known, function_read, named, program_read, IsFunction, IsShown, IsExport, IsWellFormed}
use Rattle.zw_typed.specs.FlowStates.{HaltFits, EndFits, CallFits, CallsFit}
use Rattle.zw_typed.specs.FlowLaws.{AreFunctionsPaid, AreFunctionsFit, NodesFit, SessionFits, NeverStuck}
use Rattle.zw_typed.proofs.StateLemmas.{AllNew, state_declared, state_begun}
use Rattle.zw_typed.proofs.JoinLemmas.{result_there}
use Rattle.zw_typed.proofs.FlowSoundness.{Held, ValueGiven, sound_as, scoped_sound, node_sound}

-- ---- calls

-- a call is done: it gives, or it halts
abbrev Done : {V : Type 0} → (V → Run → Type 0) → End V → Run → Type 0
Done Given (Gives v) run = Given v run
Done Given (Leaves target ty v) run = ⊥
Done Given (Returns ty v) run = ⊥
Done Given (Stops halt) run = HaltFits halt
Done Given Stuck run = ⊥

done_then : {V W : Type 0} (P : V → Run → Type 0) (Q : W → Run → Type 0) (r : Evaluated V) (go : V → Run → Evaluated W) → Done P r.end r.run →
    ((v : V) (b : Run) → P v b → Done Q (go v b).end (go v b).run) → Done Q (and_then r go).end (and_then r go).run
done_then {V} P Q r go h each = by_end r.end h
  where
    by_end : (end : End V) → Done P end r.run → Done Q (goes_on end r.run go).end (goes_on end r.run go).run
    by_end (Gives v) h = each v r.run h
    by_end (Leaves t ty v) h = absurd h
    by_end (Returns ty v) h = absurd h
    by_end (Stops halt) h = h
    by_end Stuck h = absurd h

next_number : (k i : ℕ) → (k + 1) + i ≡ k + suc i
next_number k i = omega arith

first_number : (k : ℕ) → k ≡ k + 0
first_number k = omega arith

-- parameters are bound to values of their types
bound_done : (c : Context) (outer : Store) (live : List ℕ) (k : ℕ) (types : List TypeTree) (vs : List ValueTree) (run : Run) →
    ((i : ℕ) (t : TypeTree) → slice_get types i ≡ Some t → slice_get c.variables (k + i) ≡ Some t) → AreValuesOf types vs → Held c outer live run →
    Done (λ ks b. Held c outer (with_parameters live k types) b) (bound k types vs run).end (bound k types vs run).run
bound_done c outer live k [] [] run at i s = s
bound_done c outer live k [] (v ∷ vs) run at i s = absurd i
bound_done c outer live k (ty ∷ types) [] run at i s = absurd i
bound_done c outer live k (ty ∷ types) (v ∷ vs) run at (i, is) s =
    let r : Run = with_value ty (declared k ty v false run) in
    done_then (λ ks b. Held c outer (with_parameters (k ∷ live) (k + 1) types) b) (λ ks b. Held c outer (with_parameters (k ∷ live) (k + 1) types) b) (bound (k + 1) types vs r) _
    (bound_done c outer (k ∷ live) (k + 1) types vs r (λ j t e. subst (λ (n : ℕ). slice_get c.variables n ≡ Some t) (sym (next_number k j)) (at (suc j) t e)) is
    (state_declared c outer live k ty v false run.store run.variables (subst (λ (n : ℕ). slice_get c.variables n ≡ Some ty) (sym (first_number k)) (at 0 ty refl)) i s))
    (λ ks b h. h)

all_new : (ks : List ℕ) → AllNew [] ks
all_new [] = tt
all_new (k ∷ ks) = (refl, all_new ks)

none_among : (k : ℕ) → is_among [] k ≡ true → ⊥
none_among k e = cc

no_target : (t : ℕ) (to : TypeTree) → target_type [] t ≡ Some to → ⊥
no_target t to e = cc

-- what a call gives: a value of the function's result
abbrev ResultGiven : Context → Store → TypeTree → ValueTree → Run → Type 0
ResultGiven c outer result v run = IsValueOf result v × Held c outer [] run

returned_done : (c : Context) (outer : Store) (body result : TypeTree) (end : End ValueTree) (run : Run) → c.result ≡ result → (body ≡ result) ⊎ (body ≡ tree.NoReturnType) →
    EndFits c outer [] [] (λ v b. IsValueOf body v × Held c outer [] b) end run → Done (ResultGiven c outer result) (returned result end run).end (returned result end run).run
returned_done c outer body result (Gives v) run e (inl same) (i, s) = (subst (λ (t : TypeTree). IsValueOf t v) same i, s)
returned_done c outer body result (Gives v) run e (inr never) (i, s) = absurd (subst (λ (t : TypeTree). IsValueOf t v) never i)
returned_done c outer body result (Leaves t ty v) run e ends ((to, at, i), s) = absurd (no_target t to at)
returned_done c outer body result (Returns ty v) run e ends (i, s) = (subst (λ (t : TypeTree). IsValueOf t v) e i, s)
returned_done c outer body result (Stops halt) run e ends h = h
returned_done c outer body result Stuck run e ends h = absurd h

body_done_fits : (functions : List Function) (f : Function) → FunctionFits functions f → (calls : Calls) → CallsFit (map signature functions) calls → (outer : Store) (ks : List ℕ) (b : Run) →
    Held (context_in functions f) outer (with_parameters [] 0 f.params) b →
    let r : Evaluated ValueTree = body_done f.result (scoped ks (evaluated calls f.body b)) in
    Done (ResultGiven (context_in functions f) outer f.result) r.end r.run
body_done_fits functions f fit calls called outer ks b s =
    let c : Context = context_in functions f in
    let live : List ℕ = with_parameters [] 0 f.params in
    let r : Evaluated ValueTree = evaluated calls f.body b in
    returned_done c outer (type_of f.body) f.result r.end (ended ks r.run) refl fit.ends
    (scoped_sound c outer [] live [] ks (ValueGiven c outer (behind live f.body) (known_of f.body) (type_of f.body)) (λ v d. IsValueOf (type_of f.body) v × Held c outer [] d) r
    (λ j m. absurd (none_among j m)) (all_new ks) (λ v d h. (none_declared c outer (behind live f.body) d h.2, λ t. (h.1, t)))
    (node_sound c outer calls called [] live f.body fit.body b s))
  where
    none_declared : (c : Context) (outer : Store) (live : List ℕ) (d : Run) → Held c outer live d → Held c outer [] d
    none_declared c outer live d s = record {
      room = s.room;
      own = s.own;
      apart = s.apart;
      declared = λ k ty m e. absurd (none_among k m);
      grown = s.grown;
      outside = s.outside;
    }

back_fits : (c : Context) (result : TypeTree) (run : Run) (r : Evaluated ValueTree) → Done (ResultGiven c run.store result) r.end r.run →
    CallFits result run (back run.variables r).end (back run.variables r).run
back_fits c result run r h = by_end r.end h
  where
    by_end : (end : End ValueTree) → Done (ResultGiven c run.store result) end r.run → CallFits result run end (record r.run { variables = run.variables })
    by_end (Gives v) h = (h.0, record { variables = refl; grown = h.1.grown; outside = h.1.outside })
    by_end (Leaves t ty v) h = absurd h
    by_end (Returns ty v) h = absurd h
    by_end (Stops halt) h = h
    by_end Stuck h = absurd h

zero_number : (i : ℕ) → i ≡ 0 + i
zero_number i = omega arith

entered_fits : (functions : List Function) (f : Function) → FunctionFits functions f → (calls : Calls) → CallsFit (map signature functions) calls → (args : List ValueTree) →
    AreValuesOf f.params args → (run : Run) → CallFits f.result run (entered calls f args run).end (entered calls f args run).run
entered_fits functions f fit calls called args k run =
    let c : Context = context_in functions f in
    let own : Run = record (with_visit true work_of_call run) { variables = replicate (length f.params + length f.vars) None } in
    let whole : Evaluated ValueTree = and_then (bound 0 f.params args own) (λ ks after. body_done f.result (scoped ks (evaluated calls f.body after))) in
    back_fits c f.result run whole
    (done_then (λ ks b. Held c run.store (with_parameters [] 0 f.params) b) (ResultGiven c run.store f.result) (bound 0 f.params args own) _
    (bound_done c run.store [] 0 f.params args own
    (λ i t e. subst (λ (n : ℕ). slice_get (f.params ++ f.vars) n ≡ Some t) (zero_number i) (slice_get_append_left f.params f.vars i t e)) k
    (state_begun c run.store (length f.params + length f.vars) (sym (length-append f.params f.vars))))
    (λ ks b s. body_done_fits functions f fit calls called run.store ks b s))

-- a call takes a turn
turned_fits : (result : TypeTree) (n : ℕ) (run : Run) (go : Run → Evaluated ValueTree) → ((b : Run) → CallFits result b (go b).end (go b).run) →
    CallFits result run (turn n run go).end (turn n run go).run
turned_fits result zero run go each = tt
turned_fits result (suc left) run go each = by_end (go (record run { turns = left })).end (each (record run { turns = left }))
  where
    by_end : (end : End ValueTree) → CallFits result (record run { turns = left }) end (go (record run { turns = left })).run → CallFits result run end (go (record run { turns = left })).run
    by_end (Gives v) h = (h.0, record { variables = h.1.variables; grown = h.1.grown; outside = h.1.outside })
    by_end (Leaves t ty v) h = h
    by_end (Returns ty v) h = h
    by_end (Stops halt) h = h
    by_end Stuck h = h

same_signature : (s t : Signature) → Some s ≡ Some t → s ≡ t
same_signature s t e = cc

found_fits : (functions : List Function) (calls : Calls) → CallsFit (map signature functions) calls → (o : Option Function) → ((g : Function) → o ≡ Some g → FunctionFits functions g) →
    (s : Signature) → option_map signature o ≡ Some s → (args : List ValueTree) → AreValuesOf s.params args → (run : Run) →
    CallFits s.result run (found_called calls o args run).end (found_called calls o args run).run
found_fits functions calls called None fit s e args k run = cc
found_fits functions calls called (Some g) fit s e args k run =
    let is : signature g ≡ s = same_signature (signature g) s e in
    subst (λ (t : Signature). CallFits t.result run (found_called calls (Some g) args run).end (found_called calls (Some g) args run).run) is
    (turned_fits g.result run.turns run (λ next. entered calls g args next)
    (λ b. entered_fits functions g (fit g refl) calls called args (subst (λ (t : Signature). AreValuesOf t.params args) (sym is) k) b))

pub calls_fit : (functions : List Function) → AreFunctionsFit functions → (room : ℕ) → CallsFit (map signature functions) (calls_within functions room)
calls_fit functions fit zero f s e args k run = tt
calls_fit functions fit (suc room) f s e args k run =
    found_fits functions (calls_within functions room) (λ g t h more i b. calls_fit functions fit room g t h more i b) (slice_get functions f) (λ g h. fit f g h) s
    (sym (slice_get-map signature functions f) ∙ e) args k run

pub nodes_fit : (functions : List Function) → AreFunctionsFit functions → NodesFit functions
nodes_fit functions fit = record {
  node = λ f room outer around live n fits run s.
      let c : Context = context_in functions f in
      sound_as c outer around live (ValueGiven c outer (behind live n) (known_of n) (type_of n)) (λ v b. IsValueOf (type_of n) v × Held c outer (behind live n) b)
      (evaluated (calls_within functions room) n run) (λ v b h. (h.1, h.2)) (node_sound c outer (calls_within functions room) (calls_fit functions fit room) around live n fits run s);
  called = λ room. calls_fit functions fit room;
}

-- ---- sessions

argument_fits : (ty : TypeTree) (s : Scalar) → is_of ty s ≡ true → IsValueOf ty (value_of s)
argument_fits (tree.IntType signed bits size) (Number z) e = in_from_test (Sized signed bits) z e
argument_fits (tree.IntType signed bits size) (Truth b) e = cc
argument_fits tree.BoolType (Truth b) e = tt
argument_fits tree.BoolType (Number z) e = cc
argument_fits _ s e = cc

arguments_fit : (types : List TypeTree) (args : List Scalar) → are_of types args ≡ true → AreValuesOf types (values_of args)
arguments_fit [] [] e = tt
arguments_fit [] (s ∷ args) e = cc
arguments_fit (ty ∷ types) [] e = cc
arguments_fit (ty ∷ types) (s ∷ args) e = by_first (is_of ty s) refl e (λ h. arguments_fit types args h)
  where
    by_first : (t : Bool) → is_of ty s ≡ t → (if t then are_of types args else false) ≡ true → (are_of types args ≡ true → AreValuesOf types (values_of args)) →
        AreValuesOf (ty ∷ types) (values_of (s ∷ args))
    by_first true is e later = (argument_fits ty s is, later e)
    by_first false is e later = cc

-- what the host sees of a call that fits: no trap, and nothing wild
abbrev EndShown : CallEnd Kept → Type 0
EndShown (Returned value kept replies left) = Unit {0}
EndShown (Halted halt) = HaltFits halt

result_shown : (ty : TypeTree) (v : ValueTree) (run : Run) → is_result_type ty ≡ true → IsValueOf ty v → EndShown (result_end ty (scalar_of v) run)
result_shown ty v run h i = by_result (result_there ty v h i)
  where
    of_scalar : (t : TypeTree) (s : Scalar) → EndShown (result_end t (Some s) run)
    of_scalar tree.VoidType s = tt
    of_scalar _ s = tt

    by_result : (ty ≡ tree.VoidType) ⊎ ((s : Scalar) × (scalar_of v ≡ Some s)) → EndShown (result_end ty (scalar_of v) run)
    by_result (inl e) = subst (λ (t : TypeTree). EndShown (result_end t (scalar_of v) run)) (sym e) tt
    by_result (inr (s, e)) = subst (λ (o : Option Scalar). EndShown (result_end ty o run)) (sym e) (of_scalar ty s)

end_shown : (ty : TypeTree) (before : Run) (end : End ValueTree) (run : Run) → is_result_type ty ≡ true → CallFits ty before end run → EndShown (call_end ty end run)
end_shown ty before (Gives v) run h fit = result_shown ty v run h fit.0
end_shown ty before (Leaves t from v) run h fit = absurd fit
end_shown ty before (Returns from v) run h fit = absurd fit
end_shown ty before (Stops halt) run h fit = fit
end_shown ty before Stuck run h fit = absurd fit

-- the result of an exported function is one that the host sees
abbrev AreShown : Functions → Type 0
AreShown p = (name : List ℕ) (f : Function) → exported p name ≡ Some f → is_result_type f.result ≡ true

numbered_fits : (functions : List Function) → AreFunctionsFit functions → (o : Option ℕ) (f : Function) → function_numbered functions o ≡ Some f → FunctionFits functions f
numbered_fits functions fit None f e = cc
numbered_fits functions fit (Some k) f e = fit k f e

call_shown : (depth : ℕ) (p : Functions) → AreFunctionsFit p.functions → (o : Option Function) → ((f : Function) → o ≡ Some f → FunctionFits p.functions f) →
    ((f : Function) → o ≡ Some f → is_result_type f.result ≡ true) → (args : List Scalar) → args_fit o args ≡ true → (kept : Kept) (replies : List ℕ) (turns : ℕ) →
    let r : Evaluated ValueTree = call_of depth p kept o args replies turns in
    EndShown (call_end (result_of o) r.end r.run)
call_shown depth p fit None own shown args e kept replies turns = cc
call_shown depth p fit (Some f) own shown args e kept replies turns =
    let calls : Calls = calls_within p.functions (depth - 1) in
    let run : Run = run_from kept replies turns in
    let r : Evaluated ValueTree = entered calls f (values_of args) run in
    end_shown f.result run r.end r.run (shown f refl)
    (entered_fits p.functions f (own f refl) calls (calls_fit p.functions fit (depth - 1)) (values_of args) (arguments_fit f.params args e) run)

after_shown : (events : List HostEvent) (end : CallEnd Kept) (go : Kept → List ℕ → ℕ → Session) → EndShown end → ((kept : Kept) (replies : List ℕ) (left : ℕ) → SessionFits (go kept replies left).end) →
    SessionFits (session_after events end go).end
after_shown events (Returned value kept replies left) go h each = each kept replies left
after_shown events (Halted halt) go h each = h

pub sessions_fit : (p : Functions) → AreFunctionsFit p.functions → AreShown p → NeverStuck p
sessions_fit p fit shown depth [] fits kept replies turns = tt
sessions_fit p fit shown depth (call ∷ calls) fits kept replies turns =
    let o : Option Function = exported p call.name in
    let r : Evaluated ValueTree = call_of depth p kept o call.args replies turns in
    after_shown r.run.events (call_end (result_of o) r.end r.run) (λ k rs n. session (functions_machine depth p) calls k rs n)
    (call_shown depth p fit o (λ f e. numbered_fits p.functions fit (number_named p.exports call.name) f e) (λ f e. shown call.name f e) call.args fits.0 kept replies turns)
    (λ k rs n. sessions_fit p fit shown depth calls fits.1 k rs n)

-- ---- well-formed programs

same_functions : (fs gs : List Function) → Some fs ≡ Some gs → fs ≡ gs
same_functions fs gs e = cc

same_function : (f g : Function) → Some f ≡ Some g → f ≡ g
same_function f g e = cc

none_there : (f : Function) → None ≡ Some f → ⊥
none_there f e = cc

-- the functions are those that are read, one by one
each_holds : (p : FlowProgram) (functions : List Function) (ns : List NumberedFunction) → All (IsFunction p functions) ns → (fs : List Function) →
    all_known (map (λ n. function_read p.types.trees p.imports n) ns) ≡ Some fs → (k : ℕ) (f : Function) → slice_get fs k ≡ Some f → FunctionFits functions f × IsFunctionPaid f
each_holds p functions [] all fs e k f h = absurd (none_there f (ap (λ (gs : List Function). slice_get gs k) (same_functions [] fs e) ∙ h))
each_holds p functions (n ∷ ns) all fs e k f h =
    by_read (function_read p.types.trees p.imports n) refl (all_known (map (λ m. function_read p.types.trees p.imports m) ns)) e k h
    (λ gs is j at. each_holds p functions ns (All-tail (IsFunction p functions) n ns all) gs is j f at)
  where
    first : IsFunction p functions n
    first = All-head (IsFunction p functions) n ns all

    head_holds : (g : Function) → function_read p.types.trees p.imports n ≡ Some g → FunctionFits functions g × IsFunctionPaid g
    head_holds g is =
        let same : first.read ≡ g = same_function first.read g (sym first.is ∙ is) in
        subst (λ (x : Function). FunctionFits functions x × IsFunctionPaid x) same (first.fits, first.paid)

    by_place : (g : Function) (gs : List Function) → function_read p.types.trees p.imports n ≡ Some g → (j : ℕ) → slice_get (g ∷ gs) j ≡ Some f →
        ((i : ℕ) → slice_get gs i ≡ Some f → FunctionFits functions f × IsFunctionPaid f) → FunctionFits functions f × IsFunctionPaid f
    by_place g gs is zero at later = subst (λ (x : Function). FunctionFits functions x × IsFunctionPaid x) (same_function g f at) (head_holds g is)
    by_place g gs is (suc j) at later = later j at

    by_read : (o : Option Function) → function_read p.types.trees p.imports n ≡ o → (more : Option (List Function)) → and_more o more ≡ Some fs → (j : ℕ) → slice_get fs j ≡ Some f →
        ((gs : List Function) → more ≡ Some gs → (i : ℕ) → slice_get gs i ≡ Some f → FunctionFits functions f × IsFunctionPaid f) → FunctionFits functions f × IsFunctionPaid f
    by_read None is more e j at later = cc
    by_read (Some g) is None e j at later = cc
    by_read (Some g) is (Some gs) e j at later =
        by_place g gs is j (ap (λ (xs : List Function). slice_get xs j) (same_functions (g ∷ gs) fs e) ∙ at) (λ i h. later gs refl i h)

shown_result : (o : Option Function) (f : Function) → IsShown o → o ≡ Some f → is_result_type f.result ≡ true
shown_result None f i e = absurd i
shown_result (Some g) f i e = subst (λ (x : Function). is_result_type x.result ≡ true) (same_function g f e) i.1

exports_shown : (functions : List Function) (es : List Export) → All (IsExport functions) es → (name : List ℕ) (f : Function) →
    function_numbered functions (number_named (map named es) name) ≡ Some f → is_result_type f.result ≡ true
exports_shown functions [] all name f e = cc
exports_shown functions (x ∷ es) all name f e = by_name (bytes_eq x.name name) e (λ h. exports_shown functions es (All-tail (IsExport functions) x es all) name f h)
  where
    by_name : (t : Bool) → function_numbered functions (if t then Some x.func else number_named (map named es) name) ≡ Some f →
        (function_numbered functions (number_named (map named es) name) ≡ Some f → is_result_type f.result ≡ true) → is_result_type f.result ≡ true
    by_name true e later = shown_result (slice_get functions x.func) f (All-head (IsExport functions) x es all).func e
    by_name false e later = later e

-- what is read of a program are its functions and its exports
read_parts : (p : FlowProgram) (read : Functions) → program_read p ≡ Some read →
    (all_known (map (λ f. function_read p.types.trees p.imports f) p.functions) ≡ Some read.functions) × (read.exports ≡ map named p.exports)
read_parts p read e = by_functions (all_known (map (λ f. function_read p.types.trees p.imports f) p.functions)) refl e
  where
    same_read : (a b : Functions) → Some a ≡ Some b → a ≡ b
    same_read a b e = cc

    by_functions : (o : Option (List Function)) → all_known (map (λ f. function_read p.types.trees p.imports f) p.functions) ≡ o →
        option_and_then (λ functions. Some (record { functions = functions; exports = map named p.exports })) o ≡ Some read →
        (all_known (map (λ f. function_read p.types.trees p.imports f) p.functions) ≡ Some read.functions) × (read.exports ≡ map named p.exports)
    by_functions None is e = cc
    by_functions (Some fs) is e =
        let same : record { functions = fs; exports = map named p.exports } ≡ read = same_read (record { functions = fs; exports = map named p.exports }) read e in
        (is ∙ ap (λ (r : Functions). Some r.functions) same, sym (ap (λ (r : Functions). r.exports) same))

each_function : (p : FlowProgram) (w : IsWellFormed p) (k : ℕ) (f : Function) → slice_get w.read.functions k ≡ Some f → FunctionFits w.read.functions f × IsFunctionPaid f
each_function p w k f h = each_holds p w.read.functions p.functions w.functions w.read.functions (read_parts p w.read w.is).0 k f h

pub functions_fit : (p : FlowProgram) (w : IsWellFormed p) → AreFunctionsFit w.read.functions
functions_fit p w = λ k f h. (each_function p w k f h).0

pub functions_paid : (p : FlowProgram) (w : IsWellFormed p) → AreFunctionsPaid w.read.functions
functions_paid p w = λ k f h. (each_function p w k f h).1

pub never_stuck : (p : FlowProgram) (w : IsWellFormed p) → NeverStuck w.read
never_stuck p w =
    sessions_fit w.read (functions_fit p w) (λ name f e. exports_shown w.read.functions p.exports w.exports name f
    (ap (λ (es : List Named). function_numbered w.read.functions (number_named es name)) (sym (read_parts p w.read w.is).1) ∙ e))
