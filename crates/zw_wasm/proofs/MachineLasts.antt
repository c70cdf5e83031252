-- A module's machine keeps the law of machines: a call that ended stays ended, with the same record, under a larger
-- bound, and one that runs on only adds to its record.
use Rattle.std.proofs.Common.{◌≡◌, ℕ, zero, suc, ◌+◌, ◌≤◌, Bool, true, false, cond, List, [], ◌∷◌, length, take, drop, reverse, Option, Some, None, refl, sym, ap, subst, arith}
use Rattle.std.specs.Prelude.{nat_eq, nat_le, nat_lt, slice_get, slice_set}
use Rattle.zw_session.proofs.Prefixes.{prefix_same, prefix_trans, prefix_front}
use Rattle.zw_session.specs.Bounds.{Lasts, LeavesWithin, StaysEnded}
use Rattle.zw_session.specs.Lists.{IsPrefix}
use Rattle.zw_session.specs.Sessions.{Scalar, HostEvent, Halt, Panicked, WantsReply, Running, Wild, Trapped, Halted, Outcome}
use Rattle.zw_wasm.proofs.RunsCompose.{with_more, run-stays_ended}
use Rattle.zw_wasm.specs.declared.module.CodeBody.{CodeBody}
use Rattle.zw_wasm.specs.declared.module.FuncType.{FuncType}
use Rattle.zw_wasm.specs.declared.module.Instr.{Instr}
use Rattle.zw_wasm.specs.declared.module.Instr.TheVariants as instr
use Rattle.zw_wasm.specs.declared.module.LoadKind.{LoadKind}
use Rattle.zw_wasm.specs.declared.module.StoreKind.{StoreKind}
use Rattle.zw_wasm.specs.declared.module.Module.{Module}
use Rattle.zw_wasm.specs.declared.module.ValType.{ValType}
use Rattle.zw_wasm.specs.declared.module.ValType.TheVariants as ty
use Rattle.zw_wasm.specs.Accesses.{bytes_stored, store_type}
use Rattle.zw_wasm.specs.Numerics.{Answer, Gives, DividesByZero, Overflows, binary_of}
use Rattle.zw_wasm.specs.ModuleMachine.{begun, run_export, end_of, outcome_of, module_machine, export_in}
use Rattle.zw_wasm.specs.Functions.{func_type}
use Rattle.zw_wasm.specs.Reduction.{Config, World, Store, Step, Next, Stops, Rests, Stop, Finished, Trap, NoReply, Run, Going, Ended, Work, Single, Chooses, Begins, BeginsLoop, Label, Action, Goes, CallsHost, Traps, Fetched, Found, Over, with_operand, with_operands, on_operand, with_local, with_global, with_local_too, pushed, answered, on_one, on_two, tested, compared, computed, operated, converted, dropped, selected, loaded, loads, stored, stores, grown, grows, jumped, returned, branched_to, branched, branched_unless_zero, branched_by, label_or, same_func_type, called_by, called_at, max_frames, entered, enter, called, act, chosen, done, replied, host_called, resolved, step_of, step, stands_in, fetched, at_bound, after_step, run}
use Rattle.zw_wasm.specs.Signature.{Reading, View, shown_ranges}
use Rattle.zw_wasm.specs.Structure.{Num, I32, I64, Code, width_of}
use Rattle.zw_wasm.specs.Typing.{converts_from}

-- two worlds with the same host calls and the same replies that are left
record SameRecord (u w : World) : Type 0 where
  events : u.events ≡ w.events
  replies : u.replies ≡ w.replies

-- an action leaves the host calls and the replies as they are; only a host call adds to the record
abbrev KeepsRecord : World → Action → Type 0
KeepsRecord w (Goes c) = SameRecord c.world w
KeepsRecord w (CallsHost k args c) = SameRecord c.world w
KeepsRecord w (Traps code) = Unit {0}

same_record : (w : World) → SameRecord w w
same_record w = record { events = refl; replies = refl }

either-keeps : (b : Bool) (w : World) (x y : Action) → KeepsRecord w x → KeepsRecord w y → KeepsRecord w (cond b x y)
either-keeps true w x y h k = h
either-keeps false w x y h k = k

with_operand-keeps : (o : Option Num) (c : Config) → KeepsRecord c.world (with_operand o c)
with_operand-keeps None c = tt
with_operand-keeps (Some v) c = same_record c.world

on_operand-keeps : (go : Num → Config → Action) (os : List Num) (c : Config) → ((v : Num) (d : Config) → KeepsRecord d.world (go v d)) → KeepsRecord c.world (on_operand go os c)
on_operand-keeps go [] c h = tt
on_operand-keeps go (v ∷ os) c h = h v (with_operands os c)

with_local-keeps : (n : ℕ) (v : Num) (c : Config) → KeepsRecord c.world (with_local n v c)
with_local-keeps n v c = either-keeps (nat_lt n (length c.frame.locals)) c.world _ _ (same_record c.world) tt

with_global-keeps : (n : ℕ) (v : Num) (c : Config) → KeepsRecord c.world (with_global n v c)
with_global-keeps n v c =
    let same : SameRecord (record c.world { store = record c.world.store { globals = slice_set c.world.store.globals n v } }) c.world = record { events = refl; replies = refl } in
    either-keeps (nat_lt n (length c.world.store.globals)) c.world _ _ same tt

with_local_too-keeps : (n : ℕ) (v : Num) (c : Config) → KeepsRecord c.world (with_local_too n v c)
with_local_too-keeps n v c = with_local-keeps n v (pushed v c)

-- ---- numbers

answered-keeps : (t : ValType) (a : Answer) (c : Config) → KeepsRecord c.world (answered t a c)
answered-keeps t (Gives n) c = same_record c.world
answered-keeps t DividesByZero c = tt
answered-keeps t Overflows c = tt

on_one-keeps : (t : ValType) (go : ℕ → Config → Action) (os : List Num) (c : Config) → ((x : ℕ) (d : Config) → KeepsRecord d.world (go x d)) → KeepsRecord c.world (on_one t go os c)
on_one-keeps ty.I32 go [] c h = tt
on_one-keeps ty.I32 go (I32 x ∷ os) c h = h x (with_operands os c)
on_one-keeps ty.I32 go (I64 x ∷ os) c h = tt
on_one-keeps ty.I64 go [] c h = tt
on_one-keeps ty.I64 go (I32 x ∷ os) c h = tt
on_one-keeps ty.I64 go (I64 x ∷ os) c h = h x (with_operands os c)

on_two-keeps : (t : ValType) (go : ℕ → ℕ → Config → Action) (os : List Num) (c : Config) → ((x y : ℕ) (d : Config) → KeepsRecord d.world (go x y d)) → KeepsRecord c.world (on_two t go os c)
on_two-keeps ty.I32 go [] c h = tt
on_two-keeps ty.I32 go (I64 y ∷ os) c h = tt
on_two-keeps ty.I32 go (I32 y ∷ []) c h = tt
on_two-keeps ty.I32 go (I32 y ∷ I64 x ∷ os) c h = tt
on_two-keeps ty.I32 go (I32 y ∷ I32 x ∷ os) c h = h x y (with_operands os c)
on_two-keeps ty.I64 go [] c h = tt
on_two-keeps ty.I64 go (I32 y ∷ os) c h = tt
on_two-keeps ty.I64 go (I64 y ∷ []) c h = tt
on_two-keeps ty.I64 go (I64 y ∷ I32 x ∷ os) c h = tt
on_two-keeps ty.I64 go (I64 y ∷ I64 x ∷ os) c h = h x y (with_operands os c)

selected-keeps : (os : List Num) (c : Config) → KeepsRecord c.world (selected os c)
selected-keeps [] c = tt
selected-keeps (I64 n ∷ os) c = tt
selected-keeps (I32 n ∷ []) c = tt
selected-keeps (I32 n ∷ y ∷ []) c = tt
selected-keeps (I32 n ∷ y ∷ x ∷ os) c = same_record c.world

-- ---- memory

loaded-keeps : (kind : LoadKind) (bytes : Option (List ℕ)) (c : Config) → KeepsRecord c.world (loaded kind bytes c)
loaded-keeps kind None c = tt
loaded-keeps kind (Some bytes) c = same_record c.world

stored-keeps : (offset : ℕ) (bytes : List ℕ) (x : ℕ) (c : Config) → KeepsRecord c.world (stored offset bytes x c)
stored-keeps offset bytes x c =
    either-keeps (nat_le (x + offset + length bytes) (length c.world.store.memory)) c.world _ _ (record { events = refl; replies = refl }) tt

stores-keeps : (kind : StoreKind) (offset value : ℕ) (c : Config) → KeepsRecord c.world (stores kind offset value c)
stores-keeps kind offset value c =
    on_one-keeps ty.I32 (stored offset (bytes_stored kind value)) c.frame.operands c (stored-keeps offset (bytes_stored kind value))

grown-keeps : (b : Bool) (n : ℕ) (c : Config) → KeepsRecord c.world (grown b n c)
grown-keeps true n c = record { events = refl; replies = refl }
grown-keeps false n c = same_record c.world

-- ---- branches

jumped-keeps : (l : Label) (n : ℕ) (c : Config) → KeepsRecord c.world (jumped l n c)
jumped-keeps l n c = either-keeps (nat_le l.arity (length c.frame.operands)) c.world _ _ (same_record c.world) tt

returned-keeps : (c : Config) → KeepsRecord c.world (returned c)
returned-keeps c = either-keeps (nat_le c.frame.arity (length c.frame.operands)) c.world _ _ (same_record c.world) tt

branched_to-keeps : (l : Option Label) (n : ℕ) (c : Config) → KeepsRecord c.world (branched_to l n c)
branched_to-keeps (Some l) n c = jumped-keeps l n c
branched_to-keeps None n c = either-keeps (nat_eq n (length c.frame.labels)) c.world _ _ (returned-keeps c) tt

branched-keeps : (n : ℕ) (c : Config) → KeepsRecord c.world (branched n c)
branched-keeps n c = branched_to-keeps _ n c

branched_unless_zero-keeps : (n x : ℕ) (c : Config) → KeepsRecord c.world (branched_unless_zero n x c)
branched_unless_zero-keeps n x c = either-keeps (nat_eq x 0) c.world _ _ (same_record c.world) (branched-keeps n c)

-- ---- calls

entered-keeps : (b : Option CodeBody) (f arity : ℕ) (args : List Num) (c : Config) → KeepsRecord c.world (entered b f arity args c)
entered-keeps None f arity args c = tt
entered-keeps (Some b) f arity args c = same_record c.world

enter-keeps : (m : Module) (f : ℕ) (args : List Num) (c : Config) → KeepsRecord c.world (enter m f args c)
enter-keeps m f args c =
    either-keeps (nat_lt f (length m.imports)) c.world _ _ (same_record c.world)
    (either-keeps (nat_le max_frames (length c.below)) c.world _ _ tt (entered-keeps _ f _ args c))

called-keeps : (m : Module) (f : ℕ) (t : Option FuncType) (c : Config) → KeepsRecord c.world (called m f t c)
called-keeps m f None c = tt
called-keeps m f (Some t) c =
    either-keeps (nat_le (length t.params) (length c.frame.operands)) c.world _ _
    (enter-keeps m f (reverse (take (length t.params) c.frame.operands)) (with_operands (drop (length t.params) c.frame.operands) c)) tt

called_by-keeps : (m : Module) (t : Option FuncType) (f : Option (Option ℕ)) (c : Config) → KeepsRecord c.world (called_by m t f c)
called_by-keeps m t None c = tt
called_by-keeps m t (Some None) c = tt
called_by-keeps m t (Some (Some f)) c =
    either-keeps (same_func_type t (func_type m f)) c.world _ _ (called-keeps m f (func_type m f) c) tt

act-keeps : (m : Module) (i : Instr) (c : Config) → KeepsRecord c.world (act m i c)
act-keeps m instr.Unreachable c = tt
act-keeps m instr.Nop c = same_record c.world
act-keeps m (instr.Block result) c = tt
act-keeps m (instr.Loop result) c = tt
act-keeps m (instr.If result) c = tt
act-keeps m instr.Else c = tt
act-keeps m instr.End c = tt
act-keeps m (instr.Br n) c = branched-keeps n c
act-keeps m (instr.BrIf n) c = on_one-keeps ty.I32 (branched_unless_zero n) c.frame.operands c (branched_unless_zero-keeps n)
act-keeps m (instr.BrTable default labels) c = on_one-keeps ty.I32 (branched_by labels default) c.frame.operands c (λ x d. branched-keeps (label_or default (slice_get labels x)) d)
act-keeps m instr.Return c = returned-keeps c
act-keeps m (instr.Call f) c = called-keeps m f (func_type m f) c
act-keeps m (instr.CallIndirect k) c = on_one-keeps ty.I32 (called_at m k) c.frame.operands c (λ x d. called_by-keeps m (slice_get m.types k) (slice_get d.world.store.table x) d)
act-keeps m instr.Drop c = on_operand-keeps dropped c.frame.operands c (λ v d. same_record d.world)
act-keeps m instr.Select c = selected-keeps c.frame.operands c
act-keeps m (instr.LocalGet n) c = with_operand-keeps _ c
act-keeps m (instr.LocalSet n) c = on_operand-keeps (with_local n) c.frame.operands c (with_local-keeps n)
act-keeps m (instr.LocalTee n) c = on_operand-keeps (with_local_too n) c.frame.operands c (with_local_too-keeps n)
act-keeps m (instr.GlobalGet n) c = with_operand-keeps _ c
act-keeps m (instr.GlobalSet n) c = on_operand-keeps (with_global n) c.frame.operands c (with_global-keeps n)
act-keeps m (instr.Load kind at) c = on_one-keeps ty.I32 (loads kind at.offset) c.frame.operands c (λ x d. loaded-keeps kind _ d)
act-keeps m (instr.Store kind at) c = on_one-keeps (store_type kind) (stores kind at.offset) c.frame.operands c (stores-keeps kind at.offset)
act-keeps m instr.MemorySize c = same_record c.world
act-keeps m instr.MemoryGrow c = on_one-keeps ty.I32 (grows m) c.frame.operands c (λ n d. grown-keeps _ n d)
act-keeps m (instr.I32Const z) c = same_record c.world
act-keeps m (instr.I64Const z) c = same_record c.world
act-keeps m (instr.IsZero t) c = on_one-keeps t tested c.frame.operands c (λ x d. same_record d.world)
act-keeps m (instr.Compare t comparison) c = on_two-keeps t (compared t comparison) c.frame.operands c (λ x y d. same_record d.world)
act-keeps m (instr.Unary t operator) c = on_one-keeps t (computed t operator) c.frame.operands c (λ x d. same_record d.world)
act-keeps m (instr.Binary t operator) c = on_two-keeps t (operated t operator) c.frame.operands c (λ x y d. answered-keeps t (binary_of operator (width_of t) x y) d)
act-keeps m (instr.Convert conversion) c = on_one-keeps (converts_from conversion) (converted conversion) c.frame.operands c (λ x d. same_record d.world)

chosen-keeps : (result : Option ValType) (a b : Code) (v : Num) (c : Config) → KeepsRecord c.world (chosen result a b v c)
chosen-keeps result a b (I32 n) c = either-keeps (nat_eq n 0) c.world _ _ (same_record c.world) (same_record c.world)
chosen-keeps result a b (I64 n) c = tt

done-keeps : (m : Module) (work : Work) (c : Config) → KeepsRecord c.world (done m work c)
done-keeps m (Single i) c = act-keeps m i c
done-keeps m (Chooses result a b) c = on_operand-keeps (chosen result a b) c.frame.operands c (chosen-keeps result a b)
done-keeps m (Begins result body) c = same_record c.world
done-keeps m (BeginsLoop result body) c = same_record c.world

-- the host calls so far, after a step from this world
abbrev step_events : World → Step → List HostEvent
step_events w (Next d) = d.world.events
step_events w (Stops s d) = d.events
step_events w (Rests results) = w.events

abbrev run_events : Run → List HostEvent
run_events (Going w) = w.events
run_events (Ended s w left) = w.events

replied-events : (t : Option ValType) (replies : List ℕ) (c : Config) (w : World) → IsPrefix w.events c.world.events → IsPrefix w.events (step_events w (replied t replies c))
replied-events None replies c w p = p
replied-events (Some t) [] c w p = p
replied-events (Some t) (r ∷ rs) c w p = p

host_called-events : (shown : Option (List (List ℕ))) (m : Module) (v : View) (k : ℕ) (args : List Num) (c : Config) (w : World) → IsPrefix w.events c.world.events → IsPrefix w.events (step_events w (host_called shown m v k args c))
host_called-events None m v k args c w p = p
host_called-events (Some shown) m v k args c w p = replied-events _ _ _ w (prefix_trans p (prefix_front c.world.events _))

-- the same host calls are a front of themselves
same-prefix : {u w : World} → SameRecord u w → IsPrefix w.events u.events
same-prefix {u} {w} s = subst (λ es. IsPrefix w.events es) (sym s.events) (prefix_same w.events)

resolved-events : (m : Module) (v : View) (w : World) (a : Action) → KeepsRecord w a → IsPrefix w.events (step_events w (resolved m v w a))
resolved-events m v w (Goes c) e = same-prefix e
resolved-events m v w (CallsHost k args c) e =
    host_called-events (shown_ranges (v.import_params k) args c.world.store.memory) m v k args c w (same-prefix e)
resolved-events m v w (Traps code) e = prefix_same w.events

step_of-events : (m : Module) (v : View) (w : World) (f : Fetched) → IsPrefix w.events (step_events w (step_of m v w f))
step_of-events m v w (Found work f below) =
    resolved-events m v w _ (done-keeps m work (record { frame = f; below = below; world = w }))
step_of-events m v w (Over results) = prefix_same w.events

step-events : (m : Module) (v : View) (c : Config) → IsPrefix c.world.events (step_events c.world (step m v c))
step-events m v c = step_of-events m v c.world (fetched (stands_in c.frame) c.below)

at_bound-events : (s : Step) (w : World) → IsPrefix w.events (run_events (at_bound s w))
at_bound-events (Next d) w = prefix_same w.events
at_bound-events (Stops s d) w = prefix_same w.events
at_bound-events (Rests results) w = prefix_same w.events

after_step-events : (s : Step) (w : World) (n : ℕ) (go : Config → Run) → ((d : Config) → IsPrefix d.world.events (run_events (go d))) → IsPrefix w.events (step_events w s) → IsPrefix w.events (run_events (after_step s w n go))
after_step-events (Next d) w n go h p = prefix_trans p (h d)
after_step-events (Stops s d) w n go h p = p
after_step-events (Rests results) w n go h p = p

-- a run adds to the host calls
run-events : (m : Module) (v : View) (n : ℕ) (c : Config) → IsPrefix c.world.events (run_events (run m v n c))
run-events m v zero c = at_bound-events (step m v c) c.world
run-events m v (suc n) c = after_step-events (step m v c) c.world n (run m v n) (run-events m v n) (step-events m v c)

-- the end of a run leaves no more of the bound than there was
abbrev Within : ℕ → Run → Type 0
Within n (Going w) = Unit {0}
Within n (Ended s w left) = left ≤ n

-- What is known of the runs with each bound: one that ended stays ended, and one that goes on adds to its host calls.
record Stays (r : ℕ → Run) : Type 0 where
  ended : (n k : ℕ) (s : Stop) (w : World) (left : ℕ) → r n ≡ Ended s w left → r (n + k) ≡ Ended s w (left + k)
  going : (n k : ℕ) (w : World) → r n ≡ Going w → IsPrefix w.events (run_events (r (n + k)))
  within : (n : ℕ) → Within n (r n)

going_at_bound : (s : Step) (u w : World) → at_bound s u ≡ Going w → u ≡ w
going_at_bound (Next d) u w e = cc
going_at_bound (Stops s d) u w e = cc
going_at_bound (Rests results) u w e = cc

going_after : (n k : ℕ) (s : Step) (u : World) (go more : Config → Run) (w : World) → ((d : Config) → go d ≡ Going w → IsPrefix w.events (run_events (more d))) → after_step s u n go ≡ Going w → IsPrefix w.events (run_events (after_step s u (n + k) more))
going_after n k (Next d) u go more w h e = h d e
going_after n k (Stops s d) u go more w h e = absurd (cc)
going_after n k (Rests results) u go more w h e = absurd (cc)

run-going : (m : Module) (v : View) (n k : ℕ) (c : Config) (w : World) → run m v n c ≡ Going w → IsPrefix w.events (run_events (run m v (n + k) c))
run-going m v zero k c w e =
    let same : c.world ≡ w = going_at_bound (step m v c) c.world w e in
    subst (λ (u : World). IsPrefix u.events (run_events (run m v (zero + k) c))) same (run-events m v (zero + k) c)
run-going m v (suc n) k c w e =
    let count : suc (n + k) ≡ suc n + k = omega arith in
    subst (λ j. IsPrefix w.events (run_events (run m v j c))) count
    (going_after n k (step m v c) c.world (run m v n) (run m v (n + k)) w (λ d. run-going m v n k d w) e)

at_bound-within : (s : Step) (w : World) → Within 0 (at_bound s w)
at_bound-within (Next d) w = tt
at_bound-within (Stops s d) w = tt
at_bound-within (Rests results) w = omega arith

within_more : (n : ℕ) (r : Run) → Within n r → Within (suc n) r
within_more n (Going w) h = tt
within_more n (Ended s w left) h = omega arith

after_step-within : (s : Step) (w : World) (n : ℕ) (go : Config → Run) → ((d : Config) → Within n (go d)) → Within (suc n) (after_step s w n go)
after_step-within (Next d) w n go h = within_more n (go d) (h d)
after_step-within (Stops s d) w n go h = omega arith
after_step-within (Rests results) w n go h = omega arith

run-within : (m : Module) (v : View) (n : ℕ) (c : Config) → Within n (run m v n c)
run-within m v zero c = at_bound-within (step m v c) c.world
run-within m v (suc n) c = after_step-within (step m v c) c.world n (run m v n) (run-within m v n)

run-stays : (m : Module) (v : View) (c : Config) → Stays (λ n. run m v n c)
run-stays m v c = record {
  ended = λ n k s w left. run-stays_ended m v n k c s w left;
  going = λ n k w. run-going m v n k c w;
  within = λ n. run-within m v n c;
}

-- a run that ended before it began
ended-stays : (s : Stop) (w : World) → Stays (Ended s w)
ended-stays s w = record {
  ended = λ n k t u left e. ap (with_more k) e;
  going = λ n k u e. absurd (cc);
  within = λ n. omega arith;
}

begun-stays : (s : Step) (w : World) (m : Module) (v : View) → Stays (begun s w m v)
begun-stays (Next c) w m v = run-stays m v c
begun-stays (Stops s d) w m v = ended-stays s d
begun-stays (Rests results) w m v = ended-stays (Finished results) w

export-stays : (f : Option ℕ) (m : Module) (v : View) (args : List Scalar) (w : World) → Stays (run_export f m v args w)
export-stays None m v args w = ended-stays (Trap 0) w
export-stays (Some f) m v args w = begun-stays _ w m v

outcome-events : (m : Module) (r : Option Reading) (x : Run) → (outcome_of m r x).events ≡ run_events x
outcome-events m r (Going w) = refl
outcome-events m r (Ended s w left) = refl

-- a call that halted halts the same
halted-lasts : (k : ℕ) (events : List HostEvent) (h : Halt) (later : Outcome Store) → later ≡ record { events = events; end = Halted h } → Lasts k events (Halted h) later
halted-lasts k events (Panicked cause message) later e = e
halted-lasts k events WantsReply later e = e
halted-lasts k events Running later e = subst (λ (o : Outcome Store). IsPrefix events o.events) (sym e) (prefix_same events)
halted-lasts k events Wild later e = e
halted-lasts k events (Trapped code) later e = e

stop-lasts : (m : Module) (r : Option Reading) (k left : ℕ) (s : Stop) (w : World) (later : Outcome Store) → later ≡ outcome_of m r (Ended s w (left + k)) → Lasts k w.events (end_of m r s w left) later
stop-lasts m r k left (Finished results) w later e = e
stop-lasts m r k left (Trap code) w later e = halted-lasts k w.events _ later e
stop-lasts m r k left NoReply w later e = e

run-lasts : (m : Module) (r : Option Reading) (runs : ℕ → Run) → Stays runs → (n k : ℕ) (x : Run) → runs n ≡ x → Lasts k (outcome_of m r x).events (outcome_of m r x).end (outcome_of m r (runs (n + k)))
run-lasts m r runs h n k (Going w) e =
    subst (λ es. IsPrefix w.events es) (sym (outcome-events m r (runs (n + k)))) (h.going n k w e)
run-lasts m r runs h n k (Ended s w left) e =
    stop-lasts m r k left s w _ (ap (outcome_of m r) (h.ended n k s w left e))

run-leaves : (m : Module) (r : Option Reading) (n : ℕ) (x : Run) → Within n x → LeavesWithin n (outcome_of m r x).end
run-leaves m r n (Going w) h = tt
run-leaves m r n (Ended (Finished results) w left) h = h
run-leaves m r n (Ended (Trap code) w left) h = tt
run-leaves m r n (Ended NoReply w left) h = tt

pub machine-stays_ended : (m : Module) (v : View) → StaysEnded (module_machine m v)
machine-stays_ended m v = record {
  lasts = λ store c replies n k. run-lasts m _ _ (export-stays (export_in 0 c.name m.exports) m v c.args (record { store = store; replies = replies; events = [] })) n k _ refl;
  left = λ store c replies n. run-leaves m _ n _ ((export-stays (export_in 0 c.name m.exports) m v c.args (record { store = store; replies = replies; events = [] })).within n);
}
