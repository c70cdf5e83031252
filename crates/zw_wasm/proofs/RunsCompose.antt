-- What single instructions do, how runs compose, and that a run that ended stays ended under a larger bound.
use Rattle.std.proofs.Common.{◌≡◌, ℕ, ℤ, zero, suc, ◌+◌, ◌-◌, ◌%◌, ◌^◌, ◌<◌, true, false, cond, List, [], ◌∷◌, ◌++◌, length, take, drop, reverse, Option, Some, None, refl, sym, ap, ◌∙◌, arith, add_assoc, one-add, zero-add}
use Rattle.std.specs.Prelude.{nat_eq, nat_le, nat_lt, slice_get, slice_set, if◌then◌else◌}
use Rattle.std.proofs.Math.Seq.{take-append_seam, drop-append_seam}
use Rattle.std.proofs.lemmas.Bool.{le-leb, lt-ltb}
use Rattle.std.proofs.lemmas.List.{length-append, length-reverse, reverse-reverse}
use Rattle.zw_session.specs.Sessions.{HostEvent}
use Rattle.zw_wasm.specs.declared.module.FuncType.{FuncType}
use Rattle.zw_wasm.specs.declared.module.Instr.TheVariants.{Unreachable, Call, LocalGet, LocalSet, GlobalGet, GlobalSet, I32Const}
use Rattle.zw_wasm.specs.declared.module.Module.{Module}
use Rattle.zw_wasm.specs.declared.module.ValType.{ValType}
use Rattle.zw_wasm.specs.Functions.{func_type}
use Rattle.zw_wasm.specs.Reduction.{Frame, Label, Config, World, Step, Next, Stops, Rests, Stop, Finished, Trap, NoReply, Run, Going, Ended, Goes, CallsHost, Traps, with_operand, with_world, with_event, under_label, arity_of, at_work, entered, enter, called, max_frames, frames_trap, no_rule, unreachable_trap, replied, result_of, field_of, host_called, resolved, step, at_bound, after_step, run}
use Rattle.zw_wasm.specs.Sequences.{placed, with_locals, Runs, Halts}
use Rattle.zw_wasm.specs.Signature.{View, shown_scalars, shown_ranges}
use Rattle.zw_wasm.specs.Structure.{Num, I32, Code, Ends, Plain, Choice, i32_add, i32_lt_u, i32_sub, num_of, word_of}

pub runs-none : (m : Module) (v : View) (c : Config) → Runs m v c c 0
runs-none m v c = record { by = λ k. ap (λ n. run m v n c) (zero-add k) }

pub runs-then : {m : Module} {v : View} {c d e : Config} {i j : ℕ} → Runs m v c d i → Runs m v d e j → Runs m v c e (i + j)
runs-then {m} {v} {c} {d} {e} {i} {j} r s =
    record { by = λ k. ap (λ n. run m v n c) (add_assoc i j k) ∙ r.by (j + k) ∙ s.by k }

-- one step to the next configuration is a run of one instruction
pub runs-step : (m : Module) (v : View) (c d : Config) → step m v c ≡ Next d → Runs m v c d 1
runs-step m v c d e =
    record { by = λ k. ap (λ n. run m v n c) (one-add k) ∙ ap (λ s. after_step s c.world k (run m v k)) e }

pub halts-then : {m : Module} {v : View} {c d : Config} {s : Stop} {w : World} {i j : ℕ} → Runs m v c d i → Halts m v d s w j → Halts m v c s w (i + j)
halts-then {m} {v} {c} {d} {s} {w} {i} {j} r h =
    record { by = λ k. ap (λ n. run m v n c) (add_assoc i j k) ∙ r.by (j + k) ∙ h.by k }

-- one step that stops is the end of a run of one instruction
pub halts-step : (m : Module) (v : View) (c : Config) (s : Stop) (w : World) → step m v c ≡ Stops s w → Halts m v c s w 1
halts-step m v c s w e =
    record { by = λ k. ap (λ n. run m v n c) (one-add k) ∙ ap (λ t. after_step t c.world k (run m v k)) e }

pub halts-unreachable : (m : Module) (v : View) (c : Config) (rest : Code) (os : List Num) → Halts m v (placed (Plain Unreachable rest) os c) (Trap unreachable_trap) c.world 1
halts-unreachable m v c rest os = halts-step m v _ _ _ refl

pub runs-local_get : (m : Module) (v : View) (c : Config) (n : ℕ) (x : Num) (rest : Code) (os : List Num) → slice_get c.frame.locals n ≡ Some x → Runs m v (placed (Plain (LocalGet n) rest) os c) (placed rest (x ∷ os) c) 1
runs-local_get m v c n x rest os e =
    runs-step m v _ _ (ap (λ o. resolved m v c.world (with_operand o (placed rest os c))) e)

pub runs-i32_const : (m : Module) (v : View) (c : Config) (z : ℤ) (rest : Code) (os : List Num) → Runs m v (placed (Plain (I32Const z) rest) os c) (placed rest (I32 (word_of z) ∷ os) c) 1
runs-i32_const m v c z rest os = runs-step m v _ _ refl

pub runs-i32_add : (m : Module) (v : View) (c : Config) (x y : ℕ) (rest : Code) (os : List Num) → Runs m v (placed (Plain i32_add rest) (I32 y ∷ I32 x ∷ os) c) (placed rest (I32 ((x + y) % 2 ^ 32) ∷ os) c) 1
runs-i32_add m v c x y rest os = runs-step m v _ _ refl

pub runs-i32_sub : (m : Module) (v : View) (c : Config) (x y : ℕ) (rest : Code) (os : List Num) → Runs m v (placed (Plain i32_sub rest) (I32 y ∷ I32 x ∷ os) c) (placed rest (I32 ((x + (2 ^ 32 - y)) % 2 ^ 32) ∷ os) c) 1
runs-i32_sub m v c x y rest os = runs-step m v _ _ refl

pub runs-i32_lt_u : (m : Module) (v : View) (c : Config) (x y : ℕ) (rest : Code) (os : List Num) → Runs m v (placed (Plain i32_lt_u rest) (I32 y ∷ I32 x ∷ os) c) (placed rest (I32 (if nat_lt x y then 1 else 0) ∷ os) c) 1
runs-i32_lt_u m v c x y rest os = runs-step m v _ _ refl

pub runs-local_set : (m : Module) (v : View) (c : Config) (n : ℕ) (x : Num) (rest : Code) (os : List Num) → n < length c.frame.locals → Runs m v (placed (Plain (LocalSet n) rest) (x ∷ os) c) (placed rest os (with_locals (slice_set c.frame.locals n x) c)) 1
runs-local_set m v c n x rest os h =
    runs-step m v _ _ (ap (λ b. resolved m v c.world (cond b (Goes (placed rest os (with_locals (slice_set c.frame.locals n x) c))) (Traps no_rule))) (lt-ltb n (length c.frame.locals) h))

pub runs-global_get : (m : Module) (v : View) (c : Config) (n : ℕ) (x : Num) (rest : Code) (os : List Num) → slice_get c.world.store.globals n ≡ Some x → Runs m v (placed (Plain (GlobalGet n) rest) os c) (placed rest (x ∷ os) c) 1
runs-global_get m v c n x rest os e =
    runs-step m v _ _ (ap (λ o. resolved m v c.world (with_operand o (placed rest os c))) e)

-- the world in which the global with this number has this value
abbrev pub with_global_set : ℕ → Num → World → World
with_global_set n x w = record w { store = record w.store { globals = slice_set w.store.globals n x } }

pub runs-global_set : (m : Module) (v : View) (c : Config) (n : ℕ) (x : Num) (rest : Code) (os : List Num) → n < length c.world.store.globals → Runs m v (placed (Plain (GlobalSet n) rest) (x ∷ os) c) (placed rest os (with_world (record c.world { store = record c.world.store { globals = slice_set c.world.store.globals n x } }) c)) 1
runs-global_set m v c n x rest os h =
    runs-step m v _ _ (ap (λ b. resolved m v c.world (cond b (Goes (placed rest os (with_world (with_global_set n x c.world) c))) (Traps no_rule))) (lt-ltb n (length c.world.store.globals) h))

-- an operand that isn't 0 chooses the first code, and 0 the second
pub runs-choice_first : (m : Module) (v : View) (c : Config) (t : Option ValType) (a b : Code) (n : ℕ) (rest : Code) (os : List Num) → nat_eq n 0 ≡ false → Runs m v (placed (Choice t a b rest) (I32 n ∷ os) c) (under_label t a (placed rest os c)) 1
runs-choice_first m v c t a b n rest os e =
    let d = placed rest os c in
    runs-step m v _ _ (ap (λ z. resolved m v c.world (cond z (Goes (under_label t b d)) (Goes (under_label t a d)))) e)

pub runs-choice_second : (m : Module) (v : View) (c : Config) (t : Option ValType) (a b : Code) (rest : Code) (os : List Num) → Runs m v (placed (Choice t a b rest) (I32 0 ∷ os) c) (under_label t b (placed rest os c)) 1
runs-choice_second m v c t a b rest os = runs-step m v _ _ refl

-- two configurations that have the same step and world have the same runs
same_runs : (m : Module) (v : View) (c d : Config) → step m v c ≡ step m v d → c.world ≡ d.world → (k : ℕ) → run m v k c ≡ run m v k d
same_runs m v c d s w zero = ap (λ t. at_bound t c.world) s ∙ ap (λ u. at_bound (step m v d) u) w
same_runs m v c d s w (suc k) = ap (λ t. after_step t c.world k (run m v k)) s ∙ ap (λ u. after_step (step m v d) u k (run m v k)) w

pub runs-same : (m : Module) (v : View) (c d : Config) → step m v c ≡ step m v d → c.world ≡ d.world → Runs m v c d 0
runs-same m v c d s w = record { by = λ k. ap (λ n. run m v n c) (zero-add k) ∙ same_runs m v c d s w k }

-- the end of a label takes no instruction, and leaves its operands to what stands round it
pub runs-label_end : (m : Module) (v : View) (f : Frame) (os : List Num) (l : Label) (ls : List Label) (below : List Frame) (w : World) → Runs m v (record { frame = at_work f os Ends (l ∷ ls); below = below; world = w }) (record { frame = at_work f (os ++ l.below) l.follows ls; below = below; world = w }) 0
runs-label_end m v f os l ls below w = runs-same m v _ _ refl refl

-- the end of a body takes no instruction, and leaves its results to the frame below
pub runs-body_end : (m : Module) (v : View) (f : Frame) (os : List Num) (g : Frame) (below : List Frame) (w : World) → Runs m v (record { frame = at_work f os Ends []; below = g ∷ below; world = w }) (record { frame = record g { operands = os ++ g.operands }; below = below; world = w }) 0
runs-body_end m v f os g below w = runs-same m v _ _ refl refl

-- where there is no second code, 0 takes one instruction and leaves things as they are
pub runs-choice_passed : (m : Module) (v : View) (c : Config) (a rest : Code) (os : List Num) → Runs m v (placed (Choice None a Ends rest) (I32 0 ∷ os) c) (placed rest os c) 1
runs-choice_passed m v c a rest os =
    let l : Label = record { arity = 0; branch = rest; follows = rest; below = os } in
    runs-then (runs-choice_second m v c None a Ends rest os)
    (runs-label_end m v c.frame [] l c.frame.labels c.below c.world)

-- ---- calls

-- a call takes as many operands as there are parameters, the last first
pub called-is : (m : Module) (c : Config) (f : ℕ) (t : FuncType) (args : List Num) (rest : Code) (os : List Num) → length args ≡ length t.params → called m f (Some t) (placed rest (reverse args ++ os) c) ≡ enter m f args (placed rest os c)
called-is m c f t args rest os count =
    let operands = reverse args ++ os in
    let seam : length t.params ≡ length (reverse args) = sym count ∙ sym (length-reverse args) in
    let enough : nat_le (length t.params) (length operands) ≡ true = le-leb _ _ (omega (arith, seam, length-append (reverse args) os)) in
    let front : take (length t.params) operands ≡ reverse args = ap (λ n. take n operands) seam ∙ take-append_seam (reverse args) os in
    let left : drop (length t.params) operands ≡ os = ap (λ n. drop n operands) seam ∙ drop-append_seam (reverse args) os in
    ap (λ b. cond b (enter m f (reverse (take (length t.params) operands)) (placed rest (drop (length t.params) operands) c)) (Traps no_rule)) enough
    ∙ ap (λ xs. enter m f (reverse xs) (placed rest (drop (length t.params) operands) c)) front
    ∙ ap (λ xs. enter m f xs (placed rest (drop (length t.params) operands) c)) (reverse-reverse args)
    ∙ ap (λ xs. enter m f args (placed rest xs c)) left

-- what is seen of a host call
abbrev pub host_event : Module → View → ℕ → List Num → List (List ℕ) → HostEvent
host_event m v k args shown =
    record { name = field_of (slice_get m.imports k); args = shown_scalars (v.import_params k) args; shown = shown }

-- a call of an imported function, whose bytes to show are all in the memory
pub host-step : (m : Module) (v : View) (c : Config) (k : ℕ) (t : FuncType) (args : List Num) (shown : List (List ℕ)) (rest : Code) (os : List Num) → nat_lt k (length m.imports) ≡ true → func_type m k ≡ Some t → length args ≡ length t.params → shown_ranges (v.import_params k) args c.world.store.memory ≡ Some shown → step m v (placed (Plain (Call k) rest) (reverse args ++ os) c) ≡ replied t.result c.world.replies (placed rest os (with_world (with_event (host_event m v k args shown) c.world) c))
host-step m v c k t args shown rest os imported typed count seen =
    let d = placed rest os c in
    let after = with_world (with_event (host_event m v k args shown) c.world) d in
    ap (λ o. resolved m v c.world (called m k o (placed rest (reverse args ++ os) c))) typed
    ∙ ap (resolved m v c.world) (called-is m c k t args rest os count)
    ∙ ap (λ b. resolved m v c.world (cond b (CallsHost k args d) (cond (nat_le max_frames (length c.below)) (Traps frames_trap) (entered (slice_get m.codes (k - length m.imports)) k (arity_of (func_type m k)) args d)))) imported
    ∙ ap (λ s. host_called s m v k args d) seen
    ∙ ap (λ o. replied (result_of o) c.world.replies after) typed

-- an imported function without a result
pub runs-host_void : (m : Module) (v : View) (c : Config) (k : ℕ) (t : FuncType) (args : List Num) (shown : List (List ℕ)) (rest : Code) (os : List Num) → nat_lt k (length m.imports) ≡ true → func_type m k ≡ Some t → length args ≡ length t.params → shown_ranges (v.import_params k) args c.world.store.memory ≡ Some shown → t.result ≡ None → Runs m v (placed (Plain (Call k) rest) (reverse args ++ os) c) (placed rest os (with_world (with_event (host_event m v k args shown) c.world) c)) 1
runs-host_void m v c k t args shown rest os imported typed count seen none =
    let after = placed rest os (with_world (with_event (host_event m v k args shown) c.world) c) in
    runs-step m v _ _ (host-step m v c k t args shown rest os imported typed count seen ∙ ap (λ r. replied r c.world.replies after) none)

-- an imported function with a result, of which the host gives the next reply
pub runs-host_reply : (m : Module) (v : View) (c : Config) (k : ℕ) (t : FuncType) (ty : ValType) (args : List Num) (shown : List (List ℕ)) (r : ℕ) (rs : List ℕ) (rest : Code) (os : List Num) → nat_lt k (length m.imports) ≡ true → func_type m k ≡ Some t → length args ≡ length t.params → shown_ranges (v.import_params k) args c.world.store.memory ≡ Some shown → t.result ≡ Some ty → c.world.replies ≡ r ∷ rs → Runs m v (placed (Plain (Call k) rest) (reverse args ++ os) c) (placed rest (num_of ty r ∷ os) (with_world (record (with_event (host_event m v k args shown) c.world) { replies = rs }) c)) 1
runs-host_reply m v c k t ty args shown r rs rest os imported typed count seen some next =
    let after = placed rest os (with_world (with_event (host_event m v k args shown) c.world) c) in
    runs-step m v _ _ (host-step m v c k t args shown rest os imported typed count seen ∙ ap (λ o. replied o c.world.replies after) some ∙ ap (λ replies. replied (Some ty) replies after) next)

-- and where it gives none
pub halts-host_wants : (m : Module) (v : View) (c : Config) (k : ℕ) (t : FuncType) (ty : ValType) (args : List Num) (shown : List (List ℕ)) (rest : Code) (os : List Num) → nat_lt k (length m.imports) ≡ true → func_type m k ≡ Some t → length args ≡ length t.params → shown_ranges (v.import_params k) args c.world.store.memory ≡ Some shown → t.result ≡ Some ty → c.world.replies ≡ [] → Halts m v (placed (Plain (Call k) rest) (reverse args ++ os) c) NoReply (with_event (host_event m v k args shown) c.world) 1
halts-host_wants m v c k t ty args shown rest os imported typed count seen some none =
    let after = placed rest os (with_world (with_event (host_event m v k args shown) c.world) c) in
    halts-step m v _ _ _ (host-step m v c k t args shown rest os imported typed count seen ∙ ap (λ o. replied o c.world.replies after) some ∙ ap (λ replies. replied (Some ty) replies after) none)

-- the same outcome, with more of the bound left
abbrev pub with_more : ℕ → Run → Run
with_more k (Going w) = Going w
with_more k (Ended s w left) = Ended s w (left + k)

-- where there is nothing to run, the whole bound is left
pub rests : (m : Module) (v : View) (c : Config) (results : List Num) → step m v c ≡ Rests results → (k : ℕ) → run m v k c ≡ Ended (Finished results) c.world k
rests m v c results e zero = ap (λ s. at_bound s c.world) e
rests m v c results e (suc k) = ap (λ s. after_step s c.world k (run m v k)) e

ended_at_bound : (m : Module) (v : View) (c : Config) (k : ℕ) (s : Step) (stop : Stop) (w : World) (left : ℕ) → step m v c ≡ s → at_bound s c.world ≡ Ended stop w left → run m v k c ≡ Ended stop w (left + k)
ended_at_bound m v c k (Next d) stop w left e h = cc
ended_at_bound m v c k (Stops t d) stop w left e h = cc
ended_at_bound m v c k (Rests results) stop w left e h =
    rests m v c results e k ∙ ap (λ n. Ended (Finished results) c.world n) (sym (zero-add k)) ∙ ap (with_more k) h

ended_after : (n k : ℕ) (s : Step) (u : World) (go more : Config → Run) (stop : Stop) (w : World) (left : ℕ) → ((d : Config) → go d ≡ Ended stop w left → more d ≡ Ended stop w (left + k)) → after_step s u n go ≡ Ended stop w left → after_step s u (n + k) more ≡ Ended stop w (left + k)
ended_after n k (Next d) u go more stop w left step_on h = step_on d h
ended_after n k (Stops t d) u go more stop w left step_on h = ap (with_more k) h
ended_after n k (Rests results) u go more stop w left step_on h =
    let e : suc (n + k) ≡ suc n + k = omega arith in
    ap (λ l. Ended (Finished results) u l) e ∙ ap (with_more k) h

-- a run that ended stays ended under a larger bound, with as much more left
pub run-stays_ended : (m : Module) (v : View) (n k : ℕ) (c : Config) (stop : Stop) (w : World) (left : ℕ) → run m v n c ≡ Ended stop w left → run m v (n + k) c ≡ Ended stop w (left + k)
run-stays_ended m v zero k c stop w left h =
    ap (λ n. run m v n c) (zero-add k) ∙ ended_at_bound m v c k (step m v c) stop w left refl h
run-stays_ended m v (suc n) k c stop w left h =
    let e : suc n + k ≡ suc (n + k) = omega arith in
    ap (λ j. run m v j c) e
    ∙ ended_after n k (step m v c) c.world (run m v n) (run m v (n + k)) stop w left (λ d. run-stays_ended m v n k d stop w left) h
