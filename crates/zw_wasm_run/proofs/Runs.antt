-- Runs: how a run goes on from what stands next in a configuration.
use Rattle.std.proofs.Common.{◌≡◌, ℕ, zero, suc, List, [], ◌∷◌, Option, Some, None, refl, ap, ◌∙◌}
use Rattle.zw_wasm.specs.declared.module.Module.{Module}
use Rattle.zw_wasm.specs.declared.module.ValType.{ValType}
use Rattle.zw_wasm.specs.declared.num.Num.{Num}
use Rattle.zw_wasm.specs.Reduction as reduction
use Rattle.zw_wasm.specs.Reduction.{Action, CallsHost, Config, Does, Ended, Finished, Found, Frame, Goes, Going, Next, Over, Stops, Trap, Traps, Work, World, after_step, at_bound, done, fetched, host_called, replied, resolved, result_of, run, stands_in, step, step_of}
use Rattle.zw_wasm_run.specs.Running.{SameNext, at_doing, next_of}
use Rattle.zw_wasm.specs.Functions.{func_type}
use Rattle.zw_wasm.specs.Signature.{View, shown_ranges}

same_step : (m : Module) (v : View) (c d : Config) → SameNext c d → step m v c ≡ step m v d
same_step m v c d same = ap (λ o. step_of m v c.world o) same.next ∙ ap (λ w. step_of m v w (next_of d)) same.world

pub same_run : (m : Module) (v : View) (n : ℕ) (c d : Config) → SameNext c d → run m v n c ≡ run m v n d
same_run m v zero c d same = ap (λ s. at_bound s c.world) (same_step m v c d same) ∙ ap (λ w. at_bound (step m v d) w) same.world
same_run m v (suc n) c d same =
    ap (λ s. after_step s c.world n (run m v n)) (same_step m v c d same) ∙ ap (λ w. after_step (step m v d) w n (run m v n)) same.world

pub same_after : (c d e : Config) → SameNext c d → SameNext d e → SameNext c e
same_after c d e first second = record { next = first.next ∙ second.next; world = first.world ∙ second.world }

pub found : (c : Config) (work : Work) (f : Frame) → stands_in c.frame ≡ Does work f → next_of c ≡ Found work f c.below
found c work f e = ap (λ s. fetched s c.below) e

pub doing : (m : Module) (v : View) (c : Config) (work : Work) (f : Frame) (a : Action) → stands_in c.frame ≡ Does work f → done m work (at_doing f c) ≡ a → step m v c ≡ resolved m v c.world a
doing m v c work f a e d = ap (λ o. step_of m v c.world o) (found c work f e) ∙ ap (λ x. resolved m v c.world x) d

-- work that goes on takes a step, and so does a trap
pub run_goes : (m : Module) (v : View) (n : ℕ) (c d : Config) (work : Work) (f : Frame) → stands_in c.frame ≡ Does work f → done m work (at_doing f c) ≡ Goes d → run m v (suc n) c ≡ run m v n d
run_goes m v n c d work f e goes = ap (λ s. after_step s c.world n (run m v n)) (doing m v c work f (Goes d) e goes)

pub run_traps : (m : Module) (v : View) (n : ℕ) (c : Config) (work : Work) (f : Frame) (code : ℕ) → stands_in c.frame ≡ Does work f → done m work (at_doing f c) ≡ Traps code → run m v (suc n) c ≡ Ended (Trap code) c.world n
run_traps m v n c work f code e traps = ap (λ s. after_step s c.world n (run m v n)) (doing m v c work f (Traps code) e traps)

-- a host call that goes on, and one that doesn't
pub run_calls : (m : Module) (v : View) (n : ℕ) (c d e : Config) (work : Work) (f : Frame) (k : ℕ) (args : List Num) → stands_in c.frame ≡ Does work f → done m work (at_doing f c) ≡ CallsHost k args d → host_called (shown_ranges (v.import_params k) args d.world.store.memory) m v k args d ≡ Next e → run m v (suc n) c ≡ run m v n e
run_calls m v n c d e work f k args stands calls goes =
    ap (λ s. after_step s c.world n (run m v n)) (doing m v c work f (CallsHost k args d) stands calls ∙ goes)

pub run_ends : (m : Module) (v : View) (n : ℕ) (c d : Config) (work : Work) (f : Frame) (k : ℕ) (args : List Num) (s : reduction.Stop) (w : World) → stands_in c.frame ≡ Does work f → done m work (at_doing f c) ≡ CallsHost k args d → host_called (shown_ranges (v.import_params k) args d.world.store.memory) m v k args d ≡ Stops s w → run m v (suc n) c ≡ Ended s w n
run_ends m v n c d work f k args s w stands calls ends =
    ap (λ s. after_step s c.world n (run m v n)) (doing m v c work f (CallsHost k args d) stands calls ∙ ends)

-- with no step left, work that is due isn't done
reply_bound : (t : Option ValType) (replies : List ℕ) (c : Config) (w : World) → at_bound (replied t replies c) w ≡ Going w
reply_bound None replies c w = refl
reply_bound (Some t) [] c w = refl
reply_bound (Some t) (r ∷ rs) c w = refl

host_bound : (shown : Option (List (List ℕ))) (m : Module) (v : View) (k : ℕ) (args : List Num) (c : Config) (w : World) → at_bound (host_called shown m v k args c) w ≡ Going w
host_bound None m v k args c w = refl
host_bound (Some shown) m v k args c w = reply_bound (result_of (func_type m k)) c.world.replies _ w

bound : (m : Module) (v : View) (w : World) (a : Action) → at_bound (resolved m v w a) w ≡ Going w
bound m v w (Goes c) = refl
bound m v w (CallsHost k args c) = host_bound (shown_ranges (v.import_params k) args c.world.store.memory) m v k args c w
bound m v w (Traps code) = refl

pub run_is_due : (m : Module) (v : View) (c : Config) (work : Work) (f : Frame) → stands_in c.frame ≡ Does work f → run m v zero c ≡ Going c.world
run_is_due m v c work f e = ap (λ s. at_bound s c.world) (doing m v c work f (done m work (at_doing f c)) e refl) ∙ bound m v c.world (done m work (at_doing f c))

-- where nothing is left to do, a run ends, with all its steps
pub run_is_over : (m : Module) (v : View) (n : ℕ) (c : Config) (results : List Num) → next_of c ≡ Over results → run m v n c ≡ Ended (Finished results) c.world n
run_is_over m v zero c results e = ap (λ o. at_bound (step_of m v c.world o) c.world) e
run_is_over m v (suc n) c results e = ap (λ o. after_step (step_of m v c.world o) c.world n (run m v n)) e
