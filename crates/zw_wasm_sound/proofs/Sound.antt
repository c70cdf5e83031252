-- Sound: a configuration that has a type goes on to one that has it, or ends with results of their types, or traps for a cause.
use Rattle.std.proofs.Common.{◌≡◌, ℕ, zero, suc, List, [], ◌∷◌, ◌++◌, reverse, Option, Some, None, refl, sym, ap, subst, arith}
use Rattle.std.specs.Option.{option_to_list}
use Rattle.std.proofs.lemmas.List.{append-nil}
use Rattle.zw_wasm.specs.declared.module.FuncType.{FuncType}
use Rattle.zw_wasm.specs.declared.module.Module.{Module}
use Rattle.zw_wasm.specs.declared.module.ValType.{ValType}
use Rattle.zw_wasm.specs.declared.num.Num.{Num}
use Rattle.zw_wasm.specs.Functions.{func_type}
use Rattle.zw_wasm.specs.ModuleMachine.{idle}
use Rattle.zw_wasm.specs.Reduction.{Action, CallsHost, Config, Fetched, Found, Goes, Next, Over, Rests, Run, Step, Stops, Traps, World, after_step, at_bound, enter, fetched, host_called, pushed, replied, resolved, result_of, run, stands_in, step, step_of, with_world}
use Rattle.zw_wasm.specs.Signature.{View, shown_ranges}
use Rattle.zw_wasm.specs.Structure.{num_of}
use Rattle.zw_wasm_sound.specs.Configurations.{IsTypedConfig, IsTypedStore, Waits}
use Rattle.zw_wasm_sound.specs.Rules.{type_of, types_of}
use Rattle.zw_wasm_sound.specs.Steps.{IsTypedAction, IsTypedNext, IsTypedRun, IsTypedStep}
use Rattle.zw_wasm_sound.proofs.Doing.{work-typed}
use Rattle.zw_wasm_sound.proofs.Entering.{HasTypedBodies, entered-typed}
use Rattle.zw_wasm_sound.proofs.Operands.{num_of-typed}
use Rattle.zw_wasm_sound.proofs.Standing.{IsTypedFetched, frames-fetched, given-frames}

-- a configuration that waited for a number of this type
pub given-typed : (m : Module) (results : List ValType) (t : ValType) (v : Num) (c : Config) → type_of v ≡ t → Waits m results (t ∷ []) c → IsTypedConfig m results (pushed v c)
given-typed m results t v c e h = record {
  frames = given-frames m results (t ∷ []) c.frame c.below (v ∷ []) (ap (λ u. u ∷ []) e) h.frames;
  store = h.store;
}

-- a configuration in another world with the same store
pub world-typed : (m : Module) (results given : List ValType) (w : World) (c : Config) → w.store ≡ c.world.store → Waits m results given c → Waits m results given (with_world w c)
world-typed m results given w c e h = record { frames = h.frames; store = subst (IsTypedStore m) (sym e) h.store }

replied-typed : (m : Module) (results : List ValType) (r : Option ValType) (replies : List ℕ) (c : Config) → Waits m results (reverse (option_to_list r)) c → IsTypedStep m results (replied r replies c)
replied-typed m results None replies c h = h
replied-typed m results (Some t) [] c h = (tt, h.store)
replied-typed m results (Some t) (r ∷ rs) c h =
    let d = with_world (record c.world { replies = rs }) c in
    given-typed m results t (num_of t r) d (num_of-typed t r) (record { frames = h.frames; store = h.store })

replied-as : (m : Module) (results : List ValType) (o : Option FuncType) (t : FuncType) (replies : List ℕ) (c : Config) → o ≡ Some t → Waits m results (reverse (option_to_list t.result)) c → IsTypedStep m results (replied (result_of o) replies c)
replied-as m results o t replies c is h =
    subst (λ u. IsTypedStep m results (replied (result_of u) replies c)) (sym is) (replied-typed m results t.result replies c h)

module _ (m : Module) (bodies : HasTypedBodies m) (results : List ValType) where
  fetched-next : (w : World) (s : Fetched) → IsTypedStore m w.store → IsTypedFetched m results s → IsTypedNext m results w s
  fetched-next w (Found work f []) s h = absurd h
  fetched-next w (Found work f (g ∷ below)) s h = work-typed m bodies results h.0 w f g below work h.1 h.2 s
  fetched-next w (Over os) s h = h

  -- what comes next has a rule
  pub next-typed : (c : Config) → IsTypedConfig m results c → IsTypedNext m results c.world (fetched (stands_in c.frame) c.below)
  next-typed c h = fetched-next c.world (fetched (stands_in c.frame) c.below) h.store (frames-fetched m results c.below c.frame h.frames)

  host_called-typed : (o : Option (List (List ℕ))) (v : View) (k : ℕ) (args : List Num) (c : Config) (t : FuncType) → func_type m k ≡ Some t → Waits m results (reverse (option_to_list t.result)) c → IsTypedStep m results (host_called o m v k args c)
  host_called-typed None v k args c t is h = (λ e. absurd (omega (arith, e)), h.store)
  host_called-typed (Some shown) v k args c t is h =
      replied-as m results (func_type m k) t c.world.replies _ is (record { frames = h.frames; store = h.store })

  pub resolved-typed : (v : View) (w : World) (a : Action) → IsTypedStore m w.store → IsTypedAction m results a → IsTypedStep m results (resolved m v w a)
  resolved-typed v w (Goes c) s h = h
  resolved-typed v w (CallsHost k args c) s h =
      host_called-typed (shown_ranges (v.import_params k) args c.world.store.memory) v k args c h.ty h.func h.waits
  resolved-typed v w (Traps code) s h = (h, s)

  next-step : (v : View) (w : World) (s : Fetched) → IsTypedStore m w.store → IsTypedNext m results w s → IsTypedStep m results (step_of m v w s)
  next-step v w (Found work f below) s h = resolved-typed v w _ s h.does
  next-step v w (Over os) s h = h

  pub step-typed : (v : View) (c : Config) → IsTypedConfig m results c → IsTypedStep m results (step m v c)
  step-typed v c h = next-step v c.world (fetched (stands_in c.frame) c.below) h.store (next-typed c h)

  bound-typed : (s : Step) (w : World) → IsTypedStore m w.store → IsTypedStep m results s → IsTypedRun m results (at_bound s w)
  bound-typed (Next d) w s h = s
  bound-typed (Stops stop d) w s h = s
  bound-typed (Rests os) w s h = (h, s)

  after-typed : (s : Step) (w : World) (left : ℕ) (go : Config → Run) → IsTypedStore m w.store → ((d : Config) → IsTypedConfig m results d → IsTypedRun m results (go d)) → IsTypedStep m results s → IsTypedRun m results (after_step s w left go)
  after-typed (Next d) w left go s goes h = goes d h
  after-typed (Stops stop d) w left go s goes h = h
  after-typed (Rests os) w left go s goes h = (h, s)

  -- any number of steps
  pub run-typed : (v : View) (n : ℕ) (c : Config) → IsTypedConfig m results c → IsTypedRun m results (run m v n c)
  run-typed v zero c h = bound-typed (step m v c) c.world h.store (step-typed v c h)
  run-typed v (suc n) c h = after-typed (step m v c) c.world n (run m v n) h.store (run-typed v n) (step-typed v c h)

-- a call from outside
pub enter-typed : (m : Module) → HasTypedBodies m → (f : ℕ) (t : FuncType) (args : List Num) (w : World) → func_type m f ≡ Some t → types_of args ≡ t.params → IsTypedStore m w.store → IsTypedAction m (option_to_list t.result) (enter m f args (idle w))
enter-typed m bodies f t args w is e s = entered-typed m bodies (option_to_list t.result) f t args (idle w) is e (record {
  frames = record { code = refl; labels = refl; operands = host_nothing (option_to_list t.result) };
  store = s;
})
  where
    host_nothing : (rs : List ValType) → reverse rs ++ [] ≡ reverse rs
    host_nothing rs = append-nil (reverse rs)
