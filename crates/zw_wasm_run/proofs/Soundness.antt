-- Soundness: steps of a configuration that has a type are sound, whatever the host replies.
use Rattle.std.proofs.Common.{◌≡◌, ℕ, zero, suc, List, [], ◌∷◌, reverse, Option, Some, None, refl, sym, ap, subst, ◌∙◌}
use Rattle.std.specs.Prelude.{slice_get}
use Rattle.std.specs.Option.{option_to_list}
use Rattle.zw_wasm.specs.declared.module.Instr.TheVariants as instr
use Rattle.zw_wasm.specs.declared.module.Module.{Module}
use Rattle.zw_wasm.specs.declared.module.ValType.{ValType}
use Rattle.zw_wasm.specs.declared.num.Num.{Num}
use Rattle.zw_wasm.specs.declared.num.Num.TheVariants.{I32, I64}
use Rattle.zw_wasm.specs.ModuleMachine.{param_types}
use Rattle.zw_wasm.specs.Reduction.{Action, Config, Found, Frame, Single, Work, done, pushed, result_of, with_world}
use Rattle.zw_wasm.specs.Structure.{num_of}
use Rattle.zw_wasm_sound.specs.Configurations.{IsTypedConfig, Waits}
use Rattle.zw_wasm_sound.specs.Steps.{FitsGlobal, IsTypedAction, IsTypedNext, IsTypedWork}
use Rattle.zw_wasm_sound.proofs.Entering.{HasTypedBodies}
use Rattle.zw_wasm_sound.proofs.Operands.{num_of-typed}
use Rattle.zw_wasm_sound.proofs.Sound.{given-typed, next-typed, world-typed}
use Rattle.zw_wasm_words.specs.Operands.{HasTypeOf}
use Rattle.zw_wasm_run.specs.Premises.{AfterReply, AreSound, IsDue, Leaves, SetsFit, WorkIsSound}
use Rattle.zw_wasm_run.specs.Running.{next_of}

has_type : (o : Option Num) (os : List Num) → FitsGlobal o os → HasTypeOf o os
has_type None os h = tt
has_type (Some u) [] h = tt
has_type (Some (I32 a)) (I32 b ∷ os) h = tt
has_type (Some (I64 a)) (I64 b ∷ os) h = tt
has_type (Some (I32 a)) (I64 b ∷ os) h = absurd (cc)
has_type (Some (I64 a)) (I32 b ∷ os) h = absurd (cc)

fits : (work : Work) (c : Config) → ((n : ℕ) → work ≡ Single (instr.GlobalSet n) → FitsGlobal (slice_get c.world.store.globals n) c.frame.operands) → SetsFit work c
fits (Single (instr.GlobalSet n)) c sets = has_type (slice_get c.world.store.globals n) c.frame.operands (sets n refl)
fits _ c sets = tt

work_is_sound : (m : Module) (results : List ValType) (work : Work) (c : Config) → IsTypedWork m results work c → WorkIsSound m work c
work_is_sound m results work c h = record {
  ruled = λ e. let typed = subst (λ a. IsTypedAction m results a) e h.does in typed refl;
  fits = fits work c h.sets;
  args = λ k args next e.
      let call = subst (λ a. IsTypedAction m results a) e h.does in
      call.args_typed ∙ ap param_types (sym call.func);
}

-- what holds of configurations that have a type holds of what comes of an action that has one
after_reply : (m : Module) (results : List ValType) (P : Config → Type 0) → ((d : Config) → IsTypedConfig m results d → P d) → (r : Option ValType) (c : Config) → Waits m results (reverse (option_to_list r)) c → AfterReply r P c
after_reply m results P go None c h = λ w e. go (with_world w c) (world-typed m results [] w c e h)
after_reply m results P go (Some t) c h = λ w e reply small. go (pushed (num_of t reply) (with_world w c)) (given-typed m results t (num_of t reply) (with_world w c) (num_of-typed t reply) (world-typed m results (t ∷ []) w c e h))

leaves : (m : Module) (results : List ValType) (P : Config → Type 0) → ((d : Config) → IsTypedConfig m results d → P d) → (a : Action) → IsTypedAction m results a → Leaves m P a
leaves m results P go a h = record {
  goes = λ d e. go d (subst (λ x. IsTypedAction m results x) e h);
  calls = λ k args d e.
      let call = subst (λ x. IsTypedAction m results x) e h in
      subst (λ o. AfterReply (result_of o) P d) (sym call.func) (after_reply m results P go call.ty.result d call.waits);
}

module _ (m : Module) (bodies : HasTypedBodies m) (results : List ValType) where
  typed_at : (c : Config) (work : Work) (f : Frame) (below : List Frame) → next_of c ≡ Found work f below → IsTypedConfig m results c → IsTypedWork m results work (record { frame = f; below = below; world = c.world })
  typed_at c work f below e h = subst (λ s. IsTypedNext m results c.world s) e (next-typed m bodies results c h)

  due : (c : Config) → IsTypedConfig m results c → IsDue m (reverse results) c
  due c h = record {
    over = λ os e. subst (λ s. IsTypedNext m results c.world s) e (next-typed m bodies results c h);
    found = λ work f below e. work_is_sound m results work (record { frame = f; below = below; world = c.world }) (typed_at c work f below e h);
  }

  -- each of so many steps
  pub are_sound : (n : ℕ) (c : Config) → IsTypedConfig m results c → AreSound m (reverse results) n c
  are_sound zero c h = due c h
  are_sound (suc n) c h = (
    due c h,
    λ work f below e.
        let typed = typed_at c work f below e h in
        leaves m results (AreSound m (reverse results) n) (are_sound n) (done m work (record { frame = f; below = below; world = c.world })) typed.does,
  )
