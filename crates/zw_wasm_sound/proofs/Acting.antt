-- Acting: what instructions on operands, locals, globals and the memory come to, where they have types.
use Rattle.std.proofs.Common.{◌≡◌, ℕ, ◌+◌, ◌-◌, ◌*◌, ◌^◌, Bool, true, false, List, [], ◌∷◌, ◌++◌, length, replicate, reverse, Option, Some, None, refl, sym, ap, subst, ◌∙◌, arith}
use Rattle.std.specs.Prelude.{nat_le, nat_lt, slice_get, slice_set}
use Rattle.std.proofs.lemmas.Bool.{lt-ltb}
use Rattle.zw_wasm.specs.declared.module.LoadKind.{LoadKind}
use Rattle.zw_wasm.specs.declared.module.Module.{Module}
use Rattle.zw_wasm.specs.declared.module.StoreKind.{StoreKind}
use Rattle.zw_wasm.specs.declared.module.ValType.{ValType}
use Rattle.zw_wasm.specs.declared.module.ValType.TheVariants as ty
use Rattle.zw_wasm.specs.declared.num.Num.{Num}
use Rattle.zw_wasm.specs.declared.num.Num.TheVariants.{I32}
use Rattle.zw_wasm.specs.Accesses.{bits_loaded, bytes_stored, load_type}
use Rattle.zw_wasm.specs.Numerics.{Answer, Gives, DividesByZero, Overflows}
use Rattle.zw_wasm.specs.Reduction.{Config, Frame, Goes, Traps, answered, bounds_trap, grown, loaded, no_rule, overwritten, page_count, page_size, pushed, stored, stores, with_global, with_local, with_memory, with_operand, with_operands}
use Rattle.zw_wasm.specs.Structure.{number}
use Rattle.zw_wasm_sound.specs.Configurations.{AreTypedFrames, AreTypedLabels, IsTypedConfig, IsTypedFrame, IsTypedStore, Waits, context_of, global_types}
use Rattle.zw_wasm_sound.specs.Rules.{IsTypedCode, type_of, types_of}
use Rattle.zw_wasm_sound.specs.Steps.{IsTypedAction}
use Rattle.zw_wasm_sound.proofs.Operands.{either-way, if-so, number-typed, one-operand, there, types-set}

-- frames that wait for these results, the lowest of which is the host's
abbrev pub AreTypedBelow : Module → List ValType → List ValType → List Frame → Type 0
AreTypedBelow m results returns [] = ⊥
AreTypedBelow m results returns (g ∷ below) = AreTypedFrames m results (reverse returns) g below

-- all of a configuration but what is left of the code that runs, and its operands
pub record Surrounds (m : Module) (results locals returns : List ValType) (ls : List (List ValType)) (inner : List ValType) (c : Config) : Type 0 where
  pub has_locals : types_of c.frame.locals ≡ locals
  pub arity : c.frame.arity ≡ length returns
  pub labelled : AreTypedLabels (context_of m locals returns) c.frame.labels ls inner
  pub below : AreTypedBelow m results returns c.below
  pub store : IsTypedStore m c.world.store

-- the frame that runs on those below it
pub frames-on : (m : Module) (results given returns : List ValType) (f : Frame) (below : List Frame) → AreTypedBelow m results returns below → IsTypedFrame m given returns f → AreTypedFrames m results given f below
frames-on m results given returns f [] h k = absurd h
frames-on m results given returns f (g ∷ below) h k = (returns, k, h)

module _ (m : Module) (results locals returns : List ValType) (ls : List (List ValType)) (inner : List ValType) where
  abbrev pub Leads : Config → List ValType → Type 0
  Leads c ts = IsTypedCode (context_of m locals returns) ls inner c.frame.code ts

  abbrev pub Around : Config → Type 0
  Around c = Surrounds m results locals returns ls inner c

  -- the code goes on with these operands
  pub goes-on : (c : Config) → Around c → Leads c (types_of c.frame.operands) → IsTypedConfig m results c
  goes-on c s h = record {
    frames = frames-on m results [] returns c.frame c.below s.below (record { locals = locals; labels = ls; inner = inner; has_locals = s.has_locals; arity = s.arity; code = h; labelled = s.labelled });
    store = s.store;
  }

  -- or it waits for others on them
  pub waits-over : (c : Config) (os : List Num) (given : List ValType) → Around c → Leads c (given ++ types_of os) → Waits m results given (with_operands os c)
  waits-over c os given s h = record {
    frames = frames-on m results given returns (with_operands os c).frame c.below s.below (record { locals = locals; labels = ls; inner = inner; has_locals = s.has_locals; arity = s.arity; code = h; labelled = s.labelled });
    store = s.store;
  }

  pub over-operands : (c : Config) (os : List Num) → Around c → Around (with_operands os c)
  over-operands c os s = record { has_locals = s.has_locals; arity = s.arity; labelled = s.labelled; below = s.below; store = s.store }

  pub goes-over : (c : Config) (os : List Num) (ts : List ValType) → Around c → types_of os ≡ ts → Leads c ts → IsTypedConfig m results (with_operands os c)
  goes-over c os ts s e h = goes-on (with_operands os c) (over-operands c os s) (subst (λ us. Leads c us) (sym e) h)

  -- over these operands another one stands
  pub goes-pushed : (c : Config) (v : Num) (os : List Num) (t : ValType) (below : List ValType) → Around c → type_of v ≡ t → types_of os ≡ below → Leads c (t ∷ below) → IsTypedConfig m results (pushed v (with_operands os c))
  goes-pushed c v os t below s e f h = goes-over c (v ∷ os) (t ∷ below) s (ap (λ u. u ∷ types_of os) e ∙ ap (λ us. t ∷ us) f) h

  pub answer-typed : (t : ValType) (a : Answer) (c : Config) (os : List Num) (below : List ValType) → Around c → types_of os ≡ below → Leads c (t ∷ below) → IsTypedAction m results (answered t a (with_operands os c))
  answer-typed t (Gives n) c os below s e h = goes-pushed c (number t n) os t below s (number-typed t n) e h
  answer-typed t DividesByZero c os below s e h = λ k. absurd (omega (arith, k))
  answer-typed t Overflows c os below s e h = λ k. absurd (omega (arith, k))

  -- ---- locals and globals

  value-typed : (c : Config) (vs : List Num) (n : ℕ) (t : ValType) (below : List ValType) → Around c → slice_get (types_of vs) n ≡ Some t → types_of c.frame.operands ≡ below → Leads c (t ∷ below) → IsTypedAction m results (with_operand (slice_get vs n) c)
  value-typed c vs n t below s e f h =
      let x = there vs n t e in
      subst (λ o. IsTypedAction m results (with_operand o c)) (sym x.is) (goes-pushed c x.number c.frame.operands t below s x.typed f h)

  pub local-read : (c : Config) (n : ℕ) (t : ValType) (below : List ValType) → Around c → slice_get locals n ≡ Some t → types_of c.frame.operands ≡ below → Leads c (t ∷ below) → IsTypedAction m results (with_operand (slice_get c.frame.locals n) c)
  local-read c n t below s e f h = value-typed c c.frame.locals n t below s (ap (λ ts. slice_get ts n) s.has_locals ∙ e) f h

  pub global-read : (c : Config) (n : ℕ) (t : ValType) (below : List ValType) → Around c → slice_get (global_types m) n ≡ Some t → types_of c.frame.operands ≡ below → Leads c (t ∷ below) → IsTypedAction m results (with_operand (slice_get c.world.store.globals n) c)
  global-read c n t below s e f h = value-typed c c.world.store.globals n t below s (ap (λ ts. slice_get ts n) s.store.globals ∙ e) f h

  pub local-set : (c : Config) (n : ℕ) (v : Num) (t : ValType) → Around c → slice_get locals n ≡ Some t → type_of v ≡ t → Leads c (types_of c.frame.operands) → IsTypedAction m results (with_local n v c)
  local-set c n v t s e f h =
      let typed : slice_get (types_of c.frame.locals) n ≡ Some t = ap (λ ts. slice_get ts n) s.has_locals ∙ e in
      let x = there c.frame.locals n t typed in
      let d = record c { frame = record c.frame { locals = slice_set c.frame.locals n v } } in
      if-so (λ a. IsTypedAction m results a) (nat_lt n (length c.frame.locals)) (Goes d) (Traps no_rule) (lt-ltb n (length c.frame.locals) x.inside)
      (goes-on d (record { has_locals = types-set c.frame.locals n v t typed f ∙ s.has_locals; arity = s.arity; labelled = s.labelled; below = s.below; store = s.store }) h)

  pub global-set : (c : Config) (n : ℕ) (v : Num) (t : ValType) → Around c → slice_get (global_types m) n ≡ Some t → type_of v ≡ t → Leads c (types_of c.frame.operands) → IsTypedAction m results (with_global n v c)
  global-set c n v t s e f h =
      let typed : slice_get (types_of c.world.store.globals) n ≡ Some t = ap (λ ts. slice_get ts n) s.store.globals ∙ e in
      let x = there c.world.store.globals n t typed in
      let d = record c { world = record c.world { store = record c.world.store { globals = slice_set c.world.store.globals n v } } } in
      if-so (λ a. IsTypedAction m results a) (nat_lt n (length c.world.store.globals)) (Goes d) (Traps no_rule) (lt-ltb n (length c.world.store.globals) x.inside)
      (goes-on d (record { has_locals = s.has_locals; arity = s.arity; labelled = s.labelled; below = s.below; store = record { globals = types-set c.world.store.globals n v t typed f ∙ s.store.globals; table = s.store.table } }) h)

  -- ---- memory

  pub with-memory : (c : Config) (memory : List ℕ) → Around c → Around (with_memory memory c)
  with-memory c memory s = record { has_locals = s.has_locals; arity = s.arity; labelled = s.labelled; below = s.below; store = record { globals = s.store.globals; table = s.store.table } }

  pub load-typed : (kind : LoadKind) (bytes : Option (List ℕ)) (c : Config) (os : List Num) (below : List ValType) → Around c → types_of os ≡ below → Leads c (load_type kind ∷ below) → IsTypedAction m results (loaded kind bytes (with_operands os c))
  load-typed kind None c os below s e h = λ k. absurd (omega (arith, k))
  load-typed kind (Some bytes) c os below s e h =
      goes-pushed c (number (load_type kind) (bits_loaded kind bytes)) os (load_type kind) below s (number-typed (load_type kind) (bits_loaded kind bytes)) e h

  pub stored-typed : (c : Config) (os : List Num) (offset n : ℕ) (bytes : List ℕ) (below : List ValType) → Around c → types_of os ≡ below → Leads c below → IsTypedAction m results (stored offset bytes n (with_operands os c))
  stored-typed c os offset n bytes below s e h =
      let memory = c.world.store.memory in
      let after = overwritten memory (n + offset) bytes in
      either-way (λ a. IsTypedAction m results a) (nat_le (n + offset + length bytes) (length memory)) (Goes (with_memory after (with_operands os c))) (Traps bounds_trap)
      (goes-over (with_memory after c) os below (with-memory c after s) e h) (λ k. absurd (omega (arith, k)))

  pub stores-typed : (kind : StoreKind) (offset value : ℕ) (c : Config) (os : List Num) (below : List ValType) → Around c → types_of os ≡ ty.I32 ∷ below → Leads c below → IsTypedAction m results (stores kind offset value (with_operands os c))
  stores-typed kind offset value c os below s e h =
      one-operand (λ a. IsTypedAction m results a) ty.I32 below (stored offset (bytes_stored kind value)) os (with_operands os c) e
      (λ n rest f. stored-typed c rest offset n (bytes_stored kind value) below s f h)

  pub grown-typed : (b : Bool) (n : ℕ) (c : Config) (os : List Num) (below : List ValType) → Around c → types_of os ≡ below → Leads c (ty.I32 ∷ below) → IsTypedAction m results (grown b n (with_operands os c))
  grown-typed true n c os below s e h =
      let after = c.world.store.memory ++ replicate (n * page_size) 0 in
      goes-pushed (with_memory after c) (I32 (page_count c.world.store.memory)) os ty.I32 below (with-memory c after s) refl e h
  grown-typed false n c os below s e h = goes-pushed c (I32 (2 ^ 32 - 1)) os ty.I32 below s refl e h
