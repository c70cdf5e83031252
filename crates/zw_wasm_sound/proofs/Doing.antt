-- Doing: what comes of any work in a configuration that has a type.
use Rattle.std.proofs.Common.{◌≡◌, ℕ, ◌+◌, List, [], ◌∷◌, ◌++◌, reverse, Option, Some, refl, sym, ap, subst, ◌∙◌, arith}
use Rattle.std.specs.Prelude.{nat_eq, slice_get}
use Rattle.std.specs.Option.{option_map, option_to_list}
use Rattle.std.proofs.lemmas.Option.{slice_get-map}
use Rattle.zw_wasm.specs.declared.module.GlobalDef.{GlobalDef}
use Rattle.zw_wasm.specs.declared.module.Instr.{Instr}
use Rattle.zw_wasm.specs.declared.module.Instr.TheVariants.{GlobalSet}
use Rattle.zw_wasm.specs.declared.module.Module.{Module}
use Rattle.zw_wasm.specs.declared.module.ValType.{ValType}
use Rattle.zw_wasm.specs.declared.module.ValType.TheVariants as ty
use Rattle.zw_wasm.specs.declared.module.Conversion.{Conversion}
use Rattle.zw_wasm.specs.declared.module.Conversion.TheVariants.{Wrap, ExtendS, ExtendU}
use Rattle.zw_wasm.specs.declared.num.Num.{Num}
use Rattle.zw_wasm.specs.declared.num.Num.TheVariants.{I32, I64}
use Rattle.zw_wasm.specs.Accesses.{load_width, store_type}
use Rattle.zw_wasm.specs.Numerics.{binary_of, bit_of, is_related, unary_of}
use Rattle.std.specs.Int.{byte_len}
use Rattle.zw_wasm.specs.Reduction.{Action, Begins, BeginsLoop, Chooses, Config, Frame, Goes, Single, Work, World, act, branched_by, branched_unless_zero, called_at, chosen, compared, computed, conversion_of, converted, done, dropped, grows, loads, operated, pushed, stores, tested, under_label, under_loop, with_global, with_local, with_local_too, with_operands}
use Rattle.zw_wasm.specs.Signature.{bytes_at}
use Rattle.zw_wasm.specs.Structure.{Code, long_of, number, width_of, word_of}
use Rattle.zw_wasm.specs.Typing.{Context, converts_from, converts_to}
use Rattle.zw_wasm_sound.specs.Configurations.{AreTypedFrames, IsTypedConfig, IsTypedFrame, IsTypedStore, context_of, global_types}
use Rattle.zw_wasm_sound.specs.Rules.{HasType, InstrType, IsTypedCode, TakesTo, type_of, types_of}
use Rattle.zw_wasm_sound.specs.Steps.{FitsGlobal, IsTypedAction, IsTypedWork}
use Rattle.zw_wasm_sound.proofs.Acting.{Around, Leads, answer-typed, global-read, global-set, goes-on, goes-over, goes-pushed, grown-typed, load-typed, local-read, local-set, over-operands, stores-typed, waits-over}
use Rattle.zw_wasm_sound.proofs.Branching.{branched-typed, branched_by-typed, returned-typed, unless_zero-typed}
use Rattle.zw_wasm_sound.proofs.Entering.{HasTypedBodies, call-typed, called_at-typed}
use Rattle.zw_wasm_sound.proofs.Operands.{any-operand, either-way, number-typed, one-operand, selected-operand, there, two-operands}
use Rattle.zw_wasm_sound.proofs.Standing.{before_work}

-- the type of a global
pub global-is : (m : Module) (n : ℕ) (g : GlobalDef) → slice_get m.globals n ≡ Some g → slice_get (global_types m) n ≡ Some g.ty
global-is m n g e = slice_get-map (λ (h : GlobalDef). h.ty) m.globals n ∙ ap (option_map (λ (h : GlobalDef). h.ty)) e

conversion-typed : (conversion : Conversion) (n : ℕ) → type_of (conversion_of conversion n) ≡ converts_to conversion
conversion-typed Wrap n = refl
conversion-typed ExtendS n = refl
conversion-typed ExtendU n = refl

module _ (m : Module) (bodies : HasTypedBodies m) (results locals returns : List ValType) (ls : List (List ValType)) (inner : List ValType) where
  abbrev At : Config → Type 0
  At c = Around m results locals returns ls inner c

  abbrev To : Config → List ValType → Type 0
  To c ts = Leads m results locals returns ls inner c ts

  abbrev Fine : Action → Type 0
  Fine a = IsTypedAction m results a

  push : (c : Config) (v : Num) (os : List Num) (t : ValType) (below : List ValType) → At c → type_of v ≡ t → types_of os ≡ below → To c (t ∷ below) → IsTypedConfig m results (pushed v (with_operands os c))
  push = goes-pushed m results locals returns ls inner

  tee-typed : (c : Config) (n : ℕ) (v : Num) (os : List Num) (t : ValType) (below : List ValType) → At c → slice_get locals n ≡ Some t → type_of v ≡ t → types_of os ≡ below → To c (t ∷ below) → Fine (with_local_too n v (with_operands os c))
  tee-typed c n v os t below s is e f h =
      local-set m results locals returns ls inner (with_operands (v ∷ os) c) n v t (over-operands m results locals returns ls inner c (v ∷ os) s) is e
      (subst (λ ts. To c ts) (sym (ap (λ u. u ∷ types_of os) e ∙ ap (λ ts. t ∷ ts) f)) h)

  pub instr-typed : (c : Config) (i : Instr) (w : InstrType) → HasType (context_of m locals returns) ls i w → At c → TakesTo w (types_of c.frame.operands) (To c) → Fine (act m i c)
  instr-typed c i w HasType.unreachable s h = λ k. absurd (omega (arith, k))
  instr-typed c i w HasType.nop s h = goes-on m results locals returns ls inner c s (subst (To c) (sym h.1) h.2)
  instr-typed c i w (HasType.br n bs is) s h = branched-typed m results locals returns ls inner c n bs h.0 s is h.1
  instr-typed c i w (HasType.br_if n bs is) s h =
      one-operand Fine ty.I32 (reverse bs ++ h.0) (branched_unless_zero n) c.frame.operands c h.1
      (λ k os e. unless_zero-typed m results locals returns ls inner c os n k bs h.0 s is e h.2)
  instr-typed c i w (HasType.br_table labels default bs is each) s h =
      one-operand Fine ty.I32 (reverse bs ++ h.0) (branched_by labels default) c.frame.operands c h.1
      (λ k os e. branched_by-typed m results locals returns ls inner c os labels default k bs h.0 s is each e)
  instr-typed c i w HasType.returns s h = returned-typed m results locals returns ls inner c h.0 s h.1
  instr-typed c i w (HasType.call f t is) s h =
      call-typed m bodies results f t h.0 c is h.1
      (λ os e. waits-over m results locals returns ls inner c os (reverse (option_to_list t.result)) s (subst (λ ts. To c (reverse (option_to_list t.result) ++ ts)) (sym e) h.2))
  instr-typed c i w (HasType.call_indirect k t table is_table is) s h =
      one-operand Fine ty.I32 (reverse t.params ++ h.0) (called_at m k) c.frame.operands c h.1
      (λ n rest f. called_at-typed m bodies results k n t h.0 (with_operands rest c) is f
      (λ os e. waits-over m results locals returns ls inner c os (reverse (option_to_list t.result)) s (subst (λ ts. To c (reverse (option_to_list t.result) ++ ts)) (sym e) h.2)))
  instr-typed c i w (HasType.drop t) s h =
      any-operand Fine t h.0 dropped c.frame.operands c h.1 (λ v os e f. goes-over m results locals returns ls inner c os h.0 s f h.2)
  instr-typed c i w (HasType.select t) s h =
      selected-operand Fine t h.0 c.frame.operands c h.1 (λ v os e f. push c v os t h.0 s e f h.2)
  instr-typed c i w (HasType.local_get n t is) s h = local-read m results locals returns ls inner c n t h.0 s is h.1 h.2
  instr-typed c i w (HasType.local_set n t is) s h =
      any-operand Fine t h.0 (with_local n) c.frame.operands c h.1
      (λ v os e f. local-set m results locals returns ls inner (with_operands os c) n v t (over-operands m results locals returns ls inner c os s) is e (subst (To c) (sym f) h.2))
  instr-typed c i w (HasType.local_tee n t is) s h =
      any-operand Fine t h.0 (with_local_too n) c.frame.operands c h.1 (λ v os e f. tee-typed c n v os t h.0 s is e f h.2)
  instr-typed c i w (HasType.global_get n g is) s h = global-read m results locals returns ls inner c n g.ty h.0 s (global-is m n g is) h.1 h.2
  instr-typed c i w (HasType.global_set n g is changes) s h =
      any-operand Fine g.ty h.0 (with_global n) c.frame.operands c h.1
      (λ v os e f. global-set m results locals returns ls inner (with_operands os c) n v g.ty (over-operands m results locals returns ls inner c os s) (global-is m n g is) e (subst (To c) (sym f) h.2))
  instr-typed c i w (HasType.load kind at memory is_memory aligned) s h =
      one-operand Fine ty.I32 h.0 (loads kind at.offset) c.frame.operands c h.1
      (λ n os e. load-typed m results locals returns ls inner kind (bytes_at c.world.store.memory (n + at.offset) (byte_len (load_width kind))) c os h.0 s e h.2)
  instr-typed c i w (HasType.store kind at memory is_memory aligned) s h =
      one-operand Fine (store_type kind) (ty.I32 ∷ h.0) (stores kind at.offset) c.frame.operands c h.1
      (λ n os e. stores-typed m results locals returns ls inner kind at.offset n c os h.0 s e h.2)
  instr-typed c i w (HasType.memory_size memory is) s h = push c (I32 _) c.frame.operands ty.I32 h.0 s refl h.1 h.2
  instr-typed c i w (HasType.memory_grow memory is) s h =
      one-operand Fine ty.I32 h.0 (grows m) c.frame.operands c h.1 (λ n os e. grown-typed m results locals returns ls inner _ n c os h.0 s e h.2)
  instr-typed c i w (HasType.i32_const z) s h = push c (I32 (word_of z)) c.frame.operands ty.I32 h.0 s refl h.1 h.2
  instr-typed c i w (HasType.i64_const z) s h = push c (I64 (long_of z)) c.frame.operands ty.I64 h.0 s refl h.1 h.2
  instr-typed c i w (HasType.is_zero t) s h =
      one-operand Fine t h.0 tested c.frame.operands c h.1 (λ n os e. push c (I32 (bit_of (nat_eq n 0))) os ty.I32 h.0 s refl e h.2)
  instr-typed c i w (HasType.compare t comparison) s h =
      two-operands Fine t h.0 (compared t comparison) c.frame.operands c h.1
      (λ x y os e. push c (I32 (bit_of (is_related comparison (width_of t) x y))) os ty.I32 h.0 s refl e h.2)
  instr-typed c i w (HasType.unary t operator) s h =
      one-operand Fine t h.0 (computed t operator) c.frame.operands c h.1
      (λ n os e. push c (number t (unary_of operator (width_of t) n)) os t h.0 s (number-typed t (unary_of operator (width_of t) n)) e h.2)
  instr-typed c i w (HasType.binary t operator) s h =
      two-operands Fine t h.0 (operated t operator) c.frame.operands c h.1
      (λ x y os e. answer-typed m results locals returns ls inner t (binary_of operator (width_of t) x y) c os h.0 s e h.2)
  instr-typed c i w (HasType.convert conversion) s h =
      one-operand Fine (converts_from conversion) h.0 (converted conversion) c.frame.operands c h.1
      (λ n os e. push c (conversion_of conversion n) os (converts_to conversion) h.0 s (conversion-typed conversion n) e h.2)

  -- ---- code under labels

  label-typed : (c : Config) (result : Option ValType) (code : Code) → At c → IsTypedCode (context_of m locals returns) (option_to_list result ∷ ls) (option_to_list result) code [] → To c (reverse (option_to_list result) ++ types_of c.frame.operands) → IsTypedConfig m results (under_label result code c)
  label-typed c result code s h k =
      goes-on m results locals returns (option_to_list result ∷ ls) (option_to_list result) (under_label result code c)
      (record { has_locals = s.has_locals; arity = s.arity; labelled = (inner, record { arity = refl; branch = k; follows = k }, s.labelled); below = s.below; store = s.store }) h

  loop-typed : (c : Config) (result : Option ValType) (code : Code) → At c → IsTypedCode (context_of m locals returns) ([] ∷ ls) (option_to_list result) code [] → To c (reverse (option_to_list result) ++ types_of c.frame.operands) → IsTypedConfig m results (under_loop result code c)
  loop-typed c result code s h k =
      goes-on m results locals returns ([] ∷ ls) (option_to_list result) (under_loop result code c)
      (record { has_locals = s.has_locals; arity = s.arity; labelled = (inner, record { arity = refl; branch = (h, k); follows = k }, s.labelled); below = s.below; store = s.store }) h

  chosen-typed : (c : Config) (result : Option ValType) (a b : Code) (v : Num) (os : List Num) (below : List ValType) → At c → type_of v ≡ ty.I32 → types_of os ≡ below → IsTypedCode (context_of m locals returns) (option_to_list result ∷ ls) (option_to_list result) a [] → IsTypedCode (context_of m locals returns) (option_to_list result ∷ ls) (option_to_list result) b [] → To c (reverse (option_to_list result) ++ below) → Fine (chosen result a b v (with_operands os c))
  chosen-typed c result a b (I64 n) os below s e f h k l = absurd (cc)
  chosen-typed c result a b (I32 n) os below s e f h k l =
      let d = with_operands os c in
      let on = over-operands m results locals returns ls inner c os s in
      let rest = subst (λ ts. To c (reverse (option_to_list result) ++ ts)) (sym f) l in
      either-way Fine (nat_eq n 0) (Goes (under_label result b d)) (Goes (under_label result a d)) (label-typed d result b on k rest) (label-typed d result a on h rest)

-- the operand of a `global.set`
set-fits : (m : Module) (globals os : List Num) (n : ℕ) (g : GlobalDef) (below : List ValType) → types_of globals ≡ global_types m → slice_get m.globals n ≡ Some g → types_of os ≡ g.ty ∷ below → FitsGlobal (slice_get globals n) os
set-fits m globals [] n g below e is h = absurd (cc)
set-fits m globals (v ∷ os) n g below e is h =
    let x = there globals n g.ty (ap (λ ts. slice_get ts n) e ∙ global-is m n g is) in
    let first : type_of v ≡ type_of x.number = cc (x.typed) in
    subst (λ o. FitsGlobal o (v ∷ os)) (sym x.is) first

set-typed : (x : Context) (ls : List (List ValType)) (n : ℕ) (i : Instr) (w : InstrType) (ts : List ValType) (goes : List ValType → Type 0) (globals os : List Num) → HasType x ls i w → i ≡ GlobalSet n → TakesTo w ts goes → types_of os ≡ ts → types_of globals ≡ global_types x.module_ → FitsGlobal (slice_get globals n) os
set-typed x ls n i w ts goes globals os (HasType.global_set k g is changes) e h same typed =
    let index : k ≡ n = cc in
    set-fits x.module_ globals os n g h.0 typed (ap (slice_get x.module_.globals) (sym index) ∙ is) (same ∙ h.1)
set-typed x ls n i w ts goes globals os _ e h same typed = absurd (cc)

module _ (m : Module) (bodies : HasTypedBodies m) (results returns : List ValType) where
  -- what surrounds the work of a frame over others
  around-work : (w : World) (f : Frame) (g : Frame) (below : List Frame) (work : Work) (h : IsTypedFrame m [] returns (before_work work f)) → AreTypedFrames m results (reverse returns) g below → IsTypedStore m w.store → Around m results h.locals returns h.labels h.inner (record { frame = f; below = g ∷ below; world = w })
  around-work w f g below work h k s = record { has_locals = h.has_locals; arity = h.arity; labelled = h.labelled; below = k; store = s }

  done-typed : (w : World) (f : Frame) (g : Frame) (below : List Frame) (work : Work) → IsTypedFrame m [] returns (before_work work f) → AreTypedFrames m results (reverse returns) g below → IsTypedStore m w.store → IsTypedAction m results (done m work (record { frame = f; below = g ∷ below; world = w }))
  done-typed w f g below (Single i) h k s =
      instr-typed m bodies results h.locals returns h.labels h.inner (record { frame = f; below = g ∷ below; world = w }) i h.code.ty h.code.has (around-work w f g below (Single i) h k s) h.code.takes
  done-typed w f g below (Chooses result a b) h k s =
      let c : Config = record { frame = f; below = g ∷ below; world = w } in
      any-operand (λ x. IsTypedAction m results x) ty.I32 h.code.0 (chosen result a b) f.operands c h.code.1
      (λ v os e t. chosen-typed m bodies results h.locals returns h.labels h.inner c result a b v os h.code.0 (around-work w f g below (Chooses result a b) h k s) e t h.code.2 h.code.3 h.code.4)
  done-typed w f g below (Begins result body) h k s =
      label-typed m bodies results h.locals returns h.labels h.inner (record { frame = f; below = g ∷ below; world = w }) result body (around-work w f g below (Begins result body) h k s) h.code.0 h.code.1
  done-typed w f g below (BeginsLoop result body) h k s =
      loop-typed m bodies results h.locals returns h.labels h.inner (record { frame = f; below = g ∷ below; world = w }) result body (around-work w f g below (BeginsLoop result body) h k s) h.code.0 h.code.1

  sets-typed : (w : World) (f : Frame) (work : Work) (n : ℕ) → IsTypedFrame m [] returns (before_work work f) → IsTypedStore m w.store → work ≡ Single (GlobalSet n) → FitsGlobal (slice_get w.store.globals n) f.operands
  sets-typed w f (Single i) n h s e =
      let same : i ≡ GlobalSet n = cc in
      set-typed (context_of m h.locals returns) h.labels n i h.code.ty (types_of f.operands) (IsTypedCode (context_of m h.locals returns) h.labels h.inner f.code) w.store.globals f.operands h.code.has same h.code.takes refl s.globals
  sets-typed w f (Chooses result a b) n h s e = absurd (cc)
  sets-typed w f (Begins result body) n h s e = absurd (cc)
  sets-typed w f (BeginsLoop result body) n h s e = absurd (cc)

  pub work-typed : (w : World) (f : Frame) (g : Frame) (below : List Frame) (work : Work) → IsTypedFrame m [] returns (before_work work f) → AreTypedFrames m results (reverse returns) g below → IsTypedStore m w.store → IsTypedWork m results work (record { frame = f; below = g ∷ below; world = w })
  work-typed w f g below work h k s = record { does = done-typed w f g below work h k s; sets = λ n e. sets-typed w f work n h s e }
