-- Acting: whatever is done in a configuration that fits, it goes on with one that fits.
use Rattle.std.proofs.Common.{◌≡◌, ℕ, suc, ◌+◌, ◌-◌, ◌≤◌, Bool, true, false, cond, List, [], ◌∷◌, length, take, drop, reverse, Option, Some, None, refl, arith}
use Rattle.std.specs.Prelude.{nat_eq, nat_le, nat_lt, slice_get}
use Rattle.std.specs.Int.{byte_len}
use Rattle.zw_wasm.specs.declared.module.CodeBody.{CodeBody}
use Rattle.zw_wasm.specs.declared.module.FuncType.{FuncType}
use Rattle.zw_wasm.specs.declared.module.Instr.{Instr}
use Rattle.zw_wasm.specs.declared.module.Instr.TheVariants as instr
use Rattle.zw_wasm.specs.declared.module.LoadKind.{LoadKind}
use Rattle.zw_wasm.specs.declared.module.Module.{Module}
use Rattle.zw_wasm.specs.declared.module.StoreKind.{StoreKind}
use Rattle.zw_wasm.specs.declared.module.ValType.{ValType}
use Rattle.zw_wasm.specs.declared.module.ValType.TheVariants as ty
use Rattle.zw_wasm.specs.declared.num.Num.{Num}
use Rattle.zw_wasm.specs.declared.num.Num.TheVariants.{I32, I64}
use Rattle.zw_wasm.specs.Accesses.{bytes_stored, load_width}
use Rattle.zw_wasm.specs.Functions.{func_type}
use Rattle.zw_wasm.specs.Numerics.{Answer, Gives, binary_of}
use Rattle.zw_wasm.specs.Reduction.{Action, Begins, BeginsLoop, CallsHost, Chooses, Config, Goes, Label, Single, Traps, Work, act, answered, arity_of, branched, branched_by, branched_to, branched_unless_zero, called, called_at, called_by, chosen, compared, computed, converted, done, dropped, enter, entered, grown, grows, label_or, loaded, loads, max_frames, no_rule, on_one, on_operand, on_two, operated, returned, same_func_type, selected, stored, stores, tested, under_label, with_global, with_local, with_local_too, with_operand, with_operands}
use Rattle.zw_wasm.specs.Signature.{bytes_at}
use Rattle.zw_wasm.specs.Structure.{Code, width_of}
use Rattle.zw_wasm.specs.Typing.{converts_from}
use Rattle.zw_wasm_reach.specs.Counts.{deepest}
use Rattle.zw_wasm_reach.proofs.Depths.{body-depth, depth_of}
use Rattle.zw_wasm_reach.proofs.Fitting.{Fits, FramesFit, WorkFits, frames-more, label-fits, work_depth}

module _ (m : Module) where
  abbrev Fit : Config → Type 0
  Fit c = Fits (deepest m) c

  -- what an action goes on with fits
  abbrev pub ActionFits : Action → Type 0
  ActionFits (Goes c) = Fit c
  ActionFits (CallsHost k args c) = Unit {0}
  ActionFits (Traps code) = Unit {0}

  -- ---- operands, which say nothing of labels and code

  one-fits : (t : ValType) (go : ℕ → Config → Action) (os : List Num) (c : Config) → ((x : ℕ) (rest : List Num) → ActionFits (go x (with_operands rest c))) → ActionFits (on_one t go os c)
  one-fits ty.I32 go (I32 x ∷ os) c h = h x os
  one-fits ty.I64 go (I64 x ∷ os) c h = h x os
  one-fits t go os c h = tt

  two-fits : (t : ValType) (go : ℕ → ℕ → Config → Action) (os : List Num) (c : Config) → ((x y : ℕ) (rest : List Num) → ActionFits (go x y (with_operands rest c))) → ActionFits (on_two t go os c)
  two-fits ty.I32 go (I32 y ∷ I32 x ∷ os) c h = h x y os
  two-fits ty.I64 go (I64 y ∷ I64 x ∷ os) c h = h x y os
  two-fits t go os c h = tt

  operand-fits : (go : Num → Config → Action) (os : List Num) (c : Config) → ((v : Num) (rest : List Num) → ActionFits (go v (with_operands rest c))) → ActionFits (on_operand go os c)
  operand-fits go [] c h = tt
  operand-fits go (v ∷ os) c h = h v os

  selected-fits : (os : List Num) (c : Config) → Fit c → ActionFits (selected os c)
  selected-fits (I32 n ∷ y ∷ x ∷ os) c h = h
  selected-fits os c h = tt

  value-fits : (o : Option Num) (c : Config) → Fit c → ActionFits (with_operand o c)
  value-fits None c h = tt
  value-fits (Some v) c h = h

  answer-fits : (t : ValType) (answer : Answer) (c : Config) → Fit c → ActionFits (answered t answer c)
  answer-fits t (Gives n) c h = h
  answer-fits t answer c h = tt

  if-fits : (b : Bool) (x y : Action) → ActionFits x → ActionFits y → ActionFits (cond b x y)
  if-fits true x y h k = h
  if-fits false x y h k = k

  loaded-fits : (kind : LoadKind) (bytes : Option (List ℕ)) (c : Config) → Fit c → ActionFits (loaded kind bytes c)
  loaded-fits kind None c h = tt
  loaded-fits kind (Some bytes) c h = h

  stored-fits : (offset : ℕ) (bytes : List ℕ) (x : ℕ) (c : Config) → Fit c → ActionFits (stored offset bytes x c)
  stored-fits offset bytes x c h = if-fits (nat_le (x + offset + length bytes) (length c.world.store.memory)) _ _ h tt

  stores-fit : (kind : StoreKind) (offset value : ℕ) (c : Config) → Fit c → ActionFits (stores kind offset value c)
  stores-fit kind offset value c h =
      one-fits ty.I32 (stored offset (bytes_stored kind value)) c.frame.operands c (λ x os. stored-fits offset (bytes_stored kind value) x (with_operands os c) h)

  grown-fits : (b : Bool) (n : ℕ) (c : Config) → Fit c → ActionFits (grown b n c)
  grown-fits true n c h = h
  grown-fits false n c h = h

  -- ---- branches

  branched_to-fits : (o : Option Label) (n : ℕ) (c : Config) → slice_get c.frame.labels n ≡ o → Fit c → ActionFits (branched_to o n c)
  branched_to-fits (Some l) n c e h = if-fits (nat_le l.arity (length c.frame.operands)) _ _ (label-fits (deepest m) c.frame.labels n l h.0.1 e, h.1) tt
  branched_to-fits None n c e h =
      if-fits (nat_eq n (length c.frame.labels)) (returned c) (Traps no_rule) (if-fits (nat_le c.frame.arity (length c.frame.operands)) _ _ ((omega arith, tt), h.1) tt) tt

  branched-fits : (n : ℕ) (c : Config) → Fit c → ActionFits (branched n c)
  branched-fits n c h = branched_to-fits (slice_get c.frame.labels n) n c refl h

  -- ---- calls

  entered-fits : (o : Option CodeBody) (k f arity : ℕ) (args : List Num) (c : Config) → slice_get m.codes k ≡ o → FramesFit (deepest m) (c.frame ∷ c.below) → ActionFits (entered o f arity args c)
  entered-fits None k f arity args c e h = tt
  entered-fits (Some b) k f arity args c e h = let depth = body-depth m.codes k b e in ((omega arith, tt), h)

  pub enter-fits : (f : ℕ) (args : List Num) (c : Config) → FramesFit (deepest m) (c.frame ∷ c.below) → ActionFits (enter m f args c)
  enter-fits f args c h =
      if-fits (nat_lt f (length m.imports)) _ _ tt
      (if-fits (nat_le max_frames (length c.below)) _ _ tt (entered-fits (slice_get m.codes (f - length m.imports)) (f - length m.imports) f (arity_of (func_type m f)) args c refl h))

  called-fits : (f : ℕ) (o : Option FuncType) (c : Config) → Fit c → ActionFits (called m f o c)
  called-fits f None c h = tt
  called-fits f (Some t) c h =
      let d = with_operands (drop (length t.params) c.frame.operands) c in
      if-fits (nat_le (length t.params) (length c.frame.operands)) _ _
      (enter-fits f (reverse (take (length t.params) c.frame.operands)) d (frames-more (deepest m) d.frame d.below h.0 h.1)) tt

  called_by-fits : (t : Option FuncType) (entry : Option (Option ℕ)) (c : Config) → Fit c → ActionFits (called_by m t entry c)
  called_by-fits t (Some (Some f)) c h = if-fits (same_func_type t (func_type m f)) _ _ (called-fits f (func_type m f) c h) tt
  called_by-fits t entry c h = tt

  -- ---- instructions

  act-fits : (i : Instr) (c : Config) → Fit c → ActionFits (act m i c)
  act-fits instr.Nop c h = h
  act-fits (instr.Br n) c h = branched-fits n c h
  act-fits (instr.BrIf n) c h = one-fits ty.I32 (branched_unless_zero n) c.frame.operands c (λ x os. if-fits (nat_eq x 0) _ _ h (branched-fits n (with_operands os c) h))
  act-fits (instr.BrTable default labels) c h = one-fits ty.I32 (branched_by labels default) c.frame.operands c (λ x os. branched-fits (label_or default (slice_get labels x)) (with_operands os c) h)
  act-fits instr.Return c h = if-fits (nat_le c.frame.arity (length c.frame.operands)) _ _ ((omega arith, tt), h.1) tt
  act-fits (instr.Call f) c h = called-fits f (func_type m f) c h
  act-fits (instr.CallIndirect k) c h =
      one-fits ty.I32 (called_at m k) c.frame.operands c (λ x os. called_by-fits (slice_get m.types k) (slice_get c.world.store.table x) (with_operands os c) h)
  act-fits instr.Drop c h = operand-fits dropped c.frame.operands c (λ v os. h)
  act-fits instr.Select c h = selected-fits c.frame.operands c h
  act-fits (instr.LocalGet n) c h = value-fits (slice_get c.frame.locals n) c h
  act-fits (instr.LocalSet n) c h = operand-fits (with_local n) c.frame.operands c (λ v os. if-fits (nat_lt n (length c.frame.locals)) _ _ h tt)
  act-fits (instr.LocalTee n) c h = operand-fits (with_local_too n) c.frame.operands c (λ v os. if-fits (nat_lt n (length c.frame.locals)) _ _ h tt)
  act-fits (instr.GlobalGet n) c h = value-fits (slice_get c.world.store.globals n) c h
  act-fits (instr.GlobalSet n) c h = operand-fits (with_global n) c.frame.operands c (λ v os. if-fits (nat_lt n (length c.world.store.globals)) _ _ h tt)
  act-fits (instr.Load kind at) c h =
      one-fits ty.I32 (loads kind at.offset) c.frame.operands c (λ x os. loaded-fits kind (bytes_at c.world.store.memory (x + at.offset) (byte_len (load_width kind))) (with_operands os c) h)
  act-fits (instr.Store kind at) c h = one-fits _ (stores kind at.offset) c.frame.operands c (λ x os. stores-fit kind at.offset x (with_operands os c) h)
  act-fits instr.MemorySize c h = h
  act-fits instr.MemoryGrow c h = one-fits ty.I32 (grows m) c.frame.operands c (λ x os. grown-fits _ x (with_operands os c) h)
  act-fits (instr.I32Const z) c h = h
  act-fits (instr.I64Const z) c h = h
  act-fits (instr.IsZero t) c h = one-fits t tested c.frame.operands c (λ x os. h)
  act-fits (instr.Compare t comparison) c h = two-fits t (compared t comparison) c.frame.operands c (λ x y os. h)
  act-fits (instr.Unary t operator) c h = one-fits t (computed t operator) c.frame.operands c (λ x os. h)
  act-fits (instr.Binary t operator) c h =
      two-fits t (operated t operator) c.frame.operands c (λ x y os. answer-fits t (binary_of operator (width_of t) x y) (with_operands os c) h)
  act-fits (instr.Convert conversion) c h = one-fits (converts_from conversion) (converted conversion) c.frame.operands c (λ x os. h)
  act-fits i c h = tt

  -- ---- code under a label

  label-on : (result : Option ValType) (code : Code) (c : Config) → Fit c → suc (depth_of code) + length c.frame.labels ≤ deepest m → Fit (under_label result code c)
  label-on result code c h k = ((omega arith, (h.0.0, h.0.0, h.0.1)), h.1)

  chosen-fits : (result : Option ValType) (a b : Code) (v : Num) (c : Config) → Fit c → work_depth (Chooses result a b) + length c.frame.labels ≤ deepest m → ActionFits (chosen result a b v c)
  chosen-fits result a b (I64 n) c h k = tt
  chosen-fits result a b (I32 n) c h k = if-fits (nat_eq n 0) _ _ (label-on result b c h (omega arith)) (label-on result a c h (omega arith))

  pub done-fits : (work : Work) (c : Config) → WorkFits (deepest m) work c.frame → FramesFit (deepest m) c.below → ActionFits (done m work c)
  done-fits (Single i) c h k = act-fits i c (h.0, k)
  done-fits (Chooses result a b) c h k =
      operand-fits (chosen result a b) c.frame.operands c (λ v os. chosen-fits result a b v (with_operands os c) (h.0, k) h.1)
  done-fits (Begins result body) c h k = label-on result body c (h.0, k) h.1
  done-fits (BeginsLoop result body) c h k = ((omega arith, (omega arith, h.0.0, h.0.1)), k)
