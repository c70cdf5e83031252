-- Checking: what the validation algorithm's step on one instruction says, over operands that are known, and over any.
use Rattle.std.proofs.Common.{◌≡◌, ℕ, Bool, true, List, [], ◌∷◌, ◌++◌, map, Option, Some, None, refl}
use Rattle.std.specs.Prelude.{nat_le, is_some, slice_get}
use Rattle.std.specs.List.{list_all}
use Rattle.std.specs.Option.{option_to_list}
use Rattle.std.specs.Int.{Width}
use Rattle.zw_wasm.specs.declared.module.FuncType.{FuncType}
use Rattle.zw_wasm.specs.declared.module.GlobalDef.{GlobalDef}
use Rattle.zw_wasm.specs.declared.module.Instr.{Instr}
use Rattle.zw_wasm.specs.declared.module.Instr.TheVariants as instr
use Rattle.zw_wasm.specs.declared.module.MemoryArgument.{MemoryArgument}
use Rattle.zw_wasm.specs.declared.module.ValType.{ValType}
use Rattle.zw_wasm.specs.declared.module.ValType.TheVariants as ty
use Rattle.zw_wasm.specs.Accesses.{load_type, load_width, natural_alignment, store_type, store_width}
use Rattle.zw_wasm.specs.Functions.{func_type}
use Rattle.zw_wasm.specs.Structure.{is_plain}
use Rattle.zw_wasm.specs.Typing.{Checked, Context, Control, Operand, Goes, Closes, Refused, accesses, aligned, all_taken, branches_by, branches_so, check_instr, chosen_one, converts_from, converts_to, joined, never_goes_on, no_index, one_taken, put_on, replaces, with_index, with_one, with_operands, writes, wrong_alignment, wrong_type}
use Rattle.zw_wasm_sound.proofs.Operands.{either-way}

-- what branches to the entries of the control stack take
abbrev pub branches_of : List Control → List (List ValType)
branches_of cs = map (λ (d : Control). d.branch) cs

-- ---- a plain instruction leaves the control stack as it is, unless it puts what follows out of reach

abbrev pub Keeps : Control → List Control → Checked → Type 0
Keeps c outer (Goes os d others) = (u : Bool) × (d ≡ record c { unreachable = u }) × (others ≡ outer)
Keeps c outer Closes = ⊥
Keeps c outer (Refused code) = Unit {0}

module _ (c : Control) (outer : List Control) where
  kept : (os : List Operand) → Keeps c outer (Goes os c outer)
  kept os = (c.unreachable, refl, refl)

  keeps-operands : (o : Option (List Operand)) (go : List Operand → Checked) → ((os : List Operand) → Keeps c outer (go os)) → Keeps c outer (with_operands o go)
  keeps-operands None go h = tt
  keeps-operands (Some os) go h = h os

  keeps-index : {A : Type 0} (o : Option A) (go : A → Checked) → ((x : A) → Keeps c outer (go x)) → Keeps c outer (with_index o go)
  keeps-index None go h = tt
  keeps-index (Some x) go h = h x

  keeps-one : (o : Option (Operand × List Operand)) (go : Operand → List Operand → Checked) → ((p : Operand) (os : List Operand) → Keeps c outer (go p os)) → Keeps c outer (with_one o go)
  keeps-one None go h = tt
  keeps-one (Some p) go h = h p.0 p.1

  keeps-replaces : (takes puts : List ValType) (os : List Operand) → Keeps c outer (replaces takes puts os c outer)
  keeps-replaces takes puts os = keeps-operands (all_taken takes os c.unreachable) (λ rest. Goes (put_on puts rest) c outer) (λ rest. kept (put_on puts rest))

  keeps-leaving : (takes : List ValType) (os : List Operand) → Keeps c outer (never_goes_on takes os c outer)
  keeps-leaving takes os = keeps-operands (all_taken takes os c.unreachable) (λ rest. Goes [] (record c { unreachable = true }) outer) (λ rest. (true, refl, refl))

  keeps-chosen : (o : Option Operand) (os : List Operand) → Keeps c outer (chosen_one o os c outer)
  keeps-chosen None os = tt
  keeps-chosen (Some o) os = kept (o ∷ os)

  keeps-access : (x : Context) (w : Width) (at : MemoryArgument) (takes puts : List ValType) (os : List Operand) → Keeps c outer (accesses x w at takes puts os c outer)
  keeps-access x w at takes puts os =
      keeps-index (slice_get x.module_.memories 0) (λ memory. with_operands (all_taken takes os c.unreachable) (λ rest. aligned w at (Goes (put_on puts rest) c outer)))
      (λ memory. keeps-operands (all_taken takes os c.unreachable) (λ rest. aligned w at (Goes (put_on puts rest) c outer))
      (λ rest. either-way (Keeps c outer) (nat_le at.align (natural_alignment w)) (Goes (put_on puts rest) c outer) (Refused wrong_alignment) (kept (put_on puts rest)) tt))

  keeps-table : (labels : List ℕ) (d : Control) (os : List Operand) → Keeps c outer (branches_by labels d os c outer)
  keeps-table labels d os =
      either-way (Keeps c outer) (list_all (λ l. is_some (slice_get (c ∷ outer) l)) labels) _ (Refused no_index)
      (either-way (Keeps c outer) (list_all (λ l. branches_so d.branch (slice_get (c ∷ outer) l)) labels) (never_goes_on (d.branch ++ ty.I32 ∷ []) os c outer) (Refused wrong_type) (keeps-leaving (d.branch ++ ty.I32 ∷ []) os) tt)
      tt

  pub keeps-control : (x : Context) (i : Instr) (os : List Operand) → is_plain i ≡ true → Keeps c outer (check_instr x i os c outer)
  keeps-control x (instr.Block result) os h = absurd (cc)
  keeps-control x (instr.Loop result) os h = absurd (cc)
  keeps-control x (instr.If result) os h = absurd (cc)
  keeps-control x instr.Else os h = absurd (cc)
  keeps-control x instr.End os h = absurd (cc)
  keeps-control x instr.Unreachable os h = (true, refl, refl)
  keeps-control x instr.Nop os h = kept os
  keeps-control x (instr.Br l) os h = keeps-index (slice_get (c ∷ outer) l) (λ (d : Control). never_goes_on d.branch os c outer) (λ d. keeps-leaving d.branch os)
  keeps-control x (instr.BrIf l) os h = keeps-index (slice_get (c ∷ outer) l) (λ (d : Control). replaces (d.branch ++ ty.I32 ∷ []) d.branch os c outer) (λ d. keeps-replaces (d.branch ++ ty.I32 ∷ []) d.branch os)
  keeps-control x (instr.BrTable default labels) os h = keeps-index (slice_get (c ∷ outer) default) (λ d. branches_by labels d os c outer) (λ d. keeps-table labels d os)
  keeps-control x instr.Return os h = keeps-leaving x.returns os
  keeps-control x (instr.Call f) os h = keeps-index (func_type x.module_ f) (λ (t : FuncType). replaces t.params (option_to_list t.result) os c outer) (λ t. keeps-replaces t.params (option_to_list t.result) os)
  keeps-control x (instr.CallIndirect k) os h =
      keeps-index (slice_get x.module_.tables 0) (λ table. with_index (slice_get x.module_.types k) (λ (t : FuncType). replaces (t.params ++ ty.I32 ∷ []) (option_to_list t.result) os c outer))
      (λ table. keeps-index (slice_get x.module_.types k) (λ (t : FuncType). replaces (t.params ++ ty.I32 ∷ []) (option_to_list t.result) os c outer) (λ t. keeps-replaces (t.params ++ ty.I32 ∷ []) (option_to_list t.result) os))
  keeps-control x instr.Drop os h = keeps-one (one_taken os c.unreachable) (λ o rest. Goes rest c outer) (λ o rest. kept rest)
  keeps-control x instr.Select os h =
      keeps-operands (all_taken (ty.I32 ∷ []) os c.unreachable) (λ rest. with_one (one_taken rest c.unreachable) (λ o more. with_one (one_taken more c.unreachable) (λ p below. chosen_one (joined o p) below c outer)))
      (λ rest. keeps-one (one_taken rest c.unreachable) (λ o more. with_one (one_taken more c.unreachable) (λ p below. chosen_one (joined o p) below c outer))
      (λ o more. keeps-one (one_taken more c.unreachable) (λ p below. chosen_one (joined o p) below c outer) (λ p below. keeps-chosen (joined o p) below)))
  keeps-control x (instr.LocalGet n) os h = keeps-index (slice_get x.locals n) (λ t. replaces [] (t ∷ []) os c outer) (λ t. keeps-replaces [] (t ∷ []) os)
  keeps-control x (instr.LocalSet n) os h = keeps-index (slice_get x.locals n) (λ t. replaces (t ∷ []) [] os c outer) (λ t. keeps-replaces (t ∷ []) [] os)
  keeps-control x (instr.LocalTee n) os h = keeps-index (slice_get x.locals n) (λ t. replaces (t ∷ []) (t ∷ []) os c outer) (λ t. keeps-replaces (t ∷ []) (t ∷ []) os)
  keeps-control x (instr.GlobalGet n) os h = keeps-index (slice_get x.module_.globals n) (λ (g : GlobalDef). replaces [] (g.ty ∷ []) os c outer) (λ g. keeps-replaces [] (g.ty ∷ []) os)
  keeps-control x (instr.GlobalSet n) os h =
      keeps-index (slice_get x.module_.globals n) (λ g. writes g os c outer)
      (λ g. either-way (Keeps c outer) g.mutable (replaces (g.ty ∷ []) [] os c outer) (Refused wrong_type) (keeps-replaces (g.ty ∷ []) [] os) tt)
  keeps-control x (instr.Load kind at) os h = keeps-access x (load_width kind) at (ty.I32 ∷ []) (load_type kind ∷ []) os
  keeps-control x (instr.Store kind at) os h = keeps-access x (store_width kind) at (ty.I32 ∷ store_type kind ∷ []) [] os
  keeps-control x instr.MemorySize os h = keeps-index (slice_get x.module_.memories 0) (λ memory. replaces [] (ty.I32 ∷ []) os c outer) (λ memory. keeps-replaces [] (ty.I32 ∷ []) os)
  keeps-control x instr.MemoryGrow os h = keeps-index (slice_get x.module_.memories 0) (λ memory. replaces (ty.I32 ∷ []) (ty.I32 ∷ []) os c outer) (λ memory. keeps-replaces (ty.I32 ∷ []) (ty.I32 ∷ []) os)
  keeps-control x (instr.I32Const z) os h = keeps-replaces [] (ty.I32 ∷ []) os
  keeps-control x (instr.I64Const z) os h = keeps-replaces [] (ty.I64 ∷ []) os
  keeps-control x (instr.IsZero t) os h = keeps-replaces (t ∷ []) (ty.I32 ∷ []) os
  keeps-control x (instr.Compare t comparison) os h = keeps-replaces (t ∷ t ∷ []) (ty.I32 ∷ []) os
  keeps-control x (instr.Unary t operator) os h = keeps-replaces (t ∷ []) (t ∷ []) os
  keeps-control x (instr.Binary t operator) os h = keeps-replaces (t ∷ t ∷ []) (t ∷ []) os
  keeps-control x (instr.Convert conversion) os h = keeps-replaces (converts_from conversion ∷ []) (converts_to conversion ∷ []) os
