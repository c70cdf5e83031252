-- Accepting: each plain instruction that the validation algorithm accepts over operands that are known has a type that fits them.
use Rattle.std.proofs.Common.{◌≡◌, ℕ, true, false, List, [], ◌∷◌, ◌++◌, reverse, Option, Some, refl, ap, ◌∙◌}
use Rattle.std.specs.Prelude.{is_some, slice_get}
use Rattle.std.specs.List.{list_all}
use Rattle.std.specs.Option.{option_to_list}
use Rattle.zw_wasm.specs.declared.module.FuncType.{FuncType}
use Rattle.zw_wasm.specs.declared.module.GlobalDef.{GlobalDef}
use Rattle.zw_wasm.specs.declared.module.Instr.{Instr}
use Rattle.zw_wasm.specs.declared.module.Instr.TheVariants as instr
use Rattle.zw_wasm.specs.declared.module.ValType.{ValType}
use Rattle.zw_wasm.specs.declared.module.ValType.TheVariants as ty
use Rattle.zw_wasm.specs.Accesses.{load_type, load_width, store_type, store_width}
use Rattle.zw_wasm.specs.Functions.{func_type}
use Rattle.zw_wasm.specs.Structure.{is_plain}
use Rattle.zw_wasm.specs.Typing.{Checked, Context, Control, Known, Goes, Refused, branches_by, branches_so, check_instr, chosen_one, converts_from, converts_to, joined, never_goes_on, no_index, one_taken, replaces, with_index, with_one, writes, wrong_type}
use Rattle.zw_wasm.proofs.TypingTakes.{known}
use Rattle.zw_wasm_sound.specs.Rules.{HasType, Leaves, Replaces}
use Rattle.zw_wasm_sound.proofs.Checking.{branches_of}
use Rattle.zw_wasm_sound.proofs.Finding.{Comes, all-each, arrived, branches-so, comes-access, comes-chosen, comes-if, comes-index, comes-leaving, comes-one, comes-operands, comes-replaces, label-at, last-first, leaves-first}

module _ (x : Context) (ts : List ValType) (c : Control) (outer : List Control) (reached : c.unreachable ≡ false) where
  abbrev ls : List (List ValType)
  ls = branches_of (c ∷ outer)

  abbrev Fits : Instr → Checked → Type 0
  Fits i r = Comes x ls i ts c r

  replaced : (i : Instr) (takes puts : List ValType) → HasType x ls i (Replaces (reverse takes) (reverse puts)) → Fits i (replaces takes puts (known ts) c outer)
  replaced i = comes-replaces x ls i ts c outer reached

  indexed : (i : Instr) {A : Type 0} (o : Option A) (go : A → Checked) → ((y : A) → o ≡ Some y → Fits i (go y)) → Fits i (with_index o go)
  indexed i = comes-index x ls i ts c outer reached

  by_table : (labels : List ℕ) (default : ℕ) (d : Control) → slice_get (c ∷ outer) default ≡ Some d → Fits (instr.BrTable default labels) (branches_by labels d (known ts) c outer)
  by_table labels default d is =
      let i = instr.BrTable default labels in
      let so = λ (l : ℕ). branches_so d.branch (slice_get (c ∷ outer) l) in
      let go = never_goes_on (d.branch ++ ty.I32 ∷ []) (known ts) c outer in
      comes-if x ls i ts c outer reached (list_all (λ l. is_some (slice_get (c ∷ outer) l)) labels) _ (Refused no_index)
      (λ there. comes-if x ls i ts c outer reached (list_all so labels) go (Refused wrong_type)
      (λ same. comes-leaving x ls i ts c outer reached (d.branch ++ ty.I32 ∷ [])
      (leaves-first x ls i d.branch (HasType.br_table labels default d.branch (label-at (c ∷ outer) default d is)
      (λ k n at. branches-so d.branch (c ∷ outer) n (slice_get (c ∷ outer) n) refl (all-each so labels k n same at))))) tt) tt

  pub accepted : (i : Instr) → is_plain i ≡ true → Fits i (check_instr x i (known ts) c outer)
  accepted (instr.Block result) h = absurd (cc)
  accepted (instr.Loop result) h = absurd (cc)
  accepted (instr.If result) h = absurd (cc)
  accepted instr.Else h = absurd (cc)
  accepted instr.End h = absurd (cc)
  accepted instr.Unreachable h = record { ty = Leaves []; has = HasType.unreachable; arrives = (ts, refl) }
  accepted instr.Nop h = arrived x ls instr.Nop ts c outer reached [] [] ts (known ts) HasType.nop refl refl
  accepted (instr.Br l) h =
      indexed (instr.Br l) (slice_get (c ∷ outer) l) (λ (d : Control). never_goes_on d.branch (known ts) c outer)
      (λ d is. comes-leaving x ls (instr.Br l) ts c outer reached d.branch (HasType.br l d.branch (label-at (c ∷ outer) l d is)))
  accepted (instr.BrIf l) h =
      indexed (instr.BrIf l) (slice_get (c ∷ outer) l) (λ (d : Control). replaces (d.branch ++ ty.I32 ∷ []) d.branch (known ts) c outer)
      (λ d is. replaced (instr.BrIf l) (d.branch ++ ty.I32 ∷ []) d.branch
      (last-first x ls (instr.BrIf l) d.branch (reverse d.branch) (HasType.br_if l d.branch (label-at (c ∷ outer) l d is))))
  accepted (instr.BrTable default labels) h =
      indexed (instr.BrTable default labels) (slice_get (c ∷ outer) default) (λ d. branches_by labels d (known ts) c outer) (λ d is. by_table labels default d is)
  accepted instr.Return h = comes-leaving x ls instr.Return ts c outer reached x.returns HasType.returns
  accepted (instr.Call f) h =
      indexed (instr.Call f) (func_type x.module_ f) (λ (t : FuncType). replaces t.params (option_to_list t.result) (known ts) c outer)
      (λ t is. replaced (instr.Call f) t.params (option_to_list t.result) (HasType.call f t is))
  accepted (instr.CallIndirect k) h =
      indexed (instr.CallIndirect k) (slice_get x.module_.tables 0)
      (λ table. with_index (slice_get x.module_.types k) (λ (t : FuncType). replaces (t.params ++ ty.I32 ∷ []) (option_to_list t.result) (known ts) c outer))
      (λ table is_table. indexed (instr.CallIndirect k) (slice_get x.module_.types k) (λ (t : FuncType). replaces (t.params ++ ty.I32 ∷ []) (option_to_list t.result) (known ts) c outer)
      (λ t is. replaced (instr.CallIndirect k) (t.params ++ ty.I32 ∷ []) (option_to_list t.result)
      (last-first x ls (instr.CallIndirect k) t.params (reverse (option_to_list t.result)) (HasType.call_indirect k t table is_table is))))
  accepted instr.Drop h =
      comes-one x ls instr.Drop ts c outer reached ts (λ o rest. Goes rest c outer)
      (λ t below e. arrived x ls instr.Drop ts c outer reached (t ∷ []) [] below (known below) (HasType.drop t) e refl)
  accepted instr.Select h =
      comes-operands x ls instr.Select ts c outer reached (ty.I32 ∷ []) ts
      (λ rest. with_one (one_taken rest c.unreachable) (λ o more. with_one (one_taken more c.unreachable) (λ p below. chosen_one (joined o p) below c outer)))
      (λ us e. comes-one x ls instr.Select ts c outer reached us (λ o more. with_one (one_taken more c.unreachable) (λ p below. chosen_one (joined o p) below c outer))
      (λ t vs f. comes-one x ls instr.Select ts c outer reached vs (λ p below. chosen_one (joined (Known t) p) below c outer)
      (λ u below g. comes-chosen x ls instr.Select ts c outer reached t u below
      (e ∙ ap (λ ws. ty.I32 ∷ ws) f ∙ ap (λ ws. ty.I32 ∷ t ∷ ws) g) (λ v. HasType.select v))))
  accepted (instr.LocalGet n) h =
      indexed (instr.LocalGet n) (slice_get x.locals n) (λ t. replaces [] (t ∷ []) (known ts) c outer)
      (λ t is. replaced (instr.LocalGet n) [] (t ∷ []) (HasType.local_get n t is))
  accepted (instr.LocalSet n) h =
      indexed (instr.LocalSet n) (slice_get x.locals n) (λ t. replaces (t ∷ []) [] (known ts) c outer)
      (λ t is. replaced (instr.LocalSet n) (t ∷ []) [] (HasType.local_set n t is))
  accepted (instr.LocalTee n) h =
      indexed (instr.LocalTee n) (slice_get x.locals n) (λ t. replaces (t ∷ []) (t ∷ []) (known ts) c outer)
      (λ t is. replaced (instr.LocalTee n) (t ∷ []) (t ∷ []) (HasType.local_tee n t is))
  accepted (instr.GlobalGet n) h =
      indexed (instr.GlobalGet n) (slice_get x.module_.globals n) (λ (g : GlobalDef). replaces [] (g.ty ∷ []) (known ts) c outer)
      (λ g is. replaced (instr.GlobalGet n) [] (g.ty ∷ []) (HasType.global_get n g is))
  accepted (instr.GlobalSet n) h =
      indexed (instr.GlobalSet n) (slice_get x.module_.globals n) (λ g. writes g (known ts) c outer)
      (λ g is. comes-if x ls (instr.GlobalSet n) ts c outer reached g.mutable (replaces (g.ty ∷ []) [] (known ts) c outer) (Refused wrong_type)
      (λ changes. replaced (instr.GlobalSet n) (g.ty ∷ []) [] (HasType.global_set n g is changes)) tt)
  accepted (instr.Load kind at) h =
      comes-access x ls (instr.Load kind at) ts c outer reached (load_width kind) at (ty.I32 ∷ []) (load_type kind ∷ []) (λ memory is aligned. HasType.load kind at memory is aligned)
  accepted (instr.Store kind at) h =
      comes-access x ls (instr.Store kind at) ts c outer reached (store_width kind) at (ty.I32 ∷ store_type kind ∷ []) [] (λ memory is aligned. HasType.store kind at memory is aligned)
  accepted instr.MemorySize h =
      indexed instr.MemorySize (slice_get x.module_.memories 0) (λ memory. replaces [] (ty.I32 ∷ []) (known ts) c outer)
      (λ memory is. replaced instr.MemorySize [] (ty.I32 ∷ []) (HasType.memory_size memory is))
  accepted instr.MemoryGrow h =
      indexed instr.MemoryGrow (slice_get x.module_.memories 0) (λ memory. replaces (ty.I32 ∷ []) (ty.I32 ∷ []) (known ts) c outer)
      (λ memory is. replaced instr.MemoryGrow (ty.I32 ∷ []) (ty.I32 ∷ []) (HasType.memory_grow memory is))
  accepted (instr.I32Const z) h = replaced (instr.I32Const z) [] (ty.I32 ∷ []) (HasType.i32_const z)
  accepted (instr.I64Const z) h = replaced (instr.I64Const z) [] (ty.I64 ∷ []) (HasType.i64_const z)
  accepted (instr.IsZero t) h = replaced (instr.IsZero t) (t ∷ []) (ty.I32 ∷ []) (HasType.is_zero t)
  accepted (instr.Compare t comparison) h = replaced (instr.Compare t comparison) (t ∷ t ∷ []) (ty.I32 ∷ []) (HasType.compare t comparison)
  accepted (instr.Unary t operator) h = replaced (instr.Unary t operator) (t ∷ []) (t ∷ []) (HasType.unary t operator)
  accepted (instr.Binary t operator) h = replaced (instr.Binary t operator) (t ∷ t ∷ []) (t ∷ []) (HasType.binary t operator)
  accepted (instr.Convert conversion) h =
      replaced (instr.Convert conversion) (converts_from conversion ∷ []) (converts_to conversion ∷ []) (HasType.convert conversion)
