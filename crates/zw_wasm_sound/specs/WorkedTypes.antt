-- Which code has a type and which has none, worked out by hand: sums, what is left at an end, labels, and globals.
use Rattle.std.specs.Prelude.{◌≡◌, pos, false, List, [], ◌∷◌, Some, None, slice_get}
use Rattle.zw_wasm.specs.declared.module.GlobalDef.{GlobalDef}
use Rattle.zw_wasm.specs.declared.module.Instr.TheVariants.{Unreachable, Br, GlobalSet, I32Const, I64Const}
use Rattle.zw_wasm.specs.declared.module.ValType.{ValType}
use Rattle.zw_wasm.specs.declared.module.ValType.TheVariants.{I32}
use Rattle.zw_wasm.specs.Structure.{Block, Choice, Code, Ends, Plain, Repeat, i32_add}
use Rattle.zw_wasm.specs.Typing.{Context}
use Rattle.zw_wasm_sound.specs.Rules.{IsTypedCode}

-- as the code of a body with these results
abbrev pub IsTypedBody : Context → List ValType → Code → Type 0
IsTypedBody x results code = IsTypedCode x (results ∷ []) results code []

pub record WorkedTypes : Type 0 where
  pub sum : (x : Context) → IsTypedBody x (I32 ∷ []) (Plain (I32Const (pos 1)) (Plain (I32Const (pos 2)) (Plain i32_add Ends)))
  -- operands of two types, and one operand
  pub two_types : (x : Context) → IsTypedBody x (I32 ∷ []) (Plain (I64Const (pos 1)) (Plain (I32Const (pos 2)) (Plain i32_add Ends))) → ⊥
  pub too_few : (x : Context) → IsTypedBody x (I32 ∷ []) (Plain (I32Const (pos 1)) (Plain i32_add Ends)) → ⊥
  -- nothing but the results is left at the end
  pub left_over : (x : Context) → IsTypedBody x [] (Plain (I32Const (pos 1)) Ends) → ⊥
  pub no_result : (x : Context) → IsTypedBody x (I32 ∷ []) Ends → ⊥
  -- behind what never goes on, anything
  pub out_of_reach : (x : Context) → IsTypedBody x (I32 ∷ []) (Plain Unreachable (Plain i32_add Ends))
  -- a branch to a loop takes nothing, and one to a block its result; each label is there
  pub to_loop : (x : Context) → IsTypedBody x (I32 ∷ []) (Repeat (Some I32) (Plain (Br 0) Ends) Ends)
  pub to_block : (x : Context) → IsTypedBody x (I32 ∷ []) (Block (Some I32) (Plain (Br 0) Ends) Ends) → ⊥
  pub no_label : (x : Context) → IsTypedBody x [] (Block None (Plain (Br 2) Ends) Ends) → ⊥
  -- a choice without an `else` gives nothing
  pub without_else : (x : Context) → IsTypedBody x (I32 ∷ []) (Plain (I32Const (pos 0)) (Choice (Some I32) (Plain (I32Const (pos 1)) Ends) Ends Ends)) → ⊥
  -- a global that isn't mutable
  pub immutable : (x : Context) (g : GlobalDef) → slice_get x.module_.globals 0 ≡ Some g → g.mutable ≡ false → IsTypedBody x [] (Plain (I32Const (pos 1)) (Plain (GlobalSet 0) Ends)) → ⊥
