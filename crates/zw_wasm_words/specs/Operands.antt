-- Operands: what an instruction does to the words that hold the operands and all that lies below them. A rule applies to it,
-- as one does in valid code.
use Rattle.std.specs.Prelude.{◌≡◌, ℕ, List, ◌∷◌, ◌++◌, reverse, Option, Some, slice_get}
use Rattle.zw_wasm.specs.declared.num.Num.{Num}
use Rattle.zw_wasm.specs.declared.num.Num.TheVariants as num
use Rattle.zw_wasm.specs.Reduction.{Action, Config, Goes, Traps, no_rule, on_operand, with_global, with_memory, with_operands}
use Rattle.zw_wasm_words.specs.declared.effect.Effect.{Effect}
use Rattle.zw_wasm_words.specs.declared.effect.Effect.TheVariants as effect
use Rattle.zw_wasm_words.specs.Words.{Hold}

-- a rule applies
abbrev pub IsRuled : Action → Type 0
IsRuled a = a ≡ Traps no_rule → ⊥

-- an action goes on with other operands, over what lies below them; or it traps
pub record GoesOn (a : Action) (c : Config) (base : List Num) (new : List ℕ) : Type 0 where
  pub operands : List Num
  pub goes : a ≡ Goes (with_operands operands c)
  pub held : Hold (reverse new) (operands ++ base)

abbrev pub EndsOn : Action → Config → List Num → Effect → List ℕ → Type 0
EndsOn a c base effect.Goes new = GoesOn a c base new
EndsOn a c base (effect.Traps code) new = a ≡ Traps code

-- an action of an instruction on the operands alone, where the last word holds the last operand
pub record ActsOnWords (action : Config → Action) (old : List ℕ) (e : Effect) (new : List ℕ) : Type 0 where
  pub by : (c : Config) (base : List Num) → Hold (reverse old) (c.frame.operands ++ base) → IsRuled (action c) → EndsOn (action c) c base e new

-- the same of an instruction that reads the memory
pub record ReadsMemory (memory : List ℕ) (action : Config → Action) (old : List ℕ) (e : Effect) (new : List ℕ) : Type 0 where
  pub by : (c : Config) (base : List Num) → c.world.store.memory ≡ memory → Hold (reverse old) (c.frame.operands ++ base) → IsRuled (action c) → EndsOn (action c) c base e new

-- an action goes on with other operands and another memory
pub record WritesOn (a : Action) (c : Config) (base : List Num) (memory new : List ℕ) : Type 0 where
  pub operands : List Num
  pub goes : a ≡ Goes (with_memory memory (with_operands operands c))
  pub held : Hold (reverse new) (operands ++ base)

abbrev pub EndsWriting : Action → Config → List Num → Effect → List ℕ → List ℕ → Type 0
EndsWriting a c base effect.Goes memory new = WritesOn a c base memory new
EndsWriting a c base (effect.Traps code) memory new = a ≡ Traps code

-- an instruction that writes the memory, which a trap leaves as it was
pub record WritesMemory (before after : List ℕ) (action : Config → Action) (old : List ℕ) (e : Effect) (new : List ℕ) : Type 0 where
  pub by : (c : Config) (base : List Num) → c.world.store.memory ≡ before → Hold (reverse old) (c.frame.operands ++ base) → IsRuled (action c) → EndsWriting (action c) c base e after new
  pub kept : (code : ℕ) → e ≡ effect.Traps code → after ≡ before

-- the same of an instruction that reads the globals
pub record ReadsGlobals (globals : List Num) (action : Config → Action) (old : List ℕ) (e : Effect) (new : List ℕ) : Type 0 where
  pub by : (c : Config) (base : List Num) → c.world.store.globals ≡ globals → Hold (reverse old) (c.frame.operands ++ base) → IsRuled (action c) → EndsOn (action c) c base e new

-- two numbers of one type
abbrev pub OneType : Num → Num → Type 0
OneType (num.I32 m) (num.I32 n) = Unit {0}
OneType (num.I64 m) (num.I64 n) = Unit {0}
OneType _ _ = ⊥

-- the last operand has the type of this number, where both are there
abbrev pub HasTypeOf : Option Num → List Num → Type 0
HasTypeOf (Some u) (v ∷ os) = OneType v u
HasTypeOf _ _ = Unit {0}

abbrev pub with_globals : List Num → Config → Config
with_globals globals c = record c { world = record c.world { store = record c.world.store { globals = globals } } }

-- an action goes on with other operands and other globals
pub record SetsOn (a : Action) (c : Config) (base globals : List Num) (new : List ℕ) : Type 0 where
  pub operands : List Num
  pub goes : a ≡ Goes (with_globals globals (with_operands operands c))
  pub held : Hold (reverse new) (operands ++ base)

abbrev pub EndsSetting : Action → Config → List Num → Effect → List Num → List ℕ → Type 0
EndsSetting a c base effect.Goes globals new = SetsOn a c base globals new
EndsSetting a c base (effect.Traps code) globals new = a ≡ Traps code

-- an instruction that sets the global with this number to an operand of its type
pub record SetsGlobal (n : ℕ) (before after : List Num) (old : List ℕ) (e : Effect) (new : List ℕ) : Type 0 where
  pub by : (c : Config) (base : List Num) → c.world.store.globals ≡ before → Hold (reverse old) (c.frame.operands ++ base) → HasTypeOf (slice_get before n) c.frame.operands → IsRuled (on_operand (with_global n) c.frame.operands c) → EndsSetting (on_operand (with_global n) c.frame.operands c) c base e after new
