-- Induction over values.
use Rattle.std.specs.Prelude.{ℕ, ℤ, Bool, List, Some, None}
use Rattle.std.proofs.Common.{subst}
use Rattle.zw_types.specs.declared.value.TypeId.{TypeId}
use Rattle.zw_types.specs.declared.value.Value as V
use Rattle.zw_types.specs.declared.value.Value.{Value}
use Rattle.zw_types.specs.declared.value.Value.TheOpen.{Value-F}
use Rattle.zw_types.proofs.Each.{Each, Each-map}

-- P holds of a value where it holds of its parts
pub record Cases (P : Value → Type 0) : Type 0 where
  pub number : (z : ℤ) → P (V.roll-Value (Value-F.Number z))
  pub truth : (b : Bool) → P (V.roll-Value (Value-F.Truth b))
  pub undefined : P (V.roll-Value Value-F.Undefined)
  pub parts : (xs : List Value) → Each P xs → P (V.roll-Value (Value-F.Parts xs))
  pub null : P (V.roll-Value (Value-F.Optional None))
  pub optional : (x : Value) → P x → P (V.roll-Value (Value-F.Optional (Some x)))
  pub error : (n : ℕ) → P (V.roll-Value (Value-F.Error n))
  pub payload : (x : Value) → P x → P (V.roll-Value (Value-F.Payload x))
  pub tag : (n : ℕ) → P (V.roll-Value (Value-F.Tag n None))
  pub «union» : (n : ℕ) (x : Value) → P x → P (V.roll-Value (Value-F.Tag n (Some x)))
  pub literal : (name : List ℕ) → P (V.roll-Value (Value-F.Literal name))
  pub pointer : (obj : ℕ) (path : List ℕ) → P (V.roll-Value (Value-F.Pointer obj path))
  pub slice : (obj : ℕ) (path : List ℕ) (len : ℕ) → P (V.roll-Value (Value-F.Slice obj path len))
  pub held : (ty : TypeId) (at : ℕ) (xs : List Value) → Each P xs → P (V.roll-Value (Value-F.Held ty at xs))
  pub of_type : (ty : TypeId) → P (V.roll-Value (Value-F.OfType ty))
  pub func : (file node : ℕ) (xs : List Value) → Each P xs → P (V.roll-Value (Value-F.Func file node xs))
  pub «instance» : (n : ℕ) → P (V.roll-Value (Value-F.Instance n))

pub value_induction : (P : Value → Type 0) → Cases P → (x : Value) → P x
value_induction P c =
    V.ind-Value P (λ x y e. subst (λ (l : Value-F Value). P (V.roll-Value l)) e (elim y as (λ y. P (V.roll-Value (V.map-Value _ _ (λ p. p.0) y))) [
      | Value-F.Number z ↦ c.number z
      | Value-F.Truth b ↦ c.truth b
      | Value-F.Undefined ↦ c.undefined
      | Value-F.Parts ps ↦ c.parts _ (Each-map P (λ p. p.0) (λ p. p.1) ps)
      | Value-F.Optional None ↦ c.null
      | Value-F.Optional (Some p) ↦ c.optional p.0 p.1
      | Value-F.Error n ↦ c.error n
      | Value-F.Payload p ↦ c.payload p.0 p.1
      | Value-F.Tag n None ↦ c.tag n
      | Value-F.Tag n (Some p) ↦ c.«union» n p.0 p.1
      | Value-F.Literal name ↦ c.literal name
      | Value-F.Pointer obj path ↦ c.pointer obj path
      | Value-F.Slice obj path len ↦ c.slice obj path len
      | Value-F.Held ty at ps ↦ c.held ty at _ (Each-map P (λ p. p.0) (λ p. p.1) ps)
      | Value-F.OfType ty ↦ c.of_type ty
      | Value-F.Func file node ps ↦ c.func file node _ (Each-map P (λ p. p.0) (λ p. p.1) ps)
      | Value-F.Instance n ↦ c.«instance» n
    ]))
