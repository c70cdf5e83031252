-- Which small code has a type and which has none.
use Rattle.std.proofs.Common.{◌≡◌, ℕ, ℤ, true, false, List, [], ◌∷◌, ◌++◌, reverse, Some, refl, sym, ap, ◌∙◌}
use Rattle.std.specs.Prelude.{pos, slice_get}
use Rattle.zw_wasm.specs.declared.module.BinaryOperator.{BinaryOperator}
use Rattle.zw_wasm.specs.declared.module.BinaryOperator.TheVariants.{Add}
use Rattle.zw_wasm.specs.declared.module.GlobalDef.{GlobalDef}
use Rattle.zw_wasm.specs.declared.module.Instr.TheVariants as instr
use Rattle.zw_wasm.specs.declared.module.ValType.{ValType}
use Rattle.zw_wasm.specs.declared.module.ValType.TheVariants.{I32, I64}
use Rattle.zw_wasm.specs.Typing.{Context}
use Rattle.zw_wasm_sound.specs.Rules.{HasType, InstrType, Leaves, Replaces, TakesTo}
use Rattle.zw_wasm_sound.specs.WorkedTypes.{WorkedTypes}

module _ (x : Context) (ls : List (List ValType)) where
  -- what follows a constant
  behind-i32 : (z : ℤ) (w : InstrType) (ts : List ValType) (goes : List ValType → Type 0) → HasType x ls (instr.I32Const z) w → TakesTo w ts goes → (us : List ValType) × (us ≡ I32 ∷ ts) × goes us
  behind-i32 z w ts goes (HasType.i32_const y) h = (I32 ∷ h.0, ap (λ us. I32 ∷ us) (sym h.1), h.2)

  behind-i64 : (z : ℤ) (w : InstrType) (ts : List ValType) (goes : List ValType → Type 0) → HasType x ls (instr.I64Const z) w → TakesTo w ts goes → (us : List ValType) × (us ≡ I64 ∷ ts) × goes us
  behind-i64 z w ts goes (HasType.i64_const y) h = (I64 ∷ h.0, ap (λ us. I64 ∷ us) (sym h.1), h.2)

  sum-takes : (t : ValType) (o : BinaryOperator) (w : InstrType) (ts : List ValType) (goes : List ValType → Type 0) → HasType x ls (instr.Binary t o) w → TakesTo w ts goes → (below : List ValType) × (ts ≡ t ∷ t ∷ below)
  sum-takes t o w ts goes (HasType.binary u p) h = (h.0, h.1)

  branch-takes : (n : ℕ) (w : InstrType) (ts : List ValType) (goes : List ValType → Type 0) → HasType x ls (instr.Br n) w → TakesTo w ts goes → (bs : List ValType) × (below : List ValType) × (slice_get ls n ≡ Some bs) × (ts ≡ reverse bs ++ below)
  branch-takes n w ts goes (HasType.br k bs is) h = (bs, h.0, is, h.1)

  set-changes : (n : ℕ) (w : InstrType) → HasType x ls (instr.GlobalSet n) w → (g : GlobalDef) × (slice_get x.module_.globals n ≡ Some g) × (g.mutable ≡ true)
  set-changes n w (HasType.global_set k g is changes) = (g, is, changes)

pub worked-types : WorkedTypes
worked-types = record {
  sum = λ x. record {
    ty = Replaces [] (I32 ∷ []);
    has = HasType.i32_const (pos 1);
    takes = (
      [],
      refl,
      record {
        ty = Replaces [] (I32 ∷ []);
        has = HasType.i32_const (pos 2);
        takes = (I32 ∷ [], refl, record { ty = Replaces (I32 ∷ I32 ∷ []) (I32 ∷ []); has = HasType.binary _ _; takes = ([], refl, refl) });
      },
    );
  };
  two_types = λ x h.
      let a = behind-i64 x ((I32 ∷ []) ∷ []) (pos 1) h.ty [] _ h.has h.takes in
      let b = behind-i32 x ((I32 ∷ []) ∷ []) (pos 2) a.2.ty a.0 _ a.2.has a.2.takes in
      let s = sum-takes x ((I32 ∷ []) ∷ []) I32 Add b.2.ty b.0 _ b.2.has b.2.takes in
      let same : I32 ∷ I64 ∷ [] ≡ I32 ∷ I32 ∷ s.0 = ap (λ us. I32 ∷ us) (sym a.1) ∙ sym b.1 ∙ s.1 in
      absurd (cc);
  too_few = λ x h.
      let a = behind-i32 x ((I32 ∷ []) ∷ []) (pos 1) h.ty [] _ h.has h.takes in
      let s = sum-takes x ((I32 ∷ []) ∷ []) I32 Add a.2.ty a.0 _ a.2.has a.2.takes in
      let same : I32 ∷ [] ≡ I32 ∷ I32 ∷ s.0 = sym a.1 ∙ s.1 in
      absurd (cc);
  left_over = λ x h.
      let a = behind-i32 x ([] ∷ []) (pos 1) h.ty [] _ h.has h.takes in
      let same : I32 ∷ [] ≡ [] = sym a.1 ∙ a.2 in
      absurd (cc);
  no_result = λ x h. absurd (cc);
  out_of_reach = λ x. record { ty = Leaves []; has = HasType.unreachable; takes = ([], refl) };
  to_loop = λ x. (record { ty = Leaves []; has = HasType.br 0 [] refl; takes = ([], refl) }, refl);
  to_block = λ x h.
      let b = branch-takes x ((I32 ∷ []) ∷ (I32 ∷ []) ∷ []) 0 h.0.ty [] _ h.0.has h.0.takes in
      let takes : I32 ∷ [] ≡ b.0 = cc (b.2) in
      let same : [] ≡ I32 ∷ b.1 = b.3 ∙ ap (λ bs. reverse bs ++ b.1) (sym takes) in
      absurd (cc);
  no_label = λ x h.
      let b = branch-takes x ([] ∷ [] ∷ []) 2 h.0.ty [] _ h.0.has h.0.takes in
      absurd (cc (b.2));
  without_else = λ x h.
      let a = behind-i32 x ((I32 ∷ []) ∷ []) (pos 0) h.ty [] _ h.has h.takes in
      absurd (cc (a.2.3));
  immutable = λ x g is fixed h.
      let a = behind-i32 x ([] ∷ []) (pos 1) h.ty [] _ h.has h.takes in
      let t = set-changes x ([] ∷ []) 0 a.2.ty a.2.has in
      let one : g ≡ t.0 = cc (is, t.1) in
      let same : false ≡ true = sym fixed ∙ ap (λ (k : GlobalDef). k.mutable) one ∙ t.2 in
      absurd (cc);
}
