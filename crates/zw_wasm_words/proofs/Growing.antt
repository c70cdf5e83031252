-- Growing: a memory that may not grow.
use Rattle.std.proofs.Common.{◌≡◌, ℕ, ◌+◌, ◌-◌, ◌%◌, ◌^◌, false, List, [], ◌∷◌, ◌++◌, reverse, refl, sym, ap, subst, ◌∙◌}
use Rattle.std.specs.Prelude.{◌||◌, nat_eq, nat_le}
use Rattle.zw_wasm.specs.declared.module.Module.{Module}
use Rattle.zw_wasm.specs.declared.module.ValType.TheVariants as ty
use Rattle.zw_wasm.specs.declared.num.Num.{Num}
use Rattle.zw_wasm.specs.declared.num.Num.TheVariants.{I32, I64}
use Rattle.zw_wasm.specs.Reduction.{Config, Goes, greatest_pages, grown, grows, on_one, page_count, with_memory, with_operands}
use Rattle.zw_wasm_words.specs.declared.effect.Effect.TheVariants as effect
use Rattle.zw_wasm_words.specs.Operands.{IsRuled, WritesMemory, WritesOn}
use Rattle.zw_wasm_words.specs.Words.{Hold}
use Rattle.zw_wasm_words.proofs.Shapes.{last_first}

refuses_on : (m : Module) (os : List Num) (c : Config) (base : List Num) (memory : List ℕ) (x most : ℕ) (ws new : List ℕ) → c.world.store.memory ≡ memory → greatest_pages m.memories ≡ most → (nat_eq (x % 2 ^ 32) 0 || nat_le (page_count memory + x % 2 ^ 32) most) ≡ false → reverse new ≡ (2 ^ 32 - 1) ∷ ws → Hold (x ∷ ws) (os ++ base) → IsRuled (on_one ty.I32 (grows m) os c) → WritesOn (on_one ty.I32 (grows m) os c) c base memory new
refuses_on m [] c base memory x most ws new same limit small last h ruled = absurd (ruled refl)
refuses_on m (I64 n ∷ os) c base memory x most ws new same limit small last h ruled = absurd (ruled refl)
refuses_on m (I32 n ∷ os) c base memory x most ws new same limit small last h ruled =
    let d = with_operands os c in
    let test : (nat_eq n 0 || nat_le (page_count c.world.store.memory + n) (greatest_pages m.memories)) ≡ false =
    ap (λ k. nat_eq k 0 || nat_le (page_count c.world.store.memory + k) (greatest_pages m.memories)) h.0
    ∙ ap (λ l. nat_eq (x % 2 ^ 32) 0 || nat_le (page_count l + x % 2 ^ 32) (greatest_pages m.memories)) same
    ∙ ap (λ k. nat_eq (x % 2 ^ 32) 0 || nat_le (page_count memory + x % 2 ^ 32) k) limit ∙ small in
    record {
      operands = I32 (2 ^ 32 - 1) ∷ os;
      goes = ap (λ b. grown b n d) test ∙ ap (λ l. Goes (with_memory l (with_operands (I32 (2 ^ 32 - 1) ∷ os) c))) same;
      held = subst (λ l. Hold l (I32 (2 ^ 32 - 1) ∷ os ++ base)) (sym last) (refl, h.1);
    }

-- the operand is -1 where the memory may not have so many pages more
pub grow_refused : (most x : ℕ) (memory old rest new : List ℕ) → old ≡ rest ++ x ∷ [] → new ≡ rest ++ (2 ^ 32 - 1) ∷ [] → (nat_eq (x % 2 ^ 32) 0 || nat_le (page_count memory + x % 2 ^ 32) most) ≡ false → (m : Module) → greatest_pages m.memories ≡ most → WritesMemory memory memory (λ c. on_one ty.I32 (grows m) c.frame.operands c) old effect.Goes new
grow_refused most x memory old rest new first last small m limit = record {
  by = λ c base same h ruled.
      refuses_on m c.frame.operands c base memory x most (reverse rest) new same limit small (last_first new rest (2 ^ 32 - 1) last)
      (subst (λ l. Hold l (c.frame.operands ++ base)) (last_first old rest x first) h) ruled;
  kept = λ code e. absurd (cc);
}
