-- Shapes: instructions that take two or three operands and give one, on words that hold them.
use Rattle.std.proofs.Common.{◌≡◌, ℕ, ◌+◌, ◌<◌, ◌%◌, ◌^◌, Option, Some, None, List, [], ◌∷◌, ◌++◌, Bool, true, false, reverse, refl, sym, ap, subst, ◌∙◌, cond, eqb, arith}
use Rattle.std.proofs.lemmas.List.{reverse-append}
use Rattle.std.specs.Int.{byte_len}
use Rattle.std.specs.Option.{option_map}
use Rattle.zw_wasm.specs.Accesses.{bits_loaded, load_type, load_width}
use Rattle.zw_wasm.specs.Numerics.{bit_width}
use Rattle.zw_wasm.specs.Signature.{bytes_at}
use Rattle.zw_wasm.specs.Structure.{number, width_of}
use Rattle.zw_wasm.specs.declared.module.LoadKind.{LoadKind}
use Rattle.zw_wasm.specs.declared.module.ValType.{ValType}
use Rattle.zw_wasm.specs.declared.module.ValType.TheVariants as ty
use Rattle.zw_wasm.specs.declared.num.Num.{Num}
use Rattle.zw_wasm.specs.declared.num.Num.TheVariants.{I32, I64}
use Rattle.zw_wasm.specs.Reduction.{Action, Config, Goes, loaded, loads, on_one, on_two, pushed, selected, with_operands}
use Rattle.zw_wasm_words.specs.declared.effect.Effect.TheVariants as effect
use Rattle.zw_wasm_words.specs.Operands.{ActsOnWords, GoesOn, IsRuled, ReadsMemory}
use Rattle.zw_wasm_words.specs.Words.{Hold, Holds, bits_in}

-- the last word comes first in reverse
pub last_first : (old rest : List ℕ) (x : ℕ) → old ≡ rest ++ x ∷ [] → reverse old ≡ x ∷ reverse rest
last_first old rest x e = ap reverse e ∙ reverse-append rest (x ∷ [])

two_on : (t : ValType) (go : ℕ → ℕ → Config → Action) (os : List Num) (c : Config) (base : List Num) (x y r : ℕ) (ws new : List ℕ) (v : Num) → ((d : Config) → go (bits_in t x) (bits_in t y) d ≡ Goes (pushed v d)) → Holds r v → reverse new ≡ r ∷ ws → Hold (y ∷ x ∷ ws) (os ++ base) → IsRuled (on_two t go os c) → GoesOn (on_two t go os c) c base new
two_on ty.I32 go (I32 b ∷ I32 a ∷ os) c base x y r ws new v goes holds last h ruled = record {
  operands = v ∷ os;
  goes = ap (λ n. go n b (with_operands os c)) h.1.0 ∙ ap (λ n. go (bits_in ty.I32 x) n (with_operands os c)) h.0 ∙ goes (with_operands os c);
  held = subst (λ l. Hold l (v ∷ os ++ base)) (sym last) (holds, h.1.1);
}
two_on ty.I64 go (I64 b ∷ I64 a ∷ os) c base x y r ws new v goes holds last h ruled = record {
  operands = v ∷ os;
  goes = ap (λ n. go n b (with_operands os c)) h.1.0 ∙ ap (λ n. go x n (with_operands os c)) h.0 ∙ goes (with_operands os c);
  held = subst (λ l. Hold l (v ∷ os ++ base)) (sym last) (holds, h.1.1);
}
two_on ty.I32 go [] c base x y r ws new v goes holds last h ruled = absurd (ruled refl)
two_on ty.I32 go (I64 b ∷ os) c base x y r ws new v goes holds last h ruled = absurd (ruled refl)
two_on ty.I32 go (I32 b ∷ []) c base x y r ws new v goes holds last h ruled = absurd (ruled refl)
two_on ty.I32 go (I32 b ∷ I64 a ∷ os) c base x y r ws new v goes holds last h ruled = absurd (ruled refl)
two_on ty.I64 go [] c base x y r ws new v goes holds last h ruled = absurd (ruled refl)
two_on ty.I64 go (I32 b ∷ os) c base x y r ws new v goes holds last h ruled = absurd (ruled refl)
two_on ty.I64 go (I64 b ∷ []) c base x y r ws new v goes holds last h ruled = absurd (ruled refl)
two_on ty.I64 go (I64 b ∷ I32 a ∷ os) c base x y r ws new v goes holds last h ruled = absurd (ruled refl)

-- two operands give one
pub two_give : (t : ValType) (go : ℕ → ℕ → Config → Action) (old mid rest new : List ℕ) (x y r : ℕ) (v : Num) → old ≡ mid ++ y ∷ [] → mid ≡ rest ++ x ∷ [] → new ≡ rest ++ r ∷ [] → ((d : Config) → go (bits_in t x) (bits_in t y) d ≡ Goes (pushed v d)) → Holds r v → ActsOnWords (λ c. on_two t go c.frame.operands c) old effect.Goes new
two_give t go old mid rest new x y r v first second last goes holds = record {
  by = λ c base h ruled.
      two_on t go c.frame.operands c base x y r (reverse rest) new v goes holds (last_first new rest r last)
      (subst (λ l. Hold l (c.frame.operands ++ base)) (last_first old mid y first ∙ ap (λ l. y ∷ l) (last_first mid rest x second)) h) ruled;
}

chosen_holds : (b : Bool) (x y : ℕ) (v u : Num) → Holds x v → Holds y u → Holds (cond b y x) (cond b u v)
chosen_holds true x y v u hx hy = hy
chosen_holds false x y v u hx hy = hx

select_on : (os : List Num) (c : Config) (base : List Num) (x y z r : ℕ) (ws new : List ℕ) → r ≡ cond (eqb (z % 2 ^ 32) 0) y x → reverse new ≡ r ∷ ws → Hold (z ∷ y ∷ x ∷ ws) (os ++ base) → IsRuled (selected os c) → GoesOn (selected os c) c base new
select_on (I32 n ∷ u ∷ v ∷ os) c base x y z r ws new value last h ruled = record {
  operands = cond (eqb n 0) u v ∷ os;
  goes = refl;
  held =
      subst (λ l. Hold l (cond (eqb n 0) u v ∷ os ++ base)) (sym last)
      (subst (λ w. Holds w (cond (eqb n 0) u v)) (ap (λ k. cond (eqb k 0) y x) h.0 ∙ sym value) (chosen_holds (eqb n 0) x y v u h.1.1.0 h.1.0), h.1.1.1);
}
select_on [] c base x y z r ws new value last h ruled = absurd (ruled refl)
select_on (I64 n ∷ os) c base x y z r ws new value last h ruled = absurd (ruled refl)
select_on (I32 n ∷ []) c base x y z r ws new value last h ruled = absurd (ruled refl)
select_on (I32 n ∷ u ∷ []) c base x y z r ws new value last h ruled = absurd (ruled refl)

-- one of two operands, by the last one
pub one_of_two : (old mid low rest new : List ℕ) (x y z r : ℕ) → old ≡ mid ++ z ∷ [] → mid ≡ low ++ y ∷ [] → low ≡ rest ++ x ∷ [] → new ≡ rest ++ r ∷ [] → r ≡ cond (eqb (z % 2 ^ 32) 0) y x → ActsOnWords (λ c. selected c.frame.operands c) old effect.Goes new
one_of_two old mid low rest new x y z r first second third last value = record {
  by = λ c base h ruled.
      select_on c.frame.operands c base x y z r (reverse rest) new value (last_first new rest r last)
      (subst (λ l. Hold l (c.frame.operands ++ base)) (last_first old mid z first ∙ ap (λ l. z ∷ l) (last_first mid low y second ∙ ap (λ l. y ∷ l) (last_first low rest x third))) h) ruled;
}

-- a word below the end of a type holds the number with its bits
pub holds_number : (t : ValType) (w : ℕ) → w < 2 ^ bit_width (width_of t) → Holds w (number t w)
holds_number ty.I32 w h = omega (arith, h)
holds_number ty.I64 w h = refl

loaded_gives : (kind : LoadKind) (o : Option (List ℕ)) (word : ℕ) (d : Config) → Some word ≡ option_map (bits_loaded kind) o → loaded kind o d ≡ Goes (pushed (number (load_type kind) word) d)
loaded_gives kind None word d e = absurd (cc)
loaded_gives kind (Some bytes) word d e =
    let same : word ≡ bits_loaded kind bytes = cc in
    ap (λ n. Goes (pushed (number (load_type kind) n) d)) (sym same)

load_on : (kind : LoadKind) (offset : ℕ) (os : List Num) (c : Config) (base : List Num) (memory : List ℕ) (x word : ℕ) (ws new : List ℕ) → c.world.store.memory ≡ memory → Some word ≡ option_map (bits_loaded kind) (bytes_at memory (x % 2 ^ 32 + offset) (byte_len (load_width kind))) → Holds word (number (load_type kind) word) → reverse new ≡ word ∷ ws → Hold (x ∷ ws) (os ++ base) → IsRuled (on_one ty.I32 (loads kind offset) os c) → GoesOn (on_one ty.I32 (loads kind offset) os c) c base new
load_on kind offset (I32 a ∷ os) c base memory x word ws new same value holds last h ruled =
    let read : Some word ≡ option_map (bits_loaded kind) (bytes_at c.world.store.memory (a + offset) (byte_len (load_width kind))) =
    value ∙ ap (λ l. option_map (bits_loaded kind) (bytes_at l (x % 2 ^ 32 + offset) (byte_len (load_width kind)))) (sym same)
    ∙ ap (λ n. option_map (bits_loaded kind) (bytes_at c.world.store.memory (n + offset) (byte_len (load_width kind)))) (sym h.0) in
    record {
      operands = number (load_type kind) word ∷ os;
      goes = loaded_gives kind (bytes_at c.world.store.memory (a + offset) (byte_len (load_width kind))) word (with_operands os c) read;
      held = subst (λ l. Hold l (number (load_type kind) word ∷ os ++ base)) (sym last) (holds, h.1);
    }
load_on kind offset [] c base memory x word ws new same value holds last h ruled = absurd (ruled refl)
load_on kind offset (I64 a ∷ os) c base memory x word ws new same value holds last h ruled = absurd (ruled refl)

-- what the memory has at an address
pub load_reads : (kind : LoadKind) (offset : ℕ) (memory old rest new : List ℕ) (x word : ℕ) → old ≡ rest ++ x ∷ [] → new ≡ rest ++ word ∷ [] → Some word ≡ option_map (bits_loaded kind) (bytes_at memory (x % 2 ^ 32 + offset) (byte_len (load_width kind))) → word < 2 ^ bit_width (width_of (load_type kind)) → ReadsMemory memory (λ c. on_one ty.I32 (loads kind offset) c.frame.operands c) old effect.Goes new
load_reads kind offset memory old rest new x word first last value bound = record {
  by = λ c base same h ruled.
      load_on kind offset c.frame.operands c base memory x word (reverse rest) new same value (holds_number (load_type kind) word bound) (last_first new rest word last)
      (subst (λ l. Hold l (c.frame.operands ++ base)) (last_first old rest x first) h) ruled;
}
