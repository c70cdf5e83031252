-- LocalRuns: reading and writing locals among the words of all frames.
use Rattle.std.proofs.Common.{◌≡◌, ℕ, ◌+◌, ◌-◌, List, [], ◌∷◌, ◌++◌, Some, Bool, true, false, ◌<◌, ◌≤◌, length, take, drop, set, reverse, refl, sym, ap, subst, ◌∙◌, arith}
use Rattle.std.specs.Prelude.{nat_lt, slice_get, slice_range, slice_set, if◌then◌else◌}
use Rattle.std.proofs.lemmas.Bool.{le-ltb, lt-ltb, ltb-true}
use Rattle.std.proofs.lemmas.List.{length-append, length-reverse, length-set}
use Rattle.zw_wasm.specs.declared.num.Num.{Num}
use Rattle.zw_wasm.specs.Reduction.{Config, Goes, Traps, no_rule, on_operand, with_local, with_local_too, with_operand, with_operands}
use Rattle.zw_wasm_words.specs.declared.effect.Effect.TheVariants as effect
use Rattle.zw_wasm_words.specs.declared.frame.Frame.{Frame}
use Rattle.zw_wasm_words.specs.Frames.{ActsInFrame, GoesInFrame, HasLocals, below_labels, under}
use Rattle.zw_wasm_words.specs.Operands.{IsRuled}
use Rattle.zw_wasm_words.specs.Words.{Hold}
use Rattle.zw_wasm_words.proofs.Holding.{hold_length, hold_some, local_written, locals_held, under_long}
use Rattle.zw_wasm_words.proofs.Shapes.{last_first}

-- the words of a frame's locals hold them
pub slice_held : (k : Frame) (c : Config) (lower : List Num) (old : List ℕ) → HasLocals k c.frame.locals lower → Hold (reverse old) (c.frame.operands ++ under c.frame lower) → Hold (slice_range old k.locals k.operands) c.frame.locals
slice_held k c lower old has held =
    let count : k.operands - k.locals ≡ length c.frame.locals = omega (arith, has.first, has.behind) in
    subst (λ ws. Hold ws c.frame.locals)
    (ap (λ n. take n (drop (length lower) old)) (sym count) ∙ ap (λ n. take (k.operands - k.locals) (drop n old)) (sym has.first))
    (locals_held old c.frame.operands c.frame.labels c.frame.locals lower held)

pub gets : (k : Frame) (n w : ℕ) (old new : List ℕ) → slice_get (slice_range old k.locals k.operands) n ≡ Some w → new ≡ old ++ w ∷ [] → ActsInFrame k (λ c. with_operand (slice_get c.frame.locals n) c) old effect.Goes new
gets k n w old new here last = record {
  by = λ c lower has held ruled.
      let at = hold_some (slice_range old k.locals k.operands) c.frame.locals n w (slice_held k c lower old has held) here in
      record {
        operands = at.number ∷ c.frame.operands;
        locals = c.frame.locals;
        goes = ap (λ o. with_operand o c) at.there;
        count = refl;
        held = subst (λ l. Hold l (at.number ∷ c.frame.operands ++ under c.frame lower)) (sym (last_first new old w last)) (at.holds, held);
      };
}

-- the action is ruled, so the local is there
local_there : (n : ℕ) (v : Num) (c : Config) (b : Bool) → nat_lt n (length c.frame.locals) ≡ b → IsRuled (with_local n v c) → n < length c.frame.locals
local_there n v c true e ruled = ltb-true n (length c.frame.locals) e
local_there n v c false e ruled =
    absurd (ruled (ap (λ b. if b then Goes (record c { frame = record c.frame { locals = slice_set c.frame.locals n v } }) else Traps no_rule) e))

local_goes : (n : ℕ) (v : Num) (c : Config) → n < length c.frame.locals → with_local n v c ≡ Goes (record c { frame = record c.frame { locals = slice_set c.frame.locals n v } })
local_goes n v c inside =
    ap (λ b. if b then Goes (record c { frame = record c.frame { locals = slice_set c.frame.locals n v } }) else Traps no_rule) (lt-ltb n (length c.frame.locals) inside)

sets_on : (k : Frame) (os : List Num) (c : Config) (lower : List Num) (n w : ℕ) (mid new : List ℕ) → HasLocals k c.frame.locals lower → new ≡ set mid (k.locals + n) w → Hold (w ∷ reverse mid) (os ++ under c.frame lower) → IsRuled (on_operand (with_local n) os c) → GoesInFrame (on_operand (with_local n) os c) c lower new
sets_on k [] c lower n w mid new has last h ruled = absurd (ruled refl)
sets_on k (v ∷ os) c lower n w mid new has last h ruled =
    let d = with_operands os c in
    let inside = local_there n v d (nat_lt n (length c.frame.locals)) refl ruled in
    record {
      operands = os;
      locals = slice_set c.frame.locals n v;
      goes = local_goes n v d inside;
      count = length-set c.frame.locals n v;
      held =
          subst (λ l. Hold (reverse l) (os ++ below_labels c.frame.labels (reverse (slice_set c.frame.locals n v) ++ lower))) (ap (λ p. set mid (p + n) w) (sym has.first) ∙ sym last)
          (local_written mid os c.frame.labels c.frame.locals lower n w v inside h.0 h.1);
    }

-- the last operand is the value of a local
pub sets : (k : Frame) (n w : ℕ) (old mid new : List ℕ) → old ≡ mid ++ w ∷ [] → new ≡ set mid (k.locals + n) w → ActsInFrame k (λ c. on_operand (with_local n) c.frame.operands c) old effect.Goes new
sets k n w old mid new first last = record {
  by = λ c lower has held ruled.
      sets_on k c.frame.operands c lower n w mid new has last (subst (λ l. Hold l (c.frame.operands ++ under c.frame lower)) (last_first old mid w first) held) ruled;
}

tees_on : (k : Frame) (os : List Num) (c : Config) (lower : List Num) (n w : ℕ) (old mid new : List ℕ) → HasLocals k c.frame.locals lower → reverse old ≡ w ∷ reverse mid → new ≡ set old (k.locals + n) w → Hold (reverse old) (os ++ under c.frame lower) → IsRuled (on_operand (with_local_too n) os c) → GoesInFrame (on_operand (with_local_too n) os c) c lower new
tees_on k [] c lower n w old mid new has top last h ruled = absurd (ruled refl)
tees_on k (v ∷ os) c lower n w old mid new has top last h ruled =
    let d = with_operands (v ∷ os) c in
    let inside = local_there n v d (nat_lt n (length c.frame.locals)) refl ruled in
    let holds = subst (λ l. Hold l (v ∷ os ++ under c.frame lower)) top h in
    record {
      operands = v ∷ os;
      locals = slice_set c.frame.locals n v;
      goes = local_goes n v d inside;
      count = length-set c.frame.locals n v;
      held =
          subst (λ l. Hold (reverse l) (v ∷ os ++ below_labels c.frame.labels (reverse (slice_set c.frame.locals n v) ++ lower))) (ap (λ p. set old (p + n) w) (sym has.first) ∙ sym last)
          (local_written old (v ∷ os) c.frame.labels c.frame.locals lower n w v inside holds.0 h);
    }

-- the same, and the operand stays
pub tees : (k : Frame) (n w : ℕ) (old mid new : List ℕ) → old ≡ mid ++ w ∷ [] → new ≡ set old (k.locals + n) w → ActsInFrame k (λ c. on_operand (with_local_too n) c.frame.operands c) old effect.Goes new
tees k n w old mid new first last = record {
  by = λ c lower has held ruled.
      tees_on k c.frame.operands c lower n w old mid new has (last_first old mid w first) last held ruled;
}

no_local : (n : ℕ) (v : Num) (c : Config) → length c.frame.locals ≤ n → with_local n v c ≡ Traps no_rule
no_local n v c outside =
    ap (λ b. if b then Goes (record c { frame = record c.frame { locals = slice_set c.frame.locals n v } }) else Traps no_rule) (le-ltb n (length c.frame.locals) outside)

sets_none_on : (k : Frame) (os : List Num) (c : Config) (lower : List Num) (n w : ℕ) (mid : List ℕ) → HasLocals k c.frame.locals lower → length mid ≤ k.locals + n → Hold (w ∷ reverse mid) (os ++ under c.frame lower) → on_operand (with_local n) os c ≡ Traps no_rule
sets_none_on k [] c lower n w mid has short h = refl
sets_none_on k (v ∷ os) c lower n w mid has short h =
    let count = hold_length (reverse mid) (os ++ under c.frame lower) h.1 in
    let words = length-reverse mid in
    let whole = length-append os (under c.frame lower) in
    let low = under_long c.frame.labels c.frame.locals lower in
    no_local n v (with_operands os c) (omega (arith, has.first, short, count, words, whole, low))

-- a local that isn't there
pub sets_none : (k : Frame) (n w : ℕ) (old mid : List ℕ) → old ≡ mid ++ w ∷ [] → length mid ≤ k.locals + n → ActsInFrame k (λ c. on_operand (with_local n) c.frame.operands c) old (effect.Traps 0) mid
sets_none k n w old mid first short = record {
  by = λ c lower has held ruled.
      sets_none_on k c.frame.operands c lower n w mid has short (subst (λ l. Hold l (c.frame.operands ++ under c.frame lower)) (last_first old mid w first) held);
}
