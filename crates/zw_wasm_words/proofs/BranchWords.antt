-- BranchWords: what a branch leaves of the words, the operands and the labels.
use Rattle.std.proofs.Common.{◌≡◌, ℕ, zero, suc, ◌-◌, ◌≤◌, Bool, true, false, List, [], ◌∷◌, ◌++◌, Some, length, take, drop, reverse, refl, sym, ap, subst, ◌∙◌, append_assoc, arith}
use Rattle.std.specs.Prelude.{nat_le, slice_get, if◌then◌else◌}
use Rattle.std.proofs.lemmas.Bool.{le-leb, leb-true}
use Rattle.std.proofs.lemmas.List.{length-append, length-reverse, length-take, reverse-append, reverse-reverse, take-append-drop}
use Rattle.std.proofs.Math.Seq.{drop-append_seam, take-append_seam}
use Rattle.zw_wasm.specs.declared.module.Instr.{Instr}
use Rattle.zw_wasm.specs.declared.num.Num.{Num}
use Rattle.zw_wasm.specs.Reduction as reduction
use Rattle.zw_wasm.specs.Reduction.{Config, Goes, Traps, at_work, branched, branched_to, jumped, no_rule}
use Rattle.zw_wasm_words.specs.declared.frame.Label.{Label}
use Rattle.zw_wasm_words.specs.Frames.{BranchesOn, LabelStands, LabelsStand, below_labels}
use Rattle.zw_wasm_words.specs.Operands.{IsRuled}
use Rattle.zw_wasm_words.specs.Words.{Hold}
use Rattle.zw_wasm_words.proofs.Holding.{hold_append, hold_drop, hold_length, hold_reverse, hold_take}

-- a label among those of a frame, with what lies above it
pub record LabelAt (instrs : List Instr) (n : ℕ) (ks : List Label) (k : Label) (ls : List reduction.Label) (lower : List Num) : Type 0 where
  pub label : reduction.Label
  pub there : slice_get ls n ≡ Some label
  pub stands : LabelStands instrs k label (length (below_labels (label ∷ drop (suc n) ls) lower))
  pub outer : LabelsStand instrs (drop (suc n) ks) (drop (suc n) ls) lower
  pub above : List Num
  pub parts : below_labels ls lower ≡ above ++ below_labels (label ∷ drop (suc n) ls) lower

pub label_at : (instrs : List Instr) (n : ℕ) (ks : List Label) (k : Label) (ls : List reduction.Label) (lower : List Num) → slice_get ks n ≡ Some k → LabelsStand instrs ks ls lower → LabelAt instrs n ks k ls lower
label_at instrs n [] k ls lower e h = absurd (cc)
label_at instrs n (x ∷ ks) k [] lower e h = absurd h
label_at instrs zero (x ∷ ks) k (l ∷ ls) lower e h =
    let same : x ≡ k = cc in
    record {
      label = l;
      there = refl;
      stands = subst (λ y. LabelStands instrs y l (length (below_labels (l ∷ ls) lower))) same h.0;
      outer = h.1;
      above = [];
      parts = refl;
    }
label_at instrs (suc n) (x ∷ ks) k (l ∷ ls) lower e h =
    let r = label_at instrs n ks k ls lower e h.1 in
    record {
      label = r.label;
      there = r.there;
      stands = r.stands;
      outer = r.outer;
      above = l.below ++ r.above;
      parts = ap (λ vs. l.below ++ vs) r.parts ∙ sym (append_assoc l.below r.above (below_labels (r.label ∷ drop (suc n) ls) lower));
    }

-- of the numbers the last that a branch takes, over those below its label
pub words_kept : (old new : List ℕ) (os above low : List Num) (arity height : ℕ) → Hold (reverse old) (os ++ (above ++ low)) → height ≡ length low → arity ≤ length os → new ≡ take height old ++ drop (length old - arity) old → Hold (reverse new) (take arity os ++ low)
words_kept old new os above low arity height h at few same =
    let all = os ++ (above ++ low) in
    let kept = take arity os in
    let rest = drop arity os ++ (above ++ low) in
    let up = subst (λ ws. Hold ws (reverse all)) (reverse-reverse old) (hold_reverse (reverse old) all h) in
    let count : length old ≡ length all = sym (length-reverse old) ∙ hold_length (reverse old) all h in
    let first : all ≡ (os ++ above) ++ low = sym (append_assoc os above low) in
    let second : all ≡ kept ++ rest = ap (λ vs. vs ++ (above ++ low)) (sym (take-append-drop arity os)) ∙ append_assoc kept (drop arity os) (above ++ low) in
    let below : take height (reverse all) ≡ reverse low =
    ap (λ n. take n (reverse all)) (at ∙ sym (length-reverse low))
    ∙ ap (λ vs. take (length (reverse low)) vs) (ap reverse first ∙ reverse-append (os ++ above) low) ∙ take-append_seam (reverse low) (reverse (os ++ above)) in
    let taken = length-take arity os in
    let whole = ap length second ∙ length-append kept rest in
    let turned = length-reverse rest in
    let place : length old - arity ≡ length (reverse rest) = omega (arith, count, taken, whole, turned, few) in
    let above_label : drop (length old - arity) (reverse all) ≡ reverse kept =
    ap (λ n. drop n (reverse all)) place
    ∙ ap (λ vs. drop (length (reverse rest)) vs) (ap reverse second ∙ reverse-append kept rest) ∙ drop-append_seam (reverse rest) (reverse kept) in
    let held : Hold (take height old ++ drop (length old - arity) old) (reverse low ++ reverse kept) =
    hold_append (take height old) (drop (length old - arity) old) (reverse low) (reverse kept)
    (subst (λ vs. Hold (take height old) vs) below (hold_take height old (reverse all) up))
    (subst (λ vs. Hold (drop (length old - arity) old) vs) above_label (hold_drop (length old - arity) old (reverse all) up)) in
    subst (λ ws. Hold (reverse ws) (kept ++ low)) (sym same)
    (subst (λ vs. Hold (reverse (take height old ++ drop (length old - arity) old)) vs)
    (ap reverse (sym (reverse-append kept low)) ∙ reverse-reverse (kept ++ low))
    (hold_reverse (take height old ++ drop (length old - arity) old) (reverse low ++ reverse kept) held))

jumped_as : (l : reduction.Label) (n : ℕ) (c : Config) (b : Bool) → nat_le l.arity (length c.frame.operands) ≡ b → jumped l n c ≡ (if b then Goes (record c { frame = at_work c.frame (take l.arity c.frame.operands ++ l.below) l.branch (drop (suc n) c.frame.labels) }) else Traps no_rule)
jumped_as l n c b e = ap (λ t. if t then Goes (record c { frame = at_work c.frame (take l.arity c.frame.operands ++ l.below) l.branch (drop (suc n) c.frame.labels) }) else Traps no_rule) e

pub enough : (l : reduction.Label) (n : ℕ) (c : Config) (b : Bool) → nat_le l.arity (length c.frame.operands) ≡ b → IsRuled (jumped l n c) → l.arity ≤ length c.frame.operands
enough l n c true e ruled = leb-true l.arity (length c.frame.operands) e
enough l n c false e ruled = absurd (ruled (jumped_as l n c false e))

pub branches : (l : Label) (old new : List ℕ) → new ≡ take l.height old ++ drop (length old - l.arity) old → BranchesOn l old new
branches l old new same = record {
  by = λ instrs k n ks c lower there stands ruled.
      let x = reverse c.frame.locals ++ lower in
      let at = label_at instrs n ks l c.frame.labels x there stands.frame.labels in
      let m = at.label in
      let is : branched n c ≡ jumped m n c = ap (λ o. branched_to o n c) at.there in
      let few = enough m n c (nat_le m.arity (length c.frame.operands)) refl (λ e. ruled (is ∙ e)) in
      let low = below_labels (m ∷ drop (suc n) c.frame.labels) x in
      let held = subst (λ vs. Hold (reverse old) (c.frame.operands ++ vs)) at.parts stands.held in
      let kept = words_kept old new c.frame.operands at.above low l.arity l.height held at.stands.words (subst (λ a. a ≤ length c.frame.operands) at.stands.arity few) same in
      record {
        next = record c { frame = at_work c.frame (take m.arity c.frame.operands ++ m.below) m.branch (drop (suc n) c.frame.labels) };
        goes = is ∙ jumped_as m n c true (le-leb m.arity (length c.frame.operands) few);
        stands = record {
          frame = record {
            arity = stands.frame.arity;
            code = at.stands.branch;
            labels = at.outer;
            locals = record { first = stands.frame.locals.first; behind = stands.frame.locals.behind };
          };
          held =
              subst (λ vs. Hold (reverse new) vs)
              (ap (λ a. take a c.frame.operands ++ low) (sym at.stands.arity) ∙ sym (append_assoc (take m.arity c.frame.operands) m.below (below_labels (drop (suc n) c.frame.labels) x)))
              kept;
        };
      };
}
