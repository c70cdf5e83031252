-- ReturnWords: what is left of the words at a frame's end, and behind a return.
use Rattle.std.proofs.Common.{◌≡◌, ℕ, ◌+◌, ◌-◌, List, [], ◌++◌, length, take, drop, reverse, sym, ap, subst, ◌∙◌, append_assoc, arith}
use Rattle.std.proofs.lemmas.List.{append-nil, length-append, length-reverse, reverse-append, reverse-reverse}
use Rattle.std.proofs.Math.Seq.{drop-append_seam, take-append_seam}
use Rattle.zw_wasm.specs.declared.num.Num.{Num}
use Rattle.zw_wasm_words.specs.declared.frame.Frame.{Frame}
use Rattle.zw_wasm_words.specs.Frames.{KeepsResults, ReturnsOn, below_labels}
use Rattle.zw_wasm_words.specs.Words.{Hold}
use Rattle.zw_wasm_words.proofs.BranchWords.{words_kept}
use Rattle.zw_wasm_words.proofs.Holding.{below_all, hold_append, hold_drop, hold_reverse, hold_take, words_up}

-- the locals lie between the words of lower frames and the operands
locals_gone : (old : List ℕ) (os locals lower : List Num) → Hold (reverse old) (os ++ (reverse locals ++ lower)) → Hold (reverse (take (length lower) old ++ drop (length lower + length locals) old)) (os ++ lower)
locals_gone old os locals lower h =
    let up = words_up old os [] locals lower h in
    let rest = reverse (os ++ []) in
    let all = reverse lower ++ locals ++ rest in
    let low : take (length lower) all ≡ reverse lower =
    ap (λ n. take n all) (sym (length-reverse lower)) ∙ ap (take (length (reverse lower))) (append_assoc (reverse lower) locals rest) ∙ take-append_seam (reverse lower) (locals ++ rest) in
    let place : length lower + length locals ≡ length (reverse lower ++ locals) = ap (λ n. n + length locals) (sym (length-reverse lower)) ∙ sym (length-append (reverse lower) locals) in
    let high : drop (length lower + length locals) all ≡ rest = ap (λ n. drop n all) place ∙ drop-append_seam (reverse lower ++ locals) rest in
    let held : Hold (take (length lower) old ++ drop (length lower + length locals) old) (reverse lower ++ rest) =
    hold_append (take (length lower) old) (drop (length lower + length locals) old) (reverse lower) rest
    (subst (λ vs. Hold (take (length lower) old) vs) low (hold_take (length lower) old all up))
    (subst (λ vs. Hold (drop (length lower + length locals) old) vs) high (hold_drop (length lower + length locals) old all up)) in
    let turned : reverse (reverse lower ++ rest) ≡ os ++ lower =
    ap (λ vs. reverse (reverse lower ++ reverse vs)) (append-nil os) ∙ ap reverse (sym (reverse-append os lower)) ∙ reverse-reverse (os ++ lower) in
    subst (λ vs. Hold (reverse (take (length lower) old ++ drop (length lower + length locals) old)) vs) turned
    (hold_reverse (take (length lower) old ++ drop (length lower + length locals) old) (reverse lower ++ rest) held)

pub returns_on : (k : Frame) (old new : List ℕ) → new ≡ take k.locals old ++ drop k.operands old → ReturnsOn k old new
returns_on k old new same = record {
  by = λ c lower has none h.
      let gone = locals_gone old c.frame.operands c.frame.locals lower (subst (λ ls. Hold (reverse old) (c.frame.operands ++ below_labels ls (reverse c.frame.locals ++ lower))) none h) in
      subst (λ ws. Hold (reverse ws) (c.frame.operands ++ lower))
      (ap (λ n. take n old ++ drop (length lower + length c.frame.locals) old) (sym has.first) ∙ ap (λ n. take k.locals old ++ drop n old) (sym has.behind) ∙ sym same) gone;
}

pub keeps_results : (k : Frame) (old new : List ℕ) → new ≡ take k.operands old ++ drop (length old - k.arity) old → KeepsResults k old new
keeps_results k old new same = record {
  by = λ c lower has few h.
      let low = reverse c.frame.locals ++ lower in
      let height : k.operands ≡ length low = has.behind ∙ omega (arith, length-append (reverse c.frame.locals) lower, length-reverse c.frame.locals) in
      words_kept old new c.frame.operands (below_labels c.frame.labels []) low k.arity k.operands (subst (λ vs. Hold (reverse old) (c.frame.operands ++ vs)) (below_all c.frame.labels low) h) height few same;
}
