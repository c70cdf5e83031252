-- Steps: the configuration behind an instruction, and labels that stand over other numbers.
use Rattle.std.proofs.Common.{◌≡◌, ℕ, ◌+◌, List, [], ◌∷◌, drop, length, sym, ap, ◌∙◌}
use Rattle.std.proofs.lemmas.List.{length-append}
use Rattle.zw_wasm.specs.declared.module.Instr.{Instr}
use Rattle.zw_wasm.specs.declared.num.Num.{Num}
use Rattle.zw_wasm.specs.Reduction as reduction
use Rattle.zw_wasm.specs.Reduction.{Config, at_work}
use Rattle.zw_wasm.specs.Structure.{code_of}
use Rattle.zw_wasm_words.specs.declared.frame.Label.{Label}
use Rattle.zw_wasm_words.specs.Frames.{LabelsStand, below_labels}

-- the configuration behind the instruction at a place
abbrev pub behind : List Instr → ℕ → Config → Config
behind instrs at c = record c { frame = at_work c.frame c.frame.operands (code_of (drop (at + 1) instrs)) c.frame.labels }

-- as many numbers, below labels
below_count : (ls : List reduction.Label) (xs ys : List Num) → length xs ≡ length ys → length (below_labels ls xs) ≡ length (below_labels ls ys)
below_count [] xs ys e = e
below_count (l ∷ ls) xs ys e =
    length-append l.below (below_labels ls xs) ∙ ap (λ n. length l.below + n) (below_count ls xs ys e) ∙ sym (length-append l.below (below_labels ls ys))

-- labels stand over as many other numbers
pub labels_over : (instrs : List Instr) (ks : List Label) (ls : List reduction.Label) (xs ys : List Num) → length xs ≡ length ys → LabelsStand instrs ks ls xs → LabelsStand instrs ks ls ys
labels_over instrs [] [] xs ys e h = tt
labels_over instrs [] (l ∷ ls) xs ys e h = absurd h
labels_over instrs (k ∷ ks) [] xs ys e h = absurd h
labels_over instrs (k ∷ ks) (l ∷ ls) xs ys e h =
    (record { arity = h.0.arity; branch = h.0.branch; follows = h.0.follows; words = h.0.words ∙ below_count (l ∷ ls) xs ys e }, labels_over instrs ks ls xs ys e h.1)
