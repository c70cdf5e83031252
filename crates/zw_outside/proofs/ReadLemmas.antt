-- What a read takes of what was left.
use Rattle.std.proofs.Common.{◌≡◌, ℕ, ◌+◌, ◌<◌, min, List, [], ◌++◌, length, take, drop, ◌-◌, sym, ◌∙◌, ap, arith, length-append}
use Rattle.std.proofs.lemmas.List.{take_at, take_rest, take-append-drop, length-take, length-drop, drop_all, drop-drop}

-- what a slice from a place on stands for, where the slice is of these bytes
pub slice_rest : (slice bytes : List ℕ) (at : ℕ) → slice ≡ bytes → take (length slice - at) (drop at slice) ≡ drop at bytes
slice_rest slice bytes at e = take_rest slice at ∙ ap (drop at) e

-- what a read of n bytes put into the buffer stood at the front of what was left
pub read-content : (bytes from buf new : List ℕ) (at n : ℕ) → from ≡ drop at bytes → n ≡ min (length buf) (length from) → new ≡ take n from ++ drop n buf → drop at bytes ≡ take n new ++ drop (at + n) bytes
read-content bytes from buf new at n left count copied =
    let front : take n new ≡ take n from = ap (take n) copied ∙ take_at (take n from) (drop n buf) n (rw length-take (omega arith)) in
    sym left ∙ sym (ap (λ v. v ++ drop (at + n) bytes) front ∙ ap (λ v. take n from ++ v) (sym (drop-drop n at bytes) ∙ ap (drop n) (sym left)) ∙ take-append-drop n from)

-- a read of no bytes into a buffer that isn't empty comes at the end
pub read-end : (bytes from buf new : List ℕ) (at n : ℕ) → from ≡ drop at bytes → n ≡ min (length buf) (length from) → new ≡ take n from ++ drop n buf → n ≡ 0 → 0 < length new → drop (at + n) bytes ≡ []
read-end bytes from buf new at n left count copied none some =
    drop_all (at + n) bytes (omega (arith, length-drop at bytes, ap length left, ap length copied, length-append (take n from) (drop n buf), length-take n from, length-drop n buf))
