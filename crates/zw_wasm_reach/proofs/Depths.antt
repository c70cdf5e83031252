-- Depths: structured code nests no deeper than blocks, loops and ifs of its flat list are open.
use Rattle.std.proofs.Common.{◌≡◌, ℕ, zero, suc, ◌+◌, ◌-◌, ◌≤◌, max, Bool, true, false, cond, List, [], ◌∷◌, Option, Some, arith}
use Rattle.std.specs.Prelude.{slice_get}
use Rattle.zw_wasm.specs.declared.module.CodeBody.{CodeBody}
use Rattle.zw_wasm.specs.declared.module.Instr.{Instr}
use Rattle.zw_wasm.specs.declared.module.Instr.TheVariants as instr
use Rattle.zw_wasm.specs.declared.module.ValType.{ValType}
use Rattle.zw_wasm.specs.Structure.{Code, Ends, Plain, Choice, Block, Repeat, Part, begun_with, block_of, choice_of_one, choice_of_two, code_of, first_part, loop_of, other_parts, parts}
use Rattle.zw_wasm_reach.specs.Counts.{most_open, most_open_in}
use Rattle.zw_wasm_reach.proofs.Opening.{most_open-above}

-- how many blocks, loops and choices of code are within each other at most
abbrev pub depth_of : Code → ℕ
depth_of Ends = 0
depth_of (Plain i rest) = depth_of rest
depth_of (Choice result a b rest) = max (suc (max (depth_of a) (depth_of b))) (depth_of rest)
depth_of (Block result body rest) = max (suc (depth_of body)) (depth_of rest)
depth_of (Repeat result body rest) = max (suc (depth_of body)) (depth_of rest)

-- how many are open behind a part
abbrev open_past : Bool → ℕ → ℕ
open_past by_else d = cond by_else d (d - 1)

-- parts of a list, the first of which stands in so many that are open, never have more than n open
abbrev Within : ℕ → ℕ → List Part → Type 0
Within n d [] = Unit {0}
Within n d (p ∷ ps) = (depth_of p.code + d ≤ n) × Within n (open_past p.by_else d) ps

open_past-mono : (b : Bool) (d e : ℕ) → e ≤ d → open_past b e ≤ open_past b d
open_past-mono true d e h = h
open_past-mono false d e h = omega arith

within-fewer : (n d e : ℕ) (ps : List Part) → e ≤ d → Within n d ps → Within n e ps
within-fewer n d e [] h k = tt
within-fewer n d e (p ∷ ps) h k = (omega arith, within-fewer n (open_past p.by_else d) (open_past p.by_else e) ps (open_past-mono p.by_else d e h) k.1)

within-more : (n k d : ℕ) (ps : List Part) → n ≤ k → Within n d ps → Within k d ps
within-more n k d [] h w = tt
within-more n k d (p ∷ ps) h w = (omega arith, within-more n k (open_past p.by_else d) ps h w.1)

within-first : (n d : ℕ) (ps : List Part) → d ≤ n → Within n d ps → depth_of (first_part ps).code + d ≤ n
within-first n d [] h k = omega arith
within-first n d (p ∷ ps) h k = k.0

within-others : (n d : ℕ) (ps : List Part) → Within n d ps → Within n (open_past (first_part ps).by_else d) (other_parts ps)
within-others n d [] h = tt
within-others n d (p ∷ ps) h = h.1

past-one : (b : Bool) (d : ℕ) → d ≤ open_past b (suc d)
past-one true d = omega arith
past-one false d = omega arith

-- behind what stands in one more
within-past : (n d : ℕ) (ps : List Part) → Within n (suc d) ps → Within n d (other_parts ps)
within-past n d ps h =
    within-fewer n (open_past (first_part ps).by_else (suc d)) d (other_parts ps) (past-one (first_part ps).by_else d) (within-others n (suc d) ps h)

-- ---- the parts of a list

-- code that holds the first part, and goes on with the second
one-within : (n d : ℕ) (ps : List Part) (holding : Code → Code) → ((rest : Code) → depth_of (holding rest) ≤ max (suc (depth_of (first_part ps).code)) (depth_of rest)) → suc d ≤ n → Within n (suc d) ps → Within n d (begun_with holding (other_parts ps))
one-within n d ps holding depth le h =
    let first = within-first n (suc d) ps le h in
    let past = within-past n d ps h in
    let rest : depth_of (first_part (other_parts ps)).code + d ≤ n = within-first n d (other_parts ps) (omega arith) past in
    (omega (arith, depth (first_part (other_parts ps)).code), within-others n d (other_parts ps) past)

block-within : (n d : ℕ) (result : Option ValType) (ps : List Part) → suc d ≤ n → Within n (suc d) ps → Within n d (block_of result ps)
block-within n d result ps = one-within n d ps (λ rest. Block result (first_part ps).code rest) (λ rest. omega arith)

loop-within : (n d : ℕ) (result : Option ValType) (ps : List Part) → suc d ≤ n → Within n (suc d) ps → Within n d (loop_of result ps)
loop-within n d result ps = one-within n d ps (λ rest. Repeat result (first_part ps).code rest) (λ rest. omega arith)

-- the choice of the first part and nothing, or of the first and the second, by whether an `else` ends the first
choice-within : (n d : ℕ) (result : Option ValType) (ps : List Part) (b : Bool) → suc d ≤ n → Within n (suc d) ps → Within n (open_past b (suc d)) (other_parts ps) → Within n d (cond b (choice_of_two result ps) (choice_of_one result ps))
choice-within n d result ps false le h k = one-within n d ps (λ rest. Choice result (first_part ps).code Ends rest) (λ rest. omega arith) le h
choice-within n d result ps true le h k =
    let first = within-first n (suc d) ps le h in
    let second = within-first n (suc d) (other_parts ps) le k in
    let past = within-past n d (other_parts ps) k in
    let rest : depth_of (first_part (other_parts (other_parts ps))).code + d ≤ n = within-first n d (other_parts (other_parts ps)) (omega arith) past in
    (omega arith, within-others n d (other_parts (other_parts ps)) past)

plain-within : (n d : ℕ) (i : Instr) (ps : List Part) → d ≤ n → Within n d ps → Within n d (begun_with (λ rest. Plain i rest) ps)
plain-within n d i ps le h = (within-first n d ps le h, within-others n d ps h)

parts-within : (d : ℕ) (is : List Instr) → Within (most_open d is) d (parts is)
parts-within d [] = tt
parts-within d (instr.End ∷ is) = (omega arith, within-more (most_open (d - 1) is) (max d (most_open (d - 1) is)) (d - 1) (parts is) (omega arith) (parts-within (d - 1) is))
parts-within d (instr.Else ∷ is) = (let h = most_open-above d is in omega arith, parts-within d is)
parts-within d (instr.If result ∷ is) =
    let h = parts-within (suc d) is in
    choice-within (most_open (suc d) is) d result (parts is) (first_part (parts is)).by_else (most_open-above (suc d) is) h (within-others (most_open (suc d) is) (suc d) (parts is) h)
parts-within d (instr.Block result ∷ is) = block-within (most_open (suc d) is) d result (parts is) (most_open-above (suc d) is) (parts-within (suc d) is)
parts-within d (instr.Loop result ∷ is) = loop-within (most_open (suc d) is) d result (parts is) (most_open-above (suc d) is) (parts-within (suc d) is)
parts-within d (i ∷ is) = plain-within (most_open d is) d i (parts is) (most_open-above d is) (parts-within d is)

-- ---- bodies

pub code-depth : (is : List Instr) → depth_of (code_of is) ≤ most_open 0 is
code-depth is = let h = within-first (most_open 0 is) 0 (parts is) (omega arith) (parts-within 0 is) in omega arith

pub body-depth : (bs : List CodeBody) (k : ℕ) (b : CodeBody) → slice_get bs k ≡ Some b → depth_of (code_of b.instrs) ≤ most_open_in bs
body-depth [] k b e = absurd (cc)
body-depth (x ∷ bs) zero b e = let same : x ≡ b = cc in rw (← same) (let h = code-depth x.instrs in omega arith)
body-depth (x ∷ bs) (suc k) b e = let h = body-depth bs k b e in omega arith
