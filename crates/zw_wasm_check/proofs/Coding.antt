-- How the check of code goes on from one instruction to the next.
use Rattle.std.proofs.Common.{◌≡◌, ℕ, zero, suc, ◌+◌, ◌-◌, ◌<◌, ◌≤◌, List, get_or, ◌∷◌, length, drop, reverse, Option, Some, None, option_map, sym, ap, ◌∙◌, add-one, arith}
use Rattle.std.proofs.lemmas.List.{drop_more, drop_all, get_or-reverse, length-reverse}
use Rattle.std.proofs.lemmas.Option.{slice_get-map, slice_get-get_or}
use Rattle.std.specs.Prelude.{slice_get}
use Rattle.std.proofs.Math.Seq.{drop-length}
use Rattle.zw_wasm.specs.declared.module.Instr.{Instr}
use Rattle.zw_wasm.specs.declared.module.Instr.TheVariants.{Nop}
use Rattle.zw_wasm.specs.Typing.{Context, Control, Place, after_instr, check_code, check_instr, nothing_behind, wrong_type}
use Rattle.zw_wasm_check.specs.declared.stacks.Entry.{Entry}
use Rattle.zw_wasm_check.specs.declared.stacks.Fault.{Fault}
use Rattle.zw_wasm_check.specs.declared.stacks.Stacks.{Stacks}
use Rattle.zw_wasm_check.specs.declared.stacks.Step.{Step}
use Rattle.zw_wasm_check.specs.declared.stacks.Step.TheVariants as step
use Rattle.zw_wasm_check.specs.Operands.{operands_of}
use Rattle.zw_wasm_check.specs.Stacks.{ComesTo, checked_of, control_of, number_of, outer_of}

-- the check of code from this instruction on, with these stacks
abbrev pub goes_on : Context → ℕ → List Instr → Stacks → Option Place
goes_on x at instrs s = check_code x at (drop at instrs) (operands_of s.operands) (control_of s.control) (outer_of s.outer)

here : (instrs : List Instr) (at : ℕ) (i : Instr) → at < length instrs → i ≡ get_or instrs at i → drop at instrs ≡ i ∷ drop (at + 1) instrs
here instrs at i inside read = drop_more instrs at i inside ∙ ap (λ j. j ∷ drop (at + 1) instrs) (sym read)

pub code_goes : (x : Context) (instrs : List Instr) (at : ℕ) (i : Instr) (r : Step) (old new : Stacks) → at < length instrs → i ≡ get_or instrs at i → ComesTo (check_instr x i) old r new → r ≡ step.Goes → goes_on x at instrs old ≡ goes_on x (at + 1) instrs new
code_goes x instrs at i r old new inside read comes goes =
    ap (λ is. check_code x at is (operands_of old.operands) (control_of old.control) (outer_of old.outer)) (here instrs at i inside read)
    ∙ ap (λ r. after_instr r at (drop (at + 1) instrs) (check_code x (suc at) (drop (at + 1) instrs))) (comes ∙ ap (λ (q : Step). checked_of q new) goes)
    ∙ ap (λ n. check_code x n (drop (at + 1) instrs) (operands_of new.operands) (control_of new.control) (outer_of new.outer)) (sym (add-one at))

pub code_closes : (x : Context) (instrs : List Instr) (at : ℕ) (i : Instr) (r : Step) (old new : Stacks) → at < length instrs → i ≡ get_or instrs at i → ComesTo (check_instr x i) old r new → r ≡ step.Closes → goes_on x at instrs old ≡ nothing_behind (at + 1) (drop (at + 1) instrs)
code_closes x instrs at i r old new inside read comes closes =
    ap (λ is. check_code x at is (operands_of old.operands) (control_of old.control) (outer_of old.outer)) (here instrs at i inside read)
    ∙ ap (λ r. after_instr r at (drop (at + 1) instrs) (check_code x (suc at) (drop (at + 1) instrs))) (comes ∙ ap (λ (q : Step). checked_of q new) closes)
    ∙ ap (λ n. nothing_behind n (drop (at + 1) instrs)) (sym (add-one at))

pub code_refused : (x : Context) (instrs : List Instr) (at : ℕ) (i : Instr) (f : Fault) (r : Step) (old new : Stacks) → at < length instrs → i ≡ get_or instrs at i → ComesTo (check_instr x i) old r new → r ≡ (step.Refused f) → goes_on x at instrs old ≡ Some (record { at = at; code = number_of f })
code_refused x instrs at i f r old new inside read comes refused =
    ap (λ is. check_code x at is (operands_of old.operands) (control_of old.control) (outer_of old.outer)) (here instrs at i inside read)
    ∙ ap (λ r. after_instr r at (drop (at + 1) instrs) (check_code x (suc at) (drop (at + 1) instrs))) (comes ∙ ap (λ (q : Step). checked_of q new) refused)

pub code_stops : (x : Context) (instrs : List Instr) (s : Stacks) → goes_on x (length instrs) instrs s ≡ Some (record { at = length instrs; code = wrong_type })
code_stops x instrs s = ap (λ is. check_code x (length instrs) is (operands_of s.operands) (control_of s.control) (outer_of s.outer)) (drop-length instrs)

-- the entry with a number that isn't 0 is among the outer ones
pub branch_outer : (c : Control) (es : List Entry) (label place : ℕ) (e : Entry) → e ≡ get_or es place e → 0 < label → label + place ≡ length es → slice_get (c ∷ outer_of es) label ≡ Some (control_of e)
branch_outer c es zero place e read some at = absurd (omega arith)
branch_outer c es (suc k) place e read some at =
    let within : k < length es = omega arith in
    let inside : k < length (reverse es) = omega (arith, length-reverse es) in
    let same : (length es - 1) - k ≡ place = omega arith in
    slice_get-map control_of (reverse es) k
    ∙ ap (option_map control_of) (slice_get-get_or (reverse es) k e inside ∙ ap Some (get_or-reverse es k e within ∙ ap (λ p. get_or es p e) same ∙ sym read))

-- whether anything stands behind the end
pub behind_some : (instrs : List Instr) (next : ℕ) → next < length instrs → nothing_behind next (drop next instrs) ≡ Some (record { at = next; code = wrong_type })
behind_some instrs next inside = ap (nothing_behind next) (drop_more instrs next Nop inside)

pub behind_none : (instrs : List Instr) (next : ℕ) → length instrs ≤ next → nothing_behind next (drop next instrs) ≡ None
behind_none instrs next past = ap (nothing_behind next) (drop_all next instrs past)
