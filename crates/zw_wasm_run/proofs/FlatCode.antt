-- FlatCode: the ends of flat code, from the last instruction to the first, and the code that stands at a place.
use Rattle.std.proofs.Common.{◌≡◌, ◌≢◌, ℕ, ◌+◌, ◌-◌, ◌<◌, ◌≤◌, true, false, cond, List, ◌∷◌, length, drop, get_or, set, replicate, Option, inl, inr, refl, sym, ap, ◌∙◌, subst, arith}
use Rattle.std.proofs.lemmas.Bool.{cases_eq}
use Rattle.std.proofs.lemmas.List.{drop_all, get_or-set_same, get_or-set_other, get_or-replicate, length-replicate, length-set}
use Rattle.std.proofs.Math.Seq.{drop-length}
use Rattle.zw_wasm.proofs.StructuredCode.{plain-parts}
use Rattle.zw_wasm.specs.declared.module.Instr.{Instr}
use Rattle.zw_wasm.specs.declared.module.Instr.TheVariants.{Loop, If, Else, End}
use Rattle.zw_wasm.specs.declared.module.Instr.TheVariants as instr
use Rattle.zw_wasm.specs.declared.module.ValType.{ValType}
use Rattle.zw_wasm.specs.Structure.{Ends, Plain, Choice, Block, Repeat, Code, Part, is_plain, code_of, parts, begun_with, first_part, other_parts, choice_of, choice_of_one, choice_of_two}
use Rattle.zw_wasm_run.specs.declared.control.Arms.{Arms}
use Rattle.zw_wasm_run.specs.declared.control.SequenceEnd.{SequenceEnd}
use Rattle.zw_wasm_run.specs.Control.{IsEnd, AreEndsFrom, AreArms}

-- an instruction that neither begins nor ends a sequence is plain
pub is-plain : (i : Instr) → ((ty : Option ValType) → i ≢ instr.Block ty) → ((ty : Option ValType) → i ≢ Loop ty) → ((ty : Option ValType) → i ≢ If ty) → i ≢ Else → i ≢ End → is_plain i ≡ true
is-plain (instr.Block ty) not_block not_loop not_if not_else not_end = absurd (not_block ty refl)
is-plain (Loop ty) not_block not_loop not_if not_else not_end = absurd (not_loop ty refl)
is-plain (If ty) not_block not_loop not_if not_else not_end = absurd (not_if ty refl)
is-plain Else not_block not_loop not_if not_else not_end = absurd (not_else refl)
is-plain End not_block not_loop not_if not_else not_end = absurd (not_end refl)
is-plain i not_block not_loop not_if not_else not_end = refl

choice-two : (ty : Option ValType) (ps qs rs : List Part) → (first_part ps).by_else ≡ true → qs ≡ other_parts ps → rs ≡ other_parts qs → choice_of ty ps ≡ begun_with (λ rest. Choice ty (first_part ps).code (first_part qs).code rest) rs
choice-two ty ps qs rs by_else second third =
    ap (λ b. cond b (choice_of_two ty ps) (choice_of_one ty ps)) by_else
    ∙ ap (λ ts. begun_with (λ rest. Choice ty (first_part ps).code (first_part (other_parts ps)).code rest) ts) (ap other_parts (sym second) ∙ sym third)
    ∙ ap (λ ts. begun_with (λ rest. Choice ty (first_part ps).code (first_part ts).code rest) rs) (sym second)

choice-one : (ty : Option ValType) (ps qs : List Part) (none : Code) → (first_part ps).by_else ≡ false → qs ≡ other_parts ps → none ≡ Ends → choice_of ty ps ≡ begun_with (λ rest. Choice ty (first_part ps).code none rest) qs
choice-one ty ps qs none by_end second empty =
    ap (λ b. cond b (choice_of_two ty ps) (choice_of_one ty ps)) by_end
    ∙ ap (λ ts. begun_with (λ rest. Choice ty (first_part ps).code Ends rest) ts) (sym second)
    ∙ ap (λ c. begun_with (λ rest. Choice ty (first_part ps).code c rest) qs) (sym empty)

-- the arms of an `if` with an `else`, and of one without
pub arms-two : (instrs : List Instr) (at : ℕ) (e f : SequenceEnd) → at < length instrs → e.by_else ≡ true → IsEnd instrs (at + 1) e → IsEnd instrs e.next f → AreArms instrs at (record { then_code = at + 1; else_code = e.next; follows = f.next })
arms-two instrs at e f inside by_else first second = record {
  behind = omega (arith, first.behind, second.behind);
  within = second.within;
  choice = λ ty. choice-two ty (parts (drop (at + 1) instrs)) (parts (drop e.next instrs)) (parts (drop f.next instrs)) (sym first.by_else ∙ by_else) first.others second.others;
}

pub arms-one : (instrs : List Instr) (at : ℕ) (e : SequenceEnd) → at < length instrs → e.by_else ≡ false → IsEnd instrs (at + 1) e → AreArms instrs at (record { then_code = at + 1; else_code = length instrs; follows = e.next })
arms-one instrs at e inside by_end first = record {
  behind = omega (arith, first.behind);
  within = first.within;
  choice = λ ty. choice-one ty (parts (drop (at + 1) instrs)) (parts (drop e.next instrs)) (code_of (drop (length instrs) instrs)) (sym first.by_else ∙ by_end) first.others (ap code_of (drop-length instrs));
}

-- a sequence ends where that ends which begins behind something that isn't its end
end-behind : (instrs : List Instr) (at next : ℕ) (e : SequenceEnd) (before : Code → Code) → at ≤ next → parts (drop at instrs) ≡ begun_with before (parts (drop next instrs)) → IsEnd instrs next e → IsEnd instrs at e
end-behind instrs at next e before le begun end = record {
  behind = omega (arith, end.behind);
  within = end.within;
  by_else = end.by_else ∙ sym (ap (λ ps. (first_part ps).by_else) begun);
  others = end.others ∙ sym (ap other_parts begun);
}

pub end-plain : (instrs : List Instr) (at : ℕ) (i : Instr) (e : SequenceEnd) → drop at instrs ≡ i ∷ drop (at + 1) instrs → is_plain i ≡ true → IsEnd instrs (at + 1) e → IsEnd instrs at e
end-plain instrs at i e here plain end =
    end-behind instrs at (at + 1) e (λ rest. Plain i rest) (omega arith) (ap parts here ∙ plain-parts i (drop (at + 1) instrs) plain) end

-- behind the end of a block, or of a loop, its outer sequence goes on
pub end-block : (instrs : List Instr) (at : ℕ) (ty : Option ValType) (inner e : SequenceEnd) → drop at instrs ≡ instr.Block ty ∷ drop (at + 1) instrs → IsEnd instrs (at + 1) inner → IsEnd instrs inner.next e → IsEnd instrs at e
end-block instrs at ty inner e here first end =
    let is = drop (at + 1) instrs in
    let before : Code → Code = λ rest. Block ty (code_of is) rest in
    end-behind instrs at inner.next e before (omega (arith, first.behind)) (ap parts here ∙ ap (begun_with before) (sym first.others)) end

pub end-loop : (instrs : List Instr) (at : ℕ) (ty : Option ValType) (inner e : SequenceEnd) → drop at instrs ≡ Loop ty ∷ drop (at + 1) instrs → IsEnd instrs (at + 1) inner → IsEnd instrs inner.next e → IsEnd instrs at e
end-loop instrs at ty inner e here first end =
    let is = drop (at + 1) instrs in
    let before : Code → Code = λ rest. Repeat ty (code_of is) rest in
    end-behind instrs at inner.next e before (omega (arith, first.behind)) (ap parts here ∙ ap (begun_with before) (sym first.others)) end

pub end-choice : (instrs : List Instr) (at : ℕ) (arms : Arms) (ty : Option ValType) (e : SequenceEnd) → drop at instrs ≡ If ty ∷ drop (at + 1) instrs → AreArms instrs at arms → IsEnd instrs arms.follows e → IsEnd instrs at e
end-choice instrs at arms ty e here are end =
    end-behind instrs at arms.follows e (λ rest. Choice ty (code_of (drop arms.then_code instrs)) (code_of (drop arms.else_code instrs)) rest) (omega (arith, are.behind)) (ap parts here ∙ are.choice ty) end

-- behind the last instruction a sequence ends
pub end-last : (instrs : List Instr) → IsEnd instrs (length instrs) (record { next = length instrs; by_else = false })
end-last instrs = record {
  behind = omega arith;
  within = omega arith;
  by_else = sym (ap (λ is. (first_part (parts is)).by_else) (drop-length instrs));
  others = ap parts (drop-length instrs) ∙ sym (ap (λ is. other_parts (parts is)) (drop-length instrs));
}

-- the table that has the last end alone, and with one more
pub ends-last : (instrs : List Instr) (ends : List SequenceEnd) → ends ≡ replicate (length instrs + 1) (record { next = length instrs; by_else = false }) → AreEndsFrom instrs (length instrs) ends
ends-last instrs ends same =
    let last : SequenceEnd = record { next = length instrs; by_else = false } in
    record {
      count = ap length same ∙ length-replicate (length instrs + 1) last;
      each = λ at d from within.
          let here : at ≡ length instrs = omega arith in
          let read : get_or ends at d ≡ last = ap (λ es. get_or es at d) same ∙ get_or-replicate (length instrs + 1) at last d (omega arith) in
          subst (λ e. IsEnd instrs at e) (sym read) (subst (λ k. IsEnd instrs k last) (sym here) (end-last instrs));
    }

pub ends-more : (instrs : List Instr) (from : ℕ) (ends : List SequenceEnd) (e : SequenceEnd) → 0 < from → from ≤ length instrs → AreEndsFrom instrs from ends → IsEnd instrs (from - 1) e → AreEndsFrom instrs (from - 1) (set ends (from - 1) e)
ends-more instrs from ends e some inside are end = record {
  count = length-set ends (from - 1) e ∙ are.count;
  each = λ at d above within.
      elim (cases_eq at (from - 1)) [
        | inl here ↦ subst (λ x. IsEnd instrs at x) (sym (ap (λ k. get_or (set ends (from - 1) e) k d) here ∙ get_or-set_same ends (from - 1) e d (omega (arith, are.count)))) (subst (λ k. IsEnd instrs k e) (sym here) end)
        | inr other ↦ subst (λ x. IsEnd instrs at x) (sym (get_or-set_other ends (from - 1) at e d other)) (are.each at d (omega arith) within)
      ];
}

pub ends-whole : (instrs : List Instr) (from : ℕ) (ends : List SequenceEnd) → from ≤ 0 → AreEndsFrom instrs from ends → AreEndsFrom instrs 0 ends
ends-whole instrs from ends none are = let e : from ≡ 0 = omega arith in subst (λ k. AreEndsFrom instrs k ends) e are

-- the code of a block, a loop, an `if`, and of any other instruction, and none where a sequence ends
pub code_of-block : (instrs : List Instr) (at : ℕ) (ty : Option ValType) (e : SequenceEnd) → drop at instrs ≡ instr.Block ty ∷ drop (at + 1) instrs → IsEnd instrs (at + 1) e → code_of (drop at instrs) ≡ Block ty (code_of (drop (at + 1) instrs)) (code_of (drop e.next instrs))
code_of-block instrs at ty e here end =
    ap code_of here ∙ ap (λ ps. Block ty (code_of (drop (at + 1) instrs)) (first_part ps).code) (sym end.others)

pub code_of-loop : (instrs : List Instr) (at : ℕ) (ty : Option ValType) (e : SequenceEnd) → drop at instrs ≡ Loop ty ∷ drop (at + 1) instrs → IsEnd instrs (at + 1) e → code_of (drop at instrs) ≡ Repeat ty (code_of (drop (at + 1) instrs)) (code_of (drop e.next instrs))
code_of-loop instrs at ty e here end =
    ap code_of here ∙ ap (λ ps. Repeat ty (code_of (drop (at + 1) instrs)) (first_part ps).code) (sym end.others)

pub code_of-choice : (instrs : List Instr) (at : ℕ) (ty : Option ValType) (arms : Arms) → drop at instrs ≡ If ty ∷ drop (at + 1) instrs → AreArms instrs at arms → code_of (drop at instrs) ≡ Choice ty (code_of (drop arms.then_code instrs)) (code_of (drop arms.else_code instrs)) (code_of (drop arms.follows instrs))
code_of-choice instrs at ty arms here are = ap (λ ps. (first_part ps).code) (ap parts here ∙ are.choice ty)

pub code_of-plain : (instrs : List Instr) (at : ℕ) (i : Instr) → drop at instrs ≡ i ∷ drop (at + 1) instrs → is_plain i ≡ true → code_of (drop at instrs) ≡ Plain i (code_of (drop (at + 1) instrs))
code_of-plain instrs at i here plain = ap (λ ps. (first_part ps).code) (ap parts here ∙ plain-parts i (drop (at + 1) instrs) plain)

pub code_of-end : (instrs : List Instr) (at : ℕ) → drop at instrs ≡ End ∷ drop (at + 1) instrs → code_of (drop at instrs) ≡ Ends
code_of-end instrs at here = ap code_of here

pub code_of-else : (instrs : List Instr) (at : ℕ) → drop at instrs ≡ Else ∷ drop (at + 1) instrs → code_of (drop at instrs) ≡ Ends
code_of-else instrs at here = ap code_of here

pub code_of-nothing : (instrs : List Instr) (at : ℕ) → length instrs ≤ at → code_of (drop at instrs) ≡ Ends
code_of-nothing instrs at behind = ap code_of (drop_all at instrs behind)
