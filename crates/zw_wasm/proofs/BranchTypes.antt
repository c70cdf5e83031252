-- How sequences with blocks, loops and branches are typed, in any context whose labels take what they take.
use Rattle.std.proofs.Common.{◌≡◌, ℕ, zero, suc, ◌+◌, Bool, true, List, [], ◌∷◌, ◌++◌, length, reverse, Option, Some, None, inl, inr, refl, sym, ap, ◌∙◌, arith, append_assoc, length-append, add_assoc, add-one}
use Rattle.std.specs.Prelude.{slice_get}
use Rattle.std.specs.Option.{option_to_list}
use Rattle.std.proofs.lemmas.List.{map-append, reverse-append}
use Rattle.zw_wasm.proofs.TypingTakes.{all_taken-known, known, known-onto, put_on-known}
use Rattle.zw_wasm.specs.declared.module.Instr.{Instr}
use Rattle.zw_wasm.specs.declared.module.Instr.TheVariants.{Unreachable, Else, End, Br, BrIf, Return}
use Rattle.zw_wasm.specs.declared.module.ValType.{ValType}
use Rattle.zw_wasm.specs.declared.module.ValType.TheVariants.{I32, I64}
use Rattle.zw_wasm.specs.Laws.{BranchesAreTyped}
use Rattle.zw_wasm.specs.Sequences.{AreLabels, IsCodeOf, LeavesIn, TakesIn, branch_of}
use Rattle.zw_wasm.specs.Typing.{Checked, Context, Control, Goes, Known, Operand, after_instr, at_end, block_control, check_code, check_instr, if_control, loop_control, never_goes_on, put_on, replaces, with_index, with_operands}
use Rattle.zw_wasm.specs.WellFormed.{block_of, if_block, if_else_block, loop_of}

-- ---- one sequence after another

in-then : (x : Context) (ls : List (List ValType)) (is js : List Instr) (ts us vs : List ValType) → TakesIn x ls is ts us → TakesIn x ls js us vs → TakesIn x ls (is ++ js) ts vs
in-then x ls is js ts us vs p q = record {
  by = λ at rest below c outer h.
      ap (λ l. check_code x at l (known ts ++ below) c outer) (append_assoc is js rest)
      ∙ p.by at (js ++ rest) below c outer h
      ∙ q.by (at + length is) rest below c outer h
      ∙ ap (λ n. check_code x n rest (known vs ++ below) c outer) (add_assoc at (length is) (length js) ∙ ap (λ n. at + n) (sym (length-append is js)));
}

in-then_leaves : (x : Context) (ls : List (List ValType)) (is js : List Instr) (ts us : List ValType) → TakesIn x ls is ts us → LeavesIn x ls js us → LeavesIn x ls (is ++ js) ts
in-then_leaves x ls is js ts us p q = record {
  by = λ at rest below c outer h.
      ap (λ l. check_code x at l (known ts ++ below) c outer) (append_assoc is js rest)
      ∙ p.by at (js ++ rest) below c outer h
      ∙ q.by (at + length is) rest below c outer h
      ∙ ap (λ n. check_code x n rest [] (record c { unreachable = true }) outer) (add_assoc at (length is) (length js) ∙ ap (λ n. at + n) (sym (length-append is js)));
}

-- ---- single instructions

in-instr : (x : Context) (ls : List (List ValType)) (i : Instr) (ts us : List ValType) → ((below : List Operand) (c : Control) (outer : List Control) → AreLabels ls (c ∷ outer) → check_instr x i (known ts ++ below) c outer ≡ Goes (known us ++ below) c outer) → TakesIn x ls (i ∷ []) ts us
in-instr x ls i ts us go = record {
  by = λ at rest below c outer h.
      ap (λ r. after_instr r at rest (check_code x (suc at) rest)) (go below c outer h)
      ∙ ap (λ n. check_code x n rest (known us ++ below) c outer) (sym (add-one at));
}

leaves-instr : (x : Context) (ls : List (List ValType)) (i : Instr) (ts : List ValType) → ((below : List Operand) (c : Control) (outer : List Control) → AreLabels ls (c ∷ outer) → check_instr x i (known ts ++ below) c outer ≡ Goes [] (record c { unreachable = true }) outer) → LeavesIn x ls (i ∷ []) ts
leaves-instr x ls i ts go = record {
  by = λ at rest below c outer h.
      ap (λ r. after_instr r at rest (check_code x (suc at) rest)) (go below c outer h)
      ∙ ap (λ n. check_code x n rest [] (record c { unreachable = true }) outer) (sym (add-one at));
}

-- operands of these types above others
apart : (bs ts : List ValType) (below : List Operand) → known (reverse bs ++ ts) ++ below ≡ known (reverse bs) ++ (known ts ++ below)
apart bs ts below =
    ap (λ us. us ++ below) (map-append (λ t. Known t) (reverse bs) ts) ∙ append_assoc (known (reverse bs)) (known ts) below

left-behind : (bs ts : List ValType) (below : List Operand) (c : Control) (outer : List Control) → never_goes_on bs (known (reverse bs ++ ts) ++ below) c outer ≡ Goes [] (record c { unreachable = true }) outer
left-behind bs ts below c outer =
    ap (λ os. never_goes_on bs os c outer) (apart bs ts below)
    ∙ ap (λ o. with_operands o (λ rest. Goes [] (record c { unreachable = true }) outer)) (all_taken-known bs (known ts ++ below) c.unreachable)

put_on-known_all : (bs : List ValType) (os : List Operand) → put_on bs os ≡ known (reverse bs) ++ os
put_on-known_all [] os = refl
put_on-known_all (b ∷ bs) os = put_on-known_all bs (Known b ∷ os) ∙ sym (known-onto b bs os)

-- the entry of a label
labelled-index : (o : Option Control) (bs : List ValType) (go : List ValType → Checked) → branch_of o ≡ Some bs → with_index o (λ (d : Control). go d.branch) ≡ go bs
labelled-index None bs go e = absurd (cc)
labelled-index (Some d) bs go e = let same : d.branch ≡ bs = cc in ap go same

typed-branch : (x : Context) (ls : List (List ValType)) (n : ℕ) (bs ts : List ValType) → slice_get ls n ≡ Some bs → LeavesIn x ls (Br n ∷ []) (reverse bs ++ ts)
typed-branch x ls n bs ts there = leaves-instr x ls (Br n) (reverse bs ++ ts) (λ below c outer h.
    labelled-index (slice_get (c ∷ outer) n) bs (λ us. never_goes_on us (known (reverse bs ++ ts) ++ below) c outer) (h.each n bs there)
    ∙ left-behind bs ts below c outer)

typed-branch_if : (x : Context) (ls : List (List ValType)) (n : ℕ) (bs ts : List ValType) → slice_get ls n ≡ Some bs → TakesIn x ls (BrIf n ∷ []) (I32 ∷ reverse bs ++ ts) (reverse bs ++ ts)
typed-branch_if x ls n bs ts there = in-instr x ls (BrIf n) (I32 ∷ reverse bs ++ ts) (reverse bs ++ ts) (λ below c outer h.
    let os = known (I32 ∷ reverse bs ++ ts) ++ below in
    let whole : os ≡ known (reverse (bs ++ I32 ∷ [])) ++ (known ts ++ below) =
    ap (λ us. Known I32 ∷ us) (apart bs ts below) ∙ ap (λ us. known us ++ (known ts ++ below)) (sym (reverse-append bs (I32 ∷ []))) in
    labelled-index (slice_get (c ∷ outer) n) bs (λ us. replaces (us ++ I32 ∷ []) us os c outer) (h.each n bs there)
    ∙ ap (λ us. replaces (bs ++ I32 ∷ []) bs us c outer) whole
    ∙ ap (λ o. with_operands o (λ rest. Goes (put_on bs rest) c outer)) (all_taken-known (bs ++ I32 ∷ []) (known ts ++ below) c.unreachable)
    ∙ ap (λ us. Goes us c outer) (put_on-known_all bs (known ts ++ below) ∙ sym (apart bs ts below)))

-- ---- code in a block, a loop or an `if`

-- the innermost label and those round it
labels-in : (bs : List ValType) (ls : List (List ValType)) (d : Control) (outer : List Control) → d.branch ≡ bs → AreLabels ls outer → AreLabels (bs ∷ ls) (d ∷ outer)
labels-in bs ls d outer same h = record { each = each }
  where
    each : (n : ℕ) (ts : List ValType) → slice_get (bs ∷ ls) n ≡ Some ts → branch_of (slice_get (d ∷ outer) n) ≡ Some ts
    each zero ts e = ap (λ us. Some us) same ∙ e
    each (suc n) ts e = h.each n ts e

-- at the end its result is there, or anything
ends-known : (t : Option ValType) (d : Control) (go : Checked) → d.results ≡ option_to_list t → at_end d (known (option_to_list t) ++ []) go ≡ go
ends-known None d go same = ap (λ rs. at_end (record d { results = rs }) [] go) same
ends-known (Some I32) d go same = ap (λ rs. at_end (record d { results = rs }) (Known I32 ∷ []) go) same
ends-known (Some I64) d go same = ap (λ rs. at_end (record d { results = rs }) (Known I64 ∷ []) go) same

ends-anyhow : (t : Option ValType) (d : Control) (go : Checked) → d.results ≡ option_to_list t → at_end (record d { unreachable = true }) [] go ≡ go
ends-anyhow None d go same = ap (λ rs. at_end (record d { results = rs; unreachable = true }) [] go) same
ends-anyhow (Some t) d go same = ap (λ rs. at_end (record d { results = rs; unreachable = true }) [] go) same

-- Code up to an instruction that ends it and comes to this.
code-ends : (x : Context) (ls : List (List ValType)) (t : Option ValType) (is : List Instr) → IsCodeOf x ls t is → (at : ℕ) (i : Instr) (rest : List Instr) (d : Control) (outer : List Control) → AreLabels ls (d ∷ outer) → d.results ≡ option_to_list t → (go : Checked) → ((os : List Operand) (u : Bool) → check_instr x i os (record d { unreachable = u }) outer ≡ at_end (record d { unreachable = u }) os go) → check_code x at (is ++ i ∷ rest) [] d outer ≡ after_instr go (at + length is) rest (check_code x (suc (at + length is)) rest)
code-ends x ls t is (inl p) at i rest d outer h same go acts =
    p.by at (i ∷ rest) [] d outer h
    ∙ ap (λ r. after_instr r (at + length is) rest (check_code x (suc (at + length is)) rest)) (acts (known (option_to_list t) ++ []) d.unreachable ∙ ends-known t d go same)
code-ends x ls t is (inr p) at i rest d outer h same go acts =
    p.by at (i ∷ rest) [] d outer h
    ∙ ap (λ r. after_instr r (at + length is) rest (check_code x (suc (at + length is)) rest)) (acts [] true ∙ ends-anyhow t d go same)

typed-block : (x : Context) (ls : List (List ValType)) (t : Option ValType) (is : List Instr) (ts : List ValType) → IsCodeOf x (option_to_list t ∷ ls) t is → TakesIn x ls (block_of t is) ts (option_to_list t ++ ts)
typed-block x ls t is ts code = record {
  by = λ at rest below c outer h.
      let d = block_control t (known ts ++ below) in
      let count : suc (suc at + length is) ≡ at + suc (length (is ++ End ∷ [])) = omega (arith, length-append is (End ∷ [])) in
      ap (λ l. check_code x (suc at) l [] d (c ∷ outer)) (append_assoc is (End ∷ []) rest)
      ∙ code-ends x (option_to_list t ∷ ls) t is code (suc at) End rest d (c ∷ outer) (labels-in (option_to_list t) ls d (c ∷ outer) refl h) refl (Goes (put_on (option_to_list t) (known ts ++ below)) c outer) (λ os u. refl)
      ∙ ap (λ os. check_code x (suc (suc at + length is)) rest os c outer) (put_on-known t ts below)
      ∙ ap (λ n. check_code x n rest (known (option_to_list t ++ ts) ++ below) c outer) count;
}

typed-loop : (x : Context) (ls : List (List ValType)) (t : Option ValType) (is : List Instr) (ts : List ValType) → IsCodeOf x ([] ∷ ls) t is → TakesIn x ls (loop_of t is) ts (option_to_list t ++ ts)
typed-loop x ls t is ts code = record {
  by = λ at rest below c outer h.
      let d = loop_control t (known ts ++ below) in
      let count : suc (suc at + length is) ≡ at + suc (length (is ++ End ∷ [])) = omega (arith, length-append is (End ∷ [])) in
      ap (λ l. check_code x (suc at) l [] d (c ∷ outer)) (append_assoc is (End ∷ []) rest)
      ∙ code-ends x ([] ∷ ls) t is code (suc at) End rest d (c ∷ outer) (labels-in [] ls d (c ∷ outer) refl h) refl (Goes (put_on (option_to_list t) (known ts ++ below)) c outer) (λ os u. refl)
      ∙ ap (λ os. check_code x (suc (suc at + length is)) rest os c outer) (put_on-known t ts below)
      ∙ ap (λ n. check_code x n rest (known (option_to_list t ++ ts) ++ below) c outer) count;
}

typed-one : (x : Context) (ls : List (List ValType)) (is : List Instr) (ts : List ValType) → IsCodeOf x ([] ∷ ls) None is → TakesIn x ls (if_block None is) (I32 ∷ ts) ts
typed-one x ls is ts code = record {
  by = λ at rest below c outer h.
      let d = if_control None (known ts ++ below) in
      let count : suc (suc at + length is) ≡ at + suc (length (is ++ End ∷ [])) = omega (arith, length-append is (End ∷ [])) in
      ap (λ l. check_code x (suc at) l [] d (c ∷ outer)) (append_assoc is (End ∷ []) rest)
      ∙ code-ends x ([] ∷ ls) None is code (suc at) End rest d (c ∷ outer) (labels-in [] ls d (c ∷ outer) refl h) refl (Goes (known ts ++ below) c outer) (λ os u. refl)
      ∙ ap (λ n. check_code x n rest (known ts ++ below) c outer) count;
}

typed-two : (x : Context) (ls : List (List ValType)) (t : Option ValType) (is js : List Instr) (ts : List ValType) → IsCodeOf x (option_to_list t ∷ ls) t is → IsCodeOf x (option_to_list t ∷ ls) t js → TakesIn x ls (if_else_block t is js) (I32 ∷ ts) (option_to_list t ++ ts)
typed-two x ls t is js ts first second = record {
  by = λ at rest below c outer h.
      let results = option_to_list t in
      let d = if_control t (known ts ++ below) in
      let e = block_control t (known ts ++ below) in
      let other = js ++ End ∷ rest in
      let n = suc (suc at + length is) in
      let count : suc (n + length js) ≡ at + suc (length ((is ++ Else ∷ js) ++ End ∷ [])) = omega (arith, length-append (is ++ Else ∷ js) (End ∷ []), length-append is (Else ∷ js)) in
      ap (λ l. check_code x (suc at) l [] d (c ∷ outer)) (append_assoc (is ++ Else ∷ js) (End ∷ []) rest ∙ append_assoc is (Else ∷ js) (End ∷ rest))
      ∙ code-ends x (results ∷ ls) t is first (suc at) Else other d (c ∷ outer) (labels-in results ls d (c ∷ outer) refl h) refl (Goes [] e (c ∷ outer)) (λ os u. refl)
      ∙ code-ends x (results ∷ ls) t js second n End rest e (c ∷ outer) (labels-in results ls e (c ∷ outer) refl h) refl (Goes (put_on results (known ts ++ below)) c outer) (λ os u. refl)
      ∙ ap (λ os. check_code x (suc (n + length js)) rest os c outer) (put_on-known t ts below)
      ∙ ap (λ k. check_code x k rest (known (results ++ ts) ++ below) c outer) count;
}

pub branches_are_typed : BranchesAreTyped
branches_are_typed = record {
  anywhere = λ x ls is ts us p. record { by = λ at rest below c outer h. p.by at rest below c outer };
  then = in-then;
  then_leaves = in-then_leaves;
  branch = typed-branch;
  branch_if = typed-branch_if;
  returns = λ x ls ts. leaves-instr x ls Return (reverse x.returns ++ ts) (λ below c outer h. left-behind x.returns ts below c outer);
  unreachable = λ x ls ts. leaves-instr x ls Unreachable ts (λ below c outer h. refl);
  block = typed-block;
  loop = typed-loop;
  one = typed-one;
  two = typed-two;
}
