-- Parts: code that the validation algorithm accepts has a type, and so has what stands round it.
use Rattle.std.proofs.Common.{◌≡◌, ℕ, suc, Bool, true, false, cond, List, [], ◌∷◌, ◌++◌, reverse, Option, Some, None, refl, sym, ap, subst, ◌∙◌}
use Rattle.std.specs.Option.{option_to_list}
use Rattle.std.proofs.lemmas.List.{append-nil}
use Rattle.zw_wasm.specs.declared.module.Instr.{Instr}
use Rattle.zw_wasm.specs.declared.module.Instr.TheVariants as instr
use Rattle.zw_wasm.specs.declared.module.ValType.{ValType}
use Rattle.zw_wasm.specs.declared.module.ValType.TheVariants as ty
use Rattle.zw_wasm.specs.Structure.{Code, Ends, Plain, Choice, Block, Repeat, Part, begun_with, block_of, choice_of, choice_of_two, is_plain, loop_of, parts}
use Rattle.zw_wasm.specs.Typing.{Checked, Context, Control, Operand, Place, Goes, Closes, Refused, after_instr, all_taken, at_end, block_control, check_code, check_instr, closed, closed_at_end, closed_if, if_control, loop_control, put_on, turned, with_operands, wrong_type}
use Rattle.zw_wasm.proofs.StructuredCode.{plain-parts}
use Rattle.zw_wasm.proofs.TypingTakes.{known}
use Rattle.zw_wasm_sound.specs.Rules.{InstrType, IsTypedCode, Leaves, Replaces, TakesTo}
use Rattle.zw_wasm_sound.proofs.Accepting.{accepted}
use Rattle.zw_wasm_sound.proofs.Checking.{Keeps, branches_of, keeps-control}
use Rattle.zw_wasm_sound.proofs.Finding.{Arrives, Comes, HasTypeFor, all_there, put-known}

-- from stacks that are within reach the code has a type
abbrev pub LeadsFrom : Context → Code → List Operand → Control → List Control → Type 0
LeadsFrom x code os c outer =
    (ts : List ValType) → os ≡ known ts → c.unreachable ≡ false → IsTypedCode x (branches_of (c ∷ outer)) c.results code ts

-- what stands behind an end, or an `else`
abbrev pub Behind : (List Operand → Control → List Control → Type 0) → Bool → Control → List Control → Type 0
Behind go true c outer = (c.is_if ≡ true) × go [] (record c { unreachable = false; is_if = false }) outer
Behind go false c [] = Unit {0}
Behind go false c (o ∷ outer) = (c.is_if ≡ true → c.results ≡ []) × go (put_on c.results c.below) o outer

-- the parts of a flat list from these stacks on: the first, and those behind its end or its `else`
abbrev pub AreTypedParts : Context → List Part → List Operand → Control → List Control → Type 0
AreTypedParts x [] os c outer = ⊥
AreTypedParts x (p ∷ ps) os c outer = LeadsFrom x p.code os c outer × Behind (AreTypedParts x ps) p.by_else c outer

known-nothing : (ts : List ValType) → [] ≡ known ts → ts ≡ []
known-nothing [] e = refl
known-nothing (t ∷ ts) e = absurd (cc)

refused : (p : Place) → Some p ≡ None → ⊥
refused p e = absurd (cc)

-- ---- an end, and an `else`

-- the results are there, and nothing else
record EndsWell (c : Control) (os : List Operand) : Type 0 where
  only : (ts : List ValType) → os ≡ known ts → c.unreachable ≡ false → ts ≡ reverse c.results

ends-well : (c : Control) (os : List Operand) → all_taken c.results os c.unreachable ≡ Some [] → EndsWell c os
ends-well c os e = record {
  only = λ ts same reached.
      let taken : all_taken c.results (known ts) false ≡ Some [] =
      ap (λ u. all_taken c.results (known ts) u) (sym reached) ∙ ap (λ us. all_taken c.results us c.unreachable) (sym same) ∙ e in
      let w = all_there c.results ts [] taken in
      w.whole ∙ ap (λ us. reverse c.results ++ us) (known-nothing w.below w.left) ∙ append-nil (reverse c.results);
}

-- what the algorithm comes to behind an end
record ComesBehind (c : Control) (os : List Operand) (go : Checked) (at : ℕ) (is : List Instr) (next : List Operand → Control → List Control → Option Place) : Type 0 where
  well : EndsWell c os
  next_is : after_instr go at is next ≡ None

nothing_left-is : (c : Control) (os rest : List Operand) (go : Checked) (at : ℕ) (is : List Instr) (next : List Operand → Control → List Control → Option Place) → all_taken c.results os c.unreachable ≡ Some rest → after_instr (at_end c os go) at is next ≡ None → ComesBehind c os go at is next
nothing_left-is c os [] go at is next e h = record { well = ends-well c os e; next_is = rw e at h }
nothing_left-is c os (o ∷ rest) go at is next e h = absurd (refused (record { at = at; code = wrong_type }) (rw e at h))

comes-behind : (c : Control) (os : List Operand) (go : Checked) (at : ℕ) (is : List Instr) (next : List Operand → Control → List Control → Option Place) → after_instr (at_end c os go) at is next ≡ None → ComesBehind c os go at is next
comes-behind c os go at is next h = by_rest (all_taken c.results os c.unreachable) refl
  where
    by_rest : (o : Option (List Operand)) → all_taken c.results os c.unreachable ≡ o → ComesBehind c os go at is next
    by_rest None e = absurd (refused (record { at = at; code = wrong_type }) (rw e at h))
    by_rest (Some rest) e = nothing_left-is c os rest go at is next e h

-- behind an end within another sequence: what an `if` began has no result
end-behind : (c o : Control) (outer : List Control) (at : ℕ) (is : List Instr) (next : List Operand → Control → List Control → Option Place) (b : Bool) (rs : List ValType) → after_instr (cond b (closed_if rs c (o ∷ outer)) (closed c (o ∷ outer))) at is next ≡ None → (b ≡ true → rs ≡ []) × (next (put_on c.results c.below) o outer ≡ None)
end-behind c o outer at is next true [] h = (λ e. refl, h)
end-behind c o outer at is next true (t ∷ rs) h = absurd (refused (record { at = at; code = wrong_type }) h)
end-behind c o outer at is next false rs h = (λ e. absurd (cc), h)

else-behind : (c : Control) (outer : List Control) (at : ℕ) (is : List Instr) (next : List Operand → Control → List Control → Option Place) (b : Bool) → after_instr (cond b (Goes [] (record c { unreachable = false; is_if = false }) outer) (Refused wrong_type)) at is next ≡ None → (b ≡ true) × (next [] (record c { unreachable = false; is_if = false }) outer ≡ None)
else-behind c outer at is next true h = (refl, h)
else-behind c outer at is next false h = absurd (refused (record { at = at; code = wrong_type }) h)

-- ---- a plain instruction

same-behind : (go : List Operand → Control → List Control → Type 0) (b : Bool) (c : Control) (u : Bool) (outer : List Control) → Behind go b (record c { unreachable = u }) outer → Behind go b c outer
same-behind go true c u outer h = h
same-behind go false c u [] h = tt
same-behind go false c u (o ∷ outer) h = h

leads-as : (x : Context) (code : Code) (os : List Operand) (c d : Control) (outer others : List Control) → d ≡ c → others ≡ outer → LeadsFrom x code os d others → LeadsFrom x code os c outer
leads-as x code os c d outer others e f h = subst (λ k. LeadsFrom x code os k outer) e (subst (LeadsFrom x code os d) f h)

arrives-takes : (x : Context) (ls : List (List ValType)) (rs : List ValType) (code : Code) (w : InstrType) (ts : List ValType) (c d : Control) (os : List Operand) → Arrives w ts c os d → (d ≡ c → (us : List ValType) → os ≡ known us → IsTypedCode x ls rs code us) → TakesTo w ts (IsTypedCode x ls rs code)
arrives-takes x ls rs code (Replaces takes puts) ts c d os a h = (a.0, a.1, h a.3 (puts ++ a.0) a.2)
arrives-takes x ls rs code (Leaves takes) ts c d os a h = (a.0, a.1)

plain-leads : (x : Context) (i : Instr) (os left : List Operand) (c d : Control) (outer others : List Control) (code : Code) → others ≡ outer → ((ts : List ValType) → os ≡ known ts → c.unreachable ≡ false → HasTypeFor x (branches_of (c ∷ outer)) i ts c left d) → LeadsFrom x code left d others → LeadsFrom x (Plain i code) os c outer
plain-leads x i os left c d outer others code f has h = λ ts same reached.
    let t = has ts same reached in
    record {
      ty = t.ty;
      has = t.has;
      takes = arrives-takes x (branches_of (c ∷ outer)) c.results code t.ty ts c d left t.arrives
          (λ e us left_is. leads-as x code left c d outer others e f h us left_is reached);
    }

plain-typed : (x : Context) (i : Instr) (os left : List Operand) (c d : Control) (outer others : List Control) → Keeps c outer (Goes left d others) → ((ts : List ValType) → os ≡ known ts → c.unreachable ≡ false → HasTypeFor x (branches_of (c ∷ outer)) i ts c left d) → (ps : List Part) → AreTypedParts x ps left d others → AreTypedParts x (begun_with (λ rest. Plain i rest) ps) os c outer
plain-typed x i os left c d outer others k has [] h = absurd h
plain-typed x i os left c d outer others k has (p ∷ ps) h = (
  plain-leads x i os left c d outer others p.code k.2 has h.0,
  same-behind (AreTypedParts x ps) p.by_else c k.0 outer
      (subst (λ e. Behind (AreTypedParts x ps) p.by_else e outer) k.1 (subst (Behind (AreTypedParts x ps) p.by_else d) k.2 h.1)),
)

after-plain : (x : Context) (i : Instr) (at : ℕ) (is : List Instr) (os : List Operand) (c : Control) (outer : List Control) → is_plain i ≡ true → ((left : List Operand) (d : Control) (others : List Control) → check_code x (suc at) is left d others ≡ None → AreTypedParts x (parts is) left d others) → (r : Checked) → check_instr x i os c outer ≡ r → after_instr r at is (check_code x (suc at) is) ≡ None → AreTypedParts x (parts (i ∷ is)) os c outer
after-plain x i at is os c outer plain go (Goes left d others) e h =
    let found = λ (ts : List ValType) (same : os ≡ known ts) (reached : c.unreachable ≡ false).
    subst (Comes x (branches_of (c ∷ outer)) i ts c) (ap (λ us. check_instr x i us c outer) (sym same) ∙ e) (accepted x ts c outer reached i plain) in
    subst (λ ps. AreTypedParts x ps os c outer) (sym (plain-parts i is plain))
    (plain-typed x i os left c d outer others (subst (Keeps c outer) e (keeps-control c outer x i os plain)) found (parts is) (go left d others h))
after-plain x i at is os c outer plain go Closes e h = absurd (subst (Keeps c outer) e (keeps-control c outer x i os plain))
after-plain x i at is os c outer plain go (Refused code) e h = absurd (refused (record { at = at; code = code }) h)

-- ---- a block, a loop, an `if`

-- the first of the parts with something before it
begun-typed : (x : Context) (before : Code → Code) (os left : List Operand) (c : Control) (outer : List Control) (ps : List Part) → ((code : Code) → LeadsFrom x code left c outer → LeadsFrom x (before code) os c outer) → AreTypedParts x ps left c outer → AreTypedParts x (begun_with before ps) os c outer
begun-typed x before os left c outer [] go h = absurd h
begun-typed x before os left c outer (p ∷ ps) go h = (go p.code h.0, h.1)

-- the results of a sequence on what was known below it
results-on : (x : Context) (result : Option ValType) (left : List Operand) (ts : List ValType) (c : Control) (outer : List Control) (code : Code) → left ≡ known ts → c.unreachable ≡ false → LeadsFrom x code (put_on (option_to_list result) left) c outer → IsTypedCode x (branches_of (c ∷ outer)) c.results code (reverse (option_to_list result) ++ ts)
results-on x result left ts c outer code e reached h =
    h (reverse (option_to_list result) ++ ts) (ap (put_on (option_to_list result)) e ∙ put-known (option_to_list result) ts) reached

block-typed : (x : Context) (result : Option ValType) (os : List Operand) (c : Control) (outer : List Control) (a : Code) (b : Bool) (ps : List Part) → LeadsFrom x a [] (block_control result os) (c ∷ outer) → Behind (AreTypedParts x ps) b (block_control result os) (c ∷ outer) → AreTypedParts x (block_of result (record { code = a; by_else = b } ∷ ps)) os c outer
block-typed x result os c outer a true ps h k = absurd (cc (k.0))
block-typed x result os c outer a false ps h k =
    begun-typed x (λ rest. Block result a rest) os (put_on (option_to_list result) os) c outer ps
    (λ code l. λ ts same reached. (h [] refl refl, results-on x result os ts c outer code same reached l)) k.1

loop-typed : (x : Context) (result : Option ValType) (os : List Operand) (c : Control) (outer : List Control) (a : Code) (b : Bool) (ps : List Part) → LeadsFrom x a [] (loop_control result os) (c ∷ outer) → Behind (AreTypedParts x ps) b (loop_control result os) (c ∷ outer) → AreTypedParts x (loop_of result (record { code = a; by_else = b } ∷ ps)) os c outer
loop-typed x result os c outer a true ps h k = absurd (cc (k.0))
loop-typed x result os c outer a false ps h k =
    begun-typed x (λ rest. Repeat result a rest) os (put_on (option_to_list result) os) c outer ps
    (λ code l. λ ts same reached. (h [] refl refl, results-on x result os ts c outer code same reached l)) k.1

choice-leads : (x : Context) (result : Option ValType) (os left : List Operand) (c : Control) (outer : List Control) (a b code : Code) → all_taken (ty.I32 ∷ []) os c.unreachable ≡ Some left → IsTypedCode x (option_to_list result ∷ branches_of (c ∷ outer)) (option_to_list result) a [] → IsTypedCode x (option_to_list result ∷ branches_of (c ∷ outer)) (option_to_list result) b [] → LeadsFrom x code (put_on (option_to_list result) left) c outer → LeadsFrom x (Choice result a b code) os c outer
choice-leads x result os left c outer a b code e h k l = λ ts same reached.
    let taken : all_taken (ty.I32 ∷ []) (known ts) false ≡ Some left =
    ap (λ u. all_taken (ty.I32 ∷ []) (known ts) u) (sym reached) ∙ ap (λ us. all_taken (ty.I32 ∷ []) us c.unreachable) (sym same) ∙ e in
    let w = all_there (ty.I32 ∷ []) ts left taken in
    (w.below, w.whole, h, k, results-on x result left w.below c outer code w.left reached l)

module _ (x : Context) (result : Option ValType) (os left : List Operand) (c : Control) (outer : List Control) (e : all_taken (ty.I32 ∷ []) os c.unreachable ≡ Some left) (a : Code) (h : LeadsFrom x a [] (if_control result left) (c ∷ outer)) where
  -- behind the `else`
  second-typed : (b : Code) (by_else : Bool) (qs : List Part) → LeadsFrom x b [] (block_control result left) (c ∷ outer) → Behind (AreTypedParts x qs) by_else (block_control result left) (c ∷ outer) → AreTypedParts x (begun_with (λ rest. Choice result a b rest) qs) os c outer
  second-typed b true qs k l = absurd (cc (l.0))
  second-typed b false qs k l =
      begun-typed x (λ rest. Choice result a b rest) os (put_on (option_to_list result) left) c outer qs
      (λ code m. choice-leads x result os left c outer a b code e (h [] refl refl) (k [] refl refl) m) l.1

  two-typed : (ps : List Part) → AreTypedParts x ps [] (block_control result left) (c ∷ outer) → AreTypedParts x (choice_of_two result (record { code = a; by_else = true } ∷ ps)) os c outer
  two-typed [] k = absurd k
  two-typed (q ∷ qs) k = second-typed q.code q.by_else qs k.0 k.1

  choice-typed : (b : Bool) (ps : List Part) → Behind (AreTypedParts x ps) b (if_control result left) (c ∷ outer) → AreTypedParts x (choice_of result (record { code = a; by_else = b } ∷ ps)) os c outer
  choice-typed true ps k = two-typed ps k.1
  choice-typed false ps k =
      begun-typed x (λ rest. Choice result a Ends rest) os (put_on (option_to_list result) left) c outer ps
      (λ code l. choice-leads x result os left c outer a Ends code e (h [] refl refl) (ap reverse (sym (k.0 refl))) l) k.1

-- ---- any flat list

after-if : (x : Context) (result : Option ValType) (at : ℕ) (is : List Instr) (os : List Operand) (c : Control) (outer : List Control) → ((left : List Operand) → check_code x (suc at) is [] (if_control result left) (c ∷ outer) ≡ None → AreTypedParts x (parts is) [] (if_control result left) (c ∷ outer)) → (o : Option (List Operand)) → all_taken (ty.I32 ∷ []) os c.unreachable ≡ o → after_instr (with_operands o (λ rest. Goes [] (if_control result rest) (c ∷ outer))) at is (check_code x (suc at) is) ≡ None → AreTypedParts x (choice_of result (parts is)) os c outer
after-if x result at is os c outer go None e h = absurd (refused (record { at = at; code = wrong_type }) h)
after-if x result at is os c outer go (Some left) e h = by_parts (parts is) (go left h)
  where
    by_parts : (ps : List Part) → AreTypedParts x ps [] (if_control result left) (c ∷ outer) → AreTypedParts x (choice_of result ps) os c outer
    by_parts [] k = absurd k
    by_parts (p ∷ ps) k = choice-typed x result os left c outer e p.code k.0 p.by_else ps k.1

after-block : (x : Context) (result : Option ValType) (os : List Operand) (c : Control) (outer : List Control) (ps : List Part) → AreTypedParts x ps [] (block_control result os) (c ∷ outer) → AreTypedParts x (block_of result ps) os c outer
after-block x result os c outer [] h = absurd h
after-block x result os c outer (p ∷ ps) h = block-typed x result os c outer p.code p.by_else ps h.0 h.1

after-loop : (x : Context) (result : Option ValType) (os : List Operand) (c : Control) (outer : List Control) (ps : List Part) → AreTypedParts x ps [] (loop_control result os) (c ∷ outer) → AreTypedParts x (loop_of result ps) os c outer
after-loop x result os c outer [] h = absurd h
after-loop x result os c outer (p ∷ ps) h = loop-typed x result os c outer p.code p.by_else ps h.0 h.1

after-end : (x : Context) (at : ℕ) (is : List Instr) (os : List Operand) (c : Control) (outer : List Control) → ((left : List Operand) (d : Control) (others : List Control) → check_code x (suc at) is left d others ≡ None → AreTypedParts x (parts is) left d others) → after_instr (at_end c os (closed_at_end c outer)) at is (check_code x (suc at) is) ≡ None → AreTypedParts x (record { code = Ends; by_else = false } ∷ parts is) os c outer
after-end x at is os c [] go h =
    let b = comes-behind c os (closed_at_end c []) at is (check_code x (suc at) is) h in
    (λ ts same reached. b.well.only ts same reached, tt)
after-end x at is os c (o ∷ outer) go h =
    let b = comes-behind c os (closed_at_end c (o ∷ outer)) at is (check_code x (suc at) is) h in
    let n = end-behind c o outer at is (check_code x (suc at) is) c.is_if c.results b.next_is in
    (λ ts same reached. b.well.only ts same reached, (n.0, go (put_on c.results c.below) o outer n.1))

after-else : (x : Context) (at : ℕ) (is : List Instr) (os : List Operand) (c : Control) (outer : List Control) → ((left : List Operand) (d : Control) (others : List Control) → check_code x (suc at) is left d others ≡ None → AreTypedParts x (parts is) left d others) → after_instr (at_end c os (turned c outer)) at is (check_code x (suc at) is) ≡ None → AreTypedParts x (record { code = Ends; by_else = true } ∷ parts is) os c outer
after-else x at is os c outer go h =
    let b = comes-behind c os (turned c outer) at is (check_code x (suc at) is) h in
    let n = else-behind c outer at is (check_code x (suc at) is) c.is_if b.next_is in
    (λ ts same reached. b.well.only ts same reached, (n.0, go [] (record c { unreachable = false; is_if = false }) outer n.1))

-- each flat list that the algorithm accepts from some stacks on
pub parts-typed : (x : Context) (at : ℕ) (is : List Instr) (os : List Operand) (c : Control) (outer : List Control) → check_code x at is os c outer ≡ None → AreTypedParts x (parts is) os c outer
parts-typed x at [] os c outer h = absurd (refused (record { at = at; code = wrong_type }) h)
parts-typed x at (instr.End ∷ is) os c outer h = after-end x at is os c outer (parts-typed x (suc at) is) h
parts-typed x at (instr.Else ∷ is) os c outer h = after-else x at is os c outer (parts-typed x (suc at) is) h
parts-typed x at (instr.If result ∷ is) os c outer h =
    after-if x result at is os c outer (λ left k. parts-typed x (suc at) is [] (if_control result left) (c ∷ outer) k) (all_taken (ty.I32 ∷ []) os c.unreachable) refl h
parts-typed x at (instr.Block result ∷ is) os c outer h =
    after-block x result os c outer (parts is) (parts-typed x (suc at) is [] (block_control result os) (c ∷ outer) h)
parts-typed x at (instr.Loop result ∷ is) os c outer h =
    after-loop x result os c outer (parts is) (parts-typed x (suc at) is [] (loop_control result os) (c ∷ outer) h)
parts-typed x at (i ∷ is) os c outer h =
    after-plain x i at is os c outer refl (parts-typed x (suc at) is) (check_instr x i os c outer) refl h
