-- The end of a sequence: its results are taken, and nothing else is left.
use Rattle.std.proofs.Common.{◌≡◌, ◌≢◌, Bool, true, false, cond, List, [], ◌∷◌, map, reverse, Option, Some, None, Result, Ok, Err, refl, sym, ap, ◌∙◌}
use Rattle.std.specs.Prelude.{◌↔◌, IsTrue, MatchOption, IfOk}
use Rattle.std.specs.Option.{option_to_list}
use Rattle.std.proofs.lemmas.Bool.{false≢true}
use Rattle.std.proofs.lemmas.List.{reverse-reverse}
use Rattle.zw_wasm.specs.declared.module.Instr.{Instr}
use Rattle.zw_wasm.specs.declared.module.ValType.{ValType}
use Rattle.zw_wasm.specs.Typing.{Checked, Context, Control, Operand, Refused, all_taken, at_end, check_instr, closed, closed_at_end, closed_if, wrong_type}
use Rattle.zw_wasm_check.specs.declared.stacks.Entry.{Entry}
use Rattle.zw_wasm_check.specs.declared.stacks.Stacks.{Stacks}
use Rattle.zw_wasm_check.specs.declared.stacks.Step.{Step}
use Rattle.zw_wasm_check.specs.Operands.{operand_of, operands_of}
use Rattle.zw_wasm_check.specs.Stacks.{ComesTo, control_of, outer_of}

-- the slice of an option is its list
pub as_list : {X : Type 0} (o : Option X) (xs : List X) → MatchOption o (xs ≡ []) (λ x. xs ≡ x ∷ []) → xs ≡ option_to_list o
as_list None xs e = e
as_list (Some x) xs e = e

-- what is the same holds of the value in one case too
pub if_ok_from : {A E : Type 0} (v w : Checked) (f : A → Checked) (r : Result A E) → v ≡ w → IfOk r (λ s. w ≡ f s) → IfOk r (λ s. v ≡ f s)
if_ok_from v w f (Ok x) same h = same ∙ h
if_ok_from v w f (Err e) same h = tt

abbrev nothing_but : List Operand → Checked → Checked
nothing_but [] go = go
nothing_but (o ∷ os) go = Refused wrong_type

at_end_of : (c : Control) (os rest : List Operand) (go : Checked) → all_taken c.results os c.unreachable ≡ Some rest → at_end c os go ≡ nothing_but rest go
at_end_of c os [] go e = rw e refl
at_end_of c os (o ∷ rest) go e = rw e refl

left_over : (left : List (Option ValType)) (go : Checked) → left ≢ [] → nothing_but (operands_of left) go ≡ Refused wrong_type
left_over left go some = by_first (reverse left) (λ e. some (sym (reverse-reverse left) ∙ ap reverse e))
  where
    by_first : (os : List (Option ValType)) → os ≢ [] → nothing_but (map operand_of os) go ≡ Refused wrong_type
    by_first [] none = absurd (none refl)
    by_first (o ∷ os) some_there = refl

pub end_rule : (c : Control) (os : List Operand) (left : List (Option ValType)) (empty : Bool) (go : Checked) → all_taken c.results os c.unreachable ≡ Some (operands_of left) → (IsTrue empty ↔ (left ≡ [])) → at_end c os go ≡ cond empty go (Refused wrong_type)
end_rule c os left true go taken tells = at_end_of c os (operands_of left) go taken ∙ ap (λ l. nothing_but (operands_of l) go) (tells.0 refl)
end_rule c os left false go taken tells = at_end_of c os (operands_of left) go taken ∙ left_over left go (λ e. false≢true (tells.1 e))

cond_same : {A : Type 0} (b : Bool) (x : A) → cond b x x ≡ x
cond_same true x = refl
cond_same false x = refl

pub else_some : (e : Entry) (outer : List Control) (t : ValType) → e.result_type ≡ Some t → closed_at_end (control_of e) outer ≡ cond e.is_if (Refused wrong_type) (closed (control_of e) outer)
else_some e outer t is = ap (λ r. cond e.is_if (closed_if (option_to_list r) (control_of e) outer) (closed (control_of e) outer)) is

pub else_none : (e : Entry) (outer : List Control) → e.result_type ≡ None → closed_at_end (control_of e) outer ≡ closed (control_of e) outer
else_none e outer is =
    ap (λ r. cond e.is_if (closed_if (option_to_list r) (control_of e) outer) (closed (control_of e) outer)) is
    ∙ cond_same e.is_if (closed (control_of e) outer)

-- what comes of an instruction comes of it under its other name
pub instr_is : (x : Context) (i j : Instr) (old : Stacks) (r : Step) (new : Stacks) → i ≡ j → ComesTo (check_instr x j) old r new → ComesTo (check_instr x i) old r new
instr_is x i j old r new is h = ap (λ k. check_instr x k (operands_of old.operands) (control_of old.control) (outer_of old.outer)) is ∙ h

pub instr_if : {E : Type 0} (x : Context) (i j : Instr) (old : Stacks) (r : Result Step E) (new : Stacks) → i ≡ j → IfOk r (λ s. ComesTo (check_instr x j) old s new) → IfOk r (λ s. ComesTo (check_instr x i) old s new)
instr_if x i j old (Ok s) new is h = instr_is x i j old s new is h
instr_if x i j old (Err e) new is h = tt
