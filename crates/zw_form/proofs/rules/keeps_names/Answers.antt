use Rattle.std.proofs.Common.{◌≢◌, ◌↔◌, ℕ, List, IsTrue, Bool, refl, sym, subst, ◌∙◌, All, AllPairs, Contains}
use Rattle.std.proofs.lemmas.Bool.{false≢true}
use Rattle.std.proofs.lemmas.Result.{IfOk-weaker}
use Rattle.zw_names.specs.NameSets.{names_in}
use Rattle.zw_form.specs.Rules.{KeepsNames}
use Rattle.zw_form.proofs.rules.keeps_names.Goals as goal
use Rattle.zw_form.proofs.rules.keeps_names.Goals.{else-may_be_function-via-then-may_be_function+else-differ_from, else-may_be_function-via-else-may_be_function}

pub returns-then-differ_from : goal.returns-then-differ_from
returns-then-differ_from c =
    let functions = names_in c.args.functions.now in
    let d = c.args.declaration.now in
    let name = rw c.name.ensures at (c.if-may_be_function.ensures.0 refl) in
    IfOk-weaker c.differ.result (λ (all : Bool). IsTrue all ↔ AllPairs (λ (x y : List ℕ). x ≢ y) c.params-params.result.now) (λ (kept : Bool). IsTrue kept ↔ KeepsNames functions d)
    (λ all same. (
      λ t. record {
        name_is_text = name.0;
        name_is_unreserved = name.1;
        params_differ = subst (AllPairs (λ (x y : List ℕ). x ≢ y)) c.params-params.ensures (same.0 t);
        params_differ_from_functions =
            subst (All (λ (param : List ℕ). ¬ Contains functions param)) c.params-params.ensures (c.if-differ_from.ensures.0 refl);
      },
      λ kept. same.1 (subst (AllPairs (λ (x y : List ℕ). x ≢ y)) (sym c.params-params.ensures) kept.params_differ),
    ))
    c.differ.ensures

pub returns-else-may_be_function : goal.returns-else-may_be_function
returns-else-may_be_function c = (
  λ e. absurd (false≢true e),
  λ kept. absurd (elim c.else-may_be_function.branch [
    | else-may_be_function-via-then-may_be_function+else-differ_from w ↦
        false≢true (sym w.if-differ_from.false ∙ w.differ_from.ensures.1 (subst (All (λ (param : List ℕ). ¬ Contains (names_in c.args.functions.now) param)) (sym c.params-params.ensures) kept.params_differ_from_functions))
    | else-may_be_function-via-else-may_be_function w ↦
        false≢true (sym w.if-may_be_function.false ∙ c.may_be_function.ensures.1 (rw c.name.ensures (kept.name_is_text, kept.name_is_unreserved)))
  ]),
)
