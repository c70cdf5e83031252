use Rattle.std.proofs.Common.{◌≢◌, ℕ, ◌<◌, List, map, All, AllPairs, inl, inr, ap, sym, ◌∙◌, subst}
use Rattle.std.proofs.lemmas.List.Elements.{All-filter}
use Rattle.zw_tree.specs.Trees.{count}
use Rattle.zw_form.specs.Members.{counts}
use Rattle.zw_tree.specs.Numbering.{from, inside_first}
use Rattle.zw_form.specs.Listed.{declared_at}
use Rattle.zw_form.specs.Programs.{program_of}
use Rattle.zw_form.specs.Rules.{name_of, exports_of}
use Rattle.zw_form.specs.declared.source.Declaration.{Declaration}
use Rattle.zw_form.specs.declared.source.ExportedFunction.{ExportedFunction}
use Rattle.zw_form.proofs.ListedLemmas.{members-there, functions-differ}
use Rattle.zw_form.proofs.ReadLemmas.{form_stop, form_params, form_program}
use Rattle.zw_form.proofs.read.read_file.Goals as goal

pub first_stop-requires-clause-there : goal.first_stop-requires-clause-there
first_stop-requires-clause-there c =
    subst (All (λ n. n < count c.args.ast.now)) (sym (c.as_slice-members.ensures ∙ c.in_ok-members.ensures))
    (All-filter (λ n. counts c.args.text.now c.args.tokens.now (from c.args.ast.now n)) (λ n. n < count c.args.ast.now) c.children.result.now
    (members-there c.args.ast.now c.children.result.now (inside_first (from c.args.ast.now 0)) c.children.ensures))

pub first_stop-requires-clause-differ : goal.first_stop-requires-clause-differ
first_stop-requires-clause-differ c =
    functions-differ (declared_at c.args.text.now c.args.tokens.now c.args.ast.now c.as_slice-members.result.now) c.in_ok-functions.functions c.in_ok-functions.ensures

pub returns-in-Some-clause-refused : goal.returns-in-Some-clause-refused
returns-in-Some-clause-refused c =
    form_stop c.args.text.now c.args.tokens.now c.args.ast.now c.requires.tokens c.requires.tree c.children.result.now c.children.ensures c.as_slice-members.result.now (c.as_slice-members.ensures ∙ c.in_ok-members.ensures) c.in-Some.stop
    (inl (rw c.in-Some.is at (c.in_ok-stop.ensures c.args.text.now c.args.tokens.now c.in_ok-functions.ensures)))

pub weight_stop-requires : goal.weight_stop-requires
weight_stop-requires c =
    subst (All (λ n. n < count c.args.ast.now)) (sym (c.as_slice-members.ensures ∙ c.in_ok-members.ensures))
    (All-filter (λ n. counts c.args.text.now c.args.tokens.now (from c.args.ast.now n)) (λ n. n < count c.args.ast.now) c.children.result.now
    (members-there c.args.ast.now c.children.result.now (inside_first (from c.args.ast.now 0)) c.children.ensures))

pub returns-in-Some-weight_stop-clause-refused : goal.returns-in-Some-weight_stop-clause-refused
returns-in-Some-weight_stop-clause-refused c =
    let pass = rw c.in_default.is at (c.in_ok-stop.ensures c.args.text.now c.args.tokens.now c.in_ok-functions.ensures) in
    form_stop c.args.text.now c.args.tokens.now c.args.ast.now c.requires.tokens c.requires.tree c.children.result.now c.children.ensures c.as_slice-members.result.now (c.as_slice-members.ensures ∙ c.in_ok-members.ensures) c.in-Some-weight_stop.stop
    (inr (c.in-Some-weight_stop.ensures c.args.text.now c.args.tokens.now c.in_ok-functions.ensures pass))

pub program_of-requires-clause-differ : goal.program_of-requires-clause-differ
program_of-requires-clause-differ c =
    subst (λ (ds : List Declaration). AllPairs (λ (x y : List ℕ). x ≢ y) (map name_of ds)) (sym c.as_slice.ensures)
    (functions-differ (declared_at c.args.text.now c.args.tokens.now c.args.ast.now c.as_slice-members.result.now) c.in_ok-functions.functions c.in_ok-functions.ensures)

pub program_of-requires-clause-params : goal.program_of-requires-clause-params
program_of-requires-clause-params c =
    let pass = rw c.in_default.is at (c.in_ok-stop.ensures c.args.text.now c.args.tokens.now c.in_ok-functions.ensures) in
    subst (λ (ds : List Declaration). All (λ (g : ExportedFunction). AllPairs (λ (x y : List ℕ). x ≢ y) g.params) (exports_of ds)) (sym c.as_slice.ensures)
    (form_params c.args.text.now c.args.tokens.now c.args.ast.now c.requires.tokens c.requires.tree c.children.result.now c.children.ensures c.as_slice-members.result.now (c.as_slice-members.ensures ∙ c.in_ok-members.ensures) c.in_ok-functions.functions c.in_ok-functions.ensures
    pass (c.in_default-weight_stop.ensures c.args.text.now c.args.tokens.now c.in_ok-functions.ensures pass))

pub returns-clause-program : goal.returns-clause-program
returns-clause-program c =
    let pass = rw c.in_default.is at (c.in_ok-stop.ensures c.args.text.now c.args.tokens.now c.in_ok-functions.ensures) in
    form_program c.args.text.now c.args.tokens.now c.args.ast.now c.requires.tokens c.requires.tree c.children.result.now c.children.ensures c.as_slice-members.result.now (c.as_slice-members.ensures ∙ c.in_ok-members.ensures) c.in_ok-functions.functions c.in_ok-functions.ensures
    pass (c.in_default-weight_stop.ensures c.args.text.now c.args.tokens.now c.in_ok-functions.ensures pass)
    c.in_ok-program_of.field-0 (c.in_ok-program_of.ensures ∙ ap program_of c.as_slice.ensures)
