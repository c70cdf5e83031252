use Rattle.std.proofs.Common.{◌≡◌, ◌↔◌, IsTrue, Bool, Some, All, length, slice_get, refl, sym, ap, ◌∙◌}
use Rattle.std.proofs.lemmas.Option.{slice_get_read}
use Rattle.std.proofs.lemmas.Result.{IfOk-weaker}
use Rattle.zw_form.specs.Listed.{IsKept}
use Rattle.zw_names.specs.NameSets.{names_in}
use Rattle.zw_form.specs.Rules.{KeepsNames, KeepsSteps, externs_of, export_of}
use Rattle.zw_form.proofs.ListedLemmas.{kept-by}
use Rattle.zw_form.proofs.members.keeps.Goals as goal

pub returns : goal.returns
returns c =
    let f = c.args.functions.now in
    let i = c.args.index in
    let marks = c.as_slice.result.now in
    let file = c.as_slice-file.result.now in
    let d = c.in-Some-get.declaration.now in
    let marked : slice_get f.marks i ≡ Some c.in-Some.is_function.now =
    ap (λ ms. slice_get ms i) (sym c.as_slice.ensures) ∙ slice_get_read marks (length marks) i c.in-Some.is_function.now refl c.in-Some.ensures.lookup.3.0 c.in-Some.ensures.lookup.1 in
    let there : slice_get file i ≡ Some d = slice_get_read file (length file) i d refl c.in-Some-get.ensures.lookup.3.0 c.in-Some-get.ensures.lookup.1 in
    IfOk-weaker c.keeps_rules.result
    (λ (kept : Bool). IsTrue kept ↔ (KeepsNames (names_in f.names) d × All (KeepsSteps (externs_of file)) (export_of d)))
    (λ (kept : Bool). IsTrue kept ↔ IsKept f i)
    (kept-by f i c.in-Some.is_function.now file d c.as_slice-file.ensures c.requires.named marked c.if-not-is_function.false there)
    c.keeps_rules.ensures
