use Rattle.std.proofs.Common.{◌≢◌, ℕ, List, ◌∙◌, sym, ap}
use Rattle.zw_form.specs.declared.source.Declaration.TheVariants.{Extern, Export}
use Rattle.zw_form.specs.declared.source.ExportedFunction.{ExportedFunction}
use Rattle.zw_form.specs.declared.source.ExternFunction.{ExternFunction}
use Rattle.zw_names.specs.NameSets.{number_in}
use Rattle.zw_form.proofs.KeptLemmas.{extern-found, extern-none, extern-export}
use Rattle.zw_form.proofs.rules.extern_named.Goals as goal

pub returns-in-Some-Extern-clause-found : goal.returns-in-Some-Extern-clause-found
returns-in-Some-Extern-clause-found c =
    let number = c.number_in.ensures ∙ ap (λ (names : List (List ℕ)). number_in names c.args.name.now) c.requires.named in
    let at = rw c.in-Some-Extern.field-0-is at c.in-Some-Extern.ensures in
    extern-found c.args.file.now c.args.name.now c.number_in.result number c.in-Some-Extern.function (sym at)

pub returns-in-Some-Export-clause-none : goal.returns-in-Some-Export-clause-none
returns-in-Some-Export-clause-none c =
    let number = c.number_in.ensures ∙ ap (λ (names : List (List ℕ)). number_in names c.args.name.now) c.requires.named in
    let at = rw c.in-Some-Export.field-0-is at c.in-Some-Export.ensures in
    extern-export c.args.file.now c.args.name.now c.number_in.result number (Export c.in-Some-Export.field-0-0) c.requires.differ (sym at) (λ f e. other c.in-Some-Export.field-0-0 f e)
  where
    other : (g : ExportedFunction) (f : ExternFunction) → Export g ≢ Extern f
    other g f e = cc

pub returns-in-None-clause-none : goal.returns-in-None-clause-none
returns-in-None-clause-none c =
    let number = c.number_in.ensures ∙ ap (λ (names : List (List ℕ)). number_in names c.args.name.now) c.requires.named in
    extern-none c.args.file.now c.args.name.now c.number_in.result number (sym c.in-None.ensures)
