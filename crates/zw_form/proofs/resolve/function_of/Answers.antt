use Rattle.std.proofs.Common.{◌∙◌}
use Rattle.zw_names.specs.NameSets.{names_in}
use Rattle.zw_form.proofs.FirstLemmas.{first_of_each-differ}
use Rattle.zw_form.proofs.ProgramLemmas.{function_of-made}
use Rattle.zw_form.proofs.resolve.function_of.Goals as goal

pub returns : goal.returns
returns c =
    let params = rw c.as_slice.ensures at c.in_ok-params.ensures in
    function_of-made (names_in c.args.imports.now) c.args.function.now (names_in c.in_ok-params.params)
    (params ∙ first_of_each-differ c.args.function.now.params c.requires)
    c.in_ok-from_slice.field-0 (c.in_ok-from_slice.ensures ∙ c.as_slice-2.ensures)
    c.in_ok-count.field-0 (c.in_ok-count.ensures ∙ c.len.ensures)
    c.in_ok-actions_of.field-0 (rw c.as_slice-3.ensures at c.in_ok-actions_of.ensures)
