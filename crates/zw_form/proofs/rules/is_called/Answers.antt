use Rattle.std.proofs.Common.{◌∙◌, sym}
use Rattle.std.proofs.lemmas.Bool.{false≢true}
use Rattle.zw_form.proofs.KeptLemmas.{called, form_called}
use Rattle.zw_form.proofs.rules.is_called.Goals as goal

pub returns-in-Some : goal.returns-in-Some
returns-in-Some c =
    let found = c.in-Some.ensures.found in
    let named = found.1 ∙ c.as_slice.ensures in (
      λ t. called c.args.file.now c.args.callee.now c.in-Some.function.now found.0 named (c.has_form.ensures.0 t),
      λ there. c.has_form.ensures.1 (form_called c.args.file.now c.args.callee.now c.in-Some.function.now found.0 named c.requires.differ there),
    )

pub returns-in-None : goal.returns-in-None
returns-in-None c = (
  λ e. absurd (false≢true e),
  λ there. absurd (c.in-None.ensures.none there.0 there.1 (sym there.2.name ∙ sym c.as_slice.ensures)),
)
