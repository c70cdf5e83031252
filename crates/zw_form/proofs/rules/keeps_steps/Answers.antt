use Rattle.std.proofs.Common.{refl}
use Rattle.std.proofs.lemmas.Bool.{false≢true}
use Rattle.zw_names.specs.NameSets.{names_in}
use Rattle.zw_form.specs.Rules.{externs_of}
use Rattle.zw_form.proofs.KeptLemmas.{steps-known, params-mentioned, steps-kept}
use Rattle.zw_form.proofs.rules.keeps_steps.Goals as goal

pub returns-then-not-are_known : goal.returns-then-not-are_known
returns-then-not-are_known c = (
  λ e. absurd (false≢true e),
  λ kept.
      let params = rw c.as_slice.ensures at c.in_ok-params.ensures in
      let known = steps-known (externs_of c.args.file.now) c.args.function.now (names_in c.in_ok-params.params) params kept in
      absurd (false≢true (c.if-not-are_known.ensures.1 (rw c.as_slice-steps.ensures known))),
)

pub returns : goal.returns
returns c =
    let externs = externs_of c.args.file.now in
    let f = c.args.function.now in
    let params = rw c.as_slice.ensures at c.in_ok-params.ensures in
    let reads = rw c.as_slice-steps.ensures at c.in_ok-mentioned.ensures in
    let known = rw c.as_slice-steps.ensures at (c.if-not-are_known.ensures.0 refl) in (
      λ t.
          steps-kept externs f (names_in c.in_ok-params.params) params (names_in c.in_ok-mentioned.mentioned) reads known
          (rw c.as_slice-2.ensures at (c.holds_all.ensures.0 t)),
      λ kept.
          c.holds_all.ensures.1
          (rw c.as_slice-2.ensures (params-mentioned externs f (names_in c.in_ok-params.params) params (names_in c.in_ok-mentioned.mentioned) reads kept)),
    )
