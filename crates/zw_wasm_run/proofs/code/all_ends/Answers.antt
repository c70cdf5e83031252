use Rattle.std.proofs.Common.{◌≡◌, Some, sym, ap, subst, ◌∙◌, rules}
use Rattle.std.specs.Prelude.{slice_get}
use Rattle.zw_wasm_run.specs.Bodies.{instrs_in}
use Rattle.zw_wasm_run.specs.Control.{AreEnds}
use Rattle.zw_wasm_run.proofs.Places.{ends_of-more, some_at}
use Rattle.zw_wasm_run.proofs.code.all_ends.Goals as goal

pub loop-body-preserved : goal.loop-body-preserved
loop-body-preserved c =
    let codes = c.args.codes.now in
    let n = c.loop-body.body-index in
    let there : slice_get codes n ≡ Some c.body-item.result = some_at codes n c.body-item.result (search rules) ∙ ap (λ b. Some b) (sym c.body-item.is) in
    let is : c.as_slice.result.now ≡ instrs_in (slice_get codes n) = c.as_slice.ensures ∙ ap instrs_in (sym there) in
    ends_of-more codes n c.loop-body.ends c.push.new.self c.in_ok-sequence_ends.field-0.items c.loop-body.invariant (search rules)
    (subst (λ l. AreEnds l c.in_ok-sequence_ends.field-0.items) is c.in_ok-sequence_ends.ensures)
