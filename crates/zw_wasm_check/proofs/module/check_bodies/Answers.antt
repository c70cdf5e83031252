use Rattle.std.proofs.Common.{ℕ, ◌≤◌, length, Option, Some, IfSome, option_map, sym, ap, subst, ◌∙◌, arith}
use Rattle.zw_wasm.specs.Validity.{Body}
use Rattle.zw_wasm_check.specs.declared.body.Place.{Place}
use Rattle.zw_wasm_check.specs.Bodies.{place_of}
use Rattle.zw_wasm_check.proofs.OutsideLemmas.{body_passes, body_fails}
use Rattle.zw_wasm_check.proofs.SizeLemmas.{few_instrs}
use Rattle.zw_wasm_check.proofs.module.check_bodies.Goals as goal

pub overflow_cast-result-in-Some : goal.overflow_cast-result-in-Some
overflow_cast-result-in-Some c =
    let item = rw c.as_slice-body-items.ensures at c.body-item.is in
    let few = rw (sym item) at (few_instrs c.args.m.now c.loop-number.number c.body-item.result c.requires.fits (rw c.as_slice-body-items.ensures at c.loop-number-test.true)) in
    let within : c.in-Some.place.at ≤ length c.body-item.result.instrs = subst (λ (o : Option Place). IfSome o (λ (p : Place). p.at ≤ length c.body-item.result.instrs)) c.in-Some.is c.in_ok-place.ensures.within in
    omega (arith, few, within)

pub loop-number-preserved : goal.loop-number-preserved
loop-number-preserved c =
    c.loop-number.invariant
    ∙ body_passes c.args.m.now c.args.m.now.codes c.loop-number.number c.body-item.result (rw c.as_slice-body-items.ensures at c.loop-number-test.true) (rw c.as_slice-body-items.ensures at c.body-item.is)
    ((rw c.len.ensures at c.in_ok-place.ensures.first) ∙ ap (option_map place_of) c.in_default.is)

pub returns-in-Some : goal.returns-in-Some
returns-in-Some c =
    c.loop-number.invariant
    ∙ body_fails c.args.m.now c.args.m.now.codes c.loop-number.number c.body-item.result c.in-Some.place (rw c.as_slice-body-items.ensures at c.loop-number-test.true) (rw c.as_slice-body-items.ensures at c.body-item.is)
    ((rw c.len.ensures at c.in_ok-place.ensures.first) ∙ ap (option_map place_of) c.in-Some.is)
    ∙ ap (λ (code : ℕ). Some (Body c.loop-number.number c.in-Some.place.at code)) (sym c.number.ensures)
