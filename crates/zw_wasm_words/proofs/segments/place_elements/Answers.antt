use Rattle.std.proofs.Common.{true, false, length, subst}
use Rattle.zw_wasm.specs.declared.module.Element.{Element}
use Rattle.zw_wasm.specs.ModuleMachine.{constant_of}
use Rattle.zw_wasm_words.proofs.Placing.{elements_begin, elements_more, elements_stop, first_behind_all}
use Rattle.zw_wasm_words.specs.Memory.{Places}
use Rattle.zw_wasm_words.specs.Segments.{element_fits}
use Rattle.zw_wasm_words.proofs.segments.place_elements.Goals as goal

pub loop-number-init : goal.loop-number-init
loop-number-init c = elements_begin _ _ _

pub returns-then-not-branch-clause-first : goal.returns-then-not-branch-clause-first
returns-then-not-branch-clause-first c =
    elements_stop c.args.globals.now c.args.segments.now c.args.table.now c.loop-number.table c.place_element.new.table c.loop-number.number c.index-segments-number.result c.loop-number-test.true c.loop-number.invariant
    (subst (λ (s : Element). Places c.loop-number.table (constant_of c.args.globals.now s.at) s.funcs false c.place_element.new.table) c.index-segments-number.is
    (subst (λ b. Places c.loop-number.table (constant_of c.args.globals.now c.index-segments-number.result.at) c.index-segments-number.result.funcs b c.place_element.new.table) c.if-not-branch.true c.in_ok-place_element.ensures))

pub loop-number-preserved : goal.loop-number-preserved
loop-number-preserved c =
    elements_more c.args.globals.now c.args.segments.now c.args.table.now c.loop-number.table c.place_element.new.table c.loop-number.number c.index-segments-number.result c.loop-number-test.true c.loop-number.invariant
    (subst (λ (s : Element). Places c.loop-number.table (constant_of c.args.globals.now s.at) s.funcs true c.place_element.new.table) c.index-segments-number.is
    (subst (λ b. Places c.loop-number.table (constant_of c.args.globals.now c.index-segments-number.result.at) c.index-segments-number.result.funcs b c.place_element.new.table) c.if-not-branch.false c.in_ok-place_element.ensures))

pub returns-clause-first : goal.returns-clause-first
returns-clause-first c = first_behind_all (element_fits c.args.globals.now (length c.args.table.now)) c.args.segments.now c.loop-number.number c.loop-number-test.false c.loop-number.invariant.first
