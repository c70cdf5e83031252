use Rattle.std.proofs.Common.{true, false, length, subst}
use Rattle.zw_wasm.specs.declared.module.DataSegment.{DataSegment}
use Rattle.zw_wasm.specs.ModuleMachine.{constant_of}
use Rattle.zw_wasm_words.proofs.Placing.{datas_begin, datas_more, datas_stop, first_behind_all}
use Rattle.zw_wasm_words.specs.Memory.{Stores}
use Rattle.zw_wasm_words.specs.Segments.{data_fits}
use Rattle.zw_wasm_words.proofs.segments.place_datas.Goals as goal

pub loop-number-init : goal.loop-number-init
loop-number-init c = datas_begin _ _ _

pub returns-then-not-place_data-clause-first : goal.returns-then-not-place_data-clause-first
returns-then-not-place_data-clause-first c =
    datas_stop c.args.globals.now c.args.segments.now c.args.memory.now c.loop-number.memory c.place_data.new.memory c.loop-number.number c.index-segments-number.result c.loop-number-test.true c.loop-number.invariant
    (subst (λ (s : DataSegment). Stores c.loop-number.memory (constant_of c.args.globals.now s.at) s.bytes false c.place_data.new.memory) c.index-segments-number.is
    (subst (λ b. Stores c.loop-number.memory (constant_of c.args.globals.now c.index-segments-number.result.at) c.index-segments-number.result.bytes b c.place_data.new.memory) c.if-not-place_data.true c.place_data.ensures))

pub loop-number-preserved : goal.loop-number-preserved
loop-number-preserved c =
    datas_more c.args.globals.now c.args.segments.now c.args.memory.now c.loop-number.memory c.place_data.new.memory c.loop-number.number c.index-segments-number.result c.loop-number-test.true c.loop-number.invariant
    (subst (λ (s : DataSegment). Stores c.loop-number.memory (constant_of c.args.globals.now s.at) s.bytes true c.place_data.new.memory) c.index-segments-number.is
    (subst (λ b. Stores c.loop-number.memory (constant_of c.args.globals.now c.index-segments-number.result.at) c.index-segments-number.result.bytes b c.place_data.new.memory) c.if-not-place_data.false c.place_data.ensures))

pub returns-clause-first : goal.returns-clause-first
returns-clause-first c = first_behind_all (data_fits c.args.globals.now (length c.args.memory.now)) c.args.segments.now c.loop-number.number c.loop-number-test.false c.loop-number.invariant.first
