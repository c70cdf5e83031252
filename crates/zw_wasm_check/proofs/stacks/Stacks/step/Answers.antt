use Rattle.std.proofs.Common.{sym, ap, ◌∙◌}
use Rattle.zw_wasm.specs.declared.module.Instr.TheVariants.{BrTable}
use Rattle.zw_wasm_check.proofs.Ends.{instr_if, instr_is}
use Rattle.zw_wasm_check.specs.Stacks.{context_of}
use Rattle.zw_wasm_check.proofs.stacks.Stacks.step.Goals as goal

pub returns-in-Block : goal.returns-in-Block
returns-in-Block c =
    instr_if (context_of c.args.m.now c.args.ty.now c.args.locals.now) c.args.instr.now _ c.args.self.now c.block.result c.block.new.self c.in-Block.is (c.block.ensures (context_of c.args.m.now c.args.ty.now c.args.locals.now))

pub returns-in-Loop : goal.returns-in-Loop
returns-in-Loop c =
    instr_if (context_of c.args.m.now c.args.ty.now c.args.locals.now) c.args.instr.now _ c.args.self.now c.repeat.result c.repeat.new.self c.in-Loop.is (c.repeat.ensures (context_of c.args.m.now c.args.ty.now c.args.locals.now))

pub returns-in-If : goal.returns-in-If
returns-in-If c =
    instr_if (context_of c.args.m.now c.args.ty.now c.args.locals.now) c.args.instr.now _ c.args.self.now c.choose.result c.choose.new.self c.in-If.is (c.choose.ensures (context_of c.args.m.now c.args.ty.now c.args.locals.now))

pub returns-in-Else : goal.returns-in-Else
returns-in-Else c =
    instr_is (context_of c.args.m.now c.args.ty.now c.args.locals.now) c.args.instr.now _ c.args.self.now c.turn.result c.turn.new.self c.in-Else.is (c.turn.ensures (context_of c.args.m.now c.args.ty.now c.args.locals.now))

pub returns-in-End : goal.returns-in-End
returns-in-End c =
    instr_if (context_of c.args.m.now c.args.ty.now c.args.locals.now) c.args.instr.now _ c.args.self.now c.end.result c.end.new.self c.in-End.is (c.end.ensures (context_of c.args.m.now c.args.ty.now c.args.locals.now))

pub returns-in-Br : goal.returns-in-Br
returns-in-Br c =
    instr_is (context_of c.args.m.now c.args.ty.now c.args.locals.now) c.args.instr.now _ c.args.self.now c.branch_always.result c.branch_always.new.self c.in-Br.is (c.branch_always.ensures (context_of c.args.m.now c.args.ty.now c.args.locals.now))

pub returns-in-BrIf : goal.returns-in-BrIf
returns-in-BrIf c =
    instr_if (context_of c.args.m.now c.args.ty.now c.args.locals.now) c.args.instr.now _ c.args.self.now c.branch_if.result c.branch_if.new.self c.in-BrIf.is (c.branch_if.ensures (context_of c.args.m.now c.args.ty.now c.args.locals.now))

pub returns-in-BrTable : goal.returns-in-BrTable
returns-in-BrTable c =
    let x = context_of c.args.m.now c.args.ty.now c.args.locals.now in
    let is = c.in-BrTable.is ∙ ap (λ ls. BrTable c.in-BrTable.default ls) (sym (c.as_slice.ensures ∙ c.get.ensures)) in
    instr_is x c.args.instr.now _ c.args.self.now c.branch_by.result c.branch_by.new.self is (c.branch_by.ensures x)

pub returns-in-Call : goal.returns-in-Call
returns-in-Call c =
    instr_if (context_of c.args.m.now c.args.ty.now c.args.locals.now) c.args.instr.now _ c.args.self.now c.call.result c.call.new.self c.in-Call.is (c.call.ensures c.args.ty.now c.args.locals.now)

pub returns-in-Drop : goal.returns-in-Drop
returns-in-Drop c =
    instr_is (context_of c.args.m.now c.args.ty.now c.args.locals.now) c.args.instr.now _ c.args.self.now c.drop_one.result c.drop_one.new.self c.in-Drop.is (c.drop_one.ensures (context_of c.args.m.now c.args.ty.now c.args.locals.now))

pub returns-in-Select : goal.returns-in-Select
returns-in-Select c =
    instr_if (context_of c.args.m.now c.args.ty.now c.args.locals.now) c.args.instr.now _ c.args.self.now c.select.result c.select.new.self c.in-Select.is (c.select.ensures (context_of c.args.m.now c.args.ty.now c.args.locals.now))

pub returns-in-LocalGet : goal.returns-in-LocalGet
returns-in-LocalGet c =
    instr_if (context_of c.args.m.now c.args.ty.now c.args.locals.now) c.args.instr.now _ c.args.self.now c.local_get.result c.local_get.new.self c.in-LocalGet.is (c.local_get.ensures c.args.m.now)

pub returns-in-LocalSet : goal.returns-in-LocalSet
returns-in-LocalSet c =
    instr_if (context_of c.args.m.now c.args.ty.now c.args.locals.now) c.args.instr.now _ c.args.self.now c.local_set.result c.local_set.new.self c.in-LocalSet.is (c.local_set.ensures c.args.m.now)

pub returns-in-LocalTee : goal.returns-in-LocalTee
returns-in-LocalTee c =
    instr_if (context_of c.args.m.now c.args.ty.now c.args.locals.now) c.args.instr.now _ c.args.self.now c.local_tee.result c.local_tee.new.self c.in-LocalTee.is (c.local_tee.ensures c.args.m.now)

pub returns-in-GlobalGet : goal.returns-in-GlobalGet
returns-in-GlobalGet c =
    instr_if (context_of c.args.m.now c.args.ty.now c.args.locals.now) c.args.instr.now _ c.args.self.now c.global_get.result c.global_get.new.self c.in-GlobalGet.is (c.global_get.ensures c.args.ty.now c.args.locals.now)

pub returns-in-GlobalSet : goal.returns-in-GlobalSet
returns-in-GlobalSet c =
    instr_if (context_of c.args.m.now c.args.ty.now c.args.locals.now) c.args.instr.now _ c.args.self.now c.global_set.result c.global_set.new.self c.in-GlobalSet.is (c.global_set.ensures c.args.ty.now c.args.locals.now)

pub returns-in-Load : goal.returns-in-Load
returns-in-Load c =
    instr_if (context_of c.args.m.now c.args.ty.now c.args.locals.now) c.args.instr.now _ c.args.self.now c.load.result c.load.new.self c.in-Load.is (c.load.ensures c.args.ty.now c.args.locals.now)

pub returns-in-Store : goal.returns-in-Store
returns-in-Store c =
    instr_if (context_of c.args.m.now c.args.ty.now c.args.locals.now) c.args.instr.now _ c.args.self.now c.store.result c.store.new.self c.in-Store.is (c.store.ensures c.args.ty.now c.args.locals.now)

pub returns-in-Convert : goal.returns-in-Convert
returns-in-Convert c =
    instr_if (context_of c.args.m.now c.args.ty.now c.args.locals.now) c.args.instr.now _ c.args.self.now c.convert.result c.convert.new.self c.in-Convert.is (c.convert.ensures (context_of c.args.m.now c.args.ty.now c.args.locals.now))
