use Rattle.std.proofs.Common.{◌∷◌, [], subst}
use Rattle.std.specs.Prelude.{IfOk}
use Rattle.zw_wasm.specs.Accesses.{store_width}
use Rattle.zw_wasm.specs.declared.module.ValType.TheVariants.{I32}
use Rattle.zw_wasm.specs.Typing.{accesses}
use Rattle.zw_wasm_check.specs.Stacks.{ComesTo, context_of}
use Rattle.zw_wasm_check.proofs.stacks.Stacks.store.Goals as goal

pub returns : goal.returns
returns c = λ t runs.
    subst (λ ty. IfOk c.access.result (λ step. ComesTo (accesses (context_of c.args.m.now t runs) (store_width c.args.kind) c.args.place (I32 ∷ ty ∷ []) []) c.args.self.now step c.access.new.self))
    c.store_type.ensures (c.access.ensures t runs _ c.store_alignment-natural.ensures)
