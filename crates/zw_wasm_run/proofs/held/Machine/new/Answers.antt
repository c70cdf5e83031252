use Rattle.std.proofs.Common.{◌≡◌, refl, sym, subst}
use Rattle.zw_wasm.specs.Validity.{IsValid}
use Rattle.zw_wasm_sound.specs.Configurations.{IsTypedStore}
use Rattle.zw_wasm_sound.proofs.Stores.{first-store-typed}
use Rattle.zw_wasm_run.specs.Shows.{AreShows}
use Rattle.zw_wasm.specs.ModuleMachine.{first_store}
use Rattle.zw_wasm.specs.declared.module.Module.{Module}
use Rattle.zw_wasm_run.proofs.Beginning.{none_outside, store_is, table_fails, memory_fails}
use Rattle.zw_wasm_run.specs.Machines.{Remembers, Tabled}
use Rattle.zw_wasm_run.proofs.held.Machine.new.Goals as goal

pub returns-in-Err : goal.returns-in-Err
returns-in-Err c =
    table_fails c.args.m c.args.shows c.in-Err.error
    (subst (λ r. Tabled c.args.m r) c.in-Err.is (subst (λ (m : Module). Tabled m c.new_table.result) c.module-module.ensures.same c.new_table.ensures))

pub returns-in-Err-new_memory : goal.returns-in-Err-new_memory
returns-in-Err-new_memory c =
    let tabled = subst (λ r. Tabled c.args.m r) c.in-Ok.is (subst (λ (m : Module). Tabled m c.new_table.result) c.module-module.ensures.same c.new_table.ensures) in
    memory_fails c.args.m c.args.shows c.in-Err-new_memory.error tabled.0
    (subst (λ r. Remembers c.args.m r) c.in-Err-new_memory.is (subst (λ (m : Module). Remembers m c.new_memory.result) c.module-module.ensures.same c.new_memory.ensures.value))

pub invariant_of-result : goal.invariant_of-result
invariant_of-result c =
    let tabled = subst (λ r. Tabled c.args.m r) c.in-Ok.is (subst (λ (m : Module). Tabled m c.new_table.result) c.module-module.ensures.same c.new_table.ensures) in
    let remembers = subst (λ r. Remembers c.args.m r) c.in-Ok-new_memory.is (subst (λ (m : Module). Remembers m c.new_memory.result) c.module-module.ensures.same c.new_memory.ensures.value) in
    let store =
    store_is c.args.m c.in_ok-globals.globals c.in-Ok-new_memory.memory.items c.in-Ok.table.items
    (subst (λ (m : Module). c.in_ok-globals.globals ≡ (first_store m).globals) c.module-module.ensures.same c.in_ok-globals.ensures) remembers.1 tabled.1 in
    record {
      shown = subst (λ (m : Module). AreShows m c.args.shows) (sym c.in_ok-new.ensures) c.requires.shown;
      typed = λ h.
          subst (λ (m : Module). IsTypedStore m (record { globals = c.in_ok-globals.globals; memory = c.in-Ok-new_memory.memory.items; table = c.in-Ok.table.items })) (sym c.in_ok-new.ensures)
          (subst (λ s. IsTypedStore c.args.m s) (sym store) (first-store-typed c.args.m (subst IsValid c.module-module.ensures.same c.module-module.ensures.valid)));
    }

pub returns : goal.returns
returns c =
    let tabled = subst (λ r. Tabled c.args.m r) c.in-Ok.is (subst (λ (m : Module). Tabled m c.new_table.result) c.module-module.ensures.same c.new_table.ensures) in
    let remembers = subst (λ r. Remembers c.args.m r) c.in-Ok-new_memory.is (subst (λ (m : Module). Remembers m c.new_memory.result) c.module-module.ensures.same c.new_memory.ensures.value) in
    record {
      inside = none_outside c.args.m tabled.0 remembers.0;
      same = c.in_ok-new.ensures;
      shown = refl;
      store =
          store_is c.args.m c.in_ok-globals.globals c.in-Ok-new_memory.memory.items c.in-Ok.table.items
          (subst (λ (m : Module). c.in_ok-globals.globals ≡ (first_store m).globals) c.module-module.ensures.same c.in_ok-globals.ensures) remembers.1 tabled.1;
      runs = refl;
    }
