use Rattle.std.proofs.Common.{◌≡◌, ◌%◌, ◌^◌, ◌∷◌, ◌++◌, [], Some, true, refl, arith, rules}
use Rattle.std.specs.Prelude.{slice_get}
use Rattle.zw_wasm.specs.Functions.{func_type}
use Rattle.zw_wasm.specs.Reduction.{same_func_type}
use Rattle.zw_wasm_run.specs.declared.stacks.Stacks.{Stacks}
use Rattle.zw_wasm_run.specs.Rooms.{KeepsRoom}
use Rattle.zw_wasm_run.specs.Stores.{entry_of}
use Rattle.zw_wasm_run.proofs.StoreSteps.{behind_place, calls_there}
use Rattle.zw_wasm_run.proofs.StepRooms.{of_any_error, wants_by_place}
use Rattle.zw_wasm_run.proofs.indirect.call_by.Goals as goal

pub returns-clause-executes : goal.returns-clause-executes
returns-clause-executes c =
    let m = c.args.m.now in
    let store = c.args.shared.now in
    let old = c.args.stacks.now in
    let w = c.in-Some.word in
    let f = c.in-Some-entry.func in
    let words : old.words.items ≡ c.pop.new.self.items ++ w ∷ [] = search rules in
    let there : entry_of (slice_get store.table.items (w % 2 ^ 32)) ≡ Some f = search rules in
    let test : same_func_type (slice_get m.types c.args.ty) (func_type m f) ≡ true = search rules in
    behind_place m c.args.ty store old _ w c.in_ok-taken.taken c.call_any.new.stacks refl refl refl words
    (calls_there m c.args.ty (w % 2 ^ 32) f store _ c.in_ok-taken.taken c.call_any.new.stacks there test c.in_ok-taken.ensures.calls)

pub returns-in_err-taken-clause-wants : goal.returns-in_err-taken-clause-wants
returns-in_err-taken-clause-wants c =
    let m = c.args.m.now in
    let store = c.args.shared.now in
    let old = c.args.stacks.now in
    let mid : Stacks = record old { words = c.pop.new.self } in
    let w = c.in-Some.word in
    let f = c.in-Some-entry.func in
    let words : old.words.items ≡ c.pop.new.self.items ++ w ∷ [] = search rules in
    let there : entry_of (slice_get store.table.items (w % 2 ^ 32)) ≡ Some f = search rules in
    let test : same_func_type (slice_get m.types c.args.ty) (func_type m f) ≡ true = search rules in
    let keeps : KeepsRoom old mid = record { frames = omega arith; labels = omega arith; words = omega (arith, c.pop.ensures.capacity) } in
    of_any_error c.from_residual.result (wants_by_place m c.args.ty f store old mid w refl refl refl words keeps there test c.in_err-taken.ensures.wants)
