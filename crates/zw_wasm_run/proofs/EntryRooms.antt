-- EntryRooms: why the beginning of a call wants memory.
use Rattle.std.proofs.Common.{◌≡◌, ℕ, ◌+◌, ◌-◌, ◌≤◌, ◌<◌, List, Some, length, refl, ap, ◌∙◌, arith}
use Rattle.std.specs.Prelude.{slice_get, vec_capacity}
use Rattle.std.proofs.lemmas.Bool.{le-ltb}
use Rattle.std.proofs.lemmas.List.{length-append}
use Rattle.zw_wasm.specs.declared.module.CodeBody.{CodeBody}
use Rattle.zw_wasm.specs.declared.module.Module.{Module}
use Rattle.zw_wasm.specs.declared.num.Num.{Num}
use Rattle.zw_wasm.specs.Functions.{func_type}
use Rattle.zw_wasm.specs.ModuleMachine.{idle}
use Rattle.zw_wasm.specs.Reduction.{World, arity_of, entered}
use Rattle.zw_wasm.specs.Structure.{zeros}
use Rattle.zw_wasm_reach.specs.Counts.{values_of}
use Rattle.zw_wasm_words.specs.Words.{zero_words}
use Rattle.zw_wasm_words.proofs.Holding.{hold_length}
use Rattle.zw_wasm_run.specs.declared.stacks.Stacks.{Stacks}
use Rattle.zw_wasm_run.specs.Rooms.{BeginsBeyond}
use Rattle.zw_wasm_run.proofs.AllCalls.{enter_goes, entering}
use Rattle.zw_wasm_run.proofs.EnterWords.{zeros_held}

-- a call begins with its arguments and its other locals
first_values : (func arity : ℕ) (given : List Num) (b : CodeBody) (w : World) → values_of (entering func arity given b (idle w)) ≡ length given + length (zero_words b.locals)
first_values func arity given b w =
    omega (arith, length-append given (zeros b.locals), hold_length (zero_words b.locals) (zeros b.locals) (zeros_held b.locals))

-- there is no room for them
pub begins_beyond : (m : Module) (func : ℕ) (given : List Num) (b : CodeBody) (held : Stacks) → length m.imports ≤ func → slice_get m.codes (func - length m.imports) ≡ Some b → vec_capacity held.words < length given + length (zero_words b.locals) → BeginsBeyond m func given held
begins_beyond m func given b held own there full = record {
  by = λ w.
      let arity = arity_of (func_type m func) in
      record {
        first = entering func arity given b (idle w);
        goes = enter_goes m func given (idle w) (le-ltb func (length m.imports) own) refl ∙ ap (λ o. entered o func arity given (idle w)) there;
        beyond = omega (arith, full, first_values func arity given b w);
      };
}
