-- Performances: from what an instruction comes to behind its place to a step from its place.
use Rattle.std.proofs.Common.{◌≡◌, ◌+◌, ◌-◌, ℕ, true, refl, sym, subst, arith}
use Rattle.zw_wasm.specs.declared.module.Instr.{Instr}
use Rattle.zw_wasm.specs.declared.module.Instr.TheVariants as instr
use Rattle.zw_wasm.specs.declared.module.Module.{Module}
use Rattle.zw_wasm.specs.Structure.{is_plain}
use Rattle.zw_wasm_words.specs.FullLists.{IsFullList}
use Rattle.zw_wasm_run.specs.declared.pause.Taken.{Taken}
use Rattle.zw_wasm_run.specs.declared.stacks.Stacks.{Stacks}
use Rattle.zw_wasm_run.specs.declared.store.Store.{Store}
use Rattle.zw_wasm_run.specs.Performing.{PerformWants, Performs, back, of_other, of_plain, other_wants, plain_wants}
use Rattle.zw_wasm_run.specs.Rooms.{StepWants, WantsForCall, of_room, of_words}
use Rattle.zw_wasm_run.specs.Settling.{IsAt}
use Rattle.zw_wasm_run.specs.Stores.{Steps}
use Rattle.zw_wasm_run.proofs.Beginnings.{single_steps}
use Rattle.zw_wasm_run.proofs.StepRooms.{single_wants}

-- the stacks behind the instruction where they stand
abbrev pub passed : Stacks → Stacks
passed s = record s { frame = record s.frame { at = s.frame.at + 1 } }

-- the stacks at another place
abbrev pub placed : Stacks → ℕ → Stacks
placed s at = record s { frame = record s.frame { at = at } }

there : (n : ℕ) → n + 1 - 1 ≡ n
there n = omega arith

pub performed : (m : Module) (i : Instr) (store left : Store) (old : Stacks) (t : Taken) (new : Stacks) → IsAt m old i → Performs m i store (passed old) t left new → Steps m store old t left new
performed m i store left old t new at (of_plain plain executes) = single_steps m i store left old (passed old) t new at plain refl refl refl refl executes
performed m i store left old t new at (of_other steps) = subst (λ (n : ℕ). Steps m store (placed old n) t left new) (there old.frame.at) steps

pub perform_wanted : (m : Module) (i : Instr) (store : Store) (old : Stacks) → IsAt m old i → PerformWants m i store (passed old) → StepWants m store old
perform_wanted m i store old at (plain_wants plain wants) = single_wants m i store old (passed old) at plain refl refl refl refl wants
perform_wanted m i store old at (other_wants wants) = subst (λ (n : ℕ). StepWants m store (placed old n)) (there old.frame.at) wants

pub due_behind : (m : Module) (i : Instr) (old : Stacks) → IsAt m old i → IsAt m (back (passed old)) i
due_behind m i old at = subst (λ (n : ℕ). IsAt m (placed old n) i) (sym (there old.frame.at)) at

-- a plain instruction finds no room for a word
pub words_wanted : (m : Module) (i : Instr) (store : Store) (old : Stacks) → is_plain i ≡ true → IsFullList old.words → PerformWants m i store old
words_wanted m i store old plain full = plain_wants plain (of_room (of_words full))

-- a call wants what its function does
pub call_wanted : (m : Module) (f : ℕ) (i : Instr) (store : Store) (old : Stacks) → i ≡ instr.Call f → WantsForCall m f old → PerformWants m i store old
call_wanted m f i store old is wants = subst (λ j. PerformWants m j store old) (sym is) (plain_wants refl (wants.by store))
