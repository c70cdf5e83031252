-- StepRooms: why calls, instructions and steps want memory.
use Rattle.std.proofs.Common.{◌≡◌, ℕ, ◌+◌, ◌-◌, ◌≤◌, ◌<◌, ◌%◌, ◌^◌, false, true, [], ◌∷◌, ◌++◌, Result, Ok, Err, Some, length, reverse, refl, sym, ap, subst, ◌∙◌, arith}
use Rattle.std.specs.Prelude.{IfErr, nat_le, slice_get, vec_capacity}
use Rattle.std.proofs.lemmas.Bool.{le-ltb, lt-leb}
use Rattle.std.proofs.lemmas.List.{length-append, length-reverse}
use Rattle.zw_wasm.specs.declared.module.CodeBody.{CodeBody}
use Rattle.zw_wasm.specs.declared.module.FuncType.{FuncType}
use Rattle.zw_wasm.specs.declared.module.Instr.{Instr}
use Rattle.zw_wasm.specs.declared.module.Instr.TheVariants as instr
use Rattle.zw_wasm.specs.declared.module.Module.{Module}
use Rattle.zw_wasm.specs.Functions.{func_type}
use Rattle.zw_wasm.specs.Reduction.{Config, Single, act, called, called_at, greatest_pages, same_func_type}
use Rattle.zw_wasm.specs.Structure.{is_plain}
use Rattle.zw_wasm_words.specs.Frames.{numbers_of, under}
use Rattle.zw_wasm_words.specs.Growths.{LeadsToMore}
use Rattle.zw_wasm_words.specs.Words.{zero_words}
use Rattle.zw_wasm_run.specs.declared.stacks.Stacks.{Stacks}
use Rattle.zw_wasm_run.specs.declared.store.Store.{Store}
use Rattle.zw_wasm_run.specs.Rooms.{HoldsFewer, IsFull, KeepsRoom, Overfills, StepWants, Wants, WantsForCall, of_frames, of_labels, of_memory, of_next, of_room, of_values, of_words}
use Rattle.zw_wasm_run.specs.Running.{body_of}
use Rattle.zw_wasm_run.specs.Settling.{IsAt}
use Rattle.zw_wasm_run.specs.Stores.{entry_of}
use Rattle.zw_wasm_run.proofs.AllCalls.{call_goes}
use Rattle.zw_wasm_run.proofs.Beginnings.{stands_behind}
use Rattle.zw_wasm_run.proofs.CountRooms.{values_counted}
use Rattle.zw_wasm_run.proofs.Popping.{popped}
use Rattle.zw_wasm_run.proofs.Steps.{behind}
use Rattle.zw_wasm_run.proofs.StoreSteps.{by_some}

-- what holds anyway holds of an error
pub of_any_error : {T E Q : Type 0} (r : Result T E) → Q → IfErr r (λ _. Q)
of_any_error (Ok x) q = tt
of_any_error (Err e) q = q

-- stacks that have lost no room, and hold no more, are full only where those before were
pub full_before : (old mid : Stacks) → KeepsRoom old mid → HoldsFewer old mid → IsFull mid → IsFull old
full_before old mid keeps fewer (of_words full) = of_words (omega (arith, keeps.words, fewer.words, full))
full_before old mid keeps fewer (of_labels full) = of_labels (omega (arith, keeps.labels, fewer.labels, full))
full_before old mid keeps fewer (of_frames full) = of_frames (omega (arith, keeps.frames, fewer.frames, full))

pub overfills_before : (old mid : Stacks) (c next : Config) → KeepsRoom old mid → Overfills mid c next → Overfills old c next
overfills_before old mid c next keeps (of_values full) = of_values (omega (arith, keeps.words, full))
overfills_before old mid c next keeps (of_memory more) = of_memory more

-- the same before a configuration of the same world
overfills_at : (s : Stacks) (c d next : Config) → d.world ≡ c.world → Overfills s d next → Overfills s c next
overfills_at s c d next same (of_values full) = of_values full
overfills_at s c d next same (of_memory more) = of_memory (subst (λ w. length w.store.memory < length next.world.store.memory) same more)

-- stacks with the same lists
same_room : (old mid : Stacks) → mid.frames ≡ old.frames → mid.labels ≡ old.labels → mid.words ≡ old.words → KeepsRoom old mid
same_room old mid frames labels words = record {
  frames = omega (arith, ap (λ v. vec_capacity v) frames);
  labels = omega (arith, ap (λ v. vec_capacity v) labels);
  words = omega (arith, ap (λ v. vec_capacity v) words);
}

same_lengths : (old mid : Stacks) → mid.frames ≡ old.frames → mid.labels ≡ old.labels → mid.words ≡ old.words → HoldsFewer old mid
same_lengths old mid frames labels words = record {
  frames = omega (arith, ap (λ v. length v.items) frames);
  labels = omega (arith, ap (λ v. length v.items) labels);
  words = omega (arith, ap (λ v. length v.items) words);
}

-- the locals of a function that is called have no room
pub wants_locals : (m : Module) (f : ℕ) (t : FuncType) (b : CodeBody) (old : Stacks) → func_type m f ≡ Some t → length m.imports ≤ f → length old.frames.items + 1 < 2100 → slice_get m.codes (f - length m.imports) ≡ Some b → vec_capacity old.words < length old.words.items + length (zero_words b.locals) → WantsForCall m f old
wants_locals m f t b old is own few there full = record {
  by = λ store. of_next (λ c stands same ruled.
      let ks = reverse old.frames.items in
      let labels = old.labels.items in
      let words = old.words.items in
      let new = words ++ zero_words b.locals in
      let free : nat_le 2100 (length ks + 1) ≡ false = lt-leb 2100 (length ks + 1) (omega (arith, few, length-reverse old.frames.items)) in
      let go = call_goes m old.frame ks labels words new c f t b stands is ruled (le-ltb f (length m.imports) own) free there refl in
      record {
        next = go.next;
        goes = go.goes;
        over = of_values (omega (arith, full, length-append words (zero_words b.locals), values_counted m _ _ _ new go.next go.stand));
      });
}

-- a call by its instruction
pub wants_call : (m : Module) (f : ℕ) (i : Instr) (store : Store) (old : Stacks) → i ≡ instr.Call f → WantsForCall m f old → Wants m (act m i) store old
wants_call m f i store old is wants = subst (λ j. Wants m (act m j) store old) (sym is) (wants.by store)

-- a call by a place of the table wants what the call behind its operand does
wants_behind : (m : Module) (k f : ℕ) (store : Store) (old mid : Stacks) (w : ℕ) → mid.frame ≡ old.frame → mid.frames.items ≡ old.frames.items → mid.labels.items ≡ old.labels.items → old.words.items ≡ mid.words.items ++ w ∷ [] → KeepsRoom old mid → entry_of (slice_get store.table.items (w % 2 ^ 32)) ≡ Some f → same_func_type (slice_get m.types k) (func_type m f) ≡ true → Wants m (called m f (func_type m f)) store mid → Wants m (act m (instr.CallIndirect k)) store old
wants_behind m k f store old mid w frame frames labels words keeps there test (of_room full) =
    let fewer : HoldsFewer old mid = record {
      frames = omega (arith, ap length frames);
      labels = omega (arith, ap length labels);
      words = omega (arith, ap length words, length-append mid.words.items (w ∷ []));
    } in
    of_room (full_before old mid keeps fewer full)
wants_behind m k f store old mid w frame frames labels words keeps there test (of_next next) =
    of_next (λ c stands same ruled.
    let x = w % 2 ^ 32 in
    let p = popped m old mid w (called_at m k) c frame frames labels words stands ruled in
    let store_there = ap (λ v. v.store) p.world ∙ same in
    let is = p.acts ∙ by_some m (slice_get m.types k) (slice_get p.next.world.store.table x) f true p.next (ap (λ s. entry_of (slice_get s.table x)) store_there ∙ there) test in
    let l = next p.next p.stand store_there (λ z. ruled (is ∙ z)) in
    record {
      next = l.next;
      goes = is ∙ l.goes;
      over = overfills_at old c p.next l.next p.world (overfills_before old mid p.next l.next keeps l.over);
    })

pub wants_by_place : (m : Module) (k f : ℕ) (store : Store) (old mid : Stacks) (w : ℕ) → mid.frame ≡ old.frame → mid.frames.items ≡ old.frames.items → mid.labels.items ≡ old.labels.items → old.words.items ≡ mid.words.items ++ w ∷ [] → KeepsRoom old mid → entry_of (slice_get store.table.items (w % 2 ^ 32)) ≡ Some f → same_func_type (slice_get m.types k) (func_type m f) ≡ true → WantsForCall m f mid → Wants m (act m (instr.CallIndirect k)) store old
wants_by_place m k f store old mid w frame frames labels words keeps there test wants = wants_behind m k f store old mid w frame frames labels words keeps there test (wants.by store)

-- a growth of the memory that is allowed has no room
pub wants_growth : (m : Module) (most : ℕ) (store : Store) (old : Stacks) → most ≡ greatest_pages m.memories → LeadsToMore most store.memory.items old.words.items → Wants m (act m instr.MemoryGrow) store old
wants_growth m most store old limit leads =
    of_next (λ c stands same ruled.
    let g = leads.by m c (under c.frame (numbers_of c.below)) (sym limit) (ap (λ s. s.memory) same) stands.running.held ruled in
    record { next = g.next; goes = g.goes; over = of_memory g.more })

-- a plain instruction, from the place where it stands
pub single_wants : (m : Module) (i : Instr) (store : Store) (old mid : Stacks) → IsAt m old i → is_plain i ≡ true → mid.frame ≡ record old.frame { at = old.frame.at + 1 } → mid.frames ≡ old.frames → mid.labels ≡ old.labels → mid.words ≡ old.words → Wants m (act m i) store mid → StepWants m store old
single_wants m i store old mid at plain frame frames labels words (of_room full) =
    of_room (full_before old mid (same_room old mid frames labels words) (same_lengths old mid frames labels words) full)
single_wants m i store old mid at plain frame frames labels words (of_next next) =
    of_next (λ c stands same.
    let d = behind (body_of m old.frame.body) old.frame.at c in
    let b = stands_behind m i old mid c at plain frame (ap (λ v. v.items) frames) (ap (λ v. v.items) labels) (ap (λ v. v.items) words) stands in
    record {
      work = Single i;
      frame = d.frame;
      stands = b.stands;
      leads = λ sound.
          let l = next d b.stand same sound.ruled in
          record { next = l.next; goes = l.goes; over = overfills_before old mid d l.next (same_room old mid frames labels words) l.over };
    })
