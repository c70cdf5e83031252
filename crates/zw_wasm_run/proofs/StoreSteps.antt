-- StoreSteps: instructions on what all frames share, and calls, on the stacks of a call.
use Rattle.std.proofs.Common.{◌≡◌, ℕ, ◌<◌, ◌%◌, ◌^◌, Bool, true, false, List, [], ◌∷◌, ◌++◌, Option, Some, None, length, reverse, refl, sym, ap, subst, ◌∙◌}
use Rattle.std.specs.Prelude.{nat_lt, slice_get, slice_set, if◌then◌else◌}
use Rattle.zw_wasm.specs.declared.module.FuncType.{FuncType}
use Rattle.zw_wasm.specs.declared.module.Instr.{Instr}
use Rattle.zw_wasm.specs.declared.module.Instr.TheVariants as instr
use Rattle.zw_wasm.specs.declared.module.Module.{Module}
use Rattle.zw_wasm.specs.declared.module.ValType.TheVariants as ty
use Rattle.zw_wasm.specs.declared.num.Num.{Num}
use Rattle.zw_wasm.specs.Functions.{func_type}
use Rattle.zw_wasm.specs.Reduction as reduction
use Rattle.zw_wasm.specs.Reduction.{Action, Config, Goes, Traps, World, act, called, called_at, called_by, no_entry_trap, no_rule, on_one, on_operand, same_func_type, signature_trap, with_global, with_memory, with_operands}
use Rattle.zw_wasm_words.specs.declared.effect.Effect.{Effect}
use Rattle.zw_wasm_words.specs.declared.effect.Effect.TheVariants as effect
use Rattle.zw_wasm_words.specs.declared.frame.Frame.{Frame}
use Rattle.zw_wasm_words.specs.declared.frame.Label.{Label}
use Rattle.zw_wasm_words.specs.Frames.{numbers_of, under}
use Rattle.zw_wasm_words.specs.Operands.{EndsOn, EndsSetting, EndsWriting, HasTypeOf, IsRuled, ReadsGlobals, ReadsMemory, SetsGlobal, WritesMemory, with_globals}
use Rattle.zw_wasm_words.specs.Words.{Hold}
use Rattle.zw_wasm_run.specs.declared.pause.Taken.{Taken}
use Rattle.zw_wasm_run.specs.declared.pause.Taken.TheVariants as taken
use Rattle.zw_wasm_run.specs.declared.stacks.Stacks.{Stacks}
use Rattle.zw_wasm_run.specs.declared.store.Store.{Store}
use Rattle.zw_wasm_run.specs.Running.{ActsOnStacks, AllStand, EndsSo, GoesTo, SameParts, StacksStand}
use Rattle.zw_wasm_run.specs.Stores.{Calls, EndsWith, Executes, entry_of, stored, taken_of, with_store}
use Rattle.zw_wasm_run.proofs.Popping.{popped, stand_as}
use Rattle.zw_wasm_run.proofs.Stacked.{goes_as}
use Rattle.zw_wasm_run.proofs.Stepping.{no_operands}

pub same_world : (s : Store) (w : World) → w.store ≡ stored s → with_store s w ≡ w
same_world s w e = ap (λ (x : reduction.Store). let r : World = record w { store = x } in r) (sym e)

-- the same in a world of equal parts
in_world : (m : Module) (a : Action) (new : Stacks) (w u : World) → w ≡ u → GoesTo m a new.frame (reverse new.frames.items) new.labels.items new.words.items w → GoesTo m a new.frame (reverse new.frames.items) new.labels.items new.words.items u
in_world m a new w u e goes = subst (λ x. GoesTo m a new.frame (reverse new.frames.items) new.labels.items new.words.items x) e goes

-- an effect on the stacks leaves the store
pub ends_with : (m : Module) (a : Action) (e : Effect) (store : Store) (new : Stacks) (w : World) → w.store ≡ stored store → EndsSo m a e new w → EndsWith m a (taken_of e) store new w
ends_with m a effect.Goes store new w same ends = in_world m a new w (with_store store w) (sym (same_world store w same)) ends
ends_with m a (effect.Traps code) store new w same ends = (ends, sym same)

pub executes_so : (m : Module) (i : Instr) (store : Store) (old : Stacks) (e : Effect) (t : Taken) (new : Stacks) → t ≡ taken_of e → ActsOnStacks m (act m i) old e new → Executes m i store old t store new
executes_so m i store old e t new is acts = record {
  by = λ c stands same sound.
      subst (λ x. EndsWith m (act m i c) x store new c.world) (sym is)
      (ends_with m (act m i c) e store new c.world same (acts.by c stands sound.ruled));
}

-- ---- memory and globals

-- the stacks with other words stand for the configuration with other operands
with_words : (m : Module) (k : Frame) (ks : List Frame) (labels : List Label) (old new : List ℕ) (c d : Config) (os : List Num) → AllStand m k ks labels old c → d.frame ≡ (with_operands os c).frame → d.below ≡ c.below → Hold (reverse new) (os ++ under c.frame (numbers_of c.below)) → AllStand m k ks labels new d
with_words m k ks labels old new c d os all frame below held =
    let e : Config = record { frame = (with_operands os c).frame; below = c.below; world = d.world } in
    let same : e ≡ d = ap (λ f. let x : Config = record { frame = f; below = c.below; world = d.world } in x) (sym frame) ∙ ap (λ b. let x : Config = record { frame = d.frame; below = b; world = d.world } in x) (sym below) in
    let there : AllStand m k ks labels new e = record {
      running = record {
        frame = record {
          arity = all.running.frame.arity;
          code = all.running.frame.code;
          labels = all.running.frame.labels;
          locals = record { first = all.running.frame.locals.first; behind = all.running.frame.locals.behind };
        };
        held = held;
      };
      inside = all.inside;
      below = all.below;
    } in
    subst (λ x. AllStand m k ks labels new x) same there

on_operands : (m : Module) (a : Action) (e : Effect) (old new : Stacks) (c : Config) → StacksStand m old c → EndsOn a c (under c.frame (numbers_of c.below)) e new.words.items → new.frame ≡ old.frame → new.frames.items ≡ old.frames.items → new.labels.items ≡ old.labels.items → EndsSo m a e new c.world
on_operands m a (effect.Traps code) old new c stands ends frame frames labels = ends
on_operands m a effect.Goes old new c stands ends frame frames labels =
    goes_as m a new old.frame (reverse old.frames.items) old.labels.items new.words.items c.world frame (ap reverse frames) labels refl
    (record {
      next = with_operands ends.operands c;
      goes = ends.goes;
      stand = with_words m old.frame (reverse old.frames.items) old.labels.items old.words.items new.words.items c (with_operands ends.operands c) ends.operands stands refl refl ends.held;
      world = refl;
    })

-- an instruction that reads the memory, and one that reads the globals
pub reads_memory : (m : Module) (i : Instr) (store : Store) (old : Stacks) (e : Effect) (t : Taken) (new : Stacks) → ReadsMemory store.memory.items (act m i) old.words.items e new.words.items → t ≡ taken_of e → new.frame ≡ old.frame → new.frames.items ≡ old.frames.items → new.labels.items ≡ old.labels.items → Executes m i store old t store new
reads_memory m i store old e t new reads is frame frames labels = record {
  by = λ c stands same sound.
      subst (λ x. EndsWith m (act m i c) x store new c.world) (sym is)
      (ends_with m (act m i c) e store new c.world same
      (on_operands m (act m i c) e old new c stands (reads.by c (under c.frame (numbers_of c.below)) (ap (λ s. s.memory) same) stands.running.held sound.ruled) frame frames labels));
}

pub reads_globals : (m : Module) (i : Instr) (store : Store) (old : Stacks) (e : Effect) (t : Taken) (new : Stacks) → ReadsGlobals store.globals (act m i) old.words.items e new.words.items → t ≡ taken_of e → new.frame ≡ old.frame → new.frames.items ≡ old.frames.items → new.labels.items ≡ old.labels.items → Executes m i store old t store new
reads_globals m i store old e t new reads is frame frames labels = record {
  by = λ c stands same sound.
      subst (λ x. EndsWith m (act m i c) x store new c.world) (sym is)
      (ends_with m (act m i c) e store new c.world same
      (on_operands m (act m i c) e old new c stands (reads.by c (under c.frame (numbers_of c.below)) (ap (λ s. s.globals) same) stands.running.held sound.ruled) frame frames labels));
}

-- a store of equal parts
store_as : (s left : Store) (x : reduction.Store) (globals : List Num) (memory : List ℕ) → x ≡ stored s → left.table.items ≡ s.table.items → left.globals ≡ globals → left.memory.items ≡ memory → (let r : reduction.Store = record { globals = globals; memory = memory; table = x.table } in r ≡ stored left)
store_as s left x globals memory is table own bytes =
    let y : List Num → List ℕ → List (Option ℕ) → reduction.Store = λ g b t. record { globals = g; memory = b; table = t } in
    ap (λ g. y g memory x.table) (sym own) ∙ ap (λ b. y left.globals b x.table) (sym bytes) ∙ ap (λ t. y left.globals left.memory.items t) (ap (λ s. s.table) is ∙ sym table)

writing : (m : Module) (a : Action) (e : Effect) (store left : Store) (old new : Stacks) (c : Config) → StacksStand m old c → c.world.store ≡ stored store → EndsWriting a c (under c.frame (numbers_of c.below)) e left.memory.items new.words.items → ((code : ℕ) → e ≡ effect.Traps code → left.memory.items ≡ store.memory.items) → left.globals ≡ store.globals → left.table.items ≡ store.table.items → new.frame ≡ old.frame → new.frames.items ≡ old.frames.items → new.labels.items ≡ old.labels.items → EndsWith m a (taken_of e) left new c.world
writing m a (effect.Traps code) store left old new c stands same ends kept globals table frame frames labels =
    (ends, sym (store_as store left c.world.store c.world.store.globals c.world.store.memory same table (globals ∙ ap (λ s. s.globals) (sym same)) (kept code refl ∙ ap (λ s. s.memory) (sym same))))
writing m a effect.Goes store left old new c stands same ends kept globals table frame frames labels =
    let d = with_memory left.memory.items (with_operands ends.operands c) in
    goes_as m a new old.frame (reverse old.frames.items) old.labels.items new.words.items (with_store left c.world) frame (ap reverse frames) labels refl
    (record {
      next = d;
      goes = ends.goes;
      stand = with_words m old.frame (reverse old.frames.items) old.labels.items old.words.items new.words.items c d ends.operands stands refl refl ends.held;
      world = ap (λ s. let w : World = record c.world { store = s } in w) (store_as store left c.world.store c.world.store.globals left.memory.items same table (globals ∙ ap (λ s. s.globals) (sym same)) refl);
    })

-- an instruction that writes the memory
pub writes_memory : (m : Module) (i : Instr) (store left : Store) (old : Stacks) (e : Effect) (t : Taken) (new : Stacks) → WritesMemory store.memory.items left.memory.items (act m i) old.words.items e new.words.items → t ≡ taken_of e → left.globals ≡ store.globals → left.table.items ≡ store.table.items → new.frame ≡ old.frame → new.frames.items ≡ old.frames.items → new.labels.items ≡ old.labels.items → Executes m i store old t left new
writes_memory m i store left old e t new writes is globals table frame frames labels = record {
  by = λ c stands same sound.
      subst (λ x. EndsWith m (act m i c) x left new c.world) (sym is)
      (writing m (act m i c) e store left old new c stands same (writes.by c (under c.frame (numbers_of c.below)) (ap (λ s. s.memory) same) stands.running.held sound.ruled) writes.kept globals table frame frames labels);
}

-- a global is set, or no rule applies
no_trap_by : (n : ℕ) (v : Num) (c : Config) (code : ℕ) (b : Bool) → nat_lt n (length c.world.store.globals) ≡ b → with_global n v c ≡ Traps code → IsRuled (with_global n v c) → ⊥
no_trap_by n v c code true e traps ruled =
    let is = ap (λ t. if t then Goes (record c { world = record c.world { store = record c.world.store { globals = slice_set c.world.store.globals n v } } }) else Traps no_rule) e in
    let never : Goes (record c { world = record c.world { store = record c.world.store { globals = slice_set c.world.store.globals n v } } }) ≡ Traps code = sym is ∙ traps in
    cc
no_trap_by n v c code false e traps ruled =
    ruled (ap (λ t. if t then Goes (record c { world = record c.world { store = record c.world.store { globals = slice_set c.world.store.globals n v } } }) else Traps no_rule) e)

no_trap : (n : ℕ) (os : List Num) (c : Config) (code : ℕ) → on_operand (with_global n) os c ≡ Traps code → IsRuled (on_operand (with_global n) os c) → ⊥
no_trap n [] c code traps ruled = ruled refl
no_trap n (v ∷ os) c code traps ruled = no_trap_by n v (with_operands os c) code (nat_lt n (length c.world.store.globals)) refl traps ruled

setting : (m : Module) (n : ℕ) (e : Effect) (store left : Store) (old new : Stacks) (c : Config) → StacksStand m old c → c.world.store ≡ stored store → EndsSetting (on_operand (with_global n) c.frame.operands c) c (under c.frame (numbers_of c.below)) e left.globals new.words.items → IsRuled (on_operand (with_global n) c.frame.operands c) → left.memory.items ≡ store.memory.items → left.table.items ≡ store.table.items → new.frame ≡ old.frame → new.frames.items ≡ old.frames.items → new.labels.items ≡ old.labels.items → EndsWith m (on_operand (with_global n) c.frame.operands c) (taken_of e) left new c.world
setting m n (effect.Traps code) store left old new c stands same ends ruled memory table frame frames labels = absurd (no_trap n c.frame.operands c code ends ruled)
setting m n effect.Goes store left old new c stands same ends ruled memory table frame frames labels =
    let d = with_globals left.globals (with_operands ends.operands c) in
    goes_as m (on_operand (with_global n) c.frame.operands c) new old.frame (reverse old.frames.items) old.labels.items new.words.items (with_store left c.world) frame (ap reverse frames) labels refl
    (record {
      next = d;
      goes = ends.goes;
      stand = with_words m old.frame (reverse old.frames.items) old.labels.items old.words.items new.words.items c d ends.operands stands refl refl ends.held;
      world = ap (λ s. let w : World = record c.world { store = s } in w) (store_as store left c.world.store left.globals c.world.store.memory same table refl (memory ∙ ap (λ s. s.memory) (sym same)));
    })

pub sets_global : (m : Module) (n : ℕ) (store left : Store) (old : Stacks) (e : Effect) (t : Taken) (new : Stacks) → SetsGlobal n store.globals left.globals old.words.items e new.words.items → t ≡ taken_of e → left.memory.items ≡ store.memory.items → left.table.items ≡ store.table.items → new.frame ≡ old.frame → new.frames.items ≡ old.frames.items → new.labels.items ≡ old.labels.items → Executes m (instr.GlobalSet n) store old t left new
sets_global m n store left old e t new sets is memory table frame frames labels = record {
  by = λ c stands same sound.
      subst (λ x. EndsWith m (act m (instr.GlobalSet n) c) x left new c.world) (sym is)
      (setting m n e store left old new c stands same
      (sets.by c (under c.frame (numbers_of c.below)) (ap (λ s. s.globals) same) stands.running.held (subst (λ (g : List Num). HasTypeOf (slice_get g n) c.frame.operands) (ap (λ s. s.globals) same) sound.fits) sound.ruled)
      sound.ruled memory table frame frames labels);
}

-- ---- calls

-- stacks that hold the same stand for the same
pub same_stand : (m : Module) (old new : Stacks) (c : Config) → SameParts old new → StacksStand m old c → StacksStand m new c
same_stand m old new c same stands = stand_as m new old.frame (reverse old.frames.items) old.labels.items old.words.items c same.frame (ap reverse same.frames) same.labels same.words stands

pub call_ends : (m : Module) (f : ℕ) (old : Stacks) (t : Taken) (store : Store) (new : Stacks) (c : Config) → Calls m f old t new → StacksStand m old c → IsRuled (called m f (func_type m f) c) → c.world.store ≡ stored store → EndsWith m (called m f (func_type m f) c) t store new c.world
call_ends m f old taken.Goes store new c calls stands ruled same = ends_with m (called m f (func_type m f) c) effect.Goes store new c.world same (calls.by c stands ruled)
call_ends m f old (taken.Traps code) store new c calls stands ruled same = ends_with m (called m f (func_type m f) c) (effect.Traps code) store new c.world same (calls.by c stands ruled)
call_ends m f old (taken.Calls g) store new c calls stands ruled same = record {
  next = c;
  imported = subst (λ k. k < length m.imports) (sym calls.0) calls.1;
  calls = ap (λ k. called m k (func_type m k) c) (sym calls.0);
  stand = same_stand m old new c calls.2 stands;
  world = refl;
  kept = sym same;
}

pub executes_call : (m : Module) (f : ℕ) (store : Store) (old : Stacks) (t : Taken) (new : Stacks) → Calls m f old t new → Executes m (instr.Call f) store old t store new
executes_call m f store old t new calls = record { by = λ c stands same sound. call_ends m f old t store new c calls stands sound.ruled same }

-- the function at a place of the table
by_none : (m : Module) (k : Option FuncType) (o : Option (Option ℕ)) (c : Config) → entry_of o ≡ None → called_by m k o c ≡ Traps no_entry_trap
by_none m k None c e = refl
by_none m k (Some None) c e = refl
by_none m k (Some (Some f)) c e = absurd (cc)

pub by_some : (m : Module) (k : Option FuncType) (o : Option (Option ℕ)) (f : ℕ) (b : Bool) (c : Config) → entry_of o ≡ Some f → same_func_type k (func_type m f) ≡ b → called_by m k o c ≡ (if b then called m f (func_type m f) c else Traps signature_trap)
by_some m k None f b c e test = absurd (cc)
by_some m k (Some None) f b c e test = absurd (cc)
by_some m k (Some (Some g)) f b c e test =
    let same : g ≡ f = cc in
    ap (λ x. if same_func_type k (func_type m x) then called m x (func_type m x) c else Traps signature_trap) same ∙ ap (λ t. if t then called m f (func_type m f) c else Traps signature_trap) test

-- how a call by a place of the table ends, behind its operand
pub record ActsByPlace (m : Module) (k : ℕ) (x : ℕ) (store : Store) (mid : Stacks) (t : Taken) (new : Stacks) : Type 0 where
  pub by : (c : Config) → StacksStand m mid c → c.world.store ≡ stored store → IsRuled (called_at m k x c) → EndsWith m (called_at m k x c) t store new c.world

pub behind_place : (m : Module) (k : ℕ) (store : Store) (old mid : Stacks) (w : ℕ) (t : Taken) (new : Stacks) → mid.frame ≡ old.frame → mid.frames.items ≡ old.frames.items → mid.labels.items ≡ old.labels.items → old.words.items ≡ mid.words.items ++ w ∷ [] → ActsByPlace m k (w % 2 ^ 32) store mid t new → Executes m (instr.CallIndirect k) store old t store new
behind_place m k store old mid w t new frame frames labels words acts = record {
  by = λ c stands same sound.
      let p = popped m old mid w (called_at m k) c frame frames labels words stands sound.ruled in
      subst (λ a. EndsWith m a t store new c.world) (sym p.acts)
      (subst (λ x. EndsWith m (called_at m k (w % 2 ^ 32) p.next) t store new x) p.world (acts.by p.next p.stand (ap (λ x. x.store) p.world ∙ same) (λ x. sound.ruled (p.acts ∙ x))));
}

pub without_place : (m : Module) (k : ℕ) (store : Store) (old new : Stacks) → old.words.items ≡ [] → Executes m (instr.CallIndirect k) store old (taken.Traps 0) store new
without_place m k store old new none = record {
  by = λ c stands same sound.
      let beneath = under c.frame (numbers_of c.below) in
      (ap (λ os. on_one ty.I32 (called_at m k) os c) (no_operands c.frame.operands beneath (subst (λ ws. Hold (reverse ws) (c.frame.operands ++ beneath)) none stands.running.held)), sym same);
}

pub no_function_there : (m : Module) (k x : ℕ) (store : Store) (mid new : Stacks) → entry_of (slice_get store.table.items x) ≡ None → ActsByPlace m k x store mid (taken.Traps 5) new
no_function_there m k x store mid new none = record {
  by = λ c stands same ruled. (by_none m (slice_get m.types k) (slice_get c.world.store.table x) c (ap (λ s. entry_of (slice_get s.table x)) same ∙ none), sym same);
}

pub of_another_type : (m : Module) (k x f : ℕ) (store : Store) (mid new : Stacks) → entry_of (slice_get store.table.items x) ≡ Some f → same_func_type (slice_get m.types k) (func_type m f) ≡ false → ActsByPlace m k x store mid (taken.Traps 6) new
of_another_type m k x f store mid new there test = record {
  by = λ c stands same ruled. (by_some m (slice_get m.types k) (slice_get c.world.store.table x) f false c (ap (λ s. entry_of (slice_get s.table x)) same ∙ there) test, sym same);
}

pub calls_there : (m : Module) (k x f : ℕ) (store : Store) (mid : Stacks) (t : Taken) (new : Stacks) → entry_of (slice_get store.table.items x) ≡ Some f → same_func_type (slice_get m.types k) (func_type m f) ≡ true → Calls m f mid t new → ActsByPlace m k x store mid t new
calls_there m k x f store mid t new there test calls = record {
  by = λ c stands same ruled.
      let is = by_some m (slice_get m.types k) (slice_get c.world.store.table x) f true c (ap (λ s. entry_of (slice_get s.table x)) same ∙ there) test in
      subst (λ a. EndsWith m a t store new c.world) (sym is) (call_ends m f mid t store new c calls stands (λ z. ruled (is ∙ z)) same);
}
