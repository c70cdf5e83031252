-- Machines: what a machine holds, and how it begins (WebAssembly Core Specification 1.0, 4.2.5 and 4.5.4).
use Rattle.std.specs.Prelude.{◌≡◌, ◌⊎◌, ℕ, ◌+◌, false, List, [], ◌∷◌, codes, Vec, Option, Some, None, Result, Ok, Err, length}
use Rattle.std.specs.declared.alloc.Global.{Global}
use Rattle.zw_wasm.specs.declared.module.Module.{Module}
use Rattle.zw_wasm.specs.declared.module.Limits.{Limits}
use Rattle.zw_wasm.specs.ModuleMachine.{exported_global, first_store}
use Rattle.zw_wasm.specs.Reduction.{Store}
use Rattle.zw_wasm.specs.Signature.{bytes_at}
use Rattle.zw_wasm_words.specs.Segments.{datas_inside, elements_inside, first_false, first_outside}
use Rattle.zw_wasm_run.specs.declared.held.Machine.{Machine}
use Rattle.zw_wasm_run.specs.declared.machine.NewErr.{NewErr}
use Rattle.zw_wasm_run.specs.declared.machine.NewErr.TheVariants as error
use Rattle.zw_wasm_run.specs.declared.machine.Show.{Show}
pub use Rattle.zw_wasm_run.specs.Shows.{AreApart, AreShows, IsShow}
use Rattle.zw_wasm_run.specs.Stores.{stored}
use Rattle.std.specs.Option.{option_map}

-- what a machine's frames share
abbrev pub store_of : Machine → Store
store_of x = stored x.store

-- a new machine of a module, whose segments lie inside
pub record IsNew (m : Module) (shows : List Show) (x : Machine) : Type 0 where
  pub inside : first_outside m ≡ None
  pub same : x.code ≡ m
  pub shown : x.shows ≡ shows
  pub store : store_of x ≡ first_store m
  pub runs : x.over ≡ false

abbrev pub Begins : Module → List Show → Result Machine NewErr → Type 0
Begins m shows (Ok x) = IsNew m shows x
Begins m shows (Err (error.OutOfRangeSegment n)) = first_outside m ≡ Some n
Begins m shows (Err error.Oom) = Unit {0}

-- the bytes of the memory from a place on, where the module has one and they all lie inside
abbrev pub bytes_of_memory : List Limits → List ℕ → ℕ → ℕ → Option (List ℕ)
bytes_of_memory [] memory at count = None
bytes_of_memory (l ∷ ls) memory at count = bytes_at memory at count

-- the numbers of the exports that tell of a panic; one isn't there
pub record ArePanicState (m : Module) (store : Store) (c p n : ℕ) : Type 0 where
  pub cause : exported_global m store (codes "panic_cause") ≡ Some c
  pub at : exported_global m store (codes "panic_ptr") ≡ Some p
  pub count : exported_global m store (codes "panic_len") ≡ Some n

abbrev pub NoPanicState : Module → Store → Type 0
NoPanicState m store =
    (exported_global m store (codes "panic_cause") ≡ None)
    ⊎ ((exported_global m store (codes "panic_ptr") ≡ None) ⊎ (exported_global m store (codes "panic_len") ≡ None))

-- the table and the memory that a module begins with, or the first segment outside
abbrev pub Tabled : Module → Result (Vec (Option ℕ) Global) NewErr → Type 0
Tabled m (Ok table) = (first_false (elements_inside m) ≡ None) × (table.items ≡ (first_store m).table)
Tabled m (Err (error.OutOfRangeSegment n)) = first_false (elements_inside m) ≡ Some n
Tabled m (Err error.Oom) = Unit {0}

abbrev pub Remembers : Module → Result (Vec ℕ Global) NewErr → Type 0
Remembers m (Ok memory) = (first_false (datas_inside m) ≡ None) × (memory.items ≡ (first_store m).memory)
Remembers m (Err (error.OutOfRangeSegment n)) = option_map (λ k. length m.elements + k) (first_false (datas_inside m)) ≡ Some n
Remembers m (Err error.Oom) = Unit {0}

-- the segment with this number lies outside, or memory is wanting
abbrev pub IsOutOfRange : ℕ → NewErr → Type 0
IsOutOfRange number (error.OutOfRangeSegment n) = n ≡ number
IsOutOfRange number error.Oom = Unit {0}
