-- Growths: when a growth leads to a larger memory, which may be wanting.
use Rattle.std.specs.Prelude.{◌≡◌, ℕ, ◌<◌, List, ◌++◌, length, reverse}
use Rattle.zw_wasm.specs.declared.module.Module.{Module}
use Rattle.zw_wasm.specs.declared.module.ValType.TheVariants.{I32}
use Rattle.zw_wasm.specs.declared.num.Num.{Num}
use Rattle.zw_wasm.specs.Reduction.{Action, Config, Goes, greatest_pages, grows, on_one}
use Rattle.zw_wasm_words.specs.Operands.{IsRuled}
use Rattle.zw_wasm_words.specs.Words.{Hold}

-- an action leads to a configuration with a larger memory
pub record GrowsMemory (a : Action) (c : Config) : Type 0 where
  pub next : Config
  pub goes : a ≡ Goes next
  pub more : length c.world.store.memory < length next.world.store.memory

-- a growth of the memory, where it may have so many pages, leads to a larger memory
pub record LeadsToMore (most : ℕ) (memory stack : List ℕ) : Type 0 where
  pub by : (m : Module) (c : Config) (base : List Num) → greatest_pages m.memories ≡ most → c.world.store.memory ≡ memory → Hold (reverse stack) (c.frame.operands ++ base) → IsRuled (on_one I32 (grows m) c.frame.operands c) → GrowsMemory (on_one I32 (grows m) c.frame.operands c) c
