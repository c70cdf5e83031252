-- Reaches: which configurations a call comes to by instructions alone, before it ends, traps, or calls the host (WebAssembly
-- Core Specification 1.0, 4.2.13).
use Rattle.std.specs.Prelude.{◌≡◌, ℕ, suc, List}
use Rattle.zw_wasm.specs.declared.module.Module.{Module}
use Rattle.zw_wasm.specs.declared.num.Num.{Num}
use Rattle.zw_wasm.specs.Reduction.{CallsHost, Config, Fetched, Found, Frame, Goes, Work, done, fetched, stands_in}

-- what comes next in a configuration
abbrev pub next_of : Config → Fetched
next_of c = fetched (stands_in c.frame) c.below

-- the configuration in which work is done that was found over these frames
abbrev pub working : Frame → List Frame → Config → Config
working f below c = record { frame = f; below = below; world = c.world }

-- an instruction leads from one configuration to another
pub record Moves (m : Module) (c d : Config) : Type 0 where
  pub work : Work
  pub frame : Frame
  pub below : List Frame
  pub found : next_of c ≡ Found work frame below
  pub goes : done m work (working frame below c) ≡ Goes d

-- an instruction calls a function of the host
pub record CallsOut (m : Module) (c : Config) : Type 0 where
  pub work : Work
  pub frame : Frame
  pub below : List Frame
  pub found : next_of c ≡ Found work frame below
  pub import : ℕ
  pub args : List Num
  pub waits : Config
  pub calls : done m work (working frame below c) ≡ CallsHost import args waits

-- so many instructions lead from one configuration to another
pub data Reaches (m : Module) (c : Config) : ℕ → Config → Type 0 where
  here : Reaches m c 0 c
  further : (n : ℕ) (d e : Config) → Reaches m c n d → Moves m d e → Reaches m c (suc n) e
