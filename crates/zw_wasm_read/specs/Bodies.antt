-- The bytes of a function's body.
use Rattle.std.specs.Prelude.{ℕ, ◌<◌, ◌^◌, List, Result, Ok, Err}
use Rattle.zw_wasm.specs.declared.module.CodeBody.{CodeBody}
use Rattle.zw_wasm.specs.ModuleBytes.{◌⌢◌, IsExpression, IsLocalRun, IsVector, local_count}
use Rattle.zw_wasm_read.specs.declared.unread.Unread.{Unread}
use Rattle.zw_wasm_read.specs.declared.unread.Unread.TheVariants.{Unfit, Oom}

-- these bytes spell the locals and the code, of which there are not too many
pub record IsBody (c : CodeBody) (bytes : List ℕ) : Type 0 where
  pub few : local_count c.locals < 2 ^ 32
  pub parts : (IsVector IsLocalRun c.locals ⌢ IsExpression c.instrs) bytes

abbrev pub ReadsBody : List ℕ → Result CodeBody Unread → Type 0
ReadsBody bytes (Ok c) = IsBody c bytes
ReadsBody bytes (Err Unfit) = (c : CodeBody) → IsBody c bytes → ⊥
ReadsBody bytes (Err Oom) = Unit {0}
