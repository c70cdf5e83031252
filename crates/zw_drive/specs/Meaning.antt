-- Which module a text is built to: one that does what the text means.
use Rattle.std.specs.Prelude.{List, ℕ}
use Rattle.zw_form.specs.Form.{HasForm}
use Rattle.zw_form.specs.Trees.{Tree}
use Rattle.zw_lower.specs.Right.{Does}
use Rattle.zw_wasm.specs.ModuleBytes.{ModuleBytes}
use Rattle.zw_wasm.specs.declared.module.Module.{Module}

-- The text has the form, with these declarations, and the module does what they mean.
pub record Means (text : List ℕ) (m : Module) : Type 0 where
  pub trees : List Tree
  pub form : HasForm text trees
  pub does : Does trees m

-- the text is built to these bytes, which spell such a module
pub record Builds (text out : List ℕ) : Type 0 where
  pub built : Module
  pub means : Means text built
  pub spelled : ModuleBytes built out
