-- The module of a program does what each file means that has the program.
use Rattle.std.proofs.Common.{◌≡◌, List, map, sym, subst}
use Rattle.zw_form.specs.Form.{IsSmall}
use Rattle.zw_form.specs.Rules.{KeepsRules}
use Rattle.zw_form.specs.Trees.{Tree, declaration_of}
use Rattle.zw_form.specs.declared.program.Program.{Program}
use Rattle.zw_lower.proofs.CallsAgree.{file_agrees}
use Rattle.zw_lower.proofs.FileImports.{file_module}
use Rattle.zw_lower.proofs.ModuleShows.{module_shows}
use Rattle.zw_lower.proofs.ModuleValid.{module_valid}
use Rattle.zw_lower.proofs.ModuleWellFormed.{module_well_formed}
use Rattle.zw_lower.specs.Modules.{module_of}
use Rattle.zw_lower.specs.Right.{Does, IsRight}
use Rattle.zw_wasm.specs.WellFormed.{IsWellFormed}
use Rattle.zw_wasm.specs.declared.module.Module.{Module}

file_does : (trees : List Tree) → KeepsRules (map declaration_of trees) → IsSmall trees → Does trees (file_module trees)
file_does trees rules small = record {
  valid = module_valid trees rules small;
  shows = module_shows trees rules;
  agrees = file_agrees trees rules small;
}

module_right : (p : Program) → IsRight p (module_of p)
module_right p = record {
  does = λ trees same rules small. subst (λ (q : Program). Does trees (module_of q)) (sym same) (file_does trees rules small);
  well_formed = λ trees same rules small. subst (λ (q : Program). IsWellFormed (module_of q)) (sym same) (module_well_formed trees rules small);
}

pub right_if : (p : Program) (m : Module) → m ≡ module_of p → IsRight p m
right_if p m same = subst (IsRight p) (sym same) (module_right p)
