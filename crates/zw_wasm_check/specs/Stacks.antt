-- Stacks: what the stacks of the program are in the definition, where the innermost entry comes first.
use Rattle.std.specs.Prelude.{◌≡◌, ℕ, List, map, reverse}
use Rattle.std.specs.Option.{option_to_list}
use Rattle.zw_wasm.specs.declared.module.FuncType.{FuncType}
use Rattle.zw_wasm.specs.declared.module.Module.{Module}
use Rattle.zw_wasm.specs.declared.module.ValType.{ValType}
use Rattle.zw_wasm.specs.Typing.{Checked, Closes, Context, Control, Goes, Operand, Refused, no_index, wrong_alignment, wrong_type}
use Rattle.zw_wasm.specs.Validity.{expanded}
use Rattle.std.specs.Prelude.{◌++◌}
use Rattle.zw_wasm_check.specs.declared.stacks.Entry.{Entry}
use Rattle.zw_wasm_check.specs.declared.stacks.Fault.{Fault}
use Rattle.zw_wasm_check.specs.declared.stacks.Fault.TheVariants as fault
use Rattle.zw_wasm_check.specs.declared.stacks.Stacks.{Stacks}
use Rattle.zw_wasm_check.specs.declared.stacks.Step.{Step}
use Rattle.zw_wasm_check.specs.declared.stacks.Step.TheVariants as step
use Rattle.zw_wasm_check.specs.Operands.{operands_of}

-- the number of a fault
abbrev pub number_of : Fault → ℕ
number_of fault.Index = no_index
number_of fault.Type = wrong_type
number_of fault.Alignment = wrong_alignment

abbrev pub control_of : Entry → Control
control_of e = record {
  results = option_to_list e.result_type;
  branch = option_to_list e.branch_type;
  below = operands_of e.below;
  unreachable = e.unreachable;
  is_if = e.is_if;
}

abbrev pub outer_of : List Entry → List Control
outer_of es = map control_of (reverse es)

-- what comes of an instruction, with the stacks behind it
abbrev pub checked_of : Step → Stacks → Checked
checked_of step.Goes s = Goes (operands_of s.operands) (control_of s.control) (outer_of s.outer)
checked_of step.Closes s = Closes
checked_of (step.Refused f) s = Refused (number_of f)

-- a rule, from these stacks, comes out so
abbrev pub ComesTo : (List Operand → Control → List Control → Checked) → Stacks → Step → Stacks → Type 0
ComesTo rule old s new = rule (operands_of old.operands) (control_of old.control) (outer_of old.outer) ≡ checked_of s new

-- what the code of a function of this type stands in, with these locals beside the parameters
abbrev pub context_of : Module → FuncType → List (ℕ × ValType) → Context
context_of m t runs = record { module_ = m; locals = t.params ++ expanded runs; returns = option_to_list t.result }
