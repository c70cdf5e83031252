use Rattle.std.proofs.Common.{◌≡◌, ◌∷◌, drop}
use Rattle.std.specs.List.{list_all}
use Rattle.std.specs.Option.{option_to_list}
use Rattle.std.specs.Prelude.{slice_get}
use Rattle.zw_wasm.specs.Typing.{branches_so}
use Rattle.zw_wasm_check.specs.Stacks.{control_of, outer_of}
use Rattle.zw_wasm_check.proofs.stacks.Stacks.labels_take.Given as goal

abbrev pub invariant-loop-label : goal.invariant-loop-label
invariant-loop-label l = list_all (λ k. branches_so (option_to_list l.ty) (slice_get (control_of l.self.control ∷ outer_of l.self.outer) k)) l.labels ≡ list_all (λ k. branches_so (option_to_list l.ty) (slice_get (control_of l.self.control ∷ outer_of l.self.outer) k)) (drop l.label-index l.labels)
