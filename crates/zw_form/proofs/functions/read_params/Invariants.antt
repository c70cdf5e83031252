use Rattle.std.proofs.Common.{◌≡◌, ◌++◌, map, drop}
use Rattle.std.specs.Option.{option_map}
use Rattle.zw_tree.specs.Numbering.{from}
use Rattle.zw_form.specs.Nodes.{each, param_of}
use Rattle.zw_form.proofs.functions.read_params.Given as goal

abbrev pub invariant-loop-n : goal.invariant-loop-n
invariant-loop-n l = option_map (λ rest. l.names ++ rest) (each param_of (map (from l.ast) (drop l.n-index l.nodes))) ≡ each param_of (map (from l.ast) l.nodes)
