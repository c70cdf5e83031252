-- The parts of a list are read one by one.
use Rattle.std.proofs.Common.{sym, ◌∙◌, ap}
use Rattle.std.specs.Option.{option_map}
use Rattle.zw_types.specs.declared.value.Value.{Value}
use Rattle.zw_types.specs.Readings.{value_tree}
use Rattle.zw_values.specs.Paths.{part_of}
use Rattle.zw_values.proofs.PathLemmas.{part_of-Parts}
use Rattle.zw_values.proofs.paths.part.Goals as goal

pub returns-in-Parts : goal.returns-in-Parts
returns-in-Parts c = λ types.
    ap (option_map (value_tree types)) c.get.ensures.value
    ∙ sym (ap (λ (x : Value). part_of (value_tree types x) c.args.step) c.in-Parts.is ∙ part_of-Parts types c.in-Parts.parts c.args.step)
