-- The rebuilt value is the written one.
use Rattle.std.proofs.Common.{refl, sym, ◌∙◌, ap}
use Rattle.std.specs.Option.{option_map}
use Rattle.zw_types.specs.Readings.{value_tree}
use Rattle.zw_values.proofs.PathLemmas.{unwritten_is_nowhere}
use Rattle.zw_values.proofs.paths.write_at.Goals as goal

pub returns-in-Some-clause-done : goal.returns-in-Some-clause-done
returns-in-Some-clause-done c = λ types.
    sym (c.in_ok-written.ensures types) ∙ ap (option_map (value_tree types)) c.in-Some.is

pub returns-in-None-clause-done : goal.returns-in-None-clause-done
returns-in-None-clause-done c = (
  refl,
  λ types. unwritten_is_nowhere (value_tree types c.args.v.now) (value_tree types c.args.new) c.args.path.now
      (sym (c.in_ok-written.ensures types) ∙ ap (option_map (value_tree types)) c.in-None.is),
)
