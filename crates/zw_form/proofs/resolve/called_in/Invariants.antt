use Rattle.std.proofs.Common.{◌≡◌, take}
use Rattle.zw_names.specs.NameSets.{names_in}
use Rattle.zw_form.specs.Programs.{called_in}
use Rattle.zw_form.proofs.resolve.called_in.Given as goal

abbrev pub invariant-loop-declaration : goal.invariant-loop-declaration
invariant-loop-declaration l = names_in l.called ≡ called_in (take l.declaration-index l.file)
