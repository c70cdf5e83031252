use Rattle.std.proofs.Common.{arith, ap, ◌∙◌}
use Rattle.zw_names.specs.NameSets.{names_in}
use Rattle.zw_form.proofs.KeptLemmas.{called-item, called-same}
use Rattle.zw_form.proofs.resolve.called_in.Goals as goal
use Rattle.zw_form.proofs.resolve.called_in.Goals.{in-Export+in_ok-insert_all, in_default}

pub loop-declaration-preserved : goal.loop-declaration-preserved
loop-declaration-preserved c =
    elim c.match-declaration.branch [
      | in-Export+in_ok-insert_all w ↦
          ap names_in w.called-is
          ∙ called-item c.args.file.now c.loop-declaration.declaration-index c.declaration-item.result (omega arith) c.declaration-item.is (names_in c.loop-declaration.called) c.loop-declaration.invariant
          (names_in w.insert_all.new.set) w.in-Export.function w.in-Export.is (rw w.as_slice.ensures at w.in_ok-insert_all.ensures)
      | in_default w ↦
          ap names_in w.called-is
          ∙ called-same c.args.file.now c.loop-declaration.declaration-index c.declaration-item.result (omega arith) c.declaration-item.is (names_in c.loop-declaration.called) c.loop-declaration.invariant
          w.in_default.not-Export
    ]
