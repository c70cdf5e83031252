use Rattle.zw_drive.proofs.PrepareLemmas.{calls_of, inside}
use Rattle.zw_drive.proofs.prepare.prepare_calls.Goals as goal

pub returns-in-Ok : goal.returns-in-Ok
returns-in-Ok c =
    record {
      prepares = inside _ _ _ c.requires.start c.requires.begins.inside c.in-Ok.ensures;
      begins = c.requires.begins;
      are_calls = calls_of _ _ _ c.in-Ok.ensures;
    }
