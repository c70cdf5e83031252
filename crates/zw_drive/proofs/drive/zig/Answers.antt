use Rattle.zw_drive.proofs.ReadLemmas.{all_read}
use Rattle.zw_drive.proofs.drive.zig.Goals as goal

pub returns-clause-serves : goal.returns-clause-serves
returns-clause-serves g c = rw c.number.ensures c.serve.ensures.serves

pub returns-clause-read : goal.returns-clause-read
returns-clause-read g c = rw c.number.ensures (all_read c.args.words.now _ _ _ _ _ _ _ _ _ c.serve.ensures.serves)

pub returns-clause-tree_blamed : goal.returns-clause-tree_blamed
returns-clause-tree_blamed g c = rw c.number.ensures c.serve.ensures.tree_blamed

pub returns-clause-input_blamed : goal.returns-clause-input_blamed
returns-clause-input_blamed g c = rw c.number.ensures c.serve.ensures.input_blamed

pub returns-clause-out_blamed : goal.returns-clause-out_blamed
returns-clause-out_blamed g c = rw c.number.ensures c.serve.ensures.out_blamed

pub returns-clause-diag_blamed : goal.returns-clause-diag_blamed
returns-clause-diag_blamed g c = rw c.number.ensures c.serve.ensures.diag_blamed
