use Rattle.zw_outside.proofs.ReadLemmas.{read-content, read-end, slice_rest}
use Rattle.zw_outside.proofs.source.SureSourceSource.read.Goals as goal

pub returns-clause-content : goal.returns-clause-content
returns-clause-content c =
    let left = slice_rest c.deref.result.now c.args.self.now.bytes.items c.args.self.now.at c.deref.ensures.value in
    let copy = c.copy_front-n.ensures in
    (read-content _ _ _ _ _ _ left copy.count copy.copied, read-end _ _ _ _ _ _ left copy.count copy.copied)
