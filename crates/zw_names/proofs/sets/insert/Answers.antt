use Rattle.zw_names.proofs.SetLemmas.{MatchBool-insert}
use Rattle.zw_names.proofs.sets.insert.Goals as goal

pub returns : goal.returns
returns c =
    MatchBool-insert c.args.set.now.keys c.insert_full.new.self.keys c.in_ok-from_slice.field-0 c.args.name.now c.in_ok-is_new.is_new
    c.in_ok-from_slice.ensures.items c.in_ok-is_new.ensures.added c.in_ok-is_new.ensures.keys
