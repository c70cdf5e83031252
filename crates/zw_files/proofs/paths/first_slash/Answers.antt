use Rattle.std.proofs.Common.{length, sym, ap, arith}
use Rattle.std.proofs.lemmas.List.Sums.{position_or_len_is}
use Rattle.zw_files.specs.Paths.{is_slash}
use Rattle.zw_files.proofs.paths.first_slash.Goals as goal

pub returns-then-byte-eq47-clause-at : goal.returns-then-byte-eq47-clause-at
returns-then-byte-eq47-clause-at c = sym (position_or_len_is is_slash c.args.path.now c.loop-at.at 0 (omega arith) c.loop-at.invariant (λ _. ap is_slash c.if-byte-eq47.true))

pub returns-clause-at : goal.returns-clause-at
returns-clause-at c = sym (position_or_len_is is_slash c.args.path.now (length c.args.path.now) 0 (omega arith) (λ k w. c.loop-at.invariant k (omega arith)) (λ h. absurd (omega arith)))
