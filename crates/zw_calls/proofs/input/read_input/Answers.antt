use Rattle.std.proofs.Common.{ℕ, arith}
use Rattle.std.proofs.lemmas.List.{length-take}
use Rattle.zw_calls.proofs.SourceLemmas.{front, on_err}
use Rattle.zw_calls.specs.Input.{IsFront}
use Rattle.zw_calls.proofs.input.read_input.Goals as goal

pub returns-in_err-count-clause-err : goal.returns-in_err-count-clause-err
returns-in_err-count-clause-err g c =
    on_err (IsFront (g.S.Source.left c.args.input.now) (g.S.Source.left c.read_piece.new.input) 16777217) c.from_residual.result
    (front (g.S.Source.left c.args.input.now) (g.S.Source.left c.loop-piece.input) (g.S.Source.left c.read_piece.new.input) c.loop-piece.bytes.items _ 16777217 c.loop-piece.invariant.read c.in_err-count.ensures.err (omega (arith, length-take {A = ℕ})))
