use Rattle.std.proofs.Common.{arith}
use Rattle.zw_parse.proofs.SyntaxLemmas.{start_fits}
use Rattle.zw_parse.proofs.syntax.stop_of.Goals as goal

pub place_of-place-requires-clause-within : goal.place_of-place-requires-clause-within
place_of-place-requires-clause-within c = omega (arith, start_fits c.args.text.now c.args.tokens.now c.args.number c.requires.within, c.start_at-start.ensures)
