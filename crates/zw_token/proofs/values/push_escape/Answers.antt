use Rattle.std.proofs.Common.{arith}
use Rattle.zw_token.proofs.Escapes.{byte_escape_small}
use Rattle.zw_token.proofs.values.push_escape.Goals as goal

pub overflow_cast-number : goal.overflow_cast-number
overflow_cast-number c = let small = byte_escape_small c.args.escape.now c.requires.is_escape c.if-escape-eq120.true in omega (arith, small, c.escape_number-number.ensures)
