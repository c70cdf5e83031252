use Rattle.std.proofs.Common.{◌-◌, length, take, drop}
use Rattle.zw_token.proofs.Escapes.{two_digits_small}
use Rattle.zw_token.proofs.values.escape_number.Goals as goal

pub hex_value-requires-in-120 : goal.hex_value-requires-in-120
hex_value-requires-in-120 c = two_digits_small (take (length c.args.escape.now - 1) (drop 1 c.args.escape.now))
