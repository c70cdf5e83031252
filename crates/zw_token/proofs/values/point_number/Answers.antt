use Rattle.std.proofs.Common.{◌∙◌}
use Rattle.zw_token.proofs.Escapes.{point_of_text, point_of_none}
use Rattle.zw_token.proofs.values.point_number.Goals as goal

pub returns-in-Ok : goal.returns-in-Ok
returns-in-Ok c = c.first_point.ensures ∙ point_of_text c.args.rest.now c.in-Ok.text.now c.point_len.result c.point_len.ensures.value c.in-Ok.ensures.cases.0 c.in-Ok.ensures.cases.1

pub returns-in-Err : goal.returns-in-Err
returns-in-Err c = point_of_none c.args.rest.now c.point_len.result c.point_len.ensures.value c.in-Err.ensures.cases.0
