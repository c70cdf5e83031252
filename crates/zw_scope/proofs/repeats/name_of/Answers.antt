use Rattle.std.proofs.Common.{◌∙◌, sym}
use Rattle.zw_scope.proofs.RepeatLemmas.{node-within, own-name}
use Rattle.zw_scope.proofs.repeats.name_of.Goals as goal

pub returns-then-is_name : goal.returns-then-is_name
returns-then-is_name c = λ root inside behind at. (
  node-within c.args.ast.now c.args.child root inside behind at,
  own-name c.args.ast.now c.args.child root inside behind at c.args.named c.in-Errors.is c.kind-kind.result c.kind-kind.ensures (sym c.is_name.ensures ∙ c.if-is_name.true),
)
