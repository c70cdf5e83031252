use Rattle.std.proofs.Common.{Bool, sym, ◌∙◌}
use Rattle.std.proofs.lemmas.Result.{IfOk-weaker}
use Rattle.zw_form.proofs.WorkLemmas.{parameter-begins}
use Rattle.zw_form.proofs.sums.read_node.Goals as goal

pub returns-in-Identifier-clause-begins : goal.returns-in-Identifier-clause-begins
returns-in-Identifier-clause-begins c =
    IfOk-weaker c.read_parameter.result _ _ (λ (ok : Bool) h. parameter-begins c.args.text.now c.args.tokens.now c.args.ast.now c.args.n (sym c.role.ensures ∙ c.in-Identifier.is) ok c.args.reader.now _ (h c.args.text.now c.args.tokens.now))
    c.read_parameter.ensures.begins
