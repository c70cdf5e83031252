use Rattle.std.proofs.Common.{sym, subst}
use Rattle.std.proofs.lemmas.Result.{err_from_is_err_and}
use Rattle.zw_token.specs.Tokens.{Tokens}
use Rattle.zw_form.proofs.ReadLemmas.{syntax_refusal}
use Rattle.zw_form.proofs.read.read_form.Goals as goal

pub returns-in_err-ast-clause-refused : goal.returns-in_err-ast-clause-refused
returns-in_err-ast-clause-refused c =
    let p = err_from_is_err_and c.from_residual-in_err-ast.result c.from_residual-in_err-ast.ensures.1 in
    rw (p.1, p.2)
    (syntax_refusal c.args.text.now c.deref.result.now (subst (Tokens c.args.text.now) (sym c.deref.ensures.value) c.in_ok-tokens.ensures.list) c.in_err-ast.field-0.0 c.in_err-ast.ensures.stop)
