use Rattle.std.proofs.Common.{arith, sym, subst}
use Rattle.zw_token.proofs.Lists.{lies_at}
use Rattle.zw_parse.specs.Syntax.{IsSyntaxRefusal}
use Rattle.zw_parse.proofs.SyntaxLemmas.{few_tokens, stops_wrong, stops_nested}
use Rattle.zw_parse.proofs.syntax.parse.Goals as goal

pub root-requires-clause-length : goal.root-requires-clause-length
root-requires-clause-length c = let few = few_tokens c.args.text.now c.args.tokens.now c.requires.tokens in omega (arith, few.1, c.requires.short)

pub stop_of-requires-clause-within : goal.stop_of-requires-clause-within
stop_of-requires-clause-within c = lies_at c.requires.tokens.list

pub stop_of-requires-in-Nested-clause-within : goal.stop_of-requires-in-Nested-clause-within
stop_of-requires-in-Nested-clause-within c = lies_at c.requires.tokens.list

pub returns-in-Wrong-clause-stop : goal.returns-in-Wrong-clause-stop
returns-in-Wrong-clause-stop c =
    subst (IsSyntaxRefusal c.args.file c.args.text.now c.args.tokens.now) (sym c.stop_of.ensures)
    (stops_wrong c.args.file c.args.text.now c.args.tokens.now c.root.new.into c.in_ok-last.field-0 c.in-Wrong.number c.in-Wrong.is c.in_ok-last.ensures)

pub returns-in-Nested-clause-stop : goal.returns-in-Nested-clause-stop
returns-in-Nested-clause-stop c =
    subst (IsSyntaxRefusal c.args.file c.args.text.now c.args.tokens.now) (sym c.stop_of-in-Nested.ensures)
    (stops_nested c.args.file c.args.text.now c.args.tokens.now c.root.new.into c.in_ok-last.field-0 c.in-Nested.number c.in-Nested.is c.in_ok-last.ensures)
