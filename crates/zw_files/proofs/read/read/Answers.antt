use Rattle.zw_files.proofs.TurnLemmas.{read-names, read-tokens, read-tree}
use Rattle.zw_files.proofs.read.read.Goals as goal

pub returns-in-Err-clause-refused : goal.returns-in-Err-clause-refused
returns-in-Err-clause-refused c = read-tokens c.args.number c.args.text.now c.in-Err.refused c.in-Err.ensures.refused

pub returns-in-Err-parse-clause-refused : goal.returns-in-Err-parse-clause-refused
returns-in-Err-parse-clause-refused c =
    read-tree c.args.number c.args.text.now c.in-Ok.tokens.items c.in-Err-parse.refused c.in-Ok.ensures.list (rw c.deref.ensures.value at c.in-Err-parse.ensures.stop)

pub returns-clause-refused : goal.returns-clause-refused
returns-clause-refused c =
    read-names c.args.number c.args.text.now c.in-Ok.tokens.items c.in-Ok-parse.ast c.in-Err-check_names.refused c.in-Ok.ensures.list
    (rw c.deref.ensures.value at c.in-Ok-parse.ensures.tree) c.in-Err-check_names.ensures.stop
