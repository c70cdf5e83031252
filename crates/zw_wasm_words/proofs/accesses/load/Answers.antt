use Rattle.std.proofs.Common.{◌-◌, length, take, rules}
use Rattle.zw_wasm_words.proofs.Shapes.{load_reads}
use Rattle.zw_wasm_words.proofs.accesses.load.Goals as goal

pub returns-clause-acts : goal.returns-clause-acts
returns-clause-acts c =
    let old = c.args.stack.now.items in
    load_reads c.args.kind c.args.offset c.args.memory.now old (take (length old - 1) old) c.replace_last.new.stack.items c.in-Some.address c.in-Some-load.word
    (search rules) (search rules) (search rules) (search rules)
