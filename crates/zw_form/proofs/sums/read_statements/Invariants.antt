use Rattle.std.proofs.Common.{◌≡◌, [], map, drop}
use Rattle.std.specs.Option.{option_map}
use Rattle.zw_tree.specs.Numbering.{from}
use Rattle.zw_form.specs.Nodes.{each, statement_of}
use Rattle.zw_form.specs.Work.{◌▷◌, done, statements_work}
use Rattle.zw_form.proofs.sums.read_statements.Given as goal

abbrev pub invariant-loop-n : goal.invariant-loop-n
invariant-loop-n l =
    (l.reader.tasks.items ≡ [])
    × ((done l.reader ▷ option_map statements_work (each (statement_of l.text l.tokens) (map (from l.ast) (drop l.n-index l.nodes))))
    ≡ (done l.initial.reader ▷ option_map statements_work (each (statement_of l.text l.tokens) (map (from l.ast) l.nodes))))
