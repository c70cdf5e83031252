use Rattle.std.proofs.Common.{◌≡◌, ◌++◌, map, drop}
use Rattle.zw_grammar.specs.Entries.{rules_of, rules_behind}
use Rattle.zw_grammar.specs.Plain.{plain, plain_alternative}
use Rattle.zw_grammar.proofs.table.add_rules.Given as goal

abbrev pub invariant-loop-entry : goal.invariant-loop-entry
invariant-loop-entry l =
    plain l.list.items ++ rules_behind l.first.items l.symbols.items (map plain_alternative l.alternatives.items) (drop l.entry-index l.entries)
    ≡ plain l.initial.list.items ++ rules_of l.entries
