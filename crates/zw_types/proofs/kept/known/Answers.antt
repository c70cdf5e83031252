-- The type at a number has this place in the list.
use Rattle.std.proofs.Common.{[], sym, refl, arith}
use Rattle.zw_types.specs.Entries.{trees_of, table_of}
use Rattle.zw_types.proofs.EntryLemmas.{length-trees_of}
use Rattle.zw_types.proofs.KeptLemmas.{known_at, bounded_kept}
use Rattle.zw_types.proofs.kept.known.Goals as goal

pub returns-clause-known : goal.returns-clause-known
returns-clause-known c =
    let es = c.args.entries.now in
    sym (known_at (trees_of es) c.args.kept.now c.requires.entries.table.once c.args.ty.0 (omega (arith, length-trees_of es)))

pub returns-clause-is_bounded : goal.returns-clause-is_bounded
returns-clause-is_bounded c = bounded_kept (table_of c.args.entries.now []) c.args.kept.now c.requires.right c.args.ty.0 (omega arith) _ refl
