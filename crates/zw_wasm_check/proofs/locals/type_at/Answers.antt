use Rattle.std.proofs.Common.{leb, option_map, sym, ap, ◌∙◌, rules}
use Rattle.std.proofs.lemmas.List.Sorted.{IsPartitionPoint-from_clause, IsPartitionedBy-leb}
use Rattle.zw_wasm_check.specs.declared.locals.Run.{Run}
use Rattle.zw_wasm_check.specs.Locals.{end_of}
use Rattle.zw_wasm_check.proofs.LocalLemmas.{at_place}
use Rattle.zw_wasm_check.proofs.locals.type_at.Goals as goal

pub returns-in-Some : goal.returns-in-Some
returns-in-Some c =
    let point = IsPartitionPoint-from_clause (λ (r : Run). leb r.end c.args.local) c.args.ends.now c.partition_point-place.result c.partition_point-place.ensures.partitioned (IsPartitionedBy-leb end_of c.args.ends.now c.args.local c.requires) (λ a r f k. search rules) in
    sym (at_place c.args.ends.now c.args.local c.partition_point-place.result c.requires point ∙ ap (option_map (λ (r : Run). r.ty)) (sym c.in-Some.ensures))

pub returns-in-None : goal.returns-in-None
returns-in-None c =
    let point = IsPartitionPoint-from_clause (λ (r : Run). leb r.end c.args.local) c.args.ends.now c.partition_point-place.result c.partition_point-place.ensures.partitioned (IsPartitionedBy-leb end_of c.args.ends.now c.args.local c.requires) (λ a r f k. search rules) in
    sym (at_place c.args.ends.now c.args.local c.partition_point-place.result c.requires point ∙ ap (option_map (λ (r : Run). r.ty)) (sym c.in-None.ensures))
