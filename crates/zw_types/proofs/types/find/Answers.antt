-- Where the loop ends no entry has the form.
use Rattle.std.proofs.Common.{◌<◌, length, None, sym, ◌∙◌, arith}
use Rattle.std.proofs.lemmas.List.{get_or-map}
use Rattle.zw_types.specs.declared.types.Entry.{Entry}
use Rattle.zw_types.proofs.EntryLemmas.{length-forms}
use Rattle.zw_types.proofs.types.find.Goals as goal

pub returns : goal.returns
returns c = λ x.
    let es = c.args.entries.now in
    let form = c.args.form.now in
    let some : Entry = record { form = form; shape = None } in
    let within : x.0 < length es = omega (arith, length-forms es, x.1) in
    c.loop-number.invariant x.0 some (omega arith) (sym (get_or-map (λ (e : Entry). e.form) es x.0 some form within) ∙ x.2)
