-- The form of an entry is that of its type.
use Rattle.std.proofs.Common.{sym, ◌∙◌, ap}
use Rattle.zw_types.specs.declared.types.Entry.{Entry}
use Rattle.zw_types.specs.Readings.{form_tree}
use Rattle.zw_types.specs.Entries.{trees_of}
use Rattle.zw_types.specs.Sizes.{is_pointer}
use Rattle.zw_types.proofs.EntryLemmas.{form_in_entry}
use Rattle.zw_types.proofs.kept.is_pointer.Goals as goal

pub returns : goal.returns
returns c =
    let es = c.args.entries.now in
    c.is_pointer_form.ensures (trees_of es) ∙ ap (λ (x : Entry). is_pointer (form_tree (trees_of es) x.form)) (sym c.index-entries-ty.is) ∙ ap is_pointer (form_in_entry es c.requires.entries.earlier c.args.ty.0 c.index-entries-ty.result c.requires.held c.index-entries-ty.is)
