use Rattle.std.proofs.Common.{◌∙◌}
use Rattle.zw_form.proofs.ProgramLemmas.{import-found, import-none}
use Rattle.zw_form.proofs.resolve.import_named.Goals as goal
use Rattle.zw_form.proofs.resolve.import_named.Goals.{in-Some+in_ok-count-in-Some, in-None}

pub returns : goal.returns
returns c =
    elim c.match-extern_named.branch [
      | in-Some+in_ok-count-in-Some w ↦
          rw w.params-is
          (import-found c.args.file.now c.args.name.now w.in-Some.function.now c.requires.differ w.in-Some.ensures.found.0 w.in-Some.ensures.found.1
          w.in_ok-count-in-Some.field-0 (w.in_ok-count-in-Some.ensures ∙ w.len.ensures) c.in_ok-name.name c.in_ok-name.ensures)
      | in-None w ↦
          rw w.params-is
          (import-none c.args.file.now c.args.name.now w.in-None.ensures.none c.in_ok-name.name c.in_ok-name.ensures)
    ]
