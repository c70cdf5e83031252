-- What a text of the form is compiled to.
use Rattle.std.proofs.Common.{List, ℕ}
use Rattle.zw_form.proofs.FileRules.{form_rules}
use Rattle.zw_form.proofs.SmallLemmas.{form_small}
use Rattle.zw_form.specs.Form.{IsProgramOf}
use Rattle.zw_form.specs.declared.program.Program.{Program}
use Rattle.zw_lower.specs.Right.{IsRight}
use Rattle.zw_wasm.specs.declared.module.Module.{Module}
use Rattle.zw_drive.specs.Ends.{IsCompiled}

-- the module of a program that was read
pub compiled : (text : List ℕ) (p : Program) (m : Module) → IsProgramOf text p → IsRight p m → IsCompiled text m
compiled text p m h right =
    let trees = h.0 in
    let form = h.1 in
    let rules = form_rules text trees form in
    let small = form_small text trees form in
    (record { trees = trees; form = form; does = right.does trees h.2 rules small }, right.well_formed trees h.2 rules small)
