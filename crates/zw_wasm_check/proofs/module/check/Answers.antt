use Rattle.zw_wasm.proofs.Shortest.{fits_from_bytes, well_formed_from_bytes}
use Rattle.zw_wasm_check.proofs.module.check.Goals as goal

pub check_outside-requires-clause-fits : goal.check_outside-requires-clause-fits
check_outside-requires-clause-fits c = fits_from_bytes c.args.m c.requires.0 c.requires.1

pub check_outside-requires-clause-formed : goal.check_outside-requires-clause-formed
check_outside-requires-clause-formed c = well_formed_from_bytes c.args.m c.requires.0 c.requires.1

pub check_bodies-requires-clause-fits : goal.check_bodies-requires-clause-fits
check_bodies-requires-clause-fits c = fits_from_bytes c.args.m c.requires.0 c.requires.1

pub check_bodies-requires-clause-formed : goal.check_bodies-requires-clause-formed
check_bodies-requires-clause-formed c = well_formed_from_bytes c.args.m c.requires.0 c.requires.1
