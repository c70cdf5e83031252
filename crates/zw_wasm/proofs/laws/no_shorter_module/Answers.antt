use Rattle.zw_wasm.proofs.Shortest.{well_formed_from_bytes, fits_from_bytes, spelling_spells, spelling-shortest}
use Rattle.zw_wasm.proofs.laws.no_shorter_module.Goals as goal

pub returns : goal.returns
returns c = record { well_formed = well_formed_from_bytes; fits = fits_from_bytes; spelled = spelling_spells; shortest = spelling-shortest }
