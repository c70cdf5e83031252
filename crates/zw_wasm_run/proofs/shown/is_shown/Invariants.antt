use Rattle.std.proofs.Common.{◌≡◌, drop}
use Rattle.zw_wasm_run.specs.Calls.{is_shown}
use Rattle.zw_wasm_run.proofs.shown.is_shown.Given as goal

abbrev pub invariant-loop-show : goal.invariant-loop-show
invariant-loop-show l = is_shown (drop l.show-index l.shows) l.import l.param ≡ is_shown l.shows l.import l.param
