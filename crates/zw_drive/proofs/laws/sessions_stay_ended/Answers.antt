use Rattle.std.proofs.Common.{ℕ, ◌+◌, List, refl, arith}
use Rattle.zw_form.specs.Source.{Answer, Gives, Stops, called, export_named, outcome_of, source_machine}
use Rattle.zw_form.specs.Trees.{Tree}
use Rattle.zw_session.proofs.Prefixes.{prefix_same}
use Rattle.zw_session.proofs.Staying.{sessions_stay}
use Rattle.zw_session.specs.Bounds.{Lasts, LeavesWithin, StaysEnded}
use Rattle.zw_session.specs.Sessions.{HostEvent, Panicked, WantsReply, Running, Wild, Trapped}
use Rattle.zw_wasm.proofs.MachineLasts.{machine-stays_ended}
use Rattle.zw_wasm.specs.ModuleMachine.{module_machine}
use Rattle.zw_drive.proofs.laws.sessions_stay_ended.Goals as goal

-- what a call does doesn't hang on the bound, which it hands on whole
lasts : (events : List HostEvent) (end : Answer ℕ) (n k : ℕ) → Lasts k (outcome_of (record { events = events; end = end }) n).events (outcome_of (record { events = events; end = end }) n).end (outcome_of (record { events = events; end = end }) (n + k))
lasts events (Gives value left) n k = refl
lasts events (Stops (Panicked cause message)) n k = refl
lasts events (Stops WantsReply) n k = refl
lasts events (Stops Running) n k = prefix_same events
lasts events (Stops Wild) n k = refl
lasts events (Stops (Trapped code)) n k = refl

leaves : (events : List HostEvent) (end : Answer ℕ) (n : ℕ) → LeavesWithin n (outcome_of (record { events = events; end = end }) n).end
leaves events (Gives value left) n = omega arith
leaves events (Stops halt) n = tt

source_stays : (trees : List Tree) → StaysEnded (source_machine trees)
source_stays trees = record {
  lasts = λ state call replies n k. let r = called (export_named trees call.name) call.args replies in lasts r.events r.end n k;
  left = λ state call replies n. let r = called (export_named trees call.name) call.args replies in leaves r.events r.end n;
}

pub returns : goal.returns
returns c = record {
  source = λ trees. sessions_stay (source_machine trees) (source_stays trees);
  target = λ m v. sessions_stay (module_machine m v) (machine-stays_ended m v);
}
