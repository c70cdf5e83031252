use Rattle.zw_wasm.proofs.BranchTypes.{branches_are_typed}
use Rattle.zw_wasm.proofs.BranchRuns.{branches_run}
use Rattle.zw_wasm.proofs.RunsCompose.{runs-then, halts-then}
use Rattle.zw_wasm.proofs.TypingTakes.{takes-then}
use Rattle.zw_wasm.proofs.execution.sequences_compose.Goals as goal

pub returns-clause-compose : goal.returns-clause-compose
returns-clause-compose c = record {
  run = λ m v c d e i j r s. runs-then r s;
  halts = λ m v c d s w i j r h. halts-then r h;
  typed = λ x is js ts us vs p q. takes-then p q;
}

pub returns-clause-branches : goal.returns-clause-branches
returns-clause-branches c = branches_run

pub returns-clause-typed : goal.returns-clause-typed
returns-clause-typed c = branches_are_typed
