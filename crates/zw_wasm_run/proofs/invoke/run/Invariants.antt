use Rattle.zw_wasm_run.proofs.CallRooms.{CallGoesOn}
use Rattle.zw_wasm_run.proofs.invoke.run.Given as goal

abbrev pub invariant-calls : goal.invariant-calls
invariant-calls l =
    CallGoesOn l.code l.shows (record { store = l.initial.store; stacks = l.initial.stacks; steps = l.initial.steps; host = record { replies = l.initial.replies; log = l.initial.log.items } })
    (record { store = l.store; stacks = l.stacks; steps = l.steps; host = record { replies = l.replies; log = l.log.items } })

abbrev pub decreases-calls : goal.decreases-calls
decreases-calls l = l.steps
