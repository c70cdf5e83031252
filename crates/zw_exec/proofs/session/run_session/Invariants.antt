use Rattle.std.proofs.Common.{◌≡◌, drop}
use Rattle.zw_exec.specs.Runs.{IsIdle, state_of}
use Rattle.zw_exec.proofs.Going.{IsUnder}
use Rattle.zw_exec.proofs.session.run_session.Given as goal

-- the lines of the calls so far were taken, and the machine goes on
abbrev pub invariant-loop-call : goal.invariant-loop-call
invariant-loop-call g l = record {
  under : IsUnder l.fn.machine.code l.calls (state_of l.fn.machine l.fn.replies l.fn.steps) (drop l.call-index l.calls) (state_of l.machine l.replies l.steps) (g.O.Sink.taken l.fn.out) (g.O.Sink.taken l.out);
  code : l.machine.code ≡ l.fn.machine.code;
  idle : IsIdle l.machine;
  steady : g.O.Sink.faults l.out ≡ g.O.Sink.faults l.fn.out;
}
