use denote.Enum.Bare.{differs_false, differs_true}
use Rattle.std.proofs.Common.{◌≡◌, ◌∙◌, refl, rules, sym}
use Rattle.zw_exec.specs.contracts.end.SessionEnd.{the_type}
use Rattle.std.proofs.lemmas.Result.{err_from_is_err_and}
use Rattle.zw_exec.specs.Runs.{state_of}
use Rattle.zw_exec.specs.declared.end.SessionEnd.TheVariants.{Done}
use Rattle.zw_exec.proofs.Going.{under_first}
use Rattle.zw_exec.proofs.Looping.{counts_put, counts_same, due_cut, due_ended, due_is, due_more, due_untold, none_due}
use Rattle.zw_exec.proofs.session.run_session.Goals as goal

pub loop-call-init : goal.loop-call-init
loop-call-init g c = record {
  under = under_first c.args.machine.now.code c.args.calls.now (state_of c.args.machine.now c.args.replies.now c.args.steps.now) (g.O.Sink.taken c.args.out.now);
  code = refl;
  idle = c.requires.idle;
  steady = refl;
}

pub call_lines-requires-clause-idle : goal.call_lines-requires-clause-idle
call_lines-requires-clause-idle g c = c.loop-call.invariant.idle

pub call_lines-requires-clause-exported : goal.call_lines-requires-clause-exported
call_lines-requires-clause-exported g c =
    due_is c.args.machine.now.code c.loop-call.machine.code c.args.calls.now c.loop-call.call-index c.call-item.result c.loop-call.invariant.code c.requires.calls c.loop-call-test.true c.call-item.is

pub returns-in_err-told-clause-ends : goal.returns-in_err-told-clause-ends
returns-in_err-told-clause-ends g c =
    let p = err_from_is_err_and c.from_residual.result c.from_residual.ensures.1 in
    due_untold _ _ _ _ c.call-item.result c.loop-call.machine _ _ _ _ p.0
    (record { under = c.loop-call.invariant.under; inside = c.loop-call-test.true; item = c.call-item.is; code = c.loop-call.invariant.code }) p.1

pub returns-in_err-told-clause-cause : goal.returns-in_err-told-clause-cause
returns-in_err-told-clause-cause g c =
    let p = err_from_is_err_and c.from_residual.result c.from_residual.ensures.1 in
    counts_same (g.O.Sink.faults c.args.out.now) (g.O.Sink.faults c.loop-call.out) c.from_residual.result p.0 p.1 p.2 c.loop-call.invariant.steady

pub returns-in_err-put_all-clause-ends : goal.returns-in_err-put_all-clause-ends
returns-in_err-put_all-clause-ends g c =
    let p = err_from_is_err_and c.from_residual-in_err-put_all.result c.from_residual-in_err-put_all.ensures.1 in
    due_cut _ _ _ _ c.call-item.result c.loop-call.machine _ _ _ _
    c.in_ok-told.told c.call_lines.new.machine c.call_lines.new.replies c.call_lines.new.steps c.deref.result.now c.from_residual-in_err-put_all.result p.0
    (record { under = c.loop-call.invariant.under; inside = c.loop-call-test.true; item = c.call-item.is; code = c.loop-call.invariant.code }) c.in_ok-told.ensures c.deref.ensures.value c.in_err-put_all.ensures.err p.1

pub returns-in_err-put_all-clause-cause : goal.returns-in_err-put_all-clause-cause
returns-in_err-put_all-clause-cause g c =
    let p = err_from_is_err_and c.from_residual-in_err-put_all.result c.from_residual-in_err-put_all.ensures.1 in
    counts_put (g.O.Sink.faults c.args.out.now) (g.O.Sink.faults c.loop-call.out) (g.O.Sink.faults c.put_all.new.sink) c.from_residual-in_err-put_all.result p.0 c.in_err-put_all.field-0.0 p.1 p.2 c.loop-call.invariant.steady c.in_err-put_all.ensures.cause

pub returns-then-ne-clause-ends : goal.returns-then-ne-clause-ends
returns-then-ne-clause-ends g c =
    due_ended _ _ _ _ c.call-item.result c.loop-call.machine _ _ _ _
    c.in_ok-told.told c.call_lines.new.machine c.call_lines.new.replies c.call_lines.new.steps c.deref.result.now
    (record { under = c.loop-call.invariant.under; inside = c.loop-call-test.true; item = c.call-item.is; code = c.loop-call.invariant.code }) c.in_ok-told.ensures c.deref.ensures.value c.in_ok-put_all.ensures.ok
    (differs_true the_type _ _ (sym c.ne.ensures ∙ c.if-ne.true))

pub returns-then-ne-clause-cause : goal.returns-then-ne-clause-cause
returns-then-ne-clause-cause g c = c.in_ok-put_all.ensures.cause ∙ c.loop-call.invariant.steady

pub loop-call-preserved : goal.loop-call-preserved
loop-call-preserved g c =
    let done : c.in_ok-told.told.end ≡ Done = differs_false the_type (search rules) _ _ (sym c.ne.ensures ∙ c.if-ne.false) in
    record {
      under =
          due_more _ _ _ _ c.call-item.result c.loop-call.machine _ _ _ _
          c.in_ok-told.told c.call_lines.new.machine c.call_lines.new.replies c.call_lines.new.steps c.deref.result.now
          (record { under = c.loop-call.invariant.under; inside = c.loop-call-test.true; item = c.call-item.is; code = c.loop-call.invariant.code }) c.in_ok-told.ensures c.deref.ensures.value c.in_ok-put_all.ensures.ok done;
      code = c.in_ok-told.ensures.code ∙ c.loop-call.invariant.code;
      idle = c.in_ok-told.ensures.idle done;
      steady = c.in_ok-put_all.ensures.cause ∙ c.loop-call.invariant.steady;
    }

pub returns-clause-ends : goal.returns-clause-ends
returns-clause-ends g c =
    none_due c.args.machine.now.code c.args.calls.now (state_of c.args.machine.now c.args.replies.now c.args.steps.now) c.loop-call.call-index (state_of c.loop-call.machine c.loop-call.replies c.loop-call.steps) (g.O.Sink.taken c.args.out.now) (g.O.Sink.taken c.loop-call.out)
    c.loop-call-test.false c.loop-call.invariant.under

pub returns-clause-cause : goal.returns-clause-cause
returns-clause-cause g c = c.loop-call.invariant.steady
