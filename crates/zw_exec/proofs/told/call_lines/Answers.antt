use Rattle.std.proofs.Common.{◌≡◌, ◌∙◌, ap, map, sym}
use Rattle.zw_exec.specs.Ends.{outcome_end, session_end}
use Rattle.zw_exec.proofs.Coming.{Comes, comes, each_in, lines_in}
use Rattle.zw_exec.proofs.Telling.{call_typed}
use Rattle.zw_exec.proofs.told.call_lines.Goals as goal
use Rattle.zw_wasm_run.specs.MachineCalls.{Around}
use Rattle.zw_wasm_run.specs.Machines.{store_of}
use Rattle.zw_wasm_run.specs.Premises.{type_of}

pub call-requires-clause-exported : goal.call-requires-clause-exported
call-requires-clause-exported c = record { name = c.args.call.now.name; is = c.requires.exported.exported }

pub call-requires-clause-typed : goal.call-requires-clause-typed
call-requires-clause-typed c = ap (λ l. map type_of l) c.as_slice.ensures ∙ call_typed c.args.machine.now.code c.args.call.now c.requires.exported

pub call_text-requires-clause-shown : goal.call_text-requires-clause-shown
call_text-requires-clause-shown c =
    let old : Around = record { machine = c.args.machine.now; host = record { replies = c.args.replies.now; log = c.new-log.result.items }; steps = c.args.steps.now } in
    let new : Around = record { machine = c.call.new.self; host = record { replies = c.call.new.replies; log = c.call.new.log.items }; steps = c.call.new.steps } in
    let come : Comes old c.args.call.now c.in_ok-outcome.outcome new =
    comes old c.args.call.now c.as_slice.result.now c.in_ok-outcome.outcome new c.requires.idle c.requires.exported c.new-log.ensures.items c.as_slice.ensures c.in_ok-outcome.ensures.ends c.in_ok-outcome.ensures.kept in
    each_in c.module.result.now c.call.new.self.code c.as_slice-2.result.now c.call.new.log.items c.module.ensures c.as_slice-2.ensures.value come.each

pub returns : goal.returns
returns c =
    let old : Around = record { machine = c.args.machine.now; host = record { replies = c.args.replies.now; log = c.new-log.result.items }; steps = c.args.steps.now } in
    let new : Around = record { machine = c.call.new.self; host = record { replies = c.call.new.replies; log = c.call.new.log.items }; steps = c.call.new.steps } in
    let come : Comes old c.args.call.now c.in_ok-outcome.outcome new =
    comes old c.args.call.now c.as_slice.result.now c.in_ok-outcome.outcome new c.requires.idle c.requires.exported c.new-log.ensures.items c.as_slice.ensures c.in_ok-outcome.ensures.ends c.in_ok-outcome.ensures.kept in
    let ended : c.in_ok-end.end ≡ outcome_end c.call.new.self.code (store_of c.call.new.self) c.in_ok-outcome.outcome = c.in_ok-end.ensures.value in
    let ends : c.session_end-end.result ≡ session_end c.in_ok-end.end = c.session_end-end.ensures in
    record {
      lines =
          c.in_ok-text.ensures
          ∙ lines_in c.args.call.now.name c.args.call.now.args _ c.call.new.self.code _ _ c.in_ok-end.end (outcome_end c.call.new.self.code (store_of c.call.new.self) c.in_ok-outcome.outcome) c.module.ensures c.as_slice-2.ensures.value ended
          ∙ sym come.lines;
      ends = ends ∙ ap session_end ended ∙ come.ends;
      left = come.left;
      code = come.code;
      idle = λ done. come.idle (sym (ends ∙ ap session_end ended) ∙ done);
    }
