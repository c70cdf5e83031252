use Rattle.zw_calls.specs.Requests.{request_of}
use Rattle.zw_drive.proofs.ServeLemmas.{serves_nothing, serves_usage, serves_build, serves_check}
use Rattle.zw_drive.proofs.BuildLemmas.{named_checked}
use Rattle.zw_drive.proofs.BlameLemmas.{tree_blamed, out_blamed, out_unwritten, input_unread}
use Rattle.zw_drive.proofs.CommandLemmas.{asked_calls}
use Rattle.zw_drive.proofs.ExecServeLemmas.{serves_exec, tree_blamed_exec, input_blamed_exec, out_blamed_exec}
use Rattle.zw_drive.proofs.ValidateLemmas.{serves_validate, tree_blamed_validate, out_blamed_validate, input_unread_validate}
use Rattle.zw_drive.proofs.drive.serve.Goals as goal

pub returns-in-Err-clause-serves : goal.returns-in-Err-clause-serves
returns-in-Err-clause-serves g c = serves_nothing c.args.words.now _ _ _ _

pub returns-in-Unknown-clause-serves : goal.returns-in-Unknown-clause-serves
returns-in-Unknown-clause-serves g c =
    serves_usage c.args.words.now _ _ _ _ _ _ (rw c.in-Unknown.is at c.in-Ok.ensures) (rw c.as_bytes.ensures.value at c.say.ensures.says)

pub report-requires : goal.report-requires
report-requires g c = named_checked c.in-Check.root.now _ _ c.check-checked.result c.check-checked.ensures.ends

pub returns-in-Check-clause-serves : goal.returns-in-Check-clause-serves
returns-in-Check-clause-serves g c =
    serves_check c.args.words.now c.in-Check.root.now _ _ _ _ _ _ _ _ _ (rw c.in-Check.is at c.in-Ok.ensures) (c.check-checked.ensures.ends (g.O.Sink.taken c.args.out.now)) c.report.ensures.reports

pub returns-in-Check-clause-tree_blamed : goal.returns-in-Check-clause-tree_blamed
returns-in-Check-clause-tree_blamed g c =
    tree_blamed _ _ c.check-checked.result (g.D.Sink.taken c.args.diag.now) (g.D.Sink.taken c.report.new.diag) c.report.result c.check-checked.ensures.cause c.report.ensures.reports

pub returns-in-Check-clause-input_blamed : goal.returns-in-Check-clause-input_blamed
returns-in-Check-clause-input_blamed g c =
    input_unread _ c.check-checked.result (g.D.Sink.taken c.args.diag.now) (g.D.Sink.taken c.report.new.diag) c.report.result c.report.ensures.reports

pub returns-in-Check-clause-out_blamed : goal.returns-in-Check-clause-out_blamed
returns-in-Check-clause-out_blamed g c =
    out_unwritten _ c.check-checked.result (g.D.Sink.taken c.args.diag.now) (g.D.Sink.taken c.report.new.diag) c.report.result c.check-checked.ensures.unwritten c.report.ensures.reports

pub returns-in-Build-clause-serves : goal.returns-in-Build-clause-serves
returns-in-Build-clause-serves g c =
    serves_build c.args.words.now c.in-Build.root.now _ _ _ _ _ _ _ _ _ (rw c.in-Build.is at c.in-Ok.ensures) c.build-built.ensures.ends c.report-in-Build.ensures.reports

pub returns-in-Build-clause-tree_blamed : goal.returns-in-Build-clause-tree_blamed
returns-in-Build-clause-tree_blamed g c =
    tree_blamed _ _ c.build-built.result (g.D.Sink.taken c.args.diag.now) (g.D.Sink.taken c.report-in-Build.new.diag) c.report-in-Build.result c.build-built.ensures.tree_cause c.report-in-Build.ensures.reports

pub returns-in-Build-clause-input_blamed : goal.returns-in-Build-clause-input_blamed
returns-in-Build-clause-input_blamed g c =
    input_unread _ c.build-built.result (g.D.Sink.taken c.args.diag.now) (g.D.Sink.taken c.report-in-Build.new.diag) c.report-in-Build.result c.report-in-Build.ensures.reports

pub returns-in-Build-clause-out_blamed : goal.returns-in-Build-clause-out_blamed
returns-in-Build-clause-out_blamed g c =
    out_blamed _ _ c.build-built.result (g.D.Sink.taken c.args.diag.now) (g.D.Sink.taken c.report-in-Build.new.diag) c.report-in-Build.result c.build-built.ensures.out_cause c.report-in-Build.ensures.reports

pub returns-in-Validate-clause-serves : goal.returns-in-Validate-clause-serves
returns-in-Validate-clause-serves g c =
    serves_validate c.args.words.now c.in-Validate.file.now (rw c.in-Validate.is at c.in-Ok.ensures) _ _ _ _ _ _ _ c.validate-validated.result _ c.validate-validated.ensures.ends c.report_validated.ensures.reports

pub returns-in-Validate-clause-tree_blamed : goal.returns-in-Validate-clause-tree_blamed
returns-in-Validate-clause-tree_blamed g c =
    tree_blamed_validate _ _ c.in-Validate.file.now c.validate-validated.result (g.D.Sink.taken c.args.diag.now) (g.D.Sink.taken c.report_validated.new.diag) c.report_validated.result c.validate-validated.ensures.tree_cause c.report_validated.ensures.reports

pub returns-in-Validate-clause-input_blamed : goal.returns-in-Validate-clause-input_blamed
returns-in-Validate-clause-input_blamed g c =
    input_unread_validate _ c.in-Validate.file.now c.validate-validated.result (g.D.Sink.taken c.args.diag.now) (g.D.Sink.taken c.report_validated.new.diag) c.report_validated.result c.report_validated.ensures.reports

pub returns-in-Validate-clause-out_blamed : goal.returns-in-Validate-clause-out_blamed
returns-in-Validate-clause-out_blamed g c =
    out_blamed_validate _ _ c.in-Validate.file.now c.validate-validated.result (g.D.Sink.taken c.args.diag.now) (g.D.Sink.taken c.report_validated.new.diag) c.report_validated.result c.validate-validated.ensures.out_cause c.report_validated.ensures.reports

pub exec-ended-requires : goal.exec-ended-requires
exec-ended-requires g c = asked_calls c.args.words.now (request_of c.in-Exec.request) (rw c.in-Exec.is at c.in-Ok.ensures)

pub returns-in-Exec-clause-serves : goal.returns-in-Exec-clause-serves
returns-in-Exec-clause-serves g c =
    serves_exec c.args.words.now (request_of c.in-Exec.request) _ _ _ _ _ _ _ _ c.exec-ended.result _ (rw c.in-Exec.is at c.in-Ok.ensures) c.exec-ended.ensures.ends c.report_exec.ensures.reports

pub returns-in-Exec-clause-tree_blamed : goal.returns-in-Exec-clause-tree_blamed
returns-in-Exec-clause-tree_blamed g c =
    tree_blamed_exec _ _ c.in-Exec.request.path.now (g.D.Sink.taken c.args.diag.now) (g.D.Sink.taken c.report_exec.new.diag) c.report_exec.result c.exec-ended.result c.exec-ended.ensures.tree_cause c.report_exec.ensures.reports

pub returns-in-Exec-clause-input_blamed : goal.returns-in-Exec-clause-input_blamed
returns-in-Exec-clause-input_blamed g c =
    input_blamed_exec _ _ c.in-Exec.request.path.now (g.D.Sink.taken c.args.diag.now) (g.D.Sink.taken c.report_exec.new.diag) c.report_exec.result c.exec-ended.result c.exec-ended.ensures.input_cause c.report_exec.ensures.reports

pub returns-in-Exec-clause-out_blamed : goal.returns-in-Exec-clause-out_blamed
returns-in-Exec-clause-out_blamed g c =
    out_blamed_exec _ _ c.in-Exec.request.path.now (g.D.Sink.taken c.args.diag.now) (g.D.Sink.taken c.report_exec.new.diag) c.report_exec.result c.exec-ended.result c.exec-ended.ensures.out_cause c.report_exec.ensures.reports

pub returns-in-Exec-clause-unread : goal.returns-in-Exec-clause-unread
returns-in-Exec-clause-unread g c = λ none. absurd (none (request_of c.in-Exec.request) (rw c.in-Exec.is at c.in-Ok.ensures))
