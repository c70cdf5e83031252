use Rattle.zw_report.specs.Lines.{event_line}
use Rattle.zw_exec.specs.Hosts.{event_text}
use Rattle.zw_exec.proofs.HostLines.{host_fits, host_tells, made_so}
use Rattle.zw_exec.proofs.host.host_line.Goals as goal

pub event_line-requires : goal.event_line-requires
event_line-requires c =
    host_fits c.args.m.now c.args.event.now c.index-as_slice-event.result c.as_slice.result.now c.import_params.result.now c.in_ok-tys.tys.items c.deref.result.now
    c.index-as_slice-event.is c.as_slice.ensures c.import_params.ensures c.in_ok-tys.ensures c.deref.ensures.value c.requires

pub returns : goal.returns
returns c =
    made_so c.event_line.result (event_line c.in_ok-name.name c.deref.result.now c.args.event.now) (event_text c.args.m.now c.args.event.now) c.event_line.ensures
    (host_tells c.args.m.now c.args.event.now c.index-as_slice-event.result c.as_slice.result.now c.import_params.result.now c.in_ok-tys.tys.items c.deref.result.now c.in_ok-name.name
    c.index-as_slice-event.is c.as_slice.ensures c.import_params.ensures c.in_ok-tys.ensures c.deref.ensures.value c.requires c.in_ok-name.ensures)
