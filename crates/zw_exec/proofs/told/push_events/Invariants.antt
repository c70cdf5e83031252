use Rattle.std.proofs.Common.{◌≡◌, ◌++◌, take}
use Rattle.std.specs.List.{flat_map}
use Rattle.zw_exec.specs.Hosts.{event_text}
use Rattle.zw_exec.proofs.told.push_events.Given as goal

-- the lines so far stand at the end
abbrev pub invariant-loop-event : goal.invariant-loop-event
invariant-loop-event l = l.text.items ≡ l.fn.text.items ++ flat_map (event_text l.m) (take l.event-index l.events)
