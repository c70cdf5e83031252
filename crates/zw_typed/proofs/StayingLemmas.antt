-- Calls of exported functions take no turn of the bound, so that a larger one changes nothing.
use Rattle.std.specs.Prelude.{refl, ℕ, ◌+◌, ◌≤◌, List, Option, Some, None}
use Rattle.std.proofs.Common.{arith}
use Rattle.zw_session.specs.Bounds.{Lasts, LeavesWithin, StaysEnded}
use Rattle.zw_session.proofs.Prefixes.{prefix_same}
use Rattle.zw_session.specs.Sessions.{Scalar, HostEvent, Halt, Panicked, WantsReply, Running, Wild, Trapped, Halted}
use Rattle.zw_types.specs.TypeTrees as tree
use Rattle.zw_types.specs.TypeTrees.{TypeTree, ValueTree}
use Rattle.zw_typed.specs.NodeMeanings.{End, Gives, Leaves, Stops, scalar_of, evaluated}
use Rattle.zw_typed.specs.Exports.{Exported, export_named, returned, call_end, values_of, called, exports_machine}

halted-lasts : (k : ℕ) (events : List HostEvent) (halt : Halt) → Lasts {State = Unit {0}} k events (Halted halt) (record { events = events; end = Halted halt })
halted-lasts k events (Panicked cause message) = refl
halted-lasts k events WantsReply = refl
halted-lasts k events Running = prefix_same events
halted-lasts k events Wild = refl
halted-lasts k events (Trapped code) = refl

returned-lasts : (ty : TypeTree) (value : Option Scalar) (replies : List ℕ) (n k : ℕ) (events : List HostEvent) →
    Lasts k events (returned ty value replies n) (record { events = events; end = returned ty value replies (n + k) })
returned-lasts tree.VoidType value replies n k events = refl
returned-lasts _ (Some value) replies n k events = refl
returned-lasts _ None replies n k events = refl

end-lasts : (ty : TypeTree) (end : End ValueTree) (n k : ℕ) (events : List HostEvent) →
    Lasts k events (call_end ty end n) (record { events = events; end = call_end ty end (n + k) })
end-lasts ty (Gives value replies) n k events = refl
end-lasts ty (Leaves value replies) n k events = returned-lasts ty (scalar_of value) replies n k events
end-lasts ty (Stops halt) n k events = halted-lasts k events halt

called-lasts : (f : Option Exported) (args : List Scalar) (replies : List ℕ) (n k : ℕ) →
    Lasts k (called f args replies n).events (called f args replies n).end (called f args replies (n + k))
called-lasts None args replies n k = refl
called-lasts (Some f) args replies n k =
    end-lasts f.result (evaluated (values_of args) f.body replies).end n k (evaluated (values_of args) f.body replies).events

same_or_less : (n : ℕ) → n ≤ n
same_or_less n = omega arith

returned-within : (ty : TypeTree) (value : Option Scalar) (replies : List ℕ) (n : ℕ) → LeavesWithin n (returned ty value replies n)
returned-within tree.VoidType value replies n = same_or_less n
returned-within _ (Some value) replies n = same_or_less n
returned-within _ None replies n = tt

end-within : (ty : TypeTree) (end : End ValueTree) (n : ℕ) → LeavesWithin n (call_end ty end n)
end-within ty (Gives value replies) n = same_or_less n
end-within ty (Leaves value replies) n = returned-within ty (scalar_of value) replies n
end-within ty (Stops halt) n = tt

called-within : (f : Option Exported) (args : List Scalar) (replies : List ℕ) (n : ℕ) → LeavesWithin n (called f args replies n).end
called-within None args replies n = tt
called-within (Some f) args replies n = end-within f.result (evaluated (values_of args) f.body replies).end n

pub exports-stay_ended : (exports : List Exported) → StaysEnded (exports_machine exports)
exports-stay_ended exports = record {
  lasts = λ state call replies n k. called-lasts (export_named exports call.name) call.args replies n k;
  left = λ state call replies n. called-within (export_named exports call.name) call.args replies n;
}
