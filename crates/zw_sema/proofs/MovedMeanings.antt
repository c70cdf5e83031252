-- What nodes mean where the functions in them have other numbers: the same host calls and the same end, so exported functions have the same sessions.
use Rattle.std.proofs.Common.{◌≡◌, refl, ℕ, Bool, true, false, List, [], ◌∷◌, ◌++◌, Option, Some, None, ap, sym, ◌∙◌}
use Rattle.std.specs.Prelude.{if◌then◌else◌, slice_get, zero, suc, map}
use Rattle.std.specs.Str.{bytes_eq}
use Rattle.zw_session.specs.Sessions.{Scalar, Number, Truth, HostEvent, Call, CallEnd, Returned, Halted, Session, session_after, session}
use Rattle.zw_session.specs.Sessions as sessions
use Rattle.zw_types.specs.TypeTrees as tree
use Rattle.zw_types.specs.TypeTrees.{TypeTree, ValueTree}
use Rattle.zw_values.specs.Applied as operation
use Rattle.zw_values.specs.Applied.{applied}
use Rattle.zw_typed.specs.Nodes.{Logic, And, Or, Import, Constant, Argument, Operate, Become, Decide, CallHost, InOrder, Return, TypedNode, TypedNodes, node, no_nodes, node_and, type_of, types_of}
use Rattle.zw_typed.specs.NodeMeanings.{End, Gives, Leaves, Stops, Evaluated, gives, behind, goes_on, and_then, scalar_of, scalars_and, scalars_of, value_from, next_reply, host_called, outcome_value, argument_value, decided, evaluated, all_evaluated, first_evaluated, deciding}
use Rattle.zw_typed.specs.NodeMeanings as meaning
use Rattle.zw_typed.specs.Exports.{Exported, export_named, value_of, values_of, returned, call_end, outcome_of, called, exports_machine}
use Rattle.zw_sema.proofs.MovedValues.{moved_value, moved_values, moved_outcome, moved_node, moved_nodes, applied-moves}

-- ---- ends

abbrev pub moved_end : {V : Type 0} → (ℕ → ℕ) → (V → V) → End V → End V
moved_end to f (Gives value replies) = Gives (f value) replies
moved_end to f (Leaves value replies) = Leaves (moved_value to value) replies
moved_end to f (Stops halt) = Stops halt

abbrev pub moved_evaluated : {V : Type 0} → (ℕ → ℕ) → (V → V) → Evaluated V → Evaluated V
moved_evaluated to f r = record { events = r.events; end = moved_end to f r.end }

abbrev pub one : (ℕ → ℕ) → Evaluated ValueTree → Evaluated ValueTree
one to r = moved_evaluated to (λ (v : ValueTree). moved_value to v) r

abbrev pub all : (ℕ → ℕ) → Evaluated (List ValueTree) → Evaluated (List ValueTree)
all to r = moved_evaluated to (λ (vs : List ValueTree). moved_values to vs) r

then-moves : {V W : Type 0} (to : ℕ → ℕ) (f : V → V) (g : W → W) (r : Evaluated V) (go along : V → List ℕ → Evaluated W) →
    ((value : V) (left : List ℕ) → along (f value) left ≡ moved_evaluated to g (go value left)) →
    and_then (moved_evaluated to f r) along ≡ moved_evaluated to g (and_then r go)
then-moves {V} {W} to f g r go along each = by_end r.end
  where
    by_end : (end : End V) → goes_on r.events (moved_end to f end) along ≡ moved_evaluated to g (goes_on r.events end go)
    by_end (Gives value replies) = ap (λ (e : Evaluated W). behind r.events e) (each value replies)
    by_end (Leaves value replies) = refl
    by_end (Stops halt) = refl

-- ---- what the host sees and says

pub scalar-stays : (to : ℕ → ℕ) (v : ValueTree) → scalar_of (moved_value to v) ≡ scalar_of v
scalar-stays to (tree.NumberValue z) = refl
scalar-stays to (tree.TruthValue b) = refl
scalar-stays to _ = refl

scalars-stay : (to : ℕ → ℕ) (vs : List ValueTree) → scalars_of (moved_values to vs) ≡ scalars_of vs
scalars-stay to [] = refl
scalars-stay to (v ∷ vs) =
    ap (λ (s : Option Scalar). scalars_and s (scalars_of (moved_values to vs))) (scalar-stays to v)
    ∙ ap (λ (ss : Option (List Scalar)). scalars_and (scalar_of v) ss) (scalars-stay to vs)

value_from-stays : (to : ℕ → ℕ) (ty : TypeTree) (reply : ℕ) → moved_value to (value_from ty reply) ≡ value_from ty reply
value_from-stays to (tree.IntType signed bits size) reply = refl
value_from-stays to tree.BoolType reply = refl
value_from-stays to _ reply = refl

abbrev pub one_end : (ℕ → ℕ) → End ValueTree → End ValueTree
one_end to end = moved_end to (λ (v : ValueTree). moved_value to v) end

reply-stays : (to : ℕ → ℕ) (ty : TypeTree) (replies : List ℕ) → next_reply ty replies ≡ one_end to (next_reply ty replies)
reply-stays to tree.VoidType replies = refl
reply-stays to (tree.IntType signed bits size) [] = refl
reply-stays to (tree.IntType signed bits size) (reply ∷ replies) = refl
reply-stays to tree.BoolType [] = refl
reply-stays to tree.BoolType (reply ∷ replies) = refl
reply-stays to _ [] = refl
reply-stays to _ (reply ∷ replies) = refl

host-stays : (to : ℕ → ℕ) (import : Import) (args : Option (List Scalar)) (replies : List ℕ) → host_called import args replies ≡ one to (host_called import args replies)
host-stays to import None replies = refl
host-stays to import (Some args) replies =
    ap (λ (end : End ValueTree). record { events = record { name = import.name; args = args; shown = [] } ∷ []; end = end }) (reply-stays to import.result replies)

host-moves : (to : ℕ → ℕ) (import : Import) (values : List ValueTree) (replies : List ℕ) →
    host_called import (scalars_of (moved_values to values)) replies ≡ one to (host_called import (scalars_of values) replies)
host-moves to import values replies =
    ap (λ (args : Option (List Scalar)). host_called import args replies) (scalars-stay to values) ∙ host-stays to import (scalars_of values) replies

-- ---- nodes

outcome_value-moves : (to : ℕ → ℕ) (outcome : operation.Outcome) (replies : List ℕ) → outcome_value (moved_outcome to outcome) replies ≡ one to (outcome_value outcome replies)
outcome_value-moves to (operation.Gives value) replies = refl
outcome_value-moves to (operation.Panics cause) replies = refl
outcome_value-moves to operation.IsWild replies = refl
outcome_value-moves to (operation.Passes limit) replies = refl

argument-moves : (to : ℕ → ℕ) (args : List ValueTree) (k : ℕ) (replies : List ℕ) → argument_value (slice_get (moved_values to args) k) replies ≡ one to (argument_value (slice_get args k) replies)
argument-moves to [] k replies = refl
argument-moves to (v ∷ args) zero replies = refl
argument-moves to (v ∷ args) (suc k) replies = argument-moves to args k replies

decided-moves : (to : ℕ → ℕ) (op : Logic) (v : ValueTree) (replies : List ℕ) (go along : List ℕ → Evaluated ValueTree) →
    ((more : List ℕ) → along more ≡ one to (go more)) → decided op (moved_value to v) replies along ≡ one to (decided op v replies go)
decided-moves to And (tree.TruthValue true) replies go along each = each replies
decided-moves to And (tree.TruthValue false) replies go along each = refl
decided-moves to Or (tree.TruthValue true) replies go along each = refl
decided-moves to Or (tree.TruthValue false) replies go along each = each replies
decided-moves to And _ replies go along each = refl
decided-moves to Or _ replies go along each = refl

type-stays : (to : ℕ → ℕ) (n : TypedNode) → type_of (moved_node to n) ≡ type_of n
type-stays to (node op ty kids) = refl

types-stay : (to : ℕ → ℕ) (ns : TypedNodes) → types_of (moved_nodes to ns) ≡ types_of ns
types-stay to no_nodes = refl
types-stay to (node_and n ns) =
    ap (λ (ty : TypeTree). ty ∷ types_of (moved_nodes to ns)) (type-stays to n) ∙ ap (λ (types : List TypeTree). type_of n ∷ types) (types-stay to ns)

mutual
  pub evaluated-moves : (to : ℕ → ℕ) (args : List ValueTree) (n : TypedNode) (replies : List ℕ) → evaluated (moved_values to args) (moved_node to n) replies ≡ one to (evaluated args n replies)
  evaluated-moves to args (node (Constant value) ty kids) replies = refl
  evaluated-moves to args (node (Argument k) ty kids) replies = argument-moves to args k replies
  evaluated-moves to args (node (Operate name) ty kids) replies =
      ap (λ (types : List TypeTree). and_then (all_evaluated (moved_values to args) (moved_nodes to kids) replies) (λ values left. outcome_value (applied name types ty values) left)) (types-stay to kids)
      ∙ ap (λ (r : Evaluated (List ValueTree)). and_then r (λ values left. outcome_value (applied name (types_of kids) ty values) left)) (all-moves to args kids replies)
      ∙ then-moves to (λ (vs : List ValueTree). moved_values to vs) (λ (v : ValueTree). moved_value to v) (all_evaluated args kids replies)
      (λ values left. outcome_value (applied name (types_of kids) ty values) left) (λ values left. outcome_value (applied name (types_of kids) ty values) left)
      (λ values left. ap (λ (o : operation.Outcome). outcome_value o left) (applied-moves to name (types_of kids) ty values) ∙ outcome_value-moves to (applied name (types_of kids) ty values) left)
  evaluated-moves to args (node Become ty kids) replies = first-moves to args kids replies
  evaluated-moves to args (node (Decide op) ty kids) replies = deciding-moves to args op kids replies
  evaluated-moves to args (node (CallHost import) ty kids) replies =
      ap (λ (r : Evaluated (List ValueTree)). and_then r (λ values left. host_called import (scalars_of values) left)) (all-moves to args kids replies)
      ∙ then-moves to (λ (vs : List ValueTree). moved_values to vs) (λ (v : ValueTree). moved_value to v) (all_evaluated args kids replies)
      (λ values left. host_called import (scalars_of values) left) (λ values left. host_called import (scalars_of values) left) (λ values left. host-moves to import values left)
  evaluated-moves to args (node InOrder ty kids) replies =
      ap (λ (r : Evaluated (List ValueTree)). and_then r (λ values left. gives meaning.nothing left)) (all-moves to args kids replies)
      ∙ then-moves to (λ (vs : List ValueTree). moved_values to vs) (λ (v : ValueTree). moved_value to v) (all_evaluated args kids replies)
      (λ values left. gives meaning.nothing left) (λ values left. gives meaning.nothing left) (λ values left. refl)
  evaluated-moves to args (node Return ty kids) replies =
      ap (λ (r : Evaluated ValueTree). and_then r (λ value left. record { events = []; end = Leaves value left })) (first-moves to args kids replies)
      ∙ then-moves to (λ (v : ValueTree). moved_value to v) (λ (v : ValueTree). moved_value to v) (first_evaluated args kids replies)
      (λ value left. record { events = []; end = Leaves value left }) (λ value left. record { events = []; end = Leaves value left }) (λ value left. refl)

  all-moves : (to : ℕ → ℕ) (args : List ValueTree) (ns : TypedNodes) (replies : List ℕ) → all_evaluated (moved_values to args) (moved_nodes to ns) replies ≡ all to (all_evaluated args ns replies)
  all-moves to args no_nodes replies = refl
  all-moves to args (node_and n ns) replies =
      ap (λ (r : Evaluated ValueTree). and_then r (λ value left. and_then (all_evaluated (moved_values to args) (moved_nodes to ns) left) (λ values more. gives (value ∷ values) more))) (evaluated-moves to args n replies)
      ∙ then-moves to (λ (v : ValueTree). moved_value to v) (λ (vs : List ValueTree). moved_values to vs) (evaluated args n replies)
      (λ value left. and_then (all_evaluated args ns left) (λ values more. gives (value ∷ values) more))
      (λ value left. and_then (all_evaluated (moved_values to args) (moved_nodes to ns) left) (λ values more. gives (value ∷ values) more))
      (λ value left.
      ap (λ (r : Evaluated (List ValueTree)). and_then r (λ values more. gives (moved_value to value ∷ values) more)) (all-moves to args ns left)
      ∙ then-moves to (λ (vs : List ValueTree). moved_values to vs) (λ (vs : List ValueTree). moved_values to vs) (all_evaluated args ns left)
      (λ values more. gives (value ∷ values) more) (λ values more. gives (moved_value to value ∷ values) more) (λ values more. refl))

  first-moves : (to : ℕ → ℕ) (args : List ValueTree) (ns : TypedNodes) (replies : List ℕ) → first_evaluated (moved_values to args) (moved_nodes to ns) replies ≡ one to (first_evaluated args ns replies)
  first-moves to args no_nodes replies = refl
  first-moves to args (node_and n ns) replies = evaluated-moves to args n replies

  deciding-moves : (to : ℕ → ℕ) (args : List ValueTree) (op : Logic) (ns : TypedNodes) (replies : List ℕ) → deciding (moved_values to args) op (moved_nodes to ns) replies ≡ one to (deciding args op ns replies)
  deciding-moves to args op no_nodes replies = refl
  deciding-moves to args op (node_and n ns) replies =
      ap (λ (r : Evaluated ValueTree). and_then r (λ value left. decided op value left (λ more. first_evaluated (moved_values to args) (moved_nodes to ns) more))) (evaluated-moves to args n replies)
      ∙ then-moves to (λ (v : ValueTree). moved_value to v) (λ (v : ValueTree). moved_value to v) (evaluated args n replies)
      (λ value left. decided op value left (λ more. first_evaluated args ns more)) (λ value left. decided op value left (λ more. first_evaluated (moved_values to args) (moved_nodes to ns) more))
      (λ value left. decided-moves to op value left (λ more. first_evaluated args ns more) (λ more. first_evaluated (moved_values to args) (moved_nodes to ns) more) (λ more. first-moves to args ns more))

-- ---- exported functions

abbrev pub moved_export : (ℕ → ℕ) → Exported → Exported
moved_export to f = record { name = f.name; params = f.params; result = f.result; body = moved_node to f.body }

abbrev pub moved_exports : (ℕ → ℕ) → List Exported → List Exported
moved_exports to [] = []
moved_exports to (f ∷ fs) = moved_export to f ∷ moved_exports to fs

abbrev pub moved_found : (ℕ → ℕ) → Option Exported → Option Exported
moved_found to None = None
moved_found to (Some f) = Some (moved_export to f)

named-moves : (to : ℕ → ℕ) (fs : List Exported) (name : List ℕ) → export_named (moved_exports to fs) name ≡ moved_found to (export_named fs name)
named-moves to [] name = refl
named-moves to (f ∷ fs) name =
    ap (λ (found : Option Exported). if bytes_eq f.name name then Some (moved_export to f) else found) (named-moves to fs name) ∙ by_test (bytes_eq f.name name)
  where
    by_test : (same : Bool) → (if same then Some (moved_export to f) else moved_found to (export_named fs name)) ≡ moved_found to (if same then Some f else export_named fs name)
    by_test true = refl
    by_test false = refl

value-stays : (to : ℕ → ℕ) (s : Scalar) → moved_value to (value_of s) ≡ value_of s
value-stays to (Number z) = refl
value-stays to (Truth b) = refl

values-stay : (to : ℕ → ℕ) (scalars : List Scalar) → moved_values to (values_of scalars) ≡ values_of scalars
values-stay to [] = refl
values-stay to (s ∷ scalars) =
    ap (λ (v : ValueTree). v ∷ moved_values to (values_of scalars)) (value-stays to s) ∙ ap (λ (vs : List ValueTree). value_of s ∷ vs) (values-stay to scalars)

returned-stays : (to : ℕ → ℕ) (ty : TypeTree) (v : ValueTree) (replies : List ℕ) (bound : ℕ) → returned ty (scalar_of (moved_value to v)) replies bound ≡ returned ty (scalar_of v) replies bound
returned-stays to ty v replies bound = ap (λ (s : Option Scalar). returned ty s replies bound) (scalar-stays to v)

end-stays : (to : ℕ → ℕ) (ty : TypeTree) (end : End ValueTree) (bound : ℕ) → call_end ty (one_end to end) bound ≡ call_end ty end bound
end-stays to ty (Gives value replies) bound = refl
end-stays to ty (Leaves value replies) bound = returned-stays to ty value replies bound
end-stays to ty (Stops halt) bound = refl

outcome-same : (to : ℕ → ℕ) (ty : TypeTree) (r : Evaluated ValueTree) (bound : ℕ) → outcome_of ty (one to r) bound ≡ outcome_of ty r bound
outcome-same to ty r bound = ap (λ (end : CallEnd (Unit {0})). record { events = r.events; end = end }) (end-stays to ty r.end bound)

called-same : (to : ℕ → ℕ) (found : Option Exported) (args : List Scalar) (replies : List ℕ) (bound : ℕ) → called (moved_found to found) args replies bound ≡ called found args replies bound
called-same to None args replies bound = refl
called-same to (Some f) args replies bound =
    ap (λ (values : List ValueTree). outcome_of f.result (evaluated values (moved_node to f.body) replies) bound) (sym (values-stay to args))
    ∙ ap (λ (r : Evaluated ValueTree). outcome_of f.result r bound) (evaluated-moves to (values_of args) f.body replies)
    ∙ outcome-same to f.result (evaluated (values_of args) f.body replies) bound

-- ---- sessions

abbrev pub GoOn : Type 0
GoOn = Unit {0} → List ℕ → ℕ → Session

after-same : (events : List HostEvent) (end : CallEnd (Unit {0})) (go along : GoOn) → ((state : Unit {0}) (replies : List ℕ) (left : ℕ) → along state replies left ≡ go state replies left) →
    session_after events end along ≡ session_after events end go
after-same events (Returned value state replies left) go along each =
    ap (λ (rest : Session). sessions.entries_then (map sessions.Host events ++ sessions.Result value ∷ []) rest) (each state replies left)
after-same events (Halted halt) go along each = refl

-- the machine of exports whose functions have other numbers has the same sessions
pub session-moves : (to : ℕ → ℕ) (fs : List Exported) (calls : List Call) (state : Unit {0}) (replies : List ℕ) (bound : ℕ) →
    session (exports_machine (moved_exports to fs)) calls state replies bound ≡ session (exports_machine fs) calls state replies bound
session-moves to fs [] state replies bound = refl
session-moves to fs (call ∷ calls) state replies bound =
    ap (λ (outcome : sessions.Outcome (Unit {0})). session_after outcome.events outcome.end (session (exports_machine (moved_exports to fs)) calls)) same
    ∙ after-same (called (export_named fs call.name) call.args replies bound).events (called (export_named fs call.name) call.args replies bound).end
    (session (exports_machine fs) calls) (session (exports_machine (moved_exports to fs)) calls) (λ state more left. session-moves to fs calls state more left)
  where
    same : called (export_named (moved_exports to fs) call.name) call.args replies bound ≡ called (export_named fs call.name) call.args replies bound
    same =
        ap (λ (found : Option Exported). called found call.args replies bound) (named-moves to fs call.name)
        ∙ called-same to (export_named fs call.name) call.args replies bound
