-- That visits pay for work: each visit and each byte that is moved pays for 256 of it. What a node needs is computed from the node, with the
-- visits that it begins with; and a turn of a loop, and a call, need no more than what they begin with pays for (this project's own).
use Rattle.std.specs.Prelude.{◌≤◌, ◌+◌, ◌-◌, ◌*◌, ℕ, suc, true, false}
use Rattle.zw_typed.specs.FlowNodes.{FlowNode, FlowNodes, node, no_nodes, node_and, Function, Form, Constant, Read, Write, Declare, Scope, Operate, Become, Decide, Choose, InOrder, Target, Leave, Repeat, Count, Call, CallHost, Return, Stop}
use Rattle.zw_typed.specs.FlowCounts.{work_of, work_of_turn, work_of_call}

-- what a visit pays for, and a byte that is moved
abbrev pub paid_work : ℕ
paid_work = 256

abbrev mutual
  -- The visits that evaluating a node begins with, however it ends: a node of the source is one, before what it needs first.
  pub first_visits : FlowNode → ℕ
  first_visits (node true ty form) = suc (visits_in form)
  first_visits (node false ty form) = visits_in form

  pub visits_in : Form → ℕ
  visits_in (Constant value) = 0
  visits_in (Read place) = 0
  visits_in (Write place n) = first_visits n
  visits_in (Declare k writable n) = first_visits n
  visits_in (Scope ks n) = first_visits n
  visits_in (Operate op kids) = visits_among kids
  visits_in (Become n) = first_visits n
  visits_in (Decide logic a b) = first_visits a
  visits_in (Choose c a b) = first_visits c
  visits_in (InOrder kids) = visits_among kids
  visits_in (Target t n) = first_visits n
  visits_in (Leave t n) = first_visits n
  visits_in (Repeat n) = first_visits n
  visits_in (Count ranges bounds n) = visits_among bounds
  visits_in (Call f args) = visits_among args
  visits_in (CallHost import args) = visits_among args
  visits_in (Return n) = first_visits n
  visits_in (Stop cause) = 0

  -- those of the first one
  pub visits_among : FlowNodes → ℕ
  visits_among no_nodes = 0
  visits_among (node_and n ns) = first_visits n

abbrev mutual
  -- The work of evaluating a node is at most this and what is paid beyond its first visits: its own, what the first thing in it needs, and of the
  -- others what their first visits leave. The turns of a loop pay for themselves.
  pub need : FlowNode → ℕ
  need (node counts ty form) = work_of form + need_in form

  pub need_in : Form → ℕ
  need_in (Constant value) = 0
  need_in (Read place) = 0
  need_in (Write place n) = need n
  need_in (Declare k writable n) = need n
  need_in (Scope ks n) = need n
  need_in (Operate op kids) = need_among kids
  need_in (Become n) = need n
  need_in (Decide logic a b) = need a + (need b - paid_work * first_visits b)
  need_in (Choose c a b) = need c + ((need a - paid_work * first_visits a) + (need b - paid_work * first_visits b))
  need_in (InOrder kids) = need_among kids
  need_in (Target t n) = need n
  need_in (Leave t n) = need n
  need_in (Repeat n) = need n
  need_in (Count ranges bounds n) = need_among bounds
  need_in (Call f args) = need_among args
  need_in (CallHost import args) = need_among args
  need_in (Return n) = need n
  need_in (Stop cause) = 0

  pub need_among : FlowNodes → ℕ
  need_among no_nodes = 0
  need_among (node_and n ns) = need n + need_later ns

  pub need_later : FlowNodes → ℕ
  need_later no_nodes = 0
  need_later (node_and n ns) = (need n - paid_work * first_visits n) + need_later ns

-- what the first visits don't pay for
abbrev pub need_left : FlowNode → ℕ
need_left n = need n - paid_work * first_visits n

-- A turn of a loop with this body is paid by what it begins with, so it begins with a visit.
abbrev pub IsTurnPaid : FlowNode → Type 0
IsTurnPaid n = need n + work_of_turn ≤ paid_work * first_visits n

abbrev mutual
  -- each turn of a loop in the node is paid
  pub AreTurnsPaid : FlowNode → Type 0
  AreTurnsPaid (node counts ty form) = FormTurnsPaid form

  pub FormTurnsPaid : Form → Type 0
  FormTurnsPaid (Constant value) = Unit {0}
  FormTurnsPaid (Read place) = Unit {0}
  FormTurnsPaid (Write place n) = AreTurnsPaid n
  FormTurnsPaid (Declare k writable n) = AreTurnsPaid n
  FormTurnsPaid (Scope ks n) = AreTurnsPaid n
  FormTurnsPaid (Operate op kids) = AllTurnsPaid kids
  FormTurnsPaid (Become n) = AreTurnsPaid n
  FormTurnsPaid (Decide logic a b) = AreTurnsPaid a × AreTurnsPaid b
  FormTurnsPaid (Choose c a b) = AreTurnsPaid c × AreTurnsPaid a × AreTurnsPaid b
  FormTurnsPaid (InOrder kids) = AllTurnsPaid kids
  FormTurnsPaid (Target t n) = AreTurnsPaid n
  FormTurnsPaid (Leave t n) = AreTurnsPaid n
  FormTurnsPaid (Repeat n) = IsTurnPaid n × AreTurnsPaid n
  FormTurnsPaid (Count ranges bounds n) = AllTurnsPaid bounds × IsTurnPaid n × AreTurnsPaid n
  FormTurnsPaid (Call f args) = AllTurnsPaid args
  FormTurnsPaid (CallHost import args) = AllTurnsPaid args
  FormTurnsPaid (Return n) = AreTurnsPaid n
  FormTurnsPaid (Stop cause) = Unit {0}

  pub AllTurnsPaid : FlowNodes → Type 0
  AllTurnsPaid no_nodes = Unit {0}
  AllTurnsPaid (node_and n ns) = AreTurnsPaid n × AllTurnsPaid ns

-- the turns of its loops are paid, and the body by the visit of its call and those that it begins with
pub record IsFunctionPaid (f : Function) : Type 0 where
  pub turns : AreTurnsPaid f.body
  pub body : need f.body + work_of_call ≤ paid_work * suc (first_visits f.body)
