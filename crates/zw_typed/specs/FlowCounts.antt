-- What a session of a program with statements counts: visits, bytes that are moved, and the work, which the instructions of the module are held
-- against (this project's own). Each evaluation of a node that stands for an occurrence of the source is a visit, and each call is one more.
-- A value's bytes are moved where it is read from a place, written to one, bound to a parameter or capture, becomes of another type, is given
-- at a join, or is returned.
use Rattle.std.specs.Prelude.{ℕ, ◌+◌, ◌*◌, Bool, true, false}
use Rattle.zw_typed.specs.FlowNodes.{Form, Constant, Read, Write, Declare, Scope, Operate, Become, Decide, Choose, InOrder, Target, Leave, Repeat, Count, Call, CallHost, Return, Stop}

pub record Counts : Type 0 where
  pub visits : ℕ
  pub moved : ℕ
  pub work : ℕ

abbrev pub nothing_counted : Counts
nothing_counted = record { visits = 0; moved = 0; work = 0 }

-- ---- the table of work

-- for an evaluation of a node by what it does
abbrev pub work_of : Form → ℕ
work_of (Constant value) = 2
work_of (Read place) = 4
work_of (Write place value) = 4
work_of (Declare variable writable value) = 4
work_of (Scope variables body) = 2
work_of (Operate operator kids) = 144
work_of (Become value) = 8
work_of (Decide logic a b) = 8
work_of (Choose condition a b) = 8
work_of (InOrder kids) = 2
work_of (Target target body) = 4
work_of (Leave target value) = 4
work_of (Repeat body) = 4
work_of (Count ranges bounds body) = 64
work_of (Call f args) = 32
work_of (CallHost import args) = 16
work_of (Return value) = 4
work_of (Stop cause) = 16

-- for a turn of a loop, for a call, and for a byte that is moved
abbrev pub work_of_turn : ℕ
work_of_turn = 16

abbrev pub work_of_call : ℕ
work_of_call = 32

abbrev pub work_of_byte : ℕ
work_of_byte = 16

-- ---- what is counted

-- a node of this work was evaluated, for an occurrence or as a helper
abbrev pub visited : Bool → ℕ → Counts → Counts
visited true work c = record { visits = c.visits + 1; moved = c.moved; work = c.work + work }
visited false work c = record { visits = c.visits; moved = c.moved; work = c.work + work }

abbrev pub with_moved : ℕ → Counts → Counts
with_moved bytes c = record { visits = c.visits; moved = c.moved + bytes; work = c.work + work_of_byte * bytes }
