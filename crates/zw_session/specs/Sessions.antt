-- Sessions: a list of calls of exports, with the replies of a host and a bound on the work. A machine says what one
-- call does; source, typed program and module are machines. This project's own, over both languages.
use Rattle.std.specs.Prelude.{ℕ, ℤ, Bool, List, [], ◌∷◌, ◌++◌, Option, IsTrue, map}
use Rattle.std.specs.List.{AllByRecursion}

-- a number or a truth value: of what goes out as its declared type has it, of what comes in as the host tells it
pub data Scalar : Type 0 where
  Number : (n : ℤ) → Scalar
  Truth : (b : Bool) → Scalar

-- What a host call shows: the import's name, its numbers and truth values in order, and the bytes that each
-- pointer with a length shows, in order. The pointers' numbers are no part of it.
pub record HostEvent : Type 0 where
  pub name : List ℕ
  pub args : List Scalar
  pub shown : List (List ℕ)

-- a call of an export, by its name
pub record Call : Type 0 where
  pub name : List ℕ
  pub args : List Scalar

-- how a call may end other than by returning
pub data Halt : Type 0 where
  -- it panicked with this cause, and for cause 18 with these bytes
  Panicked : (cause : ℕ) (message : List ℕ) → Halt
  -- a host call with a result was made, and no reply was left
  WantsReply : Halt
  -- the bound was used up
  Running : Halt
  -- the source met unchecked illegal behaviour
  Wild : Halt
  -- the module trapped without a panic
  Trapped : (code : ℕ) → Halt

-- how a call ends: it gives a value, or none, with the next state, the replies that are left and the bound that
-- is left; or it halts
pub data CallEnd (State : Type 0) : Type 0 where
  Returned : (value : Option Scalar) (state : State) (replies : List ℕ) (left : ℕ) → CallEnd State
  Halted : (halt : Halt) → CallEnd State

-- the host calls that a call made, in order, and its end
pub record Outcome (State : Type 0) : Type 0 where
  pub events : List HostEvent
  pub end : CallEnd State

-- What a machine is: which calls may be made of it, and what one call does from a state, with these replies and
-- at most this many steps of its own kind. A call may be made with every number that a host can hand over, also one outside the
-- declared type of its parameter.
pub record Machine (State : Type 0) : Type 0 where
  pub fits : Call → Bool
  pub call : State → Call → List ℕ → ℕ → Outcome State

-- an entry of a record: a host call, or the result of a call
pub data Entry : Type 0 where
  Host : (event : HostEvent) → Entry
  Result : (value : Option Scalar) → Entry

-- how a session ends: all calls returned, or one of them halted
pub data SessionEnd : Type 0 where
  Finished : SessionEnd
  Ended : (halt : Halt) → SessionEnd

-- the record of results and host calls in order, and the end
pub record Session : Type 0 where
  pub entries : List Entry
  pub end : SessionEnd

-- these entries, and then the session's
abbrev pub entries_then : List Entry → Session → Session
entries_then entries rest = record { entries = entries ++ rest.entries; end = rest.end }

-- A session whose first call made these host calls and ended so: after a result it goes on from the state, with the
-- replies and the bound that are left.
abbrev pub session_after : {State : Type 0} → List HostEvent → CallEnd State → (State → List ℕ → ℕ → Session) → Session
session_after events (Returned value state replies left) go_on =
    entries_then (map Host events ++ Result value ∷ []) (go_on state replies left)
session_after events (Halted halt) go_on = record { entries = map Host events; end = Ended halt }

-- the session of a list of calls from a state, with these replies; the bound is over the whole of it
abbrev pub session : {State : Type 0} → Machine State → List Call → State → List ℕ → ℕ → Session
session machine [] state replies bound = record { entries = []; end = Finished }
session machine (call ∷ calls) state replies bound =
    let outcome = machine.call state call replies bound in
    session_after outcome.events outcome.end (session machine calls)

-- each of the calls may be made of the machine
abbrev pub AllFit : {State : Type 0} → Machine State → List Call → Type 0
AllFit machine calls = AllByRecursion (λ call. IsTrue (machine.fits call)) calls
