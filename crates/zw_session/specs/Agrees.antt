-- When two machines do the same: what it is for whole sessions, and what is enough of it for a single call.
use Rattle.std.specs.Prelude.{◌≡◌, ◌≢◌, ◌⊎◌, ℕ, ◌+◌, ◌≤◌, List, Option, IsTrue}
use Rattle.zw_session.specs.Lists.{IsPrefix}
use Rattle.zw_session.specs.Sessions.{Scalar, HostEvent, Call, Panicked, WantsReply, Running, Wild, Trapped, CallEnd, Returned, Halted, Outcome, Machine, SessionEnd, Finished, Ended, Session, session, AllFit}

-- The session is over: each call gave its result, or one panicked or wants a reply. (A trap is an end of modules; a
-- source has none.)
abbrev pub IsOver : SessionEnd → Type 0
IsOver Finished = Unit {0}
IsOver (Ended (Panicked cause message)) = Unit {0}
IsOver (Ended WantsReply) = Unit {0}
IsOver (Ended (Trapped code)) = Unit {0}
IsOver (Ended Running) = ⊥
IsOver (Ended Wild) = ⊥

-- What a target's sessions do where the source's are these. Both are of one list of calls and one list of replies,
-- each for every bound: of turns at the source, of instructions at the target.
pub record SameSessions (source target : ℕ → Session) : Type 0 where
  -- Where the source's session is over within n turns, the target's is over with some bound, with the same record and
  -- the same end: a panic has its cause and its message.
  pub ends : (n : ℕ) → IsOver (source n).end → (m : ℕ) × (target m ≡ source n)
  -- Where the source still runs after n turns, the target hasn't ended within n instructions, and it comes to show
  -- all that the source showed.
  pub runs_on : (n : ℕ) → (source n).end ≡ Ended Running →
      ((k : ℕ) → k ≤ n → (target k).end ≡ Ended Running) × ((m : ℕ) × IsPrefix (source n).entries (target m).entries)
  -- The target shows nothing that the source doesn't show, unless the source is wild.
  pub shows_only : (m : ℕ) → (n : ℕ) × (IsPrefix (target m).entries (source n).entries ⊎ ((source n).end ≡ Ended Wild))
  -- Where the source is wild within n turns, the target comes to show all that the source showed before.
  pub until_wild : (n : ℕ) → (source n).end ≡ Ended Wild → (m : ℕ) × IsPrefix (source n).entries (target m).entries

-- The target does what the source does, each from its start: for every list of calls that may be made of the source,
-- every list of replies and every bound.
pub record Agrees {Source Target : Type 0} (source : Machine Source) (source_start : Source) (target : Machine Target) (target_start : Target) : Type 0 where
  -- what may be called at the source may be called at the target
  pub fits : (call : Call) → IsTrue (source.fits call) → IsTrue (target.fits call)
  pub sessions : (calls : List Call) → AllFit source calls → (replies : List ℕ) →
      SameSessions (session source calls source_start replies) (session target calls target_start replies)

-- The other way round, which follows: what the target's sessions say of the source's.
pub record OnlySuchEnds (source target : ℕ → Session) : Type 0 where
  -- where the target ends, the source ends the same with the same record, or it is wild
  pub ends : (m : ℕ) → (target m).end ≢ Ended Running → (n : ℕ) × ((source n ≡ target m) ⊎ ((source n).end ≡ Ended Wild))
  -- a source that runs on for ever has a target that never ends
  pub never_ends : ((n : ℕ) → (source n).end ≡ Ended Running) → (m : ℕ) → (target m).end ≡ Ended Running

-- The target's call returns so too, with the same host calls, in a related state.
pub record ReturnsToo {Source Target : Type 0} (Related : Source → Target → Type 0) (target : ℕ → Outcome Target) (n : ℕ) (events : List HostEvent) (value : Option Scalar) (state : Source) (replies : List ℕ) (left : ℕ) : Type 0 where
  pub next : Target
  pub related : Related state next
  -- how many instructions it takes: no fewer than the source took turns
  pub used : ℕ
  pub turns : n ≤ left + used
  -- whatever the bound is beyond that, it is handed on
  pub returns : (k : ℕ) → target (used + k) ≡ record { events = events; end = Returned value next replies k }

-- What the target's call does, for every bound, where the source's with bound n made these host calls and ended so.
abbrev pub CallAgrees : {Source Target : Type 0} → (Source → Target → Type 0) → (ℕ → Outcome Target) → ℕ → List HostEvent → CallEnd Source → Type 0
CallAgrees Related target n events (Returned value state replies left) =
    ReturnsToo Related target n events value state replies left
-- it halts the same, with the same host calls
CallAgrees Related target n events (Halted (Panicked cause message)) =
    (m : ℕ) × (target m ≡ record { events = events; end = Halted (Panicked cause message) })
CallAgrees Related target n events (Halted WantsReply) =
    (m : ℕ) × (target m ≡ record { events = events; end = Halted WantsReply })
CallAgrees Related target n events (Halted (Trapped code)) =
    (m : ℕ) × (target m ≡ record { events = events; end = Halted (Trapped code) })
-- it still runs after no fewer instructions, with exactly these host calls
CallAgrees Related target n events (Halted Running) =
    (m : ℕ) × (n ≤ m) × (target m ≡ record { events = events; end = Halted Running })
-- it comes to make these host calls first
CallAgrees Related target n events (Halted Wild) = (m : ℕ) × IsPrefix events (target m).events

-- The two machines agree on each single call from related states.
pub record AgreesOnCalls {Source Target : Type 0} (Related : Source → Target → Type 0) (source : Machine Source) (target : Machine Target) : Type 0 where
  pub fits : (call : Call) → IsTrue (source.fits call) → IsTrue (target.fits call)
  pub calls : (state : Source) (other : Target) → Related state other → (call : Call) → IsTrue (source.fits call) → (replies : List ℕ) (n : ℕ) →
      CallAgrees Related (target.call other call replies) n (source.call state call replies n).events (source.call state call replies n).end
