-- What a larger bound changes: nothing of what has ended.
use Rattle.std.specs.Prelude.{◌≡◌, ◌≢◌, ℕ, ◌+◌, ◌≤◌, List, ◌++◌}
use Rattle.zw_session.specs.Sessions.{HostEvent, Call, Panicked, WantsReply, Running, Wild, Trapped, CallEnd, Returned, Halted, Outcome, Machine, Finished, Ended, session}
use Rattle.zw_session.specs.Lists.{IsPrefix}

-- a call made these host calls and ended so, and with a bound larger by k its outcome is the later one
abbrev pub Lasts : {State : Type 0} → ℕ → List HostEvent → CallEnd State → Outcome State → Type 0
-- it returned: then it returns the same, and more of the bound is left
Lasts k events (Returned value state replies left) later =
    later ≡ record { events = events; end = Returned value state replies (left + k) }
-- it was still running: then it begins with the same host calls
Lasts k events (Halted Running) later = IsPrefix events later.events
-- it halted: then it halts the same
Lasts k events (Halted (Panicked cause message)) later =
    later ≡ record { events = events; end = Halted (Panicked cause message) }
Lasts k events (Halted WantsReply) later = later ≡ record { events = events; end = Halted WantsReply }
Lasts k events (Halted Wild) later = later ≡ record { events = events; end = Halted Wild }
Lasts k events (Halted (Trapped code)) later = later ≡ record { events = events; end = Halted (Trapped code) }

-- a call hands on no more of the bound than it had
abbrev pub LeavesWithin : {State : Type 0} → ℕ → CallEnd State → Type 0
LeavesWithin n (Returned value state replies left) = left ≤ n
LeavesWithin n (Halted halt) = Unit {0}

-- The law of a machine: a call that ended stays ended, with the same record, under a larger bound.
pub record StaysEnded {State : Type 0} (machine : Machine State) : Type 0 where
  pub lasts : (state : State) (call : Call) (replies : List ℕ) (n k : ℕ) →
      Lasts k (machine.call state call replies n).events (machine.call state call replies n).end (machine.call state call replies (n + k))
  pub left : (state : State) (call : Call) (replies : List ℕ) (n : ℕ) → LeavesWithin n (machine.call state call replies n).end

-- The same of its sessions.
pub record SessionsStayEnded {State : Type 0} (machine : Machine State) : Type 0 where
  -- one that ended stays ended, with the same record and the same end
  pub ended : (calls : List Call) (state : State) (replies : List ℕ) (n k : ℕ) →
      (session machine calls state replies n).end ≢ Ended Running → session machine calls state replies (n + k) ≡ session machine calls state replies n
  -- one that runs on only adds to its record
  pub running : (calls : List Call) (state : State) (replies : List ℕ) (n k : ℕ) →
      IsPrefix (session machine calls state replies n).entries (session machine calls state replies (n + k)).entries

-- What calls further on change, at any machine: nothing of what came before them.
pub record GoesInOrder {State : Type 0} (machine : Machine State) : Type 0 where
  -- after a call that didn't return no call is made
  pub ended : (calls more : List Call) (state : State) (replies : List ℕ) (n : ℕ) →
      (session machine calls state replies n).end ≢ Finished → session machine (calls ++ more) state replies n ≡ session machine calls state replies n
  -- the record of the earlier calls comes first
  pub earlier : (calls more : List Call) (state : State) (replies : List ℕ) (n : ℕ) →
      IsPrefix (session machine calls state replies n).entries (session machine (calls ++ more) state replies n).entries
