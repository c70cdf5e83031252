-- Sessions of a machine whose calls stay ended stay ended.
use Rattle.std.proofs.Common.{◌≡◌, ◌≢◌, ℕ, ◌+◌, List, [], ◌∷◌, ◌++◌, map, refl, sym, ap, ◌∙◌, subst}
use Rattle.zw_session.specs.Sessions.{HostEvent, Call, Panicked, WantsReply, Running, Wild, Trapped, CallEnd, Returned, Halted, Outcome, Machine, Entry, Host, Result, SessionEnd, Finished, Ended, Session, entries_then, session_after, session}
use Rattle.zw_session.specs.Lists.{IsPrefix}
use Rattle.zw_session.specs.Bounds.{Lasts, StaysEnded, SessionsStayEnded}
use Rattle.zw_session.proofs.Prefixes.{prefix_same, prefix_trans, prefix_behind, prefix_front, prefix_map}

-- a session has these entries and this end, and with a larger bound it is the later one
abbrev pub SessionLasts : List Entry → SessionEnd → Session → Type 0
SessionLasts entries Finished later = later ≡ record { entries = entries; end = Finished }
SessionLasts entries (Ended Running) later = IsPrefix entries later.entries
SessionLasts entries (Ended (Panicked cause message)) later = later ≡ record { entries = entries; end = Ended (Panicked cause message) }
SessionLasts entries (Ended WantsReply) later = later ≡ record { entries = entries; end = Ended WantsReply }
SessionLasts entries (Ended Wild) later = later ≡ record { entries = entries; end = Ended Wild }
SessionLasts entries (Ended (Trapped code)) later = later ≡ record { entries = entries; end = Ended (Trapped code) }

-- behind the entries of an earlier call
lasts_behind : (front entries : List Entry) (end : SessionEnd) (later : Session) → SessionLasts entries end later → SessionLasts (front ++ entries) end (entries_then front later)
lasts_behind front entries Finished later h = ap (entries_then front) h
lasts_behind front entries (Ended Running) later h = prefix_behind front h
lasts_behind front entries (Ended (Panicked cause message)) later h = ap (entries_then front) h
lasts_behind front entries (Ended WantsReply) later h = ap (entries_then front) h
lasts_behind front entries (Ended Wild) later h = ap (entries_then front) h
lasts_behind front entries (Ended (Trapped code)) later h = ap (entries_then front) h

-- a session begins with the host calls of its first call
pub begins_with_call : {State : Type 0} (events : List HostEvent) (end : CallEnd State) (go_on : State → List ℕ → ℕ → Session) → IsPrefix (map Host events) (session_after events end go_on).entries
begins_with_call events (Returned value state replies left) go_on =
    prefix_trans (prefix_front (map Host events) (Result value ∷ [])) (prefix_front (map Host events ++ Result value ∷ []) (go_on state replies left).entries)
begins_with_call events (Halted halt) go_on = prefix_same (map Host events)

-- what a session goes on as, where it is behind a call's outcome
abbrev following : {State : Type 0} → Outcome State → (State → List ℕ → ℕ → Session) → Session
following outcome go_on = session_after outcome.events outcome.end go_on

-- the rest of a session lasts, from wherever a call leads
abbrev GoesOnLasting : {State : Type 0} → (State → List ℕ → ℕ → Session) → ℕ → Type 0
GoesOnLasting {State} go_on k = (state : State) (replies : List ℕ) (n : ℕ) → SessionLasts (go_on state replies n).entries (go_on state replies n).end (go_on state replies (n + k))

-- so does the whole, where its first call lasts
call_lasts : {State : Type 0} (go_on : State → List ℕ → ℕ → Session) (k : ℕ) → GoesOnLasting go_on k → (events : List HostEvent) (end : CallEnd State) (later : Outcome State) → Lasts k events end later → SessionLasts (session_after events end go_on).entries (session_after events end go_on).end (following later go_on)
call_lasts go_on k rest events (Returned value state replies left) later h =
    let front = map Host events ++ Result value ∷ [] in
    let now = go_on state replies left in
    let behind = lasts_behind front now.entries now.end (go_on state replies (left + k)) (rest state replies left) in
    subst (λ o. SessionLasts (front ++ now.entries) now.end (following o go_on)) (sym h) behind
call_lasts go_on k rest events (Halted Running) later h =
    prefix_trans (prefix_map Host h) (begins_with_call later.events later.end go_on)
call_lasts go_on k rest events (Halted (Panicked cause message)) later h = ap (λ o. following o go_on) h
call_lasts go_on k rest events (Halted WantsReply) later h = ap (λ o. following o go_on) h
call_lasts go_on k rest events (Halted Wild) later h = ap (λ o. following o go_on) h
call_lasts go_on k rest events (Halted (Trapped code)) later h = ap (λ o. following o go_on) h

module _ {State : Type 0} (machine : Machine State) (law : StaysEnded machine) where
  -- by induction on the calls
  pub session_lasts : (calls : List Call) (state : State) (replies : List ℕ) (n k : ℕ) → SessionLasts (session machine calls state replies n).entries (session machine calls state replies n).end (session machine calls state replies (n + k))
  session_lasts [] state replies n k = refl
  session_lasts (call ∷ calls) state replies n k =
      let now = machine.call state call replies n in
      call_lasts (session machine calls) k (λ s r m. session_lasts calls s r m k) now.events now.end (machine.call state call replies (n + k)) (law.lasts state call replies n k)

-- it ended, and so it is the same later
pub same_later : (entries : List Entry) (end : SessionEnd) (later : Session) → SessionLasts entries end later → end ≢ Ended Running → later ≡ record { entries = entries; end = end }
same_later entries Finished later h ended = h
same_later entries (Ended Running) later h ended = absurd (ended refl)
same_later entries (Ended (Panicked cause message)) later h ended = h
same_later entries (Ended WantsReply) later h ended = h
same_later entries (Ended Wild) later h ended = h
same_later entries (Ended (Trapped code)) later h ended = h

-- an end or none, the record only grows
pub grows_later : (entries : List Entry) (end : SessionEnd) (later : Session) → SessionLasts entries end later → IsPrefix entries later.entries
grows_later entries Finished later h = subst (λ s. IsPrefix entries s.entries) (sym h) (prefix_same entries)
grows_later entries (Ended Running) later h = h
grows_later entries (Ended (Panicked cause message)) later h = subst (λ s. IsPrefix entries s.entries) (sym h) (prefix_same entries)
grows_later entries (Ended WantsReply) later h = subst (λ s. IsPrefix entries s.entries) (sym h) (prefix_same entries)
grows_later entries (Ended Wild) later h = subst (λ s. IsPrefix entries s.entries) (sym h) (prefix_same entries)
grows_later entries (Ended (Trapped code)) later h = subst (λ s. IsPrefix entries s.entries) (sym h) (prefix_same entries)

-- one that runs later ran before
pub running_before : (entries : List Entry) (end : SessionEnd) (later : Session) → SessionLasts entries end later → later.end ≡ Ended Running → end ≡ Ended Running
running_before entries Finished later h e = sym (ap (λ s. s.end) h) ∙ e
running_before entries (Ended Running) later h e = refl
running_before entries (Ended (Panicked cause message)) later h e = sym (ap (λ s. s.end) h) ∙ e
running_before entries (Ended WantsReply) later h e = sym (ap (λ s. s.end) h) ∙ e
running_before entries (Ended Wild) later h e = sym (ap (λ s. s.end) h) ∙ e
running_before entries (Ended (Trapped code)) later h e = sym (ap (λ s. s.end) h) ∙ e

-- The law of sessions.
pub sessions_stay : {State : Type 0} (machine : Machine State) → StaysEnded machine → SessionsStayEnded machine
sessions_stay machine law = record {
  ended = λ calls state replies n k.
      let now = session machine calls state replies n in
      same_later now.entries now.end _ (session_lasts machine law calls state replies n k);
  running = λ calls state replies n k.
      let now = session machine calls state replies n in
      grows_later now.entries now.end _ (session_lasts machine law calls state replies n k);
}
