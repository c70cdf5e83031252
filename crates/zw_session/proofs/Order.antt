-- What calls further on change.
use Rattle.std.proofs.Common.{◌≡◌, ◌≢◌, ℕ, List, [], ◌∷◌, ◌++◌, map, refl, ap}
use Rattle.zw_session.specs.Lists.{IsPrefix}
use Rattle.zw_session.specs.Sessions.{HostEvent, Call, CallEnd, Returned, Halted, Machine, Host, Result, Finished, Session, entries_then, session_after, session}
use Rattle.zw_session.specs.Bounds.{GoesInOrder}
use Rattle.zw_session.proofs.Prefixes.{prefix_same, prefix_behind}

-- behind one call, which returned or ended the session
ended_after : {State : Type 0} (events : List HostEvent) (end : CallEnd State) (go_on more_on : State → List ℕ → ℕ → Session) → ((state : State) (replies : List ℕ) (n : ℕ) → (go_on state replies n).end ≢ Finished → more_on state replies n ≡ go_on state replies n) → (session_after events end go_on).end ≢ Finished → session_after events end more_on ≡ session_after events end go_on
ended_after events (Returned value state replies left) go_on more_on rest ended =
    ap (entries_then (map Host events ++ Result value ∷ [])) (rest state replies left ended)
ended_after events (Halted halt) go_on more_on rest ended = refl

-- the records behind one call
earlier_after : {State : Type 0} (events : List HostEvent) (end : CallEnd State) (go_on more_on : State → List ℕ → ℕ → Session) → ((state : State) (replies : List ℕ) (n : ℕ) → IsPrefix (go_on state replies n).entries (more_on state replies n).entries) → IsPrefix (session_after events end go_on).entries (session_after events end more_on).entries
earlier_after events (Returned value state replies left) go_on more_on rest =
    prefix_behind (map Host events ++ Result value ∷ []) (rest state replies left)
earlier_after events (Halted halt) go_on more_on rest = prefix_same (map Host events)

module _ {State : Type 0} (machine : Machine State) where
  -- by induction on the calls, as the next
  session_ended : (calls more : List Call) (state : State) (replies : List ℕ) (n : ℕ) → (session machine calls state replies n).end ≢ Finished → session machine (calls ++ more) state replies n ≡ session machine calls state replies n
  session_ended [] more state replies n ended = absurd (ended refl)
  session_ended (call ∷ calls) more state replies n ended =
      let now = machine.call state call replies n in
      ended_after now.events now.end (session machine calls) (session machine (calls ++ more)) (λ s r m. session_ended calls more s r m) ended

  session_earlier : (calls more : List Call) (state : State) (replies : List ℕ) (n : ℕ) → IsPrefix (session machine calls state replies n).entries (session machine (calls ++ more) state replies n).entries
  session_earlier [] more state replies n = record { rest = (session machine more state replies n).entries; is = refl }
  session_earlier (call ∷ calls) more state replies n =
      let now = machine.call state call replies n in
      earlier_after now.events now.end (session machine calls) (session machine (calls ++ more)) (λ s r m. session_earlier calls more s r m)

-- The law.
pub goes_in_order : {State : Type 0} (machine : Machine State) → GoesInOrder machine
goes_in_order machine = record {
  ended = session_ended machine;
  earlier = session_earlier machine;
}
