-- From single calls to sessions: two machines that agree on each call from related states agree on every session.
use Rattle.std.proofs.Common.{◌≡◌, ◌≢◌, ◌⊎◌, ℕ, ◌+◌, ◌-◌, ◌<◌, ◌≤◌, List, [], ◌∷◌, ◌++◌, map, refl, sym, ap, ◌∙◌, subst, inl, inr, ⊎_elim, arith}
use Rattle.std.proofs.lemmas.Bool.{cases_lt}
use Rattle.zw_session.specs.Sessions.{HostEvent, Call, Panicked, WantsReply, Running, Wild, Trapped, CallEnd, Returned, Halted, Outcome, Machine, Entry, Host, Result, SessionEnd, Finished, Ended, Session, entries_then, session_after, session, AllFit}
use Rattle.zw_session.specs.Lists.{IsPrefix}
use Rattle.zw_session.specs.Agrees.{IsOver, SameSessions, Agrees, CallAgrees, AgreesOnCalls, OnlySuchEnds}
use Rattle.zw_session.specs.Bounds.{StaysEnded}
use Rattle.zw_session.proofs.Prefixes.{prefix_same, prefix_trans, prefix_behind, prefix_map}
use Rattle.zw_session.proofs.Staying.{SessionLasts, begins_with_call, session_lasts, same_later, grows_later, running_before}

-- what the target's session does, for every bound, where the source's with bound n has these entries and this end
abbrev SessionFollows : (ℕ → Session) → ℕ → List Entry → SessionEnd → Type 0
SessionFollows target n entries Finished = (m : ℕ) × (target m ≡ record { entries = entries; end = Finished })
SessionFollows target n entries (Ended (Panicked cause message)) = (m : ℕ) × (target m ≡ record { entries = entries; end = Ended (Panicked cause message) })
SessionFollows target n entries (Ended WantsReply) = (m : ℕ) × (target m ≡ record { entries = entries; end = Ended WantsReply })
SessionFollows target n entries (Ended Running) = (m : ℕ) × (n ≤ m) × (target m ≡ record { entries = entries; end = Ended Running })
SessionFollows target n entries (Ended Wild) = (m : ℕ) × IsPrefix entries (target m).entries
SessionFollows target n entries (Ended (Trapped code)) = (m : ℕ) × (target m ≡ record { entries = entries; end = Ended (Trapped code) })

-- after a call that took j instructions, and no more turns
follows_after : (front : List Entry) (inner outer : ℕ → Session) (n left j : ℕ) → n ≤ left + j → ((k : ℕ) → outer (j + k) ≡ entries_then front (inner k)) → (entries : List Entry) (end : SessionEnd) → SessionFollows inner left entries end → SessionFollows outer n (front ++ entries) end
follows_after front inner outer n left j turns step entries Finished f = (j + f.0, step f.0 ∙ ap (entries_then front) f.1)
follows_after front inner outer n left j turns step entries (Ended (Panicked cause message)) f = (j + f.0, step f.0 ∙ ap (entries_then front) f.1)
follows_after front inner outer n left j turns step entries (Ended WantsReply) f = (j + f.0, step f.0 ∙ ap (entries_then front) f.1)
follows_after front inner outer n left j turns step entries (Ended Running) f = (j + f.0, omega (arith, f.1), step f.0 ∙ ap (entries_then front) f.2)
follows_after front inner outer n left j turns step entries (Ended Wild) f =
    (j + f.0, subst (λ s. IsPrefix (front ++ entries) s.entries) (sym (step f.0)) (prefix_behind front f.1))
follows_after front inner outer n left j turns step entries (Ended (Trapped code)) f = (j + f.0, step f.0 ∙ ap (entries_then front) f.1)

module _ {Source Target : Type 0} (Related : Source → Target → Type 0) where
  -- one call, where the rest of the session follows
  call_follows : (go_on : Source → List ℕ → ℕ → Session) (other_on : Target → List ℕ → ℕ → Session) → ((state : Source) (other : Target) (replies : List ℕ) (n : ℕ) → Related state other → SessionFollows (other_on other replies) n (go_on state replies n).entries (go_on state replies n).end) → (target : ℕ → Outcome Target) (n : ℕ) (events : List HostEvent) (end : CallEnd Source) → CallAgrees Related target n events end → SessionFollows (λ m. session_after (target m).events (target m).end other_on) n (session_after events end go_on).entries (session_after events end go_on).end
  call_follows go_on other_on rest target n events (Returned value state replies left) a =
      let front = map Host events ++ Result value ∷ [] in
      let now = go_on state replies left in
      follows_after front (other_on a.next replies) (λ m. session_after (target m).events (target m).end other_on) n left a.used a.turns (λ k. ap (λ o. session_after o.events o.end other_on) (a.returns k)) now.entries now.end (rest state a.next replies left a.related)
  call_follows go_on other_on rest target n events (Halted (Panicked cause message)) a = (a.0, ap (λ o. session_after o.events o.end other_on) a.1)
  call_follows go_on other_on rest target n events (Halted WantsReply) a = (a.0, ap (λ o. session_after o.events o.end other_on) a.1)
  call_follows go_on other_on rest target n events (Halted Running) a = (a.0, a.1, ap (λ o. session_after o.events o.end other_on) a.2)
  call_follows go_on other_on rest target n events (Halted Wild) a =
      (a.0, prefix_trans (prefix_map Host a.1) (begins_with_call (target a.0).events (target a.0).end other_on))
  call_follows go_on other_on rest target n events (Halted (Trapped code)) a = (a.0, ap (λ o. session_after o.events o.end other_on) a.1)

  -- by induction on the calls
  session_follows : (source : Machine Source) (target : Machine Target) → AgreesOnCalls Related source target → (calls : List Call) → AllFit source calls → (state : Source) (other : Target) (replies : List ℕ) (n : ℕ) → Related state other → SessionFollows (session target calls other replies) n (session source calls state replies n).entries (session source calls state replies n).end
  session_follows source target agrees [] fit state other replies n related = (0, refl)
  session_follows source target agrees (call ∷ calls) fit state other replies n related =
      let now = source.call state call replies n in
      call_follows (session source calls) (session target calls) (λ s o r m. session_follows source target agrees calls fit.1 s o r m) (target.call other call replies) n now.events now.end (agrees.calls state other related call fit.0 replies n)

-- the four parts, from what each bound gives and from the target's law
module _ (target : ℕ → Session) (law : (n k : ℕ) → SessionLasts (target n).entries (target n).end (target (n + k))) where
  -- the law for two bounds in order
  later : (m n : ℕ) → m ≤ n → SessionLasts (target m).entries (target m).end (target n)
  later m n le = let e : m + (n - m) ≡ n = omega arith in subst (λ i. SessionLasts (target m).entries (target m).end (target i)) e (law m (n - m))

  -- the first part
  over_too : (n : ℕ) (entries : List Entry) (end : SessionEnd) → IsOver end → SessionFollows target n entries end → (m : ℕ) × (target m ≡ record { entries = entries; end = end })
  over_too n entries Finished over f = f
  over_too n entries (Ended (Panicked cause message)) over f = f
  over_too n entries (Ended WantsReply) over f = f
  over_too n entries (Ended Running) over f = absurd over
  over_too n entries (Ended Wild) over f = absurd over
  over_too n entries (Ended (Trapped code)) over f = f

  -- the second
  runs_too : (n : ℕ) (entries : List Entry) → SessionFollows target n entries (Ended Running) → ((k : ℕ) → k ≤ n → (target k).end ≡ Ended Running) × ((m : ℕ) × IsPrefix entries (target m).entries)
  runs_too n entries f = (
    λ k le. running_before (target k).entries (target k).end (target f.0) (later k f.0 (omega (arith, f.1))) (ap (λ s. s.end) f.2),
    (f.0, subst (λ s. IsPrefix entries s.entries) (sym f.2) (prefix_same entries)),
  )

  -- what a session shows at any bound, where with some bound it ended
  shows_before : (m n : ℕ) (end : SessionEnd) (entries : List Entry) → end ≢ Ended Running → target n ≡ record { entries = entries; end = end } → IsPrefix (target m).entries entries
  shows_before m n end entries ended e =
      let grown = λ (le : m ≤ n). subst (λ s. IsPrefix (target m).entries s.entries) e (grows_later (target m).entries (target m).end (target n) (later m n le)) in
      let same = λ (lt : n < m).
      let last = subst (λ s. SessionLasts s.entries s.end (target m)) e (later n m (omega arith)) in
      subst (λ s. IsPrefix s.entries entries) (sym (same_later entries end (target m) last ended)) (prefix_same entries) in
      ⊎_elim same grown (cases_lt n m)

  -- the third
  shows_too : (m : ℕ) (entries : List Entry) (end : SessionEnd) → SessionFollows target m entries end → IsPrefix (target m).entries entries ⊎ (end ≡ Ended Wild)
  shows_too m entries Finished f = inl (shows_before m f.0 Finished entries (λ (e : _). let no : ⊥ = cc in no) f.1)
  shows_too m entries (Ended (Panicked cause message)) f = inl (shows_before m f.0 (Ended (Panicked cause message)) entries (λ (e : _). let no : ⊥ = cc in no) f.1)
  shows_too m entries (Ended WantsReply) f = inl (shows_before m f.0 (Ended WantsReply) entries (λ (e : _). let no : ⊥ = cc in no) f.1)
  shows_too m entries (Ended Running) f =
      inl (subst (λ s. IsPrefix (target m).entries s.entries) f.2 (grows_later (target m).entries (target m).end (target f.0) (later m f.0 f.1)))
  shows_too m entries (Ended Wild) f = inr refl
  shows_too m entries (Ended (Trapped code)) f = inl (shows_before m f.0 (Ended (Trapped code)) entries (λ (e : _). let no : ⊥ = cc in no) f.1)

  same_sessions : (source : ℕ → Session) → ((n : ℕ) → SessionFollows target n (source n).entries (source n).end) → SameSessions source target
  same_sessions source follows = record {
    ends = λ n over. over_too n (source n).entries (source n).end over (follows n);
    runs_on = λ n e. runs_too n (source n).entries (subst (SessionFollows target n (source n).entries) e (follows n));
    shows_only = λ m. (m, shows_too m (source m).entries (source m).end (follows m));
    until_wild = λ n e. subst (SessionFollows target n (source n).entries) e (follows n);
  }

  -- a session that ended at either bound is the same at both
  one_end : (m n : ℕ) (end : SessionEnd) (entries : List Entry) → (target m).end ≢ Ended Running → end ≢ Ended Running → target n ≡ record { entries = entries; end = end } → target n ≡ target m
  one_end m n end entries ended_here ended e =
      let forward = λ (le : m ≤ n). same_later (target m).entries (target m).end (target n) (later m n le) ended_here in
      let back = λ (lt : n < m).
      let last = subst (λ s. SessionLasts s.entries s.end (target m)) e (later n m (omega arith)) in
      e ∙ sym (same_later entries end (target m) last ended) in
      ⊎_elim back forward (cases_lt n m)

  -- an end is the source's end
  ends_so : (m : ℕ) → (target m).end ≢ Ended Running → (entries : List Entry) (end : SessionEnd) → SessionFollows target m entries end → (target m ≡ record { entries = entries; end = end }) ⊎ (end ≡ Ended Wild)
  ends_so m ended entries Finished f = inl (sym (one_end m f.0 Finished entries ended (λ (e : _). let no : ⊥ = cc in no) f.1) ∙ f.1)
  ends_so m ended entries (Ended (Panicked cause message)) f = inl (sym (one_end m f.0 (Ended (Panicked cause message)) entries ended (λ (e : _). let no : ⊥ = cc in no) f.1) ∙ f.1)
  ends_so m ended entries (Ended WantsReply) f = inl (sym (one_end m f.0 (Ended WantsReply) entries ended (λ (e : _). let no : ⊥ = cc in no) f.1) ∙ f.1)
  ends_so m ended entries (Ended (Trapped code)) f = inl (sym (one_end m f.0 (Ended (Trapped code)) entries ended (λ (e : _). let no : ⊥ = cc in no) f.1) ∙ f.1)
  ends_so m ended entries (Ended Running) f = absurd (ended ((runs_too m entries f).0 m (omega arith)))
  ends_so m ended entries (Ended Wild) f = inr refl

  only_such_ends : (source : ℕ → Session) → ((n : ℕ) → SessionFollows target n (source n).entries (source n).end) → OnlySuchEnds source target
  only_such_ends source follows = record {
    ends = λ m ended. (m, ⊎_elim (λ e. inl (sym e)) (λ wild. inr wild) (ends_so m ended (source m).entries (source m).end (follows m)));
    never_ends = λ running m. ((same_sessions source follows).runs_on m (running m)).0 m (omega arith);
  }

-- The lifting: agreement of single calls from related states gives agreement of sessions from related starts.
pub agrees_by_calls : {Source Target : Type 0} (Related : Source → Target → Type 0) (source : Machine Source) (target : Machine Target) → AgreesOnCalls Related source target → StaysEnded target → (source_start : Source) (target_start : Target) → Related source_start target_start → Agrees source source_start target target_start
agrees_by_calls Related source target agrees law source_start target_start related = record {
  fits = agrees.fits;
  sessions = λ calls fit replies.
      same_sessions (session target calls target_start replies) (λ n k. session_lasts target law calls target_start replies n k) (session source calls source_start replies) (λ n. session_follows Related source target agrees calls fit source_start target_start replies n related);
}

-- And the other way round.
pub ends_by_calls : {Source Target : Type 0} (Related : Source → Target → Type 0) (source : Machine Source) (target : Machine Target) → AgreesOnCalls Related source target → StaysEnded target → (source_start : Source) (target_start : Target) → Related source_start target_start → (calls : List Call) → AllFit source calls → (replies : List ℕ) → OnlySuchEnds (session source calls source_start replies) (session target calls target_start replies)
ends_by_calls Related source target agrees law source_start target_start related calls fit replies =
    only_such_ends (session target calls target_start replies) (λ n k. session_lasts target law calls target_start replies n k) (session source calls source_start replies) (λ n. session_follows Related source target agrees calls fit source_start target_start replies n related)
