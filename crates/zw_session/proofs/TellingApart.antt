-- Two machines that differ don't agree, and each agrees with itself.
use Rattle.std.proofs.Common.{◌≡◌, ◌≢◌, ◌⊎◌, inl, inr, ℕ, pos, negsuc, true, List, [], ◌∷◌, Some, None, refl, ap, ◌∙◌, zero-le}
use Rattle.zw_session.proofs.Prefixes.{prefix_same}
use Rattle.zw_session.specs.Agrees.{IsOver}
use Rattle.zw_session.specs.Apart.{Agree, TellsApart, answers, eight, gives, gives_next_reply, gives_reply, halts, one, says, two}
use Rattle.zw_session.specs.Causes.{integer_overflow, message_cause}
use Rattle.zw_session.specs.Lists.{IsPrefix}
use Rattle.zw_session.specs.Sessions.{Call, Ended, Entry, Host, HostEvent, Number, Outcome, Panicked, Running, Session, Trapped, Truth, WantsReply, Wild, session}

one_call : Call
one_call = record { name = []; args = [] }

abbrev one_session : (List ℕ → Outcome (Unit {0})) → List ℕ → ℕ → Session
one_session by_replies replies bound = session (answers by_replies) (one_call ∷ []) tt replies bound

-- the host call that an entry is, or none
abbrev event_of : List Entry → HostEvent
event_of (Host e ∷ es) = e
event_of es = record { name = []; args = []; shown = [] }

-- sessions don't depend on the bound
same_session : (f : List ℕ → Outcome (Unit {0})) (calls : List Call) (replies : List ℕ) (m n : ℕ) → session (answers f) calls tt replies m ≡ session (answers f) calls tt replies n
same_session f [] replies m n = refl
same_session f (call ∷ calls) replies m n = refl

agrees_with_itself : (f : List ℕ → Outcome (Unit {0})) → Agree f f
agrees_with_itself f = record {
  fits = λ call fit. fit;
  sessions = λ calls all_fit replies. record {
    ends = λ n over. (n, refl);
    runs_on = λ n runs. (λ k le. ap (λ (s : Session). s.end) (same_session f calls replies k n) ∙ runs, (n, prefix_same _));
    shows_only = λ m. (m, inl (prefix_same _));
    until_wild = λ n wild. (n, prefix_same _);
  };
}

-- a session that is over isn't the other's
differ : (f g : List ℕ → Outcome (Unit {0})) (replies : List ℕ) → IsOver (one_session f replies 0).end → ((m : ℕ) → one_session g replies m ≢ one_session f replies 0) → ¬ Agree f g
differ f g replies over other a =
    let e = (a.sessions (one_call ∷ []) (refl, tt) replies).ends 0 over in
    other e.0 e.1

-- a session that runs on and shows nothing has no other that shows something
nothing_shown : (h : (n : ℕ) × (IsPrefix (one_session (halts (says one eight [] ∷ []) Running) [] 0).entries (one_session (halts [] Running) [] n).entries ⊎ ((one_session (halts [] Running) [] n).end ≡ Ended Wild))) → ⊥
nothing_shown h = elim (h.1) [
  | inl p ↦ let e = p.is in cc
  | inr wild ↦ cc
]

pub tells_apart : TellsApart
tells_apart = record {
  same = agrees_with_itself;
  missing = differ (gives (says one eight [] ∷ []) None) (gives [] None) [] tt (λ m e. let h = ap (λ (s : Session). s.entries) e in cc);
  one_more = differ (gives [] None) (gives (says one eight [] ∷ []) None) [] tt (λ m e. let h = ap (λ (s : Session). s.entries) e in cc);
  order = differ (gives (says one eight [] ∷ says two eight [] ∷ []) None) (gives (says two eight [] ∷ says one eight [] ∷ []) None) [] tt (λ m e. let h = ap (λ (s : Session). (event_of s.entries).name) e in cc);
  name = differ (gives (says one eight [] ∷ []) None) (gives (says two eight [] ∷ []) None) [] tt (λ m e. let h = ap (λ (s : Session). (event_of s.entries).name) e in cc);
  argument = differ (gives (says one eight [] ∷ []) None) (gives (says one (Number (pos 9)) [] ∷ []) None) [] tt (λ m e. let h = ap (λ (s : Session). (event_of s.entries).args) e in cc);
  bytes = differ (gives (says one eight one ∷ []) None) (gives (says one eight two ∷ []) None) [] tt (λ m e. let h = ap (λ (s : Session). (event_of s.entries).shown) e in cc);
  result = differ (gives [] (Some eight)) (gives [] (Some (Number (negsuc 7)))) [] tt (λ m e. let h = ap (λ (s : Session). s.entries) e in cc);
  no_result = differ (gives [] (Some eight)) (gives [] None) [] tt (λ m e. let h = ap (λ (s : Session). s.entries) e in cc);
  bit_above = differ (gives [] (Some eight)) (gives [] (Some (Number (pos 264)))) [] tt (λ m e. let h = ap (λ (s : Session). s.entries) e in cc);
  no_truth = differ (gives [] (Some (Truth true))) (gives [] (Some (Number (pos 2)))) [] tt (λ m e. let h = ap (λ (s : Session). s.entries) e in cc);
  reply = differ gives_reply gives_next_reply (7 ∷ 9 ∷ []) tt (λ m e. let h = ap (λ (s : Session). s.entries) e in cc);
  cause = differ (halts [] (Panicked integer_overflow [])) (halts [] (Panicked message_cause [])) [] tt (λ m e. let h = ap (λ (s : Session). s.end) e in cc);
  message = differ (halts [] (Panicked message_cause one)) (halts [] (Panicked message_cause two)) [] tt (λ m e. let h = ap (λ (s : Session). s.end) e in cc);
  panic = differ (gives [] None) (halts [] (Panicked integer_overflow [])) [] tt (λ m e. let h = ap (λ (s : Session). s.end) e in cc);
  trap = differ (halts [] (Panicked integer_overflow [])) (halts [] (Trapped 1)) [] tt (λ m e. let h = ap (λ (s : Session). s.end) e in cc);
  no_reply = differ (halts [] WantsReply) (gives [] None) [] tt (λ m e. let h = ap (λ (s : Session). s.end) e in cc);
  goes_on = differ (gives [] None) (halts [] Running) [] tt (λ m e. let h = ap (λ (s : Session). s.end) e in cc);
  ends = λ a. let e = ((a.sessions (one_call ∷ []) (refl, tt) []).runs_on 0 refl).0 0 zero-le in cc;
  shows = λ a. let p = (((a.sessions (one_call ∷ []) (refl, tt) []).runs_on 0 refl).1).1 in let e = p.is in cc;
  shows_more = λ a. nothing_shown ((a.sessions (one_call ∷ []) (refl, tt) []).shows_only 0);
}
