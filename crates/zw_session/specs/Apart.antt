-- Machines that are told apart: agreement doesn't hold of two that differ in a host call, an answer to a reply, a result, a
-- panic, or in that one goes on.
use Rattle.std.specs.Prelude.{ℕ, pos, negsuc, true, List, [], ◌∷◌, Option, Some, None}
use Rattle.zw_session.specs.Agrees.{Agrees}
use Rattle.zw_session.specs.Causes.{integer_overflow, message_cause}
use Rattle.zw_session.specs.Sessions.{Scalar, Number, Truth, HostEvent, Halt, Panicked, WantsReply, Running, Trapped, Returned, Halted, Outcome, Machine}

-- the machine of which each call comes out so, under any bound, with these replies
abbrev pub answers : (List ℕ → Outcome (Unit {0})) → Machine (Unit {0})
answers by_replies = record { fits = λ call. true; call = λ state call replies bound. by_replies replies }

-- the first answers what the second does
abbrev pub Agree : (List ℕ → Outcome (Unit {0})) → (List ℕ → Outcome (Unit {0})) → Type 0
Agree source target = Agrees (answers source) tt (answers target) tt

-- calls that return this value, after these host calls; and calls that halt so
abbrev pub gives : List HostEvent → Option Scalar → List ℕ → Outcome (Unit {0})
gives events value replies = record { events = events; end = Returned value tt replies 0 }

abbrev pub halts : List HostEvent → Halt → List ℕ → Outcome (Unit {0})
halts events h replies = record { events = events; end = Halted h }

-- a host call that shows a value and some bytes
abbrev pub says : List ℕ → Scalar → List ℕ → HostEvent
says name value bytes = record { name = name; args = value ∷ []; shown = bytes ∷ [] }

-- a call that gives the first reply, and one that gives the second
abbrev pub gives_reply : List ℕ → Outcome (Unit {0})
gives_reply [] = halts [] WantsReply []
gives_reply (r ∷ rs) = gives [] (Some (Number (pos r))) rs

abbrev pub gives_next_reply : List ℕ → Outcome (Unit {0})
gives_next_reply [] = halts [] WantsReply []
gives_next_reply (r ∷ []) = halts [] WantsReply []
gives_next_reply (r ∷ s ∷ rs) = gives [] (Some (Number (pos s))) rs

-- two names, or the bytes of two messages
abbrev pub one : List ℕ
one = 1 ∷ []

abbrev pub two : List ℕ
two = 2 ∷ []

abbrev pub eight : Scalar
eight = Number (pos 8)

pub record TellsApart : Type 0 where
  -- each agrees with itself
  pub same : (by_replies : List ℕ → Outcome (Unit {0})) → Agree by_replies by_replies
  -- a host call is missing, is one more, or stands elsewhere; it has another name, another value, or other bytes
  pub missing : ¬ Agree (gives (says one eight [] ∷ []) None) (gives [] None)
  pub one_more : ¬ Agree (gives [] None) (gives (says one eight [] ∷ []) None)
  pub order : ¬ Agree (gives (says one eight [] ∷ says two eight [] ∷ []) None) (gives (says two eight [] ∷ says one eight [] ∷ []) None)
  pub name : ¬ Agree (gives (says one eight [] ∷ []) None) (gives (says two eight [] ∷ []) None)
  pub argument : ¬ Agree (gives (says one eight [] ∷ []) None) (gives (says one (Number (pos 9)) [] ∷ []) None)
  pub bytes : ¬ Agree (gives (says one eight one ∷ []) None) (gives (says one eight two ∷ []) None)
  -- another result, or none; a number that has a bit above those of the value's type; and one that is no truth value
  pub result : ¬ Agree (gives [] (Some eight)) (gives [] (Some (Number (negsuc 7))))
  pub no_result : ¬ Agree (gives [] (Some eight)) (gives [] None)
  pub bit_above : ¬ Agree (gives [] (Some eight)) (gives [] (Some (Number (pos 264))))
  pub no_truth : ¬ Agree (gives [] (Some (Truth true))) (gives [] (Some (Number (pos 2))))
  -- another reply is answered
  pub reply : ¬ Agree gives_reply gives_next_reply
  -- another cause or message; a panic in place of a result, and a trap that is no panic
  pub cause : ¬ Agree (halts [] (Panicked integer_overflow [])) (halts [] (Panicked message_cause []))
  pub message : ¬ Agree (halts [] (Panicked message_cause one)) (halts [] (Panicked message_cause two))
  pub panic : ¬ Agree (gives [] None) (halts [] (Panicked integer_overflow []))
  pub trap : ¬ Agree (halts [] (Panicked integer_overflow [])) (halts [] (Trapped 1))
  pub no_reply : ¬ Agree (halts [] WantsReply) (gives [] None)
  -- one goes on and the other doesn't
  pub goes_on : ¬ Agree (gives [] None) (halts [] Running)
  pub ends : ¬ Agree (halts [] Running) (gives [] None)
  -- one that goes on shows another host call
  pub shows : ¬ Agree (halts (says one eight [] ∷ []) Running) (halts [] Running)
  pub shows_more : ¬ Agree (halts [] Running) (halts (says one eight [] ∷ []) Running)
