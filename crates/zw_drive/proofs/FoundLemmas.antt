-- The loop over the calls of a session.
use Rattle.std.proofs.Common.{◌≡◌, ℕ, zero, suc, ◌+◌, ◌<◌, ◌≤◌, Bool, true, false, ◌&&◌, List, [], ◌∷◌, ◌++◌, length, map, drop, get_or, drop-cons, add-one, Ok, Err, refl, sym, subst, arith}
use Rattle.std.specs.List.{list_all}
use Rattle.zw_calls.specs.Requests.{call_of, is_call}
use Rattle.zw_calls.specs.declared.request.CallWords.{CallWords}
use Rattle.zw_drive.specs.Exec.{AreCalls, IsCall}
use Rattle.zw_drive.specs.ExecEnds.{CallEnds, CallsAreFound}
use Rattle.zw_drive.specs.declared.exec.ExecErr.{ExecErr}
use Rattle.zw_drive.specs.declared.exec.ExecErr.TheVariants as exec
use Rattle.zw_exec.specs.declared.call.SessionCall.{SessionCall}
use Rattle.zw_wasm.specs.declared.module.Module.{Module}
use Rattle.zw_drive.proofs.PrepareLemmas.{Found, found_all, found_denied, found_more}

both-left : (a b : Bool) → (a && b) ≡ true → a ≡ true
both-left true b e = refl
both-left false b e = cc

both-right : (a b : Bool) → (a && b) ≡ true → b ≡ true
both-right true b e = e
both-right false b e = cc

pub call_at : (all : List CallWords) (i : ℕ) (d : CallWords) → i < length all → list_all is_call (map call_of all) ≡ true → is_call (call_of (get_or all i d)) ≡ true
call_at [] i d lt e = absurd (omega arith)
call_at (x ∷ xs) zero d lt e = both-left (is_call (call_of x)) (list_all is_call (map call_of xs)) e
call_at (x ∷ xs) (suc i) d lt e = call_at xs i d (omega arith) (both-right (is_call (call_of x)) (list_all is_call (map call_of xs)) e)

drop_past : (xs : List CallWords) (i : ℕ) → length xs ≤ i → drop i xs ≡ []
drop_past [] zero h = refl
drop_past [] (suc i) h = refl
drop_past (x ∷ xs) zero h = absurd (omega arith)
drop_past (x ∷ xs) (suc i) h = drop_past xs i (omega arith)

module _ (m : Module) (all : List CallWords) (i : ℕ) (found : List SessionCall) (f : Found m (map call_of all) (map call_of (drop i all)) found) where
  abbrev at_next : CallWords → Type 0
  at_next d = Found m (map call_of all) (call_of (get_or all i d) ∷ map call_of (drop (suc i) all)) found

  next : (d : CallWords) → i < length all → at_next d
  next d lt = subst (λ (l : List CallWords). Found m (map call_of all) (map call_of l) found) (drop-cons all i d lt) f

  pub found_step : (d : CallWords) (c : SessionCall) → i < length all → IsCall m (call_of (get_or all i d)) c → Found m (map call_of all) (map call_of (drop (i + 1) all)) (found ++ c ∷ [])
  found_step d c lt is =
      subst (λ (k : ℕ). Found m (map call_of all) (map call_of (drop k all)) (found ++ c ∷ [])) (sym (add-one i))
      (found_more m (map call_of all) (call_of (get_or all i d)) (map call_of (drop (suc i) all)) found c is (next d lt))

  pub found_failed : (d : CallWords) (e : ExecErr) → i < length all → CallEnds m (call_of (get_or all i d)) (Err e) → CallsAreFound m (map call_of all) (Err e)
  found_failed d (exec.Denied denied) lt h = found_denied m (map call_of all) (call_of (get_or all i d)) (map call_of (drop (suc i) all)) found denied h (next d lt)
  found_failed d exec.TreeFault lt h = h
  found_failed d exec.InputFault lt h = h
  found_failed d exec.OutFault lt h = h
  found_failed d exec.Oom lt h = tt

  pub found_end : length all ≤ i → AreCalls m (map call_of all) (Ok found)
  found_end le =
      found_all m (map call_of all) found (subst (λ (l : List CallWords). Found m (map call_of all) (map call_of l) found) (drop_past all i le) f)

-- ---- by the element that stands there

pub call_item : (all : List CallWords) (i : ℕ) (x : CallWords) → x ≡ get_or all i x → i < length all → list_all is_call (map call_of all) ≡ true → is_call (call_of x) ≡ true
call_item all i x is lt e = subst (λ (y : CallWords). is_call (call_of y) ≡ true) (sym is) (call_at all i x lt e)

module _ (m : Module) (all : List CallWords) (i : ℕ) (found : List SessionCall) (f : Found m (map call_of all) (map call_of (drop i all)) found) (x : CallWords) (is : x ≡ get_or all i x) (lt : i < length all) where
  pub step_item : (c : SessionCall) → IsCall m (call_of x) c → Found m (map call_of all) (map call_of (drop (i + 1) all)) (found ++ c ∷ [])
  step_item c h = found_step m all i found f x c lt (subst (λ (y : CallWords). IsCall m (call_of y) c) is h)

  pub failed_item : (e : ExecErr) → CallEnds m (call_of x) (Err e) → CallsAreFound m (map call_of all) (Err e)
  failed_item e h = found_failed m all i found f x e lt (subst (λ (y : CallWords). CallEnds m (call_of y) (Err e)) is h)
