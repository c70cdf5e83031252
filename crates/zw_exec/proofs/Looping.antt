-- Looping: a session under way, by what its loop has of a call.
use Rattle.std.proofs.Common.{◌≡◌, ℕ, ◌+◌, ◌<◌, ◌≤◌, List, ◌∷◌, Option, length, get_or, drop, sym, ap, ◌∙◌, subst}
use Rattle.std.proofs.lemmas.List.{drop_all}
use Rattle.std.specs.Prelude.{Result, Ok, Err}
use Rattle.std.specs.Io.KnownBytes.{Appends}
use Rattle.std.specs.List.{AllByRecursion}
use Rattle.zw_base.specs.Faults.{Counts}
use Rattle.zw_base.specs.Outside.{AppendsFront, failed}
use Rattle.zw_base.specs.declared.outside.PutErr.{PutErr}
use Rattle.zw_base.specs.declared.outside.PutErr.TheVariants as put
use Rattle.zw_exec.specs.Ends.{end_of, session_end}
use Rattle.zw_exec.specs.Runs.{CallTold, state_of}
use Rattle.zw_exec.specs.Sessions.{IsCallOf, Writes, left_by, lines_of, run_of, session}
use Rattle.zw_exec.specs.declared.call.SessionCall.{SessionCall}
use Rattle.zw_exec.specs.declared.end.SessionEnd.{SessionEnd}
use Rattle.zw_exec.specs.declared.end.SessionEnd.TheVariants.{Done}
use Rattle.zw_exec.specs.declared.told.CallLines.{CallLines}
use Rattle.zw_exec.proofs.Going.{IsUnder, all_at, due_first, under_cut, under_done, under_ended, under_more}
use Rattle.zw_exec.proofs.Texts.{front_nothing}
use Rattle.zw_wasm.specs.declared.module.Module.{Module}
use Rattle.zw_wasm_run.specs.Calls.{State}
use Rattle.zw_wasm_run.specs.declared.held.Machine.{Machine}

-- the call that is due is one of the module's
pub due_is : (m n : Module) (calls : List SessionCall) (i : ℕ) (x : SessionCall) → n ≡ m → AllByRecursion (IsCallOf m) calls → i < length calls → x ≡ get_or calls i x → IsCallOf n x
due_is m n calls i x same all h e = subst (λ (k : Module). IsCallOf k x) (sym same) (all_at (IsCallOf m) calls all i h x e)

-- the session before a call that is due
pub record IsDue (m : Module) (calls : List SessionCall) (first : State) (i : ℕ) (x : SessionCall) (old : Machine) (now : State) (before mid : Option (List ℕ)) : Type 0 where
  pub under : IsUnder m calls first (drop i calls) now before mid
  pub inside : i < length calls
  pub item : x ≡ get_or calls i x
  pub code : old.code ≡ m

under_due : (m : Module) (calls : List SessionCall) (first : State) (i : ℕ) (x : SessionCall) (old : Machine) (now : State) (before mid : Option (List ℕ)) → IsDue m calls first i x old now before mid → IsUnder m calls first (x ∷ drop (i + 1) calls) now before mid
under_due m calls first i x old now before mid d = subst (λ (left : List SessionCall). IsUnder m calls first left now before mid) (due_first calls i x d.inside d.item) d.under

-- the call returned, and its lines were taken
pub due_more : (m : Module) (calls : List SessionCall) (first : State) (i : ℕ) (x : SessionCall) (old : Machine) (now : State) (before mid after : Option (List ℕ)) (told : CallLines) (new : Machine) (replies : List ℕ) (steps : ℕ) (bytes : List ℕ)
    → IsDue m calls first i x old now before mid → CallTold old x now told new replies steps → bytes ≡ told.text.items → Appends mid after bytes → told.end ≡ Done → IsUnder m calls first (drop (i + 1) calls) (state_of new replies steps) before after
due_more m calls first i x old now before mid after told new replies steps bytes d t is taken done =
    under_more m calls first x (drop (i + 1) calls) now (state_of new replies steps) before mid after told.end (under_due m calls first i x old now before mid d)
    (subst (λ (l : List ℕ). Appends mid after l) (is ∙ t.lines ∙ ap (λ (k : Module). lines_of k x (run_of k x now)) d.code) taken)
    (t.ends ∙ ap (λ (k : Module). session_end (end_of k (run_of k x now))) d.code) done
    (t.left ∙ ap (λ (k : Module). left_by (run_of k x now)) d.code)

-- it ended otherwise
pub due_ended : (m : Module) (calls : List SessionCall) (first : State) (i : ℕ) (x : SessionCall) (old : Machine) (now : State) (before mid after : Option (List ℕ)) (told : CallLines) (new : Machine) (replies : List ℕ) (steps : ℕ) (bytes : List ℕ)
    → IsDue m calls first i x old now before mid → CallTold old x now told new replies steps → bytes ≡ told.text.items → Appends mid after bytes → (told.end ≡ Done → ⊥) → Writes (session m calls first) before after (Ok told.end)
due_ended m calls first i x old now before mid after told new replies steps bytes d t is taken other =
    under_ended m calls first x (drop (i + 1) calls) now before mid after told.end (under_due m calls first i x old now before mid d)
    (subst (λ (l : List ℕ). Appends mid after l) (is ∙ t.lines ∙ ap (λ (k : Module). lines_of k x (run_of k x now)) d.code) taken)
    (t.ends ∙ ap (λ (k : Module). session_end (end_of k (run_of k x now))) d.code) other

-- a front of its lines was taken
pub due_cut : (m : Module) (calls : List SessionCall) (first : State) (i : ℕ) (x : SessionCall) (old : Machine) (now : State) (before mid after : Option (List ℕ)) (told : CallLines) (new : Machine) (replies : List ℕ) (steps : ℕ) (bytes : List ℕ) (r : Result SessionEnd PutErr) (e : PutErr)
    → IsDue m calls first i x old now before mid → CallTold old x now told new replies steps → bytes ≡ told.text.items → AppendsFront mid after bytes → r ≡ Err e → Writes (session m calls first) before after r
due_cut m calls first i x old now before mid after told new replies steps bytes r e d t is taken fails =
    subst (λ (q : Result SessionEnd PutErr). Writes (session m calls first) before after q) (sym fails)
    (under_cut m calls first x (drop (i + 1) calls) now before mid after e (under_due m calls first i x old now before mid d)
    (subst (λ (l : List ℕ). AppendsFront mid after l) (is ∙ t.lines ∙ ap (λ (k : Module). lines_of k x (run_of k x now)) d.code) taken))

-- nothing of it was
pub due_untold : (m : Module) (calls : List SessionCall) (first : State) (i : ℕ) (x : SessionCall) (old : Machine) (now : State) (before mid : Option (List ℕ)) (r : Result SessionEnd PutErr) (e : PutErr)
    → IsDue m calls first i x old now before mid → r ≡ Err e → Writes (session m calls first) before mid r
due_untold m calls first i x old now before mid r e d fails =
    subst (λ (q : Result SessionEnd PutErr). Writes (session m calls first) before mid q) (sym fails)
    (under_cut m calls first x (drop (i + 1) calls) now before mid mid e (under_due m calls first i x old now before mid d) (front_nothing mid (lines_of m x (run_of m x now))))

-- all calls returned
pub none_due : (m : Module) (calls : List SessionCall) (first : State) (i : ℕ) (now : State) (before after : Option (List ℕ)) → length calls ≤ i → IsUnder m calls first (drop i calls) now before after → Writes (session m calls first) before after (Ok Done)
none_due m calls first i now before after past u =
    under_done m calls first now before after (subst (λ (left : List SessionCall). IsUnder m calls first left now before after) (drop_all i calls past) u)

-- faults
pub counts_same : (f0 f1 : ℕ) (r : Result SessionEnd PutErr) (e : PutErr) → r ≡ Err e → e ≡ put.Oom → f1 ≡ f0 → Counts f0 f1 (failed r)
counts_same f0 f1 r e is wants h = subst (λ (q : Result SessionEnd PutErr). Counts f0 f1 (failed q)) (sym (is ∙ ap (λ (x : PutErr). Err x) wants)) h

failed_so : (f0 f1 : ℕ) (e : PutErr) → Counts f0 f1 (failed {T = Unit {0}} (Err e)) → Counts f0 f1 (failed {T = SessionEnd} (Err e))
failed_so f0 f1 put.Failed h = h
failed_so f0 f1 put.Oom h = h

pub counts_put : (f0 f1 f2 : ℕ) (r : Result SessionEnd PutErr) (e k : PutErr) → r ≡ Err e → e ≡ k → f1 ≡ f0 → Counts f1 f2 (failed {T = Unit {0}} (Err k)) → Counts f0 f2 (failed r)
counts_put f0 f1 f2 r e k is from same h =
    subst (λ (q : Result SessionEnd PutErr). Counts f0 f2 (failed q)) (sym (is ∙ ap (λ (x : PutErr). Err x) from))
    (failed_so f0 f2 k (subst (λ (n : ℕ). Counts n f2 (failed {T = Unit {0}} (Err k))) same h))
