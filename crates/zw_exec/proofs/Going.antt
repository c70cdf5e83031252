-- Going: a session under way, whose lines so far an output has taken.
use Rattle.std.proofs.Common.{◌≡◌, ℕ, zero, suc, ◌+◌, ◌<◌, List, [], ◌∷◌, ◌++◌, Option, Err, Ok, length, get_or, take, drop, refl, sym, ap, ◌∙◌, append_assoc, append-nil, add-one, arith, subst, inl, inr}
use Rattle.std.proofs.Math.Seq.{drop-cons, take-append-add}
use Rattle.std.proofs.lemmas.Bool.{cases_lt}
use Rattle.std.proofs.lemmas.List.{take-append-le, take_all}
use Rattle.std.specs.Io.KnownBytes.{Appends}
use Rattle.std.specs.List.{AllByRecursion}
use Rattle.zw_base.specs.Outside.{AppendsFront}
use Rattle.zw_base.specs.declared.outside.PutErr.{PutErr}
use Rattle.zw_exec.specs.Ends.{end_of, session_end}
use Rattle.zw_exec.specs.Sessions.{Told, Writes, behind, going_on, left_by, lines_of, run_of, session}
use Rattle.zw_exec.specs.declared.call.SessionCall.{SessionCall}
use Rattle.zw_exec.specs.declared.end.SessionEnd.{SessionEnd}
use Rattle.zw_exec.specs.declared.end.SessionEnd.TheVariants as variant
use Rattle.zw_exec.proofs.Texts.{appends_both, appends_nothing}
use Rattle.zw_wasm.specs.declared.module.Module.{Module}
use Rattle.zw_wasm_run.specs.Calls.{State}

-- what holds of each holds of the one at a place
pub all_at : {X : Type 0} (P : X → Type 0) (xs : List X) → AllByRecursion P xs → (i : ℕ) → i < length xs → (x : X) → x ≡ get_or xs i x → P x
all_at P [] all i h x e = absurd (omega arith)
all_at P (y ∷ ys) all zero h x e = subst P (sym e) all.0
all_at P (y ∷ ys) all (suc i) h x e = all_at P ys all.1 i (omega arith) x e

-- the calls that are left begin with the one that is due
pub due_first : {X : Type 0} (xs : List X) (i : ℕ) (x : X) → i < length xs → x ≡ get_or xs i x → drop i xs ≡ x ∷ drop (i + 1) xs
due_first xs i x h e = drop-cons xs i x h ∙ ap (λ y. y ∷ drop (suc i) xs) (sym e) ∙ ap (λ k. x ∷ drop k xs) (sym (add-one i))

abbrev told_with : List ℕ → SessionEnd → Told
told_with l end = record { text = l; end = end }

behind-behind : (a b : List ℕ) (t : Told) → behind a (behind b t) ≡ behind (a ++ b) t
behind-behind a b t = ap (λ (l : List ℕ). told_with l t.end) (sym (append_assoc a b t.text))

-- a front of lines behind a text is a front of both and what follows
front-behind : (a lines rest : List ℕ) (n : ℕ) → (k : ℕ) × (a ++ take n lines ≡ take k (a ++ (lines ++ rest)))
front-behind a lines rest n = elim (cases_lt n (length lines)) [
  | inl within ↦ (length a + n, ap (λ l. a ++ l) (sym (take-append-le n lines rest (omega arith))) ∙ sym (take-append-add a (lines ++ rest) n))
  | inr past ↦ (length a + length lines, ap (λ l. a ++ l) (take_all n lines past ∙ sym (take_all (length lines) lines (omega arith)) ∙ sym (take-append-le (length lines) lines rest (omega arith))) ∙ sym (take-append-add a (lines ++ rest) (length lines)))
]

-- a session under way: these calls are left, and the output has taken the lines of the others
pub record IsUnder (m : Module) (calls : List SessionCall) (first : State) (left : List SessionCall) (now : State) (old new : Option (List ℕ)) : Type 0 where
  pub text : List ℕ
  pub writes : Appends old new text
  pub told : session m calls first ≡ behind text (session m left now)

pub under_first : (m : Module) (calls : List SessionCall) (s : State) (known : Option (List ℕ)) → IsUnder m calls s calls s known known
unfolding session
under_first m calls s known = record { text = []; writes = appends_nothing known; told = refl }

-- a call returned, and its lines were taken
pub under_more : (m : Module) (calls : List SessionCall) (first : State) (c : SessionCall) (cs : List SessionCall) (now next : State) (old mid new : Option (List ℕ)) (end : SessionEnd)
    → IsUnder m calls first (c ∷ cs) now old mid → Appends mid new (lines_of m c (run_of m c now)) → end ≡ session_end (end_of m (run_of m c now)) → end ≡ variant.Done → next ≡ left_by (run_of m c now)
    → IsUnder m calls first cs next old new
unfolding session
under_more m calls first c cs now next old mid new end u w ends done left = record {
  text = u.text ++ lines_of m c (run_of m c now);
  writes = appends_both old mid new u.text (lines_of m c (run_of m c now)) u.writes w;
  told =
      u.told
      ∙ ap (λ e. behind u.text (behind (lines_of m c (run_of m c now)) (going_on e (session m cs (left_by (run_of m c now)))))) (sym ends ∙ done)
      ∙ behind-behind u.text (lines_of m c (run_of m c now)) (session m cs (left_by (run_of m c now)))
      ∙ ap (λ s. behind (u.text ++ lines_of m c (run_of m c now)) (session m cs s)) (sym left);
}

stops : (end : SessionEnd) (rest : Told) → (end ≡ variant.Done → ⊥) → going_on end rest ≡ record { text = []; end = end }
stops variant.Done rest h = absurd (h refl)
stops variant.Panicked rest h = refl
stops variant.StepsOut rest h = refl
stops variant.WantsReply rest h = refl
stops variant.Trapped rest h = refl

-- a call ended otherwise, and its lines were taken
pub under_ended : (m : Module) (calls : List SessionCall) (first : State) (c : SessionCall) (cs : List SessionCall) (now : State) (old mid new : Option (List ℕ)) (end : SessionEnd)
    → IsUnder m calls first (c ∷ cs) now old mid → Appends mid new (lines_of m c (run_of m c now)) → end ≡ session_end (end_of m (run_of m c now)) → (end ≡ variant.Done → ⊥)
    → Writes (session m calls first) old new (Ok end)
unfolding session
under_ended m calls first c cs now old mid new end u w ends other =
    let lines : List ℕ = lines_of m c (run_of m c now) in
    let is : session m calls first ≡ behind u.text (behind lines (record { text = []; end = end })) =
    u.told
    ∙ ap (λ e. behind u.text (behind lines (going_on e (session m cs (left_by (run_of m c now)))))) (sym ends)
    ∙ ap (λ t. behind u.text (behind lines t)) (stops end (session m cs (left_by (run_of m c now))) other) in
    subst (λ (t : Told). Writes t old new (Ok end)) (sym is)
    (subst (λ (l : List ℕ). Appends old new (u.text ++ l)) (sym (append-nil lines)) (appends_both old mid new u.text lines u.writes w), refl)

-- all calls returned
pub under_done : (m : Module) (calls : List SessionCall) (first now : State) (old new : Option (List ℕ)) → IsUnder m calls first [] now old new → Writes (session m calls first) old new (Ok variant.Done)
unfolding session
under_done m calls first now old new u =
    subst (λ (t : Told). Writes t old new (Ok variant.Done)) (sym u.told) (subst (λ (l : List ℕ). Appends old new l) (sym (append-nil u.text)) u.writes, refl)

-- a front of a call's lines was taken
pub under_cut : (m : Module) (calls : List SessionCall) (first : State) (c : SessionCall) (cs : List SessionCall) (now : State) (old mid new : Option (List ℕ)) (e : PutErr)
    → IsUnder m calls first (c ∷ cs) now old mid → AppendsFront mid new (lines_of m c (run_of m c now)) → Writes (session m calls first) old new (Err e)
unfolding session
under_cut m calls first c cs now old mid new e u w =
    let lines : List ℕ = lines_of m c (run_of m c now) in
    let rest : Told = going_on (session_end (end_of m (run_of m c now))) (session m cs (left_by (run_of m c now))) in
    let front = front-behind u.text lines rest.text w.0 in
    subst (λ (t : Told). Writes t old new (Err e)) (sym u.told)
    (front.0, subst (λ (l : List ℕ). Appends old new l) front.1 (appends_both old mid new u.text (take w.0 lines) u.writes w.1))
