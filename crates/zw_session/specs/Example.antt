-- Machines whose calls only take time. They show that the premises of the laws can be met.
use Rattle.std.specs.Prelude.{◌≡◌, ℕ, ◌+◌, ◌-◌, ◌≤◌, Bool, true, false, nat_lt, List, [], None, refl}
use Rattle.std.proofs.Common.{ap, ◌∙◌, arith}
use Rattle.std.proofs.lemmas.Bool.{ltb-true, ltb-false, lt-ltb, le-ltb}
use Rattle.zw_session.specs.Sessions.{Running, Returned, Halted, Outcome, Machine}
use Rattle.zw_session.specs.Agrees.{CallAgrees, AgreesOnCalls}
use Rattle.zw_session.specs.Bounds.{Lasts, LeavesWithin, StaysEnded}

-- a call still runs, or returns nothing
abbrev pub idle_outcome : (runs : Bool) → List ℕ → ℕ → Outcome (Unit {0})
idle_outcome true replies left = record { events = []; end = Halted Running }
idle_outcome false replies left = record { events = []; end = Returned None tt replies left }

-- each call takes this many steps
abbrev pub idle : ℕ → Machine (Unit {0})
idle steps = record {
  fits = λ call. true;
  call = λ state call replies n. idle_outcome (nat_lt n steps) replies (n - steps);
}

-- under a larger bound, for what the two tests say
idle_lasts : (steps n k : ℕ) (replies : List ℕ) (now later : Bool) → nat_lt n steps ≡ now → nat_lt (n + k) steps ≡ later → Lasts k (idle_outcome now replies (n - steps)).events (idle_outcome now replies (n - steps)).end (idle_outcome later replies (n + k - steps))
idle_lasts steps n k replies true later e f = record { rest = (idle_outcome later replies (n + k - steps)).events; is = refl }
idle_lasts steps n k replies false true e f = absurd (omega (arith, ltb-false n steps e, ltb-true (n + k) steps f))
idle_lasts steps n k replies false false e f =
    let left : n + k - steps ≡ n - steps + k = omega (arith, ltb-false n steps e) in
    ap (λ m. idle_outcome false replies m) left

-- no more is left than there was
idle_left : (steps n : ℕ) (replies : List ℕ) (now : Bool) → LeavesWithin n (idle_outcome now replies (n - steps)).end
idle_left steps n replies true = tt
idle_left steps n replies false = omega arith

-- the law of machines
pub idle_stays_ended : (steps : ℕ) → StaysEnded (idle steps)
idle_stays_ended steps = record {
  lasts = λ state call replies n k. idle_lasts steps n k replies (nat_lt n steps) (nat_lt (n + k) steps) refl refl;
  left = λ state call replies n. idle_left steps n replies (nat_lt n steps);
}

-- the one state stands for the one state
abbrev pub always : Unit {0} → Unit {0} → Type 0
always state other = Unit {0}

-- one call, for what the source's test says
idle_agrees_at : (turns steps : ℕ) → turns ≤ steps → (replies : List ℕ) (n : ℕ) (now : Bool) → nat_lt n turns ≡ now → CallAgrees always (λ m. idle_outcome (nat_lt m steps) replies (m - steps)) n (idle_outcome now replies (n - turns)).events (idle_outcome now replies (n - turns)).end
idle_agrees_at turns steps le replies n true e =
    (n, omega arith, ap (λ runs. idle_outcome runs replies (n - steps)) (lt-ltb n steps (omega (arith, ltb-true n turns e))))
idle_agrees_at turns steps le replies n false e = record {
  next = tt;
  related = tt;
  used = steps;
  turns = omega arith;
  returns = λ k.
      let left : steps + k - steps ≡ k = omega arith in
      ap (λ runs. idle_outcome runs replies (steps + k - steps)) (le-ltb (steps + k) steps (omega arith)) ∙ ap (λ m. idle_outcome false replies m) left;
}

-- a machine agrees with one whose calls take no less time
pub idle_agrees : (turns steps : ℕ) → turns ≤ steps → AgreesOnCalls always (idle turns) (idle steps)
idle_agrees turns steps le = record {
  fits = λ call fit. fit;
  calls = λ state other related call fit replies n. idle_agrees_at turns steps le replies n (nat_lt n turns) refl;
}
