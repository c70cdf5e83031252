-- By the lemmas on both walks.
use Rattle.std.proofs.Common.{◌≡◌, ◌≢◌, refl, ℕ, Bool, true, false, nat_eq, ap, sym, subst}
use Rattle.std.specs.Prelude.{if◌then◌else◌}
use Rattle.std.proofs.lemmas.Bool.{eqb-true}
use Rattle.zw_num.specs.Arithmetic.{power}
use Rattle.zw_values.specs.Sameness.{is_same}
use Rattle.zw_env.specs.Children.{tree_at, members, is_among}
use Rattle.zw_sema.specs.WorkedUnreached.{wrong, unknown}
use Rattle.zw_session.specs.Sessions.{session}
use Rattle.zw_typed.specs.Exports.{exports_machine}
use Rattle.zw_sema.specs.Files.{Analysis, exports_in}
use Rattle.zw_sema.proofs.SameNumbers.{file-follows}
use Rattle.zw_sema.proofs.laws.unreached_declarations_are_free.Goals as goal

pub returns-clause-analyses : goal.returns-clause-analyses
returns-clause-analyses c = λ forest other n bound alike enough missed. file-follows forest other n bound alike enough missed

pub returns-clause-sessions : goal.returns-clause-sessions
returns-clause-sessions c = λ forest other n bound calls replies alike enough missed.
    ap (λ (analysis : Analysis). session (exports_machine (exports_in analysis)) calls tt replies 0) (file-follows forest other n bound alike enough missed)

-- the one other member is the export
others : (m : ℕ) → is_among (members wrong) m ≡ true → m ≢ 8 → tree_at unknown m ≡ tree_at wrong m
others m there apart = by_first (nat_eq 1 m) (nat_eq 8 m) refl refl there
  where
    by_first : (first second : Bool) → nat_eq 1 m ≡ first → nat_eq 8 m ≡ second → (if first then true else (if second then true else false)) ≡ true → tree_at unknown m ≡ tree_at wrong m
    by_first true second e d is = subst (λ (k : ℕ). tree_at unknown k ≡ tree_at wrong k) (eqb-true 1 m e) refl
    by_first false true e d is = absurd (apart (sym (eqb-true 8 m d)))
    by_first false false e d is = cc

pub returns-clause-worked : goal.returns-clause-worked
unfolding power is_same
returns-clause-worked c = record {
  another = record { numbers = refl; others = others; name = refl; declares = refl; declares_too = refl; waits = refl; waits_too = refl };
  not_reached = refl;
  reached = refl;
}
