-- The status blames the object that failed.
use Rattle.std.proofs.Common.{◌≡◌, ◌⊎◌, ℕ, List, [], ◌∷◌, Option, Result, Ok, Err, refl, sym, ◌∙◌, ap, subst, inl, inr, arith, Bool, true, false, lit<}
use Rattle.zw_base.specs.Faults.{Counts}
use Rattle.zw_drive.specs.Due.{IsBlamed}
use Rattle.zw_drive.specs.Ends.{Reports, Says, code_of, tree_failed, out_failed}
use Rattle.zw_drive.specs.Lines.{tree_fault_line, out_fault_line}
use Rattle.zw_drive.specs.declared.build.BuildErr.{BuildErr}
use Rattle.zw_drive.specs.declared.build.BuildErr.TheVariants as build
use Rattle.zw_drive.specs.declared.status.Status.{Status}
use Rattle.zw_drive.specs.declared.status.Status.TheVariants as statuses
use Rattle.zw_report.specs.StopLines.{stop_line}

-- a said line has its own status, or 10 or 11
abbrev pub OneOf : ℕ → ℕ → Type 0
OneOf own status = (status ≡ own) ⊎ (status ≡ 10) ⊎ (status ≡ 11)

pub said_code : (own : Status) (line : List ℕ) (before after : Option (List ℕ)) (status : Status) → Says own line before after status → OneOf (code_of own) (code_of status)
said_code own line before after status says =
    elim says.ends [ inl h ↦ inl (ap code_of h.1) | inr h ↦ elim h.1 [ inl e ↦ inr (inl (ap code_of e.0)) | inr e ↦ inr (inr (ap code_of e)) ] ]

-- an object whose count stayed
pub unblamed : (before now status code : ℕ) → now ≡ before → (status ≡ code → ⊥) → IsBlamed before now status code (10 ∷ 11 ∷ [])
unblamed before now status code same other =
    record { not_fallen = omega arith; cause = λ e. absurd (other e); told = λ h. absurd (omega arith) }

-- an object that failed
pub blamed : (before now status code : ℕ) → Counts before now true → OneOf code status → IsBlamed before now status code (10 ∷ 11 ∷ [])
blamed before now status code rose one = record {
  not_fallen = rose.not_fallen;
  cause = λ e. rose;
  told = λ h. elim one [ inl e ↦ (0, lit< tt, sym e) | inr o ↦ elim o [ inl e ↦ (1, lit< tt, sym e) | inr e ↦ (2, lit< tt, sym e) ] ];
}

-- a status that is one of three is no fourth
pub no_fourth : (own status code : ℕ) → OneOf own status → (own ≡ code → ⊥) → (10 ≡ code → ⊥) → (11 ≡ code → ⊥) → status ≡ code → ⊥
no_fourth own status code one a b c e = elim one [ inl h ↦ a (sym h ∙ e) | inr o ↦ elim o [ inl h ↦ b (sym h ∙ e) | inr h ↦ c (sym h ∙ e) ] ]

-- the tree
pub tree_blamed : (faults_before faults_now : ℕ) (built : Result (Unit {0}) BuildErr) (before after : Option (List ℕ)) (status : Status) → Counts faults_before faults_now (tree_failed built) → Reports built before after status → IsBlamed faults_before faults_now (code_of status) 7 (10 ∷ 11 ∷ [])
tree_blamed f g (Ok x) before after status counts says = unblamed f g _ 7 counts (λ e. omega (arith, ap code_of says.own_status))
tree_blamed f g (Err (build.Stop stop path)) before after status counts says =
    unblamed f g _ 7 counts (no_fourth 1 (code_of status) 7 (said_code statuses.Stopped (stop_line path stop) before after status says) (λ e. omega arith) (λ e. omega arith) (λ e. omega arith))
tree_blamed f g (Err build.TreeFault) before after status counts says = blamed f g (code_of status) 7 counts (said_code statuses.TreeFault tree_fault_line before after status says)
tree_blamed f g (Err build.OutFault) before after status counts says =
    unblamed f g _ 7 counts (no_fourth 9 (code_of status) 7 (said_code statuses.OutFault out_fault_line before after status says) (λ e. omega arith) (λ e. omega arith) (λ e. omega arith))
tree_blamed f g (Err build.Oom) before after status counts says = unblamed f g _ 7 counts (λ e. omega (arith, ap code_of says.own_status))

-- the output
pub out_blamed : (faults_before faults_now : ℕ) (built : Result (Unit {0}) BuildErr) (before after : Option (List ℕ)) (status : Status) → Counts faults_before faults_now (out_failed built) → Reports built before after status → IsBlamed faults_before faults_now (code_of status) 9 (10 ∷ 11 ∷ [])
out_blamed f g (Ok x) before after status counts says = unblamed f g _ 9 counts (λ e. omega (arith, ap code_of says.own_status))
out_blamed f g (Err (build.Stop stop path)) before after status counts says =
    unblamed f g _ 9 counts (no_fourth 1 (code_of status) 9 (said_code statuses.Stopped (stop_line path stop) before after status says) (λ e. omega arith) (λ e. omega arith) (λ e. omega arith))
out_blamed f g (Err build.TreeFault) before after status counts says =
    unblamed f g _ 9 counts (no_fourth 7 (code_of status) 9 (said_code statuses.TreeFault tree_fault_line before after status says) (λ e. omega arith) (λ e. omega arith) (λ e. omega arith))
out_blamed f g (Err build.OutFault) before after status counts says = blamed f g (code_of status) 9 counts (said_code statuses.OutFault out_fault_line before after status says)
out_blamed f g (Err build.Oom) before after status counts says = unblamed f g _ 9 counts (λ e. omega (arith, ap code_of says.own_status))

-- the output that nothing was written to
pub out_unwritten : (faults : ℕ) (ended : Result (Unit {0}) BuildErr) (before after : Option (List ℕ)) (status : Status) → out_failed ended ≡ false → Reports ended before after status → IsBlamed faults faults (code_of status) 9 (10 ∷ 11 ∷ [])
out_unwritten f ended before after status never says = out_blamed f f ended before after status (subst (λ (b : Bool). Counts f f b) (sym never) refl) says

-- the input, which no command on a tree reads
pub input_unread : (faults : ℕ) (ended : Result (Unit {0}) BuildErr) (before after : Option (List ℕ)) (status : Status) → Reports ended before after status → IsBlamed faults faults (code_of status) 8 (10 ∷ 11 ∷ [])
input_unread f (Ok x) before after status says = unblamed f f _ 8 refl (λ e. omega (arith, ap code_of says.own_status))
input_unread f (Err (build.Stop stop path)) before after status says =
    unblamed f f _ 8 refl (no_fourth 1 (code_of status) 8 (said_code statuses.Stopped (stop_line path stop) before after status says) (λ e. omega arith) (λ e. omega arith) (λ e. omega arith))
input_unread f (Err build.TreeFault) before after status says =
    unblamed f f _ 8 refl (no_fourth 7 (code_of status) 8 (said_code statuses.TreeFault tree_fault_line before after status says) (λ e. omega arith) (λ e. omega arith) (λ e. omega arith))
input_unread f (Err build.OutFault) before after status says =
    unblamed f f _ 8 refl (no_fourth 9 (code_of status) 8 (said_code statuses.OutFault out_fault_line before after status says) (λ e. omega arith) (λ e. omega arith) (λ e. omega arith))
input_unread f (Err build.Oom) before after status says = unblamed f f _ 8 refl (λ e. omega (arith, ap code_of says.own_status))
