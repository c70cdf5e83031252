-- What a failed call within a reader says of the reader.
use Rattle.std.proofs.Common.{◌≡◌, ℕ, List, Result, Ok, Err}
use Rattle.std.specs.Borrow.{Bor}
use Rattle.std.specs.Result.{IsErrAnd}
use Rattle.zw_wasm.specs.declared.module.CodeBody.{CodeBody}
use Rattle.zw_wasm_read.specs.Bodies.{IsBody, ReadsBody}
use Rattle.zw_wasm_read.specs.Reads.{Leaves, IsUnfit, Reads, ReadsPart, Passes}
use Rattle.zw_wasm_read.specs.declared.unread.Unread.{Unread}
use Rattle.zw_wasm_read.specs.declared.unread.Unread.TheVariants.{Unfit, Oom}

pub exit : {X Y : Type 0} {P : X → List ℕ → Type 0} (Q : Y → List ℕ → Type 0) {bytes : List ℕ} (mid : List ℕ) (r : Result (X × Bor (List ℕ)) Unread) (e : Unread) → IsErrAnd r (λ f. f ≡ e) → Reads Q mid (Err e) → (IsUnfit Q mid → IsUnfit P bytes) → Reads P bytes r
exit Q mid (Ok p) e h q f = absurd h
exit Q mid (Err Unfit) Unfit h q f = f q
exit Q mid (Err Unfit) Oom h q f = absurd cc
exit Q mid (Err Oom) e h q f = tt

pub exit_passed : {X : Type 0} {P : X → List ℕ → Type 0} (Q : List ℕ → Type 0) {bytes : List ℕ} (mid : List ℕ) (r : Result (X × Bor (List ℕ)) Unread) (e : Unread) → IsErrAnd r (λ f. f ≡ e) → Passes Q mid (Err e) → (((rest : List ℕ) → Leaves Q mid rest → ⊥) → IsUnfit P bytes) → Reads P bytes r
exit_passed Q mid (Ok p) e h q f = absurd h
exit_passed Q mid (Err Unfit) Unfit h q f = f q
exit_passed Q mid (Err Unfit) Oom h q f = absurd cc
exit_passed Q mid (Err Oom) e h q f = tt

pub exit_part : {X : Type 0} {P : X → List ℕ → Type 0} (Q : List ℕ → List ℕ → Type 0) {bytes : List ℕ} (mid : List ℕ) (r : Result (X × Bor (List ℕ)) Unread) (e : Unread) → IsErrAnd r (λ f. f ≡ e) → ReadsPart Q mid (Err e) → (IsUnfit Q mid → IsUnfit P bytes) → Reads P bytes r
exit_part Q mid (Ok p) e h q f = absurd h
exit_part Q mid (Err Unfit) Unfit h q f = f q
exit_part Q mid (Err Unfit) Oom h q f = absurd cc
exit_part Q mid (Err Oom) e h q f = tt

pub exit_to_part : {Y : Type 0} {P : List ℕ → List ℕ → Type 0} (Q : Y → List ℕ → Type 0) {bytes : List ℕ} (mid : List ℕ) (r : Result (Bor (List ℕ) × Bor (List ℕ)) Unread) (e : Unread) → IsErrAnd r (λ f. f ≡ e) → Reads Q mid (Err e) → (IsUnfit Q mid → IsUnfit P bytes) → ReadsPart P bytes r
exit_to_part Q mid (Ok p) e h q f = absurd h
exit_to_part Q mid (Err Unfit) Unfit h q f = f q
exit_to_part Q mid (Err Unfit) Oom h q f = absurd cc
exit_to_part Q mid (Err Oom) e h q f = tt

-- a reader that ends with another one of the same things
pub follow : {X : Type 0} {P : X → List ℕ → Type 0} (Q : X → List ℕ → Type 0) {bytes : List ℕ} (mid : List ℕ) (r : Result (X × Bor (List ℕ)) Unread) → Reads Q mid r → ((x : X) (rest : List ℕ) → Leaves (Q x) mid rest → Leaves (P x) bytes rest) → (IsUnfit Q mid → IsUnfit P bytes) → Reads P bytes r
follow Q mid (Ok p) q f g = f p.0 p.1.now q
follow Q mid (Err Unfit) q f g = g q
follow Q mid (Err Oom) q f g = tt

-- the same of bodies
pub exit_body : {Y : Type 0} (Q : Y → List ℕ → Type 0) {bytes : List ℕ} (mid : List ℕ) (r : Result CodeBody Unread) (e : Unread) → IsErrAnd r (λ f. f ≡ e) → Reads Q mid (Err e) → (IsUnfit Q mid → (c : CodeBody) → IsBody c bytes → ⊥) → ReadsBody bytes r
exit_body Q mid (Ok p) e h q f = absurd h
exit_body Q mid (Err Unfit) Unfit h q f = f q
exit_body Q mid (Err Unfit) Oom h q f = absurd cc
exit_body Q mid (Err Oom) e h q f = tt

pub exit_from_body : {X : Type 0} {P : X → List ℕ → Type 0} {bytes : List ℕ} (mid : List ℕ) (r : Result (X × Bor (List ℕ)) Unread) (e : Unread) → IsErrAnd r (λ f. f ≡ e) → ReadsBody mid (Err e) → (((c : CodeBody) → IsBody c mid → ⊥) → IsUnfit P bytes) → Reads P bytes r
exit_from_body mid (Ok p) e h q f = absurd h
exit_from_body mid (Err Unfit) Unfit h q f = f q
exit_from_body mid (Err Unfit) Oom h q f = absurd cc
exit_from_body mid (Err Oom) e h q f = tt

pub exit_between : {P : List ℕ → List ℕ → Type 0} (Q : List ℕ → List ℕ → Type 0) {bytes : List ℕ} (mid : List ℕ) (r : Result (Bor (List ℕ) × Bor (List ℕ)) Unread) (e : Unread) → IsErrAnd r (λ f. f ≡ e) → ReadsPart Q mid (Err e) → (IsUnfit Q mid → IsUnfit P bytes) → ReadsPart P bytes r
exit_between Q mid (Ok p) e h q f = absurd h
exit_between Q mid (Err Unfit) Unfit h q f = f q
exit_between Q mid (Err Unfit) Oom h q f = absurd cc
exit_between Q mid (Err Oom) e h q f = tt

-- what did not fit
pub part_unfit : (Q : List ℕ → List ℕ → Type 0) (mid : List ℕ) (e : Unread) → ReadsPart Q mid (Err e) → e ≡ Unfit → IsUnfit Q mid
part_unfit Q mid Unfit q e = q
part_unfit Q mid Oom q e = absurd cc

pub unfit : {Y : Type 0} (Q : Y → List ℕ → Type 0) (mid : List ℕ) (e : Unread) → Reads Q mid (Err e) → e ≡ Unfit → IsUnfit Q mid
unfit Q mid Unfit q e = q
unfit Q mid Oom q e = absurd cc

pub unpassed : (Q : List ℕ → Type 0) (mid : List ℕ) (e : Unread) → Passes Q mid (Err e) → e ≡ Unfit → (rest : List ℕ) → Leaves Q mid rest → ⊥
unpassed Q mid Unfit q e = q
unpassed Q mid Oom q e = absurd cc
