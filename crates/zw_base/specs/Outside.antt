-- Which answers of the outside are failures, and which pair a load adds to what a tree has handed over.
use Rattle.std.specs.Prelude.{◌≡◌, ℕ, ◌≤◌, Bool, true, false, ◌&&◌, nat_eq, nat_lt, List, [], ◌∷◌, ◌++◌, length, take, Option, Result, Ok, Err, Vec}
use Rattle.std.specs.Io.KnownBytes.{Appends}
use Rattle.std.specs.declared.alloc.Global.{Global}
use Rattle.zw_base.specs.declared.files.Answer.{Answer}
use Rattle.zw_base.specs.declared.files.Answer.TheVariants.{Bytes, Absent, TooLong}
use Rattle.zw_base.specs.declared.files.Handed.{Handed}
use Rattle.zw_base.specs.declared.outside.Failed.{Failed}
use Rattle.zw_base.specs.declared.outside.LoadErr.{LoadErr}
use Rattle.zw_base.specs.declared.outside.LoadErr.TheVariants as load
use Rattle.zw_base.specs.declared.outside.PutErr.{PutErr}
use Rattle.zw_base.specs.declared.outside.PutErr.TheVariants as put

abbrev pub load_failed : {T : Type 0} → Result T LoadErr → Bool
load_failed (Ok bytes) = false
load_failed (Err load.Absent) = false
load_failed (Err load.TooLong) = false
load_failed (Err load.Failed) = true
load_failed (Err load.Oom) = false

abbrev pub read_failed : Result ℕ Failed → Bool
read_failed (Ok n) = false
read_failed (Err e) = true

-- a sink that takes nothing of a piece that isn't empty has failed too
abbrev pub put_failed : List ℕ → Result ℕ PutErr → Bool
put_failed piece (Ok n) = nat_eq n 0 && nat_lt 0 (length piece)
put_failed piece (Err put.Failed) = true
put_failed piece (Err put.Oom) = false

-- An answer joins the list as the pair of its path and itself, with the limit of the load where the file is too long. A failure and want
-- of memory are no answers.
abbrev pub AddsPair : List Handed → List Handed → List ℕ → ℕ → Result (Vec ℕ Global) LoadErr → Type 0
AddsPair old new path limit (Ok bytes) = new ≡ old ++ record { path = path; answer = Bytes bytes.items } ∷ []
AddsPair old new path limit (Err load.Absent) = new ≡ old ++ record { path = path; answer = Absent } ∷ []
AddsPair old new path limit (Err load.TooLong) = new ≡ old ++ record { path = path; answer = TooLong limit } ∷ []
AddsPair old new path limit (Err load.Failed) = new ≡ old
AddsPair old new path limit (Err load.Oom) = new ≡ old

-- the answer to a load with this limit
abbrev pub IsAnswerAt : ℕ → Answer → Type 0
IsAnswerAt limit (Bytes bytes) = length bytes ≤ limit
IsAnswerAt limit Absent = Unit {0}
IsAnswerAt limit (TooLong told) = told ≡ limit

-- whether a whole text failed to go to a sink
abbrev pub failed : {T : Type 0} → Result T PutErr → Bool
failed (Ok x) = false
failed (Err put.Failed) = true
failed (Err put.Oom) = false

-- known bytes grow by some front of these
abbrev pub AppendsFront : Option (List ℕ) → Option (List ℕ) → List ℕ → Type 0
AppendsFront old new bytes = (n : ℕ) × Appends old new (take n bytes)
