-- Input: what is read of a source before a session runs. This project's own.
use Rattle.std.specs.Prelude.{◌≡◌, ℕ, ◌<◌, ◌≤◌, Bool, true, false, List, ◌++◌, length, Option, Result, Ok, Err}
use Rattle.std.specs.Io.KnownBytes.{Consumes, IsAtEnd}
use Rattle.zw_calls.specs.declared.input.InputErr.{InputErr}
use Rattle.zw_calls.specs.declared.input.InputErr.TheVariants.{Failed, Oom}

-- these bytes were read: all of what was left, or 16,777,217
pub record IsInput (old new : Option (List ℕ)) (bytes : List ℕ) : Type 0 where
  pub read : Consumes old new bytes
  pub most : length bytes ≤ 16777217
  pub whole : length bytes ≤ 16777216 → IsAtEnd new

-- so many bytes at most were read
pub record IsFront (old new : Option (List ℕ)) (most : ℕ) : Type 0 where
  pub bytes : List ℕ
  pub read : Consumes old new bytes
  pub within : length bytes ≤ most

-- whether the source failed
abbrev pub input_failed : {T : Type 0} → Result T InputErr → Bool
input_failed (Ok bytes) = false
input_failed (Err Failed) = true
input_failed (Err Oom) = false

-- a piece of n bytes was read and put behind others; no byte of a piece with room means that none is left
pub record TakesPiece (old new : Option (List ℕ)) (before after : List ℕ) (room n : ℕ) : Type 0 where
  pub piece : List ℕ
  pub read : Consumes old new piece
  pub put : after ≡ before ++ piece
  pub size : length piece ≡ n
  pub most : n ≤ room
  pub last : n ≡ 0 → 0 < room → IsAtEnd new
