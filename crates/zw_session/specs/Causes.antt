-- The causes of panics by number, as far as they are used (Zig Language Reference 0.13.0, Undefined Behavior). The numbers are
-- this project's own.
use Rattle.std.specs.Prelude.{ℕ}

-- an exact result isn't in its type
abbrev pub integer_overflow : ℕ
integer_overflow = 1

-- a panic whose message is given
abbrev pub message_cause : ℕ
message_cause = 18

-- the last cause
abbrev pub last_cause : ℕ
last_cause = 19
