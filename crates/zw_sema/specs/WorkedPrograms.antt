-- What a program is of a file, and worked texts: a file's functions by numbers, and the weight of frames.
use Rattle.std.specs.Prelude.{◌≡◌, ℕ, [], ◌∷◌, replicate}
use Rattle.zw_base.specs.declared.stop.StopKind.TheVariants.{Limit}
use Rattle.zw_typed.specs.WorkedPrograms.{byte, calling}
use Rattle.zw_typed.specs.Programs.{no_node}
use Rattle.zw_sema.specs.Files.{Instance, Accepted, start, weighed, analysed}
use Rattle.zw_sema.specs.ProgramsOf.{IsProgramOf}
use Rattle.zw_sema.specs.Building.{enough, file, Told, Fine, Stops, told_of}
use Rattle.zw_sema.specs.WorkedExpressions.{f}
use Rattle.zw_sema.specs.WorkedHost.{call_first}

-- a function with so many parameters of one byte, whose declaration begins in this column
abbrev pub with_bytes : ℕ → ℕ → Instance
with_bytes column n = record {
  place = record { file = 0; line = 1; column = column };
  function = record { name = f; params = replicate n byte; result = byte; body = no_node };
}

-- what is told where the units gave these two functions
abbrev pub told_weights : ℕ → ℕ → Told
told_weights first second = told_of (weighed (Accepted (with_bytes 1 first ∷ with_bytes 200000 second ∷ []) start))

pub record WorkedPrograms : Type 0 where
  -- `extern fn h(x: u8) u8; export fn f(a: u8) u8 { return h(a) + a; }`: a program of it
  pub program : IsProgramOf (analysed enough (file call_first)) calling
  -- a parameter of one byte takes 8 bytes of its frame: 16,384 of them are 131,072 bytes, and one more is too many
  pub heaviest : told_weights 16384 16384 ≡ Fine
  pub too_heavy : told_weights 16384 16385 ≡ Stops (Limit 11) 200000
  -- of two that are too heavy the first is told
  pub first_heavy : told_weights 16385 16386 ≡ Stops (Limit 11) 1
