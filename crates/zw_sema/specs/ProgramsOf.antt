-- What a program of a file is: its functions are the file's exports, written down by numbers.
use Rattle.std.specs.Prelude.{◌≡◌, ℕ, suc, List, [], ◌∷◌, map}
use Rattle.zw_session.specs.Sessions.{Call, session}
use Rattle.zw_tree.specs.Trees.{Forest}
use Rattle.zw_tree.specs.declared.ast.Entry.{Entry}
use Rattle.zw_typed.specs.declared.program.Func.{Func}
use Rattle.zw_typed.specs.declared.program.Export.{Export}
use Rattle.zw_typed.specs.declared.program.Program.{Program}
use Rattle.zw_typed.specs.Programs.{exports_of, imports_read, imports_of, program_machine, IsWellFormed}
use Rattle.zw_sema.specs.Files.{Instance, Analysis, Accepted, analysed, instances_in, exports_in, file_session}

abbrev pub IsAccepted : Analysis → Type 0
IsAccepted (Accepted instances state) = Unit {0}
IsAccepted _ = ⊥

-- each export names the next function
abbrev pub NameInOrder : ℕ → List Export → Type 0
NameInOrder n [] = Unit {0}
NameInOrder n (e ∷ exports) = (e.func ≡ n) × NameInOrder (suc n) exports

-- The file is accepted. The program has a function for each export, in the order of the text and with its place, and the functions of the host
-- that these call, in the order of the first call. Read with its table it is what the analysis gave.
pub record IsProgramOf (analysis : Analysis) (p : Program) : Type 0 where
  pub accepted : IsAccepted analysis
  pub functions : exports_of p ≡ exports_in analysis
  pub places : map (λ (f : Func). f.place) p.funcs ≡ map (λ (i : Instance). i.place) (instances_in analysis)
  pub names : NameInOrder 0 p.exports
  pub imports : imports_read p ≡ imports_of (exports_in analysis)
  pub well_formed : IsWellFormed p

-- A program of a file means what the file means.
abbrev pub ProgramsMeanTheirFiles : Type 0
ProgramsMeanTheirFiles =
    (forest : Forest Entry) (bound : ℕ) (p : Program) → IsProgramOf (analysed bound forest) p →
    (calls : List Call) (replies : List ℕ) → session (program_machine p) calls tt replies 0 ≡ file_session bound forest calls replies
