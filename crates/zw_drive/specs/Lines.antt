-- The lines of the usage and of faults, which are printed to the diagnostics. Each ends with LF. This project's own.
use Rattle.std.specs.Prelude.{ℕ, List, codes}

abbrev pub usage_line : List ℕ
usage_line = codes "usage: check, build, run, exec, validate, load\n"

abbrev pub tree_fault_line : List ℕ
tree_fault_line = codes "fault tree\n"

abbrev pub input_fault_line : List ℕ
input_fault_line = codes "fault input\n"

abbrev pub out_fault_line : List ℕ
out_fault_line = codes "fault out\n"
