-- What is printed where no machine was made.
use Rattle.std.specs.Prelude.{ℕ, List, ◌++◌, codes}
use Rattle.std.specs.Fmt.{decimal}
use Rattle.zw_wasm_run.specs.declared.machine.NewErr.{NewErr}
use Rattle.zw_wasm_run.specs.declared.machine.NewErr.TheVariants as error

abbrev pub text_of : NewErr → List ℕ
text_of (error.OutOfRangeSegment segment) = codes "segment " ++ (decimal segment ++ codes " out of range")
text_of error.Oom = codes "out of memory"
