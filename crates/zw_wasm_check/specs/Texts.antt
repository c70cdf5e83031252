-- What is printed where a module isn't valid.
use Rattle.std.specs.Prelude.{ℕ, List, ◌++◌, codes}
use Rattle.std.specs.Fmt.{decimal}
use Rattle.zw_wasm_check.specs.declared.module.CheckErr.{CheckErr}
use Rattle.zw_wasm_check.specs.declared.module.CheckErr.TheVariants as violation

abbrev pub text_of : CheckErr → List ℕ
text_of (violation.Outside section entry) = codes "section " ++ (decimal section ++ (codes ", entry " ++ decimal entry))
text_of (violation.Body func at code) = codes "function " ++ (decimal func ++ (codes ", instruction " ++ (decimal at ++ (codes ", code " ++ decimal code))))
text_of violation.Oom = codes "out of memory"
