-- What is printed where no module was read.
use Rattle.std.specs.Prelude.{ℕ, List, ◌++◌, codes}
use Rattle.std.specs.Fmt.{decimal}
use Rattle.zw_wasm_read.specs.declared.stop.BadCode.{BadCode}
use Rattle.zw_wasm_read.specs.declared.stop.BadCode.TheVariants as bad
use Rattle.zw_wasm_read.specs.declared.stop.ReadErr.{ReadErr}
use Rattle.zw_wasm_read.specs.declared.stop.ReadErr.TheVariants as stop

-- the number of a cause, as it is printed
abbrev pub cause_number : BadCode → ℕ
cause_number bad.Header = 1
cause_number bad.Section = 2
cause_number bad.Entry = 3
cause_number bad.Counts = 4

abbrev pub text_of : ReadErr → List ℕ
text_of (stop.Bad at code) = codes "no module at byte " ++ (decimal at ++ (codes ", code " ++ decimal (cause_number code)))
text_of stop.Oom = codes "out of memory"
