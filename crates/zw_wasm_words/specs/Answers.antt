-- Answers: what an operator on numbers answers in code, in the words of the definition.
use Rattle.std.specs.Prelude.{ℕ, Result, Ok, Err}
use Rattle.zw_wasm.specs.Numerics.{Answer, Gives, DividesByZero, Overflows}
use Rattle.zw_wasm_words.specs.declared.fault.Fault.{Fault}
use Rattle.zw_wasm_words.specs.declared.fault.Fault.TheVariants as fault

abbrev pub answer_of : Result ℕ Fault → Answer
answer_of (Ok n) = Gives n
answer_of (Err fault.DividesByZero) = DividesByZero
answer_of (Err fault.Overflows) = Overflows
