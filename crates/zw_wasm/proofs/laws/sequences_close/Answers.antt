use Rattle.std.proofs.Common.{◌≡◌, [], ◌∷◌, refl}
use Rattle.zw_wasm.specs.declared.module.Instr.TheVariants.{Unreachable, End}
use Rattle.zw_wasm.proofs.Closing.{sequences_close_lem, ends-sequence}
use Rattle.zw_wasm.proofs.laws.sequences_close.Goals as goal

pub returns-clause-compose : goal.returns-clause-compose
returns-clause-compose c = sequences_close_lem

pub returns-clause-grammar : goal.returns-clause-grammar
returns-clause-grammar c = ends-sequence

pub returns-clause-examples : goal.returns-clause-examples
returns-clause-examples c = record {
  of_if = refl;
  of_else = refl;
  of_block = refl;
  no_end = λ h. h;
  behind_end = λ h. let e : Unreachable ∷ [] ≡ [] = h in absurd cc;
  second_end = λ h. let e : End ∷ [] ≡ [] = h in absurd cc;
  no_if = λ h. h;
  else_in_block = λ h. h;
  else_in_loop = λ h. h;
  second_else = λ h. h;
  else_behind_if = λ h. h;
}
