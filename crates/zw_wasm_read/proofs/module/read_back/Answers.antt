use Rattle.std.proofs.Common.{arith}
use Rattle.zw_wasm.specs.ModuleBytes.{IsElement, IsCode, IsDataSegment}
use Rattle.zw_wasm_read.proofs.ModuleLemmas.{optional-shorter, start-shorter, listed, started, begin, go_on, next_section, next_start, start_exit, back_exit}
use Rattle.zw_wasm_read.specs.Stops.{Elements, Codes, Datas}
use Rattle.zw_wasm_read.proofs.module.read_back.Goals as goal

pub returns-in_err-start : goal.returns-in_err-start
returns-in_err-start c = start_exit _ _ _ _ c.from_residual.ensures.1 c.in_err-start.ensures

pub returns-in_err-elements : goal.returns-in_err-elements
returns-in_err-elements c = back_exit Elements _ _ _ _ _ c.from_residual-in_err-elements.ensures.1 (λ first d. (next_start _ _ _ _ _ d c.in_ok-start.ensures)) c.in_err-elements.ensures

pub returns-in_err-codes : goal.returns-in_err-codes
returns-in_err-codes c = back_exit Codes _ _ _ _ _ c.from_residual-in_err-codes.ensures.1 (λ first d. (next_section Elements _ _ _ _ _ (next_start _ _ _ _ _ d c.in_ok-start.ensures) c.in_ok-elements.ensures)) c.in_err-codes.ensures

pub returns-in_err-datas : goal.returns-in_err-datas
returns-in_err-datas c = back_exit Datas _ _ _ _ _ c.from_residual-in_err-datas.ensures.1 (λ first d. (next_section Codes _ _ _ _ _ (next_section Elements _ _ _ _ _ (next_start _ _ _ _ _ d c.in_ok-start.ensures) c.in_ok-elements.ensures) c.in_ok-codes.ensures)) c.in_err-datas.ensures

pub returns : goal.returns
returns c = record {
  sections = λ start cs. (go_on (go_on (go_on (begin cs (started _ _ _ _ c.in_ok-start.ensures)) (listed 9 IsElement _ _ _ _ c.in_ok-elements.ensures)) (listed 10 IsCode _ _ _ _ c.in_ok-codes.ensures)) (listed 11 IsDataSegment _ _ _ _ c.in_ok-datas.ensures));
  goes = λ first d. (next_section Datas _ _ _ _ _ (next_section Codes _ _ _ _ _ (next_section Elements _ _ _ _ _ (next_start _ _ _ _ _ d c.in_ok-start.ensures) c.in_ok-elements.ensures) c.in_ok-codes.ensures) c.in_ok-datas.ensures);
}

pub read_optional-requires-3-clause-within : goal.read_optional-requires-3-clause-within
read_optional-requires-3-clause-within c = omega (arith, c.requires.within, start-shorter _ _ _ _ c.in_ok-start.ensures, optional-shorter 9 IsElement _ _ _ _ c.in_ok-elements.ensures, optional-shorter 10 IsCode _ _ _ _ c.in_ok-codes.ensures)
