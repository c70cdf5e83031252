use Rattle.std.proofs.Common.{◌≡◌, ℕ, ◌+◌, ◌≤◌, ◌++◌, length, drop, get_or, List, sym, ap, subst, ◌∙◌, append-nil, arith}
use Rattle.std.proofs.lemmas.List.{drop_all}
use Rattle.std.specs.List.Sorted.{IsNonDecreasingBy}
use Rattle.zw_wasm.specs.declared.module.ValType.{ValType}
use Rattle.zw_wasm.specs.declared.module.ValType.TheVariants.{I32}
use Rattle.zw_wasm_check.specs.declared.locals.Run.{Run}
use Rattle.zw_wasm_check.specs.Locals.{end_of, runs_between}
use Rattle.zw_wasm_check.proofs.LocalLemmas.{count_more, ends_from, ends_more, ends_rise, runs_back}
use Rattle.zw_wasm_check.proofs.locals.Locals.new.Goals as goal

pub overflow_add-total : goal.overflow_add-total
overflow_add-total c =
    let more = count_more c.args.runs.now c.loop-count.count-index (0, I32) c.loop-count-test.true in
    let few = c.requires in
    let total = c.loop-count.invariant.count in
    omega (arith, more, few, total)

pub loop-count-preserved : goal.loop-count-preserved
loop-count-preserved c =
    let more = count_more c.args.runs.now c.loop-count.count-index (0, I32) c.loop-count-test.true in
    let total = c.loop-count.invariant.count in
    record {
      ends =
          let run = get_or c.args.runs.now c.loop-count.count-index (0, I32) in
          ap (λ (es : List Run). es ++ ends_from (c.loop-count.total + run.0) (drop (c.loop-count.count-index + 1) c.args.runs.now)) c.in_ok-push.ensures.ok
          ∙ ends_more c.loop-count.ends c.loop-count.total c.args.runs.now c.loop-count.count-index (0, I32) (ends_from 0 c.args.runs.now) c.loop-count-test.true c.loop-count.invariant.ends;
      count = omega (arith, more, total);
    }

-- where all runs are there
whole : (ends : List Run) (total i : ℕ) (runs : List (ℕ × ValType)) → length runs ≤ i → ends ++ ends_from total (drop i runs) ≡ ends_from 0 runs → ends ≡ ends_from 0 runs
whole ends total i runs past same =
    sym (append-nil ends) ∙ ap (λ (rs : List (ℕ × ValType)). ends ++ ends_from total rs) (sym (drop_all i runs past)) ∙ same

pub invariant_of-result : goal.invariant_of-result
invariant_of-result c =
    subst (IsNonDecreasingBy end_of)
    (sym (whole c.loop-count.ends c.loop-count.total c.loop-count.count-index c.args.runs.now c.loop-count-test.false c.loop-count.invariant.ends))
    (ends_rise 0 c.args.runs.now)

pub returns : goal.returns
returns c =
    ap (runs_between 0) (whole c.loop-count.ends c.loop-count.total c.loop-count.count-index c.args.runs.now c.loop-count-test.false c.loop-count.invariant.ends)
    ∙ runs_back 0 c.args.runs.now
