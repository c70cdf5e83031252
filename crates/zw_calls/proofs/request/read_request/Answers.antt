use Rattle.std.proofs.Common.{◌∙◌, ◌<◌, length, map, ap, sym, subst}
use Rattle.zw_calls.proofs.RequestLemmas.{none_calls, none_steps, some_request}
use Rattle.zw_calls.proofs.TextLemmas.{not_empty}
use Rattle.zw_calls.specs.Requests.{GivesNoSteps, GivesSteps, are_calls, call_of, calls_of}
use Rattle.zw_calls.proofs.request.read_request.Goals as goal

pub returns-then-not-are_calls : goal.returns-then-not-are_calls
returns-then-not-are_calls c =
    none_calls c.args.words.now c.in-Some.path.now c.in-Some.behind.now c.in-Some.ensures.cases.0
    (ap are_calls (sym c.split_steps.ensures.front) ∙ sym c.are_calls.ensures ∙ c.if-not-are_calls.true)

pub returns-in_default-read_steps : goal.returns-in_default-read_steps
returns-in_default-read_steps c =
    none_steps c.args.words.now c.in-Some.path.now c.in-Some.behind.now c.in-Some.ensures.cases.0
    (subst GivesNoSteps c.split_steps.ensures.behind c.in_default-read_steps.ensures)

pub returns : goal.returns
returns c =
    let some : 0 < length c.in-Some.path.now = subst (λ v. 0 < length v) c.bytes.ensures (not_empty c.bytes.result.now c.is_empty.result c.is_empty.ensures c.if-is_empty.false) in
    some_request c.args.words.now c.in-Some.path.now c.in-Some.behind.now c.in-Some-read_steps.steps (map call_of c.in_ok-calls.calls.items) c.in-Some.ensures.cases.0 some
    (ap are_calls (sym c.split_steps.ensures.front) ∙ sym c.are_calls.ensures ∙ c.if-not-are_calls.false)
    (subst (λ v. GivesSteps v c.in-Some-read_steps.steps) c.split_steps.ensures.behind c.in-Some-read_steps.ensures)
    (c.in_ok-calls.ensures ∙ ap calls_of c.split_steps.ensures.front)
