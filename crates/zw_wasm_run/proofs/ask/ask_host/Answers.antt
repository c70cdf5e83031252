use Rattle.std.proofs.Common.{◌≡◌, ℕ, ◌<◌, ◌^◌, List, Option, None, Some, refl, sym, ap, subst, ◌∙◌, rules, true, false, not}
use Rattle.std.specs.Option.{is_some}
use Rattle.std.specs.Prelude.{MatchOption}
use Rattle.zw_wasm.specs.declared.module.ValType.{ValType}
use Rattle.zw_wasm_run.specs.declared.event.Event.{Event}
use Rattle.zw_wasm_run.specs.declared.machine.Show.{Show}
use Rattle.zw_wasm_run.specs.Hosting.{ArePairs, IsEventOf, numbers_held, ranges_in}
use Rattle.zw_wasm_run.proofs.Asking.{IsCall, host_goes, host_outside, host_replies, host_wants}
use Rattle.zw_wasm_run.proofs.Shows.{pairs_of}
use Rattle.zw_wasm_run.proofs.ShownParts.{held_length, held_types}
use Rattle.zw_wasm_run.proofs.ask.ask_host.Goals as goal

pub event_of-requires-clause-pairs : goal.event_of-requires-clause-pairs
event_of-requires-clause-pairs c =
    subst (λ ts. ArePairs ts c.args.shows.now c.args.import) (sym c.as_slice-params.ensures)
    (pairs_of c.args.m.now c.args.shows.now c.args.import c.args.ty.now c.requires.shown c.requires.typed)

-- an event of words at these types is one at the same types
event_known : (shows : List Show) (import : ℕ) (memory words : List ℕ) (ts us : List ValType) (e : Option Event) → ts ≡ us
    → MatchOption e (ranges_in shows import memory 0 (numbers_held ts words) ≡ None) (IsEventOf shows import memory (numbers_held ts words))
    → MatchOption e (ranges_in shows import memory 0 (numbers_held us words) ≡ None) (IsEventOf shows import memory (numbers_held us words))
event_known shows import memory words ts us e same known =
    subst (λ (vs : List ValType). MatchOption e (ranges_in shows import memory 0 (numbers_held vs words) ≡ None) (IsEventOf shows import memory (numbers_held vs words))) same known

-- what is known of an event
found : (o : Option Event) (P : Type 0) (Q : Event → Type 0) (e : Event) → MatchOption o P Q → o ≡ Some e → Q e
found None P Q e h is = absurd (cc)
found (Some x) P Q e h is = let same : x ≡ e = cc in subst Q same h

missing : (o : Option Event) (P : Type 0) (Q : Event → Type 0) → MatchOption o P Q → o ≡ None → P
missing None P Q h is = h
missing (Some x) P Q h is = absurd (cc)

no_result : (r : Option ValType) → is_some r ≡ not true → r ≡ None
no_result None h = refl
no_result (Some t) h = absurd (cc)

pub returns-in_default : goal.returns-in_default
returns-in_default c =
    let given = numbers_held c.args.ty.now.params c.args.words.now in
    let call : IsCall c.args.m.now c.args.shows.now c.args.import c.args.ty.now given =
    record { is = c.requires.typed; imported = c.requires.imported; are = c.requires.shown; count = held_length c.args.ty.now.params c.args.words.now c.requires.count; types = held_types c.args.ty.now.params c.args.words.now c.requires.count } in
    let known = event_known c.args.shows.now c.args.import c.args.memory.now c.args.words.now _ c.args.ty.now.params c.in_ok-event.field-0 c.as_slice-params.ensures c.in_ok-event.ensures in
    host_outside c.args.m.now c.args.shows.now c.args.import c.args.ty.now c.args.memory.now given _ _ call (missing c.in_ok-event.field-0 _ _ known c.in_default.is) refl refl

pub returns-then-is_none : goal.returns-then-is_none
returns-then-is_none c =
    let given = numbers_held c.args.ty.now.params c.args.words.now in
    let call : IsCall c.args.m.now c.args.shows.now c.args.import c.args.ty.now given =
    record { is = c.requires.typed; imported = c.requires.imported; are = c.requires.shown; count = held_length c.args.ty.now.params c.args.words.now c.requires.count; types = held_types c.args.ty.now.params c.args.words.now c.requires.count } in
    let known = event_known c.args.shows.now c.args.import c.args.memory.now c.args.words.now _ c.args.ty.now.params c.in_ok-event.field-0 c.as_slice-params.ensures c.in_ok-event.ensures in
    host_goes c.args.m.now c.args.shows.now c.args.import c.args.ty.now c.args.memory.now given c.in-Some.event _ _ call (found c.in_ok-event.field-0 _ _ c.in-Some.event known c.in-Some.is) c.in_ok-push.ensures.items
    (no_result c.args.ty.now.result (c.is_none.ensures ∙ ap not c.if-is_none.true)) refl

-- a function that has a result, of some type
record HasResult (r : Option ValType) : Type 0 where
  type : ValType
  is : r ≡ Some type

some_result : (r : Option ValType) → is_some r ≡ not false → HasResult r
some_result None h = absurd (cc)
some_result (Some t) h = record { type = t; is = refl }

pub returns-in-Some-take : goal.returns-in-Some-take
returns-in-Some-take c =
    let given = numbers_held c.args.ty.now.params c.args.words.now in
    let call : IsCall c.args.m.now c.args.shows.now c.args.import c.args.ty.now given =
    record { is = c.requires.typed; imported = c.requires.imported; are = c.requires.shown; count = held_length c.args.ty.now.params c.args.words.now c.requires.count; types = held_types c.args.ty.now.params c.args.words.now c.requires.count } in
    let known = event_known c.args.shows.now c.args.import c.args.memory.now c.args.words.now _ c.args.ty.now.params c.in_ok-event.field-0 c.as_slice-params.ensures c.in_ok-event.ensures in
    let bound : c.in-Some-take.reply < 2 ^ 64 = search rules in
    let result = some_result c.args.ty.now.result (c.is_none.ensures ∙ ap not c.if-is_none.false) in
    host_replies c.args.m.now c.args.shows.now c.args.import c.args.ty.now c.args.memory.now given result.type c.in-Some-take.reply c.in-Some.event _ _ call (found c.in_ok-event.field-0 _ _ c.in-Some.event known c.in-Some.is) c.in_ok-push.ensures.items
    result.is bound c.in-Some-take.ensures

pub returns-in-None : goal.returns-in-None
returns-in-None c =
    let given = numbers_held c.args.ty.now.params c.args.words.now in
    let call : IsCall c.args.m.now c.args.shows.now c.args.import c.args.ty.now given =
    record { is = c.requires.typed; imported = c.requires.imported; are = c.requires.shown; count = held_length c.args.ty.now.params c.args.words.now c.requires.count; types = held_types c.args.ty.now.params c.args.words.now c.requires.count } in
    let known = event_known c.args.shows.now c.args.import c.args.memory.now c.args.words.now _ c.args.ty.now.params c.in_ok-event.field-0 c.as_slice-params.ensures c.in_ok-event.ensures in
    let result = some_result c.args.ty.now.result (c.is_none.ensures ∙ ap not c.if-is_none.false) in
    host_wants c.args.m.now c.args.shows.now c.args.import c.args.ty.now c.args.memory.now given result.type c.in-Some.event _ _ call (found c.in_ok-event.field-0 _ _ c.in-Some.event known c.in-Some.is) c.in_ok-push.ensures.items
    result.is c.in-None.ensures.0 c.in-None.ensures.1
