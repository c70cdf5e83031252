use Rattle.std.proofs.Common.{◌≡◌, ℕ, List, length, sym, ap, subst, ◌∙◌}
use Rattle.std.proofs.lemmas.List.{length-map}
use Rattle.zw_wasm.specs.declared.module.FuncType.{FuncType}
use Rattle.zw_wasm.specs.declared.module.Module.{Module}
use Rattle.zw_wasm.specs.ModuleMachine.{param_types}
use Rattle.zw_wasm_words.proofs.Holding.{hold_length}
use Rattle.zw_wasm_run.specs.declared.ask.Answer.{Answer}
use Rattle.zw_wasm_run.specs.declared.ask.Answer.TheVariants as answer
use Rattle.zw_wasm_run.specs.declared.event.Outcome.TheVariants as outcome
use Rattle.zw_wasm_run.specs.declared.machine.Show.{Show}
use Rattle.zw_wasm_run.specs.Hosting.{AsksHost, HostState, numbers_held}
use Rattle.zw_wasm_run.specs.Premises.{type_of}
use Rattle.zw_wasm_run.proofs.Functions.{callable, called_as, import_called}
use Rattle.zw_wasm_run.proofs.function.call_import.Goals as goal

pub ask_host-requires-clause-count : goal.ask_host-requires-clause-count
ask_host-requires-clause-count c =
    ap length c.as_slice-words.ensures.value ∙ hold_length c.push_args.new.words.items c.args.args.now c.in_ok-push_args.ensures.held
    ∙ sym (length-map c.args.args.now type_of) ∙ ap length c.requires.may.given_typed ∙ ap (λ o. length (param_types o)) c.requires.typed

-- what the host answered, to the words and the memory
asked : (m : Module) (shows : List Show) (func : ℕ) (t : FuncType) (memory items read words : List ℕ) (old new : HostState) (a x : Answer) → memory ≡ items → read ≡ words → a ≡ x
    → AsksHost m shows func t memory (numbers_held t.params read) old a new → AsksHost m shows func t items (numbers_held t.params words) old x new
asked m shows func t memory items read words old new a x same held is asks =
    subst (λ y. AsksHost m shows func t items (numbers_held t.params words) old y new) is
    (subst (λ ws. AsksHost m shows func t items (numbers_held t.params ws) old a new) held (subst (λ ms. AsksHost m shows func t ms (numbers_held t.params read) old a new) same asks))

pub returns-in-Goes-clause-called : goal.returns-in-Goes-clause-called
returns-in-Goes-clause-called c =
    called_as c.args.m.now c.args.shows.now c.args.func c.args.args.now _ _ _ _ (ap (λ r. outcome.Result r) c.result_of.ensures)
    (import_called c.args.m.now c.args.shows.now c.args.func c.args.args.now c.args.ty.now _ c.push_args.new.words.items (answer.Goes c.in-Goes.reply) _ _
    (callable c.args.m.now c.args.shows.now c.args.func c.args.args.now _ c.args.ty.now c.requires.valid c.requires.may c.requires.typed) c.requires.imported c.requires.typed c.in_ok-push_args.ensures.held
    (asked c.args.m.now c.args.shows.now c.args.func c.args.ty.now c.as_slice-memory.result.now c.args.store.now.memory.items c.as_slice-words.result.now c.push_args.new.words.items _ _ c.in_ok-reply.field-0 (answer.Goes c.in-Goes.reply)
    c.as_slice-memory.ensures.value c.as_slice-words.ensures.value c.in-Goes.is c.in_ok-reply.ensures))

pub returns-in-Outside-clause-called : goal.returns-in-Outside-clause-called
returns-in-Outside-clause-called c =
    import_called c.args.m.now c.args.shows.now c.args.func c.args.args.now c.args.ty.now _ c.push_args.new.words.items answer.Outside _ _
    (callable c.args.m.now c.args.shows.now c.args.func c.args.args.now _ c.args.ty.now c.requires.valid c.requires.may c.requires.typed) c.requires.imported c.requires.typed c.in_ok-push_args.ensures.held
    (asked c.args.m.now c.args.shows.now c.args.func c.args.ty.now c.as_slice-memory.result.now c.args.store.now.memory.items c.as_slice-words.result.now c.push_args.new.words.items _ _ c.in_ok-reply.field-0 answer.Outside
    c.as_slice-memory.ensures.value c.as_slice-words.ensures.value c.in-Outside.is c.in_ok-reply.ensures)

pub returns-in-NoReply-clause-called : goal.returns-in-NoReply-clause-called
returns-in-NoReply-clause-called c =
    import_called c.args.m.now c.args.shows.now c.args.func c.args.args.now c.args.ty.now _ c.push_args.new.words.items answer.NoReply _ _
    (callable c.args.m.now c.args.shows.now c.args.func c.args.args.now _ c.args.ty.now c.requires.valid c.requires.may c.requires.typed) c.requires.imported c.requires.typed c.in_ok-push_args.ensures.held
    (asked c.args.m.now c.args.shows.now c.args.func c.args.ty.now c.as_slice-memory.result.now c.args.store.now.memory.items c.as_slice-words.result.now c.push_args.new.words.items _ _ c.in_ok-reply.field-0 answer.NoReply
    c.as_slice-memory.ensures.value c.as_slice-words.ensures.value c.in-NoReply.is c.in_ok-reply.ensures)
