use Rattle.std.proofs.Common.{◌≡◌, ℕ, ◌-◌, ◌<◌, ◌++◌, List, [], ◌∷◌, length, take, drop, None, Some, refl, ap, subst, ◌∙◌, rules}
use Rattle.std.proofs.lemmas.List.{take_rest}
use Rattle.zw_wasm.specs.Functions.{func_type}
use Rattle.zw_wasm.specs.declared.module.FuncType.{FuncType}
use Rattle.zw_wasm.specs.declared.module.Module.{Module}
use Rattle.zw_wasm_run.specs.declared.ask.Answer.{Answer}
use Rattle.zw_wasm_run.specs.declared.ask.Answer.TheVariants as answer
use Rattle.zw_wasm_run.specs.declared.machine.Show.{Show}
use Rattle.zw_wasm_run.specs.Hosting.{AsksHost, HostState, numbers_held}
use Rattle.zw_wasm_run.proofs.HostCalls.{append_nothing, host_ends, host_short}
use Rattle.zw_wasm_run.proofs.host.call_host.Goals as goal

-- the last words, as they are read
words_read : (s words : List ℕ) (a b n : ℕ) → s ≡ words → a ≡ length words → b ≡ n → take (length s - (a - b)) (drop (a - b) s) ≡ drop (length words - n) words
words_read s words a b n value len count =
    take_rest s (a - b) ∙ ap (drop (a - b)) value ∙ ap (λ k. drop (k - b) words) len ∙ ap (λ k. drop (length words - k) words) count

words_left : (new words : List ℕ) (a b n : ℕ) → new ≡ take (a - b) words → a ≡ length words → b ≡ n → new ≡ take (length words - n) words
words_left new words a b n is len count = is ∙ ap (λ k. take (k - b) words) len ∙ ap (λ k. take (length words - k) words) count

-- what the host answered to the words, as they were read
asked_with : (m : Module) (shows : List Show) (import : ℕ) (t : FuncType) (memory read words : List ℕ) (old new : HostState) (a x : Answer) → read ≡ words → a ≡ x
    → AsksHost m shows import t memory (numbers_held t.params read) old a new → AsksHost m shows import t memory (numbers_held t.params words) old x new
asked_with m shows import t memory read words old new a x held is asks =
    subst (λ (y : Answer). AsksHost m shows import t memory (numbers_held t.params words) old y new) is
    (subst (λ (ws : List ℕ). AsksHost m shows import t memory (numbers_held t.params ws) old a new) held asks)

pub returns-then-len-clause-calls : goal.returns-then-len-clause-calls
returns-then-len-clause-calls c =
    let is : func_type c.args.m.now c.args.import ≡ Some c.in-Some.ty.now = search rules in
    let short : length c.args.stacks.now.words.items < length c.in-Some.ty.now.params = search rules in
    host_short c.args.m.now c.args.shows.now c.args.import c.args.memory.now c.in-Some.ty.now c.args.stacks.now _ _ _ is c.requires.imported short refl

pub returns-in_ok-push-in-Goes-clause-calls : goal.returns-in_ok-push-in-Goes-clause-calls
returns-in_ok-push-in-Goes-clause-calls c =
    let t = c.in-Some.ty.now in
    let words = c.args.stacks.now.words.items in
    let is : func_type c.args.m.now c.args.import ≡ Some t = search rules in
    let value : c.as_slice.result.now ≡ words = search rules in
    let len : c.len-3.result ≡ length words = search rules in
    let count : c.len-4.result ≡ length t.params = search rules in
    let a : c.in_ok-reply.field-0 ≡ answer.Goes (Some c.in-Some-reply.reply) = c.in-Goes.is ∙ ap (λ r. answer.Goes r) c.in-Some-reply.is in
    let read = words_read c.as_slice.result.now words c.len-3.result c.len-4.result (length t.params) value len count in
    let left = words_left c.truncate.new.self.items words c.len-3.result c.len-4.result (length t.params) c.truncate.ensures.items len count in
    host_ends c.args.m.now c.args.shows.now c.args.import t c.args.memory.now c.args.stacks.now _ _ _ (answer.Goes (Some c.in-Some-reply.reply)) is c.requires.imported
    (asked_with _ _ _ _ _ _ _ _ _ _ _ read a c.in_ok-reply.ensures)
    refl refl refl (c.in_ok-push-in-Goes.ensures.items ∙ ap (λ ws. ws ++ c.in-Some-reply.reply ∷ []) left)

pub returns-in_default-reply-clause-calls : goal.returns-in_default-reply-clause-calls
returns-in_default-reply-clause-calls c =
    let t = c.in-Some.ty.now in
    let words = c.args.stacks.now.words.items in
    let is : func_type c.args.m.now c.args.import ≡ Some t = search rules in
    let value : c.as_slice.result.now ≡ words = search rules in
    let len : c.len-3.result ≡ length words = search rules in
    let count : c.len-4.result ≡ length t.params = search rules in
    let a : c.in_ok-reply.field-0 ≡ answer.Goes None = c.in-Goes.is ∙ ap (λ r. answer.Goes r) c.in_default-reply.is in
    let read = words_read c.as_slice.result.now words c.len-3.result c.len-4.result (length t.params) value len count in
    let left = words_left c.truncate.new.self.items words c.len-3.result c.len-4.result (length t.params) c.truncate.ensures.items len count in
    host_ends c.args.m.now c.args.shows.now c.args.import t c.args.memory.now c.args.stacks.now _ _ _ (answer.Goes None) is c.requires.imported
    (asked_with _ _ _ _ _ _ _ _ _ _ _ read a c.in_ok-reply.ensures)
    refl refl refl (left ∙ append_nothing (take (length words - length t.params) words))

pub returns-in-Outside-clause-calls : goal.returns-in-Outside-clause-calls
returns-in-Outside-clause-calls c =
    let t = c.in-Some.ty.now in
    let words = c.args.stacks.now.words.items in
    let is : func_type c.args.m.now c.args.import ≡ Some t = search rules in
    let value : c.as_slice.result.now ≡ words = search rules in
    let len : c.len-3.result ≡ length words = search rules in
    let count : c.len-4.result ≡ length t.params = search rules in
    let read = words_read c.as_slice.result.now words c.len-3.result c.len-4.result (length t.params) value len count in
    host_ends c.args.m.now c.args.shows.now c.args.import t c.args.memory.now c.args.stacks.now _ _ _ answer.Outside is c.requires.imported
    (asked_with _ _ _ _ _ _ _ _ _ _ _ read c.in-Outside.is c.in_ok-reply.ensures)
    refl refl refl tt

pub returns-in-NoReply-clause-calls : goal.returns-in-NoReply-clause-calls
returns-in-NoReply-clause-calls c =
    let t = c.in-Some.ty.now in
    let words = c.args.stacks.now.words.items in
    let is : func_type c.args.m.now c.args.import ≡ Some t = search rules in
    let value : c.as_slice.result.now ≡ words = search rules in
    let len : c.len-3.result ≡ length words = search rules in
    let count : c.len-4.result ≡ length t.params = search rules in
    let read = words_read c.as_slice.result.now words c.len-3.result c.len-4.result (length t.params) value len count in
    host_ends c.args.m.now c.args.shows.now c.args.import t c.args.memory.now c.args.stacks.now _ _ _ answer.NoReply is c.requires.imported
    (asked_with _ _ _ _ _ _ _ _ _ _ _ read c.in-NoReply.is c.in_ok-reply.ensures)
    refl refl refl tt
