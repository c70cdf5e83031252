use Rattle.std.proofs.Common.{◌≡◌, ◌+◌, ◌-◌, ◌<◌, ◌++◌, Some, length, refl, sym, ap, ◌∙◌, vec_capacity, arith, rules}
use Rattle.std.specs.Prelude.{slice_get}
use Rattle.zw_wasm.specs.Functions.{func_type}
use Rattle.zw_wasm.specs.Reduction.{arity_of}
use Rattle.zw_wasm_words.specs.Words.{zero_words}
use Rattle.zw_wasm_words.proofs.Holding.{hold_length}
use Rattle.zw_wasm_run.proofs.Calling.{frame_as}
use Rattle.zw_wasm_run.proofs.Entries.{begins, code_at}
use Rattle.zw_wasm_run.proofs.EntryRooms.{begins_beyond}
use Rattle.zw_wasm_run.proofs.StepRooms.{of_any_error}
use Rattle.zw_wasm_run.proofs.entry.begin.Goals as goal

pub returns-clause-begins : goal.returns-clause-begins
returns-clause-begins c =
    let m = c.args.m.now in
    let f = c.args.func in
    let b = c.index-as_slice-body.result in
    let body : f - c.len.result ≡ f - length m.imports = search rules in
    let there : slice_get m.codes (f - length m.imports) ≡ Some b =
    code_at m.codes c.as_slice.result.now (f - length m.imports) (f - c.len.result) b c.as_slice.ensures body c.requires.there c.index-as_slice-body.is in
    let words : c.push_locals.new.stack.items ≡ c.push_args.new.words.items ++ zero_words b.locals = search rules in
    let arity : c.results.result ≡ arity_of (func_type m f) = c.results.ensures ∙ ap arity_of (sym c.requires.typed) in
    let operands : c.len-2.result ≡ length c.push_locals.new.stack.items = search rules in
    begins m f c.args.args.now b c.push_args.new.words.items _ c.requires.own there c.in_ok-push_args.ensures.held words c.clear.ensures.items c.clear-2.ensures.items
    (frame_as body arity refl operands refl)

pub returns-in_err-push_args-clause-wants : goal.returns-in_err-push_args-clause-wants
returns-in_err-push_args-clause-wants c =
    let m = c.args.m.now in
    let f = c.args.func in
    let given = c.args.args.now in
    let b = c.index-as_slice-body.result in
    let there : slice_get m.codes (f - length m.imports) ≡ Some b =
    code_at m.codes c.as_slice.result.now (f - length m.imports) (f - c.len.result) b c.as_slice.ensures (search rules) c.requires.there c.index-as_slice-body.is in
    let full : vec_capacity c.args.stacks.now.words < length given + length (zero_words b.locals) = omega (arith, c.in_err-push_args.ensures.wants) in
    of_any_error c.from_residual.result (begins_beyond m f given b c.args.stacks.now c.requires.own there full)

pub returns-in_err-push_locals-clause-wants : goal.returns-in_err-push_locals-clause-wants
returns-in_err-push_locals-clause-wants c =
    let m = c.args.m.now in
    let f = c.args.func in
    let given = c.args.args.now in
    let b = c.index-as_slice-body.result in
    let there : slice_get m.codes (f - length m.imports) ≡ Some b =
    code_at m.codes c.as_slice.result.now (f - length m.imports) (f - c.len.result) b c.as_slice.ensures (search rules) c.requires.there c.index-as_slice-body.is in
    let runs : c.as_slice-2.result.now ≡ b.locals = search rules in
    let count = hold_length c.push_args.new.words.items given c.in_ok-push_args.ensures.held in
    let full : vec_capacity c.args.stacks.now.words < length given + length (zero_words b.locals) =
    omega (arith, c.in_err-push_locals.ensures.wants, ap (λ l. length (zero_words l)) runs, count, c.in_ok-push_args.ensures.room) in
    of_any_error c.from_residual-in_err-push_locals.result (begins_beyond m f given b c.args.stacks.now c.requires.own there full)
