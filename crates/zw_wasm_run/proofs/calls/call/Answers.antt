use Rattle.std.proofs.Common.{◌≡◌, ◌+◌, ◌-◌, ◌<◌, ◌≤◌, ◌++◌, Some, None, length, refl, sym, ap, ◌∙◌, vec_capacity, arith, rules}
use Rattle.std.specs.Prelude.{slice_get}
use Rattle.zw_wasm.specs.Functions.{func_type}
use Rattle.zw_wasm.specs.Reduction.{arity_of}
use Rattle.zw_wasm_words.specs.Words.{zero_words}
use Rattle.zw_wasm_run.proofs.Calling.{bodiless, enters, frame_as, overflows, too_few}
use Rattle.zw_wasm_run.proofs.StepRooms.{of_any_error, wants_locals}
use Rattle.zw_wasm_run.proofs.calls.call.Goals as goal

pub returns-then-len-ge-MAX_FRAMES-clause-acts : goal.returns-then-len-ge-MAX_FRAMES-clause-acts
returns-then-len-ge-MAX_FRAMES-clause-acts c =
    let old = c.args.stacks.now in
    let is : func_type c.args.m.now c.args.func ≡ Some c.in-Some.ty.now = search rules in
    let full : 2100 ≤ length old.frames.items + 1 = search rules in
    overflows c.args.m.now c.args.func c.in-Some.ty.now old _ is c.requires.own full

pub returns-in_default-at-clause-acts : goal.returns-in_default-at-clause-acts
returns-in_default-at-clause-acts c =
    let old = c.args.stacks.now in
    let m = c.args.m.now in
    let is : func_type m c.args.func ≡ Some c.in-Some.ty.now = search rules in
    let room : length old.frames.items + 1 < 2100 = search rules in
    let none : slice_get m.codes (c.args.func - length m.imports) ≡ None = search rules in
    bodiless m c.args.func c.in-Some.ty.now old _ is c.requires.own room none

pub returns-then-len-clause-acts : goal.returns-then-len-clause-acts
returns-then-len-clause-acts c =
    let old = c.args.stacks.now in
    let m = c.args.m.now in
    let is : func_type m c.args.func ≡ Some c.in-Some.ty.now = search rules in
    let short : length old.words.items < length c.in-Some.ty.now.params = search rules in
    too_few m c.args.func c.in-Some.ty.now old _ is short

pub returns-clause-acts : goal.returns-clause-acts
returns-clause-acts c =
    let old = c.args.stacks.now in
    let m = c.args.m.now in
    let t = c.in-Some.ty.now in
    let b = c.in-Some-at.code.now in
    let f = c.args.func in
    let is : func_type m f ≡ Some t = search rules in
    let room : length old.frames.items + 1 < 2100 = search rules in
    let there : slice_get m.codes (f - length m.imports) ≡ Some b = search rules in
    let words : c.push_locals.new.stack.items ≡ old.words.items ++ zero_words b.locals = search rules in
    let arity : c.results.result ≡ arity_of (func_type m f) = c.results.ensures ∙ ap arity_of (sym is) in
    let body : c.args.func - c.len-2.result ≡ f - length m.imports = search rules in
    let locals : c.len-5.result - c.len-6.result ≡ length old.words.items - length t.params = search rules in
    let operands : c.len-7.result ≡ length c.push_locals.new.stack.items = search rules in
    let labels : c.len-8.result ≡ length old.labels.items = search rules in
    enters m f t b old _ is c.requires.own room there words c.in_ok-push.ensures.items refl
    (frame_as body arity locals operands labels)

pub returns-in_err-push_locals-clause-wants : goal.returns-in_err-push_locals-clause-wants
returns-in_err-push_locals-clause-wants c =
    let old = c.args.stacks.now in
    let m = c.args.m.now in
    let t = c.in-Some.ty.now in
    let b = c.in-Some-at.code.now in
    let f = c.args.func in
    let is : func_type m f ≡ Some t = search rules in
    let few : length old.frames.items + 1 < 2100 = search rules in
    let there : slice_get m.codes (f - length m.imports) ≡ Some b = search rules in
    let runs : c.as_slice-2.result.now ≡ b.locals = search rules in
    let full : vec_capacity old.words < length old.words.items + length (zero_words b.locals) =
    omega (arith, c.in_err-push_locals.ensures.wants, ap (λ l. length (zero_words l)) runs) in
    of_any_error c.from_residual.result (wants_locals m f t b old is c.requires.own few there full)
