use Rattle.std.proofs.Common.{◌+◌, ◌<◌, length, take, get_or, refl, sym, subst, vec_capacity, arith}
use Rattle.std.proofs.lemmas.List.{length-take}
use Rattle.zw_wasm.specs.declared.num.Num.TheVariants.{I32}
use Rattle.zw_wasm_words.specs.Words.{Hold}
use Rattle.zw_wasm_words.proofs.Holding.{hold_length}
use Rattle.zw_wasm_run.proofs.Entries.{args_more}
use Rattle.zw_wasm_run.proofs.StepRooms.{of_any_error}
use Rattle.zw_wasm_run.proofs.entry.push_args.Goals as goal

pub loop-arg-preserved : goal.loop-arg-preserved
loop-arg-preserved c = record {
  held =
      subst (λ ws. Hold ws (take (c.loop-arg.arg-index + 1) c.args.args.now)) (sym c.in_ok-push.ensures.items)
      (args_more c.loop-arg.words.items c.args.args.now c.loop-arg.arg-index c.word_of.result (get_or c.args.args.now c.loop-arg.arg-index (I32 0)) (I32 0) c.loop-arg-test.true refl c.word_of.ensures c.loop-arg.invariant.held);
  room = omega (arith, c.loop-arg.invariant.room, c.in_ok-push.ensures.capacity);
}

pub returns-in_err-push-clause-wants : goal.returns-in_err-push-clause-wants
returns-in_err-push-clause-wants c =
    let i = c.loop-arg.arg-index in
    let args = c.args.args.now in
    let words = c.loop-arg.words in
    let full : vec_capacity c.args.words.now < length args =
    omega (arith, c.loop-arg.invariant.room, c.in_err-push.ensures.full, words.ok.0, hold_length words.items (take i args) c.loop-arg.invariant.held, length-take i args, c.loop-arg-test.true) in
    of_any_error c.from_residual.result full
