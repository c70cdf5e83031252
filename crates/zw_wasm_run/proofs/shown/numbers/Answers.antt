use Rattle.std.proofs.Common.{◌≡◌, ◌+◌, ◌++◌, [], ◌∷◌, get_or, arith, sym, ap, subst, ◌∙◌, true, false}
use Rattle.std.proofs.lemmas.Option.{slice_get-get_or}
use Rattle.zw_wasm.specs.declared.module.ValType.TheVariants as ty
use Rattle.zw_wasm.specs.Structure.{number}
use Rattle.zw_wasm_words.specs.Words.{bits_in}
use Rattle.zw_wasm_run.specs.Hosting.{is_part, numbers_held}
use Rattle.zw_wasm_run.proofs.ShownParts.{NumbersSoFar, held_length, numbers_end, numbers_more, numbers_skip}
use Rattle.zw_wasm_run.proofs.shown.numbers.Goals as goal
use Rattle.zw_wasm_run.proofs.shown.numbers.Goals.{then-not-is_part+in_ok-push, else-not-is_part}

pub loop-at-preserved : goal.loop-at-preserved
loop-at-preserved c =
    let params = c.args.params.now in
    let words = c.args.words.now in
    let i = c.loop-at.at in
    let t = get_or params i ty.I32 in
    let w = get_or words i 0 in
    elim c.if-not-is_part.branch [
      | then-not-is_part+in_ok-push b ↦
          let part : is_part c.args.shows.now c.args.import i ≡ false = sym c.is_part.ensures ∙ b.if-not-is_part.true in
          let is : c.if-not-is_part.numbers ≡ c.loop-at.numbers ++ number t (bits_in t w) ∷ [] = b.numbers-is ∙ b.in_ok-push.ensures.ok ∙ ap (λ x. c.loop-at.numbers ++ x ∷ []) b.number.ensures in
          subst (NumbersSoFar c.args.shows.now c.args.import (numbers_held params words) (i + 1)) (sym is)
          (numbers_more c.args.shows.now c.args.import params words i t w c.loop-at.numbers
          (slice_get-get_or params i ty.I32 c.loop-at-test.true) (slice_get-get_or words i 0 (omega (arith, c.loop-at-test.true, c.requires.count))) part c.loop-at.invariant)
      | else-not-is_part b ↦
          let part : is_part c.args.shows.now c.args.import i ≡ true = sym c.is_part.ensures ∙ b.if-not-is_part.false in
          subst (NumbersSoFar c.args.shows.now c.args.import (numbers_held params words) (i + 1)) (sym b.numbers-is)
          (numbers_skip c.args.shows.now c.args.import params words i t w c.loop-at.numbers
          (slice_get-get_or params i ty.I32 c.loop-at-test.true) (slice_get-get_or words i 0 (omega (arith, c.loop-at-test.true, c.requires.count))) part c.loop-at.invariant)
    ]

pub returns : goal.returns
returns c = numbers_end c.args.shows.now c.args.import (numbers_held c.args.params.now c.args.words.now) c.loop-at.at c.loop-at.numbers (omega (arith, held_length c.args.params.now c.args.words.now c.requires.count)) c.loop-at.invariant
