use Rattle.std.proofs.Common.{◌≡◌, ◌+◌, ◌%◌, ◌^◌, ◌<◌, ◌++◌, [], ◌∷◌, length, get_or, None, Some, arith, sym, ap, subst, ◌∙◌, true, false}
use Rattle.std.proofs.lemmas.Option.{slice_get-get_or}
use Rattle.zw_wasm.specs.declared.module.ValType.TheVariants as ty
use Rattle.zw_wasm.specs.Signature.{bytes_at}
use Rattle.zw_wasm_run.specs.Calls.{is_shown}
use Rattle.zw_wasm_run.specs.Hosting.{numbers_held}
use Rattle.zw_wasm_run.proofs.ShownParts.{RangesSoFar, held_length, pair_inside, ranges_end, ranges_more, ranges_outside, ranges_skip}
use Rattle.zw_wasm_run.proofs.shown.ranges.Goals as goal
use Rattle.zw_wasm_run.proofs.shown.ranges.Goals.{then-is_shown+in-Some+in_ok-from_slice+in_ok-push, else-is_shown}

pub returns-in_default : goal.returns-in_default
returns-in_default c =
    let params = c.args.params.now in
    let words = c.args.words.now in
    let i = c.loop-at.at in
    let w = get_or words i 0 in
    let n = get_or words (i + 1) 0 in
    let shown : is_shown c.args.shows.now c.args.import i ≡ true = sym c.is_shown.ensures ∙ c.if-is_shown.true in
    let pair = c.requires.pairs i shown in
    let inside : i + 1 < length params = pair_inside params i pair in
    let outside : bytes_at c.args.memory.now (w % 2 ^ 32) (n % 2 ^ 32) ≡ None =
    ap (λ k. bytes_at c.args.memory.now k (n % 2 ^ 32)) (sym c.low.ensures) ∙ ap (bytes_at c.args.memory.now c.low.result) (sym c.low-then-is_shown.ensures) ∙ c.in_default.ensures in
    ranges_outside c.args.shows.now c.args.import c.args.memory.now params words i w n c.loop-at.shown pair.pointer pair.count
    (slice_get-get_or words i 0 (omega (arith, inside, c.requires.count))) (slice_get-get_or words (i + 1) 0 (omega (arith, inside, c.requires.count))) shown outside c.loop-at.invariant

pub loop-at-preserved : goal.loop-at-preserved
loop-at-preserved c =
    let params = c.args.params.now in
    let words = c.args.words.now in
    let i = c.loop-at.at in
    let w = get_or words i 0 in
    let n = get_or words (i + 1) 0 in
    elim c.if-is_shown.branch [
      | then-is_shown+in-Some+in_ok-from_slice+in_ok-push b ↦
          let shown : is_shown c.args.shows.now c.args.import i ≡ true = sym c.is_shown.ensures ∙ b.if-is_shown.true in
          let pair = c.requires.pairs i shown in
          let inside : i + 1 < length params = pair_inside params i pair in
          let bytes = b.in-Some.bytes.now in
          let there : bytes_at c.args.memory.now (w % 2 ^ 32) (n % 2 ^ 32) ≡ Some bytes =
          ap (λ k. bytes_at c.args.memory.now k (n % 2 ^ 32)) (sym b.low.ensures) ∙ ap (bytes_at c.args.memory.now b.low.result) (sym b.low-then-is_shown.ensures) ∙ b.in-Some.ensures in
          let is : c.if-is_shown.shown ≡ c.loop-at.shown ++ bytes ∷ [] = b.shown-is ∙ b.in_ok-push.ensures.ok ∙ ap (λ x. c.loop-at.shown ++ x ∷ []) b.in_ok-from_slice.ensures in
          subst (RangesSoFar c.args.shows.now c.args.import c.args.memory.now (numbers_held params words) (i + 1)) (sym is)
          (ranges_more c.args.shows.now c.args.import c.args.memory.now params words i w n c.loop-at.shown bytes pair.pointer pair.count
          (slice_get-get_or words i 0 (omega (arith, inside, c.requires.count))) (slice_get-get_or words (i + 1) 0 (omega (arith, inside, c.requires.count))) shown there c.loop-at.invariant)
      | else-is_shown b ↦
          let shown : is_shown c.args.shows.now c.args.import i ≡ false = sym c.is_shown.ensures ∙ b.if-is_shown.false in
          subst (RangesSoFar c.args.shows.now c.args.import c.args.memory.now (numbers_held params words) (i + 1)) (sym b.shown-is)
          (ranges_skip c.args.shows.now c.args.import c.args.memory.now params words i (get_or params i ty.I32) w c.loop-at.shown
          (slice_get-get_or params i ty.I32 c.loop-at-test.true) (slice_get-get_or words i 0 (omega (arith, c.loop-at-test.true, c.requires.count))) shown c.loop-at.invariant)
    ]

pub returns : goal.returns
returns c = ranges_end c.args.shows.now c.args.import c.args.memory.now (numbers_held c.args.params.now c.args.words.now) c.loop-at.at c.loop-at.shown (omega (arith, held_length c.args.params.now c.args.words.now c.requires.count)) c.loop-at.invariant
