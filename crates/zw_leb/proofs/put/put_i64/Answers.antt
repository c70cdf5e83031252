use Rattle.std.proofs.Common.{rules, inl, inr, w64, to_z, ◌∙◌, SFits}
use Rattle.std.proofs.lemmas.Int.{to_z-of_z}
use Rattle.zw_leb.proofs.LebSpellings.{length-signed, some-signed}
use Rattle.zw_leb.proofs.LebLemmas.{long_step, last_step, room_left, length_more}
use Rattle.zw_leb.proofs.put.put_i64.Goals as goal
use Rattle.zw_leb.proofs.put.put_i64.Goals.{then-rest-ltminus64, else-rest-ltminus64+then-rest-ge64}

pub push-requires : goal.push-requires
push-requires c = room_left _ _ _ _ c.loop-rest.invariant.0 c.loop-rest.invariant.1 (some-signed _) (length-signed _)

pub loop-rest-preserved : goal.loop-rest-preserved
loop-rest-preserved c =
    let fits : SFits w64 (to_z w64 c.loop-rest.rest-bits) = search rules in
    let left_fits : SFits w64 c.div_euclid-rest.result = search rules in (
      long_step _ _ _ _ _ _ c.push.ensures.bytes c.rem_euclid.ensures.value c.div_euclid-rest.ensures left_fits
          (elim c.if-rest-ltminus64.branch [ then-rest-ltminus64 w ↦ inl w.if-rest-ltminus64.true | else-rest-ltminus64+then-rest-ge64 w ↦ inr w.if-rest-ge64.true ])
          fits c.loop-rest.invariant.0,
      length_more _ _ _ _ _ c.push.ensures.bytes c.push.ensures.len c.loop-rest.invariant.1,
    )

pub push-requires-2 : goal.push-requires-2
push-requires-2 c = room_left _ _ _ _ c.loop-rest.invariant.0 c.loop-rest.invariant.1 (some-signed _) (length-signed _)

pub returns : goal.returns
returns c =
    let fits : SFits w64 c.args.v = c.ranges.v in
    last_step _ _ _ _ _ c.push-2.ensures.bytes c.rem_euclid-2.ensures.value c.if-rest-ltminus64.false c.if-rest-ge64.false c.loop-rest.invariant.0 ∙ simp to_z-of_z
