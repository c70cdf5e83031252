use Rattle.std.proofs.Common.{List, ℕ, ◌++◌, ap, sym, take, ◌∙◌, arith}
use Rattle.zw_leb.proofs.LebSpellings.{length-unsigned, some-unsigned}
use Rattle.zw_leb.proofs.LebLemmas.{unsigned_last, unsigned_more, one_more, room_left, length_more}
use Rattle.zw_leb.proofs.put.put_u32.Goals as goal

pub push-requires : goal.push-requires
push-requires c = room_left _ _ _ _ c.loop-rest.invariant.0 c.loop-rest.invariant.1 (some-unsigned _) (length-unsigned _)

pub loop-rest-preserved : goal.loop-rest-preserved
loop-rest-preserved c = (
  one_more _ _ _ _ _ c.push.ensures.bytes
      (ap (λ (bytes : List ℕ). take c.loop-rest.leb.len c.loop-rest.leb.bytes ++ bytes) (sym (unsigned_more c.loop-rest.rest c.loop-rest-test.true (omega arith))) ∙ c.loop-rest.invariant.0),
  length_more _ _ _ _ _ c.push.ensures.bytes c.push.ensures.len c.loop-rest.invariant.1,
)

pub push-requires-2 : goal.push-requires-2
push-requires-2 c = room_left _ _ _ _ c.loop-rest.invariant.0 c.loop-rest.invariant.1 (some-unsigned _) (length-unsigned _)

pub returns : goal.returns
returns c =
    c.push-2.ensures.bytes ∙ (ap (λ (bytes : List ℕ). take c.loop-rest.leb.len c.loop-rest.leb.bytes ++ bytes) (sym (unsigned_last c.loop-rest.rest c.loop-rest-test.false)) ∙ c.loop-rest.invariant.0)
