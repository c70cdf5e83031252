use Rattle.std.proofs.Common.{[], append-nil, refl, sym, ◌∙◌, arith}
use Rattle.zw_files.specs.Discovery.{here}
use Rattle.zw_files.specs.Gathering.{past, found_in}
use Rattle.zw_files.proofs.TurnLemmas.{next-left, passes-next, stops-next, takes-grows}
use Rattle.zw_files.proofs.gathering.discover.Goals as goal

pub loop-file-init : goal.loop-file-init
loop-file-init g c = record {
  passes = record { files = []; loads = sym (append-nil (g.T.Tree.loaded c.args.tree.now)); leads = here };
  within = c.requires;
  same = refl;
}

pub returns-in-Err-clause-stops : goal.returns-in-Err-clause-stops
returns-in-Err-clause-stops g c =
    let passes = c.loop-file.invariant.passes in
    record { files = passes.files; loads = passes.loads; begins = past passes.leads }

pub take-requires-clause-one_left : goal.take-requires-clause-one_left
take-requires-clause-one_left g c =
    let there = rw c.in-Ok-Some.field-0-is at c.in-Ok-Some.ensures in
    next-left (found_in c.loop-file.files) _ _ there

pub returns-in-Err-take-clause-stops : goal.returns-in-Err-take-clause-stops
returns-in-Err-take-clause-stops g c =
    let there = rw c.in-Ok-Some.field-0-is at c.in-Ok-Some.ensures in
    stops-next c.args.root.now (found_in c.args.files.now) (found_in c.loop-file.files) (g.T.Tree.loaded c.args.tree.now) (g.T.Tree.loaded c.loop-file.tree) (g.T.Tree.loaded c.take.new.tree)
    c.loop-file.invariant.passes _ _ c.in-Err-take.e there (next-left (found_in c.loop-file.files) _ _ there) c.in-Err-take.ensures.stops

pub loop-file-smaller : goal.loop-file-smaller
loop-file-smaller g c =
    let there = rw c.in-Ok-Some.field-0-is at c.in-Ok-Some.ensures in
    let left = next-left (found_in c.loop-file.files) _ _ there in
    let grown = takes-grows c.args.root.now (found_in c.loop-file.files) _ _ c.in-Ok.ensures.passes.0 (found_in c.take.new.files) c.in-Ok.ensures.passes.2 in
    omega (arith, left, grown, c.loop-file.invariant.within.few)

pub loop-file-preserved : goal.loop-file-preserved
loop-file-preserved g c =
    let there = rw c.in-Ok-Some.field-0-is at c.in-Ok-Some.ensures in
    record {
      passes =
          passes-next c.args.root.now (found_in c.args.files.now) (found_in c.loop-file.files) (g.T.Tree.loaded c.args.tree.now) (g.T.Tree.loaded c.loop-file.tree) (g.T.Tree.loaded c.take.new.tree)
          c.loop-file.invariant.passes _ _ (found_in c.take.new.files) there c.in-Ok.ensures.passes;
      within = c.in-Ok.ensures.within;
      same = c.in-Ok.ensures.cause ∙ c.loop-file.invariant.same;
    }
