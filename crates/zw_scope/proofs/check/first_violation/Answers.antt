use Rattle.std.proofs.Common.{List, Bool, sym, subst, arith}
use Rattle.zw_scope.specs.NameRules.{mentioned}
use Rattle.zw_scope_sites.specs.Scopes.{all_standing}
use Rattle.zw_scope.specs.Telling.{AreMarks}
use Rattle.zw_scope.proofs.CheckLemmas.{violations-next, violations-whole}
use Rattle.zw_scope_sites.proofs.PlaceLemmas.{node-placed}
use Rattle.zw_scope.proofs.check.first_violation.Goals as goal

pub loop-n-preserved : goal.loop-n-preserved
loop-n-preserved c =
    let file = c.args.ast.now in
    let r = node-placed file c.loop-n.n (omega arith) in
    let marks = subst (λ (xs : List Bool). AreMarks file xs (mentioned (all_standing file))) (sym c.as_slice.ensures.value) c.in_ok-marks.ensures in
    violations-next file c.loop-n.n r.0 (r.1).got c.in_ok-first.first (c.in_ok-first.ensures (mentioned (all_standing file)) r.0 _ marks (r.1).got c.loop-n.invariant)

pub returns : goal.returns
returns c = violations-whole c.args.ast.now c.loop-n.n (omega arith) c.loop-n.first c.loop-n.invariant
