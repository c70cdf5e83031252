use Rattle.std.proofs.Common.{◌≡◌, drop, arith, rules}
use Rattle.std.proofs.lemmas.Grind.{common_steps}
use Rattle.zw_wasm.specs.Structure.{Ends, code_of}
use Rattle.zw_wasm_run.specs.Running.{body_of}
use Rattle.zw_wasm_run.proofs.Ending.{ends_on}
use Rattle.zw_wasm_run.proofs.settle.settle.Goals as goal

pub ends-preserved : goal.ends-preserved
ends-preserved c =
    let m = c.args.code.now in
    let old = c.ends.stacks in
    let ended : code_of (drop old.frame.at (body_of m old.frame.body)) ≡ Ends = search rules in
    record {
      like = ends_on m c.args.stacks.now old c.end_one.new.stacks c.ends.invariant.like ended (search rules);
      room = grind (arith, common_steps);
      fewer = grind (arith, common_steps);
    }
