use Rattle.std.proofs.Common.{◌<◌, length, arith}
use Rattle.zw_tree.specs.Numbering.{from}
use Rattle.zw_form.specs.Nodes.{param_of}
use Rattle.zw_form.proofs.FunctionLemmas.{each-none}
use Rattle.zw_form.proofs.functions.read_params.Goals as goal

pub returns-in_default : goal.returns-in_default
returns-in_default c =
    let within : c.loop-n.n-index < length c.args.nodes.now = omega arith in
    each-none param_of (from c.args.ast.now) c.args.nodes.now c.loop-n.n-index c.loop-n.names _ c.loop-n.invariant within c.in_default.ensures
