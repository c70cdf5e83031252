use Rattle.zw_wasm_check.proofs.Ends.{else_some, else_none}
use Rattle.zw_wasm_check.proofs.stacks.Stacks.lacks_else.Goals as goal

pub returns-in-Some : goal.returns-in-Some
returns-in-Some c = λ outer. else_some c.args.self.now.control outer _ c.in-Some.is

pub returns-in-None : goal.returns-in-None
returns-in-None c = λ outer. else_none c.args.self.now.control outer c.in-None.is
