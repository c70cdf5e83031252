use Rattle.std.proofs.Common.{◌∙◌, sym}
use Rattle.zw_scope.proofs.MemberLemmas.{named-is, no-named}
use Rattle.zw_scope.proofs.members.Members.names.Goals as goal

pub returns-in-Some : goal.returns-in-Some
returns-in-Some c = λ file s are got. named-is file c.args.self.now are c.args.node s got c.in-Some.named (sym c.named_at.ensures ∙ c.in-Some.is)

pub returns-in-None : goal.returns-in-None
returns-in-None c = λ file s are got. absurd (no-named file c.args.self.now are c.args.node s got (sym c.named_at.ensures ∙ c.in-None.is))
