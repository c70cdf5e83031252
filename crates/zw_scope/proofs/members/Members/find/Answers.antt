use Rattle.std.proofs.Common.{◌∙◌, suc, sym, ap}
use Rattle.std.specs.Option.{option_map}
use Rattle.zw_tree.specs.Numbering.{below}
use Rattle.zw_scope_sites.specs.Scopes.{declared}
use Rattle.zw_scope_sites.specs.declared.lists.Binding.{Binding}
use Rattle.zw_scope.proofs.MemberLemmas.{head-declares, no-head}
use Rattle.zw_scope.proofs.members.Members.find.Goals as goal

pub returns-in_default : goal.returns-in_default
returns-in_default c = λ file are lt. absurd (no-head file c.args.self.now are c.args.container lt (sym c.head_at.ensures ∙ c.in_default.is))

pub returns-in-Some-innermost : goal.returns-in-Some-innermost
returns-in-Some-innermost c = λ file are lt.
    let list = head-declares file c.args.self.now are c.args.container lt c.in-Some.head (sym c.head_at.ensures ∙ c.in-Some.is) in
    sym (ap (option_map (λ (b : Binding). b.node)) (c.in-Some-innermost.ensures (declared (suc c.args.container) (below file c.args.container)) list))

pub returns-in-None : goal.returns-in-None
returns-in-None c = λ file are lt.
    let list = head-declares file c.args.self.now are c.args.container lt c.in-Some.head (sym c.head_at.ensures ∙ c.in-Some.is) in
    sym (ap (option_map (λ (b : Binding). b.node)) (c.in-None.ensures (declared (suc c.args.container) (below file c.args.container)) list))
