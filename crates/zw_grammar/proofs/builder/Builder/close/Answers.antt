use Rattle.std.proofs.Common.{arith, sym, ◌∙◌}
use Rattle.zw_grammar.proofs.NodeLemmas.{closes}
use Rattle.zw_grammar.proofs.builder.Builder.close.Goals as goal

pub returns : goal.returns
returns c = λ older b h.
    let closed = closes older b.begun b c.args.last c.saturating_add.result c.args.self.now.nodes.items c.push.new.self.items c.pop.new.self.items c.in-Some.opened
    h.nodes (sym c.in-Some.ensures.items ∙ h.opened) (omega arith) c.in_ok-push.ensures.items in
    record { nodes = closed.nodes; opened = closed.opened; older_are = h.older_are; depth = h.depth ∙ closed.depth; passed = h.passed ∙ closed.passed }
