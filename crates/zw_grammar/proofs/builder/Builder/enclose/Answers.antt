use Rattle.std.proofs.Common.{◌≡◌, ℕ, suc, ◌+◌, ◌++◌, List, [], ◌∷◌, length, append_assoc, length-append, ap, ◌∙◌, arith}
use Rattle.zw_tree.specs.Trees.{count}
use Rattle.zw_grammar.specs.declared.builder.Built.{Built}
use Rattle.zw_grammar.specs.Building.{Begun}
use Rattle.zw_grammar.specs.Nodes.{all_nodes, nodes, opened}
use Rattle.zw_grammar.proofs.NodeLemmas.{length-nodes}
use Rattle.zw_grammar.proofs.builder.Builder.enclose.Goals as goal

pub returns : goal.returns
returns c = λ older b h none.
    let listed : c.args.self.now.nodes.items ≡ older ++ nodes b.ended = h.nodes ∙ ap (λ (begun : List Begun). older ++ all_nodes begun b.ended) none in
    let many : length c.args.self.now.nodes.items ≡ length older + length (nodes b.ended) = ap length listed ∙ length-append older (nodes b.ended) in
    let sized : c.saturating_add.result ≡ suc (count b.ended) = omega (arith, length-nodes b.ended, h.older_are) in
    let node : ℕ → Built = λ size. record { kind = c.args.kind; first = 0; last = c.args.last; size = size } in
    record {
      nodes = c.in_ok-push.ensures.items
          ∙ (ap (λ (list : List Built). list ++ (node c.saturating_add.result ∷ [])) listed
          ∙ (append_assoc older (nodes b.ended) _
          ∙ ap (λ (size : ℕ). older ++ (nodes b.ended ++ (node size ∷ []))) sized));
      opened = h.opened ∙ ap (opened (length older)) none;
      older_are = h.older_are;
      depth = h.depth;
      passed = h.passed;
    }
