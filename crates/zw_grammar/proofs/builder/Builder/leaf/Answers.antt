use Rattle.std.proofs.Common.{◌++◌, List, [], ◌∷◌, append_assoc, ap, sym, ◌∙◌}
use Rattle.zw_tree.specs.Trees.{none, tree}
use Rattle.zw_grammar.specs.declared.builder.Built.{Built}
use Rattle.zw_grammar.specs.Nodes.{all_nodes}
use Rattle.zw_grammar.proofs.NodeLemmas.{all_nodes-beside}
use Rattle.zw_grammar.proofs.builder.Builder.leaf.Goals as goal

pub returns : goal.returns
returns c = λ older b h.
    record {
      nodes = c.in_ok-push.ensures.items ∙ (ap (λ (list : List Built). list ++ (record { kind = c.args.kind; first = c.args.place; last = c.args.place; size = 1 } ∷ [])) h.nodes
          ∙ (append_assoc older (all_nodes b.begun b.ended) _ ∙ ap (λ (list : List Built). older ++ list) (sym (all_nodes-beside b.begun b.ended (tree _ none none)))));
      opened = h.opened;
      older_are = h.older_are;
      depth = h.depth;
      passed = h.passed;
    }
