use Rattle.std.proofs.Common.{◌≡◌, ℕ, ◌+◌, ◌-◌, ◌++◌, List, [], ◌∷◌, length, append_assoc, length-append, sym, ap, ◌∙◌}
use Rattle.zw_tree.specs.Trees.{Forest, trees}
use Rattle.zw_grammar.specs.declared.builder.Built.{Built}
use Rattle.zw_grammar.specs.declared.builder.Opened.{Opened}
use Rattle.zw_grammar.specs.Building.{Span, front, rest, start_of}
use Rattle.zw_grammar.specs.Nodes.{nodes, all_nodes, older_nodes, opened}
use Rattle.zw_grammar.proofs.NodeLemmas.{all_nodes-beside, older-nodes}
use Rattle.zw_grammar.proofs.TreeLemmas.{whole}
use Rattle.zw_grammar.proofs.builder.Builder.wrap.Goals as goal

pub returns : goal.returns
returns c = λ older b h.
    let k = trees b.ended - c.args.count in
    let others = older ++ older_nodes b.begun in
    let behind : (ended : Forest Span) → older ++ all_nodes b.begun ended ≡ others ++ nodes ended =
    λ ended. ap (λ (l : List Built). older ++ l) (older-nodes b.begun ended) ∙ sym (append_assoc older (older_nodes b.begun) (nodes ended)) in
    let list : c.as_slice-2.result.now ≡ others ++ nodes b.ended = c.as_slice-2.ensures.value ∙ (h.nodes ∙ behind b.ended) in
    let begins : c.as_slice.result.now ≡ opened c.args.self.now.older b.begun =
    c.as_slice.ensures.value ∙ (h.opened ∙ ap (λ (n : ℕ). opened n b.begun) (sym h.older_are)) in
    let least : c.nodes_before-least.result ≡ length others =
    c.nodes_before-least.ensures b.begun begins ∙ (ap (λ (n : ℕ). n + length (older_nodes b.begun)) h.older_are ∙ sym (length-append older (older_nodes b.begun))) in
    let last = c.last_trees-first.ensures others b.ended list least in
    let count : length (others ++ nodes (front k b.ended)) ≡ length older + length (all_nodes b.begun (front k b.ended)) =
    ap length (sym (behind (front k b.ended))) ∙ length-append older (all_nodes b.begun (front k b.ended)) in
    let node : record { kind = c.args.kind; first = c.last_trees-first.result.0; before = c.last_trees-first.result.1 }
    ≡ record { kind = c.args.kind; first = start_of c.args.at (rest k b.ended); before = length older + length (all_nodes b.begun (front k b.ended)) } = cc (last.0, last.1, count) in
    record {
      nodes = h.nodes ∙ ap (λ (l : List Built). older ++ l) (ap (λ (f : Forest Span). all_nodes b.begun f) (whole k b.ended) ∙ all_nodes-beside b.begun (front k b.ended) (rest k b.ended));
      opened = c.in_ok-push.ensures.items ∙ (ap (λ (l : List Opened). l ++ (record { kind = c.args.kind; first = c.last_trees-first.result.0; before = c.last_trees-first.result.1 } ∷ [])) h.opened
          ∙ ap (λ (n : Opened). opened (length older) b.begun ++ (n ∷ [])) node);
      older_are = h.older_are;
      depth = h.depth;
      passed = h.passed;
    }
