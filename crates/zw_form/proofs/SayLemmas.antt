-- What a node says, by its number.
use Rattle.std.proofs.Common.{◌≡◌, ℕ, ℤ, ◌<◌, ◌≤◌, List, [], Option, Some, None, MatchOption, sym, ap, ◌∙◌, subst}
use Rattle.std.specs.Option.{option_map}
use Rattle.zw_tree.specs.Trees.{Forest, none, tree, count}
use Rattle.zw_tree.specs.Numbering.{from, first_root, inside_first, node_at, child, siblings, after}
use Rattle.zw_tree.specs.declared.ast.Entry.{Entry}
use Rattle.zw_tree.specs.declared.ast.Node.{Node}
use Rattle.zw_tree.proofs.Subtrees.{node-root}
use Rattle.zw_form.specs.Nodes.{role_of, role_at, name_at, number_at, token_at}
use Rattle.zw_form.specs.declared.roles.Role.TheVariants as role
use Rattle.zw_tree.proofs.Standing.{from-past, child-is, inside-past, after-none}

root-role : (f : Forest Entry) (node : Node) → option_map (λ (e : Entry). e.node) (first_root f) ≡ Some node → role_of node.kind ≡ role_at f
root-role none node h = absurd (cc)
root-role (tree root below behind) node h = let same : root.node ≡ node = cc in ap (λ (n : Node). role_of n.kind) (sym same)

root-token : (f : Forest Entry) (node : Node) → option_map (λ (e : Entry). e.node) (first_root f) ≡ Some node → node.first ≡ token_at f
root-token none node h = absurd (cc)
root-token (tree root below behind) node h = let same : root.node ≡ node = cc in ap (λ (n : Node). n.first) (sym same)

root-name : (f : Forest Entry) (name : List ℕ) → option_map (λ (e : Entry). e.name) (first_root f) ≡ Some name → name ≡ name_at f
root-name none name h = absurd (cc)
root-name (tree root below behind) name h = cc

root-number : (f : Forest Entry) (number : Option ℤ) → option_map (λ (e : Entry). e.number) (first_root f) ≡ Some number → number ≡ number_at f
root-number none number h = absurd (cc)
root-number (tree root below behind) number h = cc

module _ (forest : Forest Entry) (n : ℕ) where
  pub role-is : n < count forest → (node : Node) → option_map (λ (e : Entry). e.node) (node_at forest n) ≡ Some node → role_of node.kind ≡ role_at (from forest n)
  role-is lt node h = root-role (from forest n) node (ap (option_map (λ (e : Entry). e.node)) (sym (node-root forest n lt)) ∙ h)

  pub token-is : n < count forest → (node : Node) → option_map (λ (e : Entry). e.node) (node_at forest n) ≡ Some node → node.first ≡ token_at (from forest n)
  token-is lt node h = root-token (from forest n) node (ap (option_map (λ (e : Entry). e.node)) (sym (node-root forest n lt)) ∙ h)

  pub name-is : n < count forest → (name : List ℕ) → option_map (λ (e : Entry). e.name) (node_at forest n) ≡ Some name → name ≡ name_at (from forest n)
  name-is lt name h = root-name (from forest n) name (ap (option_map (λ (e : Entry). e.name)) (sym (node-root forest n lt)) ∙ h)

  pub number-is : n < count forest → (number : Option ℤ) → option_map (λ (e : Entry). e.number) (node_at forest n) ≡ Some number → number ≡ number_at (from forest n)
  number-is lt number h = root-number (from forest n) number (ap (option_map (λ (e : Entry). e.number)) (sym (node-root forest n lt)) ∙ h)

  -- a number past the last node says nothing
  pub role-past : count forest ≤ n → role.Other ≡ role_at (from forest n)
  role-past past = ap role_at (sym (from-past forest n past))

  pub token-past : count forest ≤ n → 0 ≡ token_at (from forest n)
  token-past past = ap token_at (sym (from-past forest n past))

  pub name-past : count forest ≤ n → [] ≡ name_at (from forest n)
  name-past past = ap name_at (sym (from-past forest n past))

  pub number-past : count forest ≤ n → None ≡ number_at (from forest n)
  number-past past = ap number_at (sym (from-past forest n past))

  pub siblings-past : count forest ≤ n → [] ≡ siblings (inside_first (from forest n))
  siblings-past past = ap siblings (sym (inside-past forest n past))

  pub after-past : (k : ℕ) → count forest ≤ n → after k (inside_first (from forest n)) ≡ none
  after-past k past = ap (after k) (inside-past forest n past) ∙ after-none k

  pub child-at : (k : ℕ) (result : Option ℕ) → result ≡ child forest n k → MatchOption result (after k (inside_first (from forest n)) ≡ none) (λ c. (from forest c ≡ after k (inside_first (from forest n))) × (0 < count (from forest c)))
  child-at k result is = subst (λ (o : Option ℕ). MatchOption o (after k (inside_first (from forest n)) ≡ none) (λ c. (from forest c ≡ after k (inside_first (from forest n))) × (0 < count (from forest c)))) (sym is) (child-is forest n k)
