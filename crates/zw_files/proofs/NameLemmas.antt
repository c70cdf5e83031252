-- The rules on names in the tree of a text: each node of the tree of a text has the place of its first token, so there is one stop
-- by them at most.
use Rattle.std.proofs.Common.{◌≡◌, ℕ, zero, suc, ◌+◌, ◌-◌, ◌<◌, List, [], ◌∷◌, take, drop, length, refl, sym, ap, ◌∙◌, subst, arith}
use Rattle.zw_base.specs.declared.stop.Stop.{Stop}
use Rattle.zw_base.specs.declared.stop.StopKind.TheVariants.{Error}
use Rattle.zw_grammar.specs.Building.{Span}
use Rattle.zw_grammar.specs.Orders.{AreInOrder}
use Rattle.zw_parse.proofs.SyntaxLemmas.{tree_order}
use Rattle.zw_parse.specs.Entries.{entry_at, first_start}
use Rattle.zw_parse.specs.Syntax.{IsTreeOf, tree_of_file}
use Rattle.zw_parse_expr.specs.Lexemes.{lexemes}
use Rattle.zw_scope.proofs.ToldAtNodes.{Throughout, told-at_nodes}
use Rattle.zw_scope.proofs.Violations.{one-first}
use Rattle.zw_scope.specs.NameRules.{IsNameStop}
use Rattle.zw_token.specs.Tokens.{place_at}
use Rattle.zw_token.specs.declared.token.Token.{Token}
use Rattle.zw_tree.specs.Trees.{Forest, none, tree, map_forest}
use Rattle.zw_tree.specs.declared.ast.Entry.{Entry}

-- each node has the place of its first token
module _ (file : ℕ) (text : List ℕ) (tokens : List Token) where
  abbrev IsPlaced : Entry → Type 0
  IsPlaced entry = entry.node.place ≡ place_at file text (first_start (drop entry.node.first tokens))

  first-own : (list : List Token) (n : ℕ) → 0 < n → first_start (take n list) ≡ first_start list
  first-own list zero some = absurd (omega arith)
  first-own [] (suc n) some = refl
  first-own (token ∷ list) (suc n) some = refl

  all-placed : (from : ℕ) (f : Forest Span) (to : ℕ) → AreInOrder from f to → Throughout IsPlaced (map_forest (entry_at file text tokens) f)
  all-placed from none to o = tt
  all-placed from (tree root below behind) to o =
      let some : 0 < root.last + 1 - root.first = omega (arith, o.1) in
      (ap (place_at file text) (first-own (drop root.first tokens) (root.last + 1 - root.first) some), all-placed root.first below (suc root.last) o.2, all-placed (suc root.last) behind to o.3)

  pub one-name_stop : (forest : Forest Entry) (s t : Stop) → IsTreeOf file text tokens forest → IsNameStop forest s → IsNameStop forest t → s ≡ t
  one-name_stop forest s t h (v, first, s_is) (w, other, t_is) =
      let list = lexemes text tokens in
      let placed : Throughout IsPlaced forest = subst (Throughout IsPlaced) (sym h.is) (all-placed 0 (tree_of_file list h.building) (length list) (tree_order list h.building h.reads)) in
      let same = one-first forest v w first other in
      let here : IsPlaced v.at = told-at_nodes IsPlaced forest v placed first.broken in
      let there : IsPlaced w.at = told-at_nodes IsPlaced forest w placed other.broken in
      let place : v.at.node.place ≡ w.at.node.place = here ∙ ap (λ n. place_at file text (first_start (drop n tokens))) same.1 ∙ sym there in
      s_is ∙ (λ i. record { kind = Error (same.0 i); place = place i }) ∙ sym t_is
