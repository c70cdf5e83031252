-- Lists with one item for each node.
use Rattle.std.proofs.Common.{◌≡◌, ◌⊎◌, inl, inr, ℕ, suc, ◌+◌, ◌<◌, List, [], ◌∷◌, ◌++◌, Option, Some, None, length, slice_get, append-nil, sym, ap, ◌∙◌, subst, arith}
use Rattle.std.proofs.lemmas.List.{length-append}
use Rattle.std.proofs.lemmas.Bool.{cases_eq}
use Rattle.zw_tree.specs.Trees.{Forest, count}
use Rattle.zw_tree.specs.Numbering.{below}
use Rattle.zw_tree.specs.declared.ast.Entry.{Entry}
use Rattle.zw_scope_sites.specs.Lists.{Grows, IsBindings}
use Rattle.zw_scope.specs.MembersOf.{AreMembers, Declares}
use Rattle.zw_scope.specs.declared.members.Members.{Members}
use Rattle.zw_scope.specs.NameRules.{mentioned_by}
use Rattle.std.specs.Option.{option_to_list}
use Rattle.zw_scope_sites.proofs.PlaceLemmas.{standing-within}
use Rattle.zw_scope_sites.specs.Scopes.{Standing, all_standing, declared}
use Rattle.zw_scope_sites.specs.declared.lists.Lists.{Lists}
use Rattle.zw_scope_sites.proofs.ListLemmas.{got-kept, got-last}

-- one item more
pub each-more : {X : Type 0} (P : ℕ → X → Type 0) (xs ys : List X) (x : X) (n : ℕ) → ys ≡ xs ++ x ∷ [] → length xs ≡ n → ((m : ℕ) → m < n → (o : X) × (slice_get xs m ≡ Some o) × P m o) → P n x → (m : ℕ) → m < n + 1 → (o : X) × (slice_get ys m ≡ Some o) × P m o
each-more {X} P xs ys x n more sized each here m lt = by (cases_eq m n)
  where
    by : (m ≡ n) ⊎ (m ≡ n → ⊥) → (o : X) × (slice_get ys m ≡ Some o) × P m o
    by (inl same) = (x, ap (slice_get ys) (same ∙ sym sized) ∙ ap (λ (zs : List X). slice_get zs (length xs)) more ∙ got-last xs x, subst (λ (k : ℕ). P k x) (sym same) here)
    by (inr ne) =
        let old = each m (omega arith) in
        (old.0, ap (λ (zs : List X). slice_get zs m) more ∙ got-kept xs (x ∷ []) m old.0 old.1, old.2)

pub sized-more : {X : Type 0} (xs ys : List X) (x : X) (n : ℕ) → ys ≡ xs ++ x ∷ [] → length xs ≡ n → length ys ≡ n + 1
sized-more xs ys x n more sized = ap length more ∙ length-append xs (x ∷ []) ∙ ap (λ k. k + 1) sized

pub declares-now : (file : Forest Entry) (new : Lists) (n head : ℕ) → IsBindings new head (declared (suc n) (below file n) ++ []) → Declares file new n head
declares-now file new n head h = subst (IsBindings new head) (append-nil (declared (suc n) (below file n))) h

pub declares-kept : (file : Forest Entry) (old new : Lists) → Grows old new → (xs : List ℕ) (n : ℕ) → ((m : ℕ) → m < n → (head : ℕ) × (slice_get xs m ≡ Some head) × Declares file old m head) → (m : ℕ) → m < n → (head : ℕ) × (slice_get xs m ≡ Some head) × Declares file new m head
declares-kept file old new grows xs n each m lt = let r = each m lt in (r.0, r.1, grows.bindings r.0 (declared (suc m) (below file m)) r.2)

one-item : {X : Type 0} (o : Option X) (x y : X) → o ≡ Some x → o ≡ Some y → x ≡ y
one-item o x y p q = cc

pub head-declares : (file : Forest Entry) (m : Members) → AreMembers file m → (n : ℕ) → n < count file → (head : ℕ) → slice_get m.heads.items n ≡ Some head → IsBindings m.lists head (declared (suc n) (below file n))
head-declares file m are n lt head at = let r = are.declared n lt in subst (λ (h : ℕ). Declares file m.lists n h) (one-item (slice_get m.heads.items n) r.0 head r.1 at) r.2

pub no-head : (file : Forest Entry) (m : Members) → AreMembers file m → (n : ℕ) → n < count file → slice_get m.heads.items n ≡ None → ⊥
no-head file m are n lt gone = let there = (are.declared n lt).1 in absurd (cc)

pub named-is : (file : Forest Entry) (m : Members) → AreMembers file m → (n : ℕ) (s : Standing) → slice_get (all_standing file) n ≡ Some s → (o : Option ℕ) → slice_get m.named.items n ≡ Some o → mentioned_by s ≡ option_to_list o
named-is file m are n s got o at = let r = are.named n (standing-within file n s got) in subst (λ (x : Option ℕ). mentioned_by s ≡ option_to_list x) (one-item (slice_get m.named.items n) r.0 o r.1 at) (r.2 s got)

pub no-named : (file : Forest Entry) (m : Members) → AreMembers file m → (n : ℕ) (s : Standing) → slice_get (all_standing file) n ≡ Some s → slice_get m.named.items n ≡ None → ⊥
no-named file m are n s got gone = let there = (are.named n (standing-within file n s got)).1 in absurd (cc)
