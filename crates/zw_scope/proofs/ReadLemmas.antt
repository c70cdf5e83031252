-- What is read of a node with its site, and whether a parameter has a body behind it.
use Rattle.std.proofs.Common.{◌≡◌, ℕ, zero, suc, ◌<◌, List, Some, None, Bool, true, false, not, ◌&&◌, slice_get, refl, sym, ap, ◌∙◌, subst}
use Rattle.zw_tree.specs.Trees.{Forest, none, tree, count}
use Rattle.zw_tree.specs.Numbering.{from, below, parent, after, behind_first}
use Rattle.zw_tree.specs.declared.ast.Entry.{Entry}
use Rattle.zw_tree.specs.declared.kind.NodeKind.{NodeKind}
use Rattle.zw_tree.proofs.Descent.{parent-child}
use Rattle.zw_scope_sites.specs.Firsts.{kind_at}
use Rattle.zw_scope_sites.specs.Placing.{AllPlaced}
use Rattle.zw_scope_sites.specs.Scopes.{ends_in_body, is_before_result, is_parameter_kind, Standing, all_standing, is_block, kind_of}
use Rattle.zw_scope.specs.Telling.{IsRead}
use Rattle.zw_tree.proofs.Standing.{after-none}
use Rattle.zw_tree.specs.declared.kind.NodeKind.TheVariants.{Parameter, Block}
use Rattle.zw_scope_sites.specs.Sites.{IsSite}
use Rattle.zw_scope_sites.specs.declared.lists.Lists.{Lists}
use Rattle.zw_scope_sites.specs.declared.sites.Site.{Site}
use Rattle.zw_scope_sites.proofs.PlaceLemmas.{node-placed, some-same, standing-within}
use Rattle.zw_scope_sites.proofs.RootLemmas.{root-outside}
use Rattle.zw_scope_sites.proofs.SayLemmas.{child-at}

-- what is read of a node with its site
pub read-is : (file : Forest Entry) (lists : Lists) (sites : List Site) → AllPlaced lists sites file → (n : ℕ) (s : Standing) → slice_get (all_standing file) n ≡ Some s → (site : Site) → slice_get sites n ≡ Some site → IsRead file lists site n s
read-is file lists sites all n s got site there =
    let r = node-placed file n (standing-within file n s got) in
    let same : r.0 ≡ s = some-same (slice_get (all_standing file) n) r.0 s (r.1).got got in
    let has = all n s got in
    let site_is : has.site ≡ site = some-same (slice_get sites n) has.site site has.there there in
    record {
      here = subst (λ (t : Standing). from file n ≡ tree t.entry t.below t.behind) same (r.1).here;
      number = subst (λ (t : Standing). t.node ≡ n) same (r.1).number;
      placed = subst (λ (x : Site). IsSite lists x s) site_is has.is;
      outside = λ up. root-outside file n (standing-within file n s got) up s got;
    }

pub no-site : (file : Forest Entry) (lists : Lists) (sites : List Site) → AllPlaced lists sites file → (n : ℕ) (s : Standing) → slice_get (all_standing file) n ≡ Some s → slice_get sites n ≡ None → ⊥
no-site file lists sites all n s got gone = let there = (all n s got).there in absurd (cc)

no-block : (k : NodeKind) → is_parameter_kind k ≡ true → is_block k ≡ false
no-block Parameter h = refl
no-block Block h = absurd (cc)
no-block k h = refl

before-result : (k : NodeKind) → is_parameter_kind k ≡ true → is_before_result k ≡ true
before-result Parameter h = refl
before-result k h = absurd (cc)

no-and : (b : Bool) → (b && false) ≡ false
no-and true = refl
no-and false = refl

first-kind : (q root : Entry) (y inside b behind : Forest Entry) → tree q y b ≡ tree root inside behind → kind_of q ≡ kind_of root
first-kind q root y inside b behind h = ap kind_at h

first-behind : (q root : Entry) (y inside b behind : Forest Entry) → tree q y b ≡ tree root inside behind → b ≡ behind
first-behind q root y inside b behind h = ap behind_first h

ends-parameter : (root : Entry) (inside behind : Forest Entry) → is_parameter_kind (kind_of root) ≡ true → ends_in_body (tree root inside behind) ≡ ends_in_body behind
ends-parameter root inside none is = refl
ends-parameter root inside (tree q y none) is = ap (λ b. not b && is_block (kind_of q)) (before-result (kind_of root) is)
ends-parameter root inside (tree q y (tree p z b)) is = refl

-- a parameter has a body behind it where the children of its function end in one
ends-after : (i : ℕ) (f : Forest Entry) (root : Entry) (inside behind : Forest Entry) → is_parameter_kind (kind_of root) ≡ true → after i f ≡ tree root inside behind → ends_in_body f ≡ ends_in_body behind
ends-after zero f root inside behind is h = ap ends_in_body h ∙ ends-parameter root inside behind is
ends-after (suc i) none root inside behind is h = let gone = after-none {A = Entry} i in absurd (cc)
ends-after (suc i) (tree r x none) root inside behind is h = let gone = after-none {A = Entry} i in absurd (cc)
ends-after (suc zero) (tree r x (tree q y none)) root inside behind is h =
    let same : kind_of q ≡ kind_of root = first-kind q root y inside none behind h in
    let last : none ≡ behind = first-behind q root y inside none behind h in
    ap (λ k. not (is_before_result (kind_of r)) && is_block k) same
    ∙ ap (λ b. not (is_before_result (kind_of r)) && b) (no-block (kind_of root) is)
    ∙ no-and (not (is_before_result (kind_of r))) ∙ ap ends_in_body last
ends-after (suc (suc i)) (tree r x (tree q y none)) root inside behind is h = let gone = after-none {A = Entry} i in absurd (cc)
ends-after (suc i) (tree r x (tree q y (tree p z b))) root inside behind is h = ends-after i (tree q y (tree p z b)) root inside behind is h

pub body-behind : (file : Forest Entry) (n p : ℕ) → n < count file → parent file n ≡ Some p → (s : Standing) → from file n ≡ tree s.entry s.below s.behind → is_parameter_kind (kind_of s.entry) ≡ true → ends_in_body (below file p) ≡ ends_in_body s.behind
body-behind file n p lt up s at is =
    let r = parent-child file p n lt up in
    let here = child-at file p r.0 n r.1 in
    let same : after r.0 (below file p) ≡ tree s.entry s.below s.behind = here.here ∙ sym here.from_here ∙ at in
    ends-after r.0 (below file p) s.entry s.below s.behind is same
