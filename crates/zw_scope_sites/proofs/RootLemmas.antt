-- The roots of a forest: what surrounds each of them, and whether the last is a block.
use Rattle.std.proofs.Common.{◌≡◌, ℕ, zero, suc, ◌+◌, ◌-◌, ◌<◌, ◌≤◌, Bool, true, false, List, Option, Some, None, slice_get, refl, sym, ap, ◌∙◌, subst, arith, if◌then◌else◌}
use Rattle.std.specs.Option.{is_some, option_map}
use Rattle.zw_tree.specs.Trees.{Forest, none, tree, count}
use Rattle.zw_tree.specs.Numbering.{from, inside_first, below, parent}
use Rattle.zw_tree.specs.declared.ast.Entry.{Entry}
use Rattle.zw_tree.specs.declared.kind.NodeKind.{NodeKind}
use Rattle.zw_tree.proofs.Nodes.{node_ind, from-behind, parent-inside, parent-behind}
use Rattle.zw_scope_sites.specs.Firsts.{kind_at}
use Rattle.zw_scope_sites.specs.Scopes.{Around, Standing, all_standing, around_file, behind_child, is_else, is_taken_by, kind_of, seen, stands}
use Rattle.zw_scope_sites.specs.Sites.{IsSite, Shows}
use Rattle.zw_scope_sites.specs.declared.lists.Lists.{Lists}
use Rattle.zw_scope_sites.specs.declared.sites.Site.{Site}
use Rattle.zw_scope_sites.proofs.PlacingLemmas.{Covers, covers-all, covers-first, covers-behind}

no-option : {X Y : Type 0} (f : X → Y) (o : Option X) → option_map f o ≡ None → o ≡ None
no-option f None e = refl
no-option f (Some x) e = absurd (cc)

some-option : {X Y : Type 0} (f : X → Y) (o : Option X) (y : Y) → option_map f o ≡ Some y → (x : X) × (o ≡ Some x)
some-option f None y e = absurd (cc)
some-option f (Some x) y e = (x, refl)

pub has-parent : (o : Option ℕ) → is_some o ≡ true → (p : ℕ) × (o ≡ Some p)
has-parent None e = absurd (cc)
has-parent (Some p) e = (p, refl)

pub no-parent : (o : Option ℕ) → is_some o ≡ false → o ≡ None
no-parent None e = refl
no-parent (Some p) e = absurd (cc)

-- a root is no node below another
no-root-inside : (root : Entry) (inside behind : Forest Entry) (n : ℕ) → n < count inside → parent (tree root inside behind) (suc n) ≡ None → ⊥
no-root-inside root inside behind n lt up = let some = parent-inside root inside behind n lt in absurd (cc)

root-behind : (root : Entry) (inside behind : Forest Entry) (n : ℕ) → parent (tree root inside behind) (suc (count inside + n)) ≡ None → parent behind n ≡ None
root-behind root inside behind n up = no-option (λ m. suc (count inside + m)) (parent behind n) (sym (parent-behind root inside behind n) ∙ up)

-- what comes of the roots before a number, one after another, where the first has the number k
module _ {X : Type 0} (step : X → ℕ → NodeKind → Forest Entry → X) where
  abbrev pub over_roots : X → ℕ → Forest Entry → ℕ → X
  over_roots x k none n = x
  over_roots x k (tree root inside behind) zero = x
  over_roots x k (tree root inside behind) (suc n) = over_roots (step x k (kind_of root) inside) (suc k + count inside) behind (n - count inside)

  over-none : (x : X) (k : ℕ) (f : Forest Entry) (n : ℕ) → n ≡ 0 → over_roots x k f n ≡ x
  over-none x k none n e = refl
  over-none x k (tree root inside behind) zero e = refl
  over-none x k (tree root inside behind) (suc n) e = absurd (omega arith)

  over-behind : (x : X) (k : ℕ) (root : Entry) (inside behind : Forest Entry) (n m : ℕ) → m ≡ count inside + n → over_roots x k (tree root inside behind) (suc m) ≡ over_roots (step x k (kind_of root) inside) (suc k + count inside) behind n
  over-behind x k root inside behind n m e =
      let same : m - count inside ≡ n = omega arith in
      ap (over_roots (step x k (kind_of root) inside) (suc k + count inside) behind) same

  pub over-root : (f : Forest Entry) (n : ℕ) → n < count f → (x : X) (k : ℕ) → parent f n ≡ None → over_roots x k f (suc n) ≡ step (over_roots x k f n) (k + n) (kind_at (from f n)) (inside_first (from f n))
  over-root = node_ind (λ f n. (x : X) (k : ℕ) → parent f n ≡ None → over_roots x k f (suc n) ≡ step (over_roots x k f n) (k + n) (kind_at (from f n)) (inside_first (from f n)))
      (λ root inside behind x k up.
      let at : k ≡ k + 0 = omega arith in
      over-none (step x k (kind_of root) inside) (suc k + count inside) behind (0 - count inside) (omega arith) ∙ ap (λ m. step x m (kind_of root) inside) at)
      (λ root inside behind n lt ih x k up. absurd (no-root-inside root inside behind n lt up))
      (λ root inside behind n lt ih x k up.
      let first = over-behind x k root inside behind (suc n) (suc (count inside + n)) (omega arith) in
      let before = over-behind x k root inside behind n (count inside + n) refl in
      let at : suc k + count inside + n ≡ k + suc (count inside + n) = omega arith in
      let eq = from-behind root inside behind n in
      first ∙ ih (step x k (kind_of root) inside) (suc k + count inside) (root-behind root inside behind n up)
      ∙ (λ i. step (sym before i) (at i) (kind_at (sym eq i)) (inside_first (sym eq i))))

  pub over-child : (f : Forest Entry) (n : ℕ) → n < count f → (x : X) (k p : ℕ) → parent f n ≡ Some p → over_roots x k f (suc n) ≡ over_roots x k f n
  over-child = node_ind (λ f n. (x : X) (k p : ℕ) → parent f n ≡ Some p → over_roots x k f (suc n) ≡ over_roots x k f n)
      (λ root inside behind x k p up. absurd (cc))
      (λ root inside behind n lt ih x k p up.
      over-none (step x k (kind_of root) inside) (suc k + count inside) behind (suc n - count inside) (omega arith)
      ∙ sym (over-none (step x k (kind_of root) inside) (suc k + count inside) behind (n - count inside) (omega arith)))
      (λ root inside behind n lt ih x k p up.
      let q = some-option (λ m. suc (count inside + m)) (parent behind n) p (sym (parent-behind root inside behind n) ∙ up) in
      over-behind x k root inside behind (suc n) (suc (count inside + n)) (omega arith)
      ∙ ih (step x k (kind_of root) inside) (suc k + count inside) q.0 q.1
      ∙ sym (over-behind x k root inside behind n (count inside + n) refl))

-- ---- what surrounds a root

-- a root stands behind the roots before it
record RootStands (all : List Standing) (a : Around) (k : ℕ) (f : Forest Entry) (n : ℕ) : Type 0 where
  root : Entry
  inside : Forest Entry
  behind : Forest Entry
  here : from f n ≡ tree root inside behind
  got : slice_get all (k + n) ≡ Some (stands (over_roots behind_child a k f n) (k + n) root inside behind)

root-stands : (all : List Standing) (f : Forest Entry) (n : ℕ) → n < count f → (a : Around) (k : ℕ) → Covers all a k f → parent f n ≡ None → RootStands all a k f n
root-stands all = node_ind (λ f n. (a : Around) (k : ℕ) → Covers all a k f → parent f n ≡ None → RootStands all a k f n)
    (λ root inside behind a k covers up.
    let at : k ≡ k + 0 = omega arith in
    record {
      root = root;
      inside = inside;
      behind = behind;
      here = refl;
      got = subst (λ m. slice_get all m ≡ Some (stands a m root inside behind)) at (covers-first all a k root inside behind covers);
    })
    (λ root inside behind n lt ih a k covers up. absurd (no-root-inside root inside behind n lt up))
    (λ root inside behind n lt ih a k covers up.
    let r = ih (behind_child a k (kind_of root) inside) (suc k + count inside) (covers-behind all a k root inside behind covers) (root-behind root inside behind n up) in
    let at : suc k + count inside + n ≡ k + suc (count inside + n) = omega arith in
    let before = over-behind behind_child a k root inside behind n (count inside + n) refl in
    record {
      root = r.root;
      inside = r.inside;
      behind = r.behind;
      here = from-behind root inside behind n ∙ r.here;
      got = ap (slice_get all) (sym at) ∙ r.got ∙ (λ i. Some (stands (sym before i) (at i) r.root r.inside r.behind));
    })

abbrev pub around_root : Forest Entry → ℕ → Around
around_root file n = over_roots behind_child around_file 0 file n

pub around_root-none : (file : Forest Entry) → around_root file 0 ≡ around_file
around_root-none file = over-none behind_child around_file 0 file 0 refl

pub around_root-next : (file : Forest Entry) (n : ℕ) → n < count file → parent file n ≡ None → around_root file (n + 1) ≡ behind_child (around_root file n) n (kind_at (from file n)) (below file n)
around_root-next file n lt up =
    let more : n + 1 ≡ suc n = omega arith in
    let at : 0 + n ≡ n = omega arith in
    ap (around_root file) more ∙ over-root behind_child file n lt around_file 0 up
    ∙ ap (λ m. behind_child (around_root file n) m (kind_at (from file n)) (below file n)) at

pub around_root-child : (file : Forest Entry) (n p : ℕ) → n < count file → parent file n ≡ Some p → around_root file (n + 1) ≡ around_root file n
around_root-child file n p lt up =
    let more : n + 1 ≡ suc n = omega arith in
    ap (around_root file) more ∙ over-child behind_child file n lt around_file 0 p up

-- no root is in a part that a form takes
over-parent : (a : Around) (k : ℕ) (f : Forest Entry) (n : ℕ) → (over_roots behind_child a k f n).parent ≡ a.parent
over-parent a k none n = refl
over-parent a k (tree root inside behind) zero = refl
over-parent a k (tree root inside behind) (suc n) = over-parent (behind_child a k (kind_of root) inside) (suc k + count inside) behind (n - count inside)

no-part : (o : Option NodeKind) (kind : NodeKind) (f g : Forest Entry) → o ≡ None → is_taken_by o kind f ≡ is_taken_by o kind g
no-part None kind f g e = refl
no-part (Some parent) kind f g e = absurd (cc)

site-behind : (lists : Lists) (site : Site) (a : Around) (n : ℕ) (root : Entry) (inside behind : Forest Entry) → a.parent ≡ None → IsSite lists site (stands a n root inside none) → IsSite lists site (stands a n root inside behind)
site-behind lists site a n root inside behind outside h = record {
  parent = h.parent;
  scope = subst (Shows lists site.view)
      (ap (λ (t : Bool). let base = (if t then a.taken else a.plain) in if is_else (kind_of root) then base else seen a.siblings base) (no-part a.parent (kind_of root) none behind outside))
      h.scope;
  siblings = h.siblings;
}

-- the site of a root
pub root-site : (file : Forest Entry) (n : ℕ) → n < count file → parent file n ≡ None → (lists : Lists) (site : Site)
    → ((root : Entry) (inside : Forest Entry) → kind_of root ≡ kind_at (from file n) → IsSite lists site (stands (around_root file n) n root inside none))
    → (s : Standing) → slice_get (all_standing file) n ≡ Some s → IsSite lists site s
root-site file n lt up lists site is s got =
    let r = root-stands (all_standing file) file n lt around_file 0 (covers-all file) up in
    let at : 0 + n ≡ n = omega arith in
    let there : slice_get (all_standing file) n ≡ Some (stands (around_root file n) n r.root r.inside r.behind) =
    subst (λ m. slice_get (all_standing file) m ≡ Some (stands (around_root file n) m r.root r.inside r.behind)) at r.got in
    let same : stands (around_root file n) n r.root r.inside r.behind ≡ s = some-same (slice_get (all_standing file) n) (stands (around_root file n) n r.root r.inside r.behind) s there got in
    subst (IsSite lists site) same
    (site-behind lists site (around_root file n) n r.root r.inside r.behind (over-parent around_file 0 file n) (is r.root r.inside (sym (ap kind_at r.here))))
  where
    some-same : {X : Type 0} (o : Option X) (x y : X) → o ≡ Some x → o ≡ Some y → x ≡ y
    some-same o x y p q = cc

-- a root has no parent
pub root-outside : (file : Forest Entry) (n : ℕ) → n < count file → parent file n ≡ None → (s : Standing) → slice_get (all_standing file) n ≡ Some s → s.parent ≡ None
root-outside file n lt up s got =
    let r = root-stands (all_standing file) file n lt around_file 0 (covers-all file) up in
    let at : 0 + n ≡ n = omega arith in
    let there : slice_get (all_standing file) n ≡ Some (stands (around_root file n) (0 + n) r.root r.inside r.behind) = ap (slice_get (all_standing file)) (sym at) ∙ r.got in
    let same : Some (stands (around_root file n) (0 + n) r.root r.inside r.behind) ≡ Some s = sym there ∙ got in
    let parents : Some (around_root file n).parent ≡ Some s.parent = ap (option_map (λ (t : Standing). t.parent)) same in
    let is : (around_root file n).parent ≡ s.parent = cc in
    sym is ∙ over-parent around_file 0 file n
