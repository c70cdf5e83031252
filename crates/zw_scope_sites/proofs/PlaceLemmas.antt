-- Placing the children of a node: the sites that are set, and those that stay.
use Rattle.std.proofs.Common.{◌≡◌, ℕ, zero, suc, ◌+◌, ◌<◌, ◌≤◌, ◌⊎◌, inl, inr, List, [], ◌∷◌, Option, Some, None, Bool, true, length, slice_get, get_or, add-one, refl, sym, ap, ◌∙◌, subst, arith}
use Rattle.std.specs.Prelude.{slice_set}
use Rattle.std.proofs.lemmas.Bool.{cases_eq, cases_lt}
use Rattle.std.proofs.lemmas.Option.{slice_get_within, slice_get-get_or}
use Rattle.zw_tree.specs.Trees.{Forest, tree, count}
use Rattle.zw_tree.specs.Numbering.{from, inside_first, below, children, parent, after}
use Rattle.zw_tree.specs.declared.ast.Entry.{Entry}
use Rattle.zw_tree.specs.declared.kind.NodeKind.{NodeKind}
use Rattle.zw_tree.proofs.Descent.{child-parent, parent-child, parent-before}
use Rattle.zw_scope_sites.specs.Firsts.{kind_at}
use Rattle.zw_scope_sites.specs.Lists.{Grows}
use Rattle.zw_scope_sites.specs.Placing.{HasSite, ArePlaced, walked}
use Rattle.zw_scope_sites.specs.Scopes.{Standing, all_standing, around_file, around_of, behind_child, is_else, is_last, kind_of, stands, taken_scope}
use Rattle.zw_scope_sites.specs.Sites.{IsSite, around_at}
use Rattle.zw_scope_sites.specs.declared.lists.Lists.{Lists}
use Rattle.zw_scope_sites.specs.declared.sites.Site.{Site}
use Rattle.zw_scope_sites.proofs.PlacingLemmas.{Covers, covers-all, covers-child, placed, walked-next, length-standing}
use Rattle.zw_scope_sites.proofs.SayLemmas.{IsChildAt, child-at, children-end}
use Rattle.zw_scope_sites.proofs.SiteLemmas.{site-kept}

module _ {X : Type 0} where
  pub set-same : (xs : List X) (i : ℕ) (v : X) → i < length xs → slice_get (slice_set xs i v) i ≡ Some v
  set-same [] i v h = absurd (omega arith)
  set-same (x ∷ xs) zero v h = refl
  set-same (x ∷ xs) (suc i) v h = set-same xs i v (omega arith)

  pub set-other : (xs : List X) (i j : ℕ) (v : X) → (j ≡ i → ⊥) → slice_get (slice_set xs i v) j ≡ slice_get xs j
  set-other [] i j v h = refl
  set-other (x ∷ xs) zero zero v h = absurd (h refl)
  set-other (x ∷ xs) zero (suc j) v h = refl
  set-other (x ∷ xs) (suc i) zero v h = refl
  set-other (x ∷ xs) (suc i) (suc j) v h = set-other xs i j v (λ e. h (ap suc e))

-- whether a child is the last part
pub end-some : (file : Forest Entry) (n i c : ℕ) (nodes : List ℕ) → nodes ≡ children file n → i + 1 < length nodes → c ≡ get_or nodes (i + 1) c → is_else (kind_at (from file c)) ≡ is_last (after (suc i) (below file n))
end-some file n i c nodes are within is =
    let at : slice_get (children file n) (suc i) ≡ Some c = ap (λ (xs : List ℕ). slice_get xs (suc i)) (sym are) ∙ rw (← add-one) (slice_get-get_or nodes (i + 1) c within ∙ ap Some (sym is)) in
    let here = child-at file n (suc i) c at in
    ap (λ f. is_else (kind_at f)) here.from_here ∙ sym (ap is_last here.here)

pub end-none : (file : Forest Entry) (n i : ℕ) (nodes : List ℕ) → nodes ≡ children file n → length nodes ≤ i + 1 → true ≡ is_last (after (suc i) (below file n))
end-none file n i nodes are past = sym (ap is_last (children-end file n (suc i) (let size = ap length are in omega arith)))

-- a node that is placed, with what the list of all nodes has below it
pub record IsNode (file : Forest Entry) (n : ℕ) (s : Standing) : Type 0 where
  pub got : slice_get (all_standing file) n ≡ Some s
  pub here : from file n ≡ tree s.entry s.below s.behind
  pub number : s.node ≡ n
  pub inside : Covers (all_standing file) (around_of n s.entry s.below s.scope) (suc n) s.below

pub node-placed : (file : Forest Entry) (n : ℕ) → n < count file → (s : Standing) × IsNode file n s
node-placed file n lt =
    let r = placed (all_standing file) file n lt around_file 0 (covers-all file) in
    let same : 0 + n ≡ n = omega arith in (
      r.0,
      record {
        got = ap (slice_get (all_standing file)) (sym same) ∙ (r.1).got;
        here = (r.1).here;
        number = (r.1).number ∙ same;
        inside = subst (λ (x : ℕ). Covers (all_standing file) (around_of x (r.0).entry (r.0).below (r.0).scope) (suc x) (r.0).below) same (r.1).inside;
      },
    )

pub standing-within : (file : Forest Entry) (n : ℕ) (s : Standing) → slice_get (all_standing file) n ≡ Some s → n < count file
standing-within file n s got = let within = slice_get_within (all_standing file) n s got in let size = length-standing around_file 0 file in omega arith

pub some-same : {X : Type 0} (o : Option X) (x y : X) → o ≡ Some x → o ≡ Some y → x ≡ y
some-same o x y p q = cc

module _ (file : Forest Entry) (n : ℕ) (lt : n < count file) (s : Standing) (got : slice_get (all_standing file) n ≡ Some s) where
  pub the : (t : Standing) × IsNode file n t
  the = node-placed file n lt

  covers-below : Covers (all_standing file) (around_at file n s.scope) (suc n) (below file n)
  covers-below =
      let p = the.1 in
      let same : the.0 ≡ s = some-same (slice_get (all_standing file) n) the.0 s p.got got in
      let at = subst (λ (t : Standing). Covers (all_standing file) (around_at file n t.scope) (suc n) (below file n)) same
      (subst (λ (f : Forest Entry). Covers (all_standing file) (record { parent = Some (kind_at f); plain = (the.0).scope; taken = taken_scope (kind_at f) n (inside_first f) (the.0).scope; siblings = [] }) (suc n) (inside_first f)) (sym p.here) p.inside) in
      at

  module _ (i c : ℕ) (at : slice_get (children file n) i ≡ Some c) where
    pub child-here : IsChildAt file n i c
    child-here = child-at file n i c at

    pub child-standing : slice_get (all_standing file) c ≡ Some (stands (walked (around_at file n s.scope) (suc n) (below file n) i) c child-here.root child-here.inside child-here.behind)
    child-standing = covers-child (all_standing file) (around_at file n s.scope) (suc n) (below file n) covers-below i c at child-here.root child-here.inside child-here.behind child-here.here

    pub walked-child : walked (around_at file n s.scope) (suc n) (below file n) (i + 1) ≡ behind_child (walked (around_at file n s.scope) (suc n) (below file n) i) c (kind_at (from file c)) (below file c)
    walked-child = rw add-one (walked-next (around_at file n s.scope) (suc n) (below file n) i c at child-here.root child-here.inside child-here.behind child-here.here
        ∙ ap (λ (f : Forest Entry). behind_child (walked (around_at file n s.scope) (suc n) (below file n) i) c (kind_at f) (inside_first f)) (sym child-here.from_here))

    -- the site of a child, as it is read
    pub child-site : (lists : Lists) (site : Site) (k : NodeKind) (is_end : Bool) (t : Standing)
        → ((root : Entry) (inside behind : Forest Entry) → kind_of root ≡ k → is_last behind ≡ is_end → IsSite lists site (stands (walked (around_at file n s.scope) (suc n) (below file n) i) c root inside behind))
        → k ≡ kind_at (from file c) → is_end ≡ is_last (after (suc i) (below file n))
        → slice_get (all_standing file) c ≡ Some t → IsSite lists site t
    child-site lists site k is_end t is kind end there =
        let same : stands (walked (around_at file n s.scope) (suc n) (below file n) i) c child-here.root child-here.inside child-here.behind ≡ t = some-same (slice_get (all_standing file) c) _ t child-standing there in
        subst (IsSite lists site) same (is child-here.root child-here.inside child-here.behind (sym (kind ∙ ap kind_at child-here.from_here)) (sym (end ∙ ap is_last child-here.next)))

-- the sites after one child more
module _ (file : Forest Entry) (n : ℕ) (lists new : Lists) (grows : Grows lists new) (sites : List Site) (sized : length sites ≡ count file) (i c : ℕ) (at : slice_get (children file n) i ≡ Some c) (within : c < count file) (site : Site) where
  pub placed-more : ((j d : ℕ) (t : Standing) → j < i → slice_get (children file n) j ≡ Some d → slice_get (all_standing file) d ≡ Some t → HasSite lists sites d t)
      → ((t : Standing) → slice_get (all_standing file) c ≡ Some t → IsSite lists site t)
      → (j d : ℕ) (t : Standing) → j < i + 1 → slice_get (children file n) j ≡ Some d → slice_get (all_standing file) d ≡ Some t → HasSite new (slice_set sites c site) d t
  placed-more before is j d t lt there got = by (cases_eq d c)
    where
      by : (d ≡ c) ⊎ (d ≡ c → ⊥) → HasSite new (slice_set sites c site) d t
      by (inl e) = record { site = site; there = rw e (set-same sites c site (omega arith)); is = site-kept lists new grows site t (is t (rw (← e) got)) }
      by (inr ne) =
          let other : j ≡ i → ⊥ = λ e. ne (some-same (slice_get (children file n) i) d c (ap (slice_get (children file n)) (sym e) ∙ there) at) in
          let old = before j d t (omega arith) there got in
          record { site = old.site; there = set-other sites c d site ne ∙ old.there; is = site-kept lists new grows old.site t old.is }

  pub others-more : (olds : List Site) → ((m : ℕ) → ((j : ℕ) → slice_get (children file n) j ≡ Some m → ⊥) → slice_get sites m ≡ slice_get olds m) → (m : ℕ) → ((j : ℕ) → slice_get (children file n) j ≡ Some m → ⊥) → slice_get (slice_set sites c site) m ≡ slice_get olds m
  others-more olds before m never = set-other sites c m site (λ e. never i (at ∙ ap Some (sym e))) ∙ before m never

-- all children are placed
pub all-children : (file : Forest Entry) (n i : ℕ) → length (children file n) ≤ i → (lists : Lists) (sites : List Site)
    → ((j d : ℕ) (t : Standing) → j < i → slice_get (children file n) j ≡ Some d → slice_get (all_standing file) d ≡ Some t → HasSite lists sites d t)
    → (c : ℕ) (t : Standing) → parent file c ≡ Some n → slice_get (all_standing file) c ≡ Some t → HasSite lists sites c t
all-children file n i past lists sites are c t is got =
    let r = parent-child file n c (standing-within file c t got) is in
    let within = slice_get_within (children file n) r.0 c r.1 in
    are r.0 c t (omega arith) r.1 got

pub no-children : (file : Forest Entry) (n m : ℕ) → n < count file → (parent file m ≡ Some n → ⊥) → (j : ℕ) → slice_get (children file n) j ≡ Some m → ⊥
no-children file n m lt never j at = never (child-parent file n j m lt at)

-- a root, or the child of an earlier node
pub parent-cases : (file : Forest Entry) (m : ℕ) → m < count file → (parent file m ≡ None) ⊎ ((p : ℕ) × (parent file m ≡ Some p) × (p < m))
parent-cases file m lt = by (parent file m) refl
  where
    by : (o : Option ℕ) → parent file m ≡ o → (parent file m ≡ None) ⊎ ((p : ℕ) × (parent file m ≡ Some p) × (p < m))
    by None e = inl e
    by (Some p) e = inr (p, e, (parent-before file p m lt e).0)

site-stays : (old new : Lists) → Grows old new → (sites news : List Site) (m : ℕ) (t : Standing) → slice_get news m ≡ slice_get sites m → HasSite old sites m t → HasSite new news m t
site-stays old new grows sites news m t same h = record { site = h.site; there = same ∙ h.there; is = site-kept old new grows h.site t h.is }

pub placed-next : (file : Forest Entry) (n : ℕ) → n < count file → (old new : Lists) → Grows old new → (sites news : List Site) → ArePlaced old sites file n
    → ((s : Standing) → slice_get (all_standing file) n ≡ Some s → HasSite old sites n s → (c : ℕ) (t : Standing) → parent file c ≡ Some n → slice_get (all_standing file) c ≡ Some t → HasSite new news c t)
    → ((m : ℕ) → (parent file m ≡ Some n → ⊥) → slice_get news m ≡ slice_get sites m)
    → ArePlaced new news file (n + 1)
placed-next file n lt old new grows sites news before placing others m t got (inl root) =
    site-stays old new grows sites news m t (others m (λ e. absurd (cc))) (before m t got (inl root))
placed-next file n lt old new grows sites news before placing others m t got (inr (p, e, less)) = by (cases_eq p n)
  where
    by : (p ≡ n) ⊎ (p ≡ n → ⊥) → HasSite new news m t
    by (inl same) =
        let r = node-placed file n lt in
        placing r.0 (r.1).got (before n r.0 (r.1).got (parent-cases file n lt)) m t (e ∙ ap Some same) got
    by (inr ne) = site-stays old new grows sites news m t (others m (λ f. ne (some-same (parent file m) p n e f))) (before m t got (inr (p, e, omega arith)))

pub placed-whole : (file : Forest Entry) (n : ℕ) → count file ≤ n → (lists : Lists) (sites : List Site) → ArePlaced lists sites file n → (m : ℕ) (t : Standing) → slice_get (all_standing file) m ≡ Some t → HasSite lists sites m t
placed-whole file n past lists sites are m t got = are m t got (by (parent-cases file m lt))
  where
    lt : m < count file
    lt = standing-within file m t got

    by : (parent file m ≡ None) ⊎ ((p : ℕ) × (parent file m ≡ Some p) × (p < m)) → (parent file m ≡ None) ⊎ ((p : ℕ) × (parent file m ≡ Some p) × (p < n))
    by (inl root) = inl root
    by (inr (p, e, less)) = let within = lt in inr (p, e, omega arith)

-- ---- the roots

-- the roots before a number have their sites
abbrev pub RootsPlaced : Lists → List Site → Forest Entry → ℕ → Type 0
RootsPlaced lists sites file n = (m : ℕ) (s : Standing) → m < n → parent file m ≡ None → slice_get (all_standing file) m ≡ Some s → HasSite lists sites m s

pub roots-child : (file : Forest Entry) (n p : ℕ) → parent file n ≡ Some p → (lists : Lists) (sites : List Site) → RootsPlaced lists sites file n → RootsPlaced lists sites file (n + 1)
roots-child file n p up lists sites before m s lt root got = by (cases_lt m n)
  where
    by : (m < n) ⊎ (n ≤ m) → HasSite lists sites m s
    by (inl less) = before m s less root got
    by (inr past) =
        let same : m ≡ n = omega arith in
        let above = ap (parent file) same ∙ up in
        absurd (cc)

pub roots-next : (file : Forest Entry) (n : ℕ) → n < count file → (old new : Lists) → Grows old new → (sites : List Site) → length sites ≡ count file → (site : Site)
    → ((s : Standing) → slice_get (all_standing file) n ≡ Some s → IsSite old site s)
    → RootsPlaced old sites file n → RootsPlaced new (slice_set sites n site) file (n + 1)
roots-next file n within old new grows sites sized site is before m s lt root got = by (cases_lt m n)
  where
    by : (m < n) ⊎ (n ≤ m) → HasSite new (slice_set sites n site) m s
    by (inl less) = site-stays old new grows sites (slice_set sites n site) m s (set-other sites n m site (λ e. omega (arith, e, less))) (before m s less root got)
    by (inr past) =
        let same : m ≡ n = omega arith in
        let there : slice_get (slice_set sites n site) m ≡ Some site = ap (slice_get (slice_set sites n site)) same ∙ set-same sites n site (omega (arith, within, sized)) in
        record { site = site; there = there; is = site-kept old new grows site s (is s (ap (slice_get (all_standing file)) (sym same) ∙ got)) }

pub roots-whole : (file : Forest Entry) (n : ℕ) → count file ≤ n → (lists : Lists) (sites : List Site) → RootsPlaced lists sites file n → ArePlaced lists sites file 0
roots-whole file n past lists sites are m s got (inl root) = let lt = standing-within file m s got in are m s (omega arith) root got
roots-whole file n past lists sites are m s got (inr (p, e, less)) = absurd (omega arith)
