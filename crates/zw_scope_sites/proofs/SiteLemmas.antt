-- What is bound and open around a node, by the numbers of the nodes that it is read from.
use Rattle.std.proofs.Common.{◌≡◌, ℕ, suc, ◌+◌, ◌<◌, ◌≤◌, List, [], ◌∷◌, ◌++◌, Option, Some, None, MatchOption, ◌⊎◌, inl, inr, Bool, true, false, ◌||◌, drop, refl, sym, ap, ◌∙◌, subst, arith, if◌then◌else◌}
use Rattle.std.specs.List.{flat_map}
use Rattle.std.specs.Option.{is_some}
use Rattle.zw_tree.specs.Trees.{Forest, none, tree, count}
use Rattle.zw_tree.specs.Numbering.{from, first_root, inside_first, below, roots, children}
use Rattle.zw_tree.specs.declared.ast.Entry.{Entry}
use Rattle.zw_tree.proofs.Nodes.{node_ind, from-inside, from-behind}
use Rattle.zw_scope_sites.specs.Firsts.{kind_at, text_at}
use Rattle.zw_scope_sites.specs.Scopes.{Around, Scope, Standing, base_of, is_else, scope_of, seen, stands, binds, binds_local, bound, declared, first_bound, has_name, innermost, is_declaration, kind_of, labelled, name_in}
use Rattle.zw_scope_sites.specs.Lists.{Grows}
use Rattle.zw_scope_sites.specs.Sites.{declared_by, IsPart, IsSite, Shows, Surrounds}
use Rattle.zw_scope_sites.specs.declared.lists.Lists.{Lists}
use Rattle.zw_scope_sites.specs.declared.sites.View.{View}
use Rattle.zw_scope_sites.specs.declared.sites.Part.{Part}
use Rattle.zw_scope_sites.specs.declared.sites.Site.{Site}
use Rattle.zw_scope_sites.specs.declared.sites.Surroundings.{Surroundings}
use Rattle.zw_tree.specs.declared.kind.NodeKind.{NodeKind}
use Rattle.zw_tree.specs.declared.kind.NodeKind.TheVariants.{Const, Var, Capture, PointerCapture, Parameter}
use Rattle.zw_scope_sites.specs.declared.lists.Binding.{Binding}
use Rattle.zw_scope_sites.specs.declared.lists.OpenLabel.{OpenLabel}
use Rattle.zw_tree.proofs.Standing.{Stands, stands-behind, below-stands}

-- a node is there
pub record IsThere (file : Forest Entry) (n : ℕ) : Type 0 where
  pub root : Entry
  pub inside : Forest Entry
  pub behind : Forest Entry
  pub is : from file n ≡ tree root inside behind

pub is-there : (file : Forest Entry) (n : ℕ) → n < count file → IsThere file n
is-there = node_ind (λ file n. IsThere file n)
    (λ root inside behind. record { root = root; inside = inside; behind = behind; is = refl })
    (λ root inside behind n lt h. record { root = h.root; inside = h.inside; behind = h.behind; is = from-inside root inside behind n lt ∙ h.is })
    (λ root inside behind n lt h. record { root = h.root; inside = h.inside; behind = h.behind; is = from-behind root inside behind n ∙ h.is })

-- what is bound and open under a name that is read from a node
module _ (file : Forest Entry) (c : ℕ) (within : c < count file) (text : List ℕ) (reads : text ≡ text_at (from file c)) (o : Option Entry) (named : o ≡ first_root (from file c)) where
  pub there : IsThere file c
  there = is-there file c within

  pub named-root : o ≡ Some there.root
  named-root = named ∙ ap first_root there.is

  pub root-text : there.root.name ≡ text
  root-text = sym (reads ∙ ap text_at there.is)

  pub bound-is : (n : ℕ) (is_local : Bool) → bound n is_local o ≡ record { name = text; node = n; is_local = is_local } ∷ []
  bound-is n is_local = ap (bound n is_local) named-root ∙ ap (λ (x : List ℕ). let b : Binding = record { name = x; node = n; is_local = is_local } in b ∷ []) root-text

  pub labelled-is : (is_loop : Bool) (scope : Scope) → labelled is_loop o scope ≡ record scope { labels = record { name = text; is_loop = is_loop; defers = scope.defers } ∷ scope.labels }
  labelled-is is_loop scope =
      ap (λ (x : Option Entry). labelled is_loop x scope) named-root
      ∙ ap (λ (x : List ℕ). let l : OpenLabel = record { name = x; is_loop = is_loop; defers = scope.defers } in let s : Scope = record scope { labels = l ∷ scope.labels } in s) root-text

-- what members declare, member by member
declared-roots : (file f : Forest Entry) (k : ℕ) → Stands file k f → declared k f ≡ flat_map (declared_by file) (roots f k)
declared-roots file none k h = refl
declared-roots file (tree root inside behind) k h =
    let rest = declared-roots file behind (suc (k + count inside)) (stands-behind file k root inside behind h) in
    let number : suc k + count inside ≡ suc (k + count inside) = omega arith in
    let here : declared_by file k ≡ (if is_declaration (kind_of root) then bound k false (name_in inside) else []) = ap (λ f. if is_declaration (kind_at f) then bound k false (name_in (inside_first f)) else []) h in
    ap (λ m. (if is_declaration (kind_of root) then bound k false (name_in inside) else []) ++ declared m behind) number
    ∙ ap (λ (ns : List Binding). (if is_declaration (kind_of root) then bound k false (name_in inside) else []) ++ ns) rest
    ∙ ap (λ (ns : List Binding). ns ++ flat_map (declared_by file) (roots behind (suc (k + count inside)))) (sym here)

pub declared-members : (file : Forest Entry) (n : ℕ) (members : List ℕ) → members ≡ children file n → (left : ℕ) → left ≤ 0 → flat_map (declared_by file) (drop left members) ≡ declared (suc n) (below file n)
declared-members file n members are left past =
    let zero_left : left ≡ 0 = omega arith in
    ap (λ k. flat_map (declared_by file) (drop k members)) zero_left ∙ ap (flat_map (declared_by file)) are ∙ sym (declared-roots file (below file n) (suc n) (below-stands file n))

-- a name is bound in a list exactly where it has an innermost binding
innermost-step : (b : Binding) (bs : List Binding) (name : List ℕ) (t : Bool) → has_name name b ≡ t → innermost (b ∷ bs) name ≡ (if t then Some b else innermost bs name)
innermost-step b bs name t e = ap (λ (u : Bool). if u then Some b else innermost bs name) e

none-by : (b : Binding) (bs : List Binding) (name : List ℕ) (t : Bool) → has_name name b ≡ t → innermost (b ∷ bs) name ≡ None → (innermost bs name ≡ None → binds bs name ≡ false) → (has_name name b || binds bs name) ≡ false
none-by b bs name true e h rest = let found = innermost-step b bs name true e in absurd (cc)
none-by b bs name false e h rest = rw e (rest (sym (innermost-step b bs name false e) ∙ h))

pub innermost-none : (bs : List Binding) (name : List ℕ) → innermost bs name ≡ None → binds bs name ≡ false
innermost-none [] name h = refl
innermost-none (b ∷ bs) name h = none-by b bs name (has_name name b) refl h (innermost-none bs name)

some-by : (b found : Binding) (bs : List Binding) (name : List ℕ) (t : Bool) → has_name name b ≡ t → innermost (b ∷ bs) name ≡ Some found → (innermost bs name ≡ Some found → binds bs name ≡ true) → (has_name name b || binds bs name) ≡ true
some-by b found bs name true e h rest = rw e refl
some-by b found bs name false e h rest = rw e (rest (sym (innermost-step b bs name false e) ∙ h))

pub innermost-some : (bs : List Binding) (name : List ℕ) (found : Binding) → innermost bs name ≡ Some found → binds bs name ≡ true
innermost-some [] name found h = absurd (cc)
innermost-some (b ∷ bs) name found h = some-by b found bs name (has_name name b) refl h (innermost-some bs name found)

-- a list binds a name where a look-up finds it
pub binds-found : {X : Type 0} (binding_of : X → Binding) (o : Option X) (bs : List Binding) (name : List ℕ) → MatchOption o (innermost bs name ≡ None) (λ x. innermost bs name ≡ Some (binding_of x)) → is_some o ≡ binds bs name
binds-found binding_of None bs name h = sym (innermost-none bs name h)
binds-found binding_of (Some x) bs name h = sym (innermost-some bs name (binding_of x) h)

pub first-bound : (bs bound : List Binding) (b : Binding) (t : Bool) → bound ≡ b ∷ [] → t ≡ binds bs b.name → (if t then [] else bound) ≡ first_bound bs bound
first-bound bs bound b t one is =
    let chosen : (if t then [] else bound) ≡ (if binds bs b.name then [] else b ∷ []) = ap (λ (ns : List Binding). if t then [] else ns) one ∙ ap (λ (u : Bool). if u then [] else b ∷ []) is in
    chosen ∙ sym (ap (first_bound bs) one)

-- what surrounds a node stays when lists grow
pub shows-kept : (old new : Lists) → Grows old new → (view : View) (scope : Scope) → Shows old view scope → Shows new view scope
shows-kept old new grows view scope h = record {
  names = grows.bindings view.names scope.visible h.names;
  labels = grows.labels view.labels scope.labels h.labels;
  innermost_loop = h.innermost_loop;
  in_function = h.in_function;
  defers = h.defers;
}

pub part-kept : (old new : Lists) → Grows old new → (part : Part) (siblings : List Binding) (scope : Scope) → IsPart old part siblings scope → IsPart new part siblings scope
part-kept old new grows part siblings scope h = record { shows = shows-kept old new grows part.view scope h.shows; seen = grows.bindings part.seen (siblings ++ scope.visible) h.seen }

pub surrounds-kept : (old new : Lists) → Grows old new → (around : Surroundings) (a : Around) → Surrounds old around a → Surrounds new around a
surrounds-kept old new grows around a h = record {
  parent = h.parent;
  plain = part-kept old new grows around.plain a.siblings a.plain h.plain;
  taken = part-kept old new grows around.taken a.siblings a.taken h.taken;
  siblings = grows.bindings around.siblings a.siblings h.siblings;
}

pub site-kept : (old new : Lists) → Grows old new → (site : Site) (s : Standing) → IsSite old site s → IsSite new site s
site-kept old new grows site s h = record { parent = h.parent; scope = shows-kept old new grows site.view s.scope h.scope; siblings = grows.bindings site.siblings s.siblings h.siblings }

-- where a child stands
scope-is : (lists : Lists) (part : Part) (siblings : List Binding) (base : Scope) (names : ℕ) (t : Bool) → IsPart lists part siblings base → ((t ≡ true) × (names ≡ part.view.names)) ⊎ ((t ≡ false) × (names ≡ part.seen)) → Shows lists (record { names = names; labels = part.view.labels; innermost_loop = part.view.innermost_loop; in_function = part.view.in_function; defers = part.view.defers }) (if t then base else seen siblings base)
scope-is lists part siblings base names t p (inl (e, n)) = rw (e, n) p.shows
scope-is lists part siblings base names t p (inr (e, n)) = rw (e, n) (record { names = p.seen; labels = p.shows.labels; innermost_loop = p.shows.innermost_loop; in_function = p.shows.in_function; defers = p.shows.defers })

pub site-is : (lists : Lists) (a : Around) (n : ℕ) (root : Entry) (inside behind : Forest Entry) (around : Surroundings) (part : Part) (k : NodeKind) (names : ℕ) → Surrounds lists around a → kind_of root ≡ k → IsPart lists part a.siblings (base_of a k behind) → ((is_else k ≡ true) × (names ≡ part.view.names)) ⊎ ((is_else k ≡ false) × (names ≡ part.seen)) → IsSite lists (record { parent = around.parent; view = record { names = names; labels = part.view.labels; innermost_loop = part.view.innermost_loop; in_function = part.view.in_function; defers = part.view.defers }; siblings = around.siblings }) (stands a n root inside behind)
site-is lists a n root inside behind around part k names h kind p by = record {
  parent = h.parent;
  scope = subst (λ (j : NodeKind). Shows lists (record { names = names; labels = part.view.labels; innermost_loop = part.view.innermost_loop; in_function = part.view.in_function; defers = part.view.defers }) (scope_of a j behind)) (sym kind) (scope-is lists part a.siblings (base_of a k behind) names (is_else k) p by);
  siblings = h.siblings;
}

-- what binds nothing for those behind it
pub binds-none : (k : NodeKind) (n : ℕ) (inside : Forest Entry) (siblings : List Binding) → (k ≡ Const → ⊥) → (k ≡ Var → ⊥) → (k ≡ Capture → ⊥) → (k ≡ PointerCapture → ⊥) → (k ≡ Parameter → ⊥) → binds_local k n inside siblings ≡ []
binds-none Const n inside siblings a b c d e = absurd (a refl)
binds-none Var n inside siblings a b c d e = absurd (b refl)
binds-none Capture n inside siblings a b c d e = absurd (c refl)
binds-none PointerCapture n inside siblings a b c d e = absurd (d refl)
binds-none Parameter n inside siblings a b c d e = absurd (e refl)
binds-none _ n inside siblings a b c d e = refl
