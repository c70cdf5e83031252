-- The rules at a node, in what is read from it.
use Rattle.std.proofs.Common.{◌≡◌, ℕ, ◌<◌, List, [], ◌∷◌, Option, Some, Bool, true, false, ◌&&◌, ◌||◌, refl, sym, ap, ◌∙◌, if◌then◌else◌}
use Rattle.std.specs.Prelude.{not, unwrap_or, slice_get}
use mathlib.Core.Bool.{beq}
use Rattle.zw_tree.specs.Trees.{Forest, none, tree, count}
use Rattle.zw_tree.specs.Numbering.{from, first_root, inside_first, below}
use Rattle.zw_tree.specs.declared.ast.Entry.{Entry}
use Rattle.zw_scope_sites.specs.Firsts.{kind_at, text_at}
use Rattle.std.specs.List.{list_any}
use Rattle.zw_scope.specs.Telling.{AreMarks, IsRead, tells}
use Rattle.zw_scope_sites.specs.declared.lists.Lists.{Lists}
use Rattle.zw_scope_sites.specs.declared.sites.Site.{Site}
use Rattle.zw_scope_sites.proofs.SiteLemmas.{IsThere, is-there}
use Rattle.zw_token.specs.Names.{is_primitive}
use Rattle.zw_scope.specs.NameRules.{is_declared, is_local, is_repeated, is_shadow, is_mentioned, is_to_be_mentioned, unused, unused_at, breaks_label_rule, label_at, label_takes, labels, takes_jump, told, told_at_name, names_primitive}
use Rattle.zw_scope_sites.specs.Scopes.{is_visible_local, is_open, open_label, opens_label, is_unquoted, Scope, Standing, binds, is_label, kind_of, name_in}

pub primitive-read : (f : Forest Entry) (entry : Entry) → first_root f ≡ Some entry → names_primitive entry ≡ (is_unquoted (kind_at f) && is_primitive (text_at f))
primitive-read none entry h = absurd (cc)
primitive-read (tree root inside behind) entry h = let same : root ≡ entry = cc in ap names_primitive (sym same)

breaks-beq : (a b : Bool) → breaks_label_rule a b ≡ beq a b
breaks-beq true true = refl
breaks-beq true false = refl
breaks-beq false true = refl
breaks-beq false false = refl

-- what is read of a node that stands so
module _ (file : Forest Entry) (lists : Lists) (site : Site) (n : ℕ) (s : Standing) (read : IsRead file lists site n s) where
  pub kind-read : kind_at (from file n) ≡ kind_of s.entry
  kind-read = ap kind_at read.here

  pub below-read : below file n ≡ s.below
  below-read = ap inside_first read.here

  pub root-read : first_root (from file n) ≡ Some s.entry
  root-read = ap first_root read.here

  pub text-read : text_at (from file n) ≡ s.entry.name
  text-read = ap text_at read.here

  module _ (c : ℕ) (within : c < count file) (named : name_in (below file n) ≡ first_root (from file c)) where
    there : IsThere file c
    there = is-there file c within

    named-below : name_in s.below ≡ Some there.root
    named-below = ap name_in (sym below-read) ∙ named ∙ ap first_root there.is

    labels-are : (is : is_label (kind_at (from file n)) ≡ true) → labels s ≡ told (breaks_label_rule (opens_label s.parent) (is_open s.scope.labels there.root.name)) 12 there.root
    labels-are is =
        let label : is_label (kind_of s.entry) ≡ true = ap is_label (sym kind-read) ∙ is in
        ap (λ (t : Bool). if t then label_at s (name_in s.below) else []) label ∙ ap (label_at s) named-below

    told-at : tells file 12 (Some c) ≡ record { error = 12; at = there.root } ∷ []
    told-at = ap (λ (f : Forest Entry). told_at_name true 12 (first_root f)) there.is

    module _ (text : List ℕ) (reads : text ≡ text_at (from file c)) (opens opened : Bool) (is : is_label (kind_at (from file n)) ≡ true) (is-opens : opens ≡ opens_label s.parent) (open-is : opened ≡ is_open s.scope.labels text) where
      root-name : text ≡ there.root.name
      root-name = reads ∙ ap text_at there.is

      labels-by : labels s ≡ told (breaks_label_rule opens opened) 12 there.root
      labels-by = labels-are is ∙ ap (λ (x : List ℕ). told (breaks_label_rule (opens_label s.parent) (is_open s.scope.labels x)) 12 there.root) (sym root-name) ∙ (let p = sym is-opens in let q = sym open-is in λ i. told (breaks_label_rule (p i) (q i)) 12 there.root)

      pub label-told : beq opens opened ≡ true → labels s ≡ tells file 12 (Some c)
      label-told same = labels-by ∙ ap (λ (t : Bool). told t 12 there.root) (breaks-beq opens opened ∙ same) ∙ sym told-at

      pub label-kept : beq opens opened ≡ false → labels s ≡ []
      label-kept differ = labels-by ∙ ap (λ (t : Bool). told t 12 there.root) (breaks-beq opens opened ∙ differ)

-- the target of a jump
pub jump-read : (file : Forest Entry) (c : ℕ) (within : c < count file) (o : Option Entry) (named : o ≡ first_root (from file c)) (text : List ℕ) (reads : text ≡ text_at (from file c)) (wants_loop : Bool) (scope : Scope) → takes_jump wants_loop scope o ≡ label_takes wants_loop scope.defers (open_label scope.labels text)
jump-read file c within o named text reads wants_loop scope =
    let there = is-there file c within in
    ap (takes_jump wants_loop scope) (named ∙ ap first_root there.is) ∙ ap (λ (x : List ℕ). label_takes wants_loop scope.defers (open_label scope.labels x)) (sym (reads ∙ ap text_at there.is))

-- a name that hides what it mustn't
pub text-named : (f : Forest Entry) (entry : Entry) → first_root f ≡ Some entry → text_at f ≡ entry.name
text-named none entry h = absurd (cc)
text-named (tree root inside behind) entry h = let same : root ≡ entry = cc in ap (λ (e : Entry). e.name) same

pub shadow-by : (s : Standing) (entry : Entry) (text other : List ℕ) → text ≡ entry.name → other ≡ entry.name → names_primitive entry ≡ false → (a b : Bool) → a ≡ (is_local s && not (is_repeated s text) && binds s.scope.visible text) → b ≡ (is_declared s && list_any (is_visible_local other) s.scope.visible) → (a || b) ≡ is_shadow s entry
shadow-by s entry text other named named-too primitive a b local declared =
    (λ i. (local ∙ ap (λ (x : List ℕ). is_local s && not (is_repeated s x) && binds s.scope.visible x) named) i || (declared ∙ ap (λ (x : List ℕ). is_declared s && list_any (is_visible_local x) s.scope.visible) named-too) i)
    ∙ sym (ap (λ (t : Bool). (t || (is_local s && not (is_repeated s entry.name) && binds s.scope.visible entry.name)) || (is_declared s && list_any (is_visible_local entry.name) s.scope.visible)) primitive)

pub shadow-local : (s : Standing) (entry : Entry) (text : List ℕ) → text ≡ entry.name → names_primitive entry ≡ false → (a : Bool) → a ≡ true → a ≡ (is_local s && not (is_repeated s text) && binds s.scope.visible text) → true ≡ is_shadow s entry
shadow-local s entry text named primitive a is local =
    sym (ap (λ (t : Bool). t || (is_declared s && list_any (is_visible_local text) s.scope.visible)) is) ∙ shadow-by s entry text text named named primitive a (is_declared s && list_any (is_visible_local text) s.scope.visible) local refl

pub shadow-declared : (s : Standing) (entry : Entry) (text other : List ℕ) → text ≡ entry.name → other ≡ entry.name → names_primitive entry ≡ false → (a b : Bool) → a ≡ false → a ≡ (is_local s && not (is_repeated s text) && binds s.scope.visible text) → b ≡ (is_declared s && list_any (is_visible_local other) s.scope.visible) → b ≡ is_shadow s entry
shadow-declared s entry text other named named-too primitive a b is local declared =
    sym (ap (λ (t : Bool). t || b) is) ∙ shadow-by s entry text other named named-too primitive a b local declared

pub both-true : (a b : Bool) → a ≡ true → b ≡ (a && b)
both-true a b e = rw e refl

pub both-false : (a b : Bool) → a ≡ false → a ≡ (a && b)
both-false a b e = rw e refl

-- a local that isn't mentioned
module _ (file : Forest Entry) (lists : Lists) (site : Site) (n : ℕ) (s : Standing) (read : IsRead file lists site n s) (nodes : List ℕ) (marks : List Bool) (are : AreMarks file marks nodes) (lt : n < count file) (c : ℕ) (within : c < count file) (named : name_in (below file n) ≡ first_root (from file c)) (text : List ℕ) (reads : text ≡ text_at (from file c)) (to_be : is_to_be_mentioned s ≡ true) (repeated marked : Bool) (is-repeated : repeated ≡ is_repeated s text) (is-marked : marked ≡ unwrap_or (slice_get marks n) false) where
  there-is : IsThere file c
  there-is = is-there file c within

  marked-is : marked ≡ is_mentioned nodes s.node
  marked-is = is-marked ∙ ap (λ (o : Option Bool). unwrap_or o false) (are.each n lt) ∙ ap (is_mentioned nodes) (sym read.number)

  unused-by : unused nodes s ≡ told (not repeated && not marked) 10 there-is.root
  unused-by =
      ap (λ (t : Bool). if t then unused_at nodes s (name_in s.below) else []) to_be
      ∙ ap (λ (f : Forest Entry). unused_at nodes s (name_in (inside_first f))) (sym read.here)
      ∙ ap (unused_at nodes s) (named ∙ ap first_root there-is.is)
      ∙ ap (λ (x : List ℕ). told (not (is_repeated s x) && not (is_mentioned nodes s.node)) 10 there-is.root) (sym (reads ∙ ap text_at there-is.is))
      ∙ (let p = sym is-repeated in let q = sym marked-is in λ i. told (not (p i) && not (q i)) 10 there-is.root)

  pub unused-marked : repeated ≡ false → marked ≡ true → unused nodes s ≡ []
  unused-marked r m = unused-by ∙ (λ i. told (not (r i) && not (m i)) 10 there-is.root)

  pub unused-told : repeated ≡ false → marked ≡ false → unused nodes s ≡ tells file 10 (Some c)
  unused-told r m = unused-by ∙ (λ i. told (not (r i) && not (m i)) 10 there-is.root) ∙ sym (ap (λ (f : Forest Entry). told_at_name true 10 (first_root f)) there-is.is)
