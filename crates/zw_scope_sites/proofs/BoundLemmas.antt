-- Tables that stand for lists of bindings: they stay when names, forks and links are added, and one is made for a list with one binding more.
use Rattle.std.proofs.Common.{◌≡◌, ℕ, suc, ◌<◌, ◌≤◌, Bool, true, false, ◌&&◌, ◌||◌, List, [], ◌∷◌, ◌++◌, Option, Some, None, Result, Ok, Err, length, slice_get, ◌⊎◌, inl, inr, if◌then◌else◌, refl, sym, ap, ◌∙◌, subst, arith}
use Rattle.std.specs.Prelude.{IfOk, OnOk}
use Rattle.std.specs.List.{list_any}
use Rattle.std.specs.Str.{bytes_eq}
use Rattle.std.proofs.lemmas.List.{length-append}
use Rattle.zw_names.specs.NameSets.{number_in}
use Rattle.zw_scope_sites.specs.Lists.{Finds, IsAt, IsFound, IsTable, IsBindings, at_none, at_some}
use Rattle.zw_scope_sites.specs.Scopes.{is_visible_local, has_name, innermost}
use Rattle.zw_scope_sites.specs.Tables.{IsPut, Leads, Reaches, to_none}
use Rattle.zw_scope_sites.specs.declared.lists.Binding.{Binding}
use Rattle.zw_scope_sites.specs.declared.lists.BindingLink.{BindingLink}
use Rattle.zw_scope_sites.specs.declared.lists.Lists.{Lists}
use Rattle.zw_scope_sites.specs.declared.tables.Fork.{Fork}
use Rattle.zw_scope_sites.proofs.ListLemmas.{got-kept, got-last}
use Rattle.zw_names.proofs.NumberLemmas.{number_in-more, number_in-same, number_in-within}
use Rattle.zw_names.proofs.SetLemmas.{bytes_eq-same, same_bytes}

-- the empty table stands for the empty list
pub nothing-bound : (lists : Lists) → IsBindings lists 0 []
nothing-bound lists = record {
  each = λ name. record { link = 0; found = None; leads = to_none _; at = at_none; is = (refl, refl) };
  unnamed = λ name h. (refl, refl);
  past = λ k h. to_none k;
}

pub at-kept : {L : Type 0} → (links more : List L) (link : ℕ) (found : Option L) → IsAt links link found → IsAt (links ++ more) link found
at-kept links more _ _ at_none = at_none
at-kept links more _ _ (at_some n l at) = at_some n l (got-kept links more n l at)

module _ (names more : List (List ℕ)) (forks forks' : List Fork) (links others : List BindingLink) (reaches : Reaches forks forks') (head : ℕ) (bs : List Binding) (table : IsTable names forks links head bs) where
  longer : length names ≤ length (names ++ more)
  longer = let size = length-append names more in omega arith

  finds-kept : (name : List ℕ) → (number_in (names ++ more) name ≡ number_in names name) ⊎ ((number_in names name ≡ length names) × (length names ≤ number_in (names ++ more) name)) → Finds (names ++ more) forks' (links ++ others) head bs name
  finds-kept name (inl same) =
      let f = table.each name in
      record { link = f.link; found = f.found; leads = reaches head _ f.link (rw same f.leads); at = at-kept links others f.link f.found f.at; is = f.is }
  finds-kept name (inr (none, past)) =
      record { link = 0; found = None; leads = reaches head _ 0 (table.past _ past); at = at_none; is = table.unnamed name none }

  unnamed-kept : (name : List ℕ) → number_in (names ++ more) name ≡ length (names ++ more) → (number_in (names ++ more) name ≡ number_in names name) ⊎ ((number_in names name ≡ length names) × (length names ≤ number_in (names ++ more) name)) → number_in names name ≡ length names
  unnamed-kept name h (inl same) = let up = longer in let down = number_in-within names name in omega arith
  unnamed-kept name h (inr (none, past)) = none

  pub table-kept : IsTable (names ++ more) forks' (links ++ others) head bs
  table-kept = record {
    each = λ name. finds-kept name (number_in-more names more name);
    unnamed = λ name h. table.unnamed name (unnamed-kept name h (number_in-more names more name));
    past = λ k h. let up = longer in reaches head k 0 (table.past k (omega arith));
  }

-- what one binding more changes
found-first : (l : BindingLink) (name : List ℕ) (bs : List Binding) → l.item.name ≡ name → l.sees_local ≡ list_any (is_visible_local l.item.name) (l.item ∷ bs) → IsFound (Some l) name (l.item ∷ bs)
found-first l name bs same sees =
    let has : has_name name l.item ≡ true = bytes_eq-same l.item.name name same in
    (ap (λ b. if b then Some l.item else innermost bs name) has, sym (sees ∙ ap (λ n. list_any (is_visible_local n) (l.item ∷ bs)) same))

apart-bytes : (b : Binding) (name : List ℕ) → (b.name ≡ name → ⊥) → has_name name b ≡ false
apart-bytes b name apart = by (has_name name b) refl
  where
    by : (t : Bool) → has_name name b ≡ t → has_name name b ≡ false
    by true e = absurd (apart (same_bytes b.name name e))
    by false e = e

and-false : (b : Bool) → (b && false) ≡ false
and-false true = refl
and-false false = refl

module _ (b : Binding) (bs : List Binding) (name : List ℕ) (has : has_name name b ≡ false) where
  innermost-behind : innermost (b ∷ bs) name ≡ innermost bs name
  innermost-behind = ap (λ t. if t then Some b else innermost bs name) has

  local-behind : list_any (is_visible_local name) (b ∷ bs) ≡ list_any (is_visible_local name) bs
  local-behind = ap (λ t. (b.is_local && t) || list_any (is_visible_local name) bs) has ∙ ap (λ t. t || list_any (is_visible_local name) bs) (and-false b.is_local)

  found-behind : (found : Option BindingLink) → IsFound found name bs → IsFound found name (b ∷ bs)
  found-behind None h = (innermost-behind ∙ h.0, local-behind ∙ h.1)
  found-behind (Some l) h = (innermost-behind ∙ h.0, local-behind ∙ h.1)

module _ (names : List (List ℕ)) (forks forks' : List Fork) (links : List BindingLink) (next head : ℕ) (bs : List Binding) (table : IsTable names forks links next bs)
    (l : BindingLink) (n key : ℕ) (at : slice_get links n ≡ Some l) (number : key ≡ number_in names l.item.name) (within : key < length names) (put : IsPut forks forks' next key (suc n) head)
    (sees : l.sees_local ≡ list_any (is_visible_local l.item.name) (l.item ∷ bs)) where
  finds-first : (name : List ℕ) → l.item.name ≡ name → Finds names forks' links head (l.item ∷ bs) name
  finds-first name same =
      record { link = suc n; found = Some l; leads = rw (sym (ap (number_in names) same), sym number) put.there; at = at_some n l at; is = found-first l name bs same sees }

  finds-behind : (name : List ℕ) → (l.item.name ≡ name → ⊥) → Finds names forks' links head (l.item ∷ bs) name
  finds-behind name apart =
      let f = table.each name in
      record {
        link = f.link;
        found = f.found;
        leads = put.others (number_in names name) f.link (λ e. apart (number_in-same names l.item.name name (subst (λ k. k < length names) number within) (sym number ∙ sym e))) f.leads;
        at = f.at;
        is = found-behind l.item bs name (apart-bytes l.item name apart) f.found f.is;
      }

  finds-by : (name : List ℕ) (t : Bool) → bytes_eq l.item.name name ≡ t → Finds names forks' links head (l.item ∷ bs) name
  finds-by name true e = finds-first name (same_bytes l.item.name name e)
  finds-by name false e = finds-behind name (λ same. let twice = bytes_eq-same l.item.name name same in absurd (cc))

  unnamed-apart : (name : List ℕ) → number_in names name ≡ length names → l.item.name ≡ name → ⊥
  unnamed-apart name none same = let is = ap (number_in names) same in omega arith

  pub table-put : IsTable names forks' links head (l.item ∷ bs)
  table-put = record {
    each = λ name. finds-by name (bytes_eq l.item.name name) refl;
    unnamed = λ name none. found-behind l.item bs name (apart-bytes l.item name (unnamed-apart name none)) None (table.unnamed name none);
    past = λ k past. put.others k 0 (λ e. absurd (omega arith)) (table.past k past);
  }

-- a table finds the link that its look-up leads to
module _ (names : List (List ℕ)) (forks : List Fork) (links : List BindingLink) (head : ℕ) (bs : List Binding) (name : List ℕ) (link : ℕ) (got : (v : ℕ) → Leads forks head (number_in names name) v → link ≡ v) (table : IsTable names forks links head bs) where
  zero-by : (n : ℕ) (found : Option BindingLink) → IsAt links n found → IsFound found name bs → n ≡ 0 → IsFound None name bs
  zero-by _ _ at_none is e = is
  zero-by _ _ (at_some n l at) is e = absurd (omega arith)

  pub found-none : link ≡ 0 → IsFound None name bs
  found-none e = let f = table.each name in zero-by f.link f.found f.at f.is (sym (got f.link f.leads) ∙ e)

  some-by : (k n : ℕ) (found : Option BindingLink) → IsAt links n found → IsFound found name bs → n ≡ suc k → IsFound (slice_get links k) name bs
  some-by k _ _ at_none is e = absurd (omega arith)
  some-by k _ _ (at_some n l at) is e = let same : n ≡ k = omega arith in subst (λ o. IsFound o name bs) (sym at ∙ ap (slice_get links) same) is

  pub found-some : (k : ℕ) → link ≡ suc k → IsFound (slice_get links k) name bs
  found-some k e = let f = table.each name in some-by k f.link f.found f.at f.is (sym (got f.link f.leads) ∙ e)

-- what `bind` makes
module _ (names names' more : List (List ℕ)) (named : names' ≡ names ++ more) (links links' : List BindingLink) (l : BindingLink) (linked : links' ≡ links ++ l ∷ []) (forks forks' : List Fork) where
  pub tables-stay : Reaches forks forks' → (head : ℕ) (bs : List Binding) → IsTable names forks links head bs → IsTable names' forks' links' head bs
  tables-stay reaches head bs table = rw (named, linked) (table-kept names more forks forks' links (l ∷ []) reaches head bs table)

  pub table-made : (next head key link : ℕ) → link ≡ suc (length links) → key ≡ number_in names' l.item.name → key < length names' → IsPut forks forks' next key link head
      → (bs : List Binding) → l.sees_local ≡ list_any (is_visible_local l.item.name) (l.item ∷ bs) → IsTable names forks links next bs → IsTable names' forks' links' head (l.item ∷ bs)
  table-made next head key link last number within put bs sees table =
      let kept = table-kept names more forks forks links (l ∷ []) (λ h k v leads. leads) next bs table in
      rw (named, linked)
      (table-put (names ++ more) forks forks' (links ++ l ∷ []) next head bs kept l (length links) key (got-last links l) (rw named at number) (rw named at within) (rw last at put) sees)

pub OnOk-from : {X Y : Type 0} {P : X → Type 0} {Q : Type 0} → (r : Result X Y) → ((x : X) → P x → Q) → IfOk r P → OnOk r Q
OnOk-from (Ok x) f h = f x h
OnOk-from (Err y) f h = h
