-- Tables from numbers to numbers: where they lead, and that they stay when forks are added.
use Rattle.std.proofs.Common.{◌≡◌, ℕ, zero, suc, ◌+◌, List, [], ◌∷◌, ◌++◌, Some, length, slice_get, refl, sym, ap, ◌∙◌, subst, arith}
use Rattle.std.specs.Prelude.{unwrap_or}
use Rattle.zw_scope_sites.specs.Tables.{IsPut, Leads, Reaches, fork_at, no_fork, to_even, to_here, to_none, to_odd}
use Rattle.zw_scope_sites.specs.declared.tables.Fork.{Fork}
use Rattle.zw_scope_sites.proofs.ListLemmas.{got-kept, got-last}

-- a number as what stays of it behind a fork
data Halved (key : ℕ) : Type 0 where
  none : key ≡ 0 → Halved key
  odd_half : (k : ℕ) → key ≡ k + k + 1 → Halved key
  even_half : (k : ℕ) → key ≡ k + k + 2 → Halved key

halved : (key : ℕ) → Halved key
halved zero = none refl
halved (suc key) = by (halved key)
  where
    by : Halved key → Halved (suc key)
    by (none e) = odd_half 0 (omega arith)
    by (odd_half k e) = even_half k (omega arith)
    by (even_half k e) = odd_half (suc k) (omega arith)

-- what a fork leads from a number to
pub data Goes (forks : List Fork) (f : Fork) (key v : ℕ) : Type 0 where
  here : key ≡ 0 → f.here ≡ v → Goes forks f key v
  odd : (k : ℕ) → key ≡ k + k + 1 → Leads forks f.odd k v → Goes forks f key v
  even : (k : ℕ) → key ≡ k + k + 2 → Leads forks f.even k v → Goes forks f key v

-- a table that is empty goes on to tables that are empty
goes-none : (forks : List Fork) (key : ℕ) → Goes forks no_fork key 0
goes-none forks key = by (halved key)
  where
    by : Halved key → Goes forks no_fork key 0
    by (none e) = here e refl
    by (odd_half k e) = odd k e (to_none k)
    by (even_half k e) = even k e (to_none k)

fork-is : (forks : List Fork) (n : ℕ) (f : Fork) → slice_get forks n ≡ Some f → fork_at forks (suc n) ≡ f
fork-is forks n f at = ap (λ o. unwrap_or o no_fork) at

pub goes-out : (forks : List Fork) (head key v : ℕ) → Leads forks head key v → Goes forks (fork_at forks head) key v
goes-out forks _ _ _ (to_none key) = goes-none forks key
goes-out forks _ _ _ (to_here n f at) = subst (λ (g : Fork). Goes forks g 0 f.here) (sym (fork-is forks n f at)) (here refl refl)
goes-out forks _ _ _ (to_odd n f key k v at e rest) = subst (λ (g : Fork). Goes forks g key v) (sym (fork-is forks n f at)) (odd k e rest)
goes-out forks _ _ _ (to_even n f key k v at e rest) = subst (λ (g : Fork). Goes forks g key v) (sym (fork-is forks n f at)) (even k e rest)

pub goes-here : (forks : List Fork) (f : Fork) (key v : ℕ) → Goes forks f key v → key ≡ 0 → f.here ≡ v
goes-here forks f key v (here is there) e = there
goes-here forks f key v (odd k is l) e = absurd (omega arith)
goes-here forks f key v (even k is l) e = absurd (omega arith)

pub goes-odd : (forks : List Fork) (f : Fork) (key v k : ℕ) → Goes forks f key v → key ≡ k + k + 1 → Leads forks f.odd k v
goes-odd forks f key v k (here is there) e = absurd (omega arith)
goes-odd forks f key v k (odd j is l) e = let same : j ≡ k = omega arith in subst (λ i. Leads forks f.odd i v) same l
goes-odd forks f key v k (even j is l) e = absurd (omega arith)

pub goes-even : (forks : List Fork) (f : Fork) (key v k : ℕ) → Goes forks f key v → key ≡ k + k + 2 → Leads forks f.even k v
goes-even forks f key v k (here is there) e = absurd (omega arith)
goes-even forks f key v k (odd j is l) e = absurd (omega arith)
goes-even forks f key v k (even j is l) e = let same : j ≡ k = omega arith in subst (λ i. Leads forks f.even i v) same l

-- tables stay when forks are added
pub reaches-more : (forks more : List Fork) → Reaches forks (forks ++ more)
reaches-more forks more _ _ _ (to_none key) = to_none key
reaches-more forks more _ _ _ (to_here n f at) = to_here n f (got-kept forks more n f at)
reaches-more forks more _ _ _ (to_odd n f key k v at e rest) = to_odd n f key k v (got-kept forks more n f at) e (reaches-more forks more f.odd k v rest)
reaches-more forks more _ _ _ (to_even n f key k v at e rest) = to_even n f key k v (got-kept forks more n f at) e (reaches-more forks more f.even k v rest)

-- a fork that is put last, and where it leads
module _ (forks : List Fork) (f : Fork) where
  last-here : (key v : ℕ) → key ≡ 0 → f.here ≡ v → Leads (forks ++ f ∷ []) (suc (length forks)) key v
  last-here key v e is = rw (e, sym is) (to_here (length forks) f (got-last forks f))

  last-odd : (key k v : ℕ) → key ≡ k + k + 1 → Leads forks f.odd k v → Leads (forks ++ f ∷ []) (suc (length forks)) key v
  last-odd key k v e l = to_odd (length forks) f key k v (got-last forks f) e (reaches-more forks (f ∷ []) f.odd k v l)

  last-even : (key k v : ℕ) → key ≡ k + k + 2 → Leads forks f.even k v → Leads (forks ++ f ∷ []) (suc (length forks)) key v
  last-even key k v e l = to_even (length forks) f key k v (got-last forks f) e (reaches-more forks (f ∷ []) f.even k v l)

-- what is put, where the first fork is this
module _ (old mid new : List Fork) (head key value result : ℕ) (f : Fork) (is : f ≡ fork_at old head) where
  out : (k v : ℕ) → Leads old head k v → Goes old f k v
  out k v l = subst (λ (g : Fork). Goes old g k v) (sym is) (goes-out old head k v l)

  pub is-put-here : key ≡ 0 → (let g : Fork = record f { here = value } in new ≡ old ++ g ∷ []) → result ≡ suc (length old) → IsPut old new head key value result
  is-put-here e is_new is_last =
      let g : Fork = record f { here = value } in
      rw (is_new, is_last) (record {
        reaches = reaches-more old (g ∷ []);
        there = last-here old g key value e refl;
        others = λ k v apart l. by k v apart (out k v l);
      })
    where
      by : (k v : ℕ) → (k ≡ key → ⊥) → Goes old f k v → let g : Fork = record f { here = value } in Leads (old ++ g ∷ []) (suc (length old)) k v
      by k v apart (here zero_key there) = absurd (apart (zero_key ∙ sym e))
      by k v apart (odd j d l) = last-odd old (record f { here = value }) k j v d l
      by k v apart (even j d l) = last-even old (record f { here = value }) k j v d l

  pub is-put-odd : (half head' : ℕ) → IsPut old mid f.odd half value head' → key ≡ half + half + 1 → (let g : Fork = record f { odd = head' } in new ≡ mid ++ g ∷ []) → result ≡ suc (length mid) → IsPut old new head key value result
  is-put-odd half head' put e is_new is_last =
      let g : Fork = record f { odd = head' } in
      rw (is_new, is_last) (record {
        reaches = λ h k v l. reaches-more mid (g ∷ []) h k v (put.reaches h k v l);
        there = last-odd mid g key half value e put.there;
        others = λ k v apart l. by k v apart (out k v l);
      })
    where
      by : (k v : ℕ) → (k ≡ key → ⊥) → Goes old f k v → let g : Fork = record f { odd = head' } in Leads (mid ++ g ∷ []) (suc (length mid)) k v
      by k v apart (here zero_key there) = last-here mid (record f { odd = head' }) k v zero_key there
      by k v apart (odd j d l) = last-odd mid (record f { odd = head' }) k j v d (put.others j v (λ same. apart (d ∙ ap (λ i. i + i + 1) same ∙ sym e)) l)
      by k v apart (even j d l) = last-even mid (record f { odd = head' }) k j v d (put.reaches f.even j v l)

  pub is-put-even : (half head' : ℕ) → IsPut old mid f.even half value head' → key ≡ half + half + 2 → (let g : Fork = record f { even = head' } in new ≡ mid ++ g ∷ []) → result ≡ suc (length mid) → IsPut old new head key value result
  is-put-even half head' put e is_new is_last =
      let g : Fork = record f { even = head' } in
      rw (is_new, is_last) (record {
        reaches = λ h k v l. reaches-more mid (g ∷ []) h k v (put.reaches h k v l);
        there = last-even mid g key half value e put.there;
        others = λ k v apart l. by k v apart (out k v l);
      })
    where
      by : (k v : ℕ) → (k ≡ key → ⊥) → Goes old f k v → let g : Fork = record f { even = head' } in Leads (mid ++ g ∷ []) (suc (length mid)) k v
      by k v apart (here zero_key there) = last-here mid (record f { even = head' }) k v zero_key there
      by k v apart (odd j d l) = last-odd mid (record f { even = head' }) k j v d (put.reaches f.odd j v l)
      by k v apart (even j d l) = last-even mid (record f { even = head' }) k j v d (put.others j v (λ same. apart (d ∙ ap (λ i. i + i + 2) same ∙ sym e)) l)
