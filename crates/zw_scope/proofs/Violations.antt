-- A list of violations is empty or has a first one.
use Rattle.std.proofs.Common.{◌≡◌, ◌⊎◌, inl, inr, ℕ, suc, ◌<◌, ◌≤◌, List, [], ◌∷◌, ◌++◌, Option, Some, None, true, length, get_or, All, Contains, refl, sym, ap, ◌∙◌, subst, arith}
use Rattle.std.proofs.lemmas.Bool.{cases_lt}
use Rattle.std.proofs.lemmas.List.Elements.{All-cons, All-contains, All-push, Contains-append_left, Contains-push}
use Rattle.zw_tree.specs.Trees.{Forest}
use Rattle.zw_tree.specs.declared.ast.Entry.{Entry}
use Rattle.zw_tree.specs.Trees.{count}
use Rattle.zw_tree.specs.Numbering.{first_root, from}
use Rattle.zw_scope.specs.declared.told.Told.{Told}
use Rattle.zw_scope.specs.Telling.{IsFirstOf, IsLeast, IsToldFirst, tells}
use Rattle.zw_scope_sites.proofs.SiteLemmas.{IsThere, is-there}
use Rattle.zw_scope.specs.NameRules.{told_at_name, Violation, NotBehind, IsFirstViolation, AreNamed, violations}

pub contains-head : {X : Type 0} (x : X) (xs : List X) → Contains (x ∷ xs) x
contains-head x xs = (0, omega arith, refl)

pub contains-tail : {X : Type 0} (x y : X) (xs : List X) → Contains xs y → Contains (x ∷ xs) y
contains-tail x y xs (k, within, is) = (suc k, omega arith, is)

pub not_behind-itself : (v : Violation) → NotBehind v v
not_behind-itself v = inr (refl, omega arith)

pub not_behind-trans : (u v w : Violation) → NotBehind u v → NotBehind v w → NotBehind u w
not_behind-trans u v w (inl a) (inl b) = inl (omega arith)
not_behind-trans u v w (inl a) (inr b) = inl (omega (arith, b.0))
not_behind-trans u v w (inr a) (inl b) = inl (omega (arith, a.0))
not_behind-trans u v w (inr a) (inr b) = inr (a.0 ∙ b.0, omega (arith, a.1, b.1))

-- of two violations one isn't behind the other
pub one-not_behind : (u v : Violation) → NotBehind u v ⊎ NotBehind v u
one-not_behind u v = by (cases_lt u.at.node.first v.at.node.first) (cases_lt v.at.node.first u.at.node.first)
  where
    same : u.at.node.first ≡ v.at.node.first → (u.error < v.error) ⊎ (v.error ≤ u.error) → NotBehind u v ⊎ NotBehind v u
    same e (inl lt) = inl (inr (e, omega arith))
    same e (inr le) = inr (inr (sym e, le))

    by : (u.at.node.first < v.at.node.first) ⊎ (v.at.node.first ≤ u.at.node.first) → (v.at.node.first < u.at.node.first) ⊎ (u.at.node.first ≤ v.at.node.first) → NotBehind u v ⊎ NotBehind v u
    by (inl lt) other = inl (inl lt)
    by (inr le) (inl lt) = inr (inl lt)
    by (inr le) (inr le2) = same (omega arith) (cases_lt u.error v.error)

all-behind : (u v : Violation) (vs : List Violation) → NotBehind u v → All (NotBehind v) vs → All (NotBehind u) vs
all-behind u v vs h all = λ k d within. not_behind-trans u v (get_or vs k d) h (all k d within)

pub least-cons : (u : Violation) (vs : List Violation) (v : Violation) → IsLeast vs v → (w : Violation) × IsLeast (u ∷ vs) w
least-cons u vs v least = by (one-not_behind u v)
  where
    by : NotBehind u v ⊎ NotBehind v u → (w : Violation) × IsLeast (u ∷ vs) w
    by (inl first) = (u, record { there = contains-head u vs; least = All-cons (NotBehind u) u vs (not_behind-itself u) (all-behind u v vs first least.least) })
    by (inr first) = (v, record { there = contains-tail u v vs least.there; least = All-cons (NotBehind v) u vs first least.least })

pub empty-or-least : (vs : List Violation) → (vs ≡ []) ⊎ ((v : Violation) × IsLeast vs v)
empty-or-least [] = inl refl
empty-or-least (u ∷ vs) = inr (by (empty-or-least vs))
  where
    alone : vs ≡ [] → IsLeast (u ∷ vs) u
    alone none = record { there = contains-head u vs; least = All-cons (NotBehind u) u vs (not_behind-itself u) (λ k d within. let size = ap length none in absurd (omega arith)) }

    by : (vs ≡ []) ⊎ ((v : Violation) × IsLeast vs v) → (w : Violation) × IsLeast (u ∷ vs) w
    by (inl none) = (u, alone none)
    by (inr (v, least)) = least-cons u vs v least

pub named-or-broken : (forest : Forest Entry) → AreNamed forest ⊎ ((v : Violation) × IsFirstViolation forest v)
named-or-broken forest = by (empty-or-least (violations forest))
  where
    by : (violations forest ≡ []) ⊎ ((v : Violation) × IsLeast (violations forest) v) → AreNamed forest ⊎ ((v : Violation) × IsFirstViolation forest v)
    by (inl none) = inl none
    by (inr (v, least)) = inr (v, record { broken = least.there; first = least.least })

pub never-both : (forest : Forest Entry) (v : Violation) → AreNamed forest → IsFirstViolation forest v → ⊥
never-both forest v named first = let size = ap length named in let within = first.broken.1 in omega (arith, size, within)

same-place : (v w : Violation) → NotBehind v w → NotBehind w v → (v.error ≡ w.error) × (v.at.node.first ≡ w.at.node.first)
same-place v w (inl a) (inl b) = absurd (omega arith)
same-place v w (inl a) (inr b) = absurd (omega (arith, b.0))
same-place v w (inr a) (inl b) = absurd (omega (arith, a.0))
same-place v w (inr a) (inr b) = (omega (arith, a.1, b.1), a.0)

pub one-first : (forest : Forest Entry) (v w : Violation) → IsFirstViolation forest v → IsFirstViolation forest w → (v.error ≡ w.error) × (v.at.node.first ≡ w.at.node.first)
one-first forest v w first other =
    same-place v w
    (All-contains (NotBehind v) (violations forest) w first.first other.broken)
    (All-contains (NotBehind w) (violations forest) v other.first first.broken)

-- one violation more
module _ (file : Forest Entry) (n error : ℕ) (within : n < count file) where
  pub the-node : IsThere file n
  the-node = is-there file n within

  pub told-one : tells file error (Some n) ≡ record { error = error; at = the-node.root } ∷ []
  told-one = ap (λ (f : Forest Entry). told_at_name true error (first_root f)) the-node.is

  pub told-root : first_root (from file n) ≡ Some the-node.root
  told-root = ap first_root the-node.is

  pub first-alone : (vs : List Violation) → vs ≡ [] → IsToldFirst file (vs ++ tells file error (Some n)) (record { error = error; node = n })
  first-alone vs none =
      let v : Violation = record { error = error; at = the-node.root } in
      let all : vs ++ tells file error (Some n) ≡ v ∷ [] = (λ j. none j ++ told-one j) in
      record { entry = the-node.root; at = told-root; least = subst (λ (ws : List Violation). IsLeast ws v) (sym all) (record { there = contains-head v []; least = All-cons (NotBehind v) v [] (not_behind-itself v) (λ k d h. absurd (omega arith)) }) }

  pub first-stays : (vs : List Violation) (t : Told) → (h : IsToldFirst file vs t) → NotBehind (record { error = t.error; at = h.entry }) (record { error = error; at = the-node.root }) → IsToldFirst file (vs ++ tells file error (Some n)) t
  first-stays vs t h first =
      let v : Violation = record { error = error; at = the-node.root } in
      let old : Violation = record { error = t.error; at = h.entry } in
      record { entry = h.entry; at = h.at; least = subst (λ (ws : List Violation). IsLeast ws old) (ap (λ (ws : List Violation). vs ++ ws) (sym told-one)) (record { there = Contains-append_left vs (v ∷ []) old h.least.there; least = All-push (NotBehind old) vs v h.least.least first }) }

  pub first-changes : (vs : List Violation) (t : Told) → (h : IsToldFirst file vs t) → NotBehind (record { error = error; at = the-node.root }) (record { error = t.error; at = h.entry }) → IsToldFirst file (vs ++ tells file error (Some n)) (record { error = error; node = n })
  first-changes vs t h first =
      let v : Violation = record { error = error; at = the-node.root } in
      let old : Violation = record { error = t.error; at = h.entry } in
      record { entry = the-node.root; at = told-root; least = subst (λ (ws : List Violation). IsLeast ws v) (ap (λ (ws : List Violation). vs ++ ws) (sym told-one)) (record { there = Contains-push vs v; least = All-push (NotBehind v) vs v (all-behind v old vs first h.least.least) (not_behind-itself v) }) }

pub first-none : (file : Forest Entry) (vs : List Violation) (o : Option Told) → o ≡ None → IsFirstOf file vs o → vs ≡ []
first-none file vs o e h = rw e at h

pub first-some : (file : Forest Entry) (vs : List Violation) (o : Option Told) (t : Told) → o ≡ Some t → IsFirstOf file vs o → IsToldFirst file vs t
first-some file vs o t e h = rw e at h
