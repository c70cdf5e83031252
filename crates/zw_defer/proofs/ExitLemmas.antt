-- Exits, item by item and scope by scope.
use Rattle.std.specs.Prelude.{◌≡◌, refl, ℕ, ◌+◌, ◌<◌, Bool, true, false, if◌then◌else◌, List, [], ◌∷◌, ◌++◌, length, drop, map, reverse}
use Rattle.std.specs.List.{filter, flat_map}
use Rattle.std.proofs.Common.{get_or, sym, ◌∙◌, ap}
use Rattle.std.proofs.lemmas.List.{append-nil, append_assoc, drop_more, reverse-append, map-append}
use Rattle.std.proofs.lemmas.List.Elements.{filter-append}
use Rattle.zw_defer.specs.declared.exits.Scope.{Scope}
use Rattle.zw_defer.specs.ScopeExit.{runs, left_scope, left_scopes}

abbrev Item : Type 0
Item = ℕ × Bool

-- from the item at k on
pub left_from : (error : Bool) (items : List Item) (k : ℕ) (d : Item) → k < length items → left_scope error (drop k items) ≡ left_scope error (drop (k + 1) items) ++ (if runs error (get_or items k d) then (get_or items k d).0 ∷ [] else [])
left_from error items k d within = ap (left_scope error) (drop_more items k d within)

-- from the scope at k on
pub left_scopes_from : (error : Bool) (scopes : List Scope) (k : ℕ) (d : Scope) → k < length scopes → left_scopes error (drop k scopes) ≡ left_scopes error (drop (k + 1) scopes) ++ left_scope error (get_or scopes k d).items
left_scopes_from error scopes k d within = ap (left_scopes error) (drop_more scopes k d within)

pub left_scopes-append : (error : Bool) (outer inner : List Scope) → left_scopes error (outer ++ inner) ≡ left_scopes error inner ++ left_scopes error outer
left_scopes-append error [] inner = sym (append-nil (left_scopes error inner))
left_scopes-append error (scope ∷ outer) inner =
    ap (λ l. l ++ left_scope error scope.items) (left_scopes-append error outer inner)
    ∙ append_assoc (left_scopes error inner) (left_scopes error outer) (left_scope error scope.items)

-- the statements of these items
abbrev statements : List Item → List ℕ
statements items = map (λ (item : Item). item.0) items

one_reversed : (error : Bool) (item : Item) → (if runs error item then item.0 ∷ [] else []) ≡ reverse (statements (filter (runs error) (item ∷ [])))
one_reversed error item = at (runs error item)
  where
    at : (b : Bool) → (if b then item.0 ∷ [] else []) ≡ reverse (statements (if b then item ∷ [] else []))
    at true = refl
    at false = refl

split : (error : Bool) (xs ys : List Item) → reverse (statements (filter (runs error) (xs ++ ys))) ≡ reverse (statements (filter (runs error) ys)) ++ reverse (statements (filter (runs error) xs))
split error xs ys =
    ap (λ l. reverse (statements l)) (filter-append (runs error) xs ys)
    ∙ ap reverse (map-append (λ (item : Item). item.0) (filter (runs error) xs) (filter (runs error) ys))
    ∙ reverse-append (statements (filter (runs error) xs)) (statements (filter (runs error) ys))

left_scope-reversed : (error : Bool) (items : List Item) → left_scope error items ≡ reverse (statements (filter (runs error) items))
left_scope-reversed error [] = refl
left_scope-reversed error (item ∷ later) =
    ap (λ l. l ++ (if runs error item then item.0 ∷ [] else [])) (left_scope-reversed error later)
    ∙ ap (λ l. reverse (statements (filter (runs error) later)) ++ l) (one_reversed error item)
    ∙ sym (split error (item ∷ []) later)

pub left_scopes-reversed : (error : Bool) (scopes : List Scope) → left_scopes error scopes ≡ reverse (statements (filter (runs error) (flat_map (λ (scope : Scope). scope.items) scopes)))
left_scopes-reversed error [] = refl
left_scopes-reversed error (scope ∷ inner) =
    ap (λ l. l ++ left_scope error scope.items) (left_scopes-reversed error inner)
    ∙ ap (λ l. reverse (statements (filter (runs error) (flat_map (λ (scope : Scope). scope.items) inner))) ++ l) (left_scope-reversed error scope.items)
    ∙ sym (split error scope.items (flat_map (λ (scope : Scope). scope.items) inner))
