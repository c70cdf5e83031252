-- Which nodes are marked as mentioned.
use Rattle.std.proofs.Common.{◌≡◌, ◌≢◌, ℕ, zero, suc, ◌+◌, ◌<◌, ◌≤◌, ◌⊎◌, inl, inr, List, [], ◌∷◌, Option, Some, Bool, true, false, length, slice_get, get_or, take, ◌++◌, append-nil, eq-eqb, refl, sym, ap, ◌∙◌, subst, arith}
use Rattle.std.specs.Prelude.{slice_set, replicate, nat_eq, ◌||◌}
use Rattle.std.specs.List.{flat_map}
use Rattle.std.specs.Option.{option_to_list}
use Rattle.std.proofs.lemmas.Bool.Decides.{eqb_tells}
use Rattle.std.proofs.lemmas.List.Folds.{list_any-append}
use Rattle.std.proofs.lemmas.List.Concat.{flat_map-append}
use Rattle.std.proofs.lemmas.Bool.{cases_eq}
use Rattle.std.proofs.lemmas.List.{length-set, take_more, take_all}
use Rattle.std.proofs.lemmas.Option.{slice_get_within, get_or_from_slice_get}
use Rattle.zw_tree.specs.Trees.{Forest, count}
use Rattle.zw_tree.specs.declared.ast.Entry.{Entry}
use Rattle.zw_scope_sites.specs.Scopes.{Standing, all_standing, around_file}
use Rattle.zw_scope.specs.NameRules.{is_mentioned, mentioned, mentioned_by}
use Rattle.zw_scope.specs.Telling.{AreMarks}
use Rattle.zw_scope_sites.proofs.PlaceLemmas.{node-placed, set-other, set-same}
use Rattle.zw_scope_sites.proofs.PlacingLemmas.{length-standing}

got-replicated : {X : Type 0} (x : X) (n i : ℕ) → i < n → slice_get (replicate n x) i ≡ Some x
got-replicated x zero i h = absurd (omega arith)
got-replicated x (suc n) zero h = refl
got-replicated x (suc n) (suc i) h = got-replicated x n i (omega arith)

pub sized-replicated : {X : Type 0} (x : X) (n : ℕ) → length (replicate n x) ≡ n
sized-replicated x zero = refl
sized-replicated x (suc n) = ap suc (sized-replicated x n)

mentioned-more : (nodes : List ℕ) (m node : ℕ) → is_mentioned (nodes ++ node ∷ []) m ≡ (is_mentioned nodes m || (nat_eq m node || false))
mentioned-more nodes m node = list_any-append (nat_eq m) nodes (node ∷ [])

or-true : (a : Bool) → (a || (true || false)) ≡ true
or-true true = refl
or-true false = refl

or-false : (a : Bool) → (a || (false || false)) ≡ a
or-false true = refl
or-false false = refl

mentioned-now : (nodes : List ℕ) (m node : ℕ) → m ≡ node → is_mentioned (nodes ++ node ∷ []) m ≡ true
mentioned-now nodes m node e = mentioned-more nodes m node ∙ ap (λ (t : Bool). is_mentioned nodes m || (t || false)) (eq-eqb m node e) ∙ or-true (is_mentioned nodes m)

mentioned-still : (nodes : List ℕ) (m node : ℕ) → (m ≡ node → ⊥) → is_mentioned (nodes ++ node ∷ []) m ≡ is_mentioned nodes m
mentioned-still nodes m node ne = mentioned-more nodes m node ∙ ap (λ (t : Bool). is_mentioned nodes m || (t || false)) (by (eqb_tells m node)) ∙ or-false (is_mentioned nodes m)
  where
    by : ((nat_eq m node ≡ true) × (m ≡ node)) ⊎ ((nat_eq m node ≡ false) × (m ≢ node)) → nat_eq m node ≡ false
    by (inl (t, e)) = absurd (ne e)
    by (inr (f, e)) = f

pub marked : (file : Forest Entry) (marks : List Bool) (nodes : List ℕ) (node : ℕ) → AreMarks file marks nodes → node < length marks → AreMarks file (slice_set marks node true) (nodes ++ node ∷ [])
marked file marks nodes node are within = record {
  sized = length-set marks node true ∙ are.sized;
  each = λ m lt. by m lt (cases_eq m node);
}
  where
    by : (m : ℕ) → m < count file → (m ≡ node) ⊎ (m ≡ node → ⊥) → slice_get (slice_set marks node true) m ≡ Some (is_mentioned (nodes ++ node ∷ []) m)
    by m lt (inl e) = ap (slice_get (slice_set marks node true)) e ∙ set-same marks node true within ∙ ap Some (sym (mentioned-now nodes m node e))
    by m lt (inr ne) = set-other marks node m true ne ∙ are.each m lt ∙ ap Some (sym (mentioned-still nodes m node ne))

pub unmarked : (file : Forest Entry) (marks : List Bool) (nodes : List ℕ) (node : ℕ) → AreMarks file marks nodes → length marks ≤ node → AreMarks file marks (nodes ++ node ∷ [])
unmarked file marks nodes node are past = record {
  sized = are.sized;
  each = λ m lt. let size = are.sized in let ne : m ≡ node → ⊥ = λ e. omega (arith, e, size) in are.each m lt ∙ ap Some (sym (mentioned-still nodes m node ne));
}

pub marks-begun : (file : Forest Entry) (n : ℕ) → n ≡ count file → AreMarks file (replicate n false) []
marks-begun file n e = record { sized = sized-replicated false n ∙ e; each = λ m lt. got-replicated false n m (omega arith) }

-- one node more of the list of all
pub mentioned-next : (file : Forest Entry) (n : ℕ) → n < count file → (marks : List Bool) (o : Option ℕ) → ((s : Standing) → slice_get (all_standing file) n ≡ Some s → mentioned_by s ≡ option_to_list o) → AreMarks file marks (mentioned (take n (all_standing file)) ++ option_to_list o) → AreMarks file marks (mentioned (take (n + 1) (all_standing file)))
mentioned-next file n lt marks o is are =
    let r = node-placed file n lt in
    let more = flat_map-next mentioned_by (all_standing file) n r.0 (r.1).got in
    subst (AreMarks file marks) (sym (more ∙ ap (λ (xs : List ℕ). mentioned (take n (all_standing file)) ++ xs) (is r.0 (r.1).got))) are
  where
    flat_map-next : {X Y : Type 0} (f : X → List Y) (xs : List X) (i : ℕ) (x : X) → slice_get xs i ≡ Some x → flat_map f (take (i + 1) xs) ≡ flat_map f (take i xs) ++ f x
    flat_map-next f xs i x at =
        let within = slice_get_within xs i x at in
        let is : get_or xs i x ≡ x = get_or_from_slice_get xs i x x at in
        ap (flat_map f) (take_more xs i x within) ∙ flat_map-append f (take i xs) (get_or xs i x ∷ []) ∙ ap (λ (ys : List _). flat_map f (take i xs) ++ ys) (append-nil (f (get_or xs i x)) ∙ ap f is)

pub mentioned-whole : (file : Forest Entry) (n : ℕ) → count file ≤ n → (marks : List Bool) → AreMarks file marks (mentioned (take n (all_standing file))) → AreMarks file marks (mentioned (all_standing file))
mentioned-whole file n past marks are =
    let size = length-standing around_file 0 file in
    subst (λ (xs : List Standing). AreMarks file marks (mentioned xs)) (take_all n (all_standing file) (omega arith)) are
