-- The violations of a tree, node by node.
use Rattle.std.proofs.Common.{◌≡◌, ℕ, ◌+◌, ◌<◌, ◌≤◌, List, [], ◌∷◌, ◌++◌, Option, Some, None, slice_get, get_or, take, append_assoc, append-nil, refl, sym, ap, ◌∙◌, subst, arith}
use Rattle.std.specs.List.{flat_map}
use Rattle.std.specs.Option.{option_map}
use Rattle.std.proofs.lemmas.List.{take_more, take_all}
use Rattle.std.proofs.lemmas.List.Concat.{flat_map-append}
use Rattle.std.proofs.lemmas.Option.{slice_get_within, get_or_from_slice_get}
use Rattle.zw_base.specs.declared.stop.Stop.{Stop}
use Rattle.zw_base.specs.declared.stop.StopKind.TheVariants.{Error}
use Rattle.zw_tree.specs.Trees.{Forest, none, tree, count}
use Rattle.zw_tree.specs.Numbering.{from, first_root, node_at}
use Rattle.zw_tree.specs.declared.ast.Entry.{Entry}
use Rattle.zw_tree.specs.declared.ast.Node.{Node}
use Rattle.zw_tree.proofs.Subtrees.{node-root}
use Rattle.zw_scope.specs.NameRules.{AreNamed, IsNameStop, Violation, mentioned, violations, violations_at}
use Rattle.zw_scope_sites.specs.Scopes.{Standing, all_standing, around_file}
use Rattle.zw_scope.specs.Telling.{IsFirstOf}
use Rattle.zw_scope.specs.declared.told.Told.{Told}
use Rattle.zw_scope_sites.proofs.PlacingLemmas.{length-standing}
use Rattle.zw_scope.proofs.RepeatLemmas.{node-within}

-- all that a node breaks, rule by rule
pub six-more : (file : Forest Entry) (o : Option Told) (vs a b c d e f : List Violation) (A B C D E F : List Violation) → a ≡ A → b ≡ B → c ≡ C → d ≡ D → e ≡ E → f ≡ F
    → IsFirstOf file ((((((vs ++ A) ++ B) ++ C) ++ D) ++ E) ++ F) o → IsFirstOf file (vs ++ (((((a ++ b) ++ c) ++ d) ++ e) ++ f)) o
six-more file o vs a b c d e f A B C D E F p q r s t u h =
    subst (λ (ws : List Violation). IsFirstOf file ws o)
    (append_assoc ((((vs ++ A) ++ B) ++ C) ++ D) E F ∙ append_assoc (((vs ++ A) ++ B) ++ C) D (E ++ F) ∙ append_assoc ((vs ++ A) ++ B) C (D ++ (E ++ F)) ∙ append_assoc (vs ++ A) B (C ++ (D ++ (E ++ F))) ∙ append_assoc vs A (B ++ (C ++ (D ++ (E ++ F))))
    ∙ ap (λ (ws : List Violation). vs ++ ws) (sym (append_assoc (((A ++ B) ++ C) ++ D) E F ∙ append_assoc ((A ++ B) ++ C) D (E ++ F) ∙ append_assoc (A ++ B) C (D ++ (E ++ F)) ∙ append_assoc A B (C ++ (D ++ (E ++ F)))))
    ∙ sym (λ i. vs ++ (((((p i ++ q i) ++ r i) ++ s i) ++ t i) ++ u i)))
    h

flat_map-next : {X Y : Type 0} (f : X → List Y) (xs : List X) (i : ℕ) (x : X) → slice_get xs i ≡ Some x → flat_map f (take (i + 1) xs) ≡ flat_map f (take i xs) ++ f x
flat_map-next {X} {Y} f xs i x at =
    let within = slice_get_within xs i x at in
    let is : get_or xs i x ≡ x = get_or_from_slice_get xs i x x at in
    ap (flat_map f) (take_more xs i x within) ∙ flat_map-append f (take i xs) (get_or xs i x ∷ []) ∙ ap (λ (ys : List Y). flat_map f (take i xs) ++ ys) (append-nil (f (get_or xs i x)) ∙ ap f is)

pub violations-next : (file : Forest Entry) (n : ℕ) (s : Standing) → slice_get (all_standing file) n ≡ Some s → (o : Option Told)
    → IsFirstOf file (flat_map (violations_at (mentioned (all_standing file))) (take n (all_standing file)) ++ violations_at (mentioned (all_standing file)) s) o
    → IsFirstOf file (flat_map (violations_at (mentioned (all_standing file))) (take (n + 1) (all_standing file))) o
violations-next file n s at o h = subst (λ (ws : List Violation). IsFirstOf file ws o) (sym (flat_map-next (violations_at (mentioned (all_standing file))) (all_standing file) n s at)) h

pub violations-whole : (file : Forest Entry) (n : ℕ) → count file ≤ n → (o : Option Told) → IsFirstOf file (flat_map (violations_at (mentioned (all_standing file))) (take n (all_standing file))) o → IsFirstOf file (violations file) o
violations-whole file n past o h =
    let size = length-standing around_file 0 file in
    subst (λ (xs : List Standing). IsFirstOf file (flat_map (violations_at (mentioned (all_standing file))) xs) o) (take_all n (all_standing file) (omega arith)) h

-- the stop at a node
pub place-is : (file : Forest Entry) (n : ℕ) → n < count file → (node : Node) → option_map (λ (e : Entry). e.node) (node_at file n) ≡ Some node → (entry : Entry) → first_root (from file n) ≡ Some entry → node ≡ entry.node
place-is file n lt node h entry at =
    let both : option_map (λ (e : Entry). e.node) (node_at file n) ≡ Some entry.node = ap (option_map (λ (e : Entry). e.node)) (node-root file n lt ∙ at) in
    cc

pub told-within : (file : Forest Entry) (n : ℕ) (entry : Entry) → first_root (from file n) ≡ Some entry → n < count file
told-within file n entry at = by (from file n) refl at
  where
    by : (f : Forest Entry) → from file n ≡ f → first_root f ≡ Some entry → n < count file
    by none e h = absurd (cc)
    by (tree root inside behind) e h = node-within file n root inside behind e

pub first-within : (file : Forest Entry) (vs : List Violation) (o : Option Told) (t : Told) → o ≡ Some t → IsFirstOf file vs o → t.node < count file
first-within file vs o t e h = let told = rw e at h in told-within file t.node told.entry told.at

pub named-none : (file : Forest Entry) (o : Option Told) → o ≡ None → IsFirstOf file (violations file) o → AreNamed file
named-none file o e h = rw e at h

pub stop-some : (file : Forest Entry) (o : Option Told) (t : Told) → o ≡ Some t → IsFirstOf file (violations file) o → (stop : Stop)
    → ((entry : Entry) → first_root (from file t.node) ≡ Some entry → stop ≡ record { kind = Error t.error; place = entry.node.place }) → IsNameStop file stop
stop-some file o t e h stop is =
    let told = rw e at h in
    (record { error = t.error; at = told.entry }, record { broken = told.least.there; first = told.least.least }, is told.entry told.at)
