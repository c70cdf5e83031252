-- A file whose members pass keeps the rules.
use Rattle.std.proofs.Common.{◌≡◌, ◌≢◌, ℕ, zero, suc, ◌+◌, ◌≤◌, Bool, true, false, if◌then◌else◌, List, [], ◌∷◌, ◌++◌, map, length, All, AllPairs, Contains, Option, Some, None, refl, sym, ap, ◌∙◌, subst, arith}
use Rattle.std.specs.List.{filter, flat_map, list_any}
use Rattle.std.specs.Str.{bytes_eq}
use Rattle.std.proofs.lemmas.List.Concat.{flat_map-append}
use Rattle.std.proofs.lemmas.List.Elements.{All-nil, All-cons, All-head, All-tail, All-append, All-weaker, Contains-append_left, Contains-append_right}
use Rattle.zw_token.specs.declared.token.Token.{Token}
use Rattle.zw_tree.specs.Trees.{Forest}
use Rattle.zw_tree.specs.declared.ast.Entry.{Entry}
use Rattle.zw_tree.specs.Numbering.{inside_first, siblings}
use Rattle.zw_form.specs.Form.{HasForm}
use Rattle.zw_form.specs.Members.{Member, Passes, IsLight, weight_of, declared_by, new_among, names_behind, place_in, counts, members_behind, members_of, functions_of}
use Rattle.zw_form.specs.declared.members.TheConstants.{WEIGHT_LIMIT}
use Rattle.zw_form.specs.Nodes.{member_of, body_nodes}
use Rattle.zw_form.specs.Rules.{KeepsNames, KeepsSteps, KeepsRules, name_of, externs_of, export_of, exports_of}
use Rattle.zw_form.specs.Trees.{Tree, declaration_of}
use Rattle.zw_form.specs.declared.source.Declaration.{Declaration}
use Rattle.zw_names.proofs.SetLemmas.{any-absent, absent}

-- what members declare
abbrev pub declared_all : List Member → List Declaration
declared_all members = flat_map (λ (m : Member). declared_by m.declares) members

-- a new function comes before the others
new-step : (names : List (List ℕ)) (o : Option Tree) (t : Tree) → o ≡ Some t → ¬ Contains names (name_of (declaration_of t)) → (ds : List Declaration)
    → new_among (names_behind names o) ds ≡ ds → new_among names (declared_by o ++ ds) ≡ declared_by o ++ ds
new-step names None t is absent ds rest = absurd (cc)
new-step names (Some d) t is absent ds rest =
    let same : d ≡ t = cc in
    let free = any-absent (name_of (declaration_of d)) names (subst (λ (e : Tree). ¬ Contains names (name_of (declaration_of e))) (sym same) absent) in
    let behind = ap (λ b. new_among (names ++ map name_of (if b then [] else declaration_of d ∷ [])) ds) free in
    ap (λ b. if b then new_among names ds else declaration_of d ∷ new_among (names ++ name_of (declaration_of d) ∷ []) ds) free
    ∙ ap (λ es. declaration_of d ∷ es) (sym behind ∙ rest)

module _ (text : List ℕ) (tokens : List Token) (functions : List Declaration) where
  pub all-new : (ts : List (Forest Entry)) (nodes : ℕ) (names : List (List ℕ)) → All (Passes functions) (members_behind text tokens ts nodes names) → new_among names (declared_all (members_behind text tokens ts nodes names)) ≡ declared_all (members_behind text tokens ts nodes names)
  all-new [] nodes names all = refl
  all-new (t ∷ behind) nodes names all =
      let o = member_of text tokens t in
      let after = members_behind text tokens behind (nodes + length (body_nodes t)) (names_behind names o) in
      let m : Member = record { place = place_in t; declares = o; nodes = body_nodes t; nodes_before = nodes; names_before = names } in
      let here = (All-head (Passes functions) m after all).keeps in
      new-step names o here.declared here.declares here.is_new (declared_all after)
      (all-new behind (nodes + length (body_nodes t)) (names_behind names o) (All-tail (Passes functions) m after all))

  -- each keeps the rules
  pub all-names : (members : List Member) → All (Passes functions) members → All (KeepsNames (map name_of functions)) (declared_all members)
  all-names [] all = All-nil (KeepsNames (map name_of functions))
  all-names (m ∷ ms) all =
      let here = (All-head (Passes functions) m ms all).keeps in
      All-append (KeepsNames (map name_of functions)) (declared_by m.declares) (declared_all ms)
      (subst (λ o. All (KeepsNames (map name_of functions)) (declared_by o)) (sym here.declares) (All-cons (KeepsNames (map name_of functions)) (declaration_of here.declared) [] here.names (All-nil (KeepsNames (map name_of functions)))))
      (all-names ms (All-tail (Passes functions) m ms all))

  pub all-steps : (members : List Member) → All (Passes functions) members → All (KeepsSteps (externs_of functions)) (exports_of (declared_all members))
  all-steps [] all = All-nil (KeepsSteps (externs_of functions))
  all-steps (m ∷ ms) all =
      let here = (All-head (Passes functions) m ms all).keeps in
      let Q = KeepsSteps (externs_of functions) in
      subst (All Q) (sym (flat_map-append export_of (declared_by m.declares) (declared_all ms)))
      (All-append Q (exports_of (declared_by m.declares)) (exports_of (declared_all ms))
      (subst (λ o. All Q (exports_of (declared_by o))) (sym here.declares) (All-append Q (export_of (declaration_of here.declared)) [] here.steps (All-nil Q)))
      (all-steps ms (All-tail (Passes functions) m ms all)))

-- names that are all new differ
new-length : (names : List (List ℕ)) (ds : List Declaration) → length (new_among names ds) ≤ length ds
new-length names [] = omega arith
new-length names (d ∷ ds) = by (list_any (bytes_eq (name_of d)) names) (new-length names ds) (new-length (names ++ name_of d ∷ []) ds)
  where
    by : (b : Bool) → length (new_among names ds) ≤ length ds → length (new_among (names ++ name_of d ∷ []) ds) ≤ length ds → length (if b then new_among names ds else d ∷ new_among (names ++ name_of d ∷ []) ds) ≤ suc (length ds)
    by true first second = omega arith
    by false first second = omega arith

AllPairs-cons : {X : Type 0} (R : X → X → Type 0) (x : X) (xs : List X) → All (R x) xs → AllPairs R xs → AllPairs R (x ∷ xs)
AllPairs-cons R x xs first rest zero zero d before within = absurd (omega arith)
AllPairs-cons R x xs first rest zero (suc j) d before within = first j d (omega arith)
AllPairs-cons R x xs first rest (suc i) zero d before within = absurd (omega arith)
AllPairs-cons R x xs first rest (suc i) (suc j) d before within = rest i j d (omega arith) (omega arith)

-- these names differ, and none is among those
pub record Differ (names : List (List ℕ)) (ds : List Declaration) : Type 0 where
  pub pairs : AllPairs (λ x y. x ≢ y) (map name_of ds)
  pub absent : All (λ name. ¬ Contains names name) (map name_of ds)

pub new-differ : (names : List (List ℕ)) (ds : List Declaration) → new_among names ds ≡ ds → Differ names ds
new-differ names [] h = record { pairs = λ i j d before within. absurd (omega arith); absent = All-nil (λ name. ¬ Contains names name) }
new-differ names (d ∷ ds) h = by (list_any (bytes_eq (name_of d)) names) refl (new-length names ds) (new-differ (names ++ name_of d ∷ []) ds)
  where
    by : (b : Bool) → list_any (bytes_eq (name_of d)) names ≡ b → length (new_among names ds) ≤ length ds → (new_among (names ++ name_of d ∷ []) ds ≡ ds → Differ (names ++ name_of d ∷ []) ds) → Differ names (d ∷ ds)
    by true e short rest =
        let whole = sym (ap (λ b. if b then new_among names ds else d ∷ new_among (names ++ name_of d ∷ []) ds) e) ∙ h in
        let size = ap length whole in
        absurd (omega arith)
    by false e short rest =
        let whole : (d ∷ new_among (names ++ name_of d ∷ []) ds) ≡ (d ∷ ds) = sym (ap (λ b. if b then new_among names ds else d ∷ new_among (names ++ name_of d ∷ []) ds) e) ∙ h in
        let others : new_among (names ++ name_of d ∷ []) ds ≡ ds = cc in
        let r = rest others in
        record {
          pairs = AllPairs-cons (λ x y. x ≢ y) (name_of d) (map name_of ds)
              (All-weaker (λ name. ¬ Contains (names ++ name_of d ∷ []) name) (λ name. name_of d ≢ name)
              (λ name out same. out (subst (Contains (names ++ name_of d ∷ [])) same (Contains-append_right names (name_of d ∷ []) (name_of d) (0, omega arith, refl)))) (map name_of ds) r.absent)
              r.pairs;
          absent = All-cons (λ name. ¬ Contains names name) (name_of d) (map name_of ds) (absent (name_of d) names e)
              (All-weaker (λ name. ¬ Contains (names ++ name_of d ∷ []) name) (λ name. ¬ Contains names name)
              (λ name out there. out (Contains-append_left names (name_of d ∷ []) name there)) (map name_of ds) r.absent);
        }

pub declared-trees : (members : List Member) (trees : List Tree) → map (λ (m : Member). m.declares) members ≡ map (λ (t : Tree). Some t) trees → declared_all members ≡ map declaration_of trees
declared-trees [] [] h = refl
declared-trees [] (t ∷ ts) h = absurd (cc)
declared-trees (m ∷ ms) [] h = absurd (cc)
declared-trees (m ∷ ms) (t ∷ ts) h =
    let first : m.declares ≡ Some t = cc in
    let rest : map (λ (m : Member). m.declares) ms ≡ map (λ (t : Tree). Some t) ts = cc in
    let others = declared-trees ms ts rest in
    λ i. declared_by (first i) ++ others i

-- a text of the form keeps the rules
pub form_rules : (text : List ℕ) (trees : List Tree) → HasForm text trees → KeepsRules (map declaration_of trees)
form_rules text trees form =
    let members = members_of text form.tokens form.file in
    let functions = functions_of members in
    let file = map declaration_of trees in
    let declared = declared-trees members trees form.declares in
    let all_new = all-new text form.tokens functions (filter (counts text form.tokens) (siblings (inside_first form.file))) 0 [] form.pass in
    let same : functions ≡ file = all_new ∙ declared in
    let differ = new-differ [] (declared_all members) all_new in
    record {
      names_differ = subst (λ ds. AllPairs (λ x y. x ≢ y) (map name_of ds)) declared differ.pairs;
      names = subst (λ ds. All (KeepsNames (map name_of ds)) file) same (subst (All (KeepsNames (map name_of functions))) declared (all-names text form.tokens functions members form.pass));
      steps = subst (λ ds. All (KeepsSteps (externs_of ds)) (exports_of file)) same (subst (λ ds. All (KeepsSteps (externs_of functions)) (exports_of ds)) declared (all-steps text form.tokens functions members form.pass));
    }

-- and its frames are light
pub form_light : (members : List Member) (trees : List Tree) → map (λ (m : Member). m.declares) members ≡ map (λ (t : Tree). Some t) trees → All IsLight members → All (λ (t : Tree). weight_of (declaration_of t) ≤ WEIGHT_LIMIT) trees
form_light [] [] h all = All-nil (λ (t : Tree). weight_of (declaration_of t) ≤ WEIGHT_LIMIT)
form_light [] (t ∷ ts) h all = absurd (cc)
form_light (m ∷ ms) [] h all = absurd (cc)
form_light (m ∷ ms) (t ∷ ts) h all =
    let first : m.declares ≡ Some t = cc in
    let rest : map (λ (m : Member). m.declares) ms ≡ map (λ (t : Tree). Some t) ts = cc in
    let here = subst (λ o. All (λ (d : Declaration). weight_of d ≤ WEIGHT_LIMIT) (declared_by o)) first (All-head IsLight m ms all) in
    All-cons (λ (t : Tree). weight_of (declaration_of t) ≤ WEIGHT_LIMIT) t ts (All-head (λ (d : Declaration). weight_of d ≤ WEIGHT_LIMIT) (declaration_of t) [] here)
    (form_light ms ts rest (All-tail IsLight m ms all))
