-- There is one discovery at most.
use Rattle.std.proofs.Common.{◌≡◌, ◌⊎◌, inl, inr, ℕ, ◌+◌, ◌≤◌, Bool, true, false, List, [], ◌∷◌, ◌++◌, length, sum, nat_lt, Some, Ok, Err, MatchBool, refl, sym, ap, ◌∙◌, subst, true≢false, append-nil, arith}
use Rattle.std.specs.Prelude.{Result}
use Rattle.zw_base.specs.declared.files.Answer.{Answer}
use Rattle.zw_base.specs.declared.files.Answer.TheVariants.{Bytes, Absent, TooLong}
use Rattle.zw_base.specs.declared.files.Handed.{Handed}
use Rattle.zw_base.specs.declared.stop.Place.{Place}
use Rattle.zw_base.specs.declared.stop.Stop.{Stop}
use Rattle.zw_base.specs.declared.stop.StopKind.TheVariants.{Error}
use Rattle.zw_parse.specs.Syntax.{IsTreeOf, IsSyntaxStop}
use Rattle.zw_parse.proofs.SyntaxLemmas as syntax
use Rattle.zw_scope.proofs.Violations as names
use Rattle.zw_scope.specs.NameRules.{AreNamed, IsFirstViolation, IsNameStop, Violation}
use Rattle.zw_token.proofs.Lists.{one_from}
use Rattle.zw_token.proofs.Stops.{same_stop, never_both}
use Rattle.zw_token.specs.Tokens.{Tokens, stop_at}
use Rattle.zw_token.specs.declared.token.TextError.{TextError}
use Rattle.zw_token.specs.declared.token.Token.{Token}
use Rattle.zw_tree.specs.Trees.{Forest}
use Rattle.zw_tree.specs.declared.ast.Entry.{Entry}
use Rattle.zw_files.specs.Discovery.{AreAnswers, Discovery, Found, HasTree, IsStopOfText, Leads, Located, Reads, ReadsAnswer, Turn, breaks_names, here, is_zig, next, no_tokens, no_tree, refused, root_place, text_of, start, stop, stopped, taken, whole}
use Rattle.zw_files.specs.declared.stops.TheConstants.{IMPORT_PATH, TREE_LENGTH, TREE_LIMIT}
use Rattle.zw_files.proofs.NameLemmas.{one-name_stop}
use Rattle.zw_files.proofs.TurnLemmas.{next-left}

one_list : {text : List ℕ} {ts us : List Token} → Tokens text ts → Tokens text us → ts ≡ us
one_list a b = one_from a.list b.list

module _ (number : ℕ) (text : List ℕ) where
  same_told : (s t : Stop) (at place : ℕ) (a b : TextError) → s ≡ stop_at number text at a → t ≡ stop_at number text place b → at ≡ place → a ≡ b → s ≡ t
  same_told s t at place a b s_is t_is places errors =
      s_is ∙ ap (λ p. stop_at number text p a) places ∙ ap (stop_at number text place) errors ∙ sym t_is

  tree_and_stop : (ts us : List Token) (file : Forest Entry) (s : Stop) → Tokens text ts → Tokens text us → IsTreeOf number text ts file → IsSyntaxStop number text us s → ⊥
  tree_and_stop ts us file s listed others is stops = syntax.tree_not_stop number text us file s (subst (λ vs. IsTreeOf number text vs file) (one_list listed others) is) stops

  one_stop : (s t : Stop) → IsStopOfText number text s → IsStopOfText number text t → s ≡ t
  one_stop s t (no_tokens at error stops s_is) (no_tokens place other stops' t_is) =
      let same = same_stop stops stops' in
      same_told s t at place error other s_is t_is same.0 same.1
  one_stop s t (no_tokens at error stops s_is) (no_tree us listed stops') = absurd (never_both listed stops)
  one_stop s t (no_tree ts listed stops) (no_tokens place other stops' t_is) = absurd (never_both listed stops')
  one_stop s t (no_tree ts listed stops) (no_tree us others stops') =
      syntax.stop_once number text us s t (subst (λ vs. IsSyntaxStop number text vs s) (one_list listed others) stops) stops'
  one_stop s t (no_tokens at error stops s_is) (breaks_names us file listed is broken) = absurd (never_both listed stops)
  one_stop s t (breaks_names ts file listed is broken) (no_tokens at error stops t_is) = absurd (never_both listed stops)
  one_stop s t (no_tree ts listed stops) (breaks_names us file others is broken) = absurd (tree_and_stop us ts file s others listed is stops)
  one_stop s t (breaks_names ts file listed is broken) (no_tree us others stops) = absurd (tree_and_stop ts us file t listed others is stops)
  one_stop s t (breaks_names ts file listed is broken) (breaks_names us other others is' broken') =
      let moved : IsTreeOf number text us file = subst (λ vs. IsTreeOf number text vs file) (one_list listed others) is in
      one-name_stop number text us other s t is' (subst (λ f. IsNameStop f s) (syntax.tree_once number text us file other moved is') broken) broken'

  tree_or_stop : (file : Forest Entry) (s : Stop) → HasTree number text file → IsStopOfText number text s → ⊥
  tree_or_stop file s has (no_tokens at error stops is) = never_both has.has_tokens stops
  tree_or_stop file s has (no_tree us others stops) = tree_and_stop has.tokens us file s has.has_tokens others has.has_tree stops
  tree_or_stop file s has (breaks_names us other others is (v, first, s_is)) =
      let moved : IsTreeOf number text us file = subst (λ vs. IsTreeOf number text vs file) (one_list has.has_tokens others) has.has_tree in
      names.never-both other v (subst AreNamed (syntax.tree_once number text us file other moved is) has.keeps_names) first

  one_tree : (a b : Forest Entry) → HasTree number text a → HasTree number text b → a ≡ b
  one_tree a b g h = syntax.tree_once number text h.tokens a b (subst (λ vs. IsTreeOf number text vs a) (one_list g.has_tokens h.has_tokens) g.has_tree) h.has_tree

  pub one_reading : (r s : Result (Forest Entry) Stop) → Reads number text r → Reads number text s → r ≡ s
  one_reading (Ok a) (Ok b) g h = ap Ok (one_tree a b g h)
  one_reading (Ok a) (Err s) g h = absurd (tree_or_stop a s g h)
  one_reading (Err s) (Ok b) g h = absurd (tree_or_stop b s h g)
  one_reading (Err s) (Err t) g h = ap Err (one_stop s t g h)

-- a text that has tokens reads: it has a tree, which keeps the rules on names, or a stop
pub some_reading : (number : ℕ) (text : List ℕ) (tokens : List Token) → Tokens text tokens → (r : Result (Forest Entry) Stop) × Reads number text r
some_reading number text tokens listed = by (syntax.tree_or_stop number text tokens listed)
  where
    with_tree : (file : Forest Entry) → IsTreeOf number text tokens file → AreNamed file ⊎ ((v : Violation) × IsFirstViolation file v) → (r : Result (Forest Entry) Stop) × Reads number text r
    with_tree file is (inl named) = (Ok file, record { tokens = tokens; has_tokens = listed; has_tree = is; keeps_names = named })
    with_tree file is (inr (v, first)) =
        let s : Stop = record { kind = Error v.error; place = v.at.node.place } in
        (Err s, breaks_names tokens file listed is (v, first, refl))

    by : ((file : Forest Entry) × IsTreeOf number text tokens file) ⊎ ((s : Stop) × IsSyntaxStop number text tokens s) → (r : Result (Forest Entry) Stop) × Reads number text r
    by (inl (file, is)) = with_tree file is (names.named-or-broken file)
    by (inr (s, stops)) = (Err s, no_tree tokens listed stops)

one_read : (number : ℕ) (place : Place) (before : ℕ) (answer : Answer) (r s : Result (Forest Entry) Stop) → ReadsAnswer number place before answer r → ReadsAnswer number place before answer s → r ≡ s
one_read number place before Absent r s g h = g ∙ sym h
one_read number place before (TooLong limit) r s g h = g.1 ∙ sym h.1
one_read number place before (Bytes text) r s g h = by (nat_lt TREE_LIMIT (before + length text)) g.1 h.1
  where
    by : (b : Bool) → MatchBool b (r ≡ Err (stop TREE_LENGTH place)) (Reads number text r) → MatchBool b (s ≡ Err (stop TREE_LENGTH place)) (Reads number text s) → r ≡ s
    by true g h = g ∙ sym h
    by false g h = one_reading number text r s g h

module _ (root : List ℕ) where
  -- the turns of one file with one answer end alike
  same_turn : (found : Found) (g h : Handed) (a b : Result Found Located) → (g.path ≡ h.path → g.answer ≡ h.answer) → Turn root found g a → Turn root found h b → (g ≡ h) × (a ≡ b)
  same_turn found g h a b answered t u =
      let some_path : Some g.path ≡ Some h.path = sym t.is_next.name ∙ u.is_next.name in
      let some_place : Some t.place ≡ Some u.place = sym t.is_next.named_at ∙ u.is_next.named_at in
      let path : g.path ≡ h.path = cc in
      let place : t.place ≡ u.place = cc in
      let answer : g.answer ≡ h.answer = answered path in
      let n = length found.trees in
      let before = sum found.sizes in
      let moved : ReadsAnswer n u.place before h.answer t.takes.read = subst (λ p. ReadsAnswer n p before h.answer t.takes.read) place (subst (λ x. ReadsAnswer n t.place before x t.takes.read) answer t.takes.reads) in
      let read : t.takes.read ≡ u.takes.read = one_read n u.place before h.answer t.takes.read u.takes.read moved u.takes.reads in
      ((λ i. record { path = path i; answer = answer i }), t.takes.ends ∙ (λ i. taken root found (path i) (text_of (answer i)) (read i)) ∙ sym u.takes.ends)

  -- what ends turns: there is no next file, or its turn stops
  data Tail (found : Found) : List Handed → Result Found Located → Type 0 where
    over : length found.paths.names ≤ length found.trees → Tail found [] (Ok found)
    stops : (handed : Handed) (l : Located) → Turn root found handed (Err l) → Tail found (handed ∷ []) (Err l)

  no_turn : (found : Found) (handed : Handed) (a : Result Found Located) → length found.paths.names ≤ length found.trees → Turn root found handed a → ⊥
  no_turn found handed a past turn = let left = next-left found handed.path turn.place turn.is_next in omega (arith, left, past)

  -- of one list of files
  apart_tail : (found to : Found) (h : Handed) (others ft : List Handed) (a : Result Found Located) → ft ≡ h ∷ others → Turn root found h (Ok to) → Tail found ft a → ⊥
  apart_tail found to h others ft a e turn (over past) = no_turn found h (Ok to) past turn
  apart_tail found to h others ft a e turn (stops k l turn') =
      let first : k ≡ h = cc in
      let same = same_turn found h k (Ok to) (Err l) (λ p. ap (λ (x : Handed). x.answer) (sym first)) turn turn' in
      let apart : Ok to ≡ Err l = same.1 in
      cc

  same_tail : (found : Found) (ft gt : List Handed) (a b : Result Found Located) → ft ≡ gt → Tail found ft a → Tail found gt b → a ≡ b
  same_tail found ft gt a b e (over past) (over past') = refl
  same_tail found ft gt a b e (over past) (stops h l turn) = absurd (no_turn found h (Err l) past turn)
  same_tail found ft gt a b e (stops h l turn) (over past) = absurd (no_turn found h (Err l) past turn)
  same_tail found ft gt a b e (stops h l turn) (stops k m turn') =
      let first : h ≡ k = cc in
      (same_turn found h k (Err l) (Err m) (λ p. ap (λ (x : Handed). x.answer) first) turn turn').1

  same_way : (from x y : Found) (fs gs ft gt : List Handed) (a b : Result Found Located) → fs ++ ft ≡ gs ++ gt → Leads root from fs x → Leads root from gs y → Tail x ft a → Tail y gt b → a ≡ b
  same_way from x y [] [] ft gt a b e here here s t = same_tail from ft gt a b e s t
  same_way from x y [] (h ∷ gs) ft gt a b e here (next turn others) s t = absurd (apart_tail from _ h (gs ++ gt) ft a e turn s)
  same_way from x y (h ∷ fs) [] ft gt a b e (next turn others) here s t = absurd (apart_tail from _ h (fs ++ ft) gt b (sym e) turn t)
  same_way from x y (h ∷ fs) (k ∷ gs) ft gt a b e (next {found = p} turn others) (next {found = q} turn' others') s t =
      let first : h ≡ k = cc in
      let rest : fs ++ ft ≡ gs ++ gt = cc in
      let same = same_turn from h k (Ok p) (Ok q) (λ _. ap (λ (z : Handed). z.answer) first) turn turn' in
      let oks : Ok p ≡ Ok q = same.1 in
      let there : p ≡ q = cc in
      same_way q x y fs gs ft gt a b rest (subst (λ (z : Found). Leads root z fs x) there others) others' s t

  -- of files that a map has
  module _ (answers : List ℕ → Answer) where
    one_turn : (found : Found) (g h : Handed) (a b : Result Found Located) → g.answer ≡ answers g.path → h.answer ≡ answers h.path → Turn root found g a → Turn root found h b → (g ≡ h) × (a ≡ b)
    one_turn found g h a b g_is h_is = same_turn found g h a b (λ p. g_is ∙ ap answers p ∙ sym h_is)

    one_tail : (found : Found) (fs gs : List Handed) (a b : Result Found Located) → AreAnswers answers fs → AreAnswers answers gs → Tail found fs a → Tail found gs b → (fs ≡ gs) × (a ≡ b)
    one_tail found fs gs a b f g (over past) (over past') = (refl, refl)
    one_tail found fs gs a b f g (over past) (stops h l turn) = absurd (no_turn found h (Err l) past turn)
    one_tail found fs gs a b f g (stops h l turn) (over past) = absurd (no_turn found h (Err l) past turn)
    one_tail found fs gs a b f g (stops h l turn) (stops h' l' turn') =
        let same = one_turn found h h' (Err l) (Err l') f.0 g.0 turn turn' in
        (ap (λ x. x ∷ []) same.0, same.1)

    no_more : (found to : Found) (h : Handed) (fs : List Handed) (a : Result Found Located) → h.answer ≡ answers h.path → AreAnswers answers fs → Turn root found h (Ok to) → Tail found fs a → ⊥
    no_more found to h fs a is f turn (over past) = no_turn found h (Ok to) past turn
    no_more found to h fs a is f turn (stops h' l turn') =
        let same = one_turn found h h' (Ok to) (Err l) is f.0 turn turn' in
        let apart : Ok to ≡ Err l = same.1 in
        cc

    one_way : (from x y : Found) (fs gs ft gt : List Handed) (a b : Result Found Located) → AreAnswers answers (fs ++ ft) → AreAnswers answers (gs ++ gt)
        → Leads root from fs x → Leads root from gs y → Tail x ft a → Tail y gt b → (fs ++ ft ≡ gs ++ gt) × (a ≡ b)
    one_way from x y [] [] ft gt a b f g here here s t = one_tail from ft gt a b f g s t
    one_way from x y [] (h ∷ gs) ft gt a b f g here (next turn others) s t = absurd (no_more from _ h ft a g.0 f turn s)
    one_way from x y (h ∷ fs) [] ft gt a b f g (next turn others) here s t = absurd (no_more from _ h gt b f.0 g turn t)
    one_way from x y (h ∷ fs) (k ∷ gs) ft gt a b f g (next {found = p} turn others) (next {found = q} turn' others') s t =
        let same = one_turn from h k (Ok p) (Ok q) f.0 g.0 turn turn' in
        let oks : Ok p ≡ Ok q = same.1 in
        let there : p ≡ q = cc in
        let rest = one_way q x y fs gs ft gt a b f.1 g.1 (subst (λ (z : Found). Leads root z fs x) there others) others' s t in
        ((λ i. same.0 i ∷ rest.0 i), rest.1)

apart : (b : Bool) → b ≡ false → b ≡ true → ⊥
apart b f t = true≢false (sym t ∙ f)

pub one-discovery : (root : List ℕ) (answers : List ℕ → Answer) (files others : List Handed) (a b : Result Found Located) → AreAnswers answers files → AreAnswers answers others
    → Discovery root files a → Discovery root others b → (files ≡ others) × (a ≡ b)
one-discovery root answers files others a b f g (refused no_zig) (refused no_zig') = (refl, refl)
one-discovery root answers files others a b f g (refused no_zig) (whole zig leads past) = absurd (apart (is_zig root) no_zig zig)
one-discovery root answers files others a b f g (refused no_zig) (stopped zig leads turn) = absurd (apart (is_zig root) no_zig zig)
one-discovery root answers files others a b f g (whole zig leads past) (refused no_zig) = absurd (apart (is_zig root) no_zig zig)
one-discovery root answers files others a b f g (stopped zig leads turn) (refused no_zig) = absurd (apart (is_zig root) no_zig zig)
one-discovery root answers files others a b f g (whole {found = x} zig leads past) (whole {found = y} zig' leads' past') =
    let same =
    one_way root answers (start root) x y files others [] [] a b (subst (AreAnswers answers) (sym (append-nil files)) f) (subst (AreAnswers answers) (sym (append-nil others)) g) leads leads' (over past) (over past') in
    (sym (append-nil files) ∙ same.0 ∙ append-nil others, same.1)
one-discovery root answers files others a b f g (whole {found = x} zig leads past) (stopped {files = gs} {found = y} {handed = h} {where_and_why = l} zig' leads' turn') =
    let same = one_way root answers (start root) x y files gs [] (h ∷ []) a b (subst (AreAnswers answers) (sym (append-nil files)) f) g leads leads' (over past) (stops h l turn') in
    (sym (append-nil files) ∙ same.0, same.1)
one-discovery root answers files others a b f g (stopped {files = fs} {found = x} {handed = h} {where_and_why = l} zig leads turn) (whole {found = y} zig' leads' past') =
    let same = one_way root answers (start root) x y fs others (h ∷ []) [] a b f (subst (AreAnswers answers) (sym (append-nil others)) g) leads leads' (stops h l turn) (over past') in
    (same.0 ∙ append-nil others, same.1)
one-discovery root answers files others a b f g (stopped {files = fs} {found = x} {handed = h} {where_and_why = l} zig leads turn) (stopped {files = gs} {found = y} {handed = k} {where_and_why = m} zig' leads' turn') =
    one_way root answers (start root) x y fs gs (h ∷ []) (k ∷ []) a b f g leads leads' (stops h l turn) (stops k m turn')

tail-of : (root : List ℕ) (files : List Handed) (a : Result Found Located) → is_zig root ≡ true → Discovery root files a
    → (fs ft : List Handed) × (x : Found) × (files ≡ fs ++ ft) × Leads root (start root) fs x × Tail root x ft a
tail-of root files a zig (refused no_zig) = absurd (apart (is_zig root) no_zig zig)
tail-of root files a zig (whole {found = x} zig' leads past) = (files, [], x, sym (append-nil files), leads, over past)
tail-of root files a zig (stopped {files = fs} {found = x} {handed = h} {where_and_why = l} zig' leads turn) = (fs, h ∷ [], x, refl, leads, stops h l turn)

refused-alone : (root : List ℕ) (files : List Handed) (end : Result Found Located) → is_zig root ≡ false → Discovery root files end → end ≡ Err (stop IMPORT_PATH root_place, root)
refused-alone root files end no_zig (refused no_zig') = refl
refused-alone root files end no_zig (whole zig leads past) = absurd (apart (is_zig root) no_zig zig)
refused-alone root files end no_zig (stopped zig leads turn) = absurd (apart (is_zig root) no_zig zig)

pub one-end : (root : List ℕ) (files : List Handed) (a b : Result Found Located) → Discovery root files a → Discovery root files b → a ≡ b
one-end root files a b g h = by (is_zig root) refl
  where
    by : (b' : Bool) → is_zig root ≡ b' → a ≡ b
    by true zig =
        let s = tail-of root files a zig g in
        let t = tail-of root files b zig h in
        same_way root (start root) s.2 t.2 s.0 t.0 s.1 t.1 a b (sym s.3 ∙ t.3) s.4 t.4 s.5 t.5
    by false no_zig = refused-alone root files a no_zig g ∙ sym (refused-alone root files b no_zig h)
