-- Imports that are followed.
use Rattle.std.proofs.Common.{◌≡◌, ℕ, zero, suc, ◌+◌, ◌-◌, ◌<◌, ◌≤◌, Bool, true, false, not, ◌||◌, if◌then◌else◌, cond, List, [], ◌∷◌, ◌++◌, map, length, drop, slice_get, position, nat_lt, Some, None, Ok, Err, refl, sym, ap, ◌∙◌, subst, arith}
use Rattle.std.specs.Prelude.{Vec, Result}
use Rattle.std.specs.declared.alloc.Global.{Global}
use Rattle.std.specs.List.{list_any, position_or_len}
use Rattle.std.specs.Option.{option_map}
use Rattle.std.specs.Str.{bytes_eq}
use Rattle.std.proofs.lemmas.List.{map_push, length-map}
use Rattle.std.proofs.lemmas.Bool.Decides.{nat_tests}
use Rattle.indexmap.specs.IndexMap.{insert_entry}
use Rattle.zw_base.specs.declared.stop.Place.{Place}
use Rattle.zw_base.specs.declared.stop.Refused.{Refused}
use Rattle.zw_base.specs.declared.stop.Refused.TheVariants as refused
use Rattle.zw_base.specs.declared.stop.Stop.{Stop}
use Rattle.zw_tree.specs.declared.ast.Entry.{Entry}
use Rattle.zw_tree.specs.declared.ast.Node.{Node}
use Rattle.zw_files.specs.Discovery.{Paths, follow, follow_all, name_path, stop, with_path, and_then}
use Rattle.zw_files.specs.declared.stops.TheConstants.{FILES, FILES_LIMIT}
use Rattle.zw_files.specs.Gathering.{Follows, LeadsOn}
use Rattle.zw_files.specs.Imports.{Import, imports_from, is_import}

abbrev pub Entries : Type 0
Entries = List (Vec ℕ Global × Place)

abbrev pub names_of : Entries → List (List ℕ)
names_of es = map (λ e. e.0.items) es

abbrev pub places_of : Entries → List Place
places_of es = map (λ e. e.1) es

-- a new path goes last
pub insert-last : (es : Entries) (path : Vec ℕ Global) (place : Place) → list_any (bytes_eq path.items) (names_of es) ≡ false
    → insert_entry (λ (a b : Vec ℕ Global). bytes_eq a.items b.items) es path place ≡ es ++ (path, place) ∷ []
insert-last [] path place h = refl
insert-last (e ∷ es) path place h = by (bytes_eq path.items e.0.items) refl h (insert-last es path place)
  where
    by : (b : Bool) → bytes_eq path.items e.0.items ≡ b → (bytes_eq path.items e.0.items || list_any (bytes_eq path.items) (names_of es)) ≡ false
        → (list_any (bytes_eq path.items) (names_of es) ≡ false → insert_entry (λ (a b : Vec ℕ Global). bytes_eq a.items b.items) es path place ≡ es ++ (path, place) ∷ [])
        → insert_entry (λ (a b : Vec ℕ Global). bytes_eq a.items b.items) (e ∷ es) path place ≡ (e ∷ es) ++ (path, place) ∷ []
    by true p h more = let same : true ≡ false = sym (ap (λ b. b || list_any (bytes_eq path.items) (names_of es)) p) ∙ h in absurd (cc)
    by false p h more =
        let rest = sym (ap (λ b. b || list_any (bytes_eq path.items) (names_of es)) p) ∙ h in
        ap (λ b. if b then (e.0, place) ∷ es else e ∷ insert_entry (λ (a b : Vec ℕ Global). bytes_eq a.items b.items) es path place) p
        ∙ ap (λ l. e ∷ l) (more rest)

pub paths-put : (es es' : Entries) (path : Vec ℕ Global) (place : Place) → es' ≡ insert_entry (λ (a b : Vec ℕ Global). bytes_eq a.items b.items) es path place
    → list_any (bytes_eq path.items) (names_of es) ≡ false
    → record { names = names_of es'; places = places_of es' } ≡ with_path (record { names = names_of es; places = places_of es }) place path.items
paths-put es es' path place e new =
    let put : es' ≡ es ++ (path, place) ∷ [] = e ∙ insert-last es path place new in
    let names = ap names_of put ∙ map_push (λ e. e.0.items) es (path, place) in
    let places = ap places_of put ∙ map_push (λ e. e.1) es (path, place) in
    λ i. record { names = names i; places = places i }

-- ---- looking a path up

place-of : (q : List ℕ) (es : Entries) → position_or_len (λ (k : Vec ℕ Global). bytes_eq q k.items) (map (λ e. e.0) es) ≡ position_or_len (bytes_eq q) (names_of es)
place-of q [] = refl
place-of q (e ∷ es) = ap (λ n. cond (not (bytes_eq q e.0.items)) (1 + n) 0) (place-of q es)

any-within : (p : List ℕ → Bool) (xs : List (List ℕ)) → position_or_len p xs < length xs → list_any p xs ≡ true
any-within p [] h = absurd (omega arith)
any-within p (x ∷ xs) h = by (p x) refl (any-within p xs)
  where
    by : (b : Bool) → p x ≡ b → (position_or_len p xs < length xs → list_any p xs ≡ true) → (p x || list_any p xs) ≡ true
    by true e more = ap (λ b. b || list_any p xs) e
    by false e more =
        let there : cond (not (p x)) (1 + position_or_len p xs) 0 ≡ 1 + position_or_len p xs = ap (λ b. cond (not b) (1 + position_or_len p xs) 0) e in
        ap (λ b. b || list_any p xs) e ∙ more (omega (arith, there, h))

any-past : (p : List ℕ → Bool) (xs : List (List ℕ)) → length xs ≤ position_or_len p xs → list_any p xs ≡ false
any-past p [] h = refl
any-past p (x ∷ xs) h = by (p x) refl (any-past p xs)
  where
    by : (b : Bool) → p x ≡ b → (length xs ≤ position_or_len p xs → list_any p xs ≡ false) → (p x || list_any p xs) ≡ false
    by true e more =
        let there : cond (not (p x)) (1 + position_or_len p xs) 0 ≡ 0 = ap (λ b. cond (not b) (1 + position_or_len p xs) 0) e in
        absurd (omega (arith, there, h))
    by false e more =
        let there : cond (not (p x)) (1 + position_or_len p xs) 0 ≡ 1 + position_or_len p xs = ap (λ b. cond (not b) (1 + position_or_len p xs) 0) e in
        ap (λ b. b || list_any p xs) e ∙ more (omega (arith, there, h))

module _ (q : List ℕ) (es : Entries) where
  abbrev here : ℕ
  here = position_or_len (λ (k : Vec ℕ Global). bytes_eq q k.items) (map (λ e. e.0) es)

  size : length (map (λ (e : Vec ℕ Global × Place). e.0) es) ≡ length (names_of es)
  size = length-map es (λ (e : Vec ℕ Global × Place). e.0) ∙ sym (length-map es (λ (e : Vec ℕ Global × Place). e.0.items))

  pub found-at : (n : ℕ) → Some n ≡ position (λ (k : Vec ℕ Global). bytes_eq q k.items) (map (λ e. e.0) es)
      → (list_any (bytes_eq q) (names_of es) ≡ true) × (n ≡ position_or_len (bytes_eq q) (names_of es))
  found-at n e = by (nat_lt here (length (map (λ (e : Vec ℕ Global × Place). e.0) es))) refl
    where
      by : (b : Bool) → nat_lt here (length (map (λ (e : Vec ℕ Global × Place). e.0) es)) ≡ b → (list_any (bytes_eq q) (names_of es) ≡ true) × (n ≡ position_or_len (bytes_eq q) (names_of es))
      by true p =
          let same : Some n ≡ Some here = e ∙ ap (λ b. cond b (Some here) None) p in
          let below : here < length (map (λ (e : Vec ℕ Global × Place). e.0) es) = grind (arith, nat_tests) in
          let place = place-of q es in
          (any-within (bytes_eq q) (names_of es) (omega (arith, place, size, below)), cc)
      by false p =
          let none : Some n ≡ None = e ∙ ap (λ b. cond b (Some here) None) p in
          absurd (cc)

  pub not-found : None ≡ position (λ (k : Vec ℕ Global). bytes_eq q k.items) (map (λ e. e.0) es) → list_any (bytes_eq q) (names_of es) ≡ false
  not-found e = by (nat_lt here (length (map (λ (e : Vec ℕ Global × Place). e.0) es))) refl
    where
      by : (b : Bool) → nat_lt here (length (map (λ (e : Vec ℕ Global × Place). e.0) es)) ≡ b → list_any (bytes_eq q) (names_of es) ≡ false
      by true p =
          let some : None ≡ Some here = e ∙ ap (λ b. cond b (Some here) None) p in
          absurd (cc)
      by false p =
          let past : length (map (λ (e : Vec ℕ Global × Place). e.0) es) ≤ here = grind (arith, nat_tests) in
          any-past (bytes_eq q) (names_of es) (omega (arith, place-of q es, size, past))

-- ---- one import after another

-- the imports from a node on that isn't the last: its own, and those from the next one on
pub imports-next : (es : List Entry) (n j m : ℕ) (is : Bool) → j ≡ suc n → j < length es → option_map is_import (slice_get es n) ≡ Some is
    → (next : Entry) × (slice_get es j ≡ Some next) × (imports_from m (drop n es) ≡ (if is then record { node = m; literal = next.name; place = next.node.place } ∷ [] else []) ++ imports_from (suc m) (drop j es))
imports-next [] n j m is e h at = absurd (omega arith)
imports-next (x ∷ []) n j m is e h at = absurd (omega (arith, e, h))
imports-next (x ∷ (y ∷ es)) zero zero m is e h at = absurd (omega arith)
imports-next (x ∷ (y ∷ es)) zero (suc j) m is e h at =
    let first : zero ≡ j = omega arith in
    let same : is_import x ≡ is = cc in
    subst (λ k. (next : Entry) × (slice_get (y ∷ es) k ≡ Some next) × (imports_from m (x ∷ (y ∷ es)) ≡ (if is then record { node = m; literal = next.name; place = next.node.place } ∷ [] else []) ++ imports_from (suc m) (drop k (y ∷ es)))) first
    (y, refl, ap (λ b. (if b then record { node = m; literal = y.name; place = y.node.place } ∷ [] else []) ++ imports_from (suc m) (y ∷ es)) same)
imports-next (x ∷ (y ∷ es)) (suc n) zero m is e h at = absurd (omega arith)
imports-next (x ∷ (y ∷ es)) (suc n) (suc j) m is e h at = imports-next (y ∷ es) n j m is (omega arith) (omega arith) at

-- the last node is no import
pub imports-end : (es : List Entry) (n m : ℕ) → length es ≤ suc n → imports_from m (drop n es) ≡ []
imports-end [] zero m h = refl
imports-end [] (suc n) m h = refl
imports-end (x ∷ []) zero m h = refl
imports-end (x ∷ (y ∷ es)) zero m h = absurd (omega arith)
imports-end (x ∷ es) (suc n) m h = imports-end es n m (omega arith)

-- a stop of an import is that of all behind it
pub follows-err : (root path : List ℕ) (paths after : Paths) (numbers : List (ℕ × ℕ)) (i : Import) (others : List Import) (rest : Result (Paths × List (ℕ × ℕ)) Stop) (e : Refused)
    → Follows (follow root path paths i.place i.literal) after (Err e) → LeadsOn (follow_all root path paths numbers (i ∷ others)) rest (Err e)
follows-err root path paths after numbers i others rest (refused.Stop stop) h =
    ap (and_then (λ named. follow_all root path named.0 (numbers ++ (i.node, named.1) ∷ []) others)) h
follows-err root path paths after numbers i others rest refused.Oom h = tt

pub follows-ok : (root path : List ℕ) (paths after : Paths) (numbers : List (ℕ × ℕ)) (i : Import) (others : List Import) (number : ℕ)
    → follow root path paths i.place i.literal ≡ Ok (after, number) → follow_all root path paths numbers (i ∷ others) ≡ follow_all root path after (numbers ++ (i.node, number) ∷ []) others
follows-ok root path paths after numbers i others number h =
    ap (and_then (λ named. follow_all root path named.0 (numbers ++ (i.node, named.1) ∷ []) others)) h

-- a node before this one that is no import, or is one
pub follows-no : (root path : List ℕ) (paths : Paths) (numbers : List (ℕ × ℕ)) (es : List Entry) (literal : ℕ) → 0 < literal → literal < length es → option_map is_import (slice_get es (literal - 1)) ≡ Some false
    → follow_all root path paths numbers (imports_from (literal - 1) (drop (literal - 1) es)) ≡ follow_all root path paths numbers (imports_from literal (drop literal es))
follows-no root path paths numbers es literal some within is_none =
    let n = literal - 1 in
    let e : literal ≡ suc n = omega arith in
    let next = imports-next es n literal n false e within is_none in
    ap (follow_all root path paths numbers) (next.2 ∙ ap (λ m. imports_from m (drop literal es)) (sym e))

module _ (root path : List ℕ) (paths after : Paths) (numbers : List (ℕ × ℕ)) (es : List Entry) (literal : ℕ) (node : Node) (name : List ℕ)
    (some : 0 < literal) (within : literal < length es) (yes : option_map is_import (slice_get es (literal - 1)) ≡ Some true)
    (node_is : option_map (λ (entry : Entry). entry.node) (slice_get es literal) ≡ Some node) (name_is : option_map (λ (entry : Entry). entry.name) (slice_get es literal) ≡ Some name) where
  import-is : imports_from (literal - 1) (drop (literal - 1) es) ≡ record { node = literal - 1; literal = name; place = node.place } ∷ imports_from literal (drop literal es)
  import-is =
      let n = literal - 1 in
      let e : literal ≡ suc n = omega arith in
      let next = imports-next es n literal n true e within yes in
      let a : Some (next.0.node) ≡ Some node = ap (option_map (λ (entry : Entry). entry.node)) (sym next.1) ∙ node_is in
      let b : Some (next.0.name) ≡ Some name = ap (option_map (λ (entry : Entry). entry.name)) (sym next.1) ∙ name_is in
      let same : next.0.node ≡ node = cc in
      let named : next.0.name ≡ name = cc in
      next.2
      ∙ (λ i. record { node = n; literal = named i; place = (same i).place } ∷ imports_from (suc n) (drop literal es))
      ∙ ap (λ m. record { node = n; literal = name; place = node.place } ∷ imports_from m (drop literal es)) (sym e)

  pub follows-stop : (rest : Result (Paths × List (ℕ × ℕ)) Stop) (e : Refused) → Follows (follow root path paths node.place name) after (Err e)
      → LeadsOn (follow_all root path paths numbers (imports_from (literal - 1) (drop (literal - 1) es))) rest (Err e)
  follows-stop rest e h =
      subst (λ list. LeadsOn (follow_all root path paths numbers list) rest (Err e)) (sym import-is)
      (follows-err root path paths after numbers (record { node = literal - 1; literal = name; place = node.place }) (imports_from literal (drop literal es)) rest e h)

  pub follows-on : (number : ℕ) (numbers' : List (ℕ × ℕ)) → follow root path paths node.place name ≡ Ok (after, number) → numbers' ≡ numbers ++ (literal - 1, number) ∷ []
      → follow_all root path paths numbers (imports_from (literal - 1) (drop (literal - 1) es)) ≡ follow_all root path after numbers' (imports_from literal (drop literal es))
  follows-on number numbers' h more =
      ap (follow_all root path paths numbers) import-is
      ∙ follows-ok root path paths after numbers (record { node = literal - 1; literal = name; place = node.place }) (imports_from literal (drop literal es)) number h
      ∙ ap (λ list. follow_all root path after list (imports_from literal (drop literal es))) (sym more)

-- ---- the number of a path

module _ (es es' : Entries) (place : Place) (path : List ℕ) where
  abbrev before : Paths
  before = record { names = names_of es; places = places_of es }

  pub named-old : (n : ℕ) → Some n ≡ position (λ (k : Vec ℕ Global). bytes_eq path k.items) (map (λ e. e.0) es) → name_path before place path ≡ Ok (before, n)
  named-old n e =
      let there = found-at path es n e in
      ap (λ b. if b then Ok (before, position_or_len (bytes_eq path) (names_of es)) else (if nat_lt (length (names_of es)) FILES_LIMIT then Ok (with_path before place path, length (names_of es)) else Err (stop FILES place))) there.0
      ∙ ap (λ m. Ok (before, m)) (sym there.1)

  named-new : list_any (bytes_eq path) (names_of es) ≡ false → name_path before place path ≡ (if nat_lt (length (names_of es)) FILES_LIMIT then Ok (with_path before place path, length (names_of es)) else Err (stop FILES place))
  named-new new =
      ap (λ b. if b then Ok (before, position_or_len (bytes_eq path) (names_of es)) else (if nat_lt (length (names_of es)) FILES_LIMIT then Ok (with_path before place path, length (names_of es)) else Err (stop FILES place))) new

  pub named-past : list_any (bytes_eq path) (names_of es) ≡ false → FILES_LIMIT ≤ length (names_of es) → name_path before place path ≡ Err (stop FILES place)
  named-past new past =
      let no : nat_lt (length (names_of es)) FILES_LIMIT ≡ false = grind (arith, nat_tests) in
      named-new new ∙ ap (λ b. if b then Ok (with_path before place path, length (names_of es)) else Err (stop FILES place)) no

  pub named-next : list_any (bytes_eq path) (names_of es) ≡ false → length (names_of es) < FILES_LIMIT → record { names = names_of es'; places = places_of es' } ≡ with_path before place path
      → name_path before place path ≡ Ok (record { names = names_of es'; places = places_of es' }, length (names_of es))
  named-next new few put =
      let yes : nat_lt (length (names_of es)) FILES_LIMIT ≡ true = grind (arith, nat_tests) in
      named-new new ∙ ap (λ b. if b then Ok (with_path before place path, length (names_of es)) else Err (stop FILES place)) yes
      ∙ ap (λ paths. Ok (paths, length (names_of es))) (sym put)

pub size-of : (es : Entries) → length es ≡ length (names_of es)
size-of es = sym (length-map es (λ (e : Vec ℕ Global × Place). e.0.items))
