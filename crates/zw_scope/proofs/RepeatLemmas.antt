-- Names that a form may have once.
use Rattle.std.proofs.Common.{◌≡◌, ℕ, suc, ◌+◌, ◌<◌, ◌≤◌, List, [], ◌∷◌, ◌++◌, Option, Some, None, MatchOption, All, Contains, Bool, true, false, ◌||◌, if◌then◌else◌, length, get_or, drop, drop-cons, map, append_assoc, append-nil, add-one, refl, sym, ap, ◌∙◌, subst, arith}
use Rattle.std.specs.List.{list_any}
use Rattle.std.specs.Option.{option_to_list}
use Rattle.std.specs.Prelude.{Vec}
use Rattle.std.specs.declared.alloc.Global.{Global}
use Rattle.std.specs.Str.{bytes_eq}
use Rattle.std.proofs.lemmas.List.{drop_all}
use Rattle.std.proofs.lemmas.List.Concat.{flat_map-append}
use Rattle.std.proofs.lemmas.List.Folds.{list_any-append}
use Rattle.zw_tree.specs.Trees.{Forest, none, tree, count}
use Rattle.zw_tree.specs.Numbering.{from, first_root, below, children, after}
use Rattle.zw_tree.specs.declared.ast.Entry.{Entry}
use Rattle.zw_scope_sites.specs.Firsts.{kind_at, text_at}
use Rattle.zw_scope_sites.specs.Scopes.{is_name, kind_of, name_in, is_named_member, is_parameter_kind, is_initialiser}
use Rattle.zw_tree.specs.declared.kind.NodeKind.{NodeKind}
use Rattle.zw_scope.specs.NameRules.{Violation, listed, names_of, own_names, repeated, told, told_at_name}
use Rattle.zw_scope.specs.Repeats.{Passes, Repeats, entries, names_by}
use Rattle.zw_scope.specs.Telling.{tells}
use Rattle.zw_scope.specs.declared.repeats.Named.{Named}
use Rattle.zw_scope.specs.declared.repeats.Named.TheVariants.{Members, Parameters, Initialisers, Errors}
use Rattle.zw_scope_sites.proofs.SayLemmas.{IsChildAt, child-at, child-item, items-end}
use Rattle.zw_names.proofs.SetLemmas.{any-Contains, any-absent, same_bytes}
use Rattle.std.proofs.lemmas.List.Elements.{All-push}
use Rattle.zw_scope_sites.proofs.SiteLemmas.{IsThere, is-there}
use Rattle.zw_tree.proofs.Standing.{from-there}

pub node-within : (file : Forest Entry) (n : ℕ) (root : Entry) (inside behind : Forest Entry) → from file n ≡ tree root inside behind → n < count file
node-within file n root inside behind h = let size = ap count h in from-there file n (omega (arith, size))

split-first : (A B : List Entry) → A ++ B ≡ (A ++ []) ++ B
split-first A B = ap (λ (xs : List Entry). xs ++ B) (sym (append-nil A))

pub names-cons : (named : Named) (root : Entry) (inside behind : Forest Entry) → names_by named (tree root inside behind) ≡ names_by named (tree root inside none) ++ names_by named behind
names-cons Members root inside behind = split-first (if is_named_member (kind_of root) then listed (name_in inside) else []) (names_of is_named_member behind)
names-cons Parameters root inside behind = split-first (if is_parameter_kind (kind_of root) then listed (name_in inside) else []) (names_of is_parameter_kind behind)
names-cons Initialisers root inside behind = split-first (if is_initialiser (kind_of root) then listed (name_in inside) else []) (names_of is_initialiser behind)
names-cons Errors root inside behind = split-first (if is_name (kind_of root) then root ∷ [] else []) (own_names behind)

all-more : (file : Forest Entry) (xs : List ℕ) (o : Option ℕ) (X : List Entry) → All (λ c. c < count file) xs → MatchOption o (X ≡ []) (λ c. (c < count file) × (X ≡ entries file (c ∷ []))) → All (λ c. c < count file) (xs ++ option_to_list o)
all-more file xs None X all h = subst (All (λ c. c < count file)) (sym (append-nil xs)) all
all-more file xs (Some c) X all h = All-push (λ c. c < count file) xs c all h.0

entries-more : (file : Forest Entry) (xs : List ℕ) (o : Option ℕ) (X B : List Entry) → MatchOption o (X ≡ []) (λ c. (c < count file) × (X ≡ entries file (c ∷ []))) → entries file (xs ++ option_to_list o) ++ B ≡ entries file xs ++ (X ++ B)
entries-more file xs None X B h = ap (λ (ys : List ℕ). entries file ys ++ B) (append-nil xs) ∙ ap (λ (Y : List Entry). entries file xs ++ (Y ++ B)) (sym h)
entries-more file xs (Some c) X B h =
    ap (λ (Y : List Entry). Y ++ B) (flat_map-append (λ n. listed (first_root (from file n))) xs (c ∷ []))
    ∙ append_assoc (entries file xs) (entries file (c ∷ [])) B
    ∙ ap (λ (Y : List Entry). entries file xs ++ (Y ++ B)) (sym h.1)

-- the names of one child more
module _ (file : Forest Entry) (n : ℕ) (items : List ℕ) (are : items ≡ children file n) (i : ℕ) (within : i < length items) (named : Named) (o : Option ℕ)
    (reads : (root : Entry) (inside behind : Forest Entry) → from file (get_or items i 0) ≡ tree root inside behind → MatchOption o (names_by named (tree root inside none) ≡ []) (λ c. (c < count file) × (names_by named (tree root inside none) ≡ entries file (c ∷ [])))) where
  here : IsChildAt file n i (get_or items i 0)
  here = child-at file n i (get_or items i 0) (child-item file n items are i within)

  read : MatchOption o (names_by named (tree here.root here.inside none) ≡ []) (λ c. (c < count file) × (names_by named (tree here.root here.inside none) ≡ entries file (c ∷ [])))
  read = reads here.root here.inside here.behind here.from_here

  pub there-more : (xs ys : List ℕ) → ys ≡ xs ++ option_to_list o → All (λ c. c < count file) xs → All (λ c. c < count file) ys
  there-more xs ys more all = subst (All (λ c. c < count file)) (sym more) (all-more file xs o _ all read)

  pub names-more : (xs ys : List ℕ) → ys ≡ xs ++ option_to_list o → entries file xs ++ names_by named (after i (below file n)) ≡ names_by named (below file n) → entries file ys ++ names_by named (after (i + 1) (below file n)) ≡ names_by named (below file n)
  names-more xs ys more before =
      rw (more, add-one) (ap (λ (f : Forest Entry). entries file (xs ++ option_to_list o) ++ names_by named f) here.next
      ∙ entries-more file xs o _ (names_by named here.behind) read
      ∙ ap (λ (ns : List Entry). entries file xs ++ ns) (sym (ap (names_by named) here.here ∙ names-cons named here.root here.inside here.behind))
      ∙ before)

pub names-end : (file : Forest Entry) (n : ℕ) (items : List ℕ) → items ≡ children file n → (i : ℕ) → length items ≤ i → (named : Named) (xs : List ℕ) → entries file xs ++ names_by named (after i (below file n)) ≡ names_by named (below file n) → entries file xs ≡ names_by named (below file n)
names-end file n items are i past named xs h =
    sym (append-nil (entries file xs)) ∙ ap (λ (ns : List Entry). entries file xs ++ ns) (sym (ap (names_by named) (items-end file n i items are past) ∙ nothing named)) ∙ h
  where
    nothing : (k : Named) → names_by k none ≡ []
    nothing Members = refl
    nothing Parameters = refl
    nothing Initialisers = refl
    nothing Errors = refl

-- a name that is seen
pub seen-new : (file : Forest Entry) (name : ℕ) (text : List ℕ) → text ≡ text_at (from file name) → (before old new : List (List ℕ)) → Passes before old → (new ≡ old ++ text ∷ []) × (Contains old text → ⊥) → Repeats file before name None new
seen-new file name text reads before old new passes (put, absent) = record {
  node = sym (ap (λ (t : Bool). if t then Some name else None) (ap (λ (x : List ℕ). list_any (bytes_eq x) before) (sym reads) ∙ passes text ∙ any-absent text old absent));
  passes = λ x. ap (λ (y : List ℕ). bytes_eq x y || list_any (bytes_eq x) before) (sym reads) ∙ ap (λ (t : Bool). bytes_eq x text || t) (passes x) ∙ or-turned (bytes_eq x text) (list_any (bytes_eq x) old) ∙ sym (list_any-append (bytes_eq x) old (text ∷ [])) ∙ ap (list_any (bytes_eq x)) (sym put);
}
  where
    or-turned : (a b : Bool) → (a || b) ≡ (b || (a || false))
    or-turned true true = refl
    or-turned true false = refl
    or-turned false true = refl
    or-turned false false = refl

pub seen-old : (file : Forest Entry) (name : ℕ) (text : List ℕ) → text ≡ text_at (from file name) → (before old new : List (List ℕ)) → Passes before old → (new ≡ old) × Contains old text → Repeats file before name (Some name) new
seen-old file name text reads before old new passes (kept, there) = record {
  node = sym (ap (λ (t : Bool). if t then Some name else None) (ap (λ (x : List ℕ). list_any (bytes_eq x) before) (sym reads) ∙ passes text ∙ any-Contains text old there));
  passes = λ x. ap (λ (y : List ℕ). bytes_eq x y || list_any (bytes_eq x) before) (sym reads) ∙ ap (λ (t : Bool). bytes_eq x text || t) (passes x) ∙ by x (bytes_eq x text) refl ∙ ap (list_any (bytes_eq x)) (sym kept);
}
  where
    by : (x : List ℕ) (t : Bool) → bytes_eq x text ≡ t → (bytes_eq x text || list_any (bytes_eq x) old) ≡ list_any (bytes_eq x) old
    by x true e = rw e (sym (ap (λ (y : List ℕ). list_any (bytes_eq y) old) (same_bytes x text e) ∙ any-Contains text old there))
    by x false e = rw e refl

-- one name more is told
module _ (file : Forest Entry) (names : List ℕ) (i name : ℕ) (within : i < length names) (is : name ≡ get_or names i 0) (lt : name < count file) (before seen : List (List ℕ)) (o : Option ℕ) (r : Repeats file before name o seen) where
  there : IsThere file name
  there = is-there file name lt

  rest : entries file (drop i names) ≡ there.root ∷ entries file (drop (i + 1) names)
  rest = ap (entries file) (drop-next names i name within is) ∙ ap (λ (ns : List Entry). ns ++ entries file (drop (i + 1) names)) (ap (λ f. listed (first_root f)) there.is)
    where
      drop-next : (xs : List ℕ) (j x : ℕ) → j < length xs → x ≡ get_or xs j 0 → drop j xs ≡ x ∷ drop (j + 1) xs
      drop-next xs j x lt is = drop-cons xs j 0 lt ∙ ap (λ (y : ℕ). y ∷ drop (suc j) xs) (sym is) ∙ ap (λ k. x ∷ drop k xs) (sym (add-one j))

  told-is : told (list_any (bytes_eq there.root.name) before) 11 there.root ≡ tells file 11 o
  told-is =
      ap (λ (x : List ℕ). told (list_any (bytes_eq x) before) 11 there.root) (sym (ap text_at there.is))
      ∙ by (list_any (bytes_eq (text_at (from file name))) before)
      ∙ ap (tells file 11) (sym r.node)
    where
      by : (t : Bool) → told t 11 there.root ≡ tells file 11 (if t then Some name else None)
      by true = sym (ap (λ (f : Forest Entry). told_at_name true 11 (first_root f)) there.is)
      by false = refl

  pub repeated-next : (done : List Violation) → done ++ repeated before (entries file (drop i names)) ≡ repeated [] (entries file names) → (done ++ tells file 11 o) ++ repeated (text_at (from file name) ∷ before) (entries file (drop (i + 1) names)) ≡ repeated [] (entries file names)
  repeated-next done h =
      ap (λ (x : List ℕ). (done ++ tells file 11 o) ++ repeated (x ∷ before) (entries file (drop (i + 1) names))) (ap text_at there.is)
      ∙ append_assoc done (tells file 11 o) (repeated (there.root.name ∷ before) (entries file (drop (i + 1) names)))
      ∙ ap (λ (ws : List Violation). done ++ (ws ++ repeated (there.root.name ∷ before) (entries file (drop (i + 1) names)))) (sym told-is)
      ∙ ap (λ (ns : List Entry). done ++ repeated before ns) (sym rest)
      ∙ h

pub own-name : (file : Forest Entry) (n : ℕ) (root : Entry) (inside behind : Forest Entry) → from file n ≡ tree root inside behind → (named : Named) → named ≡ Errors → (k : NodeKind) → k ≡ kind_at (from file n) → is_name k ≡ true → names_by named (tree root inside none) ≡ entries file (n ∷ [])
own-name file n root inside behind at named errors k kind is =
    let name : is_name (kind_of root) ≡ true = ap (λ f. is_name (kind_at f)) (sym at) ∙ ap is_name (sym kind) ∙ is in
    ap (λ (m : Named). names_by m (tree root inside none)) errors
    ∙ ap (λ (t : Bool). (if t then root ∷ [] else []) ++ []) name
    ∙ ap (λ f. listed (first_root f) ++ []) (sym at)

pub repeated-end : (file : Forest Entry) (names : List ℕ) (i : ℕ) → length names ≤ i → (before : List (List ℕ)) (done : List Violation) → done ++ repeated before (entries file (drop i names)) ≡ repeated [] (entries file names) → done ≡ repeated [] (entries file names)
repeated-end file names i past before done h =
    sym (append-nil done) ∙ ap (λ (ns : List ℕ). done ++ repeated before (entries file ns)) (sym (drop_all i names past)) ∙ h

pub any-none : (x : List ℕ) (keys : List (Vec ℕ Global)) → keys ≡ [] → list_any (bytes_eq x) (map (λ (k : Vec ℕ Global). k.items) keys) ≡ false
any-none x keys empty = ap (λ (ks : List (Vec ℕ Global)). list_any (bytes_eq x) (map (λ (k : Vec ℕ Global). k.items) ks)) empty
