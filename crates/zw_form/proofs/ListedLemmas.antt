-- How far a look through the members of a file has come, by the numbers of their nodes.
use Rattle.std.proofs.Common.{◌≡◌, ◌≢◌, ◌↔◌, inl, inr, ℕ, zero, suc, ◌+◌, ◌-◌, ◌<◌, ◌≤◌, Bool, true, false, not, if◌then◌else◌, List, [], ◌∷◌, ◌++◌, map, length, drop, get_or, drop-cons, add-one, All, AllPairs, Contains, IsTrue, Option, Some, None, slice_get, length-append, append-nil, append_assoc, refl, sym, ap, ◌∙◌, subst, arith}
use Rattle.std.specs.List.{flat_map, list_any}
use Rattle.std.specs.Option.{option_map, option_to_list}
use Rattle.std.specs.Str.{bytes_eq}
use Rattle.std.proofs.lemmas.Bool.{false≢true}
use Rattle.std.proofs.lemmas.List.{map-append}
use Rattle.std.proofs.lemmas.List.Concat.{flat_map-append}
use Rattle.std.proofs.lemmas.List.Elements.{All-nil, All-cons, All-head, All-tail, All-push}
use Rattle.zw_base.specs.declared.stop.Stop.{Stop}
use Rattle.zw_base.specs.declared.stop.StopKind.{StopKind}
use Rattle.zw_token.specs.declared.token.Token.{Token}
use Rattle.zw_tree.specs.Numbering.{from, first_root, below, node_at, siblings}
use Rattle.zw_tree.specs.Trees.{Forest, none, tree, count, preorder}
use Rattle.zw_tree.specs.declared.ast.Entry.{Entry}
use Rattle.zw_tree.proofs.Nodes.{last-within, from-below}
use Rattle.zw_tree.proofs.Subtrees.{node-root}
use Rattle.zw_form.specs.Listed.{AreFunctions, IsKept, members_at, declared_at, functions_among, names_past, marks_of}
use Rattle.zw_form.specs.Members.{Member, Keeps, Passes, IsLight, IsFirstStop, IsWeightStop, IsMemberStop, declared_by, functions_of, is_new, names_behind, new_among, place_in, weight_of}
use Rattle.zw_names.specs.NameSets.{names_in}
use Rattle.zw_form.specs.Nodes.{body_nodes, member_of}
use Rattle.zw_form.specs.Rules.{KeepsNames, KeepsSteps, name_of, externs_of, export_of}
use Rattle.zw_form.specs.Trees.{Tree, declaration_of}
use Rattle.zw_form.specs.declared.members.Functions.{Functions}
use Rattle.zw_form.specs.declared.members.TheConstants.{NODE_LIMIT, WEIGHT_LIMIT, NOT_BUILT, NODES, FRAME_WEIGHT}
use Rattle.zw_form.specs.declared.source.Declaration.{Declaration}
use Rattle.zw_form.proofs.FileRules.{new-differ}
use Rattle.zw_names.proofs.SetLemmas.{absent, any-absent}
use Rattle.zw_tree.proofs.Standing.{from-there}

-- all members before those that are left have passed
pub record Passed (text : List ℕ) (tokens : List Token) (file : Forest Entry) (ns : List ℕ) (f : Functions) (todo : List ℕ) (i left : ℕ) : Type 0 where
  pub passed : List Member
  pub nodes : ℕ
  pub names : List (List ℕ)
  pub front : List Bool
  pub before : List Declaration
  pub split : members_at text tokens file ns 0 [] ≡ passed ++ members_at text tokens file todo nodes names
  pub pass : All (Passes f.list) passed
  pub counted : left + nodes ≡ NODE_LIMIT
  pub marks : f.marks ≡ front ++ marks_of names (declared_at text tokens file todo)
  pub marks_size : length front ≡ i
  pub list : f.list ≡ before ++ functions_among names (declared_at text tokens file todo)
  pub list_size : length before ≡ i

-- all before those that are left are light, and all pass
pub record Light (text : List ℕ) (tokens : List Token) (file : Forest Entry) (ns : List ℕ) (f : Functions) (todo : List ℕ) (i : ℕ) : Type 0 where
  pub passed : List Member
  pub nodes : ℕ
  pub names : List (List ℕ)
  pub before : List Declaration
  pub split : members_at text tokens file ns 0 [] ≡ passed ++ members_at text tokens file todo nodes names
  pub light : All IsLight passed
  pub pass : All (Passes f.list) (members_at text tokens file todo nodes names)
  pub list : f.list ≡ before ++ functions_among names (declared_at text tokens file todo)
  pub list_size : length before ≡ i

-- ---- functions of new names

new-old : (names : List (List ℕ)) (d : Declaration) (ds : List Declaration) → list_any (bytes_eq (name_of d)) names ≡ true → new_among names (d ∷ ds) ≡ new_among names ds
new-old names d ds e = ap (λ b. if b then new_among names ds else d ∷ new_among (names ++ name_of d ∷ []) ds) e

new-first : (names : List (List ℕ)) (d : Declaration) (ds : List Declaration) → list_any (bytes_eq (name_of d)) names ≡ false → new_among names (d ∷ ds) ≡ d ∷ new_among (names ++ name_of d ∷ []) ds
new-first names d ds e = ap (λ b. if b then new_among names ds else d ∷ new_among (names ++ name_of d ∷ []) ds) e

abbrev Splits : List (List ℕ) → List Declaration → List Declaration → Type 0
Splits names xs ys = new_among names (xs ++ ys) ≡ new_among names xs ++ new_among (names ++ map name_of (new_among names xs)) ys

new-append : (names : List (List ℕ)) (xs ys : List Declaration) → Splits names xs ys
new-append names [] ys = ap (λ ns. new_among ns ys) (sym (append-nil names))
new-append names (d ∷ ds) ys = by (list_any (bytes_eq (name_of d)) names) refl (new-append names ds ys) (new-append (names ++ name_of d ∷ []) ds ys)
  where
    by : (b : Bool) → list_any (bytes_eq (name_of d)) names ≡ b → Splits names ds ys → Splits (names ++ name_of d ∷ []) ds ys → Splits names (d ∷ ds) ys
    by true e rest more =
        new-old names d (ds ++ ys) e ∙ rest ∙ ap (λ l. l ++ new_among (names ++ map name_of l) ys) (sym (new-old names d ds e))
    by false e rest more =
        let inner = new_among (names ++ name_of d ∷ []) ds in
        new-first names d (ds ++ ys) e
        ∙ ap (λ l. d ∷ l) (more ∙ ap (λ ns. inner ++ new_among ns ys) (append_assoc names (name_of d ∷ []) (map name_of inner)))
        ∙ ap (λ l. l ++ new_among (names ++ map name_of l) ys) (sym (new-first names d ds e))

-- what is new among what is new is all of it
new-again : (names : List (List ℕ)) (ds : List Declaration) → new_among names (new_among names ds) ≡ new_among names ds
new-again names [] = refl
new-again names (d ∷ ds) = by (list_any (bytes_eq (name_of d)) names) refl (new-again names ds) (new-again (names ++ name_of d ∷ []) ds)
  where
    by : (b : Bool) → list_any (bytes_eq (name_of d)) names ≡ b → new_among names (new_among names ds) ≡ new_among names ds
        → new_among (names ++ name_of d ∷ []) (new_among (names ++ name_of d ∷ []) ds) ≡ new_among (names ++ name_of d ∷ []) ds
        → new_among names (new_among names (d ∷ ds)) ≡ new_among names (d ∷ ds)
    by true e rest more = ap (new_among names) (new-old names d ds e) ∙ rest ∙ sym (new-old names d ds e)
    by false e rest more =
        ap (new_among names) (new-first names d ds e)
        ∙ new-first names d (new_among (names ++ name_of d ∷ []) ds) e
        ∙ ap (λ l. d ∷ l) more ∙ sym (new-first names d ds e)

among-differ : (ds : List Declaration) → AllPairs (λ x y. x ≢ y) (map name_of (new_among [] ds))
among-differ ds = (new-differ [] (new_among [] ds) (new-again [] ds)).pairs

-- one more of what members declare
functions-push : (names : List (List ℕ)) (ds : List (Option Declaration)) (d : Option Declaration) → functions_among names (ds ++ d ∷ []) ≡ functions_among names ds ++ new_among (names ++ map name_of (functions_among names ds)) (option_to_list d)
functions-push names ds d =
    ap (new_among names) (flat_map-append option_to_list ds (d ∷ []) ∙ ap (λ l. flat_map option_to_list ds ++ l) (append-nil (option_to_list d)))
    ∙ new-append names (flat_map option_to_list ds) (option_to_list d)

marks-push : (names : List (List ℕ)) (ds : List (Option Declaration)) (d : Option Declaration) → marks_of names (ds ++ d ∷ []) ≡ marks_of names ds ++ is_new (names ++ map name_of (functions_among names ds)) d ∷ []
marks-push names [] d = ap (λ ns. is_new ns d ∷ []) (sym (append-nil names))
marks-push names (o ∷ os) d =
    let first = new_among names (option_to_list o) in
    let rest = functions_among (names_past names o) os in
    let same : names_past names o ++ map name_of rest ≡ names ++ map name_of (functions_among names (o ∷ os)) =
    append_assoc names (map name_of first) (map name_of rest)
    ∙ ap (λ l. names ++ l) (sym (map-append name_of first rest) ∙ ap (map name_of) (sym (new-append names (option_to_list o) (flat_map option_to_list os)))) in
    ap (λ l. is_new names o ∷ l) (marks-push (names_past names o) os d ∙ ap (λ ns. marks_of (names_past names o) os ++ is_new ns d ∷ []) same)

pub functions-more : (ds : List (Option Declaration)) (d : Option Declaration) (f g : Functions) → AreFunctions ds f
    → g.list ≡ f.list ++ new_among (names_in f.names) (option_to_list d)
    → names_in g.names ≡ names_in f.names ++ map name_of (new_among (names_in f.names) (option_to_list d))
    → g.marks ≡ f.marks ++ is_new (names_in f.names) d ∷ []
    → AreFunctions (ds ++ d ∷ []) g
functions-more ds d f g are listed named marked =
    let known : names_in f.names ≡ [] ++ map name_of (functions_among [] ds) = are.names ∙ ap (map name_of) are.list in
    record {
      list = listed ∙ (λ i. are.list i ++ new_among (known i) (option_to_list d)) ∙ sym (functions-push [] ds d);
      names = named ∙ ap (λ ns. ns ++ map name_of (new_among (names_in f.names) (option_to_list d))) are.names
          ∙ sym (map-append name_of f.list (new_among (names_in f.names) (option_to_list d))) ∙ ap (map name_of) (sym listed);
      marks = marked ∙ (λ i. are.marks i ++ is_new (known i) d ∷ []) ∙ sym (marks-push [] ds d);
    }

-- their names differ
pub functions-differ : (ds : List (Option Declaration)) (f : Functions) → AreFunctions ds f → AllPairs (λ x y. x ≢ y) (map name_of f.list)
functions-differ ds f are =
    subst (λ (l : List Declaration). AllPairs (λ x y. x ≢ y) (map name_of l)) (sym are.list) (among-differ (flat_map option_to_list ds))

-- ---- members by their numbers

pub members-there : (file : Forest Entry) (ns : List ℕ) (f : Forest Entry) → map (from file) ns ≡ siblings f → All (λ n. n < count file) ns
members-there file [] f h = All-nil (λ n. n < count file)
members-there file (n ∷ ns) none h = absurd (cc)
members-there file (n ∷ ns) (tree root inside behind) h =
    let first : from file n ≡ tree root inside behind = cc in
    let rest : map (from file) ns ≡ siblings behind = cc in
    let size = ap count first in
    All-cons (λ n. n < count file) n ns (from-there file n (omega (arith, size))) (members-there file ns behind rest)

-- what members declare is what their nodes do
declared-same : (text : List ℕ) (tokens : List Token) (file : Forest Entry) (ns : List ℕ) (nodes : ℕ) (names : List (List ℕ))
    → flat_map (λ (m : Member). declared_by m.declares) (members_at text tokens file ns nodes names) ≡ flat_map option_to_list (declared_at text tokens file ns)
declared-same text tokens file [] nodes names = refl
declared-same text tokens file (n ∷ ns) nodes names =
    ap (λ l. declared_by (member_of text tokens (from file n)) ++ l) (declared-same text tokens file ns (nodes + length (body_nodes (from file n))) (names_behind names (member_of text tokens (from file n))))

pub functions-same : (text : List ℕ) (tokens : List Token) (file : Forest Entry) (ns : List ℕ) (f : Functions) → AreFunctions (declared_at text tokens file ns) f → functions_of (members_at text tokens file ns 0 []) ≡ f.list
functions-same text tokens file ns f are = ap (new_among []) (declared-same text tokens file ns 0 []) ∙ sym are.list

-- ---- items of lists

pub drop-item : (ns : List ℕ) (i : ℕ) → i < length ns → drop i ns ≡ get_or ns i 0 ∷ drop (i + 1) ns
drop-item ns i within = drop-cons ns i 0 within ∙ (λ j. get_or ns i 0 ∷ drop (sym (add-one i) j) ns)

pub drop-past : (ns : List ℕ) (i : ℕ) → length ns ≤ i → drop i ns ≡ []
drop-past [] zero past = refl
drop-past [] (suc i) past = refl
drop-past (n ∷ ns) zero past = absurd (omega arith)
drop-past (n ∷ ns) (suc i) past = drop-past ns i (omega arith)

get-middle : {X : Type 0} (front : List X) (x : X) (rest : List X) (i : ℕ) → length front ≡ i → slice_get (front ++ x ∷ rest) i ≡ Some x
get-middle [] x rest zero e = refl
get-middle [] x rest (suc i) e = absurd (omega arith)
get-middle (y ∷ ys) x rest zero e = absurd (omega arith)
get-middle (y ∷ ys) x rest (suc i) e = get-middle ys x rest i (omega arith)

size-push : {X : Type 0} (front : List X) (x : X) (i : ℕ) → length front ≡ i → length (front ++ x ∷ []) ≡ i + 1
size-push front x i e = let size = length-append front (x ∷ []) in omega arith

-- ---- one member

-- a function of a new name
new-function : (names : List (List ℕ)) (o : Option Tree) → is_new names (option_map declaration_of o) ≡ true → (t : Tree) × (o ≡ Some t) × (¬ Contains names (name_of (declaration_of t)))
new-function names None new = absurd (false≢true new)
new-function names (Some t) new = (t, refl, by (list_any (bytes_eq (name_of (declaration_of t))) names) refl)
  where
    by : (b : Bool) → list_any (bytes_eq (name_of (declaration_of t))) names ≡ b → ¬ Contains names (name_of (declaration_of t))
    by true e = absurd (false≢true (sym (ap not e) ∙ new))
    by false e = absent (name_of (declaration_of t)) names e

function-new : (names : List (List ℕ)) (o : Option Tree) (t : Tree) → o ≡ Some t → ¬ Contains names (name_of (declaration_of t)) → is_new names (option_map declaration_of o) ≡ true
function-new names o t is fresh =
    ap (λ (x : Option Tree). is_new names (option_map declaration_of x)) is ∙ ap not (any-absent (name_of (declaration_of t)) names fresh)

function-first : (names : List (List ℕ)) (o : Option Tree) (t : Tree) → o ≡ Some t → ¬ Contains names (name_of (declaration_of t)) → (ds : List (Option Declaration))
    → functions_among names (option_map declaration_of o ∷ ds) ≡ declaration_of t ∷ functions_among (names_past names (option_map declaration_of o)) ds
function-first names o t is fresh ds =
    let d = declaration_of t in
    let e = any-absent (name_of d) names fresh in
    let rest = flat_map option_to_list ds in
    subst (λ (x : Option Tree). functions_among names (option_map declaration_of x ∷ ds) ≡ d ∷ functions_among (names_past names (option_map declaration_of x)) ds) (sym is)
    (new-first names d rest e ∙ sym (ap (λ b. d ∷ new_among (names ++ map name_of (if b then [] else d ∷ [])) rest) e))

-- what the rules say of a function, where its mark is set
pub kept-by : (f : Functions) (i : ℕ) (mark : Bool) (file : List Declaration) (d : Declaration) → file ≡ f.list → names_in f.names ≡ map name_of f.list
    → slice_get f.marks i ≡ Some mark → mark ≡ true → slice_get file i ≡ Some d → (kept : Bool)
    → IsTrue kept ↔ (KeepsNames (names_in f.names) d × All (KeepsSteps (externs_of file)) (export_of d)) → IsTrue kept ↔ IsKept f i
kept-by f i mark file d same named marked is at kept h = (
  λ t.
      let k = h.0 t in
      record {
        mark = marked ∙ ap Some is;
        function = d;
        there = ap (λ (ds : List Declaration). slice_get ds i) (sym same) ∙ at;
        names = subst (λ ns. KeepsNames ns d) named k.0;
        steps = subst (λ (ds : List Declaration). All (KeepsSteps (externs_of ds)) (export_of d)) same k.1;
      },
  λ k.
      let both : Some d ≡ Some k.function = sym at ∙ ap (λ (ds : List Declaration). slice_get ds i) same ∙ k.there in
      let one : d ≡ k.function = cc in
      h.1 (
        subst (KeepsNames (names_in f.names)) (sym one) (subst (λ ns. KeepsNames ns k.function) (sym named) k.names),
        subst (λ (e : Declaration). All (KeepsSteps (externs_of file)) (export_of e)) (sym one) (subst (λ (ds : List Declaration). All (KeepsSteps (externs_of ds)) (export_of k.function)) (sym same) k.steps),
      ),
)

-- the place of a node
pub place-of : (file : Forest Entry) (n : ℕ) → n < count file → (kind : StopKind) (stop : Stop) → option_map (λ (e : Entry). record { kind = kind; place = e.node.place }) (node_at file n) ≡ Some stop
    → stop ≡ record { kind = kind; place = place_in (from file n) }
place-of file n lt kind stop h = by (from file n) (ap (option_map (λ (e : Entry). record { kind = kind; place = e.node.place })) (sym (node-root file n lt)) ∙ h)
  where
    by : (f : Forest Entry) → option_map (λ (e : Entry). record { kind = kind; place = e.node.place }) (first_root f) ≡ Some stop → stop ≡ record { kind = kind; place = place_in f }
    by none h = absurd (cc)
    by (tree root inside behind) h = cc

some-node : (o : Option Entry) (kind : StopKind) (stop : Stop) → option_map (λ (e : Entry). record { kind = kind; place = e.node.place }) o ≡ Some stop → (e : Entry) × (o ≡ Some e) × (stop ≡ record { kind = kind; place = e.node.place })
some-node None kind stop h = absurd (cc)
some-node (Some e) kind stop h = (e, refl, cc)

-- the nodes below a node are numbered on from it
node-below : (file : Forest Entry) (block left j : ℕ) → block < count file → left < count (below file block) → j ≡ block + 1 + left → node_at file j ≡ slice_get (preorder (below file block)) left
node-below file block left j there within e =
    let inside = last-within file block there in
    let fits : j < count file = omega arith in
    let same : j ≡ suc (block + left) = omega arith in
    node-root file j fits ∙ ap first_root (ap (from file) same ∙ from-below file block there left (block + left) refl within) ∙ sym (node-root (below file block) left within)

module _ (text : List ℕ) (tokens : List Token) (file : Forest Entry) (ns : List ℕ) (f : Functions) (n : ℕ) (todo : List ℕ) (i : ℕ) where
  abbrev declares : Option Tree
  declares = member_of text tokens (from file n)

  abbrev declared : Option Declaration
  declared = option_map declaration_of declares

  abbrev member : ℕ → List (List ℕ) → Member
  member nodes names = record { place = place_in (from file n); declares = declares; nodes = body_nodes (from file n); nodes_before = nodes; names_before = names }

  module _ (left : ℕ) (p : Passed text tokens file ns f (n ∷ todo) i left) where
    mark-at : slice_get f.marks i ≡ Some (is_new p.names declared)
    mark-at = ap (λ ms. slice_get ms i) p.marks ∙ get-middle p.front (is_new p.names declared) (marks_of (names_past p.names declared) (declared_at text tokens file todo)) i p.marks_size

    list-is : (t : Tree) → declares ≡ Some t → ¬ Contains p.names (name_of (declaration_of t)) → f.list ≡ p.before ++ declaration_of t ∷ functions_among (names_past p.names declared) (declared_at text tokens file todo)
    list-is t is fresh = p.list ∙ ap (λ ds. p.before ++ ds) (function-first p.names declares t is fresh (declared_at text tokens file todo))

    function-at : (t : Tree) → declares ≡ Some t → ¬ Contains p.names (name_of (declaration_of t)) → slice_get f.list i ≡ Some (declaration_of t)
    function-at t is fresh =
        ap (λ ds. slice_get ds i) (list-is t is fresh) ∙ get-middle p.before (declaration_of t) (functions_among (names_past p.names declared) (declared_at text tokens file todo)) i p.list_size

    pub kept-keeps : IsKept f i → Keeps f.list (member p.nodes p.names)
    kept-keeps k =
        let marked : Some (is_new p.names declared) ≡ Some true = sym mark-at ∙ k.mark in
        let new : is_new p.names declared ≡ true = cc in
        let there = new-function p.names declares new in
        let both : Some (declaration_of there.0) ≡ Some k.function = sym (function-at there.0 there.1 there.2) ∙ k.there in
        let same : declaration_of there.0 ≡ k.function = cc in
        record {
          declared = there.0;
          declares = there.1;
          is_new = there.2;
          names = subst (KeepsNames (map name_of f.list)) (sym same) k.names;
          steps = subst (λ (d : Declaration). All (KeepsSteps (externs_of f.list)) (export_of d)) (sym same) k.steps;
        }

    pub keeps-kept : Keeps f.list (member p.nodes p.names) → IsKept f i
    keeps-kept k =
        record {
          mark = mark-at ∙ ap Some (function-new p.names declares k.declared k.declares k.is_new);
          function = declaration_of k.declared;
          there = function-at k.declared k.declares k.is_new;
          names = k.names;
          steps = k.steps;
        }

    pub passed-next : IsKept f i → (more : ℕ) → more + length (body_nodes (from file n)) ≡ left → Passed text tokens file ns f todo (i + 1) more
    passed-next kept more e =
        let k = kept-keeps kept in
        let size = p.counted in
        record {
          passed = p.passed ++ member p.nodes p.names ∷ [];
          nodes = p.nodes + length (body_nodes (from file n));
          names = names_past p.names declared;
          front = p.front ++ is_new p.names declared ∷ [];
          before = p.before ++ declaration_of k.declared ∷ [];
          split = p.split ∙ sym (append_assoc p.passed (member p.nodes p.names ∷ []) (members_at text tokens file todo (p.nodes + length (body_nodes (from file n))) (names_past p.names declared)));
          pass = All-push (Passes f.list) p.passed (member p.nodes p.names) p.pass (record { keeps = k; few = omega arith });
          counted = omega arith;
          marks = p.marks ∙ sym (append_assoc p.front (is_new p.names declared ∷ []) (marks_of (names_past p.names declared) (declared_at text tokens file todo)));
          marks_size = size-push p.front (is_new p.names declared) i p.marks_size;
          list = list-is k.declared k.declares k.is_new ∙ sym (append_assoc p.before (declaration_of k.declared ∷ []) (functions_among (names_past p.names declared) (declared_at text tokens file todo)));
          list_size = size-push p.before (declaration_of k.declared) i p.list_size;
        }

    stops-here : AreFunctions (declared_at text tokens file ns) f → (stop : Stop) → IsMemberStop f.list (member p.nodes p.names) stop → IsFirstStop (members_at text tokens file ns 0 []) stop
    stops-here are stop stops =
        let same = functions-same text tokens file ns f are in
        record {
          passed = p.passed;
          member = member p.nodes p.names;
          others = members_at text tokens file todo (p.nodes + length (body_nodes (from file n))) (names_past p.names declared);
          split = p.split;
          pass = subst (λ (fs : List Declaration). All (Passes fs) p.passed) (sym same) p.pass;
          stops = subst (λ (fs : List Declaration). IsMemberStop fs (member p.nodes p.names) stop) (sym same) stops;
        }

    -- the stop of a member that doesn't keep the conditions
    pub not_built : AreFunctions (declared_at text tokens file ns) f → (IsKept f i → ⊥) → n < count file → (stop : Stop)
        → option_map (λ (e : Entry). record { kind = NOT_BUILT; place = e.node.place }) (node_at file n) ≡ Some stop → IsFirstStop (members_at text tokens file ns 0 []) stop
    not_built are other there stop at = stops-here are stop (inl (λ k. other (keeps-kept k), place-of file n there NOT_BUILT stop at))

    -- and of one with too many nodes
    pub too_many : AreFunctions (declared_at text tokens file ns) f → IsKept f i → (block : ℕ) → block < count file → body_nodes (from file n) ≡ preorder (below file block)
        → left < count (below file block) → (j : ℕ) → j ≡ block + 1 + left → (stop : Stop)
        → option_map (λ (e : Entry). record { kind = NODES; place = e.node.place }) (node_at file j) ≡ Some stop → IsFirstStop (members_at text tokens file ns 0 []) stop
    too_many are kept block there body many j e stop at =
        let node = some-node (node_at file j) NODES stop at in
        let size = p.counted in
        let here : left ≡ NODE_LIMIT - p.nodes = omega arith in
        stops-here are stop
        (inr (
          kept-keeps kept,
          record {
            node = node.0;
            there = (λ h. slice_get (body h) (sym here h)) ∙ sym (node-below file block left j there many e) ∙ node.1;
            told = node.2;
          },
        ))

  -- a member whose function is light
  module _ (p : Light text tokens file ns f (n ∷ todo) i) where
    abbrev here : Member
    here = member p.nodes p.names

    abbrev others : List Member
    others = members_at text tokens file todo (p.nodes + length (body_nodes (from file n))) (names_past p.names declared)

    abbrev rest_list : List Declaration
    rest_list = functions_among (names_past p.names declared) (declared_at text tokens file todo)

    light-keeps : Keeps f.list here
    light-keeps = (All-head (Passes f.list) here others p.pass).keeps

    light-list : f.list ≡ p.before ++ declaration_of light-keeps.declared ∷ rest_list
    light-list = p.list ∙ ap (λ ds. p.before ++ ds) (function-first p.names declares light-keeps.declared light-keeps.declares light-keeps.is_new (declared_at text tokens file todo))

    light-at : slice_get f.list i ≡ Some (declaration_of light-keeps.declared)
    light-at = ap (λ ds. slice_get ds i) light-list ∙ get-middle p.before (declaration_of light-keeps.declared) rest_list i p.list_size

    weight-all : ((d : Declaration) → slice_get f.list i ≡ Some d → weight_of d ≤ WEIGHT_LIMIT) → IsLight here
    weight-all light =
        subst (λ (o : Option Tree). All (λ (d : Declaration). weight_of d ≤ WEIGHT_LIMIT) (declared_by o)) (sym light-keeps.declares)
        (All-cons (λ (d : Declaration). weight_of d ≤ WEIGHT_LIMIT) (declaration_of light-keeps.declared) [] (light (declaration_of light-keeps.declared) light-at) (All-nil (λ (d : Declaration). weight_of d ≤ WEIGHT_LIMIT)))

    all-weight : IsLight here → (d : Declaration) → slice_get f.list i ≡ Some d → weight_of d ≤ WEIGHT_LIMIT
    all-weight light d at =
        let both : Some (declaration_of light-keeps.declared) ≡ Some d = sym light-at ∙ at in
        let same : declaration_of light-keeps.declared ≡ d = cc in
        subst (λ (e : Declaration). weight_of e ≤ WEIGHT_LIMIT) same
        (All-head (λ (e : Declaration). weight_of e ≤ WEIGHT_LIMIT) (declaration_of light-keeps.declared) []
        (subst (λ (o : Option Tree). All (λ (e : Declaration). weight_of e ≤ WEIGHT_LIMIT) (declared_by o)) light-keeps.declares light))

    pub light-next : ((d : Declaration) → slice_get f.list i ≡ Some d → weight_of d ≤ WEIGHT_LIMIT) → Light text tokens file ns f todo (i + 1)
    light-next light =
        record {
          passed = p.passed ++ here ∷ [];
          nodes = p.nodes + length (body_nodes (from file n));
          names = names_past p.names declared;
          before = p.before ++ declaration_of light-keeps.declared ∷ [];
          split = p.split ∙ sym (append_assoc p.passed (here ∷ []) others);
          light = All-push IsLight p.passed here p.light (weight-all light);
          pass = All-tail (Passes f.list) here others p.pass;
          list = light-list ∙ sym (append_assoc p.before (declaration_of light-keeps.declared ∷ []) rest_list);
          list_size = size-push p.before (declaration_of light-keeps.declared) i p.list_size;
        }

    pub too_heavy : All (Passes (functions_of (members_at text tokens file ns 0 []))) (members_at text tokens file ns 0 [])
        → (((d : Declaration) → slice_get f.list i ≡ Some d → weight_of d ≤ WEIGHT_LIMIT) → ⊥) → n < count file → (stop : Stop)
        → option_map (λ (e : Entry). record { kind = FRAME_WEIGHT; place = e.node.place }) (node_at file n) ≡ Some stop → IsWeightStop (members_at text tokens file ns 0 []) stop
    too_heavy all heavy there stop at =
        record {
          all_pass = all;
          passed = p.passed;
          member = here;
          others = others;
          split = p.split;
          light = p.light;
          heavy = λ l. heavy (all-weight l);
          told = place-of file n there FRAME_WEIGHT stop at;
        }

-- ---- begin and end

module _ (text : List ℕ) (tokens : List Token) (file : Forest Entry) (ns : List ℕ) (f : Functions) (are : AreFunctions (declared_at text tokens file ns) f) where
  pub passed-none : Passed text tokens file ns f ns 0 NODE_LIMIT
  passed-none =
      record {
        passed = [];
        nodes = 0;
        names = [];
        front = [];
        before = [];
        split = refl;
        pass = All-nil (Passes f.list);
        counted = refl;
        marks = are.marks;
        marks_size = refl;
        list = are.list;
        list_size = refl;
      }

  pub passed-all : (i left : ℕ) → Passed text tokens file ns f [] i left → All (Passes (functions_of (members_at text tokens file ns 0 []))) (members_at text tokens file ns 0 [])
  passed-all i left p =
      subst (λ (fs : List Declaration). All (Passes fs) (members_at text tokens file ns 0 [])) (sym (functions-same text tokens file ns f are))
      (subst (All (Passes f.list)) (sym (p.split ∙ append-nil p.passed)) p.pass)

  pub light-none : All (Passes (functions_of (members_at text tokens file ns 0 []))) (members_at text tokens file ns 0 []) → Light text tokens file ns f ns 0
  light-none all =
      record {
        passed = [];
        nodes = 0;
        names = [];
        before = [];
        split = refl;
        light = All-nil IsLight;
        pass = subst (λ (fs : List Declaration). All (Passes fs) (members_at text tokens file ns 0 [])) (functions-same text tokens file ns f are) all;
        list = are.list;
        list_size = refl;
      }

  pub light-all : (i : ℕ) → Light text tokens file ns f [] i → All IsLight (members_at text tokens file ns 0 [])
  light-all i p = subst (All IsLight) (sym (p.split ∙ append-nil p.passed)) p.light
