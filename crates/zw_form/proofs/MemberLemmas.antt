-- The members of a file: where their bodies are, and that the first stop is one.
use Rattle.std.proofs.Common.{◌≡◌, ◌≢◌, ◌↔◌, ◌&&◌, ◌||◌, Bool, IsTrue, ℕ, zero, suc, ◌+◌, ◌-◌, ◌<◌, ◌⊎◌, inl, inr, List, [], ◌∷◌, ◌++◌, map, length, All, Contains, true, false, not, if◌then◌else◌, Option, Some, slice_get, refl, sym, ap, ◌∙◌, subst, arith}
use Rattle.std.specs.Option.{option_map, option_to_list}
use Rattle.std.specs.Str.{IsUtf8, is_utf8}
use Rattle.std.proofs.lemmas.Bool.{false≢true}
use Rattle.std.proofs.lemmas.Str.{IsUtf8-from_is_utf8, is_utf8-from_IsUtf8}
use Rattle.zw_token.specs.declared.token.Token.{Token}
use Rattle.std.proofs.lemmas.List.{length-map}
use Rattle.std.proofs.lemmas.List.Elements.{All-head, All-tail}
use Rattle.std.proofs.lemmas.Option.{slice_get_within}
use Rattle.zw_base.specs.declared.stop.Stop.{Stop}
use Rattle.zw_tree.specs.Numbering.{from, inside_first, below, siblings}
use Rattle.zw_tree.specs.Trees.{Forest, none, tree, count, preorder}
use Rattle.zw_tree.specs.declared.ast.Entry.{Entry}
use Rattle.zw_form.specs.Members.{Member, Passes, IsMemberStop, IsFirstStop, IsLight, IsWeightStop, counts, functions_of, is_named, is_new, new_among}
use Rattle.zw_form.specs.Nodes.{split_last, role_at, nodes_by, nodes_in, body_nodes, is_unit, member_of}
use Rattle.zw_form.specs.declared.members.TheConstants.{NODE_LIMIT, NODES, FRAME_WEIGHT}
use Rattle.zw_form.specs.declared.roles.Role.{Role}
use Rattle.zw_form.specs.declared.roles.Role.TheVariants as role
use Rattle.zw_form.specs.declared.source.Declaration.{Declaration}
use Rattle.zw_form.specs.Rules.{is_reserved, name_of}
use Rattle.zw_form.specs.Trees.{declaration_of}
use Rattle.zw_names.proofs.SetLemmas.{any-Contains, any-absent}
use Rattle.zw_tree.proofs.Standing.{from-there, last_get}

-- ---- bodies

last-of : {A : Type 0} (ts : List A) (j : ℕ) → j + 1 ≡ length ts → (t : A) → slice_get ts j ≡ Some t → (front : List A) × (split_last ts ≡ Some (front, t))
last-of [] j e t at = absurd (cc)
last-of (x ∷ []) zero e t at = let same : x ≡ t = cc in ([], ap (λ y. Some ([], y)) same)
last-of (x ∷ []) (suc j) e t at = absurd (omega arith)
last-of (x ∷ y ∷ ys) zero e t at = absurd (omega arith)
last-of (x ∷ y ∷ ys) (suc j) e t at =
    let rest = last-of (y ∷ ys) j (omega arith) t at in
    (x ∷ rest.0, ap (option_map (λ p. (x ∷ p.0, p.1))) rest.1)

slice_get-map : {A B : Type 0} (f : A → B) (xs : List A) (j : ℕ) → slice_get (map f xs) j ≡ option_map f (slice_get xs j)
slice_get-map f [] j = refl
slice_get-map f (x ∷ xs) zero = refl
slice_get-map f (x ∷ xs) (suc j) = slice_get-map f xs j

module _ (file : Forest Entry) (member : ℕ) (children : List ℕ) (last : ℕ) (are : map (from file) children ≡ siblings (inside_first (from file member))) (at : Some last ≡ slice_get children (length children - 1)) where
  last-part : body_nodes (from file member) ≡ nodes_by (role_at (from file last)) (inside_first (from file last))
  last-part =
      let size = length-map children (from file) in
      let j = last_get children last (sym at) in
      let found = last-of (map (from file) children) (length children - 1) (omega (arith, size, j)) (from file last)
      (slice_get-map (from file) children (length children - 1) ∙ ap (option_map (from file)) (sym at)) in
      ap (λ ts. nodes_in (split_last ts)) (sym are) ∙ ap nodes_in found.1

  block_there : (f : Forest Entry) → role_at f ≡ role.Block → 0 < count f
  block_there none h = absurd (cc)
  block_there (tree root inside behind) h = omega arith

  no_nodes : (r : Role) (f : Forest Entry) → r ≢ role.Block → nodes_by r f ≡ []
  no_nodes role.Block f other = absurd (other refl)
  no_nodes role.Function f other = refl
  no_nodes role.Extern f other = refl
  no_nodes role.Export f other = refl
  no_nodes role.Name f other = refl
  no_nodes role.QuotedName f other = refl
  no_nodes role.Parameter f other = refl
  no_nodes role.Return f other = refl
  no_nodes role.Call f other = refl
  no_nodes (role.Operator operator) f other = refl
  no_nodes role.Identifier f other = refl
  no_nodes role.QuotedIdentifier f other = refl
  no_nodes role.Number f other = refl
  no_nodes role.Comptime f other = refl
  no_nodes role.Other f other = refl

  pub no-block : role_at (from file last) ≢ role.Block → body_nodes (from file member) ≡ []
  no-block other = last-part ∙ no_nodes (role_at (from file last)) (inside_first (from file last)) other

  pub block-is : role_at (from file last) ≡ role.Block → (last < count file) × (body_nodes (from file member) ≡ preorder (below file last))
  block-is is = (from-there file last (block_there (from file last) is), last-part ∙ ap (λ r. nodes_by r (inside_first (from file last))) is)

-- ---- the first stop

module _ {X : Type 0} (P : X → Type 0) where
  All-middle : (ws : List X) (x : X) (bs : List X) → All P (ws ++ x ∷ bs) → P x
  All-middle [] x bs all = All-head P x bs all
  All-middle (a ∷ ws) x bs all = All-middle ws x bs (All-tail P a (ws ++ x ∷ bs) all)

  -- the first item of a list that doesn't hold what all before it hold
  first-one : (ws : List X) (x : X) (bs : List X) (cs : List X) (y : X) (ds : List X) → (ws ++ x ∷ bs) ≡ (cs ++ y ∷ ds) → All P ws → ¬ P x → All P cs → ¬ P y → x ≡ y
  first-one [] x bs [] y ds e before not_x front not_y = cc
  first-one [] x bs (c ∷ cs) y ds e before not_x front not_y = let same : x ≡ c = cc in absurd (not_x (subst P (sym same) (All-head P c cs front)))
  first-one (a ∷ ws) x bs [] y ds e before not_x front not_y = let same : a ≡ y = cc in absurd (not_y (subst P same (All-head P a ws before)))
  first-one (a ∷ ws) x bs (c ∷ cs) y ds e before not_x front not_y =
      let rest : (ws ++ x ∷ bs) ≡ (cs ++ y ∷ ds) = cc in
      first-one ws x bs cs y ds rest (All-tail P a ws before) not_x (All-tail P c cs front) not_y

pub pass-stop : (functions : List Declaration) (m : Member) (stop : Stop) → IsMemberStop functions m stop → ¬ Passes functions m
pass-stop functions m stop (inl (refused, told)) passes = refused passes.keeps
pass-stop functions m stop (inr (keeps, past)) passes =
    let within = slice_get_within m.nodes (NODE_LIMIT - m.nodes_before) past.node past.there in
    omega (arith, within, passes.few)

one_member-stop : (functions : List Declaration) (m : Member) (s t : Stop) → IsMemberStop functions m s → IsMemberStop functions m t → s ≡ t
one_member-stop functions m s t (inl (refused, told)) (inl (other, told')) = told ∙ sym told'
one_member-stop functions m s t (inl (refused, told)) (inr (keeps, past)) = absurd (refused keeps)
one_member-stop functions m s t (inr (keeps, past)) (inl (refused, told)) = absurd (refused keeps)
one_member-stop functions m s t (inr (keeps, past)) (inr (keeps', past')) =
    let both : Some past.node ≡ Some past'.node = sym past.there ∙ past'.there in
    let same : past.node ≡ past'.node = cc in
    past.told ∙ ap (λ (node : Entry). record { kind = NODES; place = node.node.place }) same ∙ sym past'.told

pub one_first-stop : (members : List Member) (s t : Stop) → IsFirstStop members s → IsFirstStop members t → s ≡ t
one_first-stop members s t a b =
    let functions = functions_of members in
    let same = first-one (Passes functions) a.passed a.member a.others b.passed b.member b.others (sym a.split ∙ b.split) a.pass (pass-stop functions a.member s a.stops) b.pass (pass-stop functions b.member t b.stops) in
    one_member-stop functions b.member s t (subst (λ (m : Member). IsMemberStop functions m s) same a.stops) b.stops

pub one_weight-stop : (members : List Member) (s t : Stop) → IsWeightStop members s → IsWeightStop members t → s ≡ t
one_weight-stop members s t a b =
    let same = first-one IsLight a.passed a.member a.others b.passed b.member b.others (sym a.split ∙ b.split) a.light a.heavy b.light b.heavy in
    a.told ∙ ap (λ (m : Member). record { kind = FRAME_WEIGHT; place = m.place }) same ∙ sym b.told

-- where all members pass, none has a stop
pub pass-first : (members : List Member) (stop : Stop) → All (Passes (functions_of members)) members → IsFirstStop members stop → ⊥
pass-first members stop all a =
    pass-stop (functions_of members) a.member stop a.stops (All-middle (Passes (functions_of members)) a.passed a.member a.others (subst (All (Passes (functions_of members))) a.split all))

pub light-weight : (members : List Member) (stop : Stop) → All IsLight members → IsWeightStop members stop → ⊥
light-weight members stop all a = a.heavy (All-middle IsLight a.passed a.member a.others (subst (All IsLight) a.split all))

pub one_file-stop : (members : List Member) (s t : Stop) → IsFirstStop members s ⊎ IsWeightStop members s → IsFirstStop members t ⊎ IsWeightStop members t → s ≡ t
one_file-stop members s t (inl a) (inl b) = one_first-stop members s t a b
one_file-stop members s t (inl a) (inr b) = absurd (pass-first members s b.all_pass a)
one_file-stop members s t (inr a) (inl b) = absurd (pass-first members t a.all_pass b)
one_file-stop members s t (inr a) (inr b) = one_weight-stop members s t a b

-- ---- members that count

-- a name that a function may have
named-is : (name : List ℕ) (b : Bool) → (IsTrue b ↔ (IsUtf8 name × (is_reserved name ≡ false))) → b ≡ (is_utf8 name && not (is_reserved name))
named-is name true h =
    let both = h.0 refl in
    sym (ap (λ x. x && not (is_reserved name)) (is_utf8-from_IsUtf8 name both.0) ∙ ap not both.1)
named-is name false h = by (is_utf8 name) (is_reserved name) refl refl
  where
    by : (x y : Bool) → is_utf8 name ≡ x → is_reserved name ≡ y → false ≡ (x && not y)
    by false y text free = refl
    by true true text free = refl
    by true false text free = absurd (false≢true (h.1 (IsUtf8-from_is_utf8 name text, free)))

-- what isn't a unit counts where it declares a function with such a name
pub declared-counts : (text : List ℕ) (tokens : List Token) (t : Forest Entry) → is_unit t ≡ false → (d : Declaration) → option_map declaration_of (member_of text tokens t) ≡ Some d
    → (name : List ℕ) → name ≡ name_of d → (b : Bool) → (IsTrue b ↔ (IsUtf8 name × (is_reserved name ≡ false))) → b ≡ counts text tokens t
declared-counts text tokens t other d declared name named b may =
    named-is name b may
    ∙ ap (λ n. is_utf8 n && not (is_reserved n)) named
    ∙ sym (ap (λ u. u || is_named (option_map declaration_of (member_of text tokens t))) other ∙ ap is_named declared)

-- ---- functions of new names

module _ (names : List (List ℕ)) (o : Option Declaration) (d : Declaration) (is : o ≡ Some d) (name : List ℕ) (named : name ≡ name_of d) where
  pub old-among : Contains names name → new_among names (option_to_list o) ≡ []
  old-among there =
      ap (λ (x : Option Declaration). new_among names (option_to_list x)) is
      ∙ ap (λ b. if b then [] else d ∷ []) (any-Contains (name_of d) names (subst (Contains names) named there))

  pub old-mark : Contains names name → is_new names o ≡ false
  old-mark there = ap (is_new names) is ∙ ap not (any-Contains (name_of d) names (subst (Contains names) named there))

  pub new-alone : (Contains names name → ⊥) → new_among names (option_to_list o) ≡ d ∷ []
  new-alone absent =
      ap (λ (x : Option Declaration). new_among names (option_to_list x)) is
      ∙ ap (λ b. if b then [] else d ∷ []) (any-absent (name_of d) names (λ there. absent (subst (Contains names) (sym named) there)))

  pub new-mark : (Contains names name → ⊥) → is_new names o ≡ true
  new-mark absent = ap (is_new names) is ∙ ap not (any-absent (name_of d) names (λ there. absent (subst (Contains names) (sym named) there)))
