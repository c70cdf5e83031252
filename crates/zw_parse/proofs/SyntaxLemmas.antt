-- Files and their trees.
use Rattle.std.proofs.Common.{◌≡◌, ℕ, zero, suc, ◌+◌, ◌-◌, ◌*◌, ◌<◌, ◌≤◌, ◌⊎◌, inl, inr, List, [], ◌∷◌, ◌++◌, length, drop, get_or, All, AllPairs, Bool, true, false, nat_lt, length-append, refl, sym, ap, ◌∙◌, subst, arith}
use Rattle.std.proofs.lemmas.Grind.{common_steps}
use Rattle.zw_base.specs.declared.stop.Refused.TheVariants as refused
use Rattle.zw_base.specs.declared.stop.Stop.{Stop}
use Rattle.zw_base.specs.declared.stop.StopKind.TheVariants.{Error, Limit}
use Rattle.zw_token.specs.Tokens.{Tokens, TokensFrom, LiesIn}
use Rattle.zw_token.specs.Tokens.TokensFrom.{last, more}
use Rattle.zw_token.specs.declared.token.Token.{Token}
use Rattle.zw_token.proofs.Lists.{gap_ordered, stands_size}
use Rattle.zw_tree.specs.Trees.{Forest, none, tree, count, trees, preorder, map_forest}
use Rattle.zw_tree.proofs.Subtrees.{count-map}
use Rattle.zw_tree.specs.declared.ast.Entry.{Entry}
use Rattle.zw_tree.specs.declared.kind.NodeKind.TheVariants.{Root}
use Rattle.zw_grammar.specs.Building.{Span, Begun, Building, enclosed}
use Rattle.zw_grammar.specs.Nodes.{built, nodes, all_nodes, Holds}
use Rattle.zw_grammar.specs.Orders.{AreInOrder}
use Rattle.zw_grammar.specs.declared.builder.Built.{Built}
use Rattle.zw_grammar.specs.declared.builder.Builder.{Builder}
use Rattle.zw_grammar.specs.declared.machine.End.{End}
use Rattle.zw_grammar.specs.declared.machine.End.TheVariants as ends
use Rattle.zw_grammar.proofs.NodeLemmas.{length-nodes}
use Rattle.zw_grammar.proofs.OrderLemmas.{read_in_order, order_later, order_le}
use Rattle.zw_parse_expr.specs.Files.{IsFile, FileEnds}
use Rattle.zw_parse_expr.specs.Lexemes.{Lexeme, lexemes, lexeme_of}
use Rattle.zw_parse_expr.proofs.Balance.{file_balances}
use Rattle.zw_parse_expr.proofs.FileLemmas.{one_file, file_not_wrong, file_not_nested, file_or_stopped, one_wrong_file, one_nested_file}
use Rattle.zw_parse_expr.proofs.Smallness.{few_nodes}
use Rattle.zw_parse_expr.proofs.TokenLemmas.{ends_once}
use Rattle.zw_parse.specs.Entries.{entry_at, first_start, IsWithin}
use Rattle.zw_parse.specs.Order.{IsTree}
use Rattle.zw_parse.specs.Syntax.{IsTreeOf, IsSyntaxStop, IsSyntaxRefusal, span_in, tree_of_file, stop_of}
use Rattle.zw_parse.specs.Syntax.IsSyntaxStop.{wrong, nested}
use Rattle.std.proofs.lemmas.List.{length-map}

below : (m n : ℕ) → nat_lt m n ≡ true → m < n
below m n e = grind (arith, common_steps)

not_below : (m n : ℕ) → nat_lt m n ≡ false → n ≤ m
not_below m n e = grind (arith, common_steps)

-- a text has at most one token more than bytes
tokens_from : {text : List ℕ} {from : ℕ} {ts : List Token} → TokensFrom text from ts → (0 < length ts) × (length ts + from ≤ length text + 1)
tokens_from {text} (last {t = t} gap end) = let ordered = gap_ordered gap in (omega arith, omega (arith, ordered, end.start))
tokens_from {text} (more {t = t} gap stands rest) =
    let ordered = gap_ordered gap in
    let size = stands_size text t stands in
    let others = tokens_from rest in
    (omega arith, omega (arith, ordered, size.0, others.1))

pub few_tokens : (text : List ℕ) (tokens : List Token) → Tokens text tokens → (0 < length tokens) × (length tokens ≤ length text + 1)
few_tokens text tokens t = let f = tokens_from t.list in (f.0, omega (arith, f.1))

-- where a token begins
start_there : (text : List ℕ) (tokens : List Token) → All (LiesIn text) tokens → first_start tokens ≤ length text
start_there text [] all = omega arith
start_there text (t ∷ tokens) all = let here = all 0 t (omega arith) in omega (arith, here.0, here.1)

pub start_fits : (text : List ℕ) (tokens : List Token) (number : ℕ) → All (LiesIn text) tokens → first_start (drop number tokens) ≤ length text
start_fits text tokens zero all = start_there text tokens all
start_fits text [] (suc number) all = omega arith
start_fits text (t ∷ tokens) (suc number) all = start_fits text tokens number (λ k d less. all (suc k) d (omega arith))

-- a file is some tokens
some_lexemes : (list : List Lexeme) (b : Building) → IsFile list b → 0 < length list
some_lexemes [] b f = let before = f.reads.before in absurd (omega arith)
some_lexemes (x ∷ list) b f = omega arith

-- what is built of a file
file_order : (list : List Lexeme) (b : Building) → IsFile list b → (b.begun ≡ []) × AreInOrder 0 b.ended (length list - 1)
file_order list b f = read_in_order _ _ _ 0 (length list - 1) b file_balances f.reads

pub tree_order : (list : List Lexeme) (b : Building) → IsFile list b → AreInOrder 0 (tree_of_file list b) (length list)
tree_order list b f =
    let some = some_lexemes list b f in
    let order = (file_order list b f).1 in
    (omega arith, omega arith, order_later 0 b.ended (length list - 1) (suc (length list - 1)) order (omega arith), omega arith)

module _ {X : Type 0} where
  all_cons : (P : X → Type 0) (x : X) (xs : List X) → P x → All P xs → All P (x ∷ xs)
  all_cons P x xs h all zero d less = h
  all_cons P x xs h all (suc k) d less = all k d (omega arith)

  all_join : (P : X → Type 0) (xs ys : List X) → All P xs → All P ys → All P (xs ++ ys)
  all_join P [] ys first second = second
  all_join P (x ∷ xs) ys first second = all_cons P x (xs ++ ys) (first 0 x (omega arith)) (all_join P xs ys (λ k d less. first (suc k) d (omega arith)) second)

pub nodes_within : (tokens : List Token) (from : ℕ) (f : Forest Span) (to : ℕ) → AreInOrder from f to → to ≤ length tokens → All (IsWithin tokens) (nodes f)
nodes_within tokens from none to o le = λ k d less. absurd (omega arith)
nodes_within tokens from (tree root below behind) to o le =
    let behind_le = order_le (suc root.last) behind to o.3 in
    let first = o.1 in
    all_join (IsWithin tokens) (nodes below) (built root (suc (count below)) ∷ nodes behind)
    (nodes_within tokens root.first below (suc root.last) o.2 (omega arith))
    (all_cons (IsWithin tokens) (built root (suc (count below))) (nodes behind) (record { ordered = first; within = omega arith })
    (nodes_within tokens (suc root.last) behind to o.3 le))

-- what the builder lists when all trees stand below the file's node
pub record IsListed (text : List ℕ) (tokens : List Token) (list : List Built) (building : Building) : Type 0 where
  pub tree : IsTree list (tree_of_file (lexemes text tokens) building)
  pub within : All (IsWithin tokens) list

pub listed : (text : List ℕ) (tokens : List Token) (list : List Built) (last : ℕ) (builder : Builder) (b : Building) → IsFile (lexemes text tokens) b → last ≡ length (lexemes text tokens) - 1 →
    (b.begun ≡ [] → Holds builder (enclosed Root last b)) → ((c : Building) → Holds builder c → list ≡ all_nodes c.begun c.ended) → IsListed text tokens list b
listed text tokens list final builder b f same holds lists =
    let none_open = (file_order (lexemes text tokens) b f).0 in
    let all : list ≡ nodes (enclosed Root final b).ended = lists (enclosed Root final b) (holds none_open) in
    let whole : list ≡ nodes (tree_of_file (lexemes text tokens) b) = all ∙ ap (λ (n : ℕ). nodes (enclosed Root n b).ended) same in
    let long : length (lexemes text tokens) ≡ length tokens = length-map tokens (lexeme_of text) in
    record {
      tree = record { one = refl; listed = whole };
      within = subst (All (IsWithin tokens)) (sym whole) (nodes_within tokens 0 (tree_of_file (lexemes text tokens) b) (length (lexemes text tokens)) (tree_order (lexemes text tokens) b f) (omega arith));
    }

-- a tree has fewer than two nodes for each token
few_in_file : (list : List Lexeme) (b : Building) → IsFile list b → count (tree_of_file list b) < 2 * length list
few_in_file list b f =
    let some = some_lexemes list b f in
    let same : all_nodes b.begun b.ended ≡ nodes b.ended = ap (λ (l : List Begun). all_nodes l b.ended) (file_order list b f).0 in
    omega (arith, few_nodes list b f, ap length same, length-nodes b.ended)

pub few_listed : (text : List ℕ) (tokens : List Token) (list : List Built) (b : Building) → IsFile (lexemes text tokens) b → IsTree list (tree_of_file (lexemes text tokens) b) → length list < 2 * length tokens
few_listed text tokens list b f t =
    omega (arith, few_in_file (lexemes text tokens) b f, ap length t.listed, length-nodes (tree_of_file (lexemes text tokens) b), length-map tokens (lexeme_of text))

pub few_of_tree : (file : ℕ) (text : List ℕ) (tokens : List Token) (forest : Forest Entry) → IsTreeOf file text tokens forest → count forest < 2 * length tokens
few_of_tree file text tokens forest t =
    let list = lexemes text tokens in
    omega (arith, few_in_file list t.building t.reads, ap count t.is, count-map (entry_at file text tokens) (tree_of_file list t.building), length-map tokens (lexeme_of text))

pub tree_once : (file : ℕ) (text : List ℕ) (tokens : List Token) (a b : Forest Entry) → IsTreeOf file text tokens a → IsTreeOf file text tokens b → a ≡ b
tree_once file text tokens a b t u =
    let same = one_file (lexemes text tokens) t.building u.building t.reads u.reads in
    t.is ∙ (ap (λ (c : Building). map_forest (entry_at file text tokens) (tree_of_file (lexemes text tokens) c)) same ∙ sym u.is)

pub tree_not_stop : (file : ℕ) (text : List ℕ) (tokens : List Token) (forest : Forest Entry) (stop : Stop) → IsTreeOf file text tokens forest → IsSyntaxStop file text tokens stop → ⊥
tree_not_stop file text tokens forest stop t (wrong number w flat is) = file_not_wrong (lexemes text tokens) t.building number t.reads w
tree_not_stop file text tokens forest stop t (nested number n is) = file_not_nested (lexemes text tokens) t.building number t.reads t.flat n

-- the tokens of a text have a tree or a stop
pub tree_or_stop : (file : ℕ) (text : List ℕ) (tokens : List Token) → Tokens text tokens → ((forest : Forest Entry) × IsTreeOf file text tokens forest) ⊎ ((stop : Stop) × IsSyntaxStop file text tokens stop)
tree_or_stop file text tokens t =
    let list = lexemes text tokens in
    elim (file_or_stopped list (ends_once t.list)) [
      | inl read ↦ inl (map_forest (entry_at file text tokens) (tree_of_file list read.0), record { building = read.0; reads = read.1; flat = read.2; is = refl })
      | inr stopped ↦ elim stopped [
        | inl deep ↦ inr (stop_of (Limit 3) file text tokens deep.0, nested deep.0 deep.1 refl)
        | inr bad ↦ inr (stop_of (Error 6) file text tokens bad.0, wrong bad.0 (bad.1).wrong (bad.1).flat refl)
      ]
    ]

pub stop_once : (file : ℕ) (text : List ℕ) (tokens : List Token) (a b : Stop) → IsSyntaxStop file text tokens a → IsSyntaxStop file text tokens b → a ≡ b
stop_once file text tokens a b (wrong number w flat is) (wrong other v level also) =
    is ∙ (ap (λ (n : ℕ). stop_of (Error 6) file text tokens n) (one_wrong_file (lexemes text tokens) number other w v) ∙ sym also)
stop_once file text tokens a b (wrong number w flat is) (nested other n also) = absurd (flat other n)
stop_once file text tokens a b (nested number n is) (wrong other v level also) = absurd (level number n)
stop_once file text tokens a b (nested number n is) (nested other m also) =
    is ∙ (ap (λ (k : ℕ). stop_of (Limit 3) file text tokens k) (one_nested_file (lexemes text tokens) number other n m) ∙ sym also)

spans_back : (file : ℕ) (text : List ℕ) (tokens : List Token) (f : Forest Span) → map_forest span_in (map_forest (entry_at file text tokens) f) ≡ f
spans_back file text tokens none = refl
spans_back file text tokens (tree root below behind) =
    let first = spans_back file text tokens below in
    let second = spans_back file text tokens behind in
    ap (λ (g : Forest Span). tree root g (map_forest span_in (map_forest (entry_at file text tokens) behind))) first ∙ ap (λ (g : Forest Span). tree root below g) second

pub one_root : (file : ℕ) (text : List ℕ) (tokens : List Token) (forest : Forest Entry) → IsTreeOf file text tokens forest → trees forest ≡ 1
one_root file text tokens forest t = ap trees t.is

pub trees_in_order : (file : ℕ) (text : List ℕ) (tokens : List Token) (forest : Forest Entry) → IsTreeOf file text tokens forest → AreInOrder 0 (map_forest span_in forest) (length tokens)
trees_in_order file text tokens forest t =
    let list = lexemes text tokens in
    let spans : map_forest span_in forest ≡ tree_of_file list t.building = ap (map_forest span_in) t.is ∙ spans_back file text tokens (tree_of_file list t.building) in
    let long : length list ≡ length tokens = length-map tokens (lexeme_of text) in
    subst (λ (f : Forest Span). AreInOrder 0 f (length tokens)) (sym spans) (subst (λ (n : ℕ). AreInOrder 0 (tree_of_file list t.building) n) long (tree_order list t.building t.reads))

-- all nodes in preorder begin between these terminals
begin_between : (from : ℕ) (f : Forest Entry) (to : ℕ) → AreInOrder from (map_forest span_in f) to → All (λ (e : Entry). (from ≤ e.node.first) × (e.node.first < to)) (preorder f)
begin_between from none to o = λ k d less. absurd (omega arith)
begin_between from (tree root below behind) to o =
    let first = o.0 in
    let second = o.1 in
    let after = order_le (suc root.node.last) (map_forest span_in behind) to o.3 in
    let P : Entry → Type 0 = λ e. (from ≤ e.node.first) × (e.node.first < to) in
    let inner = begin_between root.node.first below (suc root.node.last) o.2 in
    let outer = begin_between (suc root.node.last) behind to o.3 in
    all_cons P root (preorder below ++ preorder behind) (omega arith, omega arith)
    (all_join P (preorder below) (preorder behind)
    (λ k d less. let h = inner k d less in (omega (arith, h.0), omega (arith, h.1)))
    (λ k d less. let h = outer k d less in (omega (arith, h.0), omega (arith, h.1))))

module _ {X : Type 0} where
  get_left : (xs ys : List X) (k : ℕ) (d : X) → k < length xs → get_or (xs ++ ys) k d ≡ get_or xs k d
  get_left [] ys k d less = absurd (omega arith)
  get_left (x ∷ xs) ys zero d less = refl
  get_left (x ∷ xs) ys (suc k) d less = get_left xs ys k d (omega arith)

  get_right : (xs ys : List X) (k : ℕ) (d : X) → length xs ≤ k → get_or (xs ++ ys) k d ≡ get_or ys (k - length xs) d
  get_right [] ys k d le = let same : k ≡ k - length {A = X} [] = omega arith in ap (λ (j : ℕ). get_or ys j d) same
  get_right (x ∷ xs) ys zero d le = absurd (omega arith)
  get_right (x ∷ xs) ys (suc k) d le =
      let same : k - length xs ≡ suc k - suc (length xs) = omega arith in
      get_right xs ys k d (omega arith) ∙ ap (λ (j : ℕ). get_or ys j d) same

  pairs_join : (R : X → X → Type 0) (xs ys : List X) → AllPairs R xs → AllPairs R ys → ((i j : ℕ) (d : X) → i < length xs → j < length ys → R (get_or xs i d) (get_or ys j d)) → AllPairs R (xs ++ ys)
  pairs_join R xs ys first second cross i j d less within = go (nat_lt j (length xs)) refl (nat_lt i (length xs)) refl
    where
      sum : length (xs ++ ys) ≡ length xs + length ys
      sum = length-append xs ys

      go : (a : Bool) → nat_lt j (length xs) ≡ a → (b : Bool) → nat_lt i (length xs) ≡ b → R (get_or (xs ++ ys) i d) (get_or (xs ++ ys) j d)
      go true e b f =
          let near : j < length xs = below j (length xs) e in
          let before : i < length xs = omega (arith, less) in
          subst (λ (y : X). R (get_or (xs ++ ys) i d) y) (sym (get_left xs ys j d near))
          (subst (λ (x : X). R x (get_or xs j d)) (sym (get_left xs ys i d before)) (first i j d less near))
      go false e true f =
          let far : length xs ≤ j = not_below j (length xs) e in
          let before : i < length xs = below i (length xs) f in
          let rest : j - length xs < length ys = omega (arith, sum, within, far) in
          subst (λ (y : X). R (get_or (xs ++ ys) i d) y) (sym (get_right xs ys j d far))
          (subst (λ (x : X). R x (get_or ys (j - length xs) d)) (sym (get_left xs ys i d before)) (cross i (j - length xs) d before rest))
      go false e false f =
          let far : length xs ≤ j = not_below j (length xs) e in
          let also : length xs ≤ i = not_below i (length xs) f in
          let rest : j - length xs < length ys = omega (arith, sum, within, far) in
          let order : i - length xs < j - length xs = omega arith in
          subst (λ (y : X). R (get_or (xs ++ ys) i d) y) (sym (get_right xs ys j d far))
          (subst (λ (x : X). R x (get_or ys (j - length xs) d)) (sym (get_right xs ys i d also)) (second (i - length xs) (j - length xs) d order rest))

  pairs_cons : (R : X → X → Type 0) (x : X) (xs : List X) → All (R x) xs → AllPairs R xs → AllPairs R (x ∷ xs)
  pairs_cons R x xs first others zero zero d less within = absurd (omega arith)
  pairs_cons R x xs first others zero (suc j) d less within = first j d (omega arith)
  pairs_cons R x xs first others (suc i) zero d less within = absurd (omega arith)
  pairs_cons R x xs first others (suc i) (suc j) d less within = others i j d (omega arith) (omega arith)

begin_in_order : (from : ℕ) (f : Forest Entry) (to : ℕ) → AreInOrder from (map_forest span_in f) to → AllPairs (λ (a b : Entry). a.node.first ≤ b.node.first) (preorder f)
begin_in_order from none to o = λ i j d less within. absurd (omega arith)
begin_in_order from (tree root below behind) to o =
    let second = o.1 in
    let R : Entry → Entry → Type 0 = λ a b. a.node.first ≤ b.node.first in
    let inner = begin_between root.node.first below (suc root.node.last) o.2 in
    let outer = begin_between (suc root.node.last) behind to o.3 in
    pairs_cons R root (preorder below ++ preorder behind)
    (all_join (R root) (preorder below) (preorder behind) (λ k d less. (inner k d less).0) (λ k d less. let h = outer k d less in omega (arith, h.0)))
    (pairs_join R (preorder below) (preorder behind) (begin_in_order root.node.first below (suc root.node.last) o.2) (begin_in_order (suc root.node.last) behind to o.3)
    (λ i j d less within. let h = inner i d less in let k = outer j d within in omega (arith, h.1, k.0)))

pub preorder_in_order : (file : ℕ) (text : List ℕ) (tokens : List Token) (forest : Forest Entry) → IsTreeOf file text tokens forest → AllPairs (λ (a b : Entry). a.node.first ≤ b.node.first) (preorder forest)
preorder_in_order file text tokens forest t = begin_in_order 0 forest (length tokens) (trees_in_order file text tokens forest t)

-- the stop where a reading ends
pub stops_wrong : (file : ℕ) (text : List ℕ) (tokens : List Token) (builder : Builder) (end : End) (number : ℕ) → end ≡ ends.Wrong number → FileEnds (lexemes text tokens) builder end →
    IsSyntaxRefusal file text tokens (refused.Stop (stop_of (Error 6) file text tokens number))
stops_wrong file text tokens builder end number is ended =
    let e : FileEnds (lexemes text tokens) builder (ends.Wrong number) = subst (FileEnds (lexemes text tokens) builder) is ended in
    wrong number e.wrong e.flat refl

pub stops_nested : (file : ℕ) (text : List ℕ) (tokens : List Token) (builder : Builder) (end : End) (number : ℕ) → end ≡ ends.Nested number → FileEnds (lexemes text tokens) builder end →
    IsSyntaxRefusal file text tokens (refused.Stop (stop_of (Limit 3) file text tokens number))
stops_nested file text tokens builder end number is ended =
    let e : FileEnds (lexemes text tokens) builder (ends.Nested number) = subst (FileEnds (lexemes text tokens) builder) is ended in
    nested number e refl
