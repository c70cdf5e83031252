-- What is built stands in the order of its terminals, and what is known of it holds.
use Rattle.std.proofs.Common.{◌≡◌, ℕ, zero, suc, ◌+◌, ◌-◌, ◌<◌, ◌≤◌, Bool, true, false, cond, ◌&&◌, ◌==◌, nat_lt, nat_le, List, [], ◌∷◌, ◌++◌, Option, Some, None, slice_get, refl, sym, ap, ◌∙◌, subst, arith}
use Rattle.std.specs.Option.{option_map}
use Rattle.std.specs.Prelude.{option_and_then}
use Rattle.zw_tree.specs.Trees.{Forest, none, tree, beside, trees}
use Rattle.zw_tree.specs.declared.kind.NodeKind.{NodeKind}
use Rattle.zw_grammar.specs.declared.builder.TheConstants.{MAX_DEPTH}
use Rattle.zw_grammar.specs.declared.grammar.Mark.{Mark}
use Rattle.zw_grammar.specs.declared.grammar.Mark.TheVariants.{Open, Wrap, Close, Leaf, Word, Enter, Leave}
use Rattle.zw_grammar.specs.declared.grammar.Symbol.{Symbol}
use Rattle.zw_grammar.specs.declared.grammar.Symbol.TheVariants.{Take, Read, Build}
use Rattle.zw_grammar.specs.Plain.{PlainRule}
use Rattle.zw_grammar.specs.Building.{Span, Begun, Building, front, rest, start_of, ends, enter, marked, is_at, first_of}
use Rattle.zw_grammar.specs.Reading.{Reading, Leads, step, choice}
use Rattle.zw_grammar.specs.Reading.Leads.{here, on}
use Rattle.zw_grammar.specs.Texts.{begins, Reads}
use Rattle.zw_grammar.specs.Orders.{AreInOrder}
use Rattle.zw_grammar.specs.Balances.{Outline, Course, Balances, with_terminal, with_mark, with_leaf, without_node, outline, is_closed, outset, all_balance}
use Rattle.zw_grammar.proofs.StepLemmas.{and-both, below}
use Rattle.zw_grammar.proofs.BalanceLemmas.{le_of, provided_is, parts, closed, closed_choice}

pub order_le : (from : ℕ) (f : Forest Span) (to : ℕ) → AreInOrder from f to → from ≤ to
order_le from none to o = o
order_le from (tree root below behind) to o =
    let first = o.0 in
    let second = o.1 in
    let more = order_le (suc root.last) behind to o.3 in
    omega arith

pub order_some : (from : ℕ) (f : Forest Span) (to : ℕ) → AreInOrder from f to → 0 < trees f → from < to
order_some from none to o some = absurd (omega arith)
order_some from (tree root below behind) to o some =
    let first = o.0 in
    let second = o.1 in
    let more = order_le (suc root.last) behind to o.3 in
    omega arith

pub order_later : (from : ℕ) (f : Forest Span) (to later : ℕ) → AreInOrder from f to → to ≤ later → AreInOrder from f later
order_later from none to later o le = let first : from ≤ to = o in let all : from ≤ later = omega arith in all
order_later from (tree root below behind) to later o le = (o.0, o.1, o.2, order_later (suc root.last) behind to later o.3 le)

pub order_beside : (from : ℕ) (f : Forest Span) (middle : ℕ) (g : Forest Span) (to : ℕ) → AreInOrder from f middle → AreInOrder middle g to → AreInOrder from (beside f g) to
order_beside from none middle none to o p = let first : from ≤ middle = o in let second : middle ≤ to = p in let all : from ≤ to = omega arith in all
order_beside from none middle (tree root below behind) to o p =
    let first : from ≤ middle = o in
    let second = p.0 in
    let all : from ≤ root.first = omega arith in (all, p.1, p.2, p.3)
order_beside from (tree root below behind) middle g to o p = (o.0, o.1, o.2, order_beside (suc root.last) behind middle g to o.3 p)

trees_beside : (f g : Forest Span) → trees (beside f g) ≡ trees f + trees g
trees_beside none g = omega arith
trees_beside (tree root below behind) g = let more = trees_beside behind g in omega arith

trees_front : (k : ℕ) (f : Forest Span) → k ≤ trees f → trees (front k f) ≡ k
trees_front zero none le = refl
trees_front (suc k) none le = absurd (omega arith)
trees_front zero (tree root below behind) le = refl
trees_front (suc k) (tree root below behind) le = let more = trees_front k behind (omega arith) in omega arith

trees_rest : (k : ℕ) (f : Forest Span) → trees (rest k f) ≡ trees f - k
trees_rest zero none = refl
trees_rest (suc k) none = omega arith
trees_rest zero (tree root below behind) = omega arith
trees_rest (suc k) (tree root below behind) = let more = trees_rest k behind in omega arith

-- the first trees stand before the others
pub order_split : (from next k : ℕ) (f : Forest Span) (to : ℕ) → AreInOrder from f to → k < trees f →
    AreInOrder from (front k f) (start_of next (rest k f)) × AreInOrder (start_of next (rest k f)) (rest k f) to
order_split from next k none to o less = absurd (omega arith)
order_split from next zero (tree root below behind) to o less = (o.0, (omega arith, o.1, o.2, o.3))
order_split from next (suc k) (tree root below behind) to o less =
    let more = order_split (suc root.last) next k behind to o.3 (omega arith) in
    ((o.0, o.1, o.2, more.0), more.1)

-- the trees that have ended in each open node stand in order, and are at least so many
abbrev pub Fits : ℕ → List Begun → Forest Span → ℕ → List ℕ → ℕ → Type 0
Fits from [] ended n ns to = AreInOrder from ended to × (n ≤ trees ended) × (ns ≡ [])
Fits from (node ∷ outer) ended n [] to = ⊥
Fits from (node ∷ outer) ended n (m ∷ ms) to = AreInOrder node.first ended to × (n ≤ trees ended) × Fits from outer node.before m ms node.first

-- where the innermost open node begins
abbrev pub start : ℕ → List Begun → ℕ
start from [] = from
start from (node ∷ outer) = node.first

fits_le : (from : ℕ) (begun : List Begun) (ended : Forest Span) (n : ℕ) (ns : List ℕ) (to : ℕ) → Fits from begun ended n ns to → start from begun ≤ to
fits_le from [] ended n ns to f = order_le from ended to f.0
fits_le from (node ∷ outer) ended n [] to f = absurd f
fits_le from (node ∷ outer) ended n (m ∷ ms) to f = order_le node.first ended to f.0

fits_later : (from : ℕ) (begun : List Begun) (ended : Forest Span) (n : ℕ) (ns : List ℕ) (to later : ℕ) → Fits from begun ended n ns to → to ≤ later → Fits from begun ended n ns later
fits_later from [] ended n ns to later f le = (order_later from ended to later f.0 le, f.1, f.2)
fits_later from (node ∷ outer) ended n [] to later f le = f
fits_later from (node ∷ outer) ended n (m ∷ ms) to later f le = (order_later node.first ended to later f.0 le, f.1, f.2)

-- with one tree more
fits_more : (from : ℕ) (begun : List Begun) (ended : Forest Span) (n : ℕ) (ns : List ℕ) (to : ℕ) (root : Span) (below : Forest Span) (later : ℕ) →
    Fits from begun ended n ns to → AreInOrder to (tree root below none) later → Fits from begun (beside ended (tree root below none)) (suc n) ns later
fits_more from [] ended n ns to root below later f o =
    let sum = trees_beside ended (tree root below none) in
    let many = f.1 in
    (order_beside from ended to (tree root below none) later f.0 o, omega arith, f.2)
fits_more from (node ∷ outer) ended n [] to root below later f o = f
fits_more from (node ∷ outer) ended n (m ∷ ms) to root below later f o =
    let sum = trees_beside ended (tree root below none) in
    let many = f.1 in
    (order_beside node.first ended to (tree root below none) later f.0 o, omega arith, f.2)

-- without the last trees
fits_fewer : (from : ℕ) (begun : List Begun) (ended : Forest Span) (n : ℕ) (ns : List ℕ) (to next k m : ℕ) →
    Fits from begun ended n ns to → k < trees ended → m ≤ k → Fits from begun (front k ended) m ns (start_of next (rest k ended))
fits_fewer from [] ended n ns to next k m f less le =
    let counted = trees_front k ended (omega arith) in
    ((order_split from next k ended to f.0 less).0, omega arith, f.2)
fits_fewer from (node ∷ outer) ended n [] to next k m f less le = f
fits_fewer from (node ∷ outer) ended n (j ∷ js) to next k m f less le =
    let counted = trees_front k ended (omega arith) in
    ((order_split node.first next k ended to f.0 less).0, omega arith, f.2)

-- the last trees
fits_last : (from : ℕ) (begun : List Begun) (ended : Forest Span) (n : ℕ) (ns : List ℕ) (to next k : ℕ) →
    Fits from begun ended n ns to → k < trees ended → AreInOrder (start_of next (rest k ended)) (rest k ended) to
fits_last from [] ended n ns to next k f less = (order_split from next k ended to f.0 less).1
fits_last from (node ∷ outer) ended n [] to next k f less = absurd f
fits_last from (node ∷ outer) ended n (j ∷ js) to next k f less = (order_split node.first next k ended to f.0 less).1

fits_many : (from : ℕ) (begun : List Begun) (ended : Forest Span) (n : ℕ) (ns : List ℕ) (to : ℕ) → Fits from begun ended n ns to → n ≤ trees ended
fits_many from [] ended n ns to f = f.1
fits_many from (node ∷ outer) ended n [] to f = absurd f
fits_many from (node ∷ outer) ended n (m ∷ ms) to f = f.1

-- up to which terminal nodes may have ended
abbrev pub limit : Bool → ℕ → ℕ
limit ahead next = cond ahead (suc next) next

-- what is known of what is built holds before the terminal with this number
pub record Describes (from : ℕ) (o : Outline) (begun : List Begun) (ended : Forest Span) (next : ℕ) : Type 0 where
  pub to : ℕ
  pub fits : Fits from begun ended o.many o.outer to
  pub free : to + o.free ≤ limit o.ahead next
  pub some : o.some ≡ true → start from begun < limit o.ahead next

describes_terminal : (from : ℕ) (o : Outline) (begun : List Begun) (ended : Forest Span) (next : ℕ) → Describes from o begun ended next → Describes from (with_terminal o) begun ended (suc next)
describes_terminal from o begun ended next d = go o.ahead refl
  where
    go : (a : Bool) → o.ahead ≡ a → Describes from
        (cond {A = Outline} a (record { ahead = false; some = o.some; free = o.free; many = o.many; outer = o.outer }) (record { ahead = false; some = true; free = suc o.free; many = o.many; outer = o.outer }))
        begun ended (suc next)
    go true e =
        let same : limit o.ahead next ≡ suc next = ap (λ (a : Bool). limit a next) e in
        let free = d.free in
        record { to = d.to; fits = d.fits; free = omega arith; some = λ s. let less = d.some s in omega arith }
    go false e =
        let same : limit o.ahead next ≡ next = ap (λ (a : Bool). limit a next) e in
        let free = d.free in
        let le = fits_le from begun ended o.many o.outer d.to d.fits in
        record { to = d.to; fits = d.fits; free = omega arith; some = λ s. omega arith }

-- what is built, with the same nodes, by another outline
described_as : (from : ℕ) (o p : Outline) (begun : List Begun) (ended : Forest Span) (next : ℕ) → o ≡ p → Describes from o begun ended next → Describes from p begun ended next
described_as from o p begun ended next same d = subst (λ (q : Outline). Describes from q begun ended next) same d

free_before : (from : ℕ) (o : Outline) (begun : List Begun) (ended : Forest Span) (next : ℕ) (d : Describes from o begun ended next) → o.ahead ≡ false → d.to + o.free ≤ next
free_before from o begun ended next d e =
    let same : limit o.ahead next ≡ next = ap (λ (a : Bool). limit a next) e in
    let free = d.free in omega arith

node_described : (from : ℕ) (o p : Outline) (begun : List Begun) (ended : Forest Span) (next : ℕ) (kind : NodeKind) (back : ℕ) → Describes from o begun ended next → o.ahead ≡ false →
    with_mark (Open kind back) o ≡ Some p → Describes from p (record { kind = kind; first = next - back; before = ended } ∷ begun) none next
node_described from o p begun ended next kind back d ready given =
    let q = provided_is (nat_le back o.free) _ p given in
    let le = le_of back o.free q.0 in
    let free = free_before from o begun ended next d ready in
    described_as from _ p _ none next q.1 (record {
      to = next - back;
      fits = (omega arith, omega arith, fits_later from begun ended o.many o.outer d.to (next - back) d.fits (omega arith));
      free = omega arith;
      some = λ s. let less = below 0 back s in omega arith;
    })

wrapped_described : (from : ℕ) (o p : Outline) (begun : List Begun) (ended : Forest Span) (next : ℕ) (kind : NodeKind) (n : ℕ) → Describes from o begun ended next → o.ahead ≡ false →
    with_mark (Wrap kind n) o ≡ Some p →
    Describes from p (record { kind = kind; first = start_of next (rest (trees ended - n) ended); before = front (trees ended - n) ended } ∷ begun) (rest (trees ended - n) ended) next
wrapped_described from o p begun ended next kind n d ready given =
    let q = provided_is (nat_lt 0 n && nat_le n o.many) _ p given in
    let both = and-both (nat_lt 0 n) (nat_le n o.many) q.0 in
    let some = below 0 n both.0 in
    let le = le_of n o.many both.1 in
    let many = fits_many from begun ended o.many o.outer d.to d.fits in
    let k = trees ended - n in
    let less : k < trees ended = omega arith in
    let free = free_before from o begun ended next d ready in
    let counted = trees_rest k ended in
    let last = fits_last from begun ended o.many o.outer d.to next k d.fits less in
    let earlier = order_some (start_of next (rest k ended)) (rest k ended) d.to last (omega arith) in
    described_as from _ p _ (rest k ended) next q.1 (record {
      to = d.to;
      fits = (last, omega arith, fits_fewer from begun ended o.many o.outer d.to next k (o.many - n) d.fits less (omega arith));
      free = free;
      some = λ s. omega arith;
    })

closed_described : (from : ℕ) (begun : List Begun) (b : Building) (next n to : ℕ) (ns : List ℕ) (some : Bool) (p : Outline) → Fits from begun b.ended n ns to → to ≤ next →
    (some ≡ true → start from begun < next) → without_node ns some ≡ Some p → Describes from p (ends (next - 1) begun b).begun (ends (next - 1) begun b).ended next
closed_described from begun b next n to [] some p f le has given = absurd (cc)
closed_described from [] b next n to (m ∷ ms) some p f le has given = let no : m ∷ ms ≡ [] = f.2 in absurd (cc)
closed_described from (node ∷ outer) b next n to (m ∷ ms) some p f le has given =
    let q = provided_is some _ p given in
    let less = has q.0 in
    let last : to ≤ suc (next - 1) = omega arith in
    described_as from _ p outer _ next q.1 (record {
      to = next;
      fits = fits_more from outer node.before m ms node.first (record { kind = node.kind; first = node.first; last = next - 1 }) b.ended next f.2
          (omega arith, omega arith, order_later node.first b.ended to (suc (next - 1)) f.0 last, omega arith);
      free = omega arith;
      some = λ s. let first = fits_le from outer node.before m ms node.first f.2 in omega arith;
    })

leaf_described : (from : ℕ) (o p : Outline) (begun : List Begun) (ended : Forest Span) (next : ℕ) (kind : NodeKind) (back : ℕ) → Describes from o begun ended next → o.ahead ≡ false →
    with_leaf back o ≡ Some p → Describes from p begun (beside ended (tree (record { kind = kind; first = next - back; last = next - back }) none none)) next
leaf_described from o p begun ended next kind zero d ready given =
    let q = provided_is true _ p given in
    let free = free_before from o begun ended next d ready in
    let first = fits_le from begun ended o.many o.outer d.to d.fits in
    described_as from _ p begun _ next q.1 (record {
      to = suc next;
      fits = fits_more from begun ended o.many o.outer d.to (record { kind = kind; first = next - 0; last = next - 0 }) none (suc next) d.fits (omega arith, omega arith, omega arith, omega arith);
      free = omega arith;
      some = λ s. omega arith;
    })
leaf_described from o p begun ended next kind (suc back) d ready given =
    let q = provided_is (nat_lt back o.free) _ p given in
    let less = below back o.free q.0 in
    let free = free_before from o begun ended next d ready in
    let first = fits_le from begun ended o.many o.outer d.to d.fits in
    described_as from _ p begun _ next q.1 (record {
      to = next - back;
      fits = fits_more from begun ended o.many o.outer d.to (record { kind = kind; first = next - suc back; last = next - suc back }) none (next - back) d.fits (omega arith, omega arith, omega arith, omega arith);
      free = omega arith;
      some = λ s. omega arith;
    })

same_described : (from : ℕ) (o p : Outline) (begun : List Begun) (ended : Forest Span) (next : ℕ) → Describes from o begun ended next → Some o ≡ Some p → Describes from p begun ended next
same_described from o p begun ended next d given = let same : o ≡ p = cc in described_as from o p begun ended next same d

enter_described : (from : ℕ) (o p : Outline) (b : Building) (next place : ℕ) → Describes from o b.begun b.ended next → Some o ≡ Some p → Describes from p (enter place b).begun (enter place b).ended next
enter_described from o p b next place d given = go (nat_lt b.depth MAX_DEPTH)
  where
    go : (t : Bool) → Describes from p
        (cond {A = Building} t (record { ended = b.ended; begun = b.begun; depth = suc b.depth; passed = b.passed }) (record { ended = b.ended; begun = b.begun; depth = b.depth; passed = first_of b.passed place })).begun
        (cond {A = Building} t (record { ended = b.ended; begun = b.begun; depth = suc b.depth; passed = b.passed }) (record { ended = b.ended; begun = b.begun; depth = b.depth; passed = first_of b.passed place })).ended next
    go true = same_described from o p b.begun b.ended next d given
    go false = same_described from o p b.begun b.ended next d given

mark_described : (from : ℕ) (text : List ℕ) (mark : Mark) (o p : Outline) (b : Building) (next : ℕ) → Describes from o b.begun b.ended next → o.ahead ≡ false → with_mark mark o ≡ Some p →
    Describes from p (marked text next mark b).begun (marked text next mark b).ended next
mark_described from text (Open kind back) o p b next d ready given = node_described from o p b.begun b.ended next kind back d ready given
mark_described from text (Wrap kind n) o p b next d ready given = wrapped_described from o p b.begun b.ended next kind n d ready given
mark_described from text Close o p b next d ready given =
    let free = free_before from o b.begun b.ended next d ready in
    let same : limit o.ahead next ≡ next = ap (λ (a : Bool). limit a next) ready in
    closed_described from b.begun b next o.many d.to o.outer o.some p d.fits (omega arith) (λ s. let less = d.some s in omega arith) given
mark_described from text (Leaf kind back) o p b next d ready given = leaf_described from o p b.begun b.ended next kind back d ready given
mark_described from text (Word terminal kind other back) o p b next d ready given =
    leaf_described from o p b.begun b.ended next (cond (is_at text (next - back) terminal) kind other) back d ready given
mark_described from text (Enter back) o p b next d ready given = enter_described from o p b next (next - back) d given
mark_described from text Leave o p b next d ready given = same_described from o p b.begun b.ended next d given

-- a reading whose outline is closed at its end
pub record IsBalanced (courses : List Course) (from : ℕ) (stack : List Symbol) (next : ℕ) (b : Building) : Type 0 where
  pub known : Outline
  pub describes : Describes from known b.begun b.ended next
  pub shut : is_closed false 0 (outline courses stack known) ≡ true

step_balanced : (courses : List Course) (rules : List PlainRule) (text : List ℕ) (from : ℕ) (stack : List Symbol) (next : ℕ) (b : Building) (s : Reading) → all_balance courses rules courses ≡ true →
    IsBalanced courses from stack next b → step rules text stack next b ≡ Some s → IsBalanced courses from s.stack s.next s.building
step_balanced courses rules text from [] next b s all k e = absurd (cc)
step_balanced courses rules text from (Take terminal ∷ more) next b s all k e = go (slice_get text next) e
  where
    pick : Bool → Option Reading
    pick t = cond t (Some (record { stack = more; next = suc next; building = b })) None

    chosen : (t : Bool) → pick t ≡ Some s → IsBalanced courses from s.stack s.next s.building
    chosen true e =
        let same : record { stack = more; next = suc next; building = b } ≡ s = cc in
        subst (λ (r : Reading). IsBalanced courses from r.stack r.next r.building) same
        (record { known = with_terminal k.known; describes = describes_terminal from k.known b.begun b.ended next k.describes; shut = k.shut })
    chosen false e = absurd (cc)

    go : (o : Option ℕ) → option_and_then (λ u. pick (u == terminal)) o ≡ Some s → IsBalanced courses from s.stack s.next s.building
    go None e = absurd (cc)
    go (Some u) e = chosen (u == terminal) e
step_balanced courses rules text from (Read number ∷ more) next b s all k e = go (slice_get text next) e
  where
    put : List Symbol → Reading
    put symbols = record { stack = symbols ++ more; next = next; building = b }

    chosen : (u : ℕ) (o : Option (List Symbol)) → choice rules number u ≡ o → option_map put o ≡ Some s → IsBalanced courses from s.stack s.next s.building
    chosen u None f e = absurd (cc)
    chosen u (Some symbols) f e =
        let same : put symbols ≡ s = cc in
        subst (λ (r : Reading). IsBalanced courses from r.stack r.next r.building) same
        (record { known = k.known; describes = k.describes; shut = closed_choice courses rules number u symbols more k.known all f k.shut })

    go : (o : Option ℕ) → option_map put (option_and_then (choice rules number) o) ≡ Some s → IsBalanced courses from s.stack s.next s.building
    go None e = absurd (cc)
    go (Some u) e = chosen u (choice rules number u) refl e
step_balanced courses rules text from (Build mark ∷ more) next b s all k e =
    let same : record { stack = more; next = next; building = marked text next mark b } ≡ s = cc in
    let c = closed false 0 (outline courses (Build mark ∷ more) k.known) k.shut in
    let p = parts k.known.ahead (with_mark mark k.known) (outline courses more) c.final c.is in
    let still : is_closed false 0 (outline courses more p.next) ≡ true =
    ap (λ (q : Option Outline). is_closed false 0 q) (p.rest ∙ sym c.is) ∙ k.shut in
    subst (λ (r : Reading). IsBalanced courses from r.stack r.next r.building) same
    (record { known = p.next; describes = mark_described from text mark k.known p.next b next k.describes p.here p.is; shut = still })

leads_balanced : (courses : List Course) (rules : List PlainRule) (text : List ℕ) (from : ℕ) (r s : Reading) → all_balance courses rules courses ≡ true → Leads rules text r s →
    IsBalanced courses from r.stack r.next r.building → IsBalanced courses from s.stack s.next s.building
leads_balanced courses rules text from r s all (here q) k = k
leads_balanced courses rules text from r s all (on q m p first more) k =
    leads_balanced courses rules text from m p all more (step_balanced courses rules text from q.stack q.next q.building m all k first)

none_open : (from : ℕ) (begun : List Begun) (ended : Forest Span) (n : ℕ) (ns : List ℕ) (to : ℕ) → ns ≡ [] → Fits from begun ended n ns to → (begun ≡ []) × AreInOrder from ended to
none_open from [] ended n ns to e f = (refl, f.0)
none_open from (node ∷ outer) ended n [] to e f = absurd f
none_open from (node ∷ outer) ended n (m ∷ ms) to e f = absurd (cc)

-- what is read has no open node, and stands in order
pub read_in_order : (rules : List PlainRule) (start : List Symbol) (text : List ℕ) (from to : ℕ) (b : Building) → Balances rules start → Reads rules start text from to b →
    (b.begun ≡ []) × AreInOrder from b.ended to
read_in_order rules start text from to b balances reads =
    let k = leads_balanced balances.courses rules text from (begins start from) (record { stack = []; next = to; building = b }) balances.all reads.leads (record {
      known = outset 0 0;
      describes = record { to = from; fits = (omega arith, omega arith, refl); free = omega arith; some = λ no. absurd (cc) };
      shut = balances.whole;
    }) in
    let c = closed false 0 (Some k.known) k.shut in
    let same : k.known ≡ c.final = let i = c.is in cc in
    let outer : k.known.outer ≡ [] = ap (λ (o : Outline). o.outer) same ∙ c.outer in
    let ahead : k.known.ahead ≡ false = ap (λ (o : Outline). o.ahead) same ∙ c.ahead in
    let d = k.describes in
    let free = free_before from k.known b.begun b.ended to d ahead in
    let r = none_open from b.begun b.ended k.known.many k.known.outer d.to outer d.fits in
    (r.0, order_later from b.ended d.to to r.1 (omega arith))
