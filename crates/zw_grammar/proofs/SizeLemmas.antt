-- A text has few nodes, where each rule has.
use Rattle.std.proofs.Common.{◌≡◌, ℕ, zero, suc, ◌+◌, ◌-◌, ◌*◌, ◌≤◌, Bool, true, false, cond, ◌==◌, nat_lt, List, [], ◌∷◌, ◌++◌, length, Option, Some, None, slice_get, refl, sym, ap, ◌∙◌, subst, arith, length-append}
use Rattle.std.specs.List.{list_all}
use Rattle.std.specs.Option.{option_map}
use Rattle.std.specs.Prelude.{option_and_then}
use Rattle.std.proofs.Math.Nat.{suc-mul}
use Rattle.std.proofs.lemmas.Bool.{leb-true}
use Rattle.zw_tree.specs.Trees.{Forest, none, tree, beside, count, trees}
use Rattle.zw_grammar.specs.Plain.{PlainRule}
use Rattle.zw_grammar.specs.declared.builder.TheConstants.{MAX_DEPTH}
use Rattle.zw_grammar.specs.declared.grammar.Mark.{Mark}
use Rattle.zw_grammar.specs.declared.grammar.Mark.TheVariants.{Open, Wrap, Close, Leaf, Word, Enter, Leave}
use Rattle.zw_grammar.specs.declared.grammar.Symbol.{Symbol}
use Rattle.zw_grammar.specs.declared.grammar.Symbol.TheVariants.{Take, Read, Build}
use Rattle.zw_grammar.specs.Building.{Span, Begun, Building, marked, ends, enter, first_of, front, rest, is_at}
use Rattle.zw_grammar.specs.Nodes.{built, nodes, all_nodes}
use Rattle.zw_grammar.specs.Reading.{Reading, Leads, step, choice}
use Rattle.zw_grammar.specs.Reading.Leads.{here, on}
use Rattle.zw_grammar.specs.Sizes.{Excess, begun_by, more_at, fewer_at, more_of, fewer_of, keeps_excess, all_small, AreSmall}
use Rattle.zw_grammar.specs.Texts.{begins, Reads}
use Rattle.zw_grammar.proofs.NodeLemmas.{all_nodes-beside, all_nodes-one}
use Rattle.zw_grammar.proofs.StepLemmas.{and-both, first_choice_passes}
use Rattle.zw_grammar.proofs.TreeLemmas.{whole}

-- all nodes that have begun
abbrev size : List Begun → Forest Span → ℕ
size begun ended = length (all_nodes begun ended) + length begun

-- a node begins, with the trees that have ended shared out
split_size : (begun : List Begun) (ended before inside : Forest Span) → ended ≡ beside before inside → length (all_nodes begun before ++ nodes inside) ≡ length (all_nodes begun ended)
split_size begun ended before inside e = ap length (sym (ap (all_nodes begun) e ∙ all_nodes-beside begun before inside))

one_size : (begun : List Begun) (ended below : Forest Span) (root : Span) → length (all_nodes begun (beside ended (tree root below none))) ≡ suc (length (all_nodes begun ended ++ nodes below))
one_size begun ended below root =
    let more = ap length (all_nodes-one begun ended below root) in
    omega (arith, length-append (all_nodes begun ended ++ nodes below) (built root (suc (count below)) ∷ []))

leaf_size : (begun : List Begun) (ended : Forest Span) (root : Span) → size begun (beside ended (tree root none none)) ≡ suc (size begun ended)
leaf_size begun ended root =
    let more = one_size begun ended none root in
    omega (arith, length-append (all_nodes begun ended) (nodes none))

ends_size : (last : ℕ) (begun : List Begun) (b : Building) → b.begun ≡ begun → size (ends last begun b).begun (ends last begun b).ended ≡ size begun b.ended
ends_size last [] b e = ap (λ (l : List Begun). size l b.ended) e
ends_size last (node ∷ outer) b e =
    let more = one_size outer node.before b.ended (record { kind = node.kind; first = node.first; last = last }) in
    omega arith

enter_size : (place : ℕ) (b : Building) → size (enter place b).begun (enter place b).ended ≡ size b.begun b.ended
enter_size place b = go (nat_lt b.depth MAX_DEPTH)
  where
    deeper : Building
    deeper = record { ended = b.ended; begun = b.begun; depth = suc b.depth; passed = b.passed }

    nested : Building
    nested = record { ended = b.ended; begun = b.begun; depth = b.depth; passed = first_of b.passed place }

    go : (t : Bool) → size (cond {A = Building} t deeper nested).begun (cond {A = Building} t deeper nested).ended ≡ size b.begun b.ended
    go true = refl
    go false = refl

-- what a mark begins
mark_size : (text : List ℕ) (next : ℕ) (mark : Mark) (b : Building) → size (marked text next mark b).begun (marked text next mark b).ended ≡ begun_by mark + size b.begun b.ended
mark_size text next (Open kind back) b = omega (arith, length-append (all_nodes b.begun b.ended) (nodes none))
mark_size text next (Wrap kind n) b =
    let k = trees b.ended - n in
    let same = split_size b.begun b.ended (front k b.ended) (rest k b.ended) (whole k b.ended) in
    omega arith
mark_size text next Close b = let same = ends_size (next - 1) b.begun b refl in omega (arith, same)
mark_size text next (Leaf kind back) b =
    let more = leaf_size b.begun b.ended (record { kind = kind; first = next - back; last = next - back }) in omega (arith, more)
mark_size text next (Word terminal kind other back) b =
    let more = leaf_size b.begun b.ended (record { kind = cond (is_at text (next - back) terminal) kind other; first = next - back; last = next - back }) in
    omega (arith, more)
mark_size text next (Enter back) b = let same = enter_size (next - back) b in omega (arith, same)
mark_size text next Leave b = omega arith

more_of-append : (es : List Excess) (a s : List Symbol) → more_of es (a ++ s) ≡ more_of es a + more_of es s
more_of-append es [] s = omega arith
more_of-append es (Take terminal ∷ a) s = more_of-append es a s
more_of-append es (Build mark ∷ a) s = let more = more_of-append es a s in omega arith
more_of-append es (Read number ∷ a) s = let more = more_of-append es a s in omega arith

fewer_of-append : (each : ℕ) (es : List Excess) (a s : List Symbol) → fewer_of each es (a ++ s) ≡ fewer_of each es a + fewer_of each es s
fewer_of-append each es [] s = omega arith
fewer_of-append each es (Take terminal ∷ a) s = let more = fewer_of-append each es a s in omega arith
fewer_of-append each es (Build mark ∷ a) s = fewer_of-append each es a s
fewer_of-append each es (Read number ∷ a) s = let more = fewer_of-append each es a s in omega arith

-- an alternative has as few nodes as is claimed of its rule
choice_small : (each : ℕ) (es : List Excess) (some : List PlainRule) (claims : List Excess) (number terminal : ℕ) (symbols : List Symbol) →
    all_small each es some claims ≡ true → choice some number terminal ≡ Some symbols →
    more_of es symbols + fewer_at (slice_get claims number) ≤ more_at (slice_get claims number) + fewer_of each es symbols
choice_small each es [] claims number terminal symbols all chosen = absurd (cc)
choice_small each es (r ∷ rs) [] number terminal symbols all chosen = absurd (cc)
choice_small each es (r ∷ rs) (e ∷ claims) zero terminal symbols all chosen =
    let both = and-both (list_all (keeps_excess each es e) r.alternatives) (all_small each es rs claims) all in
    let one = first_choice_passes (keeps_excess each es e) r.alternatives terminal symbols both.0 chosen in
    subst (λ (s : List Symbol). more_of es s + e.fewer ≤ e.more + fewer_of each es s) one.reads (leb-true _ _ one.passes)
choice_small each es (r ∷ rs) (e ∷ claims) (suc number) terminal symbols all chosen =
    choice_small each es rs claims number terminal symbols (and-both (list_all (keeps_excess each es e) r.alternatives) (all_small each es rs claims) all).1 chosen

-- the nodes that have begun, and those that what is still to be read may have, are few
abbrev IsFew : ℕ → List Excess → ℕ → Reading → Type 0
IsFew each es from r = (size r.building.begun r.building.ended + more_of es r.stack) + from * each ≤ r.next * each + fewer_of each es r.stack

step_few : (each : ℕ) (es : List Excess) (rules : List PlainRule) (text : List ℕ) (from : ℕ) (stack : List Symbol) (next : ℕ) (b : Building) (s : Reading) → all_small each es rules es ≡ true →
    IsFew each es from (record { stack = stack; next = next; building = b }) → step rules text stack next b ≡ Some s → IsFew each es from s
step_few each es rules text from [] next b s all few e = absurd (cc)
step_few each es rules text from (Take terminal ∷ more) next b s all few e = go (slice_get text next) e
  where
    pick : Bool → Option Reading
    pick t = cond t (Some (record { stack = more; next = suc next; building = b })) None

    taken : IsFew each es from (record { stack = more; next = suc next; building = b })
    taken = let product = suc-mul next each in omega arith

    chosen : (t : Bool) → pick t ≡ Some s → IsFew each es from s
    chosen true e = let same : record { stack = more; next = suc next; building = b } ≡ s = cc in subst (IsFew each es from) same taken
    chosen false e = absurd (cc)

    go : (o : Option ℕ) → option_and_then (λ u. pick (u == terminal)) o ≡ Some s → IsFew each es from s
    go None e = absurd (cc)
    go (Some u) e = chosen (u == terminal) e
step_few each es rules text from (Read number ∷ more) next b s all few e = go (slice_get text next) e
  where
    put : List Symbol → Reading
    put symbols = record { stack = symbols ++ more; next = next; building = b }

    chosen : (u : ℕ) (o : Option (List Symbol)) → choice rules number u ≡ o → option_map put o ≡ Some s → IsFew each es from s
    chosen u None f e = absurd (cc)
    chosen u (Some symbols) f e =
        let same : put symbols ≡ s = cc in
        let kept = choice_small each es rules es number u symbols all f in
        let first = more_of-append es symbols more in
        let second = fewer_of-append each es symbols more in
        subst (IsFew each es from) same (omega arith)

    go : (o : Option ℕ) → option_map put (option_and_then (choice rules number) o) ≡ Some s → IsFew each es from s
    go None e = absurd (cc)
    go (Some u) e = chosen u (choice rules number u) refl e
step_few each es rules text from (Build mark ∷ more) next b s all few e =
    let same : record { stack = more; next = next; building = marked text next mark b } ≡ s = cc in
    let grown = mark_size text next mark b in
    subst (IsFew each es from) same (omega arith)

leads_few : (each : ℕ) (es : List Excess) (rules : List PlainRule) (text : List ℕ) (from : ℕ) (r s : Reading) → all_small each es rules es ≡ true → Leads rules text r s →
    IsFew each es from r → IsFew each es from s
leads_few each es rules text from r s all (here q) few = few
leads_few each es rules text from r s all (on q m p first more) few =
    leads_few each es rules text from m p all more (step_few each es rules text from q.stack q.next q.building m all few first)

-- what is read has few nodes
pub read_small : (rules : List PlainRule) (start : List Symbol) (text : List ℕ) (from to each : ℕ) (b : Building) → AreSmall rules start each → Reads rules start text from to b →
    length (all_nodes b.begun b.ended) + from * each ≤ to * each
read_small rules start text from to each b small reads =
    let least = leb-true (more_of small.excesses start) (fewer_of each small.excesses start) small.whole in
    let few : IsFew each small.excesses from (record { stack = []; next = to; building = b }) =
    leads_few each small.excesses rules text from (begins start from) (record { stack = []; next = to; building = b }) small.all reads.leads (omega arith) in
    omega (arith, few)
