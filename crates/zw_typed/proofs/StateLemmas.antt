-- What changes of objects and variables keep while the nodes of a function are evaluated.
use Rattle.std.proofs.Common.{◌≡◌, ◌≢◌, refl, ℕ, zero, suc, ◌+◌, ◌<◌, ◌≤◌, Bool, true, false, List, [], ◌∷◌, ◌++◌, Option, Some, None, inl, inr, ◌⊎◌, ap, sym, ◌∙◌, subst, arith}
use Rattle.std.specs.Prelude.{length, slice_get, slice_set, nat_eq, nat_lt, if◌then◌else◌, option_and_then, replicate}
use Rattle.std.proofs.lemmas.Bool.{eqb-true, eqb-false, ltb-true, ltb-false}
use Rattle.std.proofs.lemmas.List.{length-set, length-append, length-replicate}
use Rattle.std.proofs.lemmas.Option.{slice_get_within, slice_get_past}
use Rattle.zw_types.specs.TypeTrees as tree
use Rattle.zw_types.specs.TypeTrees.{TypeTree, ValueTree}
use Rattle.zw_types.proofs.ListLemmas.{slice_get_append_left, slice_get_push, slice_get_set, slice_get_set_other}
use Rattle.zw_values.specs.ObjectStore.{Object, Store, Place, Holds, IsDead, at_run_time, place_in, place_of, made, killed, saved}
use Rattle.zw_typed.specs.ValueTypes.{IsValueOf}
use Rattle.zw_typed.specs.FlowNodes.{FlowNode, FlowNodes, node, no_nodes, node_and, Form, Declare, InOrder}
use Rattle.zw_typed.specs.FlowRuns.{Run, object_of, object_ended, ended}
use Rattle.zw_typed.specs.FlowTypes.{Context, is_among, behind, behind_form, behind_all}
use Rattle.zw_typed.specs.FlowStates.{object_at, IsDeclared, IsState, IsBehindCall}

none_some : (obj : ℕ) → None ≡ Some obj → ⊥
none_some obj e = cc

same_number : (m n : ℕ) → Some m ≡ Some n → m ≡ n
same_number m n e = cc

pub same_tree : (t u : TypeTree) → Some t ≡ Some u → t ≡ u
same_tree t u e = cc

-- ---- numbers among others

pub among_later : (live : List ℕ) (k j : ℕ) → is_among live j ≡ true → is_among (k ∷ live) j ≡ true
among_later live k j h = by_test (nat_eq k j)
  where
    by_test : (t : Bool) → (if t then true else is_among live j) ≡ true
    by_test true = refl
    by_test false = h

mutual
  -- what was declared in front of a node is so behind it
  pub among_behind : (n : FlowNode) (live : List ℕ) (j : ℕ) → is_among live j ≡ true → is_among (behind live n) j ≡ true
  among_behind (node counts ty form) live j h = among_form form live j h

  pub among_form : (form : Form) (live : List ℕ) (j : ℕ) → is_among live j ≡ true → is_among (behind_form live form) j ≡ true
  among_form (Declare k writable n) live j h = among_later live k j h
  among_form (InOrder kids) live j h = among_all kids live j h
  among_form _ live j h = h

  pub among_all : (ns : FlowNodes) (live : List ℕ) (j : ℕ) → is_among live j ≡ true → is_among (behind_all live ns) j ≡ true
  among_all no_nodes live j h = h
  among_all (node_and n ns) live j h = among_all ns (behind live n) j (among_behind n live j h)

-- ---- objects of variables

at_of : {A : Type 0} (o p : Option (Option A)) → o ≡ p → option_and_then (λ x. x) o ≡ option_and_then (λ x. x) p
at_of o p e = ap (option_and_then (λ x. x)) e

object_set : (variables : List (Option ℕ)) (k : ℕ) (o : Option ℕ) → k < length variables → object_at (slice_set variables k o) k ≡ o
object_set variables k o h = at_of (slice_get (slice_set variables k o) k) (Some o) (slice_get_set variables k o h)

object_other : (variables : List (Option ℕ)) (k j : ℕ) (o : Option ℕ) → k ≢ j → object_at (slice_set variables k o) j ≡ object_at variables j
object_other variables k j o h = at_of (slice_get (slice_set variables k o) j) (slice_get variables j) (slice_get_set_other variables k j o h)

object_past : (variables : List (Option ℕ)) (k : ℕ) → length variables ≤ k → object_at variables k ≡ None
object_past variables k h = at_of (slice_get variables k) None (slice_get_past variables k h)

-- the object of a variable that was set is the one that it was set to
set_cases : (variables : List (Option ℕ)) (k j : ℕ) (o : Option ℕ) (obj : ℕ) → object_at (slice_set variables k o) j ≡ Some obj →
    ((k ≡ j) × (o ≡ Some obj)) ⊎ ((k ≢ j) × (object_at variables j ≡ Some obj))
set_cases variables k j o obj h = by_test (nat_eq k j) refl
  where
    by_room : (t : Bool) → nat_lt k (length variables) ≡ t → k ≡ j → o ≡ Some obj
    by_room true e same =
        sym (object_set variables k o (ltb-true k (length variables) e)) ∙ ap (λ (n : ℕ). object_at (slice_set variables k o) n) same ∙ h
    by_room false e same = absurd (none_some obj (sym (object_past (slice_set variables k o) j (past (ltb-false k (length variables) e) same)) ∙ h))
      where
        past : length variables ≤ k → k ≡ j → length (slice_set variables k o) ≤ j
        past l e = omega (arith, l, e, length-set variables k o)

    by_test : (t : Bool) → nat_eq k j ≡ t → ((k ≡ j) × (o ≡ Some obj)) ⊎ ((k ≢ j) × (object_at variables j ≡ Some obj))
    by_test true e = inl (eqb-true k j e, by_room (nat_lt k (length variables)) refl (eqb-true k j e))
    by_test false e = inr (eqb-false k j e, sym (object_other variables k j o (eqb-false k j e)) ∙ h)

-- ---- objects that end

killed_is : (store : Store) (obj : ℕ) (o : Option Object) → slice_get store obj ≡ o →
    killed store obj ≡ elim o [ None ↦ store | Some object ↦ slice_set store obj (record object { live = false }) ]
killed_is store obj o e = ap (λ (p : Option Object). let t : Store = elim p [ None ↦ store | Some object ↦ slice_set store obj (record object { live = false }) ] in t) e

killed_length : (store : Store) (obj : ℕ) → length (killed store obj) ≡ length store
killed_length store obj = by_object (slice_get store obj) refl
  where
    by_object : (o : Option Object) → slice_get store obj ≡ o → length (killed store obj) ≡ length store
    by_object None e = ap (λ (t : Store). length t) (killed_is store obj None e)
    by_object (Some object) e =
        ap (λ (t : Store). length t) (killed_is store obj (Some object) e) ∙ length-set store obj (record object { live = false })

killed_other : (store : Store) (obj other : ℕ) → obj ≢ other → slice_get (killed store obj) other ≡ slice_get store other
killed_other store obj other apart = by_object (slice_get store obj) refl
  where
    by_object : (o : Option Object) → slice_get store obj ≡ o → slice_get (killed store obj) other ≡ slice_get store other
    by_object None e = ap (λ (t : Store). slice_get t other) (killed_is store obj None e)
    by_object (Some object) e =
        ap (λ (t : Store). slice_get t other) (killed_is store obj (Some object) e) ∙ slice_get_set_other store obj other (record object { live = false }) apart

ended_length : (o : Option ℕ) (store : Store) → length (object_ended o store) ≡ length store
ended_length None store = refl
ended_length (Some obj) store = killed_length store obj

ended_other : (o : Option ℕ) (store : Store) (other : ℕ) → ((obj : ℕ) → o ≡ Some obj → obj ≢ other) → slice_get (object_ended o store) other ≡ slice_get store other
ended_other None store other apart = refl
ended_other (Some obj) store other apart = killed_other store obj other (apart obj refl)

-- ---- states

pub state_fewer : (c : Context) (outer : Store) (live more : List ℕ) (store : Store) (variables : List (Option ℕ)) →
    ((j : ℕ) → is_among live j ≡ true → is_among more j ≡ true) → IsState c outer more store variables → IsState c outer live store variables
state_fewer c outer live more store variables among s = record {
  room = s.room;
  own = s.own;
  apart = s.apart;
  declared = λ k ty m e. s.declared k ty (among k m) e;
  grown = s.grown;
  outside = s.outside;
}

abbrev object_with : TypeTree → ValueTree → Bool → Object
object_with ty v writable = record { ty = ty; value = v; stage = at_run_time; writable = writable; live = true }

one_longer : (store : Store) (o : Object) → length (store ++ o ∷ []) ≡ length store + 1
one_longer store o = length-append store (o ∷ [])

-- a variable is a new object
pub state_declared : (c : Context) (outer : Store) (live : List ℕ) (k : ℕ) (ty : TypeTree) (v : ValueTree) (writable : Bool) (store : Store) (variables : List (Option ℕ)) →
    slice_get c.variables k ≡ Some ty → IsValueOf ty v → IsState c outer live store variables →
    IsState c outer (k ∷ live) (made store (object_with ty v writable)) (slice_set variables k (Some (length store)))
state_declared c outer live k ty v writable store variables there fits s = record {
  room = length-set variables k (Some (length store)) ∙ s.room;
  own = λ j obj h. own j obj (set_cases variables k j (Some (length store)) obj h);
  apart = λ i j obj g h. apart i j obj (set_cases variables k i (Some (length store)) obj g) (set_cases variables k j (Some (length store)) obj h);
  declared = λ j t m e. by_test j t e (nat_eq k j) refl m;
  grown = omega (arith, s.grown, one_longer store o);
  outside = λ obj object h. slice_get_append_left store (o ∷ []) obj object (s.outside obj object h);
}
  where
    o : Object
    o = object_with ty v writable

    within : k < length variables
    within = omega (arith, slice_get_within c.variables k ty there, s.room)

    own : (j obj : ℕ) → ((k ≡ j) × (Some (length store) ≡ Some obj)) ⊎ ((k ≢ j) × (object_at variables j ≡ Some obj)) → (length outer ≤ obj) × (obj < length (store ++ o ∷ []))
    own j obj (inl (e, is)) =
        let n : length store ≡ obj = same_number (length store) obj is in
        (omega (arith, n, s.grown), omega (arith, n, one_longer store o))
    own j obj (inr (e, old)) = let i = s.own j obj old in (i.0, omega (arith, i.1, one_longer store o))

    fresh : (j obj : ℕ) → Some (length store) ≡ Some obj → object_at variables j ≡ Some obj → ⊥
    fresh j obj is old = let i = s.own j obj old in absurd (omega (arith, i.1, same_number (length store) obj is))

    apart : (i j obj : ℕ) → ((k ≡ i) × (Some (length store) ≡ Some obj)) ⊎ ((k ≢ i) × (object_at variables i ≡ Some obj)) →
        ((k ≡ j) × (Some (length store) ≡ Some obj)) ⊎ ((k ≢ j) × (object_at variables j ≡ Some obj)) → i ≡ j
    apart i j obj (inl (e, is)) (inl (f, again)) = sym e ∙ f
    apart i j obj (inl (e, is)) (inr (f, old)) = absurd (fresh j obj is old)
    apart i j obj (inr (e, old)) (inl (f, is)) = absurd (fresh i obj is old)
    apart i j obj (inr (e, old)) (inr (f, other)) = s.apart i j obj old other

    by_test : (j : ℕ) (t : TypeTree) → slice_get c.variables j ≡ Some t → (same : Bool) → nat_eq k j ≡ same → (if same then true else is_among live j) ≡ true →
        IsDeclared (store ++ o ∷ []) (slice_set variables k (Some (length store))) t j
    by_test j t e true is m =
        let same : k ≡ j = eqb-true k j is in
        record {
          obj = length store;
          object = o;
          named = subst (λ (n : ℕ). object_at (slice_set variables k (Some (length store))) n ≡ Some (length store)) same (object_set variables k (Some (length store)) within);
          there = slice_get_push store o;
          live = refl;
          fits = subst (λ (u : TypeTree). IsValueOf u v) (same_tree ty t (sym there ∙ ap (λ (n : ℕ). slice_get c.variables n) same ∙ e)) fits;
        }
    by_test j t e false is m =
        let d : IsDeclared store variables t j = s.declared j t m e in
        record {
          obj = d.obj;
          object = d.object;
          named = object_other variables k j (Some (length store)) (eqb-false k j is) ∙ d.named;
          there = slice_get_append_left store (o ∷ []) d.obj d.object d.there;
          live = d.live;
          fits = d.fits;
        }

differ : (live : List ℕ) (k j : ℕ) → is_among live k ≡ false → is_among live j ≡ true → k ≢ j
differ live k j new old same = true_false (sym old ∙ ap (λ (n : ℕ). is_among live n) (sym same) ∙ new)
  where
    true_false : true ≡ false → ⊥
    true_false e = cc

-- the object of a variable that isn't among the declared ones ends
state_ended_one : (c : Context) (outer : Store) (live : List ℕ) (k : ℕ) (store : Store) (variables : List (Option ℕ)) → is_among live k ≡ false →
    IsState c outer live store variables → IsState c outer live (object_ended (object_at variables k) store) (slice_set variables k None)
state_ended_one c outer live k store variables new s = record {
  room = length-set variables k None ∙ s.room;
  own = λ j obj h. let i = s.own j obj (old j obj (set_cases variables k j None obj h)) in (i.0, omega (arith, i.1, ended_length (object_at variables k) store));
  apart = λ i j obj g h. s.apart i j obj (old i obj (set_cases variables k i None obj g)) (old j obj (set_cases variables k j None obj h));
  declared = λ j ty m e. stays j ty (s.declared j ty m e) (differ live k j new m);
  grown = omega (arith, s.grown, ended_length (object_at variables k) store);
  outside = λ obj object h. ended_other (object_at variables k) store obj (λ x is same. inside obj object x h is same) ∙ s.outside obj object h;
}
  where
    old : (j obj : ℕ) → ((k ≡ j) × (None ≡ Some obj)) ⊎ ((k ≢ j) × (object_at variables j ≡ Some obj)) → object_at variables j ≡ Some obj
    old j obj (inl (e, is)) = absurd (none_some obj is)
    old j obj (inr (e, is)) = is

    inside : (obj : ℕ) (object : Object) (x : ℕ) → slice_get outer obj ≡ Some object → object_at variables k ≡ Some x → x ≡ obj → ⊥
    inside obj object x h is same = let i = s.own k x is in absurd (omega (arith, i.0, slice_get_within outer obj object h, same))

    stays : (j : ℕ) (ty : TypeTree) → IsDeclared store variables ty j → k ≢ j → IsDeclared (object_ended (object_at variables k) store) (slice_set variables k None) ty j
    stays j ty d ne = record {
      obj = d.obj;
      object = d.object;
      named = object_other variables k j None ne ∙ d.named;
      there = ended_other (object_at variables k) store d.obj (λ x is same. ne (s.apart k j d.obj (is ∙ ap (λ (n : ℕ). Some n) same) d.named)) ∙ d.there;
      live = d.live;
      fits = d.fits;
    }

-- none of these is among the declared ones
abbrev pub AllNew : List ℕ → List ℕ → Type 0
AllNew live [] = Unit {0}
AllNew live (k ∷ ks) = (is_among live k ≡ false) × AllNew live ks

pub state_ended : (c : Context) (outer : Store) (live ks : List ℕ) (run : Run) → AllNew live ks → IsState c outer live run.store run.variables →
    IsState c outer live (ended ks run).store (ended ks run).variables
state_ended c outer live [] run new s = s
state_ended c outer live (k ∷ ks) run (first, new) s =
    state_ended c outer live ks (record run { store = object_ended (object_of run k) run.store; variables = slice_set run.variables k None }) new
    (state_ended_one c outer live k run.store run.variables first s)

-- a value is written to a declared variable
pub state_written : (c : Context) (outer : Store) (live : List ℕ) (k : ℕ) (ty : TypeTree) (v : ValueTree) (store : Store) (variables : List (Option ℕ)) →
    slice_get c.variables k ≡ Some ty → IsValueOf ty v → (d : IsDeclared store variables ty k) → IsState c outer live store variables →
    IsState c outer live (slice_set store d.obj (record d.object { value = v })) variables
state_written c outer live k ty v store variables there fits d s = record {
  room = s.room;
  own = λ j obj h. let i = s.own j obj h in (i.0, omega (arith, i.1, length-set store d.obj o));
  apart = s.apart;
  declared = λ j t m e. by_test j t e m (nat_eq k j) refl;
  grown = omega (arith, s.grown, length-set store d.obj o);
  outside = λ obj object h. slice_get_set_other store d.obj obj o (λ same. inside obj object h same) ∙ s.outside obj object h;
}
  where
    o : Object
    o = record d.object { value = v }

    inside : (obj : ℕ) (object : Object) → slice_get outer obj ≡ Some object → d.obj ≡ obj → ⊥
    inside obj object h same = let i = s.own k d.obj d.named in absurd (omega (arith, i.0, slice_get_within outer obj object h, same))

    by_test : (j : ℕ) (t : TypeTree) → slice_get c.variables j ≡ Some t → is_among live j ≡ true → (same : Bool) → nat_eq k j ≡ same →
        IsDeclared (slice_set store d.obj o) variables t j
    by_test j t e m true is =
        let same : k ≡ j = eqb-true k j is in
        record {
          obj = d.obj;
          object = o;
          named = subst (λ (n : ℕ). object_at variables n ≡ Some d.obj) same d.named;
          there = slice_get_set store d.obj o (slice_get_within store d.obj d.object d.there);
          live = d.live;
          fits = subst (λ (u : TypeTree). IsValueOf u v) (same_tree ty t (sym there ∙ ap (λ (n : ℕ). slice_get c.variables n) same ∙ e)) fits;
        }
    by_test j t e m false is =
        let b : IsDeclared store variables t j = s.declared j t m e in
        record {
          obj = b.obj;
          object = b.object;
          named = b.named;
          there = slice_get_set_other store d.obj b.obj o (λ same. eqb-false k j is (s.apart k j b.obj (d.named ∙ ap (λ (n : ℕ). Some n) same) b.named)) ∙ b.there;
          live = b.live;
          fits = b.fits;
        }

-- behind a call
pub state_called : (c : Context) (outer : Store) (live : List ℕ) (a b : Run) → IsBehindCall a b → IsState c outer live a.store a.variables → IsState c outer live b.store b.variables
state_called c outer live a b h s = subst (λ (vs : List (Option ℕ)). IsState c outer live b.store vs) (sym h.variables) (record {
  room = s.room;
  own = λ k obj e. let i = s.own k obj e in (i.0, omega (arith, i.1, h.grown));
  apart = s.apart;
  declared = λ k ty m e. still k ty (s.declared k ty m e);
  grown = omega (arith, s.grown, h.grown);
  outside = λ obj object e. h.outside obj object (s.outside obj object e);
})
  where
    still : (k : ℕ) (ty : TypeTree) → IsDeclared a.store a.variables ty k → IsDeclared b.store a.variables ty k
    still k ty d = record { obj = d.obj; object = d.object; named = d.named; there = h.outside d.obj d.object d.there; live = d.live; fits = d.fits }

none_named : (n k : ℕ) → object_at (replicate n None) k ≡ None
none_named zero k = refl
none_named (suc n) zero = refl
none_named (suc n) (suc k) = none_named n k

not_declared : (k : ℕ) → is_among [] k ≡ true → ⊥
not_declared k e = cc

-- where a call begins nothing is declared
pub state_begun : (c : Context) (store : Store) (n : ℕ) → n ≡ length c.variables → IsState c store [] store (replicate n None)
state_begun c store n e = record {
  room = length-replicate n None ∙ e;
  own = λ k obj h. absurd (none_some obj (sym (none_named n k) ∙ h));
  apart = λ j k obj g h. absurd (none_some obj (sym (none_named n j) ∙ g));
  declared = λ k ty m there. absurd (not_declared k m);
  grown = omega arith;
  outside = λ obj object h. h;
}

-- ---- places

undefined_is_none : (ty : TypeTree) → IsValueOf ty tree.UndefinedValue → ⊥
undefined_is_none (tree.IntType signed bits size) i = i
undefined_is_none tree.ComptimeIntType i = i
undefined_is_none tree.BoolType i = i
undefined_is_none tree.VoidType i = i
undefined_is_none tree.TypeType i = i
undefined_is_none (tree.FuncType params result comptime outside) i = i
undefined_is_none _ i = i

holds : (ty : TypeTree) (v : ValueTree) → IsValueOf ty v → place_in v [] ≡ Holds v
holds ty tree.UndefinedValue i = absurd (undefined_is_none ty i)
holds ty _ i = refl

-- the place of a declared variable holds its value
pub place_holds : (store : Store) (variables : List (Option ℕ)) (ty : TypeTree) (k : ℕ) (d : IsDeclared store variables ty k) → place_of store d.obj [] ≡ Holds d.object.value
place_holds store variables ty k d =
    ap (λ (o : Option Object). let p : Place = elim o [ None ↦ IsDead | Some object ↦ if object.live then place_in object.value [] else IsDead ] in p) d.there
    ∙ ap (λ (b : Bool). if b then place_in d.object.value [] else IsDead) d.live
    ∙ holds ty d.object.value d.fits

pub saved_is : (store : Store) (variables : List (Option ℕ)) (ty : TypeTree) (k : ℕ) (d : IsDeclared store variables ty k) (v : ValueTree) →
    saved store d.obj [] v ≡ Some (slice_set store d.obj (record d.object { value = v }))
saved_is store variables ty k d v = ap (option_and_then (λ (o : Object). Some (slice_set store d.obj (record o { value = v })))) d.there
