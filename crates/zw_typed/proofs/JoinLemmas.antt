-- What becomes of a type is a value of it; the values of ranges have their turns; and what the host sees and says fits.
use Rattle.std.proofs.Common.{◌≡◌, refl, ℕ, suc, ℤ, pos, negsuc, Bool, true, false, List, [], ◌∷◌, Option, Some, None, inl, inr, ◌⊎◌, ap, sym, ◌∙◌, subst, arith}
use Rattle.std.specs.Prelude.{Result, Ok, Err, if◌then◌else◌, ◌||◌, All, length, nat_eq, ◌-◌}
use Rattle.std.proofs.lemmas.Bool.{and_parts}
use Rattle.std.proofs.lemmas.Int.{ints}
use Rattle.std.proofs.lemmas.List.Elements.{All-head, All-tail}
use Rattle.zw_num.specs.declared.int_ty.IntTy.{IntTy}
use Rattle.zw_num.specs.declared.int_ty.IntTy.TheVariants.{Sized, Comptime}
use Rattle.zw_num.specs.Arithmetic.{IsIn, is_in}
use Rattle.zw_num.proofs.WrappedLemmas.{in_from_test, wrapped_in}
use Rattle.zw_session.specs.Sessions.{Scalar, Number, Truth}
use Rattle.zw_types.specs.TypeTrees as tree
use Rattle.zw_types.specs.TypeTrees.{TypeTree, ValueTree}
use Rattle.zw_values.specs.Sameness.{is_same}
use Rattle.zw_values.specs.Coercions.{has_all, has_no_value, is_no_return, Applies, Refuses, IsForOthers, known_row, integers_row, integer_row, coercion}
use Rattle.zw_values.proofs.SameLemmas.{is_same-true}
use Rattle.zw_typed.specs.HostTypes.{is_shown_type, is_result_type, all_types}
use Rattle.zw_typed.specs.ValueTypes.{IsNumberIn, IsValueOf, AreValuesOf}
use Rattle.zw_typed.specs.NodeMeanings.{nothing, scalar_of, scalars_and, scalars_of, value_from}
use Rattle.zw_typed.specs.FlowNodes.{Range}
use Rattle.zw_typed.specs.FlowRanges.{Bounds, bounds_of, bounds_from, bounds_and, Turns, Due, Fails, NoEnd, turns_due, runs_down, lengths, one_length, all_are}
use Rattle.zw_typed.specs.FlowMeanings.{usize}
use Rattle.zw_typed.specs.FlowTypes.{bounds_taken, some_has_end, captures_of, never_ends, EndsAs}

-- ---- coercions

-- a value is the one that is known, where one is
abbrev pub IsAsKnown : Option ValueTree → ValueTree → Type 0
IsAsKnown None v = Unit {0}
IsAsKnown (Some w) v = v ≡ w

abbrev SecondRow : IntTy → Option ValueTree → IntTy → Result ℕ ℕ
SecondRow x known y = elim (integers_row (Some x) known (Some y)) [ Applies ↦ Ok 2 | Refuses error ↦ Err error | IsForOthers ↦ Err 14 ]

-- a type that has all values of another has each
has-each : (x y : IntTy) (z : ℤ) → has_all y x ≡ true → IsIn x z → IsIn y z
has-each x y z e i = record { at_least = grind (arith, ints, i.at_least); at_most = grind (arith, ints, i.at_most) }

known-fits : (y : IntTy) (known : Option ValueTree) (v : ValueTree) → IsAsKnown known v → (row : ℕ) →
    ◌≡◌ {A = Result ℕ ℕ} (elim (known_row known y) [ Applies ↦ Ok 2 | Refuses error ↦ Err error | IsForOthers ↦ Err 14 ]) (Ok row) → IsNumberIn y v
known-fits y (Some (tree.NumberValue z)) v is row e = subst (λ (u : ValueTree). IsNumberIn y u) (sym is) (by_test (is_in y z) refl e)
  where
    by_test : (there : Bool) → is_in y z ≡ there →
        ◌≡◌ {A = Result ℕ ℕ} (elim (if there then Applies else Refuses 15) [ Applies ↦ Ok 2 | Refuses error ↦ Err error | IsForOthers ↦ Err 14 ]) (Ok row) → IsIn y z
    by_test true is same = in_from_test y z is
    by_test false is same = cc
known-fits y (Some _) v is row e = cc
known-fits y None v is row e = cc

integers-fit : (x y : IntTy) (known : Option ValueTree) (v : ValueTree) → IsAsKnown known v → IsNumberIn x v → (row : ℕ) → SecondRow x known y ≡ Ok row → IsNumberIn y v
integers-fit x y known (tree.NumberValue z) is i row e = by_all (has_all y x) refl e
  where
    by_all : (all : Bool) → has_all y x ≡ all →
        ◌≡◌ {A = Result ℕ ℕ} (elim (if all then Applies else known_row known y) [ Applies ↦ Ok 2 | Refuses error ↦ Err error | IsForOthers ↦ Err 14 ]) (Ok row) → IsIn y z
    by_all true has same = has-each x y z has i
    by_all false has same = known-fits y known (tree.NumberValue z) is row same
integers-fit x y known _ is i row e = absurd i

abbrev LaterRows : TypeTree → Option ValueTree → TypeTree → Result ℕ ℕ
LaterRows from known to = elim (integer_row from known to) [ Applies ↦ Ok 2 | Refuses error ↦ Err error | IsForOthers ↦ Err 14 ]

later-fit : (from to : TypeTree) (known : Option ValueTree) (v : ValueTree) → IsAsKnown known v → IsValueOf from v → (row : ℕ) → LaterRows from known to ≡ Ok row → IsValueOf to v
later-fit (tree.IntType s m z) (tree.IntType s' m' z') known v is i row e = integers-fit (Sized s m) (Sized s' m') known v is i row e
later-fit (tree.IntType s m z) tree.ComptimeIntType known v is i row e = integers-fit (Sized s m) Comptime known v is i row e
later-fit tree.ComptimeIntType (tree.IntType s' m' z') known v is i row e = integers-fit Comptime (Sized s' m') known v is i row e
later-fit tree.ComptimeIntType tree.ComptimeIntType known v is i row e = integers-fit Comptime Comptime known v is i row e
later-fit (tree.IntType s m z) _ known v is i row e = cc
later-fit tree.ComptimeIntType _ known v is i row e = cc
later-fit _ to known v is i row e = cc

no_value-none : (from : TypeTree) (v : ValueTree) → has_no_value from ≡ true → IsValueOf from v → ⊥
no_value-none tree.UndefinedType v e i = i
no_value-none tree.NoReturnType v e i = i
no_value-none _ v e i = cc

pub coercion-fits : (from to : TypeTree) (known : Option ValueTree) (v : ValueTree) → IsAsKnown known v → IsValueOf from v → (row : ℕ) → coercion from known to ≡ Ok row → IsValueOf to v
coercion-fits from to known v same_as i row e = by_same (is_same from to) (has_no_value from) refl refl e
  where
    by_same : (same none : Bool) → is_same from to ≡ same → has_no_value from ≡ none →
        ◌≡◌ {A = Result ℕ ℕ} (elim (if same || none then Applies else IsForOthers) [ Applies ↦ Ok 1 | Refuses error ↦ Err error | IsForOthers ↦ LaterRows from known to ]) (Ok row) → IsValueOf to v
    by_same true none is hollow later = subst (λ (ty : TypeTree). IsValueOf ty v) (is_same-true from to is) i
    by_same false true is hollow later = absurd (no_value-none from v hollow i)
    by_same false false is hollow later = later-fit from to known v same_as i row later

-- nodes of these types in order never came to their end
pub never_given : (types : List TypeTree) (values : List ValueTree) → never_ends types ≡ true → AreValuesOf types values → ⊥
never_given [] values e k = cc
never_given (ty ∷ types) [] e k = k
never_given (ty ∷ types) (v ∷ values) e (i, k) = by_type (is_no_return ty) refl e (λ h. never_given types values h k)
  where
    none : (ty : TypeTree) → is_no_return ty ≡ true → IsValueOf ty v → ⊥
    none tree.NoReturnType h i = i
    none _ h i = cc

    by_type : (t : Bool) → is_no_return ty ≡ t → (if t then true else never_ends types) ≡ true → (never_ends types ≡ true → ⊥) → ⊥
    by_type true h e later = none ty h i
    by_type false h e later = later e

pub ends_as : (ty : TypeTree) (types : List TypeTree) (values : List ValueTree) → EndsAs ty types → AreValuesOf types values → IsValueOf ty nothing
ends_as tree.VoidType types values e k = tt
ends_as tree.NoReturnType types values e k = absurd (never_given types values e k)
ends_as _ types values e k = absurd e

-- ---- ranges

abbrev pub has_end_of : Bounds → Bool
has_end_of b = elim b.end [ None ↦ false | Some end ↦ true ]

abbrev pub some_bounded : List Bounds → Bool
some_bounded [] = false
some_bounded (b ∷ bounds) = if has_end_of b then true else some_bounded bounds

abbrev pub captures_in : List Bounds → List (Option ℕ)
captures_in [] = []
captures_in (b ∷ bounds) = b.capture ∷ captures_in bounds

-- the values of ranges are bounds, with the captures and ends of the ranges
pub record AreBounds (ranges : List Range) (values : List ValueTree) : Type 0 where
  pub bounds : List Bounds
  pub is : bounds_of ranges values ≡ Some bounds
  pub captures : captures_in bounds ≡ captures_of ranges
  pub ends : some_bounded bounds ≡ some_has_end ranges

abbrev AllNumbers : List ValueTree → Type 0
AllNumbers [] = Unit {0}
AllNumbers (tree.NumberValue (pos n) ∷ values) = AllNumbers values
AllNumbers _ = ⊥

usize_number : (v : ValueTree) → IsValueOf usize v → (values : List ValueTree) → AllNumbers values → AllNumbers (v ∷ values)
usize_number (tree.NumberValue (pos n)) i values k = k
usize_number (tree.NumberValue (negsuc n)) i values k = absurd (omega (arith, ints, i.at_least))
usize_number _ i values k = absurd i

all_numbers : (types : List TypeTree) → All (λ ty. ty ≡ usize) types → (values : List ValueTree) → AreValuesOf types values → AllNumbers values
all_numbers [] are [] k = tt
all_numbers [] are (v ∷ values) k = absurd k
all_numbers (ty ∷ types) are [] k = absurd k
all_numbers (ty ∷ types) are (v ∷ values) (i, k) =
    usize_number v (subst (λ (t : TypeTree). IsValueOf t v) (All-head (λ t. t ≡ usize) ty types are) i) values
    (all_numbers types (All-tail (λ t. t ≡ usize) ty types are) values k)

as_many : (types : List TypeTree) (values : List ValueTree) → AreValuesOf types values → length values ≡ length types
as_many [] [] k = refl
as_many [] (v ∷ values) k = absurd k
as_many (ty ∷ types) [] k = absurd k
as_many (ty ∷ types) (v ∷ values) (i, k) = ap suc (as_many types values k)

one_fewer : (m n : ℕ) → suc m ≡ suc n → m ≡ n
one_fewer m n e = omega (arith, e)

abbrev BoundsOf : List Range → Type 0
BoundsOf ranges = (values : List ValueTree) → AllNumbers values → length values ≡ bounds_taken ranges → AreBounds ranges values

bounds_there : (ranges : List Range) (values : List ValueTree) → AllNumbers values → length values ≡ bounds_taken ranges → AreBounds ranges values
bounds_there [] values k e = record { bounds = []; is = refl; captures = refl; ends = refl }
bounds_there (r ∷ ranges) values k e = by_end r.has_end refl values k e (λ vs j is. bounds_there ranges vs j is)
  where
    by_end : (has : Bool) → r.has_end ≡ has → (values : List ValueTree) → AllNumbers values →
        length values ≡ (if has then suc (suc (bounds_taken ranges)) else suc (bounds_taken ranges)) → BoundsOf ranges → AreBounds (r ∷ ranges) values
    by_end true h (tree.NumberValue (pos a) ∷ tree.NumberValue (pos b) ∷ values) k e later =
        let rest : AreBounds ranges values = later values k (one_fewer (length values) (bounds_taken ranges) (one_fewer (suc (length values)) (suc (bounds_taken ranges)) e)) in
        let first : Bounds = record { capture = r.capture; start = a; end = Some b } in
        record {
          bounds = first ∷ rest.bounds;
          is = ap (λ (t : Bool). bounds_from r.capture t (tree.NumberValue (pos a) ∷ tree.NumberValue (pos b) ∷ values) (bounds_of ranges)) h
              ∙ ap (λ (o : Option (List Bounds)). bounds_and first o) rest.is;
          captures = ap (λ (ks : List (Option ℕ)). r.capture ∷ ks) rest.captures;
          ends = sym (ap (λ (t : Bool). if t then true else some_has_end ranges) h);
        }
    by_end false h (tree.NumberValue (pos a) ∷ values) k e later =
        let rest : AreBounds ranges values = later values k (one_fewer (length values) (bounds_taken ranges) e) in
        let first : Bounds = record { capture = r.capture; start = a; end = None } in
        record {
          bounds = first ∷ rest.bounds;
          is = ap (λ (t : Bool). bounds_from r.capture t (tree.NumberValue (pos a) ∷ values) (bounds_of ranges)) h
              ∙ ap (λ (o : Option (List Bounds)). bounds_and first o) rest.is;
          captures = ap (λ (ks : List (Option ℕ)). r.capture ∷ ks) rest.captures;
          ends = rest.ends ∙ sym (ap (λ (t : Bool). if t then true else some_has_end ranges) h);
        }
    by_end has h [] k e later = absurd (none_taken has e)
      where
        none_taken : (has : Bool) → 0 ≡ (if has then suc (suc (bounds_taken ranges)) else suc (bounds_taken ranges)) → ⊥
        none_taken true e = omega (arith, e)
        none_taken false e = omega (arith, e)
    by_end true h (tree.NumberValue (pos a) ∷ []) k e later = absurd (omega (arith, e))
    by_end true h (tree.NumberValue (pos a) ∷ tree.NumberValue (negsuc b) ∷ values) k e later = absurd k
    by_end true h (tree.NumberValue (pos a) ∷ _ ∷ values) k e later = absurd k
    by_end has h (tree.NumberValue (negsuc a) ∷ values) k e later = absurd k
    by_end has h (_ ∷ values) k e later = absurd k

pub ranges_bound : (ranges : List Range) (types : List TypeTree) (values : List ValueTree) → length types ≡ bounds_taken ranges → All (λ ty. ty ≡ usize) types → AreValuesOf types values →
    AreBounds ranges values
ranges_bound ranges types values e are k = bounds_there ranges values (all_numbers types are values k) (as_many types values k ∙ e)

abbrev IsDue : Turns → Type 0
IsDue (Due n) = Unit {0}
IsDue (Fails cause) = Unit {0}
IsDue NoEnd = ⊥

all_due : (n : ℕ) (ms : List ℕ) → IsDue (all_are n ms)
all_due n [] = tt
all_due n (m ∷ ms) = by_test (nat_eq n m) (all_due n ms)
  where
    by_test : (t : Bool) → IsDue (all_are n ms) → IsDue (if t then all_are n ms else Fails 15)
    by_test true later = later
    by_test false later = tt

lengths_due : (bounds : List Bounds) → some_bounded bounds ≡ true → IsDue (one_length (lengths bounds))
lengths_due [] e = cc
lengths_due (b ∷ bounds) e = by_end b.end e (λ h. lengths_due bounds h)
  where
    by_end : (end : Option ℕ) → (if (elim end [ None ↦ false | Some x ↦ true ]) then true else some_bounded bounds) ≡ true → (some_bounded bounds ≡ true → IsDue (one_length (lengths bounds))) →
        IsDue (one_length (elim end [ None ↦ lengths bounds | Some x ↦ (x - b.start) ∷ lengths bounds ]))
    by_end None e later = later e
    by_end (Some x) e later = all_due (x - b.start) (lengths bounds)

pub turns_are_due : (bounds : List Bounds) → some_bounded bounds ≡ true → turns_due bounds ≡ NoEnd → ⊥
turns_are_due bounds e = by_down (runs_down bounds)
  where
    not_due : (t : Turns) → IsDue t → t ≡ NoEnd → ⊥
    not_due (Due n) i h = cc
    not_due (Fails cause) i h = cc
    not_due NoEnd i h = i

    by_down : (t : Bool) → (if t then Fails 1 else one_length (lengths bounds)) ≡ NoEnd → ⊥
    by_down true h = cc
    by_down false h = not_due (one_length (lengths bounds)) (lengths_due bounds e) h

-- ---- the host

scalar_there : (ty : TypeTree) (v : ValueTree) → is_shown_type ty ≡ true → IsValueOf ty v → (s : Scalar) × (scalar_of v ≡ Some s)
scalar_there (tree.IntType signed bits size) (tree.NumberValue z) h i = (Number z, refl)
scalar_there (tree.IntType signed bits size) _ h i = absurd i
scalar_there tree.BoolType (tree.TruthValue b) h i = (Truth b, refl)
scalar_there tree.BoolType _ h i = absurd i
scalar_there _ v h i = cc

-- what is shown to the host are scalars
pub scalars_there : (types : List TypeTree) (values : List ValueTree) → all_types is_shown_type types ≡ true → AreValuesOf types values → (ss : List Scalar) × (scalars_of values ≡ Some ss)
scalars_there [] [] h k = ([], refl)
scalars_there [] (v ∷ values) h k = absurd k
scalars_there (ty ∷ types) [] h k = absurd k
scalars_there (ty ∷ types) (v ∷ values) h (i, k) =
    let both = and_parts (is_shown_type ty) (all_types is_shown_type types) h in
    let first = scalar_there ty v both.0 i in
    let rest = scalars_there types values both.1 k in
    (first.0 ∷ rest.0, ap (λ (o : Option Scalar). scalars_and o (scalars_of values)) first.1 ∙ ap (λ (o : Option (List Scalar)). scalars_and (Some first.0) o) rest.1)

-- what the host says is a value of a result's type
pub reply_fits : (ty : TypeTree) (reply : ℕ) → is_result_type ty ≡ true → IsValueOf ty (value_from ty reply)
reply_fits (tree.IntType signed bits size) reply h = wrapped_in signed bits (pos reply)
reply_fits tree.BoolType reply h = tt
reply_fits tree.VoidType reply h = tt
reply_fits _ reply h = cc

-- a result of such a type is a scalar, or there is none
pub result_there : (ty : TypeTree) (v : ValueTree) → is_result_type ty ≡ true → IsValueOf ty v → (ty ≡ tree.VoidType) ⊎ ((s : Scalar) × (scalar_of v ≡ Some s))
result_there tree.VoidType v h i = inl refl
result_there (tree.IntType signed bits size) (tree.NumberValue z) h i = inr (Number z, refl)
result_there (tree.IntType signed bits size) _ h i = absurd i
result_there tree.BoolType (tree.TruthValue b) h i = inr (Truth b, refl)
result_there tree.BoolType _ h i = absurd i
result_there _ v h i = cc
