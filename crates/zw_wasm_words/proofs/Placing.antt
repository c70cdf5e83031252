-- Placing: segments one after another, up to the first that doesn't lie inside.
use Rattle.std.proofs.Common.{◌≡◌, ℕ, suc, ◌+◌, ◌<◌, ◌≤◌, Bool, true, false, List, ◌∷◌, ◌++◌, take, drop, map, length, get_or, Option, Some, None, refl, sym, ap, ap₂, subst, ◌∙◌, arith}
use Rattle.std.specs.Option.{option_map}
use Rattle.std.proofs.lemmas.Bool.{le-leb, lt-leb}
use Rattle.std.proofs.lemmas.List.{drop_more, drop_all, length-append, length-drop, length-map, length-take}
use Rattle.zw_wasm.specs.declared.module.DataSegment.{DataSegment}
use Rattle.zw_wasm.specs.declared.module.Element.{Element}
use Rattle.zw_wasm.specs.declared.num.Num.{Num}
use Rattle.zw_wasm.specs.ModuleMachine.{constant_of, with_elements, with_segments}
use Rattle.zw_wasm.specs.Reduction.{overwritten}
use Rattle.zw_wasm_words.specs.Memory.{Stores, Places}
use Rattle.zw_wasm_words.specs.Segments.{data_fits, element_fits, first_false}

-- the first that isn't true stands behind the first i, which are true
abbrev pub FirstBehind : {A : Type 0} → (A → Bool) → List A → ℕ → Type 0
FirstBehind f xs i = first_false (map f xs) ≡ option_map (λ n. i + n) (first_false (map f (drop i xs)))

none_before : (o : Option ℕ) → o ≡ option_map (λ n. 0 + n) o
none_before None = refl
none_before (Some n) = ap (λ k. Some k) (omega arith)

pub first_behind_none : {A : Type 0} (f : A → Bool) (xs : List A) → FirstBehind f xs 0
first_behind_none f xs = none_before (first_false (map f xs))

one_more : (i : ℕ) (o : Option ℕ) → option_map (λ n. i + n) (option_map (λ n. suc n) o) ≡ option_map (λ n. i + 1 + n) o
one_more i None = refl
one_more i (Some n) = ap (λ k. Some k) (omega arith)

from_here : {A : Type 0} (f : A → Bool) (x : A) (xs : List A) (b : Bool) → f x ≡ b → first_false (map f (x ∷ xs)) ≡ first_false (b ∷ map f xs)
from_here f x xs b e = ap (λ c. first_false (c ∷ map f xs)) e

pub first_behind_more : {A : Type 0} (f : A → Bool) (xs : List A) (i : ℕ) (d : A) → i < length xs → f (get_or xs i d) ≡ true → FirstBehind f xs i → FirstBehind f xs (i + 1)
first_behind_more f xs i d inside holds first =
    first
    ∙ ap (λ l. option_map (λ n. i + n) (first_false (map f l))) (drop_more xs i d inside)
    ∙ ap (option_map (λ n. i + n)) (from_here f (get_or xs i d) (drop (i + 1) xs) true holds)
    ∙ one_more i (first_false (map f (drop (i + 1) xs)))

pub first_behind_here : {A : Type 0} (f : A → Bool) (xs : List A) (i : ℕ) (d : A) → i < length xs → f (get_or xs i d) ≡ false → FirstBehind f xs i → Some i ≡ first_false (map f xs)
first_behind_here f xs i d inside fails first =
    let zero_more : Some (i + 0) ≡ Some i = ap (λ k. Some k) (omega arith) in
    sym (first
    ∙ ap (λ l. option_map (λ n. i + n) (first_false (map f l))) (drop_more xs i d inside)
    ∙ ap (option_map (λ n. i + n)) (from_here f (get_or xs i d) (drop (i + 1) xs) false fails)
    ∙ zero_more)

pub first_behind_all : {A : Type 0} (f : A → Bool) (xs : List A) (i : ℕ) → length xs ≤ i → FirstBehind f xs i → None ≡ first_false (map f xs)
first_behind_all f xs i all first =
    sym (first ∙ ap (λ l. option_map (λ n. i + n) (first_false (map f l))) (drop_all i xs all))

-- the segments from number i on are still to be written
pub record DatasPlaced (globals : List Num) (ds : List DataSegment) (old now : List ℕ) (i : ℕ) : Type 0 where
  pub rest : with_segments globals ds old ≡ with_segments globals (drop i ds) now
  pub size : length now ≡ length old
  pub first : FirstBehind (data_fits globals (length old)) ds i

pub datas_begin : (globals : List Num) (ds : List DataSegment) (old : List ℕ) → DatasPlaced globals ds old old 0
datas_begin globals ds old = record { rest = refl; size = refl; first = first_behind_none (data_fits globals (length old)) ds }

length-overwritten : {A : Type 0} (xs ys : List A) (at : ℕ) → at + length ys ≤ length xs → length (overwritten xs at ys) ≡ length xs
length-overwritten xs ys at inside =
    let front = length-append (take at xs) ys in
    let whole = length-append (take at xs ++ ys) (drop (at + length ys) xs) in
    let taken = length-take at xs in
    let dropped = length-drop (at + length ys) xs in
    whole ∙ ap₂ (λ m n. m + n) front refl ∙ omega (arith, taken, dropped)

pub datas_more : (globals : List Num) (ds : List DataSegment) (old now new : List ℕ) (i : ℕ) (d : DataSegment) → i < length ds → DatasPlaced globals ds old now i → Stores now (constant_of globals (get_or ds i d).at) (get_or ds i d).bytes true new → DatasPlaced globals ds old new (i + 1)
datas_more globals ds old now new i d inside placed stores =
    let x = get_or ds i d in
    let at = constant_of globals x.at in
    record {
      rest = placed.rest ∙ ap (λ l. with_segments globals l now) (drop_more ds i d inside) ∙ ap (with_segments globals (drop (i + 1) ds)) (sym stores.1);
      size = ap length stores.1 ∙ length-overwritten now x.bytes at stores.0 ∙ placed.size;
      first =
          first_behind_more (data_fits globals (length old)) ds i d inside
          (le-leb (at + length x.bytes) (length old) (subst (λ n. at + length x.bytes ≤ n) placed.size stores.0)) placed.first;
    }

pub datas_stop : (globals : List Num) (ds : List DataSegment) (old now new : List ℕ) (i : ℕ) (d : DataSegment) → i < length ds → DatasPlaced globals ds old now i → Stores now (constant_of globals (get_or ds i d).at) (get_or ds i d).bytes false new → Some i ≡ first_false (map (data_fits globals (length old)) ds)
datas_stop globals ds old now new i d inside placed stores =
    let x = get_or ds i d in
    let at = constant_of globals x.at in
    first_behind_here (data_fits globals (length old)) ds i d inside
    (lt-leb (at + length x.bytes) (length old) (subst (λ n. n < at + length x.bytes) placed.size stores.0)) placed.first

pub datas_end : (globals : List Num) (ds : List DataSegment) (old now : List ℕ) (i : ℕ) → length ds ≤ i → DatasPlaced globals ds old now i → now ≡ with_segments globals ds old
datas_end globals ds old now i all placed = sym (placed.rest ∙ ap (λ l. with_segments globals l now) (drop_all i ds all))

-- the segments of the table, in the same way
pub record ElementsPlaced (globals : List Num) (es : List Element) (old now : List (Option ℕ)) (i : ℕ) : Type 0 where
  pub rest : with_elements globals es old ≡ with_elements globals (drop i es) now
  pub size : length now ≡ length old
  pub first : FirstBehind (element_fits globals (length old)) es i

pub elements_begin : (globals : List Num) (es : List Element) (old : List (Option ℕ)) → ElementsPlaced globals es old old 0
elements_begin globals es old = record { rest = refl; size = refl; first = first_behind_none (element_fits globals (length old)) es }

pub elements_more : (globals : List Num) (es : List Element) (old now new : List (Option ℕ)) (i : ℕ) (d : Element) → i < length es → ElementsPlaced globals es old now i → Places now (constant_of globals (get_or es i d).at) (get_or es i d).funcs true new → ElementsPlaced globals es old new (i + 1)
elements_more globals es old now new i d inside placed places =
    let x = get_or es i d in
    let at = constant_of globals x.at in
    let mark : ℕ → Option ℕ = λ f. Some f in
    let entries = map mark x.funcs in
    let count : length entries ≡ length x.funcs = length-map x.funcs mark in
    record {
      rest = placed.rest ∙ ap (λ l. with_elements globals l now) (drop_more es i d inside) ∙ ap (with_elements globals (drop (i + 1) es)) (sym places.1);
      size = ap length places.1 ∙ length-overwritten now entries at (subst (λ n. at + n ≤ length now) (sym count) places.0) ∙ placed.size;
      first =
          first_behind_more (element_fits globals (length old)) es i d inside
          (le-leb (at + length x.funcs) (length old) (subst (λ n. at + length x.funcs ≤ n) placed.size places.0)) placed.first;
    }

pub elements_stop : (globals : List Num) (es : List Element) (old now new : List (Option ℕ)) (i : ℕ) (d : Element) → i < length es → ElementsPlaced globals es old now i → Places now (constant_of globals (get_or es i d).at) (get_or es i d).funcs false new → Some i ≡ first_false (map (element_fits globals (length old)) es)
elements_stop globals es old now new i d inside placed places =
    let x = get_or es i d in
    let at = constant_of globals x.at in
    first_behind_here (element_fits globals (length old)) es i d inside
    (lt-leb (at + length x.funcs) (length old) (subst (λ n. n < at + length x.funcs) placed.size places.0)) placed.first

pub elements_end : (globals : List Num) (es : List Element) (old now : List (Option ℕ)) (i : ℕ) → length es ≤ i → ElementsPlaced globals es old now i → now ≡ with_elements globals es old
elements_end globals es old now i all placed = sym (placed.rest ∙ ap (λ l. with_elements globals l now) (drop_all i es all))
