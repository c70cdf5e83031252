-- The first entry of a section that is refused.
use Rattle.std.proofs.Common.{◌≡◌, ℕ, suc, ◌+◌, ◌<◌, ◌≤◌, Bool, true, false, not, ◌||◌, cond, ltb, nat_eq, List, [], ◌∷◌, map, length, drop, take, get_or, position, ◌++◌, ◌&&◌, Some, None, IfSome, refl, sym, ap, ◌∙◌, add-one, arith}
use Rattle.std.proofs.lemmas.Bool.Decides.{nat_tests}
use Rattle.std.proofs.lemmas.List.{drop_more, drop_all, map_push, take_more}
use Rattle.std.specs.Cmp.Lexicographic.{nat_list_eq_equiv}
use Rattle.std.specs.List.{list_any, position_or_len}
use Rattle.std.specs.Str.{bytes_eq}
use Rattle.zw_wasm.specs.declared.module.ExportDef.{ExportDef}
use Rattle.zw_wasm.specs.declared.module.Module.{Module}
use Rattle.zw_wasm.specs.Validity.{export_is_there, export_ok, first_refused}

-- an entry in its place
here : {A : Type 0} (xs : List A) (i : ℕ) (x : A) → i < length xs → x ≡ get_or xs i x → drop i xs ≡ x ∷ drop (i + 1) xs
here xs i x inside is = drop_more xs i x inside ∙ ap (λ y. y ∷ drop (i + 1) xs) (sym is)

pub refused_here : {A : Type 0} (ok : ℕ → A → Bool) (xs : List A) (i : ℕ) (x : A) → i < length xs → x ≡ get_or xs i x → ok i x ≡ false → first_refused ok i (drop i xs) ≡ Some i
refused_here ok xs i x inside is fails =
    ap (first_refused ok i) (here xs i x inside is) ∙ ap (λ (b : Bool). cond b (first_refused ok (suc i) (drop (i + 1) xs)) (Some i)) fails

pub refused_later : {A : Type 0} (ok : ℕ → A → Bool) (xs : List A) (i : ℕ) (x : A) → i < length xs → x ≡ get_or xs i x → ok i x ≡ true → first_refused ok i (drop i xs) ≡ first_refused ok (i + 1) (drop (i + 1) xs)
refused_later ok xs i x inside is passes =
    ap (first_refused ok i) (here xs i x inside is)
    ∙ ap (λ (b : Bool). cond b (first_refused ok (suc i) (drop (i + 1) xs)) (Some i)) passes
    ∙ ap (λ (k : ℕ). first_refused ok k (drop (i + 1) xs)) (sym (add-one i))

pub refused_none : {A : Type 0} (ok : ℕ → A → Bool) (xs : List A) (i : ℕ) → length xs ≤ i → first_refused ok i (drop i xs) ≡ None
refused_none ok xs i past = ap (first_refused ok i) (drop_all i xs past)

-- the first that is refused is one of them
pub refused_below : {A : Type 0} (ok : ℕ → A → Bool) (k : ℕ) (xs : List A) (limit : ℕ) → k + length xs ≤ limit → IfSome (first_refused ok k xs) (λ e. e < limit)
refused_below ok k [] limit fits = tt
refused_below ok k (x ∷ xs) limit fits =
    elim (ok k x) as (λ b. IfSome (cond b (first_refused ok (suc k) xs) (Some k)) (λ e. e < limit)) [
      | true ↦ refused_below ok (suc k) xs limit (omega arith)
      | false ↦ omega arith
    ]

-- where the place of an entry doesn't matter, the first that is refused is the first that doesn't pass
refused_len : {A : Type 0} (ok : A → Bool) (k : ℕ) (xs : List A) → first_refused (λ i. ok) k xs ≡ cond (ltb (position_or_len (λ x. not (ok x)) xs) (length xs)) (Some (k + position_or_len (λ x. not (ok x)) xs)) None
refused_len ok k [] = refl
refused_len ok k (x ∷ xs) = by (ok x) (refused_len ok (suc k) xs)
  where
    by : (b : Bool) → first_refused (λ i. ok) (suc k) xs ≡ cond (ltb (position_or_len (λ x. not (ok x)) xs) (length xs)) (Some (suc k + position_or_len (λ x. not (ok x)) xs)) None
        → cond b (first_refused (λ i. ok) (suc k) xs) (Some k) ≡ cond (ltb (cond (not (not b)) (1 + position_or_len (λ x. not (ok x)) xs) 0) (suc (length xs))) (Some (k + cond (not (not b)) (1 + position_or_len (λ x. not (ok x)) xs) 0)) None
    by true later = later ∙ counted (position_or_len (λ x. not (ok x)) xs) (length xs)
      where
        counted : (n len : ℕ) → cond (ltb n len) (Some (suc k + n)) None ≡ cond (ltb (1 + n) (suc len)) (Some (k + (1 + n))) None
        counted n len = grind (arith, nat_tests)
    by false later = grind (arith, nat_tests)

pub refused_position : {A : Type 0} (ok : A → Bool) (xs : List A) → first_refused (λ i. ok) 0 xs ≡ position (λ x. not (ok x)) xs
refused_position ok xs =
    let n = position_or_len (λ x. not (ok x)) xs in
    let same : 0 + n ≡ n = omega arith in
    refused_len ok 0 xs ∙ ap (λ (m : ℕ). cond (ltb n (length xs)) (Some m) None) same

-- ---- names of exports

-- whether an earlier export has the name
pub any_earlier : (name : List ℕ) (es : List ExportDef) → list_any (λ (e : ExportDef). bytes_eq e.name name) es ≡ list_any (bytes_eq name) (map (λ (e : ExportDef). e.name) es)
any_earlier name [] = refl
any_earlier name (e ∷ es) =
    ap (λ (b : Bool). b || list_any (λ (o : ExportDef). bytes_eq o.name name) es) (nat_list_eq_equiv.symm e.name name)
    ∙ ap (λ (b : Bool). bytes_eq name e.name || b) (any_earlier name es)

pub export_absent : (m : Module) (i : ℕ) (e : ExportDef) → false ≡ export_is_there m e → export_ok m i e ≡ false
export_absent m i e absent = ap (λ (b : Bool). b && not (list_any (λ (o : ExportDef). bytes_eq o.name e.name) (take i m.exports))) (sym absent)

-- where it is there, its name decides, among the names of those before it
pub export_named : (m : Module) (i : ℕ) (e : ExportDef) (names : List (List ℕ)) (b : Bool) → true ≡ export_is_there m e → names ≡ map (λ (o : ExportDef). o.name) (take i m.exports) → list_any (bytes_eq e.name) names ≡ b → export_ok m i e ≡ not b
export_named m i e names b there before found =
    ap (λ (c : Bool). c && not (list_any (λ (o : ExportDef). bytes_eq o.name e.name) (take i m.exports))) (sym there)
    ∙ ap not (any_earlier e.name (take i m.exports) ∙ ap (list_any (bytes_eq e.name)) (sym before) ∙ found)

-- one name more
pub names_more : (es : List ExportDef) (i : ℕ) (e : ExportDef) (names names' : List (List ℕ)) → i < length es → e ≡ get_or es i e → names ≡ map (λ (o : ExportDef). o.name) (take i es) → names' ≡ names ++ e.name ∷ [] → names' ≡ map (λ (o : ExportDef). o.name) (take (i + 1) es)
names_more es i e names names' inside is before put =
    put
    ∙ ap (λ (ns : List (List ℕ)). ns ++ e.name ∷ []) before
    ∙ sym (map_push (λ (o : ExportDef). o.name) (take i es) e)
    ∙ ap (map (λ (o : ExportDef). o.name)) (ap (λ (o : ExportDef). take i es ++ o ∷ []) is ∙ sym (take_more es i e inside))

-- a second entry, where there may be one
pub refused_second : {A : Type 0} (ok : A → Bool) (xs : List A) (d : A) → 2 ≤ length xs → true ≡ ok (get_or xs 0 d) → first_refused (λ k l. nat_eq k 0 && ok l) 0 xs ≡ Some 1
refused_second ok [] d more passes = absurd (omega arith)
refused_second ok (x ∷ []) d more passes = absurd (omega arith)
refused_second ok (x ∷ y ∷ rest) d more passes = ap (λ (b : Bool). cond b (Some 1) (Some 0)) (sym passes)
