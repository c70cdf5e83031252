-- The functions of a file by their names.
use Rattle.std.proofs.Common.{◌≡◌, ◌≢◌, ℕ, zero, suc, ◌+◌, ◌<◌, ◌⊎◌, Bool, true, false, if◌then◌else◌, List, [], ◌∷◌, ◌++◌, map, length, get_or, take, Some, None, slice_get, All, AllPairs, Contains, MatchBool, append-nil, refl, sym, ap, ◌∙◌, subst, inl, inr, arith}
use Rattle.std.specs.List.{flat_map}
use Rattle.std.specs.Str.{bytes_eq}
use Rattle.std.proofs.lemmas.Bool.{false≢true}
use Rattle.std.proofs.lemmas.List.Concat.{flat_map-append}
use Rattle.std.proofs.lemmas.List.Elements.{Contains-append_left, Contains-append_right, Contains-append_cases, All-contains, All-weaker}
use Rattle.std.proofs.lemmas.Option.{slice_get_within, get_or_from_slice_get}
use Rattle.zw_form.specs.declared.source.Callee.{Callee}
use Rattle.zw_form.specs.declared.source.Declaration.{Declaration}
use Rattle.zw_form.specs.declared.source.Declaration.TheVariants.{Extern, Export}
use Rattle.zw_form.specs.declared.source.ExportedFunction.{ExportedFunction}
use Rattle.zw_form.specs.declared.source.ExternFunction.{ExternFunction}
use Rattle.zw_form.specs.declared.source.Step.{Step}
use Rattle.zw_form.specs.declared.source.Step.TheVariants.{Parameter, Number, Operate, Call}
use Rattle.zw_names.specs.NameSets.{number_in}
use Rattle.zw_form.specs.Programs.{import_of, import_named, called_in, first_of_each}
use Rattle.zw_form.specs.Rules.{name_of, extern_of, externs_of, export_of, exports_of, parameter_of, IsCalled, IsKnown, KeepsSteps}
use Rattle.zw_form.proofs.FirstLemmas.{Contains-first, Contains-from_first, first_of_each-insert, first_of_each-more}
use Rattle.zw_form.proofs.Items.{AllPairs-head, AllPairs-tail, flat_map-item, flat_map-same}
use Rattle.zw_names.proofs.SetLemmas.{same_bytes, bytes_eq-same, bytes_eq-apart}

module _ {X : Type 0} where
  pub Contains-head : (x : X) (xs : List X) → Contains (x ∷ xs) x
  Contains-head x xs = (0, omega arith, refl)

  pub Contains-tail : (x : X) (xs : List X) (y : X) → Contains xs y → Contains (x ∷ xs) y
  Contains-tail x xs y there = Contains-append_right (x ∷ []) xs y there

  pub Contains-nil : (y : X) → Contains [] y → ⊥
  Contains-nil y there = let within = there.1 in omega arith

  pub Contains-cases : (x : X) (xs : List X) (y : X) → Contains (x ∷ xs) y → (x ≡ y) ⊎ Contains xs y
  Contains-cases x xs y there = by (Contains-append_cases (x ∷ []) xs y there)
    where
      one : (y : X) → Contains (x ∷ []) y → x ≡ y
      one y (zero, within, is) = is
      one y (suc k, within, is) = absurd (omega arith)

      by : Contains (x ∷ []) y ⊎ Contains xs y → (x ≡ y) ⊎ Contains xs y
      by (inl here) = inl (one y here)
      by (inr there) = inr there

  pub Contains-slice_get : (xs : List X) (k : ℕ) (x : X) → slice_get xs k ≡ Some x → Contains xs x
  Contains-slice_get xs k x at = (k, slice_get_within xs k x at, get_or_from_slice_get xs k x x at)

pub Contains-map : {X Y : Type 0} (f : X → Y) (xs : List X) (x : X) → Contains xs x → Contains (map f xs) (f x)
Contains-map f [] x there = absurd (Contains-nil x there)
Contains-map f (y ∷ ys) x there = by (Contains-cases y ys x there) (Contains-map f ys x)
  where
    by : (y ≡ x) ⊎ Contains ys x → (Contains ys x → Contains (map f ys) (f x)) → Contains (map f (y ∷ ys)) (f x)
    by (inl here) rest = subst (Contains (map f (y ∷ ys))) (ap f here) (Contains-head (f y) (map f ys))
    by (inr there) rest = Contains-tail (f y) (map f ys) (f x) (rest there)

pub Contains-flat_map : {X Y : Type 0} (f : X → List Y) (xs : List X) (x : X) (y : Y) → Contains xs x → Contains (f x) y → Contains (flat_map f xs) y
Contains-flat_map f [] x y there here = absurd (Contains-nil x there)
Contains-flat_map f (z ∷ zs) x y there here = by (Contains-cases z zs x there) (λ there. Contains-flat_map f zs x y there here)
  where
    by : (z ≡ x) ⊎ Contains zs x → (Contains zs x → Contains (flat_map f zs) y) → Contains (flat_map f (z ∷ zs)) y
    by (inl same) rest = Contains-append_left (f z) (flat_map f zs) y (subst (λ w. Contains (f w) y) (sym same) here)
    by (inr there) rest = Contains-append_right (f z) (flat_map f zs) y (rest there)

-- the functions of a file are those that it declares
pub Contains-externs : (file : List Declaration) (f : ExternFunction) → Contains file (Extern f) → Contains (externs_of file) f
Contains-externs file f there = Contains-flat_map extern_of file (Extern f) f there (Contains-head f [])

pub Contains-exports : (file : List Declaration) (f : ExportedFunction) → Contains file (Export f) → Contains (exports_of file) f
Contains-exports file f there = Contains-flat_map export_of file (Export f) f there (Contains-head f [])

pub Contains-declared : (file : List Declaration) (f : ExternFunction) → Contains (externs_of file) f → Contains file (Extern f)
Contains-declared [] f there = absurd (Contains-nil f there)
Contains-declared (Extern g ∷ ds) f there = by (Contains-cases g (externs_of ds) f there) (Contains-declared ds f)
  where
    by : (g ≡ f) ⊎ Contains (externs_of ds) f → (Contains (externs_of ds) f → Contains ds (Extern f)) → Contains (Extern g ∷ ds) (Extern f)
    by (inl here) rest = subst (λ (h : ExternFunction). Contains (Extern g ∷ ds) (Extern h)) here (Contains-head (Extern g) ds)
    by (inr there) rest = Contains-tail (Extern g) ds (Extern f) (rest there)
Contains-declared (Export g ∷ ds) f there = Contains-tail (Export g) ds (Extern f) (Contains-declared ds f there)

-- no two functions of a file have one name
abbrev pub Differ : List Declaration → Type 0
Differ file = AllPairs (λ (x y : List ℕ). x ≢ y) (map name_of file)

pub same_declaration : (file : List Declaration) (a b : Declaration) → Differ file → Contains file a → Contains file b → name_of a ≡ name_of b → a ≡ b
same_declaration [] a b differ there here same = absurd (Contains-nil a there)
same_declaration (d ∷ ds) a b differ there here same = by (Contains-cases d ds a there) (Contains-cases d ds b here) (same_declaration ds a b (AllPairs-tail (λ (x y : List ℕ). x ≢ y) (name_of d) (map name_of ds) differ))
  where
    apart : (e : Declaration) → Contains ds e → name_of d ≡ name_of e → ⊥
    apart e there =
        All-contains (λ (x : List ℕ). name_of d ≢ x) (map name_of ds) (name_of e)
        (AllPairs-head (λ (x y : List ℕ). x ≢ y) (name_of d) (map name_of ds) differ) (Contains-map name_of ds e there)

    by : (d ≡ a) ⊎ Contains ds a → (d ≡ b) ⊎ Contains ds b → (Contains ds a → Contains ds b → name_of a ≡ name_of b → a ≡ b) → a ≡ b
    by (inl x) (inl y) rest = sym x ∙ y
    by (inl x) (inr y) rest = absurd (apart b y (ap name_of x ∙ same))
    by (inr x) (inl y) rest = absurd (apart a x (ap name_of y ∙ sym same))
    by (inr x) (inr y) rest = rest x y same

pub same_extern : (file : List Declaration) (f g : ExternFunction) → Differ file → Contains (externs_of file) f → Contains (externs_of file) g → f.name ≡ g.name → f ≡ g
same_extern file f g differ there here same =
    let e = same_declaration file (Extern f) (Extern g) differ (Contains-declared file f there) (Contains-declared file g here) same in
    cc

-- what stands at the number of a name has that name
pub name-numbered : (file : List Declaration) (name : List ℕ) (d : Declaration) → slice_get file (number_in (map name_of file) name) ≡ Some d → name_of d ≡ name
name-numbered [] name d at = cc
name-numbered (e ∷ ds) name d at = by (bytes_eq (name_of e) name) refl (name-numbered ds name d)
  where
    by : (b : Bool) → bytes_eq (name_of e) name ≡ b → (slice_get ds (number_in (map name_of ds) name) ≡ Some d → name_of d ≡ name) → name_of d ≡ name
    by true found rest =
        let here : Some e ≡ Some d = sym (ap (λ b. slice_get (e ∷ ds) (if b then 0 else suc (number_in (map name_of ds) name))) found) ∙ at in
        let same : e ≡ d = cc in
        ap name_of (sym same) ∙ same_bytes (name_of e) name found
    by false found rest =
        rest (sym (ap (λ b. slice_get (e ∷ ds) (if b then 0 else suc (number_in (map name_of ds) name))) found) ∙ at)

-- and where nothing stands there no function has the name
pub none-numbered : (file : List Declaration) (name : List ℕ) → slice_get file (number_in (map name_of file) name) ≡ None → (d : Declaration) → Contains file d → name_of d ≢ name
none-numbered [] name none d there = absurd (Contains-nil d there)
none-numbered (e ∷ ds) name none d there = by (bytes_eq (name_of e) name) refl (none-numbered ds name)
  where
    by : (b : Bool) → bytes_eq (name_of e) name ≡ b → (slice_get ds (number_in (map name_of ds) name) ≡ None → (d : Declaration) → Contains ds d → name_of d ≢ name) → name_of d ≢ name
    by true found rest =
        let here : Some e ≡ None = sym (ap (λ b. slice_get (e ∷ ds) (if b then 0 else suc (number_in (map name_of ds) name))) found) ∙ none in
        cc
    by false found rest =
        let after = rest (sym (ap (λ b. slice_get (e ∷ ds) (if b then 0 else suc (number_in (map name_of ds) name))) found) ∙ none) in
        behind (Contains-cases e ds d there) found (after d)
      where
        behind : (e ≡ d) ⊎ Contains ds d → bytes_eq (name_of e) name ≡ false → (Contains ds d → name_of d ≢ name) → name_of d ≢ name
        behind (inl here) found rest same = false≢true (sym found ∙ bytes_eq-same (name_of e) name (ap name_of here ∙ same))
        behind (inr there) found rest same = rest there same

-- what a look-up answers, by what stands at the number of the name
module _ (file : List Declaration) (name : List ℕ) (n : ℕ) (number : n ≡ number_in (map name_of file) name) where
  pub extern-found : (f : ExternFunction) → slice_get file n ≡ Some (Extern f) → Contains (externs_of file) f × (f.name ≡ name)
  extern-found f at = (
    Contains-externs file f (Contains-slice_get file n (Extern f) at),
    name-numbered file name (Extern f) (ap (slice_get file) (sym number) ∙ at),
  )

  pub extern-none : slice_get file n ≡ None → (f : ExternFunction) → Contains (externs_of file) f → f.name ≢ name
  extern-none none f there =
      none-numbered file name (ap (slice_get file) (sym number) ∙ none) (Extern f) (Contains-declared file f there)

  pub extern-export : (d : Declaration) → Differ file → slice_get file n ≡ Some d → ((f : ExternFunction) → d ≢ Extern f) → (f : ExternFunction) → Contains (externs_of file) f → f.name ≢ name
  extern-export d differ at other f there same =
      let named = name-numbered file name d (ap (slice_get file) (sym number) ∙ at) in
      other f (same_declaration file d (Extern f) differ (Contains-slice_get file n d at) (Contains-declared file f there) (named ∙ sym same))

-- the import of a name is that of the extern function that has it
pub import_named-found : (externs : List ExternFunction) (name : List ℕ) (f : ExternFunction) → Contains externs f → f.name ≡ name
    → ((g : ExternFunction) → Contains externs g → g.name ≡ name → g ≡ f) → import_named externs name ≡ import_of f
import_named-found [] name f there named only = absurd (Contains-nil f there)
import_named-found (g ∷ gs) name f there named only = by (bytes_eq g.name name) refl (λ there. import_named-found gs name f there named (λ h at. only h (Contains-tail g gs h at)))
  where
    by : (b : Bool) → bytes_eq g.name name ≡ b → (Contains gs f → import_named gs name ≡ import_of f) → import_named (g ∷ gs) name ≡ import_of f
    by true found rest =
        ap (λ b. if b then import_of g else import_named gs name) found ∙ ap import_of (only g (Contains-head g gs) (same_bytes g.name name found))
    by false found rest = ap (λ b. if b then import_of g else import_named gs name) found ∙ rest (behind (Contains-cases g gs f there))
      where
        behind : (g ≡ f) ⊎ Contains gs f → Contains gs f
        behind (inl here) = absurd (false≢true (sym found ∙ bytes_eq-same g.name name (ap (λ (h : ExternFunction). h.name) here ∙ named)))
        behind (inr there) = there

pub import_named-none : (externs : List ExternFunction) (name : List ℕ) → ((g : ExternFunction) → Contains externs g → g.name ≢ name)
    → import_named externs name ≡ record { name = name; params = 0; has_result = false }
import_named-none [] name none = refl
import_named-none (g ∷ gs) name none =
    ap (λ b. if b then import_of g else import_named gs name) (bytes_eq-apart g.name name (none g (Contains-head g gs)))
    ∙ import_named-none gs name (λ h at. none h (Contains-tail g gs h at))

-- whether a function is called and in its form, where there is one with the name of the callee
module _ (file : List Declaration) (callee : Callee) (f : ExternFunction) (there : Contains (externs_of file) f) (named : f.name ≡ callee.name) where
  pub called : (callee.args ≡ length f.params) × (callee.has_result ≡ f.has_result) → (g : ExternFunction) × Contains (externs_of file) g × IsCalled callee g
  called form = (f, there, record { name = sym named; args = form.0; has_result = form.1 })

  pub form_called : Differ file → (g : ExternFunction) × Contains (externs_of file) g × IsCalled callee g → (callee.args ≡ length f.params) × (callee.has_result ≡ f.has_result)
  form_called differ (g, here, is) =
      let same = same_extern file g f differ here there (sym is.name ∙ sym named) in
      (is.args ∙ ap (λ (h : ExternFunction). length h.params) same, is.has_result ∙ ap (λ (h : ExternFunction). h.has_result) same)

-- a declaration that is no export, and a step that reads no parameter
pub export_of-other : (d : Declaration) → ((f : ExportedFunction) → d ≢ Export f) → export_of d ≡ []
export_of-other (Extern f) other = refl
export_of-other (Export f) other = absurd (other f refl)

pub parameter_of-other : (s : Step) → ((name : List ℕ) → s ≢ Parameter name) → parameter_of s ≡ []
parameter_of-other (Parameter name) other = absurd (other name refl)
parameter_of-other (Number n) other = refl
parameter_of-other (Operate operator) other = refl
parameter_of-other (Call callee) other = refl

-- the parameters that steps read, as far as a loop has come
module _ (steps : List Step) (i : ℕ) (s : Step) (within : i < length steps) (is : s ≡ get_or steps i s) (set : List (List ℕ))
    (before : set ≡ first_of_each [] (flat_map parameter_of (take i steps))) where
  pub mentioned-item : (set' : List (List ℕ)) (name : List ℕ) (is_new : Bool) → s ≡ Parameter name
      → MatchBool is_new ((set' ≡ set ++ name ∷ []) × (Contains set name → ⊥)) ((set' ≡ set) × Contains set name) → set' ≡ first_of_each [] (flat_map parameter_of (take (i + 1) steps))
  mentioned-item set' name is_new reads put =
      first_of_each-insert [] set set' (flat_map parameter_of (take i steps)) name is_new before put
      ∙ ap (first_of_each []) (sym (flat_map-item steps i s within is parameter_of ∙ ap (λ t. flat_map parameter_of (take i steps) ++ parameter_of t) reads))

  pub mentioned-same : ((name : List ℕ) → s ≢ Parameter name) → set ≡ first_of_each [] (flat_map parameter_of (take (i + 1) steps))
  mentioned-same other =
      before ∙ ap (first_of_each []) (sym (flat_map-same steps i s within is parameter_of (parameter_of-other s other)))

-- the functions that are called, as far as a loop has come
abbrev pub callees_of : List ExportedFunction → List (List ℕ)
callees_of exports = flat_map (λ (f : ExportedFunction). f.callees) exports

module _ (file : List Declaration) (i : ℕ) (d : Declaration) (within : i < length file) (is : d ≡ get_or file i d) (set : List (List ℕ))
    (before : set ≡ called_in (take i file)) where
  pub called-item : (set' : List (List ℕ)) (f : ExportedFunction) → d ≡ Export f → set' ≡ set ++ first_of_each set f.callees → set' ≡ called_in (take (i + 1) file)
  called-item set' f exports put =
      first_of_each-more set set' (callees_of (exports_of (take i file))) f.callees before put
      ∙ ap (first_of_each [])
      (ap (λ l. callees_of (exports_of (take i file)) ++ l) (sym (append-nil f.callees))
      ∙ sym (flat_map-append (λ (f : ExportedFunction). f.callees) (exports_of (take i file)) (f ∷ []))
      ∙ ap callees_of (sym (flat_map-item file i d within is export_of ∙ ap (λ e. exports_of (take i file) ++ export_of e) exports)))

  pub called-same : ((f : ExportedFunction) → d ≢ Export f) → set ≡ called_in (take (i + 1) file)
  called-same other =
      before ∙ ap (λ exports. first_of_each [] (callees_of exports)) (sym (flat_map-same file i d within is export_of (export_of-other d other)))

-- the rules on what a function does, by the set of its parameters and that of the parameters that its steps read
IsKnown-weaker : (externs : List ExternFunction) (ps qs : List (List ℕ)) → ((name : List ℕ) → Contains ps name → Contains qs name) → (s : Step) → IsKnown externs ps s → IsKnown externs qs s
IsKnown-weaker externs ps qs more (Parameter name) known = more name known
IsKnown-weaker externs ps qs more (Number n) known = tt
IsKnown-weaker externs ps qs more (Operate operator) known = tt
IsKnown-weaker externs ps qs more (Call callee) known = known

module _ (externs : List ExternFunction) (f : ExportedFunction) (params : List (List ℕ)) (same : params ≡ first_of_each [] f.params) where
  pub steps-known : KeepsSteps externs f → All (IsKnown externs params) f.steps
  steps-known kept =
      subst (λ ps. All (IsKnown externs ps) f.steps) (sym same)
      (All-weaker (IsKnown externs f.params) (IsKnown externs (first_of_each [] f.params))
      (IsKnown-weaker externs f.params (first_of_each [] f.params) (λ name there. Contains-first name f.params there)) f.steps kept.steps_are_known)

  known-steps : All (IsKnown externs params) f.steps → All (IsKnown externs f.params) f.steps
  known-steps known =
      All-weaker (IsKnown externs (first_of_each [] f.params)) (IsKnown externs f.params)
      (IsKnown-weaker externs (first_of_each [] f.params) f.params (λ name there. Contains-from_first name f.params there)) f.steps
      (subst (λ ps. All (IsKnown externs ps) f.steps) same known)

  module _ (mentioned : List (List ℕ)) (reads : mentioned ≡ first_of_each [] (flat_map parameter_of f.steps)) where
    pub params-mentioned : KeepsSteps externs f → All (Contains mentioned) f.params
    params-mentioned kept =
        subst (λ ns. All (Contains ns) f.params) (sym reads)
        (All-weaker (Contains (flat_map parameter_of f.steps)) (Contains (first_of_each [] (flat_map parameter_of f.steps)))
        (λ name there. Contains-first name (flat_map parameter_of f.steps) there) f.params kept.params_are_mentioned)

    pub steps-kept : All (IsKnown externs params) f.steps → All (Contains mentioned) f.params → KeepsSteps externs f
    steps-kept known all = record {
      steps_are_known = known-steps known;
      params_are_mentioned =
          All-weaker (Contains (first_of_each [] (flat_map parameter_of f.steps))) (Contains (flat_map parameter_of f.steps))
          (λ name there. Contains-from_first name (flat_map parameter_of f.steps) there) f.params (subst (λ ns. All (Contains ns) f.params) reads all);
    }
