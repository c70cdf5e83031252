-- The parts of a program.
use Rattle.std.proofs.Common.{◌≡◌, ◌≢◌, ℕ, ◌+◌, ◌<◌, ◌≤◌, false, List, [], ◌∷◌, ◌++◌, map, length, get_or, take, All, AllPairs, Contains, refl, sym, ap, ◌∙◌}
use Rattle.std.specs.Prelude.{Vec}
use Rattle.std.specs.declared.alloc.Global.{Global}
use Rattle.std.proofs.lemmas.List.Elements.{All-nil, All-cons, All-head, All-tail}
use Rattle.zw_form.specs.declared.program.Action.{Action}
use Rattle.zw_form.specs.declared.source.Declaration.{Declaration}
use Rattle.zw_form.specs.declared.source.Declaration.TheVariants.{Extern, Export}
use Rattle.zw_form.specs.declared.source.ExportedFunction.{ExportedFunction}
use Rattle.zw_form.specs.declared.source.ExternFunction.{ExternFunction}
use Rattle.zw_form.specs.Programs.{action_of, function_of, import_of, import_named}
use Rattle.zw_form.specs.Rules.{externs_of, exports_of, KeepsNames}
use Rattle.zw_form.proofs.Items.{map-item, take-whole, within-map, past-map, is-map}
use Rattle.zw_names.proofs.SetLemmas.{names_of}
use Rattle.zw_form.proofs.KeptLemmas.{Differ, same_extern, import_named-found, import_named-none}

pub function_of-made : (imports : List (List ℕ)) (f : ExportedFunction) (params : List (List ℕ)) → params ≡ f.params → (name : List ℕ) → name ≡ f.name → (count : ℕ) → count ≡ length f.params
    → (actions : List Action) → actions ≡ map (action_of imports params) f.steps → record { name = name; params = count; actions = actions } ≡ function_of imports f
function_of-made imports f params same name named count counted actions acts =
    let all = acts ∙ ap (λ ps. map (action_of imports ps) f.steps) same in
    λ i. record { name = named i; params = counted i; actions = all i }

-- the parameters of each exported function differ
pub exports-differ : (functions : List (List ℕ)) (file : List Declaration) → All (KeepsNames functions) file → All (λ (f : ExportedFunction). AllPairs (λ (x y : List ℕ). x ≢ y) f.params) (exports_of file)
exports-differ functions [] kept = All-nil (λ (f : ExportedFunction). AllPairs (λ (x y : List ℕ). x ≢ y) f.params)
exports-differ functions (Extern f ∷ ds) kept = exports-differ functions ds (All-tail (KeepsNames functions) (Extern f) ds kept)
exports-differ functions (Export f ∷ ds) kept =
    All-cons (λ (f : ExportedFunction). AllPairs (λ (x y : List ℕ). x ≢ y) f.params) f (exports_of ds)
    (All-head (KeepsNames functions) (Export f) ds kept).params_differ
    (exports-differ functions ds (All-tail (KeepsNames functions) (Export f) ds kept))

module _ (file : List Declaration) (name : List ℕ) where
  pub import-found : (f : ExternFunction) → Differ file → Contains (externs_of file) f → f.name ≡ name → (count : ℕ) → count ≡ length f.params → (given : List ℕ) → given ≡ name
      → record { name = given; params = count; has_result = f.has_result } ≡ import_named (externs_of file) name
  import-found f differ there named count counted given same =
      let own : given ≡ f.name = same ∙ sym named in
      let made : record { name = given; params = count; has_result = f.has_result } ≡ import_of f = λ i. record { name = own i; params = counted i; has_result = f.has_result } in
      made ∙ sym (import_named-found (externs_of file) name f there named (λ g here is. same_extern file g f differ here there (is ∙ sym named)))

  pub import-none : ((f : ExternFunction) → Contains (externs_of file) f → f.name ≢ name) → (given : List ℕ) → given ≡ name
      → record { name = given; params = 0; has_result = false } ≡ import_named (externs_of file) name
  import-none none given same =
      let made : record { name = given; params = 0; has_result = false } ≡ record { name = name; params = 0; has_result = false } = λ i. record { name = same i; params = 0; has_result = false } in
      made ∙ sym (import_named-none (externs_of file) name none)

-- a loop over the keys of a set, which are names
module _ {Y : Type 0} (f : List ℕ → Y) (keys : List (Vec ℕ Global)) (i : ℕ) (ys : List Y) (before : ys ≡ map f (take i (names_of keys))) where
  pub map-key : (k : Vec ℕ Global) (y : Y) → i < length keys → k ≡ get_or keys i k → y ≡ f k.items → ys ++ y ∷ [] ≡ map f (take (i + 1) (names_of keys))
  map-key k y within is here =
      map-item (names_of keys) i k.items (within-map (λ (k : Vec ℕ Global). k.items) keys i within)
      (is-map (λ (k : Vec ℕ Global). k.items) keys i k k.items is refl) f ys y before here

  pub map-keys : length keys ≤ i → ys ≡ map f (names_of keys)
  map-keys past = before ∙ ap (map f) (take-whole (names_of keys) i (past-map (λ (k : Vec ℕ Global). k.items) keys i past))
