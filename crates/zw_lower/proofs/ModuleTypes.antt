-- The types of a module's functions, by number: the imported ones come first.
use Rattle.std.proofs.Common.{◌≡◌, ℕ, zero, suc, ◌+◌, ◌<◌, List, [], ◌∷◌, length, map, Some, refl, sym, ap, ◌∙◌, arith}
use Rattle.std.specs.Prelude.{slice_get}
use Rattle.std.proofs.lemmas.List.{length-map}
use Rattle.std.proofs.lemmas.Option.{slice_get_within}
use Rattle.zw_form.specs.declared.program.Function.{Function}
use Rattle.zw_form.specs.declared.program.Import.{Import}
use Rattle.zw_form.specs.declared.program.Program.{Program}
use Rattle.zw_lower.proofs.ListLemmas.{slice_get-append_left, slice_get-append_right, slice_get-map_some}
use Rattle.zw_lower.specs.Modules.{import_type, function_type, imports_from, numbers_from, module_of}
use Rattle.zw_wasm.specs.declared.module.FuncImport.{FuncImport}
use Rattle.zw_wasm.specs.Functions.{func_type, type_at}

-- ---- numbers

pub length-numbers_from : {X : Type 0} (k : ℕ) (xs : List X) → length (numbers_from k xs) ≡ length xs
length-numbers_from k [] = refl
length-numbers_from k (x ∷ xs) = ap (λ n. suc n) (length-numbers_from (suc k) xs)

pub length-imports_from : (k : ℕ) (imports : List Import) → length (imports_from k imports) ≡ length imports
length-imports_from k [] = refl
length-imports_from k (i ∷ imports) = ap (λ n. suc n) (length-imports_from (suc k) imports)

imports_are_numbered : (k : ℕ) (imports : List Import) → map (λ (i : FuncImport). i.ty) (imports_from k imports) ≡ numbers_from k imports
imports_are_numbered k [] = refl
imports_are_numbered k (i ∷ imports) = ap (λ ns. k ∷ ns) (imports_are_numbered (suc k) imports)

number_at : {X : Type 0} (k : ℕ) (xs : List X) (i : ℕ) → i < length xs → slice_get (numbers_from k xs) i ≡ Some (k + i)
number_at k [] i h = absurd (omega (arith, h))
number_at k (x ∷ xs) zero h = ap (λ (n : ℕ). Some n) (omega arith)
number_at k (x ∷ xs) (suc i) h = number_at (suc k) xs i (omega (arith, h)) ∙ ap (λ (n : ℕ). Some n) (omega arith)

-- ---- types

pub type_of_import : (p : Program) (k : ℕ) (i : Import) → slice_get p.imports k ≡ Some i → func_type (module_of p) k ≡ Some (import_type i)
type_of_import p k i is =
    let m = module_of p in
    let tys = map (λ (i : FuncImport). i.ty) m.imports in
    let within : k < length p.imports = slice_get_within p.imports k i is in
    let inside : k < length tys = omega (arith, within, length-map m.imports (λ (i : FuncImport). i.ty), length-imports_from 0 p.imports) in
    let among : k < length (map import_type p.imports) = omega (arith, within, length-map p.imports import_type) in
    let number : slice_get tys k ≡ Some k =
    ap (λ ns. slice_get ns k) (imports_are_numbered 0 p.imports) ∙ number_at 0 p.imports k within ∙ ap (λ (n : ℕ). Some n) (omega arith) in
    ap (type_at m) (slice_get-append_left tys m.funcs k inside ∙ number)
    ∙ slice_get-append_left (map import_type p.imports) (map function_type p.functions) k among
    ∙ slice_get-map_some import_type p.imports k i is

pub type_of_function : (p : Program) (j : ℕ) (g : Function) → slice_get p.functions j ≡ Some g → func_type (module_of p) (length (module_of p).imports + j) ≡ Some (function_type g)
type_of_function p j g is =
    let m = module_of p in
    let tys = map (λ (i : FuncImport). i.ty) m.imports in
    let within : j < length p.functions = slice_get_within p.functions j g is in
    ap (type_at m) (slice_get-append_right tys m.funcs (length m.imports) j (sym (length-map m.imports (λ (i : FuncImport). i.ty))) ∙ number_at (length p.imports) p.functions j within)
    ∙ slice_get-append_right (map import_type p.imports) (map function_type p.functions) (length p.imports) j (sym (length-map p.imports import_type))
    ∙ slice_get-map_some function_type p.functions j g is
