-- Stores: the store that a valid module begins with has its types.
use Rattle.std.proofs.Common.{◌≡◌, ℕ, zero, suc, ◌+◌, ◌<◌, true, List, [], ◌∷◌, ◌++◌, length, map, take, drop, replicate, Option, Some, None, refl, ap, subst, ◌∙◌}
use Rattle.std.specs.Prelude.{◌&&◌, nat_lt, slice_get}
use Rattle.std.specs.List.{list_all}
use Rattle.std.proofs.lemmas.Bool.{and_parts, ltb-true}
use Rattle.zw_wasm.specs.declared.module.Element.{Element}
use Rattle.zw_wasm.specs.declared.module.GlobalDef.{GlobalDef}
use Rattle.zw_wasm.specs.declared.module.Module.{Module}
use Rattle.zw_wasm.specs.declared.module.ValType.TheVariants.{I32}
use Rattle.zw_wasm.specs.declared.num.Num.{Num}
use Rattle.zw_wasm.specs.Functions.{func_count}
use Rattle.zw_wasm.specs.ModuleMachine.{constant_of, first_sizes, first_store, first_values, with_elements}
use Rattle.zw_wasm.specs.Reduction.{overwritten}
use Rattle.zw_wasm.specs.Structure.{num_of}
use Rattle.zw_wasm.specs.Validity.{IsValid, element_ok, is_constant_of}
use Rattle.zw_wasm_sound.specs.Configurations.{IsTypedStore}
use Rattle.zw_wasm_sound.specs.Rules.{types_of}
use Rattle.zw_wasm_sound.proofs.Operands.{num_of-typed}
use Rattle.zw_wasm_sound.proofs.Valid.{Passes, entries-of}

values-typed : (gs : List GlobalDef) → types_of (map (λ (g : GlobalDef). num_of g.ty (constant_of [] g.init)) gs) ≡ map (λ (g : GlobalDef). g.ty) gs
values-typed [] = refl
values-typed (g ∷ gs) =
    ap (λ t. t ∷ types_of (map (λ (h : GlobalDef). num_of h.ty (constant_of [] h.init)) gs)) (num_of-typed g.ty (constant_of [] g.init))
    ∙ ap (λ ts. g.ty ∷ ts) (values-typed gs)

-- ---- the functions of a table are there, of which there are n

abbrev AreThere : ℕ → List (Option ℕ) → Type 0
AreThere n table = (k f : ℕ) → slice_get table k ≡ Some (Some f) → f < n

there-append : (n : ℕ) (xs ys : List (Option ℕ)) → AreThere n xs → AreThere n ys → AreThere n (xs ++ ys)
there-append n [] ys p q k f e = q k f e
there-append n (x ∷ xs) ys p q zero f e = p zero f e
there-append n (x ∷ xs) ys p q (suc k) f e = there-append n xs ys (λ j g. p (suc j) g) q k f e

there-take : (n i : ℕ) (xs : List (Option ℕ)) → AreThere n xs → AreThere n (take i xs)
there-take n zero xs p k f e = absurd (cc)
there-take n (suc i) [] p k f e = absurd (cc)
there-take n (suc i) (x ∷ xs) p zero f e = p zero f e
there-take n (suc i) (x ∷ xs) p (suc k) f e = there-take n i xs (λ j g. p (suc j) g) k f e

there-drop : (n i : ℕ) (xs : List (Option ℕ)) → AreThere n xs → AreThere n (drop i xs)
there-drop n zero xs p k f e = p k f e
there-drop n (suc i) [] p k f e = absurd (cc)
there-drop n (suc i) (x ∷ xs) p k f e = there-drop n i xs (λ j g. p (suc j) g) k f e

there-none : (n i : ℕ) → AreThere n (replicate i None)
there-none n zero k f e = absurd (cc)
there-none n (suc i) zero f e = absurd (cc)
there-none n (suc i) (suc k) f e = there-none n i k f e

there-funcs : (n : ℕ) (fs : List ℕ) → list_all (λ f. nat_lt f n) fs ≡ true → AreThere n (map (λ f. Some f) fs)
there-funcs n [] h k f e = absurd (cc)
there-funcs n (g ∷ fs) h zero f e =
    let same : g ≡ f = cc in
    let both = and_parts (nat_lt g n) (list_all (λ f. nat_lt f n) fs) h in
    subst (λ j. j < n) same (ltb-true g n both.0)
there-funcs n (g ∷ fs) h (suc k) f e =
    let both = and_parts (nat_lt g n) (list_all (λ f. nat_lt f n) fs) h in
    there-funcs n fs both.1 k f e

there-written : (n at : ℕ) (xs ys : List (Option ℕ)) → AreThere n xs → AreThere n ys → AreThere n (overwritten xs at ys)
there-written n at xs ys p q =
    there-append n (take at xs ++ ys) (drop (at + length ys) xs) (there-append n (take at xs) ys (there-take n at xs p) q)
    (there-drop n (at + length ys) xs p)

funcs-inside : (m : Module) (e : Element) → element_ok m e ≡ true → list_all (λ f. nat_lt f (func_count m)) e.funcs ≡ true
funcs-inside m e h =
    (and_parts (nat_lt e.table (length m.tables) && is_constant_of m.globals I32 e.at) (list_all (λ f. nat_lt f (func_count m)) e.funcs) h).1

elements-there : (m : Module) (values : List Num) (es : List Element) (table : List (Option ℕ)) → Passes (λ k. element_ok m) es → AreThere (func_count m) table → AreThere (func_count m) (with_elements values es table)
elements-there m values [] table h p = p
elements-there m values (e ∷ es) table h p =
    let ok = h 0 e refl in
    elements-there m values es (overwritten table (constant_of values e.at) (map (λ f. Some f) e.funcs)) (λ i y. h (suc i) y)
    (there-written (func_count m) (constant_of values e.at) table (map (λ f. Some f) e.funcs) p (there-funcs (func_count m) e.funcs (funcs-inside m e ok.1)))

pub first-store-typed : (m : Module) → IsValid m → IsTypedStore m (first_store m)
first-store-typed m v = record {
  globals = values-typed m.globals;
  table = elements-there m (first_values m) m.elements (replicate (first_sizes m.tables) None) (entries-of m v).elements (there-none (func_count m) (first_sizes m.tables));
}
