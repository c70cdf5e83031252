-- Exports: a call of what a valid module exports.
use Rattle.std.proofs.Common.{◌≡◌, ℕ, suc, ◌≤◌, ◌<◌, Bool, true, false, cond, List, [], ◌∷◌, length, Some, refl, ap, subst, ◌∙◌, arith}
use Rattle.std.specs.Prelude.{pos, negsuc, ◌&&◌, nat_eq, nat_lt, not}
use Rattle.std.specs.List.{list_any}
use Rattle.std.specs.Str.{bytes_eq}
use Rattle.std.specs.Option.{option_to_list}
use Rattle.std.proofs.lemmas.Bool.{and_parts, ltb-true}
use Rattle.std.specs.Prelude.{take}
use Rattle.zw_session.specs.Sessions.{Scalar, Number, Truth}
use Rattle.zw_wasm.specs.declared.module.ExportDef.{ExportDef}
use Rattle.zw_wasm.specs.declared.module.FuncType.{FuncType}
use Rattle.zw_wasm.specs.declared.module.Module.{Module}
use Rattle.zw_wasm.specs.declared.module.TheConstants.ExportDef.{FUNC, TABLE, MEMORY, GLOBAL}
use Rattle.zw_wasm.specs.declared.module.ValType.{ValType}
use Rattle.zw_wasm.specs.declared.module.ValType.TheVariants as ty
use Rattle.zw_wasm.specs.Functions.{func_count, func_type}
use Rattle.zw_wasm.specs.ModuleMachine.{arg_nums, begun, bits_of_scalar, export_in, idle}
use Rattle.zw_wasm.specs.Reduction.{Next, Rests, Step, Stops, World, enter, resolved}
use Rattle.zw_wasm.specs.Signature.{View}
use Rattle.zw_wasm.specs.Validity.{IsValid, export_is_there, export_ok}
use Rattle.zw_wasm_sound.specs.Configurations.{IsTypedStore}
use Rattle.zw_wasm_sound.specs.Rules.{type_of, types_of}
use Rattle.zw_wasm_sound.specs.Steps.{IsTypedRun, IsTypedStep, RunsTyped}
use Rattle.zw_wasm_sound.proofs.Entering.{HasTypedBodies}
use Rattle.zw_wasm_sound.proofs.Sound.{enter-typed, resolved-typed, run-typed}
use Rattle.zw_wasm_sound.proofs.Valid.{Passes, bodies-of, entries-of, func-typed}

-- ---- arguments

scalar-typed : (t : ValType) (a : Scalar) → type_of (bits_of_scalar t a) ≡ t
scalar-typed ty.I32 (Number (pos n)) = refl
scalar-typed ty.I64 (Number (pos n)) = refl
scalar-typed ty.I32 (Number (negsuc n)) = refl
scalar-typed ty.I64 (Number (negsuc n)) = refl
scalar-typed ty.I32 (Truth true) = refl
scalar-typed ty.I64 (Truth true) = refl
scalar-typed ty.I32 (Truth false) = refl
scalar-typed ty.I64 (Truth false) = refl

pub args-typed : (ts : List ValType) (args : List Scalar) → length ts ≤ length args → types_of (arg_nums ts args) ≡ ts
args-typed [] args h = refl
args-typed (t ∷ ts) [] h = absurd (omega arith)
args-typed (t ∷ ts) (a ∷ args) h =
    ap (λ u. u ∷ types_of (arg_nums ts args)) (scalar-typed t a) ∙ ap (λ us. t ∷ us) (args-typed ts args (omega (arith, h)))

-- ---- what an export names

there-func : (m : Module) (e : ExportDef) → export_is_there m e ≡ true → nat_eq e.kind FUNC ≡ true → e.index < func_count m
there-func m e h k = ltb-true e.index (func_count m) (by_kind (nat_eq e.kind FUNC) k h)
  where
    others : Bool
    others = cond (nat_eq e.kind TABLE) (nat_lt e.index (length m.tables)) (cond (nat_eq e.kind MEMORY) (nat_lt e.index (length m.memories)) (cond (nat_eq e.kind GLOBAL) (nat_lt e.index (length m.globals)) false))

    by_kind : (b : Bool) → b ≡ true → cond b (nat_lt e.index (func_count m)) others ≡ true → nat_lt e.index (func_count m) ≡ true
    by_kind true k h = h
    by_kind false k h = absurd (cc)

export-inside : (m : Module) (name : List ℕ) (es : List ExportDef) (f : ℕ) → Passes (export_ok m) es → export_in FUNC name es ≡ Some f → f < func_count m
export-inside m name [] f h e = absurd (cc)
export-inside m name (x ∷ es) f h e =
    first (nat_eq x.kind FUNC) (bytes_eq x.name name) refl (λ k. export-inside m name es f (λ i y. h (suc i) y) k) e
  where
    first : (a b : Bool) → nat_eq x.kind FUNC ≡ a → (export_in FUNC name es ≡ Some f → f < func_count m) → cond (a && b) (Some x.index) (export_in FUNC name es) ≡ Some f → f < func_count m
    first true true is go k =
        let ok = h 0 x refl in
        let same : x.index ≡ f = cc in
        subst (λ n. n < func_count m) same
        (there-func m x (and_parts (export_is_there m x) (not (list_any (λ (earlier : ExportDef). bytes_eq earlier.name x.name) (take ok.0 m.exports))) ok.1).0 is)
    first true false is go k = go k
    first false b is go k = go k

-- ---- runs

begun-typed : (m : Module) → HasTypedBodies m → (results : List ValType) (v : View) (s : Step) (w : World) (bound : ℕ) → IsTypedStore m w.store → IsTypedStep m results s → IsTypedRun m results (begun s w m v bound)
begun-typed m bodies results v (Next c) w bound s h = run-typed m bodies results v bound c h
begun-typed m bodies results v (Stops stop d) w bound s h = h
begun-typed m bodies results v (Rests os) w bound s h = (h, s)

pub function-typed : (m : Module) → HasTypedBodies m → (f : ℕ) (t : FuncType) → func_type m f ≡ Some t → RunsTyped m f t
function-typed m bodies f t is = record {
  enters = λ args w e s. enter-typed m bodies f t args w is e s;
  runs = λ v args w bound e s.
      begun-typed m bodies (option_to_list t.result) v (resolved m v w (enter m f args (idle w))) w bound s
      (resolved-typed m bodies (option_to_list t.result) v w (enter m f args (idle w)) s (enter-typed m bodies f t args w is e s));
}

pub export-typed : (m : Module) → IsValid m → (name : List ℕ) (f : ℕ) → export_in FUNC name m.exports ≡ Some f → (t : FuncType) × (func_type m f ≡ Some t) × RunsTyped m f t
export-typed m v name f e =
    let t = func-typed m (entries-of m v) f (export-inside m name m.exports f (entries-of m v).exports e) in
    (t.0, t.1, function-typed m (bodies-of m v) f t.0 t.1)
