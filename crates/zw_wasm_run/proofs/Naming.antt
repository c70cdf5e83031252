-- Naming: what code does is the same whatever names the imports have.
use Rattle.std.proofs.Common.{◌≡◌, ℕ, suc, ◌-◌, List, [], ◌∷◌, ◌++◌, Option, Some, None, length, map, refl, ap, ◌∙◌}
use Rattle.std.specs.Prelude.{nat_le, nat_lt, slice_get, if◌then◌else◌}
use Rattle.zw_wasm.specs.declared.module.FuncImport.{FuncImport}
use Rattle.zw_wasm.specs.declared.module.FuncType.{FuncType}
use Rattle.zw_wasm.specs.declared.module.Instr.{Instr}
use Rattle.zw_wasm.specs.declared.module.Instr.TheVariants as instr
use Rattle.zw_wasm.specs.declared.module.Module.{Module}
use Rattle.zw_wasm.specs.declared.num.Num.{Num}
use Rattle.zw_wasm.specs.declared.num.Num.TheVariants as num
use Rattle.zw_wasm.specs.Functions.{func_type, type_at}
use Rattle.zw_wasm.specs.Reduction.{Action, Begins, BeginsLoop, CallsHost, Chooses, Config, Single, Traps, Work, act, arity_of, called, called_by, done, enter, entered, frames_trap, max_frames, no_rule, same_func_type, signature_trap, with_operands}
use Rattle.zw_wasm_run.specs.Naming.{named, named_from}

types_from : (names : ℕ → List ℕ) (k : ℕ) (is : List FuncImport) → map (λ (i : FuncImport). i.ty) (named_from names k is) ≡ map (λ (i : FuncImport). i.ty) is
types_from names k [] = refl
types_from names k (i ∷ is) = ap (λ l. i.ty ∷ l) (types_from names (suc k) is)

count_from : (names : ℕ → List ℕ) (k : ℕ) (is : List FuncImport) → length (named_from names k is) ≡ length is
count_from names k [] = refl
count_from names k (i ∷ is) = ap (λ n. suc n) (count_from names (suc k) is)

type_named : (names : ℕ → List ℕ) (m : Module) (k : Option ℕ) → type_at (named names m) k ≡ type_at m k
type_named names m None = refl
type_named names m (Some k) = refl

pub same_type : (names : ℕ → List ℕ) (m : Module) (f : ℕ) → func_type (named names m) f ≡ func_type m f
same_type names m f =
    ap (λ tys. type_at (named names m) (slice_get (tys ++ m.funcs) f)) (types_from names 0 m.imports)
    ∙ type_named names m (slice_get (map (λ (i : FuncImport). i.ty) m.imports ++ m.funcs) f)

pub same_enter : (names : ℕ → List ℕ) (m : Module) (f : ℕ) (args : List Num) (c : Config) → enter (named names m) f args c ≡ enter m f args c
same_enter names m f args c =
    let by : ℕ → Option FuncType → Action = λ n t.
    if nat_lt f n then CallsHost f args c
    else (if nat_le max_frames (length c.below) then Traps frames_trap else entered (slice_get m.codes (f - n)) f (arity_of t) args c) in
    ap (λ n. by n (func_type (named names m) f)) (count_from names 0 m.imports) ∙ ap (λ t. by (length m.imports) t) (same_type names m f)

same_called_with : (names : ℕ → List ℕ) (m : Module) (f : ℕ) (t : Option FuncType) (c : Config) → called (named names m) f t c ≡ called m f t c
same_called_with names m f None c = refl
same_called_with names m f (Some t) c =
    ap (λ a. if nat_le (length t.params) (length c.frame.operands) then a else Traps no_rule) (same_enter names m f _ _)

pub same_called : (names : ℕ → List ℕ) (m : Module) (f : ℕ) (c : Config) → called (named names m) f (func_type (named names m) f) c ≡ called m f (func_type m f) c
same_called names m f c = ap (λ t. called (named names m) f t c) (same_type names m f) ∙ same_called_with names m f (func_type m f) c

same_called_by : (names : ℕ → List ℕ) (m : Module) (t : Option FuncType) (entry : Option (Option ℕ)) (c : Config) → called_by (named names m) t entry c ≡ called_by m t entry c
same_called_by names m t None c = refl
same_called_by names m t (Some None) c = refl
same_called_by names m t (Some (Some f)) c =
    ap (λ u. if same_func_type t u then called (named names m) f u c else Traps signature_trap) (same_type names m f)
    ∙ ap (λ a. if same_func_type t (func_type m f) then a else Traps signature_trap) (same_called_with names m f (func_type m f) c)

same_called_indirect : (names : ℕ → List ℕ) (m : Module) (k : ℕ) (os : List Num) (c : Config) → act (named names m) (instr.CallIndirect k) (with_operands os c) ≡ act m (instr.CallIndirect k) (with_operands os c)
same_called_indirect names m k [] c = refl
same_called_indirect names m k (num.I32 x ∷ os) c = same_called_by names m (slice_get m.types k) (slice_get c.world.store.table x) (with_operands os c)
same_called_indirect names m k (num.I64 x ∷ os) c = refl

same_act : (names : ℕ → List ℕ) (m : Module) (i : Instr) (c : Config) → act (named names m) i c ≡ act m i c
same_act names m (instr.Call f) c = same_called names m f c
same_act names m (instr.CallIndirect k) c = same_called_indirect names m k c.frame.operands c
same_act names m _ c = refl

pub same_done : (names : ℕ → List ℕ) (m : Module) (w : Work) (c : Config) → done (named names m) w c ≡ done m w c
same_done names m (Single i) c = same_act names m i c
same_done names m (Chooses result a b) c = refl
same_done names m (Begins result body) c = refl
same_done names m (BeginsLoop result body) c = refl
