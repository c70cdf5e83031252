-- HostLines: the line of an event is that of what a host is shown, to which each import has the name of its lines.
use Rattle.std.proofs.Common.{◌≡◌, ℕ, zero, suc, ◌+◌, ◌<◌, get_or, List, [], ◌∷◌, ◌++◌, Some, length, map, refl, sym, ap, ◌∙◌, arith, zero-add, subst}
use Rattle.std.specs.Prelude.{codes, slice_get, IfOk, Result, Ok, Err, Vec}
use Rattle.std.specs.declared.alloc.Global.{Global}
use Rattle.std.specs.declared.alloc.AllocError.{AllocError}
use Rattle.std.specs.List.{flat_map}
use Rattle.zw_exec.specs.Hosts.{event_text, import_name, item, name_of, signed_number, signed_params, signed_type, signed_view}
use Rattle.zw_report.specs.declared.item.ItemTy.{ItemTy}
use Rattle.zw_report.specs.Lines.{AreTypesOf, begin, event_line, items}
use Rattle.zw_wasm.specs.declared.module.FuncImport.{FuncImport}
use Rattle.zw_wasm.specs.declared.module.Module.{Module}
use Rattle.zw_wasm.specs.declared.module.ValType.{ValType}
use Rattle.zw_wasm.specs.declared.module.ValType.TheVariants as ty
use Rattle.zw_wasm.specs.declared.num.Num.{Num}
use Rattle.zw_wasm.specs.Functions.{func_type, type_at}
use Rattle.zw_wasm.specs.ModuleMachine.{param_types}
use Rattle.zw_wasm.specs.Reduction.{field_of}
use Rattle.zw_wasm.specs.Signature.{Signed, scalar_of}
use Rattle.zw_wasm_run.specs.Calls.{ShowParams, ShowsTo, numbers_read}
use Rattle.zw_wasm_run.specs.Hosting.{IsShownCall, numbers_in, ranges_in}
use Rattle.zw_wasm_run.specs.Naming.{named_from}
use Rattle.zw_wasm_run.specs.Premises.{type_of}
use Rattle.zw_wasm_run.specs.declared.event.Event.{Event}

-- an import's field is its new name
field-named : (names : ℕ → List ℕ) (n : ℕ) (is : List FuncImport) (k : ℕ) (i : FuncImport) → slice_get is k ≡ Some i → field_of (slice_get (named_from names n is) k) ≡ names (n + k)
field-named names n [] k i e = cc
field-named names n (j ∷ is) zero i e = let h : n ≡ n + zero = omega arith in ap names h
field-named names n (j ∷ is) (suc k) i e = let h : suc n + k ≡ n + suc k = omega arith in field-named names (suc n) is k i e ∙ ap names h

-- the numbers as a line has them are those that a host reads with their sign
items-read : (ts : List ValType) (args : List Num) → items (map signed_type ts) args [] ≡ flat_map item (numbers_read (map signed_number ts) args)
items-read [] args = refl
items-read (ty.I32 ∷ ts) [] = refl
items-read (ty.I64 ∷ ts) [] = refl
items-read (ty.I32 ∷ ts) (a ∷ args) = ap (λ l. item (scalar_of (Signed 32) a) ++ l) (items-read ts args)
items-read (ty.I64 ∷ ts) (a ∷ args) = ap (λ l. item (scalar_of (Signed 64) a) ++ l) (items-read ts args)

-- a number for each parameter
typed : (ts : List ValType) (args : List Num) → length args ≡ length ts → AreTypesOf (map signed_type ts) args []
typed [] [] e = tt
typed [] (a ∷ args) e = absurd (omega arith)
typed (t ∷ ts) [] e = absurd (omega arith)
typed (ty.I32 ∷ ts) (a ∷ args) e = typed ts args (omega arith)
typed (ty.I64 ∷ ts) (a ∷ args) e = typed ts args (omega arith)

length-map : {A B : Type 0} (f : A → B) (xs : List A) → length (map f xs) ≡ length xs
length-map f [] = refl
length-map f (x ∷ xs) = ap (λ n. suc n) (length-map f xs)

-- where none are shown as bytes, all arguments are numbers
numbers-all : (k param : ℕ) (args : List Num) → numbers_in [] k param args ≡ args
numbers-all k param [] = refl
numbers-all k zero (a ∷ args) = ap (λ l. a ∷ l) (numbers-all k 1 args)
numbers-all k (suc param) (a ∷ args) = ap (λ l. a ∷ l) (numbers-all k (suc (suc param)) args)

ranges-none : (k : ℕ) (memory : List ℕ) (param : ℕ) (args : List Num) → ranges_in [] k memory param args ≡ Some []
ranges-none k memory param [] = refl
ranges-none k memory param (a ∷ args) = ranges-none k memory (suc param) args

-- an event has a number for each parameter, and shows nothing else
pub record IsSigned (m : Module) (event : Event) : Type 0 where
  pub count : length event.args ≡ length (param_types (func_type m event.import))
  pub none_shown : event.shown ≡ []

pub is_signed : (m : Module) (event : Event) → IsShownCall m [] event → IsSigned m event
is_signed m event c = record {
  count = ap (λ (l : List Num). length l) (c.args ∙ numbers-all event.import 0 c.given) ∙ sym (length-map type_of c.given) ∙ ap (λ (l : List ValType). length l) c.types;
  none_shown = let e : Some event.shown ≡ Some [] = sym c.shown ∙ ranges-none event.import c.memory 0 c.given in cc;
}

slice_get-front : {X : Type 0} (f : FuncImport → X) (is : List FuncImport) (xs : List X) (k : ℕ) (i : FuncImport) → slice_get is k ≡ Some i → slice_get (map f is ++ xs) k ≡ Some (f i)
slice_get-front f [] xs k i e = absurd (cc)
slice_get-front f (j ∷ is) xs zero i e = let same : j ≡ i = cc in ap (λ x. Some (f x)) same
slice_get-front f (j ∷ is) xs (suc k) i e = slice_get-front f is xs k i e

-- the type of an imported function
pub type-imported : (m : Module) (k : ℕ) (i : FuncImport) → slice_get m.imports k ≡ Some i → func_type m k ≡ slice_get m.types i.ty
type-imported m k i e = ap (λ n. type_at m n) (slice_get-front (λ (j : FuncImport). j.ty) m.imports m.funcs k i e)

-- the types of the parameters fit an event
pub signed_fit : (m : Module) (event : Event) (i : FuncImport) (tys : List ItemTy) → slice_get m.imports event.import ≡ Some i → tys ≡ map signed_type (param_types (slice_get m.types i.ty)) → IsShownCall m [] event → AreTypesOf tys event.args event.shown
signed_fit m event i tys there typed_so c =
    let s = is_signed m event c in
    let all : tys ≡ map signed_type (param_types (func_type m event.import)) =
    typed_so ∙ ap (λ t. map signed_type (param_types t)) (sym (type-imported m event.import i there)) in
    subst (λ (l : List (List ℕ)). AreTypesOf tys event.args l) (sym s.none_shown)
    (subst (λ (l : List ItemTy). AreTypesOf l event.args []) (sym all) (typed (param_types (func_type m event.import)) event.args s.count))

-- the line of an event
pub event-line : (m : Module) (event : Event) (i : FuncImport) (name : List ℕ) (tys : List ItemTy) → slice_get m.imports event.import ≡ Some i → name ≡ import_name i → tys ≡ map signed_type (param_types (slice_get m.types i.ty)) → event.shown ≡ []
    → event_line name tys event ≡ event_text m event
unfolding event_text
event-line m event i name tys there named_so typed_so none =
    let names : ℕ → List ℕ = λ k. name_of (slice_get m.imports k) in
    let told : field_of (slice_get (named_from names 0 m.imports) event.import) ≡ name =
    field-named names 0 m.imports event.import i there ∙ ap names (zero-add event.import) ∙ ap name_of there ∙ sym named_so in
    let all : tys ≡ map signed_type (param_types (func_type m event.import)) =
    typed_so ∙ ap (λ t. map signed_type (param_types t)) (sym (type-imported m event.import i there)) in
    ap (λ l. begin (codes "host") name ++ items tys event.args l ++ codes "\n") none
    ∙ ap (λ l. begin (codes "host") name ++ items l event.args [] ++ codes "\n") all
    ∙ ap (λ l. begin (codes "host") name ++ l ++ codes "\n") (items-read (param_types (func_type m event.import)) event.args)
    ∙ ap (λ n. begin (codes "host") n ++ flat_map item (numbers_read (signed_params (func_type m event.import)) event.args) ++ codes "\n") (sym told)

shown-none : (k param : ℕ) (ts : List ValType) → ShowParams [] k param ts (map signed_number ts)
shown-none k param [] = tt
shown-none k param (ty.I32 ∷ ts) = (refl, shown-none k (suc param) ts)
shown-none k param (ty.I64 ∷ ts) = (refl, shown-none k (suc param) ts)

-- a machine that shows no bytes shows to the host that reads each number with its sign
pub shows_signed : (m : Module) → ShowsTo m [] (signed_view m)
shows_signed m = record { params = λ k _. shown-none k 0 (param_types (func_type m k)) }

-- the import at a place that is there
pub import-there : (is : List FuncImport) (k : ℕ) (i : FuncImport) → k < length is → i ≡ get_or is k i → slice_get is k ≡ Some i
import-there [] k i h e = absurd (omega arith)
import-there (j ∷ is) zero i h e = ap (λ x. Some x) (sym e)
import-there (j ∷ is) (suc k) i h e = import-there is k i (omega arith) e

-- what the code has of an event: its import, the types of the parameters, and those of the items
pub host_fits : (m : Module) (event : Event) (i : FuncImport) (imports : List FuncImport) (params : List ValType) (made tys : List ItemTy) → i ≡ get_or imports event.import i → imports ≡ m.imports → params ≡ param_types (slice_get m.types i.ty) → made ≡ map signed_type params → tys ≡ made → IsShownCall m [] event
    → AreTypesOf tys event.args event.shown
host_fits m event i imports params made tys at are of_type by same c =
    signed_fit m event i tys (import-there m.imports event.import i c.imported (at ∙ ap (λ (l : List FuncImport). get_or l event.import i) are)) (same ∙ by ∙ ap (λ (l : List ValType). map signed_type l) of_type) c

pub host_tells : (m : Module) (event : Event) (i : FuncImport) (imports : List FuncImport) (params : List ValType) (made tys : List ItemTy) (name : List ℕ) → i ≡ get_or imports event.import i → imports ≡ m.imports → params ≡ param_types (slice_get m.types i.ty) → made ≡ map signed_type params → tys ≡ made → IsShownCall m [] event
    → name ≡ import_name i → event_line name tys event ≡ event_text m event
host_tells m event i imports params made tys name at are of_type by same c called =
    event-line m event i name tys (import-there m.imports event.import i c.imported (at ∙ ap (λ (l : List FuncImport). get_or l event.import i) are)) called (same ∙ by ∙ ap (λ (l : List ValType). map signed_type l) of_type) (is_signed m event c).none_shown

-- a list of bytes that is made is another one that equals it
pub made_so : (r : Result (Vec ℕ Global) AllocError) (a b : List ℕ) → IfOk r (λ line. line.items ≡ a) → a ≡ b → IfOk r (λ line. line.items ≡ b)
made_so (Ok line) a b h e = h ∙ e
made_so (Err e') a b h e = tt
