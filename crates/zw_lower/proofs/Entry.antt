-- At the entry of an exported function: its arguments become its first locals, and those that its code writes are there.
use Rattle.std.proofs.Common.{◌≡◌, ℕ, suc, ◌<◌, ◌^◌, ℤ, pos, negsuc, Bool, true, false, cond, List, [], ◌∷◌, ◌++◌, length, map, replicate, Some, All, Contains, refl, ap, ◌∙◌, subst, arith, lit<}
use Rattle.std.specs.Prelude.{nat_eq, slice_get}
use Rattle.std.specs.List.{list_all, list_any}
use Rattle.std.specs.Str.{bytes_eq}
use Rattle.std.proofs.Math.Nat.{mod-lt}
use Rattle.std.proofs.lemmas.Bool.{and_parts, and_from, eqb-true}
use Rattle.std.proofs.lemmas.List.{length-append, length-map}
use Rattle.std.proofs.lemmas.Option.{slice_get_within}
use Rattle.zw_names.specs.NameSets.{number_in}
use Rattle.zw_form.specs.Programs.{action_of, function_of}
use Rattle.zw_form.specs.Source.{Exported, comes_in, number_of, value_of, args_fit}
use Rattle.zw_form.specs.Trees.{body_steps}
use Rattle.zw_form.specs.declared.source.Step.{Step}
use Rattle.zw_lower.specs.Modules.{writes_locals, locals_of, body_of}
use Rattle.zw_lower.proofs.ExportFacts.{in_steps}
use Rattle.zw_lower.proofs.ListLemmas.{slice_get-append_left, list_any-map_at}
use Rattle.zw_lower.proofs.NameLemmas.{contains_other}
use Rattle.zw_lower.proofs.Running.{Placed}
use Rattle.zw_safety.specs.Checked.{HasScratch, HasPanicState}
use Rattle.zw_session.specs.Incoming.{modulo}
use Rattle.zw_session.specs.Sessions.{Scalar, Number, Truth}
use Rattle.zw_wasm.proofs.Calls.{world_before, entry_of}
use Rattle.zw_wasm.specs.declared.module.ValType.TheVariants as ty
use Rattle.zw_wasm.specs.declared.num.Num.{Num}
use Rattle.zw_wasm.specs.declared.num.Num.TheVariants.{I32}
use Rattle.zw_wasm.specs.ModuleMachine.{arg_nums, bits_of_scalar}
use Rattle.zw_wasm.specs.ModuleMachine.{args_fit as module_args_fit, comes_in as module_comes_in}
use Rattle.zw_wasm.specs.Signature.{Unsigned}
use Rattle.zw_wasm.specs.Reduction.{Store}
use Rattle.zw_wasm.specs.Structure.{zeros}

-- as many numbers as the function has parameters
pub record Fitting (f : Exported) (args : List Scalar) : Type 0 where
  pub count : length args ≡ length f.params
  pub values : list_all comes_in args ≡ true

pub fitting : (f : Exported) (args : List Scalar) → args_fit (Some f) args ≡ true → Fitting f args
fitting f args h =
    let both = and_parts (nat_eq (length args) (length f.params)) (list_all comes_in args) h in
    record { count = eqb-true (length args) (length f.params) both.0; values = both.1 }

-- ---- single arguments

module_takes : (a : Scalar) → comes_in a ≡ true → module_comes_in ty.I32 a ≡ true
module_takes (Number z) h = h
module_takes (Truth b) h = absurd (cc)

modulo_below : (z : ℤ) → modulo 32 z < 2 ^ 32
modulo_below (pos n) = mod-lt n (lit< tt)
modulo_below (negsuc n) = omega arith

below : (a : Scalar) → number_of a < 2 ^ 32
below (Number z) = modulo_below z
below (Truth b) = lit< tt

as_number : (a : Scalar) → comes_in a ≡ true → bits_of_scalar ty.I32 a ≡ I32 (number_of a)
as_number (Number z) h = refl
as_number (Truth b) h = absurd (cc)

-- ---- all of them

-- they fit the module's function too
all_fit : (args : List Scalar) → list_all comes_in args ≡ true → module_args_fit (replicate (length args) (Unsigned 32)) args ≡ true
all_fit [] h = refl
all_fit (a ∷ args) h =
    let both = and_parts (comes_in a) (list_all comes_in args) h in
    and_from (module_comes_in ty.I32 a) (module_args_fit (replicate (length args) (Unsigned 32)) args) (module_takes a both.0) (all_fit args both.1)

pub args_too : (f : Exported) (args : List Scalar) → Fitting f args → module_args_fit (replicate (length f.params) (Unsigned 32)) args ≡ true
args_too f args fit = subst (λ n. module_args_fit (replicate n (Unsigned 32)) args ≡ true) fit.count (all_fit args fit.values)

-- the arguments as locals
abbrev pub arg_locals : List Scalar → List Num
arg_locals args = map (λ a. I32 (number_of a)) args

all_become : (args : List Scalar) → list_all comes_in args ≡ true → arg_nums (replicate (length args) ty.I32) args ≡ arg_locals args
all_become [] h = refl
all_become (a ∷ args) h =
    let both = and_parts (comes_in a) (list_all comes_in args) h in
    ap (λ x. x ∷ arg_nums (replicate (length args) ty.I32) args) (as_number a both.0) ∙ ap (λ xs. I32 (number_of a) ∷ xs) (all_become args both.1)

pub args_become : (f : Exported) (args : List Scalar) → Fitting f args → arg_nums (replicate (length f.params) ty.I32) args ≡ arg_locals args
args_become f args fit = subst (λ n. arg_nums (replicate n ty.I32) args ≡ arg_locals args) fit.count (all_become args fit.values)

below_either : (b : Bool) (m n : ℕ) → m < 2 ^ 32 → n < 2 ^ 32 → cond b m n < 2 ^ 32
below_either true m n h k = h
below_either false m n h k = k

-- each value is below 2^32
pub value_below : (params : List (List ℕ)) (args : List Scalar) (name : List ℕ) → value_of params args name < 2 ^ 32
value_below [] args name = lit< tt
value_below (param ∷ params) [] name = lit< tt
value_below (param ∷ params) (arg ∷ args) name =
    below_either (bytes_eq param name) (number_of arg) (value_of params args name) (below arg) (value_below params args name)

first_or_behind : (b : Bool) (x v n : ℕ) (xs : List Num) → (b ≡ false → slice_get xs n ≡ Some (I32 v)) → slice_get (I32 x ∷ xs) (cond b 0 (suc n)) ≡ Some (I32 (cond b x v))
first_or_behind true x v n xs h = refl
first_or_behind false x v n xs h = h refl

-- the local with a parameter's number holds its value
local_is : (params : List (List ℕ)) (args : List Scalar) (name : List ℕ) → length args ≡ length params → Contains params name → slice_get (arg_locals args) (number_in params name) ≡ Some (I32 (value_of params args name))
local_is [] args name same h = absurd (omega (arith, h.1))
local_is (param ∷ params) [] name same h = absurd (omega (arith, same))
local_is (param ∷ params) (arg ∷ args) name same h =
    first_or_behind (bytes_eq param name) (number_of arg) (value_of params args name) (number_in params name) (arg_locals args)
    (λ e. local_is params args name (omega (arith, same)) (contains_other param params name e h))

-- ---- the locals that code writes

-- they are behind those of the arguments
scratch_there : (imports params : List (List ℕ)) (steps : List Step) (locals : List Num) → length locals ≡ length params → All (λ s. writes_locals (action_of imports params s) ≡ true → HasScratch (length params) (locals ++ zeros (locals_of (map (action_of imports params) steps)))) steps
scratch_there imports params steps locals same = λ k d h writes.
    let some : list_any writes_locals (map (action_of imports params) steps) ≡ true = list_any-map_at writes_locals (action_of imports params) steps k d h writes in
    let eight : length (zeros (locals_of (map (action_of imports params) steps))) ≡ 8 = ap (λ b. length (zeros (cond b ((4, ty.I32) ∷ (4, ty.I64) ∷ []) []))) some in
    omega (arith, same, eight, length-append locals (zeros (locals_of (map (action_of imports params) steps))))

-- What a function's code stands on is there at its entry.
pub entry_placed : (imports : List (List ℕ)) (name : List ℕ) (f : Exported) (number arity : ℕ) (args : List Scalar) (locals : List Num) (store : Store) (replies : List ℕ) → Fitting f args → locals ≡ arg_locals args → HasPanicState store →
    Placed imports f.params (value_of f.params args) (body_steps f.body) (entry_of number arity (body_of (function_of imports (in_steps name f))) locals (world_before store replies))
entry_placed imports name f number arity args locals store replies fit become state =
    let zs = zeros (locals_of (map (action_of imports f.params) (body_steps f.body))) in
    let count : length locals ≡ length f.params = ap length become ∙ length-map args (λ (a : Scalar). I32 (number_of a)) ∙ fit.count in
    let at : (param : List ℕ) → Contains f.params param → slice_get locals (number_in f.params param) ≡ Some (I32 (value_of f.params args param)) =
    λ param h. ap (λ xs. slice_get xs (number_in f.params param)) become ∙ local_is f.params args param fit.count h in
    record {
      small = λ param h. value_below f.params args param;
      locals = λ param h. slice_get-append_left locals zs (number_in f.params param) (slice_get_within locals (number_in f.params param) _ (at param h)) ∙ at param h;
      scratch = scratch_there imports f.params (body_steps f.body) locals count;
      state = state;
    }
