-- The calls of a session, as they are found one by one.
use Rattle.std.proofs.Common.{◌≡◌, ℕ, suc, ◌-◌, ◌%◌, List, [], ◌∷◌, ◌++◌, length, map, Option, Some, None, Result, Ok, Err, true, false, refl, sym, ◌∙◌, ap, subst, inl, inr, arith, pos, negsuc, append_assoc}
use Rattle.std.proofs.lemmas.List.{append-nil}
use Rattle.std.specs.List.{AllByRecursion}
use Rattle.zw_calls.specs.Arguments.{AreArguments, Fit, argument_of, number_of, typed, typed_all}
use Rattle.zw_calls.specs.Requests.{Call}
use Rattle.zw_calls.specs.declared.arguments.Arguments.{Arguments}
use Rattle.zw_drive.specs.Exec.{AreCalls, ArePrepared, IsCall, IsDeniedCall, Prepares}
use Rattle.zw_drive.specs.ExecEnds.{CallEnds, IsNamedDenial}
use Rattle.zw_drive.specs.declared.denial.Denial.{Denial}
use Rattle.zw_drive.specs.declared.denial.Denial.TheVariants as denial
use Rattle.zw_drive.specs.declared.exec.ExecErr.{ExecErr}
use Rattle.zw_drive.specs.declared.exec.ExecErr.TheVariants as exec
use Rattle.zw_exec.specs.Sessions.{IsCallOf, value_of}
use Rattle.zw_exec.specs.declared.call.SessionCall.{SessionCall}
use Rattle.zw_report.specs.declared.arg.Arg.{Arg}
use Rattle.zw_report.specs.declared.arg.Arg.TheVariants as arg
use Rattle.zw_wasm.specs.Functions.{func_type}
use Rattle.zw_wasm.specs.ModuleMachine.{arg_nums, bits_of_scalar, export_in, param_types}
use Rattle.zw_wasm.specs.declared.module.FuncType.{FuncType}
use Rattle.zw_wasm.specs.declared.module.Module.{Module}
use Rattle.zw_wasm.specs.declared.module.TheConstants.ExportDef.{FUNC}
use Rattle.zw_wasm.specs.declared.module.ValType.{ValType}
use Rattle.zw_wasm.specs.declared.module.ValType.TheVariants as ty
use Rattle.zw_wasm.specs.declared.num.Num.{Num}
use Rattle.zw_wasm.specs.declared.num.Num.TheVariants as num
use Rattle.zw_wasm_words.specs.Segments.{first_outside}

-- ---- the numbers of a call

-- two's complement is the number modulo the width
below : (m n : ℕ) → m - 1 - n ≡ m - suc n
below m n = omega arith

typed_bits : (t : ValType) (a : Arg) → typed t (number_of a) ≡ bits_of_scalar t (value_of a)
typed_bits ty.I32 (arg.Number (pos n)) = refl
typed_bits ty.I64 (arg.Number (pos n)) = refl
typed_bits ty.I32 (arg.Number (negsuc n)) = ap (λ (b : ℕ). num.I32 b) (below 4294967296 (n % 4294967296))
typed_bits ty.I64 (arg.Number (negsuc n)) = ap (λ (b : ℕ). num.I64 b) (below 18446744073709551616 (n % 18446744073709551616))
typed_bits ty.I32 (arg.Truth true) = refl
typed_bits ty.I32 (arg.Truth false) = refl
typed_bits ty.I64 (arg.Truth true) = refl
typed_bits ty.I64 (arg.Truth false) = refl

typed_arguments : (types : List ValType) (words : List (List ℕ)) → typed_all types words ≡ arg_nums types (map value_of (map argument_of words))
typed_arguments [] words = refl
typed_arguments (t ∷ types) [] = refl
typed_arguments (t ∷ types) (word ∷ words) =
    ap (λ (n : Num). n ∷ typed_all types words) (typed_bits t (argument_of word))
    ∙ ap (λ (ns : List Num). bits_of_scalar t (value_of (argument_of word)) ∷ ns) (typed_arguments types words)

fit_length : (types : List ValType) (words : List (List ℕ)) → Fit types words → length (map argument_of words) ≡ length types
fit_length [] [] h = refl
fit_length [] (word ∷ words) h = absurd h
fit_length (t ∷ types) [] h = absurd h
fit_length (t ∷ types) (word ∷ words) h = ap (λ (n : ℕ). suc n) (fit_length types words h.1)

call_is : (m : Module) (call : Call) (c : SessionCall) → IsCall m call c → IsCallOf m c
call_is m call c h =
    subst (λ (x : SessionCall). IsCallOf m x) (sym h.same)
    (record {
      exported = h.exported;
      enough = fit_length (param_types (func_type m h.func)) call.arguments h.fit;
      numbers = typed_arguments (param_types (func_type m h.func)) call.arguments;
    })

pub calls_of : (m : Module) (calls : List Call) (cs : List SessionCall) → AreCalls m calls (Ok cs) → AllByRecursion (IsCallOf m) cs
calls_of m [] [] h = tt
calls_of m [] (c ∷ cs) h = absurd h
calls_of m (call ∷ calls) [] h = absurd h
calls_of m (call ∷ calls) (c ∷ cs) h = (call_is m call c h.0, calls_of m calls cs h.1)

-- ---- one call

abbrev make : List ℕ → ℕ → List Arg → List Num → SessionCall
make name func args nums = record { name = name; func = func; args = args; nums = nums }

-- what is wrong with a call, or there was no memory for its name
module _ (m : Module) (call : Call) where
  pub unexported : (e : ExecErr) → export_in FUNC call.name m.exports ≡ None → IsNamedDenial (λ n. denial.NoExport n) call.name e → CallEnds m call (Err e)
  unexported (exec.Denied d) none h = subst (λ (x : Denial). IsDeniedCall m call x) (sym h) (none, refl)
  unexported exec.TreeFault none h = h
  unexported exec.InputFault none h = h
  unexported exec.OutFault none h = h
  unexported exec.Oom none h = tt

  pub unfit : (e : ExecErr) (func : ℕ) (t : FuncType) → export_in FUNC call.name m.exports ≡ Some func → func_type m func ≡ Some t → (Fit t.params call.arguments → ⊥) → IsNamedDenial (λ n. denial.BadArguments n) call.name e → CallEnds m call (Err e)
  unfit (exec.Denied d) func t some is lacks h =
      subst (λ (x : Denial). IsDeniedCall m call x) (sym h)
      (record { func = func; exported = some; unfit = subst (λ (o : Option FuncType). Fit (param_types o) call.arguments → ⊥) (sym is) lacks }, refl)
  unfit exec.TreeFault func t some is lacks h = h
  unfit exec.InputFault func t some is lacks h = h
  unfit exec.OutFault func t some is lacks h = h
  unfit exec.Oom func t some is lacks h = tt

  pub fits : (func : ℕ) (t : FuncType) (read : Arguments) (c : SessionCall) → export_in FUNC call.name m.exports ≡ Some func → func_type m func ≡ Some t → AreArguments t.params call.arguments (Some read) → c ≡ record { name = call.name; func = func; args = read.values; nums = read.numbers } → IsCall m call c
  fits func t read c some is h same =
      record {
        func = func;
        exported = some;
        fit = subst (λ (o : Option FuncType). Fit (param_types o) call.arguments) (sym is) h.0;
        same = same
            ∙ ap (λ (args : List Arg). make call.name func args read.numbers) h.1
            ∙ ap (λ (nums : List Num). make call.name func (map argument_of call.arguments) nums)
            (h.2 ∙ ap (λ (o : Option FuncType). typed_all (param_types o) call.arguments) (sym is));
      }

-- ---- calls one after another

-- calls that were found, before what the others come to
abbrev pub behind : List SessionCall → Result (List SessionCall) Denial → Result (List SessionCall) Denial
behind found (Ok cs) = Ok (found ++ cs)
behind found (Err d) = Err d

-- what the calls from a place on come to, the whole list comes to behind those that were found
pub record Found (m : Module) (calls left : List Call) (found : List SessionCall) : Type 0 where
  pub whole : (r : Result (List SessionCall) Denial) → AreCalls m left r → AreCalls m calls (behind found r)

pub found_none : (m : Module) (calls : List Call) → Found m calls calls []
found_none m calls = record { whole = same }
  where
    same : (r : Result (List SessionCall) Denial) → AreCalls m calls r → AreCalls m calls (behind [] r)
    same (Ok cs) h = h
    same (Err d) h = h

one_more : (m : Module) (call : Call) (left : List Call) (c : SessionCall) (r : Result (List SessionCall) Denial) → IsCall m call c → AreCalls m left r → AreCalls m (call ∷ left) (behind (c ∷ []) r)
one_more m call left c (Ok cs) is h = (is, h)
one_more m call left c (Err d) is h = inr (c, is, h)

behind_more : (found : List SessionCall) (c : SessionCall) (r : Result (List SessionCall) Denial) → behind found (behind (c ∷ []) r) ≡ behind (found ++ c ∷ []) r
behind_more found c (Ok cs) = ap (λ (l : List SessionCall). Ok l) (sym (append_assoc found (c ∷ []) cs))
behind_more found c (Err d) = refl

pub found_more : (m : Module) (calls : List Call) (call : Call) (left : List Call) (found : List SessionCall) (c : SessionCall) → IsCall m call c → Found m calls (call ∷ left) found → Found m calls left (found ++ c ∷ [])
found_more m calls call left found c is f =
    record { whole = λ r h. subst (λ (x : Result (List SessionCall) Denial). AreCalls m calls x) (behind_more found c r) (f.whole (behind (c ∷ []) r) (one_more m call left c r is h)) }

pub found_all : (m : Module) (calls : List Call) (found : List SessionCall) → Found m calls [] found → AreCalls m calls (Ok found)
found_all m calls found f = subst (λ (l : List SessionCall). AreCalls m calls (Ok l)) (append-nil found) (f.whole (Ok []) tt)

pub found_denied : (m : Module) (calls : List Call) (call : Call) (left : List Call) (found : List SessionCall) (d : Denial) → IsDeniedCall m call d → Found m calls (call ∷ left) found → AreCalls m calls (Err d)
found_denied m calls call left found d h f = f.whole (Err d) (inl h)

-- ---- preparation

pub starts : (m : Module) (calls : List Call) (func : ℕ) → m.start ≡ Some func → Prepares m calls (Err denial.Start)
starts m calls func e = subst (λ (o : Option ℕ). ArePrepared o (first_outside m) m calls (Err denial.Start)) (sym e) refl

pub outside : (m : Module) (calls : List Call) (number : ℕ) → m.start ≡ None → first_outside m ≡ Some number → Prepares m calls (Err (denial.Segment number))
outside m calls number e f =
    subst (λ (o : Option ℕ). ArePrepared o (first_outside m) m calls (Err (denial.Segment number))) (sym e)
    (subst (λ (o : Option ℕ). ArePrepared None o m calls (Err (denial.Segment number))) (sym f) refl)

pub inside : (m : Module) (calls : List Call) (r : Result (List SessionCall) Denial) → m.start ≡ None → first_outside m ≡ None → AreCalls m calls r → Prepares m calls r
inside m calls r e f h =
    subst (λ (o : Option ℕ). ArePrepared o (first_outside m) m calls r) (sym e)
    (subst (λ (o : Option ℕ). ArePrepared None o m calls r) (sym f) h)
