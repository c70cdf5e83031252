-- What the code of each step does, and of steps one after another.
use Rattle.std.proofs.Common.{◌≡◌, ℕ, ℤ, pos, negsuc, ◌%◌, ◌<◌, ◌^◌, Bool, true, false, List, [], ◌∷◌, ◌++◌, length, Result, Ok, Err, refl, sym, ap, ◌∙◌, subst, append_assoc, Contains}
use Rattle.std.proofs.lemmas.Grind.{flat_map-append}
use Rattle.std.proofs.lemmas.Int.{of_z-to_z}
use Rattle.std.proofs.lemmas.List.{append-nil}
use Rattle.std.proofs.lemmas.List.Elements.{All-head}
use Rattle.std.specs.Int.{cast_signed, w32}
use Rattle.std.specs.Option.{option_map}
use Rattle.std.specs.Prelude.{unsigned_abs}
use Rattle.std.specs.Result.{result_ok}
use Rattle.std.specs.List.{flat_map}
use Rattle.zw_names.specs.NameSets.{number_in}
use Rattle.zw_form.specs.Programs.{action_of}
use Rattle.zw_form.specs.Rules.{IsKnown}
use Rattle.zw_form.specs.Source.{Evaluated, Gives, gives, and_then, operator_value, or_overflow, event_of, asked}
use Rattle.zw_form.specs.declared.source.ExternFunction.{ExternFunction}
use Rattle.zw_num.specs.Meanings.{arithmetic}
use Rattle.zw_num.specs.declared.num_fault.NumFault.{NumFault}
use Rattle.zw_num.specs.declared.operator.Arithmetic.{Arithmetic}
use Rattle.zw_num.specs.declared.operator.Operator.TheVariants as family
use Rattle.zw_form.specs.declared.source.Step.{Step}
use Rattle.zw_form.specs.declared.source.Step.TheVariants as step
use Rattle.zw_lower.proofs.BodySmall.{AreArgs}
use Rattle.zw_lower.proofs.ComesCompose.{gone_on, IfGives, comes-then, goes_on-quietly, goes_on-pushing}
use Rattle.zw_lower.proofs.HostCalls.{IsHostCall, host_call}
use Rattle.zw_lower.proofs.OnU32.{IsNumberOrOverflow, arithmetic-is, arithmetic-right, word-in, in-word, never-below, word-is}
use Rattle.zw_lower.proofs.Running.{Comes, GoesOn, Imports, one_number, numbers_reversed, steps_code, words}
use Rattle.zw_lower.proofs.StepsReady.{Ready, HasLocals}
use Rattle.zw_lower.specs.Modules.{action_code, on_u32}
use Rattle.zw_safety.proofs.Locals.{keeps-same}
use Rattle.zw_session.specs.Causes.{integer_overflow}
use Rattle.zw_safety.specs.Checked.{u32, KeepsOthers, panicked}
use Rattle.zw_safety.specs.Families.{stored_code}
use Rattle.zw_safety_narrow.specs.Operators.{EndsWith, cause_of, filled}
use Rattle.zw_wasm.proofs.RunsCompose.{runs-none, runs-local_get, runs-i32_const, runs-host_void, runs-host_reply, halts-host_wants}
use Rattle.zw_wasm.specs.declared.module.Instr.{Instr}
use Rattle.zw_wasm.specs.declared.module.Instr.TheVariants.{Call}
use Rattle.zw_wasm.specs.declared.module.ValType.TheVariants as ty
use Rattle.zw_wasm.specs.declared.module.Module.{Module}
use Rattle.zw_wasm.specs.declared.num.Num.{Num}
use Rattle.zw_wasm.specs.declared.num.Num.TheVariants.{I32}
use Rattle.zw_wasm.specs.Reduction.{Config, NoReply, Trap, unreachable_trap, with_event, with_world}
use Rattle.zw_wasm.specs.Sequences.{placed, with_locals, Runs, Halts}
use Rattle.zw_wasm.specs.Signature.{View}
use Rattle.zw_wasm.specs.Structure.{Code, Plain, code_of, word_of}

-- The code of steps comes out as evaluating does: from these operands, to those below what it pushes.
abbrev pub StepsCome : {V : Type 0} → Module → View → List (List ℕ) → List (List ℕ) → (V → List Num) → Evaluated V → List Step → Config → List Num → List Instr → List Num → Type 0
StepsCome m v imports params p r steps c under rest os =
    Comes m v params p r.events r.end (placed (code_of (steps_code imports params steps ++ rest)) under c) (code_of rest) os

steps_code-append : (imports params : List (List ℕ)) (steps others : List Step) (rest : List Instr) → steps_code imports params (steps ++ others) ++ rest ≡ steps_code imports params steps ++ (steps_code imports params others ++ rest)
steps_code-append imports params steps others rest =
    let code = λ (s : Step). action_code (length params) (action_of imports params s) in
    ap (λ is. is ++ rest) (flat_map-append code steps others) ∙ append_assoc (flat_map code steps) (flat_map code others) rest

-- a call's step
abbrev pub called : List ℕ → ℕ → Bool → Step
called callee count has_result = step.Call (record { name = callee; args = count; has_result = has_result })

-- steps, and then others with what they gave
pub steps-then : {V W : Type 0} (P : V → Type 0) (m : Module) (v : View) (imports params : List (List ℕ)) (p : V → List Num) (q : W → List Num) (steps others : List Step) (first : Evaluated V) (go : V → List ℕ → Evaluated W) (c : Config) (under mid : List Num) (rest : List Instr) (os : List Num) → StepsCome m v imports params p first steps c under (steps_code imports params others ++ rest) mid → IfGives P first.end → ((value : V) (left : List ℕ) (locals : List Num) → P value → KeepsOthers (length params) c.frame.locals locals → StepsCome m v imports params q (go value left) others (gone_on first.events left locals c) (p value ++ mid) rest os) → StepsCome m v imports params q (and_then first go) (steps ++ others) c under rest os
steps-then P m v imports params p q steps others first go c under mid rest os h has k =
    let r = and_then first go in
    subst (λ is. Comes m v params q r.events r.end (placed (code_of is) under c) (code_of rest) os) (sym (steps_code-append imports params steps others rest))
    (comes-then P m v params p q first.events first.end go (placed (code_of (steps_code imports params steps ++ (steps_code imports params others ++ rest))) under c) (code_of (steps_code imports params others ++ rest)) mid (code_of rest) os h has k)

-- no code, where what was there is what is to be pushed
pub nothing-comes : {V : Type 0} (m : Module) (v : View) (imports params : List (List ℕ)) (p : V → List Num) (value : V) (c : Config) (under : List Num) (rest : List Instr) (os : List Num) → under ≡ p value ++ os → StepsCome m v imports params p (gives value c.world.replies) [] c under rest os
nothing-comes m v imports params p value c under rest os e =
    goes_on-pushing m v params (p value) (placed (code_of rest) under c) 0 (code_of rest) os
    (subst (λ xs. Runs m v (placed (code_of rest) under c) (placed (code_of rest) xs c) 0) e (runs-none m v (placed (code_of rest) under c)))

pub parameter-comes : (m : Module) (v : View) (externs : List ExternFunction) (imports params : List (List ℕ)) (values : List ℕ → ℕ) (name : List ℕ) (c : Config) (os : List Num) (rest : List Instr) → Ready m v externs imports params values (step.Parameter name ∷ []) [] c → StepsCome m v imports params one_number (gives (values name) c.world.replies) (step.Parameter name ∷ []) c os rest os
parameter-comes m v externs imports params values name c os rest h =
    goes_on-pushing m v params (one_number (values name)) (placed (code_of (steps_code imports params (step.Parameter name ∷ []) ++ rest)) os c) 1 (code_of rest) os
    (runs-local_get m v c (number_in params name) (I32 (values name)) (code_of rest) os (h.at.locals name (All-head (IsKnown externs params) (step.Parameter name) [] h.known)))

pub number-comes : (m : Module) (v : View) (imports params : List (List ℕ)) (n : ℕ) (c : Config) (os : List Num) (rest : List Instr) → n < 2 ^ 32 → StepsCome m v imports params one_number (gives n c.world.replies) (step.Number n ∷ []) c os rest os
number-comes m v imports params n c os rest small =
    let start = placed (code_of (steps_code imports params (step.Number n ∷ []) ++ rest)) os c in
    let word : word_of (cast_signed w32 n) ≡ n = of_z-to_z w32 n small in
    goes_on-pushing m v params (one_number n) start 1 (code_of rest) os
    (subst (λ k. Runs m v start (placed (code_of rest) (I32 k ∷ os) c) 1) word (runs-i32_const m v c (cast_signed w32 n) (code_of rest) os))

-- ---- operators

value-comes : (r : Result ℤ NumFault) (m : Module) (v : View) (params : List (List ℕ)) (start : Config) (rest : Code) (os : List Num) → IsNumberOrOverflow r → EndsWith m v (length params) u32 r start rest os → let e = or_overflow (option_map unsigned_abs (result_ok r)) start.world.replies in Comes m v params one_number e.events e.end start rest os
value-comes (Ok (pos n)) m v params start rest os is h =
    goes_on-quietly m v params (one_number n) h.locals start h.taken rest os h.kept
    (subst (λ x. Runs m v start (placed rest (x ∷ os) (with_locals h.locals start)) h.taken) (word-is n (in-word n is)) h.runs)
value-comes (Ok (negsuc n)) m v params start rest os is h = absurd (never-below n is)
value-comes (Err fault) m v params start rest os is h = record {
  no_message = refl;
  cause_is = refl;
  halted = record {
    world = panicked integer_overflow start.world;
    taken = h.taken;
    shown = sym (append-nil start.world.events);
    halts = subst (λ f. Halts m v start (Trap unreachable_trap) (panicked (cause_of f) start.world) h.taken) is h.halts;
  };
  globals = refl;
}

pub operator-comes : (m : Module) (v : View) (externs : List ExternFunction) (imports params : List (List ℕ)) (values : List ℕ → ℕ) (operator : Arithmetic) (x y : ℕ) (c : Config) (os : List Num) (rest : List Instr) → Ready m v externs imports params values (step.Operate operator ∷ []) [] c → x < 2 ^ 32 → y < 2 ^ 32 → StepsCome m v imports params one_number (or_overflow (operator_value operator x y) c.world.replies) (step.Operate operator ∷ []) c (I32 y ∷ I32 x ∷ os) rest os
operator-comes m v externs imports params values operator x y c os rest h small_x small_y =
    let s = length params in
    let code = stored_code (family.Arithmetic operator) (on_u32 s) in
    let r = arithmetic operator u32 (pos x) (pos y) in
    let has = All-head (HasLocals imports params c.frame.locals) (step.Operate operator) [] h.at.scratch in
    let ends = (arithmetic-right operator s).ends m v c (pos x) (pos y) os rest (word-in x small_x) (word-in y small_y) has h.at.state in
    let of_words = subst (λ k. EndsWith m v s u32 r (placed (code_of (code ++ rest)) (k ∷ I32 x ∷ os) c) (code_of rest) os) (word-is y small_y)
    (subst (λ k. EndsWith m v s u32 r (placed (code_of (code ++ rest)) (filled u32 (pos y) ∷ k ∷ os) c) (code_of rest) os) (word-is x small_x) ends) in
    let alone = subst (λ is. EndsWith m v s u32 r (placed (code_of (is ++ rest)) (I32 y ∷ I32 x ∷ os) c) (code_of rest) os) (sym (append-nil code)) of_words in
    value-comes r m v params (placed (code_of ((code ++ []) ++ rest)) (I32 y ∷ I32 x ∷ os) c) (code_of rest) os (arithmetic-is operator (pos x) (pos y)) alone

-- ---- calls

call-asks : (replies : List ℕ) (m : Module) (v : View) (params : List (List ℕ)) (k : ℕ) (name ns : List ℕ) (c : Config) (rest : Code) (os : List Num) → c.world.replies ≡ replies → IsHostCall m v k name ns true → Comes m v params one_number (asked (event_of name ns) replies).events (asked (event_of name ns) replies).end (placed (Plain (Call k) rest) (numbers_reversed ns ++ os) c) rest os
call-asks [] m v params k name ns c rest os e h =
    let start = placed (Plain (Call k) rest) (numbers_reversed ns ++ os) c in
    record {
      world = with_event (event_of name ns) c.world;
      taken = 1;
      shown = refl;
      halts = subst (λ event. Halts m v start NoReply (with_event event c.world) 1) h.shows
          (halts-host_wants m v c k h.type ty.I32 (words ns) [] rest os h.imported h.typed h.count (h.no_bytes c.world.store.memory) h.result e);
    }
call-asks (r ∷ rs) m v params k name ns c rest os e h =
    let start = placed (Plain (Call k) rest) (numbers_reversed ns ++ os) c in
    record {
      locals = c.frame.locals;
      kept = keeps-same (length params) c.frame.locals;
      taken = 1;
      runs = subst (λ event. Runs m v start (placed rest (I32 (r % 2 ^ 32) ∷ os) (with_world (record (with_event event c.world) { replies = rs }) c)) 1) h.shows
          (runs-host_reply m v c k h.type ty.I32 (words ns) [] r rs rest os h.imported h.typed h.count (h.no_bytes c.world.store.memory) h.result e);
    }

-- a statement pushes nothing
abbrev pub no_numbers : Unit {0} → List Num
no_numbers done = []

call-tells : (m : Module) (v : View) (params : List (List ℕ)) (k : ℕ) (name ns : List ℕ) (c : Config) (rest : Code) (os : List Num) → IsHostCall m v k name ns false → GoesOn m v params (event_of name ns ∷ []) c.world.replies [] (placed (Plain (Call k) rest) (numbers_reversed ns ++ os) c) rest os
call-tells m v params k name ns c rest os h =
    let start = placed (Plain (Call k) rest) (numbers_reversed ns ++ os) c in
    record {
      locals = c.frame.locals;
      kept = keeps-same (length params) c.frame.locals;
      taken = 1;
      runs = subst (λ event. Runs m v start (placed rest os (with_world (with_event event c.world) c)) 1) h.shows
          (runs-host_void m v c k h.type (words ns) [] rest os h.imported h.typed h.count (h.no_bytes c.world.store.memory) h.result);
    }

-- a call for its result
pub call-comes : (m : Module) (v : View) (externs : List ExternFunction) (imports params : List (List ℕ)) (callee : List ℕ) (count : ℕ) (ns : List ℕ) (c : Config) (os : List Num) (rest : List Instr) → Imports m v externs imports → IsKnown externs params (called callee count true) → Contains imports callee → AreArgs count ns → StepsCome m v imports params one_number (asked (event_of callee ns) c.world.replies) (called callee count true ∷ []) c (numbers_reversed ns ++ os) rest os
call-comes m v externs imports params callee count ns c os rest imported known there are =
    call-asks c.world.replies m v params (number_in imports callee) callee ns c (code_of rest) os refl
    (host_call m v externs imports params (record { name = callee; args = count; has_result = true }) ns imported known there are)

-- and one without a result
pub call-told : (m : Module) (v : View) (externs : List ExternFunction) (imports params : List (List ℕ)) (callee : List ℕ) (count : ℕ) (ns : List ℕ) (c : Config) (os : List Num) (rest : List Instr) → Imports m v externs imports → IsKnown externs params (called callee count false) → Contains imports callee → AreArgs count ns → StepsCome m v imports params no_numbers (record { events = event_of callee ns ∷ []; end = Gives tt c.world.replies }) (called callee count false ∷ []) c (numbers_reversed ns ++ os) rest os
call-told m v externs imports params callee count ns c os rest imported known there are =
    call-tells m v params (number_in imports callee) callee ns c (code_of rest) os
    (host_call m v externs imports params (record { name = callee; args = count; has_result = false }) ns imported known there are)
