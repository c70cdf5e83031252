-- The module of a file does what the file means: call by call, and so session by session.
use Rattle.std.proofs.Common.{◌≡◌, ℕ, ◌+◌, pos, true, List, [], ◌∷◌, ◌++◌, length, map, Option, Some, None, is_some, codes, refl, sym, ap, ◌∙◌, subst, arith}
use Rattle.std.specs.Prelude.{slice_get}
use Rattle.std.specs.List.{flat_map}
use Rattle.std.proofs.lemmas.Bool.{and_from}
use Rattle.std.proofs.lemmas.List.Folds.{flat_map-map}
use Rattle.zw_form.specs.Form.{IsSmall}
use Rattle.zw_form.specs.Programs.{called_in, action_of, function_of}
use Rattle.zw_form.specs.Rules.{externs_of, KeepsRules}
use Rattle.zw_form.specs.Source.{Answer, Gives, Stops, Exported, export_named, body_value, value_of, args_fit, called, call_end, outcome_of, source_machine}
use Rattle.zw_form.specs.Trees.{Tree, body_steps, declaration_of}
use Rattle.zw_lower.specs.Modules.{action_code, body_of}
use Rattle.zw_lower.specs.Views.{signature_of, view_of}
use Rattle.zw_lower.proofs.BodyRuns.{body_comes}
use Rattle.zw_lower.proofs.Entry.{Fitting, fitting, args_too, args_become, entry_placed}
use Rattle.zw_lower.proofs.ExportFacts.{in_steps, IsBuilt, is_built, cause_exported, pointer_exported, count_exported}
use Rattle.zw_lower.proofs.FileImports.{file_module, imports_hold}
use Rattle.zw_lower.proofs.Running.{steps_code, after_calls, GoesOn, HaltsSo, PanicsSo, Comes, one_number}
use Rattle.zw_safety.specs.Checked.{HasPanicState, panic_globals}
use Rattle.zw_session.proofs.Lifting.{agrees_by_calls}
use Rattle.zw_session.specs.Agrees.{Agrees, AgreesOnCalls, CallAgrees, ReturnsToo}
use Rattle.zw_session.specs.Sessions.{Scalar, Number, HostEvent, Call, Panicked, WantsReply, Running, Wild, Trapped, Returned, Halted, Outcome}
use Rattle.zw_wasm.proofs.Calls.{world_before, entry_of, call-returns, call-halts}
use Rattle.zw_wasm.proofs.MachineLasts.{machine-stays_ended}
use Rattle.zw_wasm.specs.declared.module.CodeBody.{CodeBody}
use Rattle.zw_wasm.specs.declared.module.Instr.TheVariants.{End}
use Rattle.zw_wasm.specs.declared.num.Num.{Num}
use Rattle.zw_wasm.specs.declared.num.Num.TheVariants.{I32}
use Rattle.zw_wasm.specs.Functions.{func_type}
use Rattle.zw_wasm.specs.ModuleMachine.{first_store, module_machine, call_fits, call_of, signature_fits, arg_nums, param_types, global_at, exported_global, i32_of, panic_of, trap_halt, result_reading}
use Rattle.zw_wasm.specs.ModuleMachine.{value_of as value_shown}
use Rattle.zw_wasm.specs.Reduction.{Config, World, Store, Trap, NoReply, arity_of, unreachable_trap}
use Rattle.zw_wasm.specs.Sequences.{placed}
use Rattle.zw_wasm.specs.Structure.{Ends, code_of}

-- the three globals of a panic's state, which are numbers
pub record HoldsState (store : Store) : Type 0 where
  pub cause : ℕ
  pub pointer : ℕ
  pub count : ℕ
  pub globals : store.globals ≡ I32 cause ∷ I32 pointer ∷ I32 count ∷ []

has_state : (store : Store) → HoldsState store → HasPanicState store
has_state store state = omega (arith, ap length state.globals)

abbrev Related : Unit {0} → Store → Type 0
Related state store = HoldsState store

-- ---- a panic

-- the globals that tell a cause without a message are read as such
told : (trees : List Tree) (store : Store) → store.globals ≡ I32 1 ∷ I32 0 ∷ I32 0 ∷ [] → trap_halt (file_module trees) store unreachable_trap ≡ Panicked 1 []
told trees store e =
    let m = file_module trees in
    let pointer_read = exported_global m store (codes "panic_ptr") in
    let count_read = exported_global m store (codes "panic_len") in
    let cause : exported_global m store (codes "panic_cause") ≡ Some 1 = ap (global_at store) (cause_exported trees) ∙ ap (λ gs. i32_of (slice_get gs 0)) e in
    let pointer : pointer_read ≡ Some 0 = ap (global_at store) (pointer_exported trees) ∙ ap (λ gs. i32_of (slice_get gs 1)) e in
    let count : count_read ≡ Some 0 = ap (global_at store) (count_exported trees) ∙ ap (λ gs. i32_of (slice_get gs 2)) e in
    ap (λ o. panic_of store.memory o pointer_read count_read) cause
    ∙ ap (λ o. panic_of store.memory (Some 1) o count_read) pointer
    ∙ ap (λ o. panic_of store.memory (Some 1) (Some 0) o) count

state_after : (store : Store) (globals : List Num) (cause : ℕ) → HoldsState store → cause ≡ 1 → globals ≡ panic_globals cause store.globals → globals ≡ I32 1 ∷ I32 0 ∷ I32 0 ∷ []
state_after store globals cause state one e =
    e ∙ ap (λ gs. panic_globals cause gs) state.globals ∙ ap (λ n. I32 n ∷ I32 0 ∷ I32 0 ∷ []) one

-- ---- one call of an exported function

module _ (trees : List Tree) (call : Call) (f : Exported) (built : IsBuilt trees call.name f) (store : Store) (replies : List ℕ) where
  -- the body, and where it is entered
  abbrev machine_code : CodeBody
  machine_code = body_of (function_of (called_in (map declaration_of trees)) (in_steps call.name f))

  abbrev entry : Config
  entry = entry_of built.number (arity_of (func_type (file_module trees) built.number)) machine_code (arg_nums (param_types (func_type (file_module trees) built.number)) call.args) (world_before store replies)

  abbrev machine_call : ℕ → Outcome Store
  machine_call = call_of (file_module trees) (view_of trees (file_module trees)) store call replies

  abbrev shown_by : Option Exported → List Num → Option Scalar
  shown_by o results = value_shown (result_reading (signature_of o)) results

  abbrev return_of : List HostEvent → List ℕ → ℕ → Option Scalar → Outcome Store
  return_of events left k value = record { events = events; end = Returned value store left k }

  returns_so : (n value : ℕ) (events : List HostEvent) (left : List ℕ) → HoldsState store → export_named trees call.name ≡ Some f → GoesOn (file_module trees) (view_of trees (file_module trees)) f.params events left (one_number value) entry Ends [] → ReturnsToo Related machine_call n events (Some (Number (pos value))) tt left n
  returns_so n value events left state named g =
      let w : World = after_calls events left (world_before store replies) in
      record {
        next = store;
        related = state;
        used = g.taken;
        turns = omega arith;
        returns = λ k. call-returns (file_module trees) (view_of trees (file_module trees)) store call replies built.number machine_code g.taken g.locals (one_number value ++ []) w built.exported built.own built.body g.runs k
            ∙ ap (λ o. return_of events left k (shown_by o (I32 value ∷ []))) named;
      }

  panics_so : (cause : ℕ) (message : List ℕ) (events : List HostEvent) → HoldsState store → PanicsSo (file_module trees) (view_of trees (file_module trees)) events cause message entry → (j : ℕ) × (machine_call j ≡ record { events = events; end = Halted (Panicked cause message) })
  panics_so cause message events state p =
      let h = p.halted in
      let after = state_after store h.world.store.globals cause state p.cause_is p.globals in (
        h.taken + 0,
        call-halts (file_module trees) (view_of trees (file_module trees)) store call replies built.number machine_code h.taken (Trap unreachable_trap) h.world built.exported built.own built.body h.halts 0
            ∙ ap (λ es. record { events = es; end = Halted (trap_halt (file_module trees) h.world.store unreachable_trap) }) h.shown
            ∙ ap (λ halt. record { events = events; end = Halted halt }) (told trees h.world.store after)
            ∙ ap (λ i. record { events = events; end = Halted (Panicked i []) }) (sym p.cause_is)
            ∙ ap (λ bytes. record { events = events; end = Halted (Panicked cause bytes) }) (sym p.no_message),
      )

  wants_so : (events : List HostEvent) → HaltsSo (file_module trees) (view_of trees (file_module trees)) events NoReply entry → (j : ℕ) × (machine_call j ≡ record { events = events; end = Halted WantsReply })
  wants_so events h = (
    h.taken + 0,
    call-halts (file_module trees) (view_of trees (file_module trees)) store call replies built.number machine_code h.taken NoReply h.world built.exported built.own built.body h.halts 0
        ∙ ap (λ es. record { events = es; end = Halted WantsReply }) h.shown,
  )

  -- however the body comes out, so does the call
  call_comes : (n : ℕ) (events : List HostEvent) (answer : Answer ℕ) → HoldsState store → export_named trees call.name ≡ Some f → Comes (file_module trees) (view_of trees (file_module trees)) f.params one_number events answer entry Ends [] → CallAgrees Related machine_call n events (call_end answer n)
  call_comes n events (Gives value left) state named g = returns_so n value events left state named g
  call_comes n events (Stops (Panicked cause message)) state named p = panics_so cause message events state p
  call_comes n events (Stops WantsReply) state named h = wants_so events h
  call_comes n events (Stops Running) state named h = absurd h
  call_comes n events (Stops Wild) state named h = absurd h
  call_comes n events (Stops (Trapped code)) state named h = absurd h

  -- the body comes out from its entry
  entry_comes : KeepsRules (map declaration_of trees) → HoldsState store → Fitting f call.args → Comes (file_module trees) (view_of trees (file_module trees)) f.params one_number (body_value (value_of f.params call.args) f.body replies).events (body_value (value_of f.params call.args) f.body replies).end entry Ends []
  entry_comes rules state fit =
      let file = map declaration_of trees in
      let imports = called_in file in
      let steps = body_steps f.body in
      let values = value_of f.params call.args in
      let r = body_value values f.body replies in
      let become = ap (λ t. arg_nums (param_types t) call.args) built.typed ∙ args_become f call.args fit in
      let placed_there = entry_placed imports call.name f built.number (arity_of (func_type (file_module trees) built.number)) call.args (arg_nums (param_types (func_type (file_module trees) built.number)) call.args) store replies fit become (has_state store state) in
      let same : steps_code imports f.params steps ≡ flat_map (action_code (length f.params)) (map (action_of imports f.params) steps) = sym (flat_map-map (action_code (length f.params)) (action_of imports f.params) steps) in
      subst (λ is. Comes (file_module trees) (view_of trees (file_module trees)) f.params one_number r.events r.end (placed (code_of (is ++ End ∷ [])) [] entry) Ends []) same
      (body_comes (file_module trees) (view_of trees (file_module trees)) (externs_of file) imports f.params values f.body entry [] (End ∷ []) (imports_hold trees rules) built.known built.fit built.imported placed_there)

-- ---- each call

call_agrees : (trees : List Tree) → KeepsRules (map declaration_of trees) → IsSmall trees → (store : Store) → HoldsState store → (call : Call) (replies : List ℕ) (n : ℕ) (o : Option Exported) → export_named trees call.name ≡ o → args_fit o call.args ≡ true → CallAgrees Related (call_of (file_module trees) (view_of trees (file_module trees)) store call replies) n (outcome_of (called o call.args replies) n).events (outcome_of (called o call.args replies) n).end
call_agrees trees rules small store state call replies n None named fits = absurd (cc)
call_agrees trees rules small store state call replies n (Some f) named fits =
    let fit = fitting f call.args fits in
    let built = is_built trees call.name f rules small named in
    let values = value_of f.params call.args in
    let r = body_value values f.body replies in
    call_comes trees call f built store replies n r.events r.end state named
    (entry_comes trees call f built store replies rules state fit)

-- what may be called of the file may be called of its module
call_fits_too : (trees : List Tree) → KeepsRules (map declaration_of trees) → IsSmall trees → (call : Call) (o : Option Exported) → export_named trees call.name ≡ o → args_fit o call.args ≡ true → call_fits (file_module trees) (view_of trees (file_module trees)) call ≡ true
call_fits_too trees rules small call None named fits = absurd (cc)
call_fits_too trees rules small call (Some f) named fits =
    let fit = fitting f call.args fits in
    let built = is_built trees call.name f rules small named in
    and_from _ _ (ap (λ o. is_some o) built.exported) (ap (λ o. signature_fits (signature_of o) call.args) named ∙ args_too f call.args fit)

calls_agree : (trees : List Tree) → KeepsRules (map declaration_of trees) → IsSmall trees → AgreesOnCalls Related (source_machine trees) (module_machine (file_module trees) (view_of trees (file_module trees)))
calls_agree trees rules small = record {
  fits = λ call h. call_fits_too trees rules small call (export_named trees call.name) refl h;
  calls = λ state store related call h replies n. call_agrees trees rules small store related call replies n (export_named trees call.name) refl h;
}

-- The sessions of the module of a file are those of the file.
pub file_agrees : (trees : List Tree) → KeepsRules (map declaration_of trees) → IsSmall trees → Agrees (source_machine trees) tt (module_machine (file_module trees) (view_of trees (file_module trees))) (first_store (file_module trees))
file_agrees trees rules small =
    let m = file_module trees in
    let v = view_of trees m in
    agrees_by_calls Related (source_machine trees) (module_machine m v) (calls_agree trees rules small) (machine-stays_ended m v) tt (first_store m)
    (record { cause = 0; pointer = 0; count = 0; globals = refl })
