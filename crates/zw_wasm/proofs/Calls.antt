-- From a run of a function's body to the outcome of a call.
use Rattle.std.proofs.Common.{◌≡◌, ℕ, ◌+◌, ◌-◌, false, List, [], ◌∷◌, ◌++◌, length, Some, refl, ap, ◌∙◌}
use Rattle.std.specs.Prelude.{nat_lt, slice_get, cond}
use Rattle.std.proofs.lemmas.List.{append-nil}
use Rattle.zw_session.specs.Sessions.{Call, Returned}
use Rattle.zw_wasm.proofs.RunsCompose.{rests}
use Rattle.zw_wasm.specs.declared.module.CodeBody.{CodeBody}
use Rattle.zw_wasm.specs.declared.module.Module.{Module}
use Rattle.zw_wasm.specs.declared.module.TheConstants.ExportDef.{FUNC}
use Rattle.zw_wasm.specs.ModuleMachine.{host_frame, idle, arg_nums, param_types, begun, run_export, export_in, end_of, outcome_of, call_of, value_of, result_reading}
use Rattle.zw_wasm.specs.Reduction.{Config, World, Store, Stop, CallsHost, arity_of, entered, enter, resolved, Run, Ended, Finished, run}
use Rattle.zw_wasm.specs.Sequences.{Runs, Halts}
use Rattle.zw_wasm.specs.Signature.{View}
use Rattle.zw_wasm.specs.Structure.{Num, Ends, code_of, zeros}
use Rattle.zw_wasm.specs.Functions.{func_type}

-- the world before a call
abbrev pub world_before : Store → List ℕ → World
world_before store replies = record { store = store; replies = replies; events = [] }

-- a function of this number and body, with so many results, called from outside with these arguments
abbrev pub entry_of : ℕ → ℕ → CodeBody → List Num → World → Config
entry_of f arity b args w = record {
  frame = record { func = f; arity = arity; locals = args ++ zeros b.locals; operands = []; code = code_of b.instrs; labels = [] };
  below = host_frame ∷ [];
  world = w;
}

-- and at its end, with these locals and results
abbrev pub end_of_body : ℕ → ℕ → List Num → List Num → World → Config
end_of_body f arity locals results w = record {
  frame = record { func = f; arity = arity; locals = locals; operands = results; code = Ends; labels = [] };
  below = host_frame ∷ [];
  world = w;
}

-- a function with a body is entered
pub enter-is : (m : Module) (f : ℕ) (args : List Num) (w : World) (b : CodeBody) → nat_lt f (length m.imports) ≡ false → slice_get m.codes (f - length m.imports) ≡ Some b → enter m f args (idle w) ≡ entered (Some b) f (arity_of (func_type m f)) args (idle w)
enter-is m f args w b own e =
    ap (λ t. cond t (CallsHost f args (idle w)) (entered (slice_get m.codes (f - length m.imports)) f (arity_of (func_type m f)) args (idle w))) own
    ∙ ap (λ o. entered o f (arity_of (func_type m f)) args (idle w)) e

-- The outcome of a call of a function with a body is that of the run of the body.
call-runs : (m : Module) (v : View) (store : Store) (c : Call) (replies : List ℕ) (f : ℕ) (b : CodeBody) (bound : ℕ) (r : Run) → export_in FUNC c.name m.exports ≡ Some f → nat_lt f (length m.imports) ≡ false → slice_get m.codes (f - length m.imports) ≡ Some b → run m v bound (entry_of f (arity_of (func_type m f)) b (arg_nums (param_types (func_type m f)) c.args) (world_before store replies)) ≡ r → call_of m v store c replies bound ≡ outcome_of m (result_reading (v.exported c.name)) r
call-runs m v store c replies f b bound r exported own body runs =
    let before = world_before store replies in
    let reading = result_reading (v.exported c.name) in
    let args = arg_nums (param_types (func_type m f)) c.args in
    ap (λ o. outcome_of m reading (run_export o m v c.args before bound)) exported
    ∙ ap (λ a. outcome_of m reading (begun (resolved m v before a) before m v bound)) (enter-is m f args before b own body)
    ∙ ap (outcome_of m reading) runs

-- A function whose body runs to its end in j instructions returns, with what is left of the bound behind them.
pub call-returns : (m : Module) (v : View) (store : Store) (c : Call) (replies : List ℕ) (f : ℕ) (b : CodeBody) (j : ℕ) (locals results : List Num) (w : World) → export_in FUNC c.name m.exports ≡ Some f → nat_lt f (length m.imports) ≡ false → slice_get m.codes (f - length m.imports) ≡ Some b → Runs m v (entry_of f (arity_of (func_type m f)) b (arg_nums (param_types (func_type m f)) c.args) (world_before store replies)) (end_of_body f (arity_of (func_type m f)) locals results w) j → (k : ℕ) → call_of m v store c replies (j + k) ≡ record { events = w.events; end = Returned (value_of (result_reading (v.exported c.name)) results) w.store w.replies k }
call-returns m v store c replies f b j locals results w exported own body runs k =
    let reading = result_reading (v.exported c.name) in
    let rested = rests m v (end_of_body f (arity_of (func_type m f)) locals results w) (results ++ []) refl k in
    call-runs m v store c replies f b (j + k) _ exported own body (runs.by k ∙ rested)
    ∙ ap (λ rs. outcome_of m reading (Ended (Finished rs) w k)) (append-nil results)

-- A function whose body halts in j instructions halts so, whatever is left of the bound.
pub call-halts : (m : Module) (v : View) (store : Store) (c : Call) (replies : List ℕ) (f : ℕ) (b : CodeBody) (j : ℕ) (s : Stop) (w : World) → export_in FUNC c.name m.exports ≡ Some f → nat_lt f (length m.imports) ≡ false → slice_get m.codes (f - length m.imports) ≡ Some b → Halts m v (entry_of f (arity_of (func_type m f)) b (arg_nums (param_types (func_type m f)) c.args) (world_before store replies)) s w j → (k : ℕ) → call_of m v store c replies (j + k) ≡ record { events = w.events; end = end_of m (result_reading (v.exported c.name)) s w k }
call-halts m v store c replies f b j s w exported own body halts k =
    call-runs m v store c replies f b (j + k) _ exported own body (halts.by k)
