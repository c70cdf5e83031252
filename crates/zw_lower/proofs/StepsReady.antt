-- What is asked of steps and of a configuration before their code runs, for parts of the steps and further on.
use Rattle.std.proofs.Common.{◌≡◌, ℕ, ◌+◌, ◌≤◌, true, List, [], ◌++◌, length, sym, ◌∙◌, subst, All, Contains}
use Rattle.std.proofs.lemmas.List.Elements.{All-nil, All-weaker}
use Rattle.zw_form.specs.Form.{FitsStep}
use Rattle.zw_names.specs.NameSets.{number_in}
use Rattle.zw_form.specs.Programs.{action_of}
use Rattle.zw_form.specs.Rules.{IsKnown}
use Rattle.zw_form.specs.declared.source.ExternFunction.{ExternFunction}
use Rattle.zw_form.specs.declared.source.Step.{Step}
use Rattle.zw_lower.proofs.ComesCompose.{gone_on}
use Rattle.zw_lower.proofs.ListLemmas.{All-left, All-right}
use Rattle.zw_lower.proofs.NameLemmas.{number_in-below}
use Rattle.zw_lower.proofs.Running.{Imports, Placed}
use Rattle.zw_lower.specs.Modules.{writes_locals}
use Rattle.zw_safety.specs.Checked.{HasScratch, KeepsOthers}
use Rattle.zw_session.specs.Sessions.{HostEvent}
use Rattle.zw_wasm.specs.declared.module.Module.{Module}
use Rattle.zw_wasm.specs.declared.num.Num.{Num}
use Rattle.zw_wasm.specs.Reduction.{Config}
use Rattle.zw_wasm.specs.Signature.{View}

-- the steps name what is there, and are of 32 bits; what they call is imported; and their code may run here
pub record Ready (m : Module) (v : View) (externs : List ExternFunction) (imports params : List (List ℕ)) (values : List ℕ → ℕ) (steps : List Step) (callees : List (List ℕ)) (c : Config) : Type 0 where
  pub imported : Imports m v externs imports
  pub known : All (IsKnown externs params) steps
  pub fits : All FitsStep steps
  pub called : All (Contains imports) callees
  pub at : Placed imports params values steps c

-- the locals that a step's code writes are there
abbrev pub HasLocals : List (List ℕ) → List (List ℕ) → List Num → Step → Type 0
HasLocals imports params locals s = writes_locals (action_of imports params s) ≡ true → HasScratch (length params) locals

-- the same of each part of the steps
pub placed-left : (imports params : List (List ℕ)) (values : List ℕ → ℕ) (steps others : List Step) (c : Config) → Placed imports params values (steps ++ others) c → Placed imports params values steps c
placed-left imports params values steps others c h =
    record { small = h.small; locals = h.locals; scratch = All-left (HasLocals imports params c.frame.locals) steps others h.scratch; state = h.state }

pub placed-right : (imports params : List (List ℕ)) (values : List ℕ → ℕ) (steps others : List Step) (c : Config) → Placed imports params values (steps ++ others) c → Placed imports params values others c
placed-right imports params values steps others c h =
    record { small = h.small; locals = h.locals; scratch = All-right (HasLocals imports params c.frame.locals) steps others h.scratch; state = h.state }

-- and behind code that goes on
pub placed-on : (imports params : List (List ℕ)) (values : List ℕ → ℕ) (steps : List Step) (c : Config) (events : List HostEvent) (left : List ℕ) (locals : List Num) → Placed imports params values steps c → KeepsOthers (length params) c.frame.locals locals → Placed imports params values steps (gone_on events left locals c)
placed-on imports params values steps c events left locals h kept = record {
  small = h.small;
  locals = λ name there. kept.below (number_in params name) (number_in-below params name there) ∙ h.locals name there;
  scratch = All-weaker (HasLocals imports params c.frame.locals) (HasLocals imports params locals) (λ s has writes. subst (λ n. length params + 8 ≤ n) (sym kept.count) (has writes)) steps h.scratch;
  state = h.state;
}

pub ready-left : {m : Module} {v : View} {externs : List ExternFunction} {imports params : List (List ℕ)} {values : List ℕ → ℕ} {c : Config} → (steps others : List Step) (callees more : List (List ℕ)) → Ready m v externs imports params values (steps ++ others) (callees ++ more) c → Ready m v externs imports params values steps callees c
ready-left {externs = externs} {imports = imports} {params = params} {values = values} {c = c} steps others callees more h = record {
  imported = h.imported;
  known = All-left (IsKnown externs params) steps others h.known;
  fits = All-left FitsStep steps others h.fits;
  called = All-left (Contains imports) callees more h.called;
  at = placed-left imports params values steps others c h.at;
}

pub ready-right : {m : Module} {v : View} {externs : List ExternFunction} {imports params : List (List ℕ)} {values : List ℕ → ℕ} {c : Config} → (steps others : List Step) (callees more : List (List ℕ)) → Ready m v externs imports params values (steps ++ others) (callees ++ more) c → Ready m v externs imports params values others more c
ready-right {externs = externs} {imports = imports} {params = params} {values = values} {c = c} steps others callees more h = record {
  imported = h.imported;
  known = All-right (IsKnown externs params) steps others h.known;
  fits = All-right FitsStep steps others h.fits;
  called = All-right (Contains imports) callees more h.called;
  at = placed-right imports params values steps others c h.at;
}

-- the first steps call the last of the names, as arguments do that stand before their call
pub ready-args : {m : Module} {v : View} {externs : List ExternFunction} {imports params : List (List ℕ)} {values : List ℕ → ℕ} {c : Config} → (steps others : List Step) (callees more : List (List ℕ)) → Ready m v externs imports params values (steps ++ others) (callees ++ more) c → Ready m v externs imports params values steps more c
ready-args {externs = externs} {imports = imports} {params = params} {values = values} {c = c} steps others callees more h = record {
  imported = h.imported;
  known = All-left (IsKnown externs params) steps others h.known;
  fits = All-left FitsStep steps others h.fits;
  called = All-right (Contains imports) callees more h.called;
  at = placed-left imports params values steps others c h.at;
}

-- the last steps call nothing
pub ready-last : {m : Module} {v : View} {externs : List ExternFunction} {imports params : List (List ℕ)} {values : List ℕ → ℕ} {c : Config} → (steps others : List Step) (callees : List (List ℕ)) → Ready m v externs imports params values (steps ++ others) callees c → Ready m v externs imports params values others [] c
ready-last {externs = externs} {imports = imports} {params = params} {values = values} {c = c} steps others callees h = record {
  imported = h.imported;
  known = All-right (IsKnown externs params) steps others h.known;
  fits = All-right FitsStep steps others h.fits;
  called = All-nil (Contains imports);
  at = placed-right imports params values steps others c h.at;
}

pub ready-on : {m : Module} {v : View} {externs : List ExternFunction} {imports params : List (List ℕ)} {values : List ℕ → ℕ} {steps : List Step} {callees : List (List ℕ)} {c : Config} → (events : List HostEvent) (left : List ℕ) (locals : List Num) → Ready m v externs imports params values steps callees c → KeepsOthers (length params) c.frame.locals locals → Ready m v externs imports params values steps callees (gone_on events left locals c)
ready-on {imports = imports} {params = params} {values = values} {steps = steps} {c = c} events left locals h kept = record {
  imported = h.imported;
  known = h.known;
  fits = h.fits;
  called = h.called;
  at = placed-on imports params values steps c events left locals h.at kept;
}
