-- How parts of code that come out one after another come out together.
use Rattle.std.proofs.Common.{ℕ, ◌+◌, List, [], ◌++◌, length, sym, ◌∙◌, subst, append_assoc}
use Rattle.std.proofs.lemmas.List.{append-nil}
use Rattle.zw_form.specs.Source.{Evaluated, Answer, Gives, Stops, goes_on}
use Rattle.zw_lower.proofs.Running.{Comes, GoesOn, HaltsSo, after_calls}
use Rattle.zw_safety.proofs.Locals.{keeps-same}
use Rattle.zw_safety.specs.Checked.{KeepsOthers}
use Rattle.zw_session.specs.Sessions.{HostEvent, Panicked, WantsReply, Running, Wild, Trapped}
use Rattle.zw_wasm.proofs.RunsCompose.{runs-then, halts-then}
use Rattle.zw_wasm.specs.declared.module.Module.{Module}
use Rattle.zw_wasm.specs.declared.num.Num.{Num}
use Rattle.zw_wasm.specs.Reduction.{Config, Stop, with_world}
use Rattle.zw_wasm.specs.Sequences.{placed, with_locals, Runs}
use Rattle.zw_wasm.specs.Signature.{View}
use Rattle.zw_wasm.specs.Structure.{Code}

-- the configuration behind these host calls, with these replies left and these locals
abbrev pub gone_on : List HostEvent → List ℕ → List Num → Config → Config
gone_on events left locals c = with_locals locals (with_world (after_calls events left c.world) c)

pub keeps-then : (scratch : ℕ) (a b c : List Num) → KeepsOthers scratch a b → KeepsOthers scratch b c → KeepsOthers scratch a c
keeps-then scratch a b c h k = record {
  count = k.count ∙ h.count;
  below = λ n low. k.below n low ∙ h.below n low;
  above = λ n high. k.above n high ∙ h.above n high;
}

-- two runs that go on
goes_on-then : (m : Module) (v : View) (params : List (List ℕ)) (events more : List HostEvent) (left leaves : List ℕ) (locals xs pushed : List Num) (code : Code) (start : Config) (n : ℕ) (rest : Code) (os : List Num) → KeepsOthers (length params) start.frame.locals locals → Runs m v start (placed code xs (gone_on events left locals start)) n → GoesOn m v params more leaves pushed (placed code xs (gone_on events left locals start)) rest os → GoesOn m v params (events ++ more) leaves pushed start rest os
goes_on-then m v params events more left leaves locals xs pushed code start n rest os kept runs h =
    let ends = λ (es : List HostEvent). placed rest (pushed ++ os) (with_locals h.locals (with_world (record start.world { replies = leaves; events = es }) start)) in
    record {
      locals = h.locals;
      kept = keeps-then (length params) start.frame.locals locals h.locals kept h.kept;
      taken = n + h.taken;
      runs = subst (λ es. Runs m v start (ends es) (n + h.taken)) (append_assoc start.world.events events more) (runs-then runs h.runs);
    }

-- a run, and then an end
halts_so-then : (m : Module) (v : View) (events more : List HostEvent) (left : List ℕ) (locals xs : List Num) (code : Code) (stop : Stop) (start : Config) (n : ℕ) → Runs m v start (placed code xs (gone_on events left locals start)) n → HaltsSo m v more stop (placed code xs (gone_on events left locals start)) → HaltsSo m v (events ++ more) stop start
halts_so-then m v events more left locals xs code stop start n runs h = record {
  world = h.world;
  taken = n + h.taken;
  shown = h.shown ∙ append_assoc start.world.events events more;
  halts = halts-then runs h.halts;
}

-- behind a run that goes on, code comes out with the run's host calls before its own
pub comes-behind : {V : Type 0} (m : Module) (v : View) (params : List (List ℕ)) (p : V → List Num) (events more : List HostEvent) (end : Answer V) (left : List ℕ) (locals xs : List Num) (code : Code) (start : Config) (n : ℕ) (rest : Code) (os : List Num) → KeepsOthers (length params) start.frame.locals locals → Runs m v start (placed code xs (gone_on events left locals start)) n → Comes m v params p more end (placed code xs (gone_on events left locals start)) rest os → Comes m v params p (events ++ more) end start rest os
unfolding halts_so-then
comes-behind m v params p events more (Gives value leaves) left locals xs code start n rest os kept runs h =
    goes_on-then m v params events more left leaves locals xs (p value) code start n rest os kept runs h
comes-behind m v params p events more (Stops (Panicked cause message)) left locals xs code start n rest os kept runs h = record {
  no_message = h.no_message;
  cause_is = h.cause_is;
  halted = halts_so-then m v events more left locals xs code _ start n runs h.halted;
  globals = h.globals;
}
comes-behind m v params p events more (Stops WantsReply) left locals xs code start n rest os kept runs h =
    halts_so-then m v events more left locals xs code _ start n runs h
comes-behind m v params p events more (Stops Running) left locals xs code start n rest os kept runs h = h
comes-behind m v params p events more (Stops Wild) left locals xs code start n rest os kept runs h = h
comes-behind m v params p events more (Stops (Trapped cause)) left locals xs code start n rest os kept runs h = h

-- a property of the value that evaluating gives, if it gives one
abbrev pub IfGives : {V : Type 0} → (V → Type 0) → Answer V → Type 0
IfGives P (Gives value left) = P value
IfGives P (Stops halt) = Unit {0}

pub if_gives-then : {V W : Type 0} (P : V → Type 0) (Q : W → Type 0) (events : List HostEvent) (end : Answer V) (go : V → List ℕ → Evaluated W) → IfGives P end → ((value : V) (left : List ℕ) → P value → IfGives Q (go value left).end) → IfGives Q (goes_on events end go).end
if_gives-then P Q events (Gives value left) go h k = k value left h
if_gives-then P Q events (Stops halt) go h k = tt

-- code that comes out, and then code that does from wherever the first goes on
pub comes-then : {V W : Type 0} (P : V → Type 0) (m : Module) (v : View) (params : List (List ℕ)) (p : V → List Num) (q : W → List Num) (events : List HostEvent) (end : Answer V) (go : V → List ℕ → Evaluated W) (start : Config) (code : Code) (under : List Num) (rest : Code) (os : List Num) → Comes m v params p events end start code under → IfGives P end → ((value : V) (left : List ℕ) (locals : List Num) → P value → KeepsOthers (length params) start.frame.locals locals → Comes m v params q (go value left).events (go value left).end (placed code (p value ++ under) (gone_on events left locals start)) rest os) → Comes m v params q (goes_on events end go).events (goes_on events end go).end start rest os
comes-then P m v params p q events (Gives value left) go start code under rest os h has k =
    comes-behind m v params q events (go value left).events (go value left).end left h.locals (p value ++ under) code start h.taken rest os h.kept h.runs (k value left h.locals has h.kept)
comes-then P m v params p q events (Stops (Panicked cause message)) go start code under rest os h has k = h
comes-then P m v params p q events (Stops WantsReply) go start code under rest os h has k = h
comes-then P m v params p q events (Stops Running) go start code under rest os h has k = h
comes-then P m v params p q events (Stops Wild) go start code under rest os h has k = h
comes-then P m v params p q events (Stops (Trapped cause)) go start code under rest os h has k = h

-- code that makes no host call
pub goes_on-quietly : (m : Module) (v : View) (params : List (List ℕ)) (pushed locals : List Num) (start : Config) (n : ℕ) (rest : Code) (os : List Num) → KeepsOthers (length params) start.frame.locals locals → Runs m v start (placed rest (pushed ++ os) (with_locals locals start)) n → GoesOn m v params [] start.world.replies pushed start rest os
goes_on-quietly m v params pushed locals start n rest os kept runs =
    let ends = λ (es : List HostEvent). placed rest (pushed ++ os) (with_locals locals (with_world (record start.world { events = es }) start)) in
    record {
      locals = locals;
      kept = kept;
      taken = n;
      runs = subst (λ es. Runs m v start (ends es) n) (sym (append-nil start.world.events)) runs;
    }

-- and changes no local
pub goes_on-pushing : (m : Module) (v : View) (params : List (List ℕ)) (pushed : List Num) (start : Config) (n : ℕ) (rest : Code) (os : List Num) → Runs m v start (placed rest (pushed ++ os) start) n → GoesOn m v params [] start.world.replies pushed start rest os
goes_on-pushing m v params pushed start n rest os runs =
    goes_on-quietly m v params pushed start.frame.locals start n rest os (keeps-same (length params) start.frame.locals) runs
