-- A declaration whose name nothing comes to isn't read: by the recursion of the walk. The declarations that were met are never forgotten, so a walk
-- that ends without having met one never asked for its tree.
use Rattle.std.specs.Prelude.{◌≡◌, ◌≢◌, refl, ℕ, zero, suc, nat_eq, Bool, true, false, List, [], ◌∷◌, ◌++◌, ◌&&◌, if◌then◌else◌, Option, Some, None, Result, Ok, Err}
use Rattle.std.specs.Str.{bytes_eq}
use Rattle.std.proofs.Common.{ap, ◌∙◌, sym}
use Rattle.std.proofs.lemmas.Bool.{eqb-true, eq-eqb}
use Rattle.zw_base.specs.declared.stop.Place.{Place}
use Rattle.zw_base.specs.declared.stop.StopKind.{StopKind}
use Rattle.zw_tree.specs.Trees.{Forest}
use Rattle.zw_tree.specs.declared.ast.Entry.{Entry}
use Rattle.zw_types.specs.TypeTrees as tree
use Rattle.zw_types.specs.TypeTrees.{TypeTree, ValueTree}
use Rattle.zw_values.specs.ObjectStore.{Stage, at_compile_time, at_run_time}
use Rattle.zw_typed.specs.Nodes.{TypedNode}
use Rattle.zw_env.specs.Counting.{Counters}
use Rattle.zw_env.specs.Parts.{Next, Visit, VisitKnown, VisitUnevaluated, Operation, Emit, Lookup, Bind, Returns, Raise, Done, Halt, HaltAt}
use Rattle.zw_env.specs.Parts as next
use Rattle.zw_env.specs.Children.{tree_at, kind_of, place_of, declared_name, is_among}
use Rattle.zw_forms_decl.specs.DeclarationRules.{nothing}
use Rattle.zw_sema.specs.Walk.{RunPart, Progress, UnderWay, Analysed, State, Task, Out, Found, Stopped, TooSmall, Go, on_part, on_result, on_operands, on_wanted, wanted_part, finished, with_part, child_task, visiting, unit_task, declaration_part, if_built, name_found, bound_to, named_among, declaration_named, is_declaration, mentioned, operand_parts, operated, emitted, unit_begun, unit_ended, argument_bound, result_part, quota_raised, is_built, progress_of, is_met, answered, asked, counted, stepped, walk}
use Rattle.zw_sema.specs.Files.{Instance, Analysis, Accepted, Refused, NeedsMore, Turn, IsUnit, IsUnbuilt, Waits, turn_of, take_turn, on_export, members_analysed, if_light, weighed, first_too_heavy, export_begun, exported, is_reached}

-- the walk came to an end without having met the declaration
abbrev pub Misses : ℕ → Out → Type 0
Misses n (Found part state) = is_met n state ≡ false
Misses n (Stopped why place state) = is_met n state ≡ false
Misses n TooSmall = ⊥

-- what was met stays met
abbrev pub Keeps : ℕ → Go → Type 0
Keeps n go = (task : Task) (parts : List RunPart) (state : State) → Misses n (go task parts state) → is_met n state ≡ false

-- ---- what was met stays met

pub on_part-keeps : (n : ℕ) (out : Out) (f : RunPart → State → Out) → ((part : RunPart) (state : State) → Misses n (f part state) → is_met n state ≡ false) → Misses n (on_part out f) → Misses n out
on_part-keeps n (Found part state) f each m = each part state m
on_part-keeps n (Stopped why place state) f each m = m
on_part-keeps n TooSmall f each m = m

pub on_result-keeps : (n : ℕ) (task : Task) (state : State) (result : Result RunPart StopKind) (f : RunPart → Out) → ((part : RunPart) → Misses n (f part) → is_met n state ≡ false) → Misses n (on_result task state result f) → is_met n state ≡ false
on_result-keeps n task state (Ok part) f each m = each part m
on_result-keeps n task state (Err why) f each m = m

pub on_operands-keeps : (n : ℕ) (task : Task) (state : State) (result : Result (List RunPart) ℕ) (f : List RunPart → Out) → ((parts : List RunPart) → Misses n (f parts) → is_met n state ≡ false) → Misses n (on_operands task state result f) → is_met n state ≡ false
on_operands-keeps n task state (Ok parts) f each m = each parts m
on_operands-keeps n task state (Err error) f each m = m

pub on_wanted-keeps : (n : ℕ) (task : Task) (state : State) (result : Result RunPart ℕ) → Misses n (on_wanted task state result) → is_met n state ≡ false
on_wanted-keeps n task state (Ok part) m = m
on_wanted-keeps n task state (Err error) m = m

pub finished-keeps : (n : ℕ) (wanted : Option TypeTree) (task : Task) (state : State) (part : RunPart) → Misses n (finished wanted task state part) → is_met n state ≡ false
finished-keeps n None task state part m = m
finished-keeps n (Some ty) task state part m = on_wanted-keeps n task state (wanted_part part ty) m

pub visiting-misses : (n : ℕ) (go : Go) → Keeps n go → (task : Task) (parts : List RunPart) (state : State) (child : ℕ) (wanted : Option TypeTree) (stage : Stage) →
    Misses n (visiting go task parts state child wanted stage) → Misses n (go (child_task task child wanted stage) [] state)
visiting-misses n go keeps task parts state child wanted stage m =
    on_part-keeps n (go (child_task task child wanted stage) [] state) (λ part behind. with_part go task parts part behind) (λ part behind. keeps task (parts ++ part ∷ []) behind) m

pub visiting-keeps : (n : ℕ) (go : Go) → Keeps n go → (task : Task) (parts : List RunPart) (state : State) (child : ℕ) (wanted : Option TypeTree) (stage : Stage) →
    Misses n (visiting go task parts state child wanted stage) → is_met n state ≡ false
visiting-keeps n go keeps task parts state child wanted stage m =
    keeps (child_task task child wanted stage) [] state (visiting-misses n go keeps task parts state child wanted stage m)

-- with one declaration more it was met before, and is another one
pub was_missed : (n k : ℕ) (progress : Progress) (ds : List (ℕ × Progress)) (state : State) →
    is_met n (record state { declarations = (k, progress) ∷ ds }) ≡ false → is_met n (record state { declarations = ds }) ≡ false
was_missed n k progress ds state m = by_test (nat_eq k n) m
  where
    by_test : (same : Bool) → elim (if same then Some progress else progress_of ds n) [ None ↦ false | Some p ↦ true ] ≡ false → elim (progress_of ds n) [ None ↦ false | Some p ↦ true ] ≡ false
    by_test false e = e
    by_test true e = cc

pub is_other : (n k : ℕ) (progress : Progress) (ds : List (ℕ × Progress)) (state : State) →
    is_met n (record state { declarations = (k, progress) ∷ ds }) ≡ false → nat_eq k n ≡ false
is_other n k progress ds state m = by_test (nat_eq k n) m
  where
    by_test : (same : Bool) → elim (if same then Some progress else progress_of ds n) [ None ↦ false | Some p ↦ true ] ≡ false → same ≡ false
    by_test false e = refl
    by_test true e = cc

pub unit-misses : (n : ℕ) (forest : Forest Entry) (go : Go) → Keeps n go → (task : Task) (parts : List RunPart) (state : State) (k : ℕ) →
    Misses n (declaration_part forest go task parts state k None) → Misses n (go (unit_task forest k at_compile_time) [] (unit_begun k state))
unit-misses n forest go keeps task parts state k m =
    on_part-keeps n (go (unit_task forest k at_compile_time) [] (unit_begun k state)) (λ part behind. with_part go task parts part (unit_ended k part state behind))
    (λ part behind later. was_missed n k (Analysed part) behind.declarations (unit_ended k part state behind) (keeps task (parts ++ part ∷ []) (unit_ended k part state behind) later)) m

pub declaration_part-keeps : (n : ℕ) (forest : Forest Entry) (go : Go) → Keeps n go → (task : Task) (parts : List RunPart) (state : State) (k : ℕ) (progress : Option Progress) →
    Misses n (declaration_part forest go task parts state k progress) → is_met n state ≡ false
declaration_part-keeps n forest go keeps task parts state k None m =
    was_missed n k UnderWay state.declarations (unit_begun k state) (keeps (unit_task forest k at_compile_time) [] (unit_begun k state) (unit-misses n forest go keeps task parts state k m))
declaration_part-keeps n forest go keeps task parts state k (Some UnderWay) m = m
declaration_part-keeps n forest go keeps task parts state k (Some (Analysed part)) m = keeps task (parts ++ part ∷ []) state m

pub if_built-keeps : (n : ℕ) (forest : Forest Entry) (go : Go) → Keeps n go → (task : Task) (parts : List RunPart) (state : State) (k : ℕ) (built : Bool) →
    Misses n (if_built forest go task parts state k built) → is_met n state ≡ false
if_built-keeps n forest go keeps task parts state k true m = declaration_part-keeps n forest go keeps task parts state k (progress_of state.declarations k) m
if_built-keeps n forest go keeps task parts state k false m = was_missed n k UnderWay state.declarations (unit_begun k state) m

pub name_found-keeps : (n : ℕ) (forest : Forest Entry) (go : Go) → Keeps n go → (task : Task) (parts : List RunPart) (state : State) (bound : Option RunPart) (declared : Option ℕ) →
    Misses n (name_found forest go task parts state bound declared) → is_met n state ≡ false
name_found-keeps n forest go keeps task parts state (Some part) declared m =
    on_result-keeps n task state (mentioned task.stage part) (λ p. with_part go task parts p state) (λ p. keeps task (parts ++ p ∷ []) state) m
name_found-keeps n forest go keeps task parts state None None m = m
name_found-keeps n forest go keeps task parts state None (Some k) m = if_built-keeps n forest go keeps task parts state k (is_built (tree_at forest k)) m

pub quota-met : (n : ℕ) (value : ValueTree) (state : State) → is_met n (quota_raised value state) ≡ is_met n state
quota-met n (tree.NumberValue z) state = refl
quota-met n _ state = refl

pub answered-keeps : (n : ℕ) (forest : Forest Entry) (go : Go) → Keeps n go → (task : Task) (parts : List RunPart) (state : State) (asked : Next TypedNode) →
    Misses n (answered forest go task parts state asked) → is_met n state ≡ false
answered-keeps n forest go keeps task parts state (Visit child wanted) m = visiting-keeps n go keeps task parts state child wanted task.stage m
answered-keeps n forest go keeps task parts state (VisitKnown child wanted) m = visiting-keeps n go keeps task parts state child wanted at_compile_time m
answered-keeps n forest go keeps task parts state (VisitUnevaluated child wanted) m = visiting-keeps n go keeps task parts state child wanted at_run_time m
answered-keeps n forest go keeps task parts state (Operation name ty operands) m =
    on_operands-keeps n task state (operand_parts operands) (λ values. on_result task state (operated name ty values) (λ part. with_part go task parts part state))
    (λ values. on_result-keeps n task state (operated name ty values) (λ part. with_part go task parts part state) (λ part. keeps task (parts ++ part ∷ []) state)) m
answered-keeps n forest go keeps task parts state (Emit op ty operands) m =
    on_operands-keeps n task state (operand_parts operands) (λ values. on_result task state (emitted task.stage op ty values) (λ part. with_part go task parts part state))
    (λ values. on_result-keeps n task state (emitted task.stage op ty values) (λ part. with_part go task parts part state) (λ part. keeps task (parts ++ part ∷ []) state)) m
answered-keeps n forest go keeps task parts state (Lookup name) m = name_found-keeps n forest go keeps task parts state (bound_to state.bound name) (declaration_named forest name) m
answered-keeps n forest go keeps task parts state (Bind name ty) m = keeps task (parts ++ nothing ∷ []) (argument_bound name ty state) m
answered-keeps n forest go keeps task parts state (Returns ty) m = keeps task (parts ++ nothing ∷ []) (record state { result = Some ty }) m
answered-keeps n forest go keeps task parts state next.Result m = keeps task (parts ++ result_part state.result ∷ []) state m
answered-keeps n forest go keeps task parts state (Raise value) m = sym (quota-met n value state) ∙ keeps task (parts ++ nothing ∷ []) (quota_raised value state) m
answered-keeps n forest go keeps task parts state (Done part) m = finished-keeps n task.wanted task state part m
answered-keeps n forest go keeps task parts state (Halt why) m = m
answered-keeps n forest go keeps task parts state (HaltAt k why) m = m

pub stepped-keeps : (n : ℕ) (forest : Forest Entry) (go : Go) → Keeps n go → (task : Task) (parts : List RunPart) (state : State) (counters : Result Counters StopKind) →
    Misses n (stepped forest go task parts state counters) → is_met n state ≡ false
stepped-keeps n forest go keeps task parts state (Err why) m = m
stepped-keeps n forest go keeps task parts state (Ok counters) m = answered-keeps n forest go keeps task parts (record state { counters = counters }) (asked forest task parts) m

pub walk-keeps : (n : ℕ) (forest : Forest Entry) (bound : ℕ) → Keeps n (walk forest bound)
walk-keeps n forest zero task parts state m = absurd m
walk-keeps n forest (suc bound) task parts state m = stepped-keeps n forest (walk forest bound) (walk-keeps n forest bound) task parts state (counted task parts state) m

-- ---- members

-- the numbers of one list are among another's
abbrev pub Within : List ℕ → List ℕ → Type 0
Within ns ms = (m : ℕ) → is_among ns m ≡ true → is_among ms m ≡ true

pub first_among : (k : ℕ) (ks : List ℕ) → is_among (k ∷ ks) k ≡ true
first_among k ks = ap (λ (b : Bool). if b then true else is_among ks k) (eq-eqb k k refl)

pub later_among : (k : ℕ) (ks : List ℕ) → Within ks (k ∷ ks)
later_among k ks m there = by_test (nat_eq k m)
  where
    by_test : (same : Bool) → (if same then true else is_among ks m) ≡ true
    by_test true = refl
    by_test false = there

pub named_is_among : (forest : Forest Entry) (ns : List ℕ) (name : List ℕ) (m : ℕ) → named_among forest ns name ≡ Some m → is_among ns m ≡ true
named_is_among forest [] name m e = cc
named_is_among forest (k ∷ ks) name m e =
    by_test (is_declaration (kind_of (tree_at forest k)) && bytes_eq (declared_name (tree_at forest k)) name) (λ later. named_is_among forest ks name m later) e
  where
    some_is : Some k ≡ Some m → k ≡ m
    some_is same = cc

    by_test : (this : Bool) → (named_among forest ks name ≡ Some m → is_among ks m ≡ true) → (if this then Some k else named_among forest ks name) ≡ Some m → is_among (k ∷ ks) m ≡ true
    by_test true there is = ap (λ (j : ℕ). if nat_eq j m then true else is_among ks m) (some_is is) ∙ first_among m ks
    by_test false there later = later_among k ks m (there later)

-- a declaration that was met is another one than the one that wasn't
pub met_is_other : (n k : ℕ) (state : State) (progress : Progress) → progress_of state.declarations k ≡ Some progress → is_met n state ≡ false → nat_eq k n ≡ false
met_is_other n k state progress found missed = by_test (nat_eq k n) refl
  where
    by_test : (same : Bool) → nat_eq k n ≡ same → same ≡ false
    by_test false e = refl
    by_test true e = absurd (differs (ap (λ (j : ℕ). is_met j state) (eqb-true k n e) ∙ missed) (ap (λ (p : Option Progress). elim p [ None ↦ false | Some q ↦ true ]) found))
      where
        differs : is_met k state ≡ false → is_met k state ≡ true → ⊥
        differs a b = cc

pub needed_is_other : (n : ℕ) (forest : Forest Entry) (go : Go) → Keeps n go → (task : Task) (parts : List RunPart) (state : State) (k : ℕ) (progress : Option Progress) → progress_of state.declarations k ≡ progress →
    Misses n (declaration_part forest go task parts state k progress) → nat_eq k n ≡ false
needed_is_other n forest go keeps task parts state k None e m =
    is_other n k UnderWay state.declarations (unit_begun k state) (keeps (unit_task forest k at_compile_time) [] (unit_begun k state) (unit-misses n forest go keeps task parts state k m))
needed_is_other n forest go keeps task parts state k (Some UnderWay) e m = met_is_other n k state UnderWay e m
needed_is_other n forest go keeps task parts state k (Some (Analysed part)) e m = met_is_other n k state (Analysed part) e (keeps task (parts ++ part ∷ []) state m)

pub named_is_other : (n : ℕ) (forest : Forest Entry) (go : Go) → Keeps n go → (task : Task) (parts : List RunPart) (state : State) (k : ℕ) (built : Bool) →
    Misses n (if_built forest go task parts state k built) → nat_eq k n ≡ false
named_is_other n forest go keeps task parts state k true m = needed_is_other n forest go keeps task parts state k (progress_of state.declarations k) refl m
named_is_other n forest go keeps task parts state k false m = is_other n k UnderWay state.declarations (unit_begun k state) m

-- ---- the members

abbrev pub MissesAll : ℕ → Analysis → Type 0
MissesAll n (Accepted instances state) = is_met n state ≡ false
MissesAll n (Refused why place state) = is_met n state ≡ false
MissesAll n NeedsMore = ⊥

abbrev pub More : Type 0
More = State → List Instance → Analysis

pub on_export-keeps : (n : ℕ) (place : Place) (name : List ℕ) (before : List Instance) (out : Out) (more : More) → ((state : State) (later : List Instance) → MissesAll n (more state later) → is_met n state ≡ false) →
    MissesAll n (on_export place name before out more) → Misses n out
on_export-keeps n place name before (Found part state) more each m = each state (before ++ exported place name part state ∷ []) m
on_export-keeps n place name before (Stopped why at state) more each m = m
on_export-keeps n place name before TooSmall more each m = m

pub take_turn-keeps : (n : ℕ) (forest : Forest Entry) (bound : ℕ) (turn : Turn) (k : ℕ) (state : State) (before : List Instance) (more : More) →
    ((state : State) (later : List Instance) → MissesAll n (more state later) → is_met n state ≡ false) → MissesAll n (take_turn forest bound turn k state before more) → is_met n state ≡ false
take_turn-keeps n forest bound IsUnit k state before more each m =
    walk-keeps n forest bound (unit_task forest k at_run_time) [] (export_begun state)
    (on_export-keeps n (place_of (tree_at forest k)) (declared_name (tree_at forest k)) before (walk forest bound (unit_task forest k at_run_time) [] (export_begun state)) more each m)
take_turn-keeps n forest bound IsUnbuilt k state before more each m = m
take_turn-keeps n forest bound Waits k state before more each m = each state before m

pub members-keeps : (n : ℕ) (forest : Forest Entry) (bound : ℕ) (ns : List ℕ) (state : State) (before : List Instance) → MissesAll n (members_analysed forest bound ns state before) → is_met n state ≡ false
members-keeps n forest bound [] state before m = m
members-keeps n forest bound (k ∷ ks) state before m =
    take_turn-keeps n forest bound (turn_of (tree_at forest k)) k state before (members_analysed forest bound ks) (members-keeps n forest bound ks) m

-- ---- the file

pub weighed-misses : (n : ℕ) (analysis : Analysis) → MissesAll n (weighed analysis) → MissesAll n analysis
weighed-misses n (Accepted instances state) m = by_weight (first_too_heavy instances) m
  where
    by_weight : (found : Option Place) → MissesAll n (if_light instances state found) → is_met n state ≡ false
    by_weight None e = e
    by_weight (Some place) e = e
weighed-misses n (Refused why place state) m = m
weighed-misses n NeedsMore m = m

pub misses_all : (n : ℕ) (analysis : Analysis) → analysis ≢ NeedsMore → is_reached n analysis ≡ false → MissesAll n analysis
misses_all n (Accepted instances state) enough missed = missed
misses_all n (Refused why place state) enough missed = missed
misses_all n NeedsMore enough missed = enough refl
