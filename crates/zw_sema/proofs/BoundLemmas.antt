-- What a larger bound changes of the walk: nothing, where the bound was enough.
use Rattle.std.specs.Prelude.{◌≡◌, ◌≢◌, refl, ℕ, zero, suc, ◌+◌, Bool, true, false, List, [], ◌∷◌, ◌++◌, Option, Some, None, Result, Ok, Err}
use Rattle.std.proofs.Common.{ap, ◌∙◌, subst, arith}
use Rattle.zw_base.specs.declared.stop.StopKind.{StopKind}
use Rattle.zw_tree.specs.Trees.{Forest}
use Rattle.zw_tree.specs.declared.ast.Entry.{Entry}
use Rattle.zw_types.specs.TypeTrees.{TypeTree}
use Rattle.zw_values.specs.ObjectStore.{Stage, at_compile_time, at_run_time}
use Rattle.zw_typed.specs.Nodes.{TypedNode}
use Rattle.zw_env.specs.Counting.{Counters}
use Rattle.zw_env.specs.Parts.{Next, Visit, VisitKnown, VisitUnevaluated, Operation, Emit, Lookup, Bind, Returns, Raise, Done, Halt, HaltAt}
use Rattle.zw_env.specs.Parts as next
use Rattle.zw_env.specs.Children.{tree_at}
use Rattle.zw_forms_decl.specs.DeclarationRules.{nothing}
use Rattle.zw_sema.specs.Walk.{RunPart, Progress, UnderWay, Analysed, State, Task, Out, Found, Stopped, TooSmall, Go, on_part, on_result, on_operands, with_part, child_task, visiting, unit_task, declaration_part, if_built, name_found, bound_to, declaration_named, mentioned, operand_parts, operated, emitted, unit_begun, unit_ended, argument_bound, result_part, quota_raised, is_built, progress_of, answered, asked, counted, stepped, walk}

-- the answer under a larger bound is this one, where that wasn't too small
abbrev pub Lasts : Out → Out → Type 0
Lasts out larger = out ≢ TooSmall → larger ≡ out

abbrev pub GoesOn : Go → Go → Type 0
GoesOn go more = (task : Task) (parts : List RunPart) (state : State) → Lasts (go task parts state) (more task parts state)

pub on_part-lasts : (out larger : Out) (f g : RunPart → State → Out) → Lasts out larger → ((part : RunPart) (state : State) → Lasts (f part state) (g part state)) → Lasts (on_part out f) (on_part larger g)
on_part-lasts (Found part state) larger f g same each = λ n. ap (λ o. on_part o g) (same (λ e. cc)) ∙ each part state n
on_part-lasts (Stopped why at state) larger f g same each = λ n. ap (λ o. on_part o g) (same (λ e. cc))
on_part-lasts TooSmall larger f g same each = λ n. absurd (n refl)

pub on_result-lasts : (task : Task) (state : State) (result : Result RunPart StopKind) (f g : RunPart → Out) → ((part : RunPart) → Lasts (f part) (g part)) → Lasts (on_result task state result f) (on_result task state result g)
on_result-lasts task state (Ok part) f g each = each part
on_result-lasts task state (Err why) f g each = λ n. refl

pub on_operands-lasts : (task : Task) (state : State) (result : Result (List RunPart) ℕ) (f g : List RunPart → Out) → ((parts : List RunPart) → Lasts (f parts) (g parts)) → Lasts (on_operands task state result f) (on_operands task state result g)
on_operands-lasts task state (Ok parts) f g each = each parts
on_operands-lasts task state (Err error) f g each = λ n. refl

pub visiting-lasts : (go more : Go) → GoesOn go more → (task : Task) (parts : List RunPart) (state : State) (child : ℕ) (wanted : Option TypeTree) (stage : Stage) → Lasts (visiting go task parts state child wanted stage) (visiting more task parts state child wanted stage)
visiting-lasts go more on task parts state child wanted stage =
    on_part-lasts (go (child_task task child wanted stage) [] state) (more (child_task task child wanted stage) [] state)
    (λ part behind. with_part go task parts part behind) (λ part behind. with_part more task parts part behind)
    (on (child_task task child wanted stage) [] state) (λ part behind. on task (parts ++ part ∷ []) behind)

pub declaration_part-lasts : (forest : Forest Entry) (go more : Go) → GoesOn go more → (task : Task) (parts : List RunPart) (state : State) (n : ℕ) (progress : Option Progress) → Lasts (declaration_part forest go task parts state n progress) (declaration_part forest more task parts state n progress)
declaration_part-lasts forest go more on task parts state n None =
    on_part-lasts (go (unit_task forest n at_compile_time) [] (unit_begun n state)) (more (unit_task forest n at_compile_time) [] (unit_begun n state))
    (λ part behind. with_part go task parts part (unit_ended n part state behind)) (λ part behind. with_part more task parts part (unit_ended n part state behind))
    (on (unit_task forest n at_compile_time) [] (unit_begun n state)) (λ part behind. on task (parts ++ part ∷ []) (unit_ended n part state behind))
declaration_part-lasts forest go more on task parts state n (Some UnderWay) = λ e. refl
declaration_part-lasts forest go more on task parts state n (Some (Analysed part)) = on task (parts ++ part ∷ []) state

pub if_built-lasts : (forest : Forest Entry) (go more : Go) → GoesOn go more → (task : Task) (parts : List RunPart) (state : State) (n : ℕ) (built : Bool) → Lasts (if_built forest go task parts state n built) (if_built forest more task parts state n built)
if_built-lasts forest go more on task parts state n true = declaration_part-lasts forest go more on task parts state n (progress_of state.declarations n)
if_built-lasts forest go more on task parts state n false = λ e. refl

pub name_found-lasts : (forest : Forest Entry) (go more : Go) → GoesOn go more → (task : Task) (parts : List RunPart) (state : State) (bound : Option RunPart) (declared : Option ℕ) → Lasts (name_found forest go task parts state bound declared) (name_found forest more task parts state bound declared)
name_found-lasts forest go more on task parts state (Some part) declared =
    on_result-lasts task state (mentioned task.stage part) (λ p. with_part go task parts p state) (λ p. with_part more task parts p state) (λ p. on task (parts ++ p ∷ []) state)
name_found-lasts forest go more on task parts state None None = λ e. refl
name_found-lasts forest go more on task parts state None (Some n) = if_built-lasts forest go more on task parts state n (is_built (tree_at forest n))

pub answered-lasts : (forest : Forest Entry) (go more : Go) → GoesOn go more → (task : Task) (parts : List RunPart) (state : State) (asked : Next TypedNode) → Lasts (answered forest go task parts state asked) (answered forest more task parts state asked)
answered-lasts forest go more on task parts state (Visit child wanted) = visiting-lasts go more on task parts state child wanted task.stage
answered-lasts forest go more on task parts state (VisitKnown child wanted) = visiting-lasts go more on task parts state child wanted at_compile_time
answered-lasts forest go more on task parts state (VisitUnevaluated child wanted) = visiting-lasts go more on task parts state child wanted at_run_time
answered-lasts forest go more on task parts state (Operation name ty operands) =
    on_operands-lasts task state (operand_parts operands)
    (λ values. on_result task state (operated name ty values) (λ part. with_part go task parts part state))
    (λ values. on_result task state (operated name ty values) (λ part. with_part more task parts part state))
    (λ values. on_result-lasts task state (operated name ty values) (λ part. with_part go task parts part state) (λ part. with_part more task parts part state) (λ part. on task (parts ++ part ∷ []) state))
answered-lasts forest go more on task parts state (Emit op ty operands) =
    on_operands-lasts task state (operand_parts operands)
    (λ values. on_result task state (emitted task.stage op ty values) (λ part. with_part go task parts part state))
    (λ values. on_result task state (emitted task.stage op ty values) (λ part. with_part more task parts part state))
    (λ values. on_result-lasts task state (emitted task.stage op ty values) (λ part. with_part go task parts part state) (λ part. with_part more task parts part state) (λ part. on task (parts ++ part ∷ []) state))
answered-lasts forest go more on task parts state (Lookup name) = name_found-lasts forest go more on task parts state (bound_to state.bound name) (declaration_named forest name)
answered-lasts forest go more on task parts state (Bind name ty) = on task (parts ++ nothing ∷ []) (argument_bound name ty state)
answered-lasts forest go more on task parts state (Returns ty) = on task (parts ++ nothing ∷ []) (record state { result = Some ty })
answered-lasts forest go more on task parts state next.Result = on task (parts ++ result_part state.result ∷ []) state
answered-lasts forest go more on task parts state (Raise value) = on task (parts ++ nothing ∷ []) (quota_raised value state)
answered-lasts forest go more on task parts state (Done part) = λ e. refl
answered-lasts forest go more on task parts state (Halt why) = λ e. refl
answered-lasts forest go more on task parts state (HaltAt n why) = λ e. refl

pub stepped-lasts : (forest : Forest Entry) (go more : Go) → GoesOn go more → (task : Task) (parts : List RunPart) (state : State) (counters : Result Counters StopKind) → Lasts (stepped forest go task parts state counters) (stepped forest more task parts state counters)
stepped-lasts forest go more on task parts state (Err why) = λ e. refl
stepped-lasts forest go more on task parts state (Ok counters) =
    answered-lasts forest go more on task parts (record state { counters = counters }) (asked forest task parts)

pub walk-lasts : (forest : Forest Entry) (bound k : ℕ) → GoesOn (walk forest bound) (walk forest (bound + k))
walk-lasts forest zero k task parts state = λ n. absurd (n refl)
walk-lasts forest (suc bound) k task parts state =
    subst (λ (larger : ℕ). Lasts (walk forest (suc bound) task parts state) (walk forest larger task parts state)) suc-inside
    (stepped-lasts forest (walk forest bound) (walk forest (bound + k)) (walk-lasts forest bound k) task parts state (counted task parts state))
  where
    suc-inside : suc (bound + k) ≡ suc bound + k
    suc-inside = omega arith
