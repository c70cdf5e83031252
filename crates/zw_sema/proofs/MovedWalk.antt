-- Two files that differ in one declaration: the walk of the second does the same as that of the first, with other numbers, where the first misses the
-- declaration.
use Rattle.std.proofs.Common.{◌≡◌, refl, ℕ, zero, suc, Bool, true, false, nat_eq, List, [], ◌∷◌, ◌++◌, Option, Some, None, ap, sym, ◌∙◌}
use Rattle.std.specs.Prelude.{if◌then◌else◌, ◌&&◌, map, Result, Ok, Err}
use Rattle.std.specs.Str.{bytes_eq}
use Rattle.zw_base.specs.declared.stop.Place.{Place}
use Rattle.zw_base.specs.declared.stop.StopKind.{StopKind}
use Rattle.zw_base.specs.declared.stop.StopKind.TheVariants.{Error}
use Rattle.zw_tree.specs.Trees.{Forest, none, tree}
use Rattle.zw_tree.specs.Numbering.{first_root}
use Rattle.zw_tree.specs.declared.ast.Entry.{Entry}
use Rattle.zw_tree.specs.declared.kind.NodeKind.{NodeKind}
use Rattle.zw_tree.specs.declared.kind.NodeKind.TheVariants as kind
use Rattle.zw_types.specs.TypeTrees.{TypeTree}
use Rattle.zw_values.specs.ObjectStore.{Stage, at_compile_time, at_run_time}
use Rattle.zw_typed.specs.Nodes.{TypedNode}
use Rattle.zw_env.specs.Counting.{Counters}
use Rattle.zw_env.specs.Parts.{Operand, Next, Visit, VisitKnown, VisitUnevaluated, Operation, Emit, Lookup, Bind, Returns, Raise, Done, Halt, HaltAt}
use Rattle.zw_env.specs.Parts as next
use Rattle.zw_env.specs.Children.{tree_at, kind_of, place_of, has, declared_name, is_extern_word, child_tree, forms_below, members, is_among}
use Rattle.zw_forms_scalar.specs.ScalarRules.{scalar_rule}
use Rattle.zw_forms_decl.specs.DeclarationRules.{nothing, declaration_rule}
use Rattle.zw_sema.specs.Walk.{RunPart, Progress, UnderWay, Analysed, State, Task, Out, Found, Stopped, TooSmall, Go, on_part, on_result, on_operands, on_wanted, wanted_part, finished, with_part, child_task, visiting, unit_task, declaration_part, if_built, name_found, bound_to, is_declaration, named_among, declaration_named, is_built, progress_of, mentioned, operand_parts, operated, emitted, unit_begun, unit_ended, argument_bound, result_part, quota_raised, answered, asked_of, asked, counted, stepped, walk}
use Rattle.zw_sema.specs.Files.{Waits, turn_of}
use Rattle.zw_sema.specs.Exchanged.{SaysTheSame, SayTheSame}
use Rattle.zw_sema.proofs.UnreachedLemmas.{Misses, Keeps, visiting-misses, unit-misses, named_is_other, named_is_among, Within, first_among, later_among, walk-keeps}
use Rattle.zw_sema.proofs.MovedValues.{moved_op, moved_part, moved_parts}
use Rattle.zw_sema.proofs.MovedTrees.{IsApart, Fits, Goes, has-same, kind-same, place-same, forms-move, child-moves}
use Rattle.zw_sema.proofs.MovedRules.{moved_operands, moved_next, moved_rule, append-moves}
use Rattle.zw_sema.proofs.MovedBuiltins.{scalar-moves}
use Rattle.zw_sema.proofs.MovedDeclarations.{NamesStay, declaration-moves}
use Rattle.zw_sema.proofs.MovedParts.{moved_use, moved_uses, moved_result, moved_state, moved_out, moved_found, moved_stand, wanted-moves, operand_parts-move, operated-moves, emitted-moves, bound_to-moves, mentioned-moves, progress-moves, argument-moves, quota-moves, result-stays}

-- ---- two files

-- The members of the second file are those of the first by other numbers. Each but the one that differs has a tree that says the same, and the one
-- has the same name.
pub record IsMoved (to : ℕ → ℕ) (forest other : Forest Entry) (n : ℕ) : Type 0 where
  pub root : to 0 ≡ 0
  pub numbers : members other ≡ map to (members forest)
  pub apart : (k : ℕ) → is_among (members forest) k ≡ true → IsApart to k
  pub names : (k : ℕ) → is_among (members forest) k ≡ true → declared_name (tree_at other (to k)) ≡ declared_name (tree_at forest k)
  pub sorts : (k : ℕ) → is_among (members forest) k ≡ true → is_declaration (kind_of (tree_at other (to k))) ≡ is_declaration (kind_of (tree_at forest k))
  pub trees : (k : ℕ) → is_among (members forest) k ≡ true → nat_eq k n ≡ false → Goes to k (tree_at forest k) (tree_at other (to k))
  pub waits : turn_of (tree_at forest n) ≡ Waits
  pub waits_too : turn_of (tree_at other (to n)) ≡ Waits

pub among-moves : (to : ℕ → ℕ) (ns : List ℕ) → ((k : ℕ) → is_among ns k ≡ true → IsApart to k) → (m : ℕ) → is_among (map to ns) (to m) ≡ is_among ns m
among-moves to [] apart m = refl
among-moves to (n ∷ ns) apart m =
    ap (λ (same : Bool). if same then true else is_among (map to ns) (to m)) (apart n (first_among n ns) m)
    ∙ ap (λ (later : Bool). if nat_eq n m then true else later) (among-moves to ns (λ k there. apart k (later_among n ns k there)) m)

pub names-stay : (to : ℕ → ℕ) (forest other : Forest Entry) (n : ℕ) → IsMoved to forest other n → NamesStay to forest other
names-stay to forest other n moved m =
    ap (λ (ns : List ℕ). if is_among ns (to m) then declared_name (tree_at other (to m)) else []) moved.numbers
    ∙ ap (λ (there : Bool). if there then declared_name (tree_at other (to m)) else []) (among-moves to (members forest) moved.apart m)
    ∙ by_test (is_among (members forest) m) refl
  where
    by_test : (there : Bool) → is_among (members forest) m ≡ there → (if there then declared_name (tree_at other (to m)) else []) ≡ (if there then declared_name (tree_at forest m) else [])
    by_test false e = refl
    by_test true e = moved.names m e

abbrev pub moved_number : (ℕ → ℕ) → Option ℕ → Option ℕ
moved_number to None = None
moved_number to (Some n) = Some (to n)

named-moves : (to : ℕ → ℕ) (forest other : Forest Entry) (n : ℕ) → IsMoved to forest other n → (ns : List ℕ) → Within ns (members forest) → (name : List ℕ) →
    named_among other (map to ns) name ≡ moved_number to (named_among forest ns name)
named-moves to forest other n moved [] within name = refl
named-moves to forest other n moved (k ∷ ks) within name =
    ap (λ (d : Bool). if d && bytes_eq (declared_name (tree_at other (to k))) name then Some (to k) else named_among other (map to ks) name) (moved.sorts k (within k (first_among k ks)))
    ∙ ap (λ (own : List ℕ). if is_declaration (kind_of (tree_at forest k)) && bytes_eq own name then Some (to k) else named_among other (map to ks) name) (moved.names k (within k (first_among k ks)))
    ∙ ap (λ (found : Option ℕ). if is_declaration (kind_of (tree_at forest k)) && bytes_eq (declared_name (tree_at forest k)) name then Some (to k) else found)
    (named-moves to forest other n moved ks (λ m there. within m (later_among k ks m there)) name)
    ∙ by_test (is_declaration (kind_of (tree_at forest k)) && bytes_eq (declared_name (tree_at forest k)) name)
  where
    by_test : (this : Bool) → (if this then Some (to k) else moved_number to (named_among forest ks name)) ≡ moved_number to (if this then Some k else named_among forest ks name)
    by_test true = refl
    by_test false = refl

declared-moves : (to : ℕ → ℕ) (forest other : Forest Entry) (n : ℕ) → IsMoved to forest other n → (name : List ℕ) → declaration_named other name ≡ moved_number to (declaration_named forest name)
declared-moves to forest other n moved name =
    ap (λ (ns : List ℕ). named_among other ns name) moved.numbers ∙ named-moves to forest other n moved (members forest) (λ m there. there) name

-- ---- tasks

-- the same task, at the tree of the other file
abbrev pub moved_task : (ℕ → ℕ) → Task → Forest Entry → Task
moved_task to task there = record { node = to task.node; here = there; outer = task.outer; wanted = task.wanted; stage = task.stage }

-- the tree of a task, and the one of the other file
pub record Meets (to : ℕ → ℕ) (task : Task) (there : Forest Entry) : Type 0 where
  pub same : SayTheSame task.here there
  pub fits : Fits to task.node task.here

-- the other walk does the same with other numbers, where this one misses the declaration
abbrev pub Moves : (ℕ → ℕ) → ℕ → Go → Go → Type 0
Moves to n go along =
    (task : Task) (there : Forest Entry) → Meets to task there → (parts : List RunPart) (state : State) → Misses n (go task parts state) →
    along (moved_task to task there) (moved_parts to parts) (moved_state to state) ≡ moved_out to (go task parts state)

pub record Walks (to : ℕ → ℕ) (forest other : Forest Entry) (n : ℕ) (go along : Go) : Type 0 where
  pub moved : IsMoved to forest other n
  pub keeps : Keeps n go
  pub moves : Moves to n go along

-- ---- what goes on

on_part-moves : (to : ℕ → ℕ) (n : ℕ) (out same : Out) (f g : RunPart → State → Out) → same ≡ moved_out to out →
    ((part : RunPart) (state : State) → Misses n (f part state) → g (moved_part to part) (moved_state to state) ≡ moved_out to (f part state)) →
    Misses n (on_part out f) → on_part same g ≡ moved_out to (on_part out f)
on_part-moves to n (Found part state) same f g e each m = ap (λ (o : Out). on_part o g) e ∙ each part state m
on_part-moves to n (Stopped why place state) same f g e each m = ap (λ (o : Out). on_part o g) e
on_part-moves to n TooSmall same f g e each m = absurd m

place-moves : (to : ℕ → ℕ) (task : Task) (there : Forest Entry) → Meets to task there → (why : StopKind) (state : State) →
    Stopped why (place_of there) (moved_state to state) ≡ moved_out to (Stopped why (place_of task.here) state)
place-moves to task there s why state = ap (λ (at : Place). Stopped why at (moved_state to state)) (place-same task.here there s.same)

on_result-moves : (to : ℕ → ℕ) (n : ℕ) (task : Task) (there : Forest Entry) → Meets to task there → (state : State) (result : Result RunPart StopKind) (f g : RunPart → Out) →
    ((part : RunPart) → Misses n (f part) → g (moved_part to part) ≡ moved_out to (f part)) →
    Misses n (on_result task state result f) → on_result (moved_task to task there) (moved_state to state) (moved_result to result) g ≡ moved_out to (on_result task state result f)
on_result-moves to n task there s state (Ok part) f g each m = each part m
on_result-moves to n task there s state (Err why) f g each m = place-moves to task there s why state

on_operands-moves : (to : ℕ → ℕ) (n : ℕ) (task : Task) (there : Forest Entry) → Meets to task there → (state : State) (result : Result (List RunPart) ℕ) (f g : List RunPart → Out) →
    ((parts : List RunPart) → Misses n (f parts) → g (moved_parts to parts) ≡ moved_out to (f parts)) →
    Misses n (on_operands task state result f) → on_operands (moved_task to task there) (moved_state to state) (moved_uses to result) g ≡ moved_out to (on_operands task state result f)
on_operands-moves to n task there s state (Ok parts) f g each m = each parts m
on_operands-moves to n task there s state (Err error) f g each m = place-moves to task there s (Error error) state

on_wanted-moves : (to : ℕ → ℕ) (task : Task) (there : Forest Entry) → Meets to task there → (state : State) (result : Result RunPart ℕ) →
    on_wanted (moved_task to task there) (moved_state to state) (moved_use to result) ≡ moved_out to (on_wanted task state result)
on_wanted-moves to task there s state (Ok part) = refl
on_wanted-moves to task there s state (Err error) = place-moves to task there s (Error error) state

finished-moves : (to : ℕ → ℕ) (wanted : Option TypeTree) (task : Task) (there : Forest Entry) → Meets to task there → (state : State) (part : RunPart) →
    finished wanted (moved_task to task there) (moved_state to state) (moved_part to part) ≡ moved_out to (finished wanted task state part)
finished-moves to None task there s state part = refl
finished-moves to (Some ty) task there s state part =
    ap (λ (result : Result RunPart ℕ). on_wanted (moved_task to task there) (moved_state to state) result) (wanted-moves to part ty) ∙ on_wanted-moves to task there s state (wanted_part part ty)

-- one part more
with-moves : (to : ℕ → ℕ) (n : ℕ) (go along : Go) → Moves to n go along → (task : Task) (there : Forest Entry) → Meets to task there → (parts : List RunPart) (part : RunPart) (state : State) →
    Misses n (with_part go task parts part state) →
    with_part along (moved_task to task there) (moved_parts to parts) (moved_part to part) (moved_state to state) ≡ moved_out to (with_part go task parts part state)
with-moves to n go along moves task there s parts part state m =
    ap (λ (ps : List RunPart). along (moved_task to task there) ps (moved_state to state)) (sym (append-moves to parts part)) ∙ moves task there s (parts ++ part ∷ []) state m

visiting-moves : (to : ℕ → ℕ) (n : ℕ) (go along : Go) → Keeps n go → Moves to n go along → (task : Task) (there : Forest Entry) → Meets to task there → (parts : List RunPart) (state : State) (child : ℕ) (wanted : Option TypeTree) (stage : Stage) →
    Misses n (visiting go task parts state child wanted stage) →
    visiting along (moved_task to task there) (moved_parts to parts) (moved_state to state) (to child) wanted stage ≡ moved_out to (visiting go task parts state child wanted stage)
visiting-moves to n go along keeps moves task there s parts state child wanted stage m =
    on_part-moves to n (go (child_task task child wanted stage) [] state) (along (child_task (moved_task to task there) (to child) wanted stage) [] (moved_state to state))
    (λ part behind. with_part go task parts part behind) (λ part behind. with_part along (moved_task to task there) (moved_parts to parts) part behind)
    (ap (λ (outer : NodeKind). along (record { node = to child; here = child_tree there (to task.node) (to child); outer = Some outer; wanted = wanted; stage = stage }) [] (moved_state to state)) (kind-same task.here there s.same)
    ∙ moves (child_task task child wanted stage) (child_tree there (to task.node) (to child)) (record { same = goes.0; fits = goes.1 }) [] state (visiting-misses n go keeps task parts state child wanted stage m))
    (λ part behind. with-moves to n go along moves task there s parts part behind) m
  where
    goes : Goes to child (child_tree task.here task.node child) (child_tree there (to task.node) (to child))
    goes = child-moves to task.here there s.same task.node s.fits child

-- ---- names

declaration_part-moves : (to : ℕ → ℕ) (forest other : Forest Entry) (n : ℕ) (go along : Go) → Walks to forest other n go along → (task : Task) (there : Forest Entry) → Meets to task there → (parts : List RunPart) (state : State) (k : ℕ) →
    Goes to k (tree_at forest k) (tree_at other (to k)) → (progress : Option Progress) → Misses n (declaration_part forest go task parts state k progress) →
    declaration_part other along (moved_task to task there) (moved_parts to parts) (moved_state to state) (to k) (moved_stand to progress) ≡ moved_out to (declaration_part forest go task parts state k progress)
declaration_part-moves to forest other n go along w task there s parts state k goes None m =
    on_part-moves to n (go (unit_task forest k at_compile_time) [] (unit_begun k state)) (along (unit_task other (to k) at_compile_time) [] (unit_begun (to k) (moved_state to state)))
    (λ part behind. with_part go task parts part (unit_ended k part state behind))
    (λ part behind. with_part along (moved_task to task there) (moved_parts to parts) part (unit_ended (to k) part (moved_state to state) behind))
    (w.moves (unit_task forest k at_compile_time) (tree_at other (to k)) (record { same = goes.0; fits = goes.1 }) [] (unit_begun k state) (unit-misses n forest go w.keeps task parts state k m))
    (λ part behind. with-moves to n go along w.moves task there s parts part (unit_ended k part state behind)) m
declaration_part-moves to forest other n go along w task there s parts state k goes (Some UnderWay) m = place-moves to task there s (Error 26) state
declaration_part-moves to forest other n go along w task there s parts state k goes (Some (Analysed part)) m = with-moves to n go along w.moves task there s parts part state m

if_built-moves : (to : ℕ → ℕ) (forest other : Forest Entry) (n : ℕ) (go along : Go) → Walks to forest other n go along → (task : Task) (there : Forest Entry) → Meets to task there → (parts : List RunPart) (state : State) (k : ℕ) →
    IsApart to k → Goes to k (tree_at forest k) (tree_at other (to k)) → (built : Bool) → Misses n (if_built forest go task parts state k built) →
    if_built other along (moved_task to task there) (moved_parts to parts) (moved_state to state) (to k) built ≡ moved_out to (if_built forest go task parts state k built)
if_built-moves to forest other n go along w task there s parts state k apart goes true m =
    ap (λ (stand : Option Progress). declaration_part other along (moved_task to task there) (moved_parts to parts) (moved_state to state) (to k) stand) (progress-moves to k apart state.declarations)
    ∙ declaration_part-moves to forest other n go along w task there s parts state k goes (progress_of state.declarations k) m
if_built-moves to forest other n go along w task there s parts state k apart goes false m = place-moves to task there s (Error 36) (unit_begun k state)

built-same : (f g : Forest Entry) → SayTheSame f g → is_built g ≡ is_built f
built-same f g s =
    ap (λ (found : NodeKind). elim found [ kind.Const ↦ true | kind.Function ↦ has g is_extern_word | _ ↦ false ]) (kind-same f g s)
    ∙ ap (λ (word : Bool). elim (kind_of f) [ kind.Const ↦ true | kind.Function ↦ word | _ ↦ false ]) (has-same f g s is_extern_word)

name_found-moves : (to : ℕ → ℕ) (forest other : Forest Entry) (n : ℕ) (go along : Go) → Walks to forest other n go along → (task : Task) (there : Forest Entry) → Meets to task there → (parts : List RunPart) (state : State) (bound : Option RunPart) (declared : Option ℕ) →
    ((k : ℕ) → declared ≡ Some k → is_among (members forest) k ≡ true) → Misses n (name_found forest go task parts state bound declared) →
    name_found other along (moved_task to task there) (moved_parts to parts) (moved_state to state) (moved_found to bound) (moved_number to declared) ≡ moved_out to (name_found forest go task parts state bound declared)
name_found-moves to forest other n go along w task there s parts state (Some part) declared among m =
    ap (λ (result : Result RunPart StopKind). on_result (moved_task to task there) (moved_state to state) result (λ p. with_part along (moved_task to task there) (moved_parts to parts) p (moved_state to state))) (mentioned-moves to task.stage part)
    ∙ on_result-moves to n task there s state (mentioned task.stage part) (λ p. with_part go task parts p state) (λ p. with_part along (moved_task to task there) (moved_parts to parts) p (moved_state to state))
    (λ p. with-moves to n go along w.moves task there s parts p state) m
name_found-moves to forest other n go along w task there s parts state None None among m = place-moves to task there s (Error 9) state
name_found-moves to forest other n go along w task there s parts state None (Some k) among m =
    ap (λ (built : Bool). if_built other along (moved_task to task there) (moved_parts to parts) (moved_state to state) (to k) built) (built-same (tree_at forest k) (tree_at other (to k)) goes.0)
    ∙ if_built-moves to forest other n go along w task there s parts state k (w.moved.apart k (among k refl)) goes (is_built (tree_at forest k)) m
  where
    goes : Goes to k (tree_at forest k) (tree_at other (to k))
    goes = w.moved.trees k (among k refl) (named_is_other n forest go w.keeps task parts state k (is_built (tree_at forest k)) m)

-- ---- what is asked for is done

-- an operation or a node on operands, of which this comes
on_values-moves : (to : ℕ → ℕ) (n : ℕ) (go along : Go) → Moves to n go along → (task : Task) (there : Forest Entry) → Meets to task there → (parts : List RunPart) (state : State) (operands : List (Operand TypedNode)) →
    (comes same : List RunPart → Result RunPart StopKind) → ((values : List RunPart) → same (moved_parts to values) ≡ moved_result to (comes values)) →
    Misses n (on_operands task state (operand_parts operands) (λ values. on_result task state (comes values) (λ part. with_part go task parts part state))) →
    on_operands (moved_task to task there) (moved_state to state) (operand_parts (moved_operands to operands))
    (λ values. on_result (moved_task to task there) (moved_state to state) (same values) (λ part. with_part along (moved_task to task there) (moved_parts to parts) part (moved_state to state)))
    ≡ moved_out to (on_operands task state (operand_parts operands) (λ values. on_result task state (comes values) (λ part. with_part go task parts part state)))
on_values-moves to n go along moves task there s parts state operands comes same each m =
    ap (λ (uses : Result (List RunPart) ℕ). on_operands (moved_task to task there) (moved_state to state) uses then_with) (operand_parts-move to operands)
    ∙ on_operands-moves to n task there s state (operand_parts operands) (λ values. on_result task state (comes values) (λ part. with_part go task parts part state)) then_with
    (λ values later.
    ap (λ (result : Result RunPart StopKind). on_result (moved_task to task there) (moved_state to state) result (λ part. with_part along (moved_task to task there) (moved_parts to parts) part (moved_state to state))) (each values)
    ∙ on_result-moves to n task there s state (comes values) (λ part. with_part go task parts part state) (λ part. with_part along (moved_task to task there) (moved_parts to parts) part (moved_state to state))
    (λ part. with-moves to n go along moves task there s parts part state) later) m
  where
    then_with : List RunPart → Out
    then_with values = on_result (moved_task to task there) (moved_state to state) (same values) (λ part. with_part along (moved_task to task there) (moved_parts to parts) part (moved_state to state))

answered-moves : (to : ℕ → ℕ) (forest other : Forest Entry) (n : ℕ) (go along : Go) → Walks to forest other n go along → (task : Task) (there : Forest Entry) → Meets to task there → (parts : List RunPart) (state : State) (asked : Next TypedNode) →
    Misses n (answered forest go task parts state asked) →
    answered other along (moved_task to task there) (moved_parts to parts) (moved_state to state) (moved_next to asked) ≡ moved_out to (answered forest go task parts state asked)
answered-moves to forest other n go along w task there s parts state (Visit child wanted) m = visiting-moves to n go along w.keeps w.moves task there s parts state child wanted task.stage m
answered-moves to forest other n go along w task there s parts state (VisitKnown child wanted) m = visiting-moves to n go along w.keeps w.moves task there s parts state child wanted at_compile_time m
answered-moves to forest other n go along w task there s parts state (VisitUnevaluated child wanted) m = visiting-moves to n go along w.keeps w.moves task there s parts state child wanted at_run_time m
answered-moves to forest other n go along w task there s parts state (Operation name ty operands) m =
    on_values-moves to n go along w.moves task there s parts state operands (λ values. operated name ty values) (λ values. operated name ty values) (λ values. operated-moves to name ty values) m
answered-moves to forest other n go along w task there s parts state (Emit op ty operands) m =
    on_values-moves to n go along w.moves task there s parts state operands (λ values. emitted task.stage op ty values) (λ values. emitted task.stage (moved_op to op) ty values) (λ values. emitted-moves to task.stage op ty values) m
answered-moves to forest other n go along w task there s parts state (Lookup name) m =
    ap (λ (bound : Option RunPart). name_found other along (moved_task to task there) (moved_parts to parts) (moved_state to state) bound (declaration_named other name)) (bound_to-moves to state.bound name)
    ∙ ap (λ (declared : Option ℕ). name_found other along (moved_task to task there) (moved_parts to parts) (moved_state to state) (moved_found to (bound_to state.bound name)) declared) (declared-moves to forest other n w.moved name)
    ∙ name_found-moves to forest other n go along w task there s parts state (bound_to state.bound name) (declaration_named forest name) (λ k e. named_is_among forest (members forest) name k e) m
answered-moves to forest other n go along w task there s parts state (Bind name ty) m =
    ap (λ (bound : State). with_part along (moved_task to task there) (moved_parts to parts) nothing bound) (argument-moves to name ty state)
    ∙ with-moves to n go along w.moves task there s parts nothing (argument_bound name ty state) m
answered-moves to forest other n go along w task there s parts state (Returns ty) m = with-moves to n go along w.moves task there s parts nothing (record state { result = Some ty }) m
answered-moves to forest other n go along w task there s parts state next.Result m =
    ap (λ (part : RunPart). with_part along (moved_task to task there) (moved_parts to parts) part (moved_state to state)) (sym (result-stays to state.result))
    ∙ with-moves to n go along w.moves task there s parts (result_part state.result) state m
answered-moves to forest other n go along w task there s parts state (Raise value) m =
    ap (λ (raised : State). with_part along (moved_task to task there) (moved_parts to parts) nothing raised) (quota-moves to value state)
    ∙ with-moves to n go along w.moves task there s parts nothing (quota_raised value state) m
answered-moves to forest other n go along w task there s parts state (Done part) m = finished-moves to task.wanted task there s state part
answered-moves to forest other n go along w task there s parts state (Halt why) m = place-moves to task there s why state
answered-moves to forest other n go along w task there s parts state (HaltAt k why) m =
    ap (λ (at : Place). Stopped why at (moved_state to state)) (place-same (child_tree task.here task.node k) (child_tree there (to task.node) (to k)) (child-moves to task.here there s.same task.node s.fits k).0)

-- ---- rules

abbrev pub asked_else : Next TypedNode → Option (Next TypedNode) → Next TypedNode
asked_else other found = elim found [ Some next ↦ next | None ↦ other ]

entry-asked : (to : ℕ → ℕ) (forest other : Forest Entry) → NamesStay to forest other → to 0 ≡ 0 → (task : Task) (there : Forest Entry) → Meets to task there → (parts : List RunPart) (entry same : Entry) → SaysTheSame entry same →
    asked_of other (moved_task to task there) (moved_parts to parts) (Some same) ≡ moved_next to (asked_of forest task parts (Some entry))
entry-asked to forest other names root task there s parts entry same says =
    ap (λ (kind : NodeKind). asked_else (scalar_rule kind same (forms_below there (to task.node)) task.wanted (moved_parts to parts)) (declaration_rule other there task.outer kind (to task.node) (moved_parts to parts))) says.kind
    ∙ ap (λ (found : Option (Next TypedNode)). asked_else (scalar_rule entry.node.kind same (forms_below there (to task.node)) task.wanted (moved_parts to parts)) found)
    (declaration-moves to forest other names task.here there task.node (record { root = root; same = s.same; fits = s.fits }) task.outer entry.node.kind parts)
    ∙ by_found (declaration_rule forest task.here task.outer entry.node.kind task.node parts)
  where
    by_found : (found : Option (Next TypedNode)) → asked_else (scalar_rule entry.node.kind same (forms_below there (to task.node)) task.wanted (moved_parts to parts)) (moved_rule to found)
        ≡ moved_next to (asked_else (scalar_rule entry.node.kind entry (forms_below task.here task.node) task.wanted parts) found)
    by_found (Some next) = refl
    by_found None =
        ap (λ (forms : List ℕ). scalar_rule entry.node.kind same forms task.wanted (moved_parts to parts)) (forms-move to task.here there s.same task.node s.fits)
        ∙ scalar-moves to root entry.node.kind entry same says.name says.number (forms_below task.here task.node) task.wanted parts

asked-moves : (to : ℕ → ℕ) (forest other : Forest Entry) → NamesStay to forest other → to 0 ≡ 0 → (task : Task) (there : Forest Entry) → Meets to task there → (parts : List RunPart) →
    asked other (moved_task to task there) (moved_parts to parts) ≡ moved_next to (asked forest task parts)
asked-moves to forest other names root task there s parts =
    by_trees task.here there s.same (λ entry same says. entry-asked to forest other names root task there s parts entry same says)
  where
    by_trees : (f g : Forest Entry) → SayTheSame f g →
        ((entry same : Entry) → SaysTheSame entry same → asked_of other (moved_task to task there) (moved_parts to parts) (Some same) ≡ moved_next to (asked_of forest task parts (Some entry))) →
        asked_of other (moved_task to task there) (moved_parts to parts) (first_root g) ≡ moved_next to (asked_of forest task parts (first_root f))
    by_trees none none says each = refl
    by_trees none (tree root inside behind) says each = absurd says
    by_trees (tree root inside behind) none says each = absurd says
    by_trees (tree root inside behind) (tree root' inside' behind') says each = each root root' says.0

-- ---- the walk

counted-stays : (to : ℕ → ℕ) (task : Task) (there : Forest Entry) (parts : List RunPart) (state : State) → counted (moved_task to task there) (moved_parts to parts) (moved_state to state) ≡ counted task parts state
counted-stays to task there [] state = refl
counted-stays to task there (part ∷ parts) state = refl

stepped-moves : (to : ℕ → ℕ) (forest other : Forest Entry) (n : ℕ) (go along : Go) → Walks to forest other n go along → (task : Task) (there : Forest Entry) → Meets to task there → (parts : List RunPart) (state : State) (counters : Result Counters StopKind) →
    Misses n (stepped forest go task parts state counters) →
    stepped other along (moved_task to task there) (moved_parts to parts) (moved_state to state) counters ≡ moved_out to (stepped forest go task parts state counters)
stepped-moves to forest other n go along w task there s parts state (Err why) m = place-moves to task there s why state
stepped-moves to forest other n go along w task there s parts state (Ok counters) m =
    ap (λ (next : Next TypedNode). answered other along (moved_task to task there) (moved_parts to parts) (moved_state to (record state { counters = counters })) next)
    (asked-moves to forest other (names-stay to forest other n w.moved) w.moved.root task there s parts)
    ∙ answered-moves to forest other n go along w task there s parts (record state { counters = counters }) (asked forest task parts) m

pub walk-moves : (to : ℕ → ℕ) (forest other : Forest Entry) (n : ℕ) → IsMoved to forest other n → (bound : ℕ) → Moves to n (walk forest bound) (walk other bound)
walk-moves to forest other n moved zero task there s parts state m = absurd m
walk-moves to forest other n moved (suc bound) task there s parts state m =
    ap (λ (counters : Result Counters StopKind). stepped other (walk other bound) (moved_task to task there) (moved_parts to parts) (moved_state to state) counters) (counted-stays to task there parts state)
    ∙ stepped-moves to forest other n (walk forest bound) (walk other bound)
    (record { moved = moved; keeps = walk-keeps n forest bound; moves = walk-moves to forest other n moved bound }) task there s parts state (counted task parts state) m
