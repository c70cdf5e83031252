-- What is known of a part is a value of its type: by the recursion of the walk, with the lemmas on rules and operations.
use Rattle.std.proofs.Common.{◌≡◌, refl, ℕ, zero, suc, ℤ, Bool, true, false, List, [], ◌∷◌, ◌++◌, Option, Some, None, ap, sym, subst, ◌∙◌, arith, nat_eq}
use Rattle.std.specs.Prelude.{Result, Ok, Err, if◌then◌else◌, ◌||◌, length}
use Rattle.std.specs.Str.{bytes_eq}
use Rattle.std.proofs.lemmas.Int.{ints}
use Rattle.zw_base.specs.declared.stop.StopKind.{StopKind}
use Rattle.zw_base.specs.declared.stop.StopKind.TheVariants.{Error}
use Rattle.zw_num.specs.declared.int_ty.IntTy.{IntTy}
use Rattle.zw_num.specs.declared.int_ty.IntTy.TheVariants.{Sized, Comptime}
use Rattle.zw_num.specs.Arithmetic.{IsIn, is_in}
use Rattle.zw_num.proofs.WrappedLemmas.{in_from_test}
use Rattle.zw_tree.specs.Trees.{Forest}
use Rattle.zw_tree.specs.Numbering.{first_root}
use Rattle.zw_tree.specs.declared.ast.Entry.{Entry}
use Rattle.zw_num.specs.declared.operator.Operator.{Operator}
use Rattle.zw_types.specs.TypeTrees as tree
use Rattle.zw_types.specs.TypeTrees.{TypeTree, ValueTree}
use Rattle.zw_values.specs.ObjectStore.{Stage, at_compile_time, at_run_time}
use Rattle.zw_values.specs.Sameness.{is_same}
use Rattle.zw_values.specs.Coercions.{has_all, has_no_value, Applies, Refuses, IsForOthers, known_row, integers_row, integer_row, coercion}
use Rattle.zw_values.specs.Applied as operation
use Rattle.zw_values.specs.Applied.{Outcome, applied}
use Rattle.zw_values.proofs.SameLemmas.{is_same-true}
use Rattle.zw_typed.specs.Nodes.{Op, Become, Argument, Operate, TypedNode, node, no_nodes, node_and, nodes_from}
use Rattle.zw_env.specs.Counting.{Counters}
use Rattle.zw_env.specs.Parts.{Operand, Next, Visit, VisitKnown, VisitUnevaluated, Operation, Emit, Lookup, Bind, Returns, Raise, Done, Halt, HaltAt, a_value, a_node, is_lost}
use Rattle.zw_env.specs.Parts as next
use Rattle.zw_env.specs.Children.{tree_at, forms_below}
use Rattle.zw_typed.specs.ValueTypes.{HasWidths, IsNumberIn, IsValueOf, AreValuesOf, IsKnownOf}
use Rattle.zw_env.specs.SoundParts.{IsSound, AreSound, AreSoundOperands, types_used, IsSoundWish, StaysIn, IsSoundNext}
use Rattle.zw_forms_scalar.specs.ScalarRules.{scalar_rule}
use Rattle.zw_forms_decl.specs.DeclarationRules.{nothing, declaration_rule}
use Rattle.zw_sema.specs.Walk.{RunPart, Bound, Progress, UnderWay, Analysed, State, Task, Out, Found, Stopped, TooSmall, Go, node_of, become, coerced, used_as, part_and, operand_parts, known_and, all_known, types_of, nodes_of, computed, operated, emitted, on_part, on_result, on_operands, with_part, child_task, visiting, wanted_part, on_wanted, finished, mentioned, unit_task, declaration_part, if_built, name_found, bound_to, declaration_named, is_built, progress_of, unit_begun, unit_ended, argument_bound, result_part, quota_raised, answered, asked_of, asked, counted, stepped, walk}
use Rattle.zw_sema.specs.Known.{AreSoundBindings, IsSoundProgress, AreSoundDeclarations, IsSoundState}
use Rattle.zw_sema.proofs.ScalarLemmas.{IsSoundRule, sound-append}
use Rattle.zw_sema.proofs.BuiltinLemmas.{scalar-sound}
use Rattle.zw_sema.proofs.DeclarationLemmas.{nothing-sound, declaration-sound}

-- ---- coercions

abbrev pub SecondRow : IntTy → ValueTree → IntTy → Result ℕ ℕ
SecondRow x v y = elim (integers_row (Some x) (Some v) (Some y)) [ Applies ↦ Ok 2 | Refuses error ↦ Err error | IsForOthers ↦ Err 14 ]

-- a type that has all values of another has each
has-each : (x y : IntTy) (z : ℤ) → has_all y x ≡ true → IsIn x z → IsIn y z
has-each x y z e i = record { at_least = grind (arith, ints, i.at_least); at_most = grind (arith, ints, i.at_most) }

integers-fit : (x y : IntTy) (v : ValueTree) → IsNumberIn x v → (row : ℕ) → SecondRow x v y ≡ Ok row → IsNumberIn y v
integers-fit x y (tree.NumberValue z) i row e = by_all (has_all y x) refl e
  where
    by_known : (there : Bool) → is_in y z ≡ there → ◌≡◌ {A = Result ℕ ℕ} (elim (if there then Applies else Refuses 15) [ Applies ↦ Ok 2 | Refuses error ↦ Err error | IsForOthers ↦ Err 14 ]) (Ok row) → IsIn y z
    by_known true is same = in_from_test y z is
    by_known false is same = cc

    by_all : (all : Bool) → has_all y x ≡ all → ◌≡◌ {A = Result ℕ ℕ} (elim (if all then Applies else known_row (Some (tree.NumberValue z)) y) [ Applies ↦ Ok 2 | Refuses error ↦ Err error | IsForOthers ↦ Err 14 ]) (Ok row) → IsIn y z
    by_all true is same = has-each x y z is i
    by_all false is same = by_known (is_in y z) refl same
integers-fit x y _ i row e = absurd i

abbrev pub LaterRows : TypeTree → ValueTree → TypeTree → Result ℕ ℕ
LaterRows from v to = elim (integer_row from (Some v) to) [ Applies ↦ Ok 2 | Refuses error ↦ Err error | IsForOthers ↦ Err 14 ]

later-fit : (from to : TypeTree) (v : ValueTree) → IsValueOf from v → (row : ℕ) → LaterRows from v to ≡ Ok row → IsValueOf to v
later-fit (tree.IntType s m z) (tree.IntType s' m' z') v i row e = integers-fit (Sized s m) (Sized s' m') v i row e
later-fit (tree.IntType s m z) tree.ComptimeIntType v i row e = integers-fit (Sized s m) Comptime v i row e
later-fit tree.ComptimeIntType (tree.IntType s' m' z') v i row e = integers-fit Comptime (Sized s' m') v i row e
later-fit tree.ComptimeIntType tree.ComptimeIntType v i row e = integers-fit Comptime Comptime v i row e
later-fit (tree.IntType s m z) _ v i row e = cc
later-fit tree.ComptimeIntType _ v i row e = cc
later-fit _ to v i row e = cc

no_value-none : (from : TypeTree) (v : ValueTree) → has_no_value from ≡ true → IsValueOf from v → ⊥
no_value-none tree.UndefinedType v e i = i
no_value-none tree.NoReturnType v e i = i
no_value-none _ v e i = cc

coercion-fits : (from to : TypeTree) (v : ValueTree) → IsValueOf from v → (row : ℕ) → coercion from (Some v) to ≡ Ok row → IsValueOf to v
coercion-fits from to v i row e = by_same (is_same from to) (has_no_value from) refl refl e
  where
    by_same : (same none : Bool) → is_same from to ≡ same → has_no_value from ≡ none →
        ◌≡◌ {A = Result ℕ ℕ} (elim (if same || none then Applies else IsForOthers) [ Applies ↦ Ok 1 | Refuses error ↦ Err error | IsForOthers ↦ LaterRows from v to ]) (Ok row) → IsValueOf to v
    by_same true none is hollow later = subst (λ (ty : TypeTree). IsValueOf ty v) (is_same-true from to is) i
    by_same false true is hollow later = absurd (no_value-none from v hollow i)
    by_same false false is hollow later = later-fit from to v i row later

-- ---- parts become of a type

abbrev pub IsSoundAs : TypeTree → RunPart → Type 0
IsSoundAs ty part = IsSound part × (part.ty ≡ ty)

abbrev pub IsSoundUse : TypeTree → Result RunPart ℕ → Type 0
IsSoundUse ty (Ok part) = IsSoundAs ty part
IsSoundUse ty (Err error) = Unit {0}

become-sound : (part : RunPart) (ty : TypeTree) → IsSound part → HasWidths ty → (row : ℕ) → coercion part.ty part.known ty ≡ Ok row → IsSoundAs ty (become part ty)
become-sound part ty i h row e = by_known part.known i.known e
  where
    by_same : (same : Bool) → is_same part.ty ty ≡ same → IsSoundAs ty (elim same [ true ↦ part | false ↦ a_node ty (node Become ty (node_and (node_of part) no_nodes)) ])
    by_same true is = (i, is_same-true part.ty ty is)
    by_same false is = (record { ty = h; known = tt }, refl)

    by_known : (known : Option ValueTree) → IsKnownOf part.ty known → coercion part.ty known ty ≡ Ok row →
        IsSoundAs ty (elim known [ Some value ↦ a_value ty value | None ↦ elim (is_same part.ty ty) [ true ↦ part | false ↦ a_node ty (node Become ty (node_and (node_of part) no_nodes)) ] ])
    by_known (Some v) k same = (record { ty = h; known = coercion-fits part.ty ty v k row same }, refl)
    by_known None k same = by_same (is_same part.ty ty) refl

coerced-sound : (part : RunPart) (ty : TypeTree) → IsSound part → HasWidths ty → IsSoundUse ty (coerced part ty)
coerced-sound part ty i h = by_row (coercion part.ty part.known ty) refl
  where
    by_row : (found : Result ℕ ℕ) → coercion part.ty part.known ty ≡ found → IsSoundUse ty (elim found [ Ok row ↦ Ok (become part ty) | Err error ↦ Err error ])
    by_row (Ok row) e = become-sound part ty i h row e
    by_row (Err error) e = tt

used-sound : (part : RunPart) (ty : TypeTree) → IsSound part → HasWidths ty → IsSoundUse ty (used_as part ty)
used-sound part ty i h = by_lost (is_lost part)
  where
    by_lost : (lost : Bool) → IsSoundUse ty (elim lost [ true ↦ Err 16 | false ↦ coerced part ty ])
    by_lost true = tt
    by_lost false = coerced-sound part ty i h

abbrev pub AreSoundUses : List TypeTree → Result (List RunPart) ℕ → Type 0
AreSoundUses types (Ok parts) = AreSound parts × (types_of parts ≡ types)
AreSoundUses types (Err error) = Unit {0}

and-sound : (ty : TypeTree) (types : List TypeTree) (first : Result RunPart ℕ) (others : Result (List RunPart) ℕ) → IsSoundUse ty first → AreSoundUses types others → AreSoundUses (ty ∷ types) (part_and first others)
and-sound ty types (Err error) others i k = tt
and-sound ty types (Ok part) (Err error) i k = tt
and-sound ty types (Ok part) (Ok parts) (i, e) (k, es) = ((i, k), ap (λ (t : TypeTree). t ∷ types_of parts) e ∙ ap (λ (ts : List TypeTree). ty ∷ ts) es)

operands-sound : (operands : List (Operand TypedNode)) → AreSoundOperands operands → AreSoundUses (types_used operands) (operand_parts operands)
operands-sound [] k = (tt, refl)
operands-sound (o ∷ operands) ((i, h), k) = and-sound o.as_type (types_used operands) (used_as o.part o.as_type) (operand_parts operands) (used-sound o.part o.as_type i h) (operands-sound operands k)

-- ---- operations

some_is : {A : Type 0} (a b : A) → Some a ≡ Some b → a ≡ b
some_is a b e = cc

all_known-values : (parts : List RunPart) → AreSound parts → (values : List ValueTree) → all_known parts ≡ Some values → AreValuesOf (types_of parts) values
all_known-values [] k values e = subst (λ (vs : List ValueTree). AreValuesOf [] vs) (some_is [] values e) tt
all_known-values (part ∷ parts) (i, k) values e = by_parts part.known i.known (all_known parts) (λ vs same. all_known-values parts k vs same) e
  where
    by_parts : (known : Option ValueTree) → IsKnownOf part.ty known → (all : Option (List ValueTree)) → ((vs : List ValueTree) → all ≡ Some vs → AreValuesOf (types_of parts) vs) →
        known_and known all ≡ Some values → AreValuesOf (part.ty ∷ types_of parts) values
    by_parts (Some v) j (Some vs) later same = subst (λ (us : List ValueTree). AreValuesOf (part.ty ∷ types_of parts) us) (some_is (v ∷ vs) values same) (j, later vs refl)
    by_parts (Some v) j None later same = cc
    by_parts None j all later same = cc

abbrev pub IsSoundResult : Result RunPart StopKind → Type 0
IsSoundResult (Ok part) = IsSound part
IsSoundResult (Err why) = Unit {0}

computed-sound : (ty : TypeTree) → HasWidths ty → (outcome : Outcome) → ((v : ValueTree) → outcome ≡ operation.Gives v → IsValueOf ty v) → IsSoundResult (computed ty outcome)
computed-sound ty h (operation.Gives v) stays = record { ty = h; known = stays v refl }
computed-sound ty h (operation.Panics cause) stays = tt
computed-sound ty h operation.IsWild stays = tt
computed-sound ty h (operation.Passes limit) stays = tt

operated-sound : (name : Operator) (ty : TypeTree) → HasWidths ty → (parts : List RunPart) → AreSound parts → StaysIn name (types_of parts) ty → IsSoundResult (operated name ty parts)
operated-sound name ty h parts k stays = by_known (all_known parts) refl
  where
    by_known : (all : Option (List ValueTree)) → all_known parts ≡ all →
        IsSoundResult (elim all [ Some values ↦ computed ty (applied name (types_of parts) ty values) | None ↦ Ok (a_node ty (node (Operate name) ty (nodes_from (nodes_of parts)))) ])
    by_known (Some values) e = computed-sound ty h (applied name (types_of parts) ty values) (λ v same. stays values (all_known-values parts k values e) v same)
    by_known None e = record { ty = h; known = tt }

emitted-sound : (stage : Stage) (op : Op) (ty : TypeTree) → HasWidths ty → (parts : List RunPart) → IsSoundResult (emitted stage op ty parts)
emitted-sound at_compile_time op ty h parts = tt
emitted-sound at_run_time op ty h parts = record { ty = h; known = tt }

-- ---- states

abbrev pub IsSoundFound : Option RunPart → Type 0
IsSoundFound None = Unit {0}
IsSoundFound (Some part) = IsSound part

bound-sound : (bs : List Bound) → AreSoundBindings bs → (name : List ℕ) → IsSoundFound (bound_to bs name)
bound-sound [] k name = tt
bound-sound (b ∷ bs) (i, k) name = by_test (bytes_eq b.name name) (bound-sound bs k name)
  where
    by_test : (same : Bool) → IsSoundFound (bound_to bs name) → IsSoundFound (if same then Some b.part else bound_to bs name)
    by_test true later = i
    by_test false later = later

bindings-append : (bs : List Bound) (b : Bound) → AreSoundBindings bs → IsSound b.part → AreSoundBindings (bs ++ b ∷ [])
bindings-append [] b k i = (i, tt)
bindings-append (a ∷ bs) b (j, k) i = (j, bindings-append bs b k i)

mentioned-sound : (stage : Stage) (part : RunPart) → IsSound part → IsSoundResult (mentioned stage part)
mentioned-sound at_run_time part i = i
mentioned-sound at_compile_time part i = by_known part.known
  where
    by_known : (known : Option ValueTree) → IsSoundResult (elim known [ Some value ↦ Ok part | None ↦ Err (Error 23) ])
    by_known (Some value) = i
    by_known None = tt

abbrev pub IsSoundStand : Option Progress → Type 0
IsSoundStand None = Unit {0}
IsSoundStand (Some progress) = IsSoundProgress progress

progress-sound : (ds : List (ℕ × Progress)) → AreSoundDeclarations ds → (n : ℕ) → IsSoundStand (progress_of ds n)
progress-sound [] k n = tt
progress-sound ((m, progress) ∷ more) (i, k) n = by_test (nat_eq m n) (progress-sound more k n)
  where
    by_test : (same : Bool) → IsSoundStand (progress_of more n) → IsSoundStand (if same then Some progress else progress_of more n)
    by_test true later = i
    by_test false later = later

result-sound : (result : Option TypeTree) → IsSoundWish result → IsSound (result_part result)
result-sound None h = record { ty = tt; known = tt }
result-sound (Some ty) h = record { ty = tt; known = h }

quota-sound : (value : ValueTree) (state : State) → IsSoundState state → IsSoundState (quota_raised value state)
quota-sound (tree.NumberValue n) state s = record { bound = s.bound; result = s.result; declarations = s.declarations }
quota-sound _ state s = s

-- ---- the walk

abbrev pub IsSoundOut : Out → Type 0
IsSoundOut (Found part state) = IsSound part × IsSoundState state
IsSoundOut (Stopped why place state) = Unit {0}
IsSoundOut TooSmall = Unit {0}

abbrev pub GoesSound : Go → Type 0
GoesSound go = (task : Task) (parts : List RunPart) (state : State) → IsSoundWish task.wanted → AreSound parts → IsSoundState state → IsSoundOut (go task parts state)

on_part-sound : (out : Out) (f : RunPart → State → Out) → IsSoundOut out → ((part : RunPart) (state : State) → IsSound part → IsSoundState state → IsSoundOut (f part state)) → IsSoundOut (on_part out f)
on_part-sound (Found part state) f (i, s) each = each part state i s
on_part-sound (Stopped why place state) f i each = tt
on_part-sound TooSmall f i each = tt

on_result-sound : (task : Task) (state : State) (result : Result RunPart StopKind) (f : RunPart → Out) → IsSoundResult result → ((part : RunPart) → IsSound part → IsSoundOut (f part)) → IsSoundOut (on_result task state result f)
on_result-sound task state (Ok part) f i each = each part i
on_result-sound task state (Err why) f i each = tt

on_operands-sound : (task : Task) (state : State) (types : List TypeTree) (result : Result (List RunPart) ℕ) (f : List RunPart → Out) → AreSoundUses types result →
    ((parts : List RunPart) → AreSound parts → types_of parts ≡ types → IsSoundOut (f parts)) → IsSoundOut (on_operands task state result f)
on_operands-sound task state types (Ok parts) f (k, e) each = each parts k e
on_operands-sound task state types (Err error) f k each = tt

on_wanted-sound : (task : Task) (state : State) (result : Result RunPart ℕ) (ty : TypeTree) → IsSoundState state → ((part : RunPart) → result ≡ Ok part → IsSound part) → IsSoundOut (on_wanted task state result)
on_wanted-sound task state (Ok part) ty s each = (each part refl, s)
on_wanted-sound task state (Err error) ty s each = tt

abbrev pub taken : RunPart → Result RunPart ℕ
taken part = Ok part

ok_is : (a b : RunPart) → taken a ≡ taken b → a ≡ b
ok_is a b same = cc

wanted-sound : (part : RunPart) (ty : TypeTree) → IsSound part → HasWidths ty → (p : RunPart) → wanted_part part ty ≡ Ok p → IsSound p
wanted-sound part ty i h p e = by_lost (is_lost part) e
  where
    by_use : (used : Result RunPart ℕ) → IsSoundUse ty used → used ≡ Ok p → IsSound p
    by_use (Ok q) (j, t) same = subst (λ (r : RunPart). IsSound r) (ok_is q p same) j
    by_use (Err error) j same = cc

    by_lost : (lost : Bool) → ◌≡◌ {A = Result RunPart ℕ} (elim lost [ true ↦ Ok part | false ↦ coerced part ty ]) (Ok p) → IsSound p
    by_lost true same = subst (λ (r : RunPart). IsSound r) (ok_is part p same) i
    by_lost false same = by_use (coerced part ty) (coerced-sound part ty i h) same

finished-sound : (wanted : Option TypeTree) (task : Task) (state : State) (part : RunPart) → IsSoundWish wanted → IsSound part → IsSoundState state → IsSoundOut (finished wanted task state part)
finished-sound None task state part h i s = (i, s)
finished-sound (Some ty) task state part h i s = on_wanted-sound task state (wanted_part part ty) ty s (λ p e. wanted-sound part ty i h p e)

visiting-sound : (go : Go) → GoesSound go → (task : Task) (parts : List RunPart) (state : State) (child : ℕ) (wanted : Option TypeTree) (stage : Stage) → IsSoundWish task.wanted → AreSound parts → IsSoundState state → IsSoundWish wanted →
    IsSoundOut (visiting go task parts state child wanted stage)
visiting-sound go sound task parts state child wanted stage h k s w =
    on_part-sound (go (child_task task child wanted stage) [] state) (λ part behind. with_part go task parts part behind) (sound (child_task task child wanted stage) [] state w tt s)
    (λ part behind i t. sound task (parts ++ part ∷ []) behind h (sound-append parts part k i) t)

declaration_part-sound : (forest : Forest Entry) (go : Go) → GoesSound go → (task : Task) (parts : List RunPart) (state : State) (n : ℕ) → IsSoundWish task.wanted → AreSound parts → IsSoundState state →
    (progress : Option Progress) → IsSoundStand progress → IsSoundOut (declaration_part forest go task parts state n progress)
declaration_part-sound forest go sound task parts state n h k s None p =
    on_part-sound (go (unit_task forest n at_compile_time) [] (unit_begun n state)) (λ part behind. with_part go task parts part (unit_ended n part state behind))
    (sound (unit_task forest n at_compile_time) [] (unit_begun n state) tt tt (record { bound = tt; result = tt; declarations = (tt, s.declarations) }))
    (λ part behind i t. sound task (parts ++ part ∷ []) (unit_ended n part state behind) h (sound-append parts part k i) (record { bound = s.bound; result = s.result; declarations = (i, t.declarations) }))
declaration_part-sound forest go sound task parts state n h k s (Some UnderWay) p = tt
declaration_part-sound forest go sound task parts state n h k s (Some (Analysed part)) p = sound task (parts ++ part ∷ []) state h (sound-append parts part k p) s

if_built-sound : (forest : Forest Entry) (go : Go) → GoesSound go → (task : Task) (parts : List RunPart) (state : State) (n : ℕ) → IsSoundWish task.wanted → AreSound parts → IsSoundState state → (built : Bool) →
    IsSoundOut (if_built forest go task parts state n built)
if_built-sound forest go sound task parts state n h k s true = declaration_part-sound forest go sound task parts state n h k s (progress_of state.declarations n) (progress-sound state.declarations s.declarations n)
if_built-sound forest go sound task parts state n h k s false = tt

name_found-sound : (forest : Forest Entry) (go : Go) → GoesSound go → (task : Task) (parts : List RunPart) (state : State) → IsSoundWish task.wanted → AreSound parts → IsSoundState state →
    (bound : Option RunPart) → IsSoundFound bound → (declared : Option ℕ) → IsSoundOut (name_found forest go task parts state bound declared)
name_found-sound forest go sound task parts state h k s (Some part) i declared =
    on_result-sound task state (mentioned task.stage part) (λ p. with_part go task parts p state) (mentioned-sound task.stage part i) (λ p j. sound task (parts ++ p ∷ []) state h (sound-append parts p k j) s)
name_found-sound forest go sound task parts state h k s None i None = tt
name_found-sound forest go sound task parts state h k s None i (Some n) = if_built-sound forest go sound task parts state n h k s (is_built (tree_at forest n))

answered-sound : (forest : Forest Entry) (go : Go) → GoesSound go → (task : Task) (parts : List RunPart) (state : State) → IsSoundWish task.wanted → AreSound parts → IsSoundState state →
    (asked : Next TypedNode) → IsSoundNext asked → IsSoundOut (answered forest go task parts state asked)
answered-sound forest go sound task parts state h k s (Visit child wanted) n = visiting-sound go sound task parts state child wanted task.stage h k s n
answered-sound forest go sound task parts state h k s (VisitKnown child wanted) n = visiting-sound go sound task parts state child wanted at_compile_time h k s n
answered-sound forest go sound task parts state h k s (VisitUnevaluated child wanted) n = visiting-sound go sound task parts state child wanted at_run_time h k s n
answered-sound forest go sound task parts state h k s (Operation name ty operands) (w, (o, stays)) =
    on_operands-sound task state (types_used operands) (operand_parts operands) (λ values. on_result task state (operated name ty values) (λ part. with_part go task parts part state)) (operands-sound operands o)
    (λ values l e. on_result-sound task state (operated name ty values) (λ part. with_part go task parts part state)
    (operated-sound name ty w values l (subst (λ (types : List TypeTree). StaysIn name types ty) (sym e) stays))
    (λ part i. sound task (parts ++ part ∷ []) state h (sound-append parts part k i) s))
answered-sound forest go sound task parts state h k s (Emit op ty operands) (w, o) =
    on_operands-sound task state (types_used operands) (operand_parts operands) (λ values. on_result task state (emitted task.stage op ty values) (λ part. with_part go task parts part state)) (operands-sound operands o)
    (λ values l e. on_result-sound task state (emitted task.stage op ty values) (λ part. with_part go task parts part state) (emitted-sound task.stage op ty w values)
    (λ part i. sound task (parts ++ part ∷ []) state h (sound-append parts part k i) s))
answered-sound forest go sound task parts state h k s (Lookup name) n = name_found-sound forest go sound task parts state h k s (bound_to state.bound name) (bound-sound state.bound s.bound name) (declaration_named forest name)
answered-sound forest go sound task parts state h k s (Bind name ty) n =
    sound task (parts ++ nothing ∷ []) (argument_bound name ty state) h (sound-append parts nothing k nothing-sound)
    (record { bound = bindings-append state.bound (record { name = name; part = a_node ty (node (Argument (length state.bound)) ty no_nodes) }) s.bound (record { ty = n; known = tt }); result = s.result; declarations = s.declarations })
answered-sound forest go sound task parts state h k s (Returns ty) n =
    sound task (parts ++ nothing ∷ []) (record state { result = Some ty }) h (sound-append parts nothing k nothing-sound) (record { bound = s.bound; result = n; declarations = s.declarations })
answered-sound forest go sound task parts state h k s next.Result n = sound task (parts ++ result_part state.result ∷ []) state h (sound-append parts (result_part state.result) k (result-sound state.result s.result)) s
answered-sound forest go sound task parts state h k s (Raise value) n = sound task (parts ++ nothing ∷ []) (quota_raised value state) h (sound-append parts nothing k nothing-sound) (quota-sound value state s)
answered-sound forest go sound task parts state h k s (Done part) n = finished-sound task.wanted task state part h n s
answered-sound forest go sound task parts state h k s (Halt why) n = tt
answered-sound forest go sound task parts state h k s (HaltAt m why) n = tt

asked-sound : (forest : Forest Entry) (task : Task) (parts : List RunPart) → IsSoundWish task.wanted → AreSound parts → (root : Option Entry) → IsSoundNext (asked_of forest task parts root)
asked-sound forest task parts h k None = tt
asked-sound forest task parts h k (Some entry) =
    by_found (declaration_rule forest task.here task.outer entry.node.kind task.node parts) (declaration-sound forest task.here task.outer entry.node.kind task.node parts k)
  where
    by_found : (found : Option (Next TypedNode)) → IsSoundRule found →
        IsSoundNext (elim found [ Some next ↦ next | None ↦ scalar_rule entry.node.kind entry (forms_below task.here task.node) task.wanted parts ])
    by_found (Some next) i = i
    by_found None i = scalar-sound entry.node.kind entry (forms_below task.here task.node) task.wanted parts h k

stepped-sound : (forest : Forest Entry) (go : Go) → GoesSound go → (task : Task) (parts : List RunPart) (state : State) → IsSoundWish task.wanted → AreSound parts → IsSoundState state → (counters : Result Counters StopKind) →
    IsSoundOut (stepped forest go task parts state counters)
stepped-sound forest go sound task parts state h k s (Err why) = tt
stepped-sound forest go sound task parts state h k s (Ok counters) =
    answered-sound forest go sound task parts (record state { counters = counters }) h k (record { bound = s.bound; result = s.result; declarations = s.declarations })
    (asked forest task parts) (asked-sound forest task parts h k (first_root task.here))

pub walk-sound : (forest : Forest Entry) (bound : ℕ) → GoesSound (walk forest bound)
walk-sound forest zero task parts state h k s = tt
walk-sound forest (suc bound) task parts state h k s = stepped-sound forest (walk forest bound) (walk-sound forest bound) task parts state h k s (counted task parts state)
