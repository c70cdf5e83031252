-- Parts and states where the functions in them, and the declarations that were met, have other numbers: what the walk does with them stays.
use Rattle.std.proofs.Common.{◌≡◌, refl, ℕ, Bool, true, false, nat_eq, List, [], ◌∷◌, ◌++◌, Option, Some, None, ap, sym, ◌∙◌}
use Rattle.std.specs.Prelude.{if◌then◌else◌, ◌||◌, suc, length, Result, Ok, Err}
use Rattle.std.specs.Str.{bytes_eq}
use Rattle.std.proofs.lemmas.Bool.{eqb-true, eq-eqb}
use Rattle.zw_base.specs.declared.stop.StopKind.{StopKind}
use Rattle.zw_base.specs.declared.stop.StopKind.TheVariants.{Error}
use Rattle.zw_num.specs.declared.int_ty.IntTy.{IntTy}
use Rattle.zw_num.specs.declared.operator.Operator.{Operator}
use Rattle.zw_types.specs.TypeTrees as tree
use Rattle.zw_types.specs.TypeTrees.{TypeTree, ValueTree}
use Rattle.zw_values.specs.ObjectStore.{Stage, at_compile_time, at_run_time}
use Rattle.zw_values.specs.Sameness.{is_same}
use Rattle.zw_values.specs.Coercions.{integer_of, has_all, has_no_value, Row, Applies, Refuses, IsForOthers, known_row, integers_row, coercion}
use Rattle.zw_values.specs.Applied as operation
use Rattle.zw_values.specs.Applied.{Outcome, applied}
use Rattle.zw_typed.specs.Nodes.{Op, Constant, Argument, Operate, Become, InOrder, TypedNode, TypedNodes, node, no_nodes, node_and, nodes_from}
use Rattle.zw_env.specs.Parts.{Operand, a_value, a_node, is_lost}
use Rattle.zw_sema.specs.Walk.{RunPart, Progress, UnderWay, Analysed, Bound, State, Out, Found, Stopped, TooSmall, node_of, become, coerced, used_as, part_and, operand_parts, known_and, all_known, types_of, nodes_of, computed, operated, emitted, bound_to, progress_of, argument_bound, wanted_part, mentioned, result_part, quota_raised}
use Rattle.zw_sema.proofs.MovedValues.{moved_value, moved_values, moved_known, moved_op, moved_node, moved_nodes, moved_run, moved_part, moved_parts, moved_outcome, applied-moves}
use Rattle.zw_sema.proofs.MovedTrees.{IsApart}
use Rattle.zw_sema.proofs.MovedRules.{moved_operands, lost-stays}

-- ---- coercions

known_row-stays : (to : ℕ → ℕ) (known : Option ValueTree) (ty : IntTy) → known_row (moved_known to known) ty ≡ known_row known ty
known_row-stays to None ty = refl
known_row-stays to (Some (tree.NumberValue z)) ty = refl
known_row-stays to (Some _) ty = refl

integers_row-stays : (to : ℕ → ℕ) (from : Option IntTy) (known : Option ValueTree) (ty : Option IntTy) → integers_row from (moved_known to known) ty ≡ integers_row from known ty
integers_row-stays to None known ty = refl
integers_row-stays to (Some from) known None = refl
integers_row-stays to (Some from) known (Some ty) = ap (λ (row : Row). if has_all ty from then Applies else row) (known_row-stays to known ty)

-- what the rows say, where the second one says this
abbrev pub by_second : TypeTree → TypeTree → Row → Result ℕ ℕ
by_second from ty row =
    elim (if is_same from ty || has_no_value from then Applies else IsForOthers) [
      | Applies ↦ Ok 1
      | Refuses error ↦ Err error
      | IsForOthers ↦ elim row [ Applies ↦ Ok 2 | Refuses error ↦ Err error | IsForOthers ↦ Err 14 ]
    ]

coercion-stays : (to : ℕ → ℕ) (from : TypeTree) (known : Option ValueTree) (ty : TypeTree) → coercion from (moved_known to known) ty ≡ coercion from known ty
coercion-stays to from known ty = ap (λ (row : Row). by_second from ty row) (integers_row-stays to (integer_of from) known (integer_of ty))

-- ---- parts become of a type

abbrev pub moved_use : (ℕ → ℕ) → Result RunPart ℕ → Result RunPart ℕ
moved_use to (Ok part) = Ok (moved_part to part)
moved_use to (Err error) = Err error

abbrev pub moved_uses : (ℕ → ℕ) → Result (List RunPart) ℕ → Result (List RunPart) ℕ
moved_uses to (Ok parts) = Ok (moved_parts to parts)
moved_uses to (Err error) = Err error

abbrev pub moved_result : (ℕ → ℕ) → Result RunPart StopKind → Result RunPart StopKind
moved_result to (Ok part) = Ok (moved_part to part)
moved_result to (Err why) = Err why

pub node_of-moves : (to : ℕ → ℕ) (part : RunPart) → node_of (moved_part to part) ≡ moved_node to (node_of part)
node_of-moves to part = by_known part.known
  where
    by_run : (run : Option TypedNode) → (elim (moved_run to run) [ Some n ↦ n | None ↦ node InOrder tree.VoidType no_nodes ]) ≡ moved_node to (elim run [ Some n ↦ n | None ↦ node InOrder tree.VoidType no_nodes ])
    by_run None = refl
    by_run (Some n) = refl

    by_known : (known : Option ValueTree) →
        (elim (moved_known to known) [ Some value ↦ node (Constant value) part.ty no_nodes | None ↦ elim (moved_run to part.node) [ Some n ↦ n | None ↦ node InOrder tree.VoidType no_nodes ] ])
        ≡ moved_node to (elim known [ Some value ↦ node (Constant value) part.ty no_nodes | None ↦ elim part.node [ Some n ↦ n | None ↦ node InOrder tree.VoidType no_nodes ] ])
    by_known None = by_run part.node
    by_known (Some v) = refl

become-moves : (to : ℕ → ℕ) (part : RunPart) (ty : TypeTree) → become (moved_part to part) ty ≡ moved_part to (become part ty)
become-moves to part ty = by_known part.known
  where
    by_same : (same : Bool) → (elim same [ true ↦ moved_part to part | false ↦ a_node ty (node Become ty (node_and (node_of (moved_part to part)) no_nodes)) ])
        ≡ moved_part to (elim same [ true ↦ part | false ↦ a_node ty (node Become ty (node_and (node_of part) no_nodes)) ])
    by_same true = refl
    by_same false = ap (λ (n : TypedNode). a_node ty (node Become ty (node_and n no_nodes))) (node_of-moves to part)

    by_known : (known : Option ValueTree) →
        (elim (moved_known to known) [ Some value ↦ a_value ty value | None ↦ elim (is_same part.ty ty) [ true ↦ moved_part to part | false ↦ a_node ty (node Become ty (node_and (node_of (moved_part to part)) no_nodes)) ] ])
        ≡ moved_part to (elim known [ Some value ↦ a_value ty value | None ↦ elim (is_same part.ty ty) [ true ↦ part | false ↦ a_node ty (node Become ty (node_and (node_of part) no_nodes)) ] ])
    by_known None = by_same (is_same part.ty ty)
    by_known (Some v) = refl

coerced-moves : (to : ℕ → ℕ) (part : RunPart) (ty : TypeTree) → coerced (moved_part to part) ty ≡ moved_use to (coerced part ty)
coerced-moves to part ty =
    ap (λ (found : Result ℕ ℕ). elim found [ Ok row ↦ Ok (become (moved_part to part) ty) | Err error ↦ Err error ]) (coercion-stays to part.ty part.known ty)
    ∙ by_row (coercion part.ty part.known ty)
  where
    by_row : (found : Result ℕ ℕ) → ◌≡◌ {A = Result RunPart ℕ} (elim found [ Ok row ↦ Ok (become (moved_part to part) ty) | Err error ↦ Err error ]) (moved_use to (elim found [ Ok row ↦ Ok (become part ty) | Err error ↦ Err error ]))
    by_row (Ok row) = ap (λ (p : RunPart). taken p) (become-moves to part ty)
      where
        taken : RunPart → Result RunPart ℕ
        taken p = Ok p
    by_row (Err error) = refl

used-moves : (to : ℕ → ℕ) (part : RunPart) (ty : TypeTree) → used_as (moved_part to part) ty ≡ moved_use to (used_as part ty)
used-moves to part ty =
    ap (λ (lost : Bool). elim lost [ true ↦ Err 16 | false ↦ coerced (moved_part to part) ty ]) (lost-stays to part) ∙ by_lost (is_lost part)
  where
    by_lost : (lost : Bool) → ◌≡◌ {A = Result RunPart ℕ} (elim lost [ true ↦ Err 16 | false ↦ coerced (moved_part to part) ty ]) (moved_use to (elim lost [ true ↦ Err 16 | false ↦ coerced part ty ]))
    by_lost true = refl
    by_lost false = coerced-moves to part ty

pub wanted-moves : (to : ℕ → ℕ) (part : RunPart) (ty : TypeTree) → wanted_part (moved_part to part) ty ≡ moved_use to (wanted_part part ty)
wanted-moves to part ty =
    ap (λ (lost : Bool). elim lost [ true ↦ Ok (moved_part to part) | false ↦ coerced (moved_part to part) ty ]) (lost-stays to part) ∙ by_lost (is_lost part)
  where
    by_lost : (lost : Bool) → ◌≡◌ {A = Result RunPart ℕ} (elim lost [ true ↦ Ok (moved_part to part) | false ↦ coerced (moved_part to part) ty ]) (moved_use to (elim lost [ true ↦ Ok part | false ↦ coerced part ty ]))
    by_lost true = refl
    by_lost false = coerced-moves to part ty

and-moves : (to : ℕ → ℕ) (first : Result RunPart ℕ) (others : Result (List RunPart) ℕ) → part_and (moved_use to first) (moved_uses to others) ≡ moved_uses to (part_and first others)
and-moves to (Err error) others = refl
and-moves to (Ok part) (Err error) = refl
and-moves to (Ok part) (Ok parts) = refl

pub operand_parts-move : (to : ℕ → ℕ) (operands : List (Operand TypedNode)) → operand_parts (moved_operands to operands) ≡ moved_uses to (operand_parts operands)
operand_parts-move to [] = refl
operand_parts-move to (o ∷ operands) =
    ap (λ (first : Result RunPart ℕ). part_and first (operand_parts (moved_operands to operands))) (used-moves to o.part o.as_type)
    ∙ ap (λ (others : Result (List RunPart) ℕ). part_and (moved_use to (used_as o.part o.as_type)) others) (operand_parts-move to operands)
    ∙ and-moves to (used_as o.part o.as_type) (operand_parts operands)

-- ---- operations

abbrev pub moved_all : (ℕ → ℕ) → Option (List ValueTree) → Option (List ValueTree)
moved_all to None = None
moved_all to (Some values) = Some (moved_values to values)

known_and-moves : (to : ℕ → ℕ) (known : Option ValueTree) (all : Option (List ValueTree)) → known_and (moved_known to known) (moved_all to all) ≡ moved_all to (known_and known all)
known_and-moves to None all = refl
known_and-moves to (Some v) None = refl
known_and-moves to (Some v) (Some vs) = refl

all_known-moves : (to : ℕ → ℕ) (parts : List RunPart) → all_known (moved_parts to parts) ≡ moved_all to (all_known parts)
all_known-moves to [] = refl
all_known-moves to (part ∷ parts) = ap (λ (all : Option (List ValueTree)). known_and (moved_known to part.known) all) (all_known-moves to parts) ∙ known_and-moves to part.known (all_known parts)

types-stay : (to : ℕ → ℕ) (parts : List RunPart) → types_of (moved_parts to parts) ≡ types_of parts
types-stay to [] = refl
types-stay to (part ∷ parts) = ap (λ (types : List TypeTree). part.ty ∷ types) (types-stay to parts)

nodes-move : (to : ℕ → ℕ) (parts : List RunPart) → nodes_from (nodes_of (moved_parts to parts)) ≡ moved_nodes to (nodes_from (nodes_of parts))
nodes-move to [] = refl
nodes-move to (part ∷ parts) =
    ap (λ (n : TypedNode). node_and n (nodes_from (nodes_of (moved_parts to parts)))) (node_of-moves to part)
    ∙ ap (λ (ns : TypedNodes). node_and (moved_node to (node_of part)) ns) (nodes-move to parts)

computed-moves : (to : ℕ → ℕ) (ty : TypeTree) (outcome : Outcome) → computed ty (moved_outcome to outcome) ≡ moved_result to (computed ty outcome)
computed-moves to ty (operation.Gives v) = refl
computed-moves to ty (operation.Panics cause) = refl
computed-moves to ty operation.IsWild = refl
computed-moves to ty (operation.Passes limit) = refl

abbrev pub done : RunPart → Result RunPart StopKind
done part = Ok part

-- what an operation gives, where these values are known of the parts
abbrev pub operated_on : Operator → TypeTree → List TypeTree → TypedNodes → Option (List ValueTree) → Result RunPart StopKind
operated_on name ty types nodes all =
    elim all [ Some values ↦ computed ty (applied name types ty values) | None ↦ Ok (a_node ty (node (Operate name) ty nodes)) ]

pub operated-moves : (to : ℕ → ℕ) (name : Operator) (ty : TypeTree) (parts : List RunPart) → operated name ty (moved_parts to parts) ≡ moved_result to (operated name ty parts)
operated-moves to name ty parts =
    ap (λ (types : List TypeTree). operated_on name ty types (nodes_from (nodes_of (moved_parts to parts))) (all_known (moved_parts to parts))) (types-stay to parts)
    ∙ ap (λ (nodes : TypedNodes). operated_on name ty (types_of parts) nodes (all_known (moved_parts to parts))) (nodes-move to parts)
    ∙ ap (λ (all : Option (List ValueTree)). operated_on name ty (types_of parts) (moved_nodes to (nodes_from (nodes_of parts))) all) (all_known-moves to parts)
    ∙ by_known (all_known parts)
  where
    by_known : (all : Option (List ValueTree)) →
        operated_on name ty (types_of parts) (moved_nodes to (nodes_from (nodes_of parts))) (moved_all to all) ≡ moved_result to (operated_on name ty (types_of parts) (nodes_from (nodes_of parts)) all)
    by_known None = refl
    by_known (Some values) = ap (λ (outcome : Outcome). computed ty outcome) (applied-moves to name (types_of parts) ty values) ∙ computed-moves to ty (applied name (types_of parts) ty values)

pub emitted-moves : (to : ℕ → ℕ) (stage : Stage) (op : Op) (ty : TypeTree) (parts : List RunPart) → emitted stage (moved_op to op) ty (moved_parts to parts) ≡ moved_result to (emitted stage op ty parts)
emitted-moves to at_compile_time op ty parts = refl
emitted-moves to at_run_time op ty parts = ap (λ (nodes : TypedNodes). done (a_node ty (node (moved_op to op) ty nodes))) (nodes-move to parts)

-- ---- states

abbrev pub moved_bound : (ℕ → ℕ) → List Bound → List Bound
moved_bound to [] = []
moved_bound to (b ∷ bs) = record { name = b.name; part = moved_part to b.part } ∷ moved_bound to bs

abbrev pub moved_progress : (ℕ → ℕ) → Progress → Progress
moved_progress to UnderWay = UnderWay
moved_progress to (Analysed part) = Analysed (moved_part to part)

abbrev pub moved_declarations : (ℕ → ℕ) → List (ℕ × Progress) → List (ℕ × Progress)
moved_declarations to [] = []
moved_declarations to ((n, progress) ∷ more) = (to n, moved_progress to progress) ∷ moved_declarations to more

abbrev pub moved_state : (ℕ → ℕ) → State → State
moved_state to state = record { counters = state.counters; bound = moved_bound to state.bound; result = state.result; declarations = moved_declarations to state.declarations }

abbrev pub moved_out : (ℕ → ℕ) → Out → Out
moved_out to (Found part state) = Found (moved_part to part) (moved_state to state)
moved_out to (Stopped why place state) = Stopped why place (moved_state to state)
moved_out to TooSmall = TooSmall

abbrev pub moved_found : (ℕ → ℕ) → Option RunPart → Option RunPart
moved_found to None = None
moved_found to (Some part) = Some (moved_part to part)

abbrev pub moved_stand : (ℕ → ℕ) → Option Progress → Option Progress
moved_stand to None = None
moved_stand to (Some progress) = Some (moved_progress to progress)

pub bound_to-moves : (to : ℕ → ℕ) (bs : List Bound) (name : List ℕ) → bound_to (moved_bound to bs) name ≡ moved_found to (bound_to bs name)
bound_to-moves to [] name = refl
bound_to-moves to (b ∷ bs) name =
    ap (λ (found : Option RunPart). if bytes_eq b.name name then Some (moved_part to b.part) else found) (bound_to-moves to bs name) ∙ by_test (bytes_eq b.name name)
  where
    by_test : (same : Bool) → (if same then Some (moved_part to b.part) else moved_found to (bound_to bs name)) ≡ moved_found to (if same then Some b.part else bound_to bs name)
    by_test true = refl
    by_test false = refl

pub mentioned-moves : (to : ℕ → ℕ) (stage : Stage) (part : RunPart) → mentioned stage (moved_part to part) ≡ moved_result to (mentioned stage part)
mentioned-moves to at_run_time part = refl
mentioned-moves to at_compile_time part = by_known part.known
  where
    by_known : (known : Option ValueTree) → ◌≡◌ {A = Result RunPart StopKind} (elim (moved_known to known) [ Some value ↦ Ok (moved_part to part) | None ↦ Err (Error 23) ])
        (moved_result to (elim known [ Some value ↦ Ok part | None ↦ Err (Error 23) ]))
    by_known None = refl
    by_known (Some v) = refl

eqb-swap : (a b : ℕ) → nat_eq a b ≡ nat_eq b a
eqb-swap a b = by_tests (nat_eq a b) (nat_eq b a) refl refl
  where
    by_tests : (t u : Bool) → nat_eq a b ≡ t → nat_eq b a ≡ u → t ≡ u
    by_tests true true e d = refl
    by_tests false false e d = refl
    by_tests true false e d = sym (eq-eqb b a (sym (eqb-true a b e))) ∙ d
    by_tests false true e d = sym e ∙ eq-eqb a b (sym (eqb-true b a d))

pub progress-moves : (to : ℕ → ℕ) (k : ℕ) → IsApart to k → (ds : List (ℕ × Progress)) → progress_of (moved_declarations to ds) (to k) ≡ moved_stand to (progress_of ds k)
progress-moves to k apart [] = refl
progress-moves to k apart ((m, progress) ∷ more) =
    ap (λ (same : Bool). if same then Some (moved_progress to progress) else progress_of (moved_declarations to more) (to k)) (eqb-swap (to m) (to k) ∙ apart m ∙ eqb-swap k m)
    ∙ ap (λ (found : Option Progress). if nat_eq m k then Some (moved_progress to progress) else found) (progress-moves to k apart more)
    ∙ by_test (nat_eq m k)
  where
    by_test : (same : Bool) → (if same then Some (moved_progress to progress) else moved_stand to (progress_of more k)) ≡ moved_stand to (if same then Some progress else progress_of more k)
    by_test true = refl
    by_test false = refl

pub length-stays : (to : ℕ → ℕ) (bs : List Bound) → length (moved_bound to bs) ≡ length bs
length-stays to [] = refl
length-stays to (b ∷ bs) = ap (λ (n : ℕ). suc n) (length-stays to bs)

bound-append : (to : ℕ → ℕ) (bs : List Bound) (b : Bound) → moved_bound to bs ++ record { name = b.name; part = moved_part to b.part } ∷ [] ≡ moved_bound to (bs ++ b ∷ [])
bound-append to [] b = refl
bound-append to (a ∷ bs) b = ap (λ (more : List Bound). record { name = a.name; part = moved_part to a.part } ∷ more) (bound-append to bs b)

-- a state with these bindings
abbrev pub with_bound : State → List Bound → State
with_bound state bs = record { counters = state.counters; bound = bs; result = state.result; declarations = state.declarations }

pub argument-moves : (to : ℕ → ℕ) (name : List ℕ) (ty : TypeTree) (state : State) → argument_bound name ty (moved_state to state) ≡ moved_state to (argument_bound name ty state)
argument-moves to name ty state =
    ap (λ (n : ℕ). with_bound (moved_state to state) (moved_bound to state.bound ++ record { name = name; part = a_node ty (node (Argument n) ty no_nodes) } ∷ [])) (length-stays to state.bound)
    ∙ ap (λ (bs : List Bound). with_bound (moved_state to state) bs) (bound-append to state.bound (record { name = name; part = a_node ty (node (Argument (length state.bound)) ty no_nodes) }))

pub quota-moves : (to : ℕ → ℕ) (value : ValueTree) (state : State) → quota_raised (moved_value to value) (moved_state to state) ≡ moved_state to (quota_raised value state)
quota-moves to (tree.NumberValue z) state = refl
quota-moves to _ state = refl

pub result-stays : (to : ℕ → ℕ) (result : Option TypeTree) → moved_part to (result_part result) ≡ result_part result
result-stays to None = refl
result-stays to (Some ty) = refl
