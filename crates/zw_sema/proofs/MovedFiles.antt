-- The analysis of two files that differ in a declaration that the first doesn't reach: it is the same with other numbers, and says the same.
use Rattle.std.proofs.Common.{◌≡◌, ◌≢◌, refl, ℕ, Bool, true, false, nat_eq, List, [], ◌∷◌, ◌++◌, Option, Some, None, ap, sym, subst, ◌∙◌}
use Rattle.std.specs.Prelude.{if◌then◌else◌, nat_le, map}
use Rattle.std.proofs.lemmas.Bool.{eqb-true}
use Rattle.zw_base.specs.declared.stop.Place.{Place}
use Rattle.zw_base.specs.declared.stop.StopKind.TheVariants.{Error}
use Rattle.zw_session.specs.Sessions.{Call, session}
use Rattle.zw_tree.specs.Trees.{Forest}
use Rattle.zw_tree.specs.declared.ast.Entry.{Entry}
use Rattle.zw_tree.specs.declared.kind.NodeKind.{NodeKind}
use Rattle.zw_tree.specs.declared.kind.NodeKind.TheVariants as kind
use Rattle.zw_types.specs.TypeTrees.{TypeTree}
use Rattle.zw_values.specs.ObjectStore.{at_run_time}
use Rattle.zw_typed.specs.Nodes.{TypedNode}
use Rattle.zw_typed.specs.declared.program.Program.{Program}
use Rattle.zw_typed.specs.Exports.{Exported, exports_machine}
use Rattle.zw_typed.specs.Programs.{exports_of, imports_of}
use Rattle.zw_typed.specs.Weights.{frame_weight, greatest_weight}
use Rattle.zw_env.specs.Children.{tree_at, kind_of, place_of, has, declared_name, is_export_word, members, is_among}
use Rattle.zw_sema.specs.Walk.{Bound, Progress, State, progress_of, RunPart, Out, Found, Stopped, TooSmall, node_of, is_met, unit_task, walk}
use Rattle.zw_sema.specs.Files.{Instance, Analysis, Accepted, Refused, NeedsMore, start, export_begun, bound_types, result_type, exported, on_export, Turn, IsUnit, IsUnbuilt, Waits, turn_of, take_turn, members_analysed, first_too_heavy, if_light, weighed, analysed, functions_of, instances_in, exports_in, file_session, is_reached}
use Rattle.zw_sema.specs.ProgramsOf.{IsAccepted, IsProgramOf}
use Rattle.zw_sema.specs.Exchanged.{SayTheSame, Signature, signatures, TellTheSame}
use Rattle.zw_sema.proofs.UnreachedLemmas.{Within, first_among, later_among, MissesAll, More, on_export-keeps, members-keeps, weighed-misses, misses_all}
use Rattle.zw_sema.proofs.MovedValues.{moved_part}
use Rattle.zw_sema.proofs.MovedMeanings.{moved_export, moved_exports, session-moves}
use Rattle.zw_sema.proofs.MovedTrees.{IsApart, Goes, has-same, declared_name-same, kind-same, place-same}
use Rattle.zw_sema.proofs.MovedParts.{node_of-moves, moved_bound, moved_state, moved_out, moved_stand, progress-moves}
use Rattle.zw_sema.proofs.MovedWalk.{IsMoved, walk-moves}
use Rattle.zw_sema.proofs.PlainPrograms.{program-stays}

abbrev pub moved_instance : (ℕ → ℕ) → Instance → Instance
moved_instance to i = record { place = i.place; function = moved_export to i.function }

abbrev pub moved_instances : (ℕ → ℕ) → List Instance → List Instance
moved_instances to [] = []
moved_instances to (i ∷ instances) = moved_instance to i ∷ moved_instances to instances

abbrev pub moved_analysis : (ℕ → ℕ) → Analysis → Analysis
moved_analysis to (Accepted instances state) = Accepted (moved_instances to instances) (moved_state to state)
moved_analysis to (Refused why place state) = Refused why place (moved_state to state)
moved_analysis to NeedsMore = NeedsMore

-- ---- exports

types-stay : (to : ℕ → ℕ) (bs : List Bound) → bound_types (moved_bound to bs) ≡ bound_types bs
types-stay to [] = refl
types-stay to (b ∷ bs) = ap (λ (types : List TypeTree). b.part.ty ∷ types) (types-stay to bs)

-- an export with these types and this body
abbrev pub instance_of : Place → List ℕ → State → List TypeTree → TypedNode → Instance
instance_of place name state types body = record { place = place; function = record { name = name; params = types; result = result_type state.result; body = body } }

exported-moves : (to : ℕ → ℕ) (place : Place) (name : List ℕ) (part : RunPart) (state : State) → exported place name (moved_part to part) (moved_state to state) ≡ moved_instance to (exported place name part state)
exported-moves to place name part state =
    ap (λ (types : List TypeTree). instance_of place name state types (node_of (moved_part to part))) (types-stay to state.bound)
    ∙ ap (λ (body : TypedNode). instance_of place name state (bound_types state.bound) body) (node_of-moves to part)

append-moves : (to : ℕ → ℕ) (instances : List Instance) (i : Instance) → moved_instances to (instances ++ i ∷ []) ≡ moved_instances to instances ++ moved_instance to i ∷ []
append-moves to [] i = refl
append-moves to (j ∷ instances) i = ap (λ (more : List Instance). moved_instance to j ∷ more) (append-moves to instances i)

-- the exports so far, with one more
more-moves : (to : ℕ → ℕ) (place : Place) (name : List ℕ) (before : List Instance) (part : RunPart) (state : State) →
    moved_instances to before ++ exported place name (moved_part to part) (moved_state to state) ∷ [] ≡ moved_instances to (before ++ exported place name part state ∷ [])
more-moves to place name before part state =
    ap (λ (i : Instance). moved_instances to before ++ i ∷ []) (exported-moves to place name part state) ∙ sym (append-moves to before (exported place name part state))

-- ---- members

-- what follows is the same, where it misses the declaration
abbrev pub MoreMoves : (ℕ → ℕ) → ℕ → More → More → Type 0
MoreMoves to n more along = (state : State) (later : List Instance) → MissesAll n (more state later) → along (moved_state to state) (moved_instances to later) ≡ moved_analysis to (more state later)

on_export-moves : (to : ℕ → ℕ) (n : ℕ) (place : Place) (name : List ℕ) (before : List Instance) (out same : Out) (more along : More) → same ≡ moved_out to out → MoreMoves to n more along →
    MissesAll n (on_export place name before out more) → on_export place name (moved_instances to before) same along ≡ moved_analysis to (on_export place name before out more)
on_export-moves to n place name before (Found part state) same more along e each m =
    ap (λ (o : Out). on_export place name (moved_instances to before) o along) e
    ∙ ap (λ (later : List Instance). along (moved_state to state) later) (more-moves to place name before part state)
    ∙ each state (before ++ exported place name part state ∷ []) m
on_export-moves to n place name before (Stopped why at state) same more along e each m = ap (λ (o : Out). on_export place name (moved_instances to before) o along) e
on_export-moves to n place name before TooSmall same more along e each m = absurd m

turn-same : (f g : Forest Entry) → SayTheSame f g → turn_of g ≡ turn_of f
turn-same f g s =
    ap (λ (found : NodeKind). elim found [ kind.ComptimeBlock ↦ IsUnbuilt | kind.Function ↦ elim (has g is_export_word) [ true ↦ IsUnit | false ↦ Waits ] | _ ↦ Waits ]) (kind-same f g s)
    ∙ ap (λ (word : Bool). elim (kind_of f) [ kind.ComptimeBlock ↦ IsUnbuilt | kind.Function ↦ elim word [ true ↦ IsUnit | false ↦ Waits ] | _ ↦ Waits ]) (has-same f g s is_export_word)

-- one member's turn
turn-moves : (to : ℕ → ℕ) (forest other : Forest Entry) (n : ℕ) → IsMoved to forest other n → (bound : ℕ) (turn : Turn) (k : ℕ) → Goes to k (tree_at forest k) (tree_at other (to k)) → (state : State) (before : List Instance) (more along : More) →
    ((state : State) (later : List Instance) → MissesAll n (more state later) → is_met n state ≡ false) → MoreMoves to n more along →
    MissesAll n (take_turn forest bound turn k state before more) →
    take_turn other bound turn (to k) (moved_state to state) (moved_instances to before) along ≡ moved_analysis to (take_turn forest bound turn k state before more)
turn-moves to forest other n moved bound IsUnit k (s, h) state before more along keeps each m =
    ap (λ (at : Place). on_export at (declared_name (tree_at other (to k))) (moved_instances to before) there along) (place-same (tree_at forest k) (tree_at other (to k)) s)
    ∙ ap (λ (name : List ℕ). on_export (place_of (tree_at forest k)) name (moved_instances to before) there along) (declared_name-same (tree_at forest k) (tree_at other (to k)) s)
    ∙ on_export-moves to n (place_of (tree_at forest k)) (declared_name (tree_at forest k)) before (walk forest bound (unit_task forest k at_run_time) [] (export_begun state)) there more along
    (walk-moves to forest other n moved bound (unit_task forest k at_run_time) (tree_at other (to k)) (record { same = s; fits = h }) [] (export_begun state)
    (on_export-keeps n (place_of (tree_at forest k)) (declared_name (tree_at forest k)) before (walk forest bound (unit_task forest k at_run_time) [] (export_begun state)) more keeps m))
    each m
  where
    there : Out
    there = walk other bound (unit_task other (to k) at_run_time) [] (export_begun (moved_state to state))
turn-moves to forest other n moved bound IsUnbuilt k (s, h) state before more along keeps each m =
    ap (λ (at : Place). Refused (Error 36) at (moved_state to state)) (place-same (tree_at forest k) (tree_at other (to k)) s)
turn-moves to forest other n moved bound Waits k goes state before more along keeps each m = each state before m

member-moves : (to : ℕ → ℕ) (forest other : Forest Entry) (n : ℕ) → IsMoved to forest other n → (bound k : ℕ) (ks : List ℕ) → is_among (members forest) k ≡ true → (state : State) (before : List Instance) →
    MoreMoves to n (members_analysed forest bound ks) (members_analysed other bound (map to ks)) →
    MissesAll n (members_analysed forest bound (k ∷ ks) state before) →
    members_analysed other bound (map to (k ∷ ks)) (moved_state to state) (moved_instances to before) ≡ moved_analysis to (members_analysed forest bound (k ∷ ks) state before)
member-moves to forest other n moved bound k ks among state before along m = by_test (nat_eq k n) refl
  where
    taken : Turn → ℕ → Analysis
    taken turn j = take_turn other bound turn j (moved_state to state) (moved_instances to before) (members_analysed other bound (map to ks))

    waiting : k ≡ n → taken (turn_of (tree_at other (to k))) (to k) ≡ moved_analysis to (take_turn forest bound (turn_of (tree_at forest k)) k state before (members_analysed forest bound ks))
    waiting e =
        ap (λ (turn : Turn). taken turn (to k)) (ap (λ (j : ℕ). turn_of (tree_at other (to j))) e ∙ moved.waits_too)
        ∙ along state before (subst (λ (turn : Turn). MissesAll n (take_turn forest bound turn k state before (members_analysed forest bound ks))) (ap (λ (j : ℕ). turn_of (tree_at forest j)) e ∙ moved.waits) m)
        ∙ ap (λ (turn : Turn). moved_analysis to (take_turn forest bound turn k state before (members_analysed forest bound ks))) (sym (ap (λ (j : ℕ). turn_of (tree_at forest j)) e ∙ moved.waits))

    by_test : (same : Bool) → nat_eq k n ≡ same → taken (turn_of (tree_at other (to k))) (to k) ≡ moved_analysis to (take_turn forest bound (turn_of (tree_at forest k)) k state before (members_analysed forest bound ks))
    by_test true e = waiting (eqb-true k n e)
    by_test false apart =
        ap (λ (turn : Turn). taken turn (to k)) (turn-same (tree_at forest k) (tree_at other (to k)) (moved.trees k among apart).0)
        ∙ turn-moves to forest other n moved bound (turn_of (tree_at forest k)) k (moved.trees k among apart) state before (members_analysed forest bound ks) (members_analysed other bound (map to ks))
        (members-keeps n forest bound ks) along m

members-move : (to : ℕ → ℕ) (forest other : Forest Entry) (n : ℕ) → IsMoved to forest other n → (bound : ℕ) (ns : List ℕ) → Within ns (members forest) → MoreMoves to n (members_analysed forest bound ns) (members_analysed other bound (map to ns))
members-move to forest other n moved bound [] within state before m = refl
members-move to forest other n moved bound (k ∷ ks) within state before m =
    member-moves to forest other n moved bound k ks (within k (first_among k ks)) state before
    (λ state later. members-move to forest other n moved bound ks (λ j there. within j (later_among k ks j there)) state later) m

-- ---- frames

heavy-stays : (to : ℕ → ℕ) (instances : List Instance) → first_too_heavy (moved_instances to instances) ≡ first_too_heavy instances
heavy-stays to [] = refl
heavy-stays to (i ∷ instances) = ap (λ (later : Option Place). if nat_le (frame_weight i.function) greatest_weight then later else Some i.place) (heavy-stays to instances)

weighed-moves : (to : ℕ → ℕ) (analysis : Analysis) → weighed (moved_analysis to analysis) ≡ moved_analysis to (weighed analysis)
weighed-moves to (Accepted instances state) =
    ap (λ (found : Option Place). if_light (moved_instances to instances) (moved_state to state) found) (heavy-stays to instances) ∙ by_weight (first_too_heavy instances)
  where
    by_weight : (found : Option Place) → if_light (moved_instances to instances) (moved_state to state) found ≡ moved_analysis to (if_light instances state found)
    by_weight None = refl
    by_weight (Some place) = refl
weighed-moves to (Refused why place state) = refl
weighed-moves to NeedsMore = refl

-- ---- the file

pub file-moves : (to : ℕ → ℕ) (forest other : Forest Entry) (n bound : ℕ) → IsMoved to forest other n → analysed bound forest ≢ NeedsMore → is_reached n (analysed bound forest) ≡ false →
    analysed bound other ≡ moved_analysis to (analysed bound forest)
file-moves to forest other n bound moved enough missed =
    ap (λ (analysis : Analysis). weighed analysis)
    (ap (λ (ns : List ℕ). members_analysed other bound ns start []) moved.numbers
    ∙ members-move to forest other n moved bound (members forest) (λ j there. there) start []
    (weighed-misses n (members_analysed forest bound (members forest) start []) (misses_all n (analysed bound forest) enough missed)))
    ∙ weighed-moves to (members_analysed forest bound (members forest) start [])

signatures-stay : (to : ℕ → ℕ) (instances : List Instance) → signatures (moved_instances to instances) ≡ signatures instances
signatures-stay to [] = refl
signatures-stay to (i ∷ instances) =
    ap (λ (more : List Signature). record { place = i.place; name = i.function.name; params = i.function.params; result = i.function.result } ∷ more) (signatures-stay to instances)

ended-moves : (to : ℕ → ℕ) (analysis : Analysis) → analysis ≢ NeedsMore → moved_analysis to analysis ≢ NeedsMore
ended-moves to (Accepted instances state) enough = λ e. cc
ended-moves to (Refused why place state) enough = λ e. cc
ended-moves to NeedsMore enough = enough

moved-tells : (to : ℕ → ℕ) (analysis : Analysis) → analysis ≢ NeedsMore → TellTheSame analysis (moved_analysis to analysis)
moved-tells to (Accepted instances state) enough = record { enough = ended-moves to (Accepted instances state) enough; stop = refl; exports = signatures-stay to instances }
moved-tells to (Refused why place state) enough = record { enough = ended-moves to (Refused why place state) enough; stop = refl; exports = refl }
moved-tells to NeedsMore enough = absurd (enough refl)

pub file-tells : (to : ℕ → ℕ) (forest other : Forest Entry) (n bound : ℕ) → IsMoved to forest other n → analysed bound forest ≢ NeedsMore → is_reached n (analysed bound forest) ≡ false →
    TellTheSame (analysed bound forest) (analysed bound other)
file-tells to forest other n bound moved enough missed =
    subst (λ (analysis : Analysis). TellTheSame (analysed bound forest) analysis) (sym (file-moves to forest other n bound moved enough missed)) (moved-tells to (analysed bound forest) enough)

functions-move : (to : ℕ → ℕ) (instances : List Instance) → functions_of (moved_instances to instances) ≡ moved_exports to (functions_of instances)
functions-move to [] = refl
functions-move to (i ∷ instances) = ap (λ (more : List Exported). moved_export to i.function ∷ more) (functions-move to instances)

exports-move : (to : ℕ → ℕ) (analysis : Analysis) → exports_in (moved_analysis to analysis) ≡ moved_exports to (exports_in analysis)
exports-move to (Accepted instances state) = functions-move to instances
exports-move to (Refused why place state) = refl
exports-move to NeedsMore = refl

pub file-silent : (to : ℕ → ℕ) (forest other : Forest Entry) (n bound : ℕ) (calls : List Call) (replies : List ℕ) → IsMoved to forest other n → analysed bound forest ≢ NeedsMore → is_reached n (analysed bound forest) ≡ false →
    file_session bound other calls replies ≡ file_session bound forest calls replies
file-silent to forest other n bound calls replies moved enough missed =
    ap (λ (exports : List Exported). session (exports_machine exports) calls tt replies 0)
    (ap (λ (analysis : Analysis). exports_in analysis) (file-moves to forest other n bound moved enough missed) ∙ exports-move to (analysed bound forest))
    ∙ session-moves to (exports_in (analysed bound forest)) calls tt replies 0

-- ---- programs

places-stay : (to : ℕ → ℕ) (instances : List Instance) → map (λ (i : Instance). i.place) (moved_instances to instances) ≡ map (λ (i : Instance). i.place) instances
places-stay to [] = refl
places-stay to (i ∷ instances) = ap (λ (places : List Place). i.place ∷ places) (places-stay to instances)

-- where the file is accepted, so is the other
accepted-moves : (to : ℕ → ℕ) (analysis : Analysis) → IsAccepted analysis → IsAccepted (moved_analysis to analysis) × (map (λ (i : Instance). i.place) (instances_in (moved_analysis to analysis)) ≡ map (λ (i : Instance). i.place) (instances_in analysis))
accepted-moves to (Accepted instances state) h = (tt, places-stay to instances)
accepted-moves to (Refused why place state) h = absurd h
accepted-moves to NeedsMore h = absurd h

accepted-enough : (analysis : Analysis) → IsAccepted analysis → analysis ≢ NeedsMore
accepted-enough analysis h e = subst (λ (a : Analysis). IsAccepted a) e h

program-moves : (to : ℕ → ℕ) (analysis : Analysis) (p : Program) → IsProgramOf analysis p → IsProgramOf (moved_analysis to analysis) p
program-moves to analysis p is = record {
  accepted = (accepted-moves to analysis is.accepted).0;
  functions = same;
  places = is.places ∙ sym (accepted-moves to analysis is.accepted).1;
  names = is.names;
  imports = is.imports ∙ ap (λ (fs : List Exported). imports_of fs) (sym is.functions ∙ same);
  well_formed = is.well_formed;
}
  where
    same : exports_of p ≡ exports_in (moved_analysis to analysis)
    same = sym (program-stays to p is.well_formed) ∙ ap (λ (fs : List Exported). moved_exports to fs) is.functions ∙ sym (exports-move to analysis)

pub file-programs : (to : ℕ → ℕ) (forest other : Forest Entry) (n bound : ℕ) (p : Program) → IsMoved to forest other n → is_reached n (analysed bound forest) ≡ false →
    IsProgramOf (analysed bound forest) p → IsProgramOf (analysed bound other) p
file-programs to forest other n bound p moved missed is =
    subst (λ (analysis : Analysis). IsProgramOf analysis p) (sym (file-moves to forest other n bound moved (accepted-enough (analysed bound forest) is.accepted) missed)) (program-moves to (analysed bound forest) p is)

-- ---- what was reached

met-moves : (to : ℕ → ℕ) (k : ℕ) → IsApart to k → (state : State) → is_met (to k) (moved_state to state) ≡ is_met k state
met-moves to k apart state =
    ap (λ (stand : Option Progress). elim stand [ None ↦ false | Some progress ↦ true ]) (progress-moves to k apart state.declarations) ∙ by_stand (progress_of state.declarations k)
  where
    by_stand : (stand : Option Progress) → ◌≡◌ {A = Bool} (elim (moved_stand to stand) [ None ↦ false | Some progress ↦ true ]) (elim stand [ None ↦ false | Some progress ↦ true ])
    by_stand None = refl
    by_stand (Some progress) = refl

reached-moves : (to : ℕ → ℕ) (k : ℕ) → IsApart to k → (analysis : Analysis) → is_reached (to k) (moved_analysis to analysis) ≡ is_reached k analysis
reached-moves to k apart (Accepted instances state) = met-moves to k apart state
reached-moves to k apart (Refused why place state) = met-moves to k apart state
reached-moves to k apart NeedsMore = refl

pub file-reaches : (to : ℕ → ℕ) (forest other : Forest Entry) (n bound : ℕ) → IsMoved to forest other n → analysed bound forest ≢ NeedsMore → is_reached n (analysed bound forest) ≡ false → (k : ℕ) → is_among (members forest) k ≡ true →
    is_reached (to k) (analysed bound other) ≡ is_reached k (analysed bound forest)
file-reaches to forest other n bound moved enough missed k there =
    ap (λ (analysis : Analysis). is_reached (to k) analysis) (file-moves to forest other n bound moved enough missed) ∙ reached-moves to k (moved.apart k there) (analysed bound forest)
