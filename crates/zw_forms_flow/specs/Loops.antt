-- The rules of `while` and of `for` over ranges (Zig Language Reference 0.13.0, while, for), with the numbers of their errors (this project's own): 20 the condition
-- is no truth value, or captures and ranges don't fit, 28 a value is ignored, 36 not built yet.
use Rattle.std.specs.Prelude.{ℕ, Bool, true, false, not, ◌&&◌, ◌||◌, nat_eq, List, [], ◌∷◌, ◌++◌, length, Option, Some, None}
use Rattle.zw_base.specs.declared.stop.StopKind.TheVariants.{Error}
use Rattle.zw_tree.specs.Trees.{Forest}
use Rattle.zw_tree.specs.declared.ast.Entry.{Entry}
use Rattle.zw_values.specs.ObjectStore.{Stage, at_compile_time, at_run_time}
use Rattle.zw_typed.specs.FlowNodes.{Range}
use Rattle.zw_typed.specs.FlowMeanings.{usize}
use Rattle.zw_env.specs.FlowParts.{Part, Occurrence, Rule, Next, Ask, Emit, OpenTarget, Halt, HaltAt, Looping, Counting, Open, Visit, Nothing, OfType, known_of, never_ends, number_of, variable_of, operand_at, take, take_each, take_open, last_of}
use Rattle.zw_env.specs.Children.{has}
use Rattle.zw_env.specs.FlowChildren.{forms, positions, child_at, is_inline, is_capture, is_pointer_capture, is_range, is_blank, label_of, else_of, step_of, has_capture, is_else, first_in, else_has_capture}
use Rattle.zw_forms_scalar.specs.Operators.{is_truth}
use Rattle.zw_forms_flow.specs.Joins.{joined, or_nothing}
use Rattle.zw_forms_flow.specs.Blocks.{is_used_up}
use Rattle.zw_forms_flow.specs.Choices.{Condition, Holds, Fails, IsOpen, condition_of, arm, arm_at}

-- ---- what both loops have

-- the targets of a loop
pub record Targets : Type 0 where
  pub out : ℕ
  pub again : ℕ

-- what is open inside the body, or inside the step, of which `continue` goes on behind it
abbrev pub loop_open : Occurrence → ℕ → ℕ → Open
loop_open site out next = record { label = label_of site.here; out = out; next = Some next; wanted = site.wanted; stage = site.stage }

abbrev pub inside_at : Occurrence → List ℕ → ℕ → ℕ → Visit
inside_at site path out next =
    record (operand_at site 0 Nothing) { child = path; ends = false; conditional = true; opens = loop_open site out next ∷ [] }

-- those that left to a target
abbrev pub is_to : ℕ → Option ℕ → Bool
is_to target None = false
is_to target (Some t) = nat_eq t target

abbrev pub that_left_to : {N : Type 0} → ℕ → List (Part N) → List (Part N)
that_left_to target [] = []
that_left_to target (p ∷ ps) = elim (is_to target p.left_to) [ true ↦ p ∷ that_left_to target ps | false ↦ that_left_to target ps ]

abbrev pub is_empty : {A : Type 0} → List A → Bool
is_empty [] = true
is_empty (a ∷ more) = false

-- whether what is next in the loop is come to: the body comes to its end, or something leaves to there
abbrev pub goes_on : {N : Type 0} → ℕ → List (Part N) → Part N → Bool
goes_on again arrived body = not (never_ends body) || not (is_empty (that_left_to again arrived))

-- a body or step that leaves a value
abbrev pub if_used_up : {N : Type 0} → List ℕ → Part N → Next N → Next N
if_used_up path part next = elim (is_used_up part) [ true ↦ next | false ↦ HaltAt path (Error 28) ]

-- ---- `while`

-- what joins behind a loop: what left to there, and what comes where the condition doesn't hold
abbrev pub behind_loop : {N : Type 0} → Condition → List (Part N) → Option (Part N) → List (Part N)
behind_loop Holds arrived other = arrived
behind_loop _ arrived other = arrived ++ or_nothing other ∷ []

pub record While (N : Type 0) : Type 0 where
  pub targets : Targets
  pub stepped : ℕ
  pub condition : Part N
  pub body : Part N
  pub step : Option (Part N)

abbrev pub while_due : {N : Type 0} → While N → List (Part N) → Option (Part N) → List (Part N) → Next N
while_due w arrived other parts =
    joined (behind_loop (condition_of (known_of w.condition)) arrived other) (λ ty.
    last_of (Emit (Looping w.targets.out w.targets.again w.stepped w.condition w.body w.step other) ty) parts)

-- the `else` is walked where the condition may not hold
abbrev pub while_else : {N : Type 0} → Condition → Option (List ℕ) → Occurrence → While N → List (Part N) → List (Part N) → Next N
while_else IsOpen (Some path) site w arrived parts = take (Ask (arm_at site path true)) parts (λ other more. while_due w arrived (Some other) more)
while_else _ _ site w arrived parts = while_due w arrived None parts

abbrev pub behind_step : {N : Type 0} → Occurrence → While N → List (Part N) → List (Part N) → Next N
behind_step site w arrived parts =
    while_else (condition_of (known_of w.condition)) (else_of site.here) site w (that_left_to w.targets.out arrived) parts

-- the step is walked where the body comes back to it
abbrev pub while_step : {N : Type 0} → Bool → Option (List ℕ) → Occurrence → While N → List (Part N) → List (Part N) → Next N
while_step true (Some path) site w arrived parts =
    take_open (Ask (inside_at site path w.targets.out w.stepped)) arrived parts (λ all step more.
    if_used_up path step (behind_step site (record w { step = Some step }) all more))
while_step _ _ site w arrived parts = behind_step site w arrived parts

abbrev pub while_body : {N : Type 0} → ℕ → Occurrence → Part N → Targets → ℕ → List (Part N) → Next N
while_body body site c targets stepped parts =
    take_open (Ask (inside_at site (body ∷ []) targets.out targets.again)) [] parts (λ arrived part more.
    if_used_up (body ∷ []) part
    (while_step (goes_on targets.again arrived part) (step_of site.here) site
    (record { targets = targets; stepped = stepped; condition = c; body = part; step = None }) arrived more))

abbrev pub with_targets : {N : Type 0} → ℕ → Occurrence → Part N → Option ℕ → Option ℕ → Option ℕ → List (Part N) → Next N
with_targets body site c (Some out) (Some again) (Some stepped) parts = while_body body site c (record { out = out; again = again }) stepped parts
with_targets body site c _ _ _ parts = Halt (Error 36)

-- a loop whose condition is known not to hold is its `else` alone
abbrev pub while_by : {N : Type 0} → Condition → ℕ → Occurrence → Part N → List (Part N) → Next N
while_by Fails body site c parts = arm site false (else_of site.here) parts
while_by _ body site c parts =
    take OpenTarget parts (λ out p. take OpenTarget p (λ again q. take OpenTarget q (λ stepped more.
    with_targets body site c (number_of out) (number_of again) (number_of stepped) more)))

abbrev pub while_on : {N : Type 0} → List ℕ → Rule N
while_on (condition ∷ body ∷ others) site parts =
    take (Ask (operand_at site condition Nothing)) parts (λ c more.
    elim (is_truth c.ty) [ true ↦ while_by (condition_of (known_of c)) body site c more | false ↦ Halt (Error 20) ])
while_on _ site parts = Halt (Error 36)

-- loops at compile time, `inline` ones and those with captures aren't built yet
abbrev pub is_unbuilt : Forest Entry → Stage → Bool
is_unbuilt here at_compile_time = true
is_unbuilt here at_run_time = has here is_inline

abbrev pub while_rule : {N : Type 0} → Rule N
while_rule site parts =
    elim (is_unbuilt site.here site.stage || has_capture site.here) [ true ↦ Halt (Error 36) | false ↦ while_on (forms site.here) site parts ]

-- ---- `for`

-- a start or an end, which is a `usize`
abbrev pub bound_at : Occurrence → List ℕ → Visit
bound_at site path = record (operand_at site 0 (OfType usize)) { child = path }

-- the bounds of the ranges, by where they stand, and whether each range has an end
abbrev pub paths_below : ℕ → List ℕ → List (List ℕ)
paths_below k [] = []
paths_below k (j ∷ js) = (k ∷ j ∷ []) ∷ paths_below k js

abbrev pub bound_paths : Forest Entry → List ℕ → List (List ℕ)
bound_paths here [] = []
bound_paths here (k ∷ ks) = paths_below k (forms (child_at here k)) ++ bound_paths here ks

abbrev pub has_two : List ℕ → Bool
has_two (a ∷ b ∷ more) = true
has_two _ = false

abbrev pub ends_of : Forest Entry → List ℕ → List Bool
ends_of here [] = []
ends_of here (k ∷ ks) = has_two (forms (child_at here k)) ∷ ends_of here ks

abbrev pub any_end : List Bool → Bool
any_end [] = false
any_end (e ∷ es) = e || any_end es

-- captures: one that is `_` is no variable
abbrev pub is_unnamed : Forest Entry → ℕ → Bool
is_unnamed here k = has (child_at here k) is_blank

abbrev pub captures_named : Forest Entry → List ℕ → List ℕ
captures_named here [] = []
captures_named here (k ∷ ks) = elim (is_unnamed here k) [ true ↦ captures_named here ks | false ↦ k ∷ captures_named here ks ]

abbrev pub capture_at : Occurrence → ℕ → Visit
capture_at site k = operand_at site k (OfType usize)

-- each range with its capture: the named ones have places in order
abbrev pub range_and : Option ℕ → Bool → List Range → List Range
range_and capture has_end ranges = record { capture = capture; has_end = has_end } ∷ ranges

abbrev pub unnamed_ranges : List Bool → List Range
unnamed_ranges [] = []
unnamed_ranges (e ∷ es) = range_and None e (unnamed_ranges es)

abbrev pub ranges_from : {N : Type 0} → Forest Entry → List ℕ → List Bool → List (Part N) → List Range
ranges_from here ks es [] = unnamed_ranges es
ranges_from here (k ∷ ks) (e ∷ es) (place ∷ places) =
    elim (is_unnamed here k) [
      | true ↦ range_and None e (ranges_from here ks es (place ∷ places))
      | false ↦ range_and (variable_of place) e (ranges_from here ks es places)
    ]
ranges_from here _ _ places = []

abbrev pub for_due : {N : Type 0} → Targets → List Range → List (Part N) → Part N → List (Part N) → Option (Part N) → List (Part N) → Next N
for_due targets ranges bounds body arrived other parts =
    joined (arrived ++ or_nothing other ∷ []) (λ ty.
    last_of (Emit (Counting targets.out targets.again ranges bounds body other) ty) parts)

abbrev pub for_else : {N : Type 0} → Option (List ℕ) → Occurrence → Targets → List Range → List (Part N) → Part N → List (Part N) → List (Part N) → Next N
for_else None site targets ranges bounds body arrived parts = for_due targets ranges bounds body arrived None parts
for_else (Some path) site targets ranges bounds body arrived parts =
    take (Ask (arm_at site path true)) parts (λ other more. for_due targets ranges bounds body arrived (Some other) more)

abbrev pub for_body : {N : Type 0} → ℕ → Occurrence → Targets → List Range → List (Part N) → List (Part N) → Next N
for_body body site targets ranges bounds parts =
    take_open (Ask (inside_at site (body ∷ []) targets.out targets.again)) [] parts (λ arrived part more.
    if_used_up (body ∷ []) part
    (for_else (else_of site.here) site targets ranges bounds part (that_left_to targets.out arrived) more))

abbrev pub for_targets : {N : Type 0} → ℕ → Occurrence → List Range → List (Part N) → Option ℕ → Option ℕ → List (Part N) → Next N
for_targets body site ranges bounds (Some out) (Some again) parts = for_body body site (record { out = out; again = again }) ranges bounds parts
for_targets body site ranges bounds _ _ parts = Halt (Error 36)

-- each range has a capture, which is no pointer, and one of them has an end
abbrev pub ranges_fit : Forest Entry → List ℕ → List ℕ → Bool
ranges_fit here ranges captures =
    nat_eq (length captures) (length ranges) && (not (has here is_pointer_capture) && any_end (ends_of here ranges))

abbrev pub for_captures : {N : Type 0} → ℕ → List ℕ → List ℕ → Occurrence → List (Part N) → List (Part N) → Next N
for_captures body ranges captures site bounds parts =
    take OpenTarget parts (λ out p. take OpenTarget p (λ again q.
    take_each (λ k taken. Ask (capture_at site k)) (captures_named site.here captures) [] q (λ places more.
    for_targets body site (ranges_from site.here captures (ends_of site.here ranges) places) bounds (number_of out) (number_of again) more)))

abbrev pub for_on : {N : Type 0} → List ℕ → List ℕ → List ℕ → Rule N
for_on ranges captures (body ∷ []) site parts =
    take_each (λ path taken. Ask (bound_at site path)) (bound_paths site.here ranges) [] parts (λ bounds more.
    elim (ranges_fit site.here ranges captures) [ true ↦ for_captures body ranges captures site bounds more | false ↦ Halt (Error 20) ])
for_on ranges captures _ site parts = Halt (Error 36)

-- Loops at compile time, `inline` ones and those over anything but ranges (which are forms beside the body) aren't built yet.
abbrev pub for_rule : {N : Type 0} → Rule N
for_rule site parts =
    elim (is_unbuilt site.here site.stage || else_has_capture site.here (first_in (positions is_else site.here))) [
      | true ↦ Halt (Error 36)
      | false ↦ for_on (positions is_range site.here) (positions is_capture site.here) (forms site.here) site parts
    ]
