-- The rule of `if` (Zig Language Reference 0.13.0, if), with the numbers of its errors (this project's own): 20 the condition is no truth value, 36 not built yet.
use Rattle.std.specs.Prelude.{ℕ, Bool, true, false, List, [], ◌∷◌, Option, Some, None}
use Rattle.zw_base.specs.declared.stop.StopKind.TheVariants.{Error}
use Rattle.zw_types.specs.TypeTrees as tree
use Rattle.zw_types.specs.TypeTrees.{ValueTree}
use Rattle.zw_env.specs.FlowParts.{Part, Occurrence, Rule, Next, Ask, Emit, Done, Halt, Choosing, Visit, Nothing, wanted_of, nothing, known_of, operand_at, take, last_of}
use Rattle.zw_env.specs.FlowChildren.{forms, else_of, has_capture}
use Rattle.zw_forms_scalar.specs.Operators.{is_truth}
use Rattle.zw_forms_flow.specs.Joins.{joined, or_nothing}

-- a condition: known, or not
pub data Condition : Type 0 where
  Holds : Condition
  Fails : Condition
  IsOpen : Condition

abbrev pub condition_of : Option ValueTree → Condition
condition_of (Some (tree.TruthValue true)) = Holds
condition_of (Some (tree.TruthValue false)) = Fails
condition_of _ = IsOpen

-- one of the two parts, of which the wanted type of the form is wanted
abbrev pub arm_at : Occurrence → List ℕ → Bool → Visit
arm_at site path conditional =
    record (operand_at site 0 (wanted_of site.wanted)) { child = path; ends = false; conditional = conditional }

abbrev pub arm : {N : Type 0} → Occurrence → Bool → Option (List ℕ) → List (Part N) → Next N
arm site conditional None parts = Done nothing
arm site conditional (Some path) parts = last_of (Ask (arm_at site path conditional)) parts

abbrev pub choice : {N : Type 0} → Part N → Part N → Option (Part N) → List (Part N) → Next N
choice c a b parts = joined (a ∷ or_nothing b ∷ []) (λ ty. last_of (Emit (Choosing c a b) ty) parts)

abbrev pub other_arm : {N : Type 0} → Occurrence → Part N → Part N → Option (List ℕ) → List (Part N) → Next N
other_arm site c a None parts = choice c a None parts
other_arm site c a (Some path) parts = take (Ask (arm_at site path true)) parts (λ b more. choice c a (Some b) more)

-- with a known condition the chosen part alone is walked, and is the form's part
abbrev pub by_condition : {N : Type 0} → Condition → ℕ → Occurrence → Part N → List (Part N) → Next N
by_condition Holds body site c parts = arm site false (Some (body ∷ [])) parts
by_condition Fails body site c parts = arm site false (else_of site.here) parts
by_condition IsOpen body site c parts = take (Ask (arm_at site (body ∷ []) true)) parts (λ a more. other_arm site c a (else_of site.here) more)

abbrev pub if_on : {N : Type 0} → List ℕ → Rule N
if_on (condition ∷ body ∷ others) site parts =
    take (Ask (operand_at site condition Nothing)) parts (λ c more.
    elim (is_truth c.ty) [ true ↦ by_condition (condition_of (known_of c)) body site c more | false ↦ Halt (Error 20) ])
if_on _ site parts = Halt (Error 36)

-- those with captures aren't built yet
abbrev pub if_rule : {N : Type 0} → Rule N
if_rule site parts = elim (has_capture site.here) [ true ↦ Halt (Error 36) | false ↦ if_on (forms site.here) site parts ]
