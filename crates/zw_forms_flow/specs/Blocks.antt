-- The rule of blocks (Zig Language Reference 0.13.0, Blocks), with the number of its error (this project's own): 28 a value is ignored.
use Rattle.std.specs.Prelude.{ℕ, Bool, true, false, ◌&&◌, ◌||◌, nat_eq, List, [], ◌∷◌, ◌++◌, Option, Some, None}
use Rattle.zw_base.specs.declared.stop.StopKind.TheVariants.{Error}
use Rattle.zw_types.specs.TypeTrees as tree
use Rattle.zw_types.specs.TypeTrees.{TypeTree}
use Rattle.zw_values.specs.ObjectStore.{Stage, at_compile_time}
use Rattle.zw_typed.specs.HostTypes.{is_void}
use Rattle.zw_env.specs.FlowParts.{Part, Stands, Goes, Occurrence, Rule, Next, Ask, Emit, OpenTarget, Done, Halt, HaltAt, Sequence, Open, Visit, Nothing, nothing, is_known, all_known, never_ends, number_of, operand_at, take, last_of}
use Rattle.zw_env.specs.FlowChildren.{positions, is_statement, label_of}
use Rattle.zw_forms_flow.specs.Joins.{joined}

-- ---- statements

abbrev pub is_used_up : {N : Type 0} → Part N → Bool
is_used_up part = is_void part.ty || never_ends part

-- the last of several parts, and whether it never comes to its end
abbrev pub last_never_ends : {N : Type 0} → List (Part N) → Bool
last_never_ends [] = false
last_never_ends (p ∷ []) = never_ends p
last_never_ends (p ∷ q ∷ more) = last_never_ends (q ∷ more)

-- what came to the block by leaving, and what its statements gave, as far as they are walked
abbrev pub Due : Type 0 → Type 0
Due N = List (Part N) → List (Part N) → List (Part N) → Next N

-- At compile time what came by leaving is all that comes.
abbrev pub at_statement : {N : Type 0} → Stage → List (Part N) → Next N → Next N
at_statement at_compile_time (arrived ∷ more) visit = Done (record arrived { left_to = None })
at_statement stage arrived visit = visit

-- The statements in order: none may leave a value, and none behind one that never comes to its end is walked.
abbrev pub statements : {N : Type 0} → Stage → (ℕ → Next N) → Due N → List (Part N) → List (Part N) → List ℕ → List (Part N) → Next N
statements stage visit due arrived given [] parts = due arrived given parts
statements stage visit due arrived given (n ∷ ns) [] = at_statement stage arrived (visit n)
statements stage visit due arrived given (n ∷ ns) (part ∷ parts) =
    elim part.left_to [
      | Some target ↦ statements stage visit due (arrived ++ part ∷ []) given (n ∷ ns) parts
      | None ↦ elim (never_ends part) [
        | true ↦ due arrived (given ++ part ∷ []) parts
        | false ↦ elim (is_used_up part) [
          | true ↦ statements stage visit due arrived (given ++ part ∷ []) ns parts
          | false ↦ HaltAt (n ∷ []) (Error 28)
        ]
      ]
    ]

-- ---- what is due behind them

abbrev pub block_type : {N : Type 0} → List (Part N) → TypeTree
block_type given = elim (last_never_ends given) [ true ↦ tree.NoReturnType | false ↦ tree.VoidType ]

-- where nothing is left to do there is no node
abbrev pub plain_due : {N : Type 0} → List (Part N) → List (Part N) → Next N
plain_due given parts = elim (all_known given) [ true ↦ Done nothing | false ↦ last_of (Emit (Sequence None given) (block_type given)) parts ]

-- whether the statements do nothing but leave to this target
abbrev pub goes_to : {N : Type 0} → ℕ → Stands N → Bool
goes_to target (Goes t n) = nat_eq t target
goes_to target _ = false

abbrev pub only_goes_to : {N : Type 0} → ℕ → List (Part N) → Bool
only_goes_to target [] = false
only_goes_to target (p ∷ []) = goes_to target p.stands
only_goes_to target (p ∷ q ∷ more) = is_known p && only_goes_to target (q ∷ more)

-- what joins at the block: what came by leaving, and nothing at its end where that is reached
abbrev pub all_joining : {N : Type 0} → List (Part N) → List (Part N) → List (Part N)
all_joining arrived given = elim (last_never_ends given) [ true ↦ arrived | false ↦ arrived ++ nothing ∷ [] ]

abbrev pub joining_due : {N : Type 0} → ℕ → List (Part N) → List (Part N) → List (Part N) → Next N
joining_due target arrived given parts =
    joined (all_joining arrived given) (λ ty. last_of (Emit (Sequence (Some target) given) ty) parts)

-- The block is known where one `break` with what is known leaves it, and it does nothing else.
abbrev pub labelled_due : {N : Type 0} → ℕ → List (Part N) → List (Part N) → List (Part N) → Next N
labelled_due target [] given parts = plain_due given parts
labelled_due target (a ∷ []) given parts =
    elim (is_known a && only_goes_to target given) [ true ↦ Done (record a { left_to = None }) | false ↦ joining_due target (a ∷ []) given parts ]
labelled_due target (a ∷ b ∷ more) given parts = joining_due target (a ∷ b ∷ more) given parts

-- ---- blocks

abbrev pub statement_at : Occurrence → List Open → ℕ → Visit
statement_at site opens n = record (operand_at site n Nothing) { ends = false; opens = opens }

abbrev pub in_block : {N : Type 0} → List Open → Due N → Rule N
in_block opens due site parts = statements site.stage (λ n. Ask (statement_at site opens n)) due [] [] (positions is_statement site.here) parts

abbrev pub block_open : Occurrence → List ℕ → ℕ → Open
block_open site label target = record { label = Some label; out = target; next = None; wanted = site.wanted; stage = site.stage }

abbrev pub with_target : {N : Type 0} → List ℕ → Option ℕ → Rule N
with_target label None site parts = Halt (Error 36)
with_target label (Some target) site parts = in_block (block_open site label target ∷ []) (labelled_due target) site parts

abbrev pub block_labelled : {N : Type 0} → Option (List ℕ) → Rule N
block_labelled None site parts = in_block [] (λ arrived given more. plain_due given more) site parts
block_labelled (Some label) site parts = take OpenTarget parts (λ opened more. with_target label (number_of opened) site more)

abbrev pub block_rule : {N : Type 0} → Rule N
block_rule site parts = block_labelled (label_of site.here) site parts
