-- A forest is told by a list: each root, and what is below it and behind it, each of these up to its own end.
use Rattle.std.specs.Prelude.{◌≡◌, refl, List, [], ◌∷◌, ◌++◌, Option, Some, None}
use Rattle.std.specs.Coded.{Coded, code_by, coded_list, coded_option}
use Rattle.std.proofs.Common.{ap, ◌∙◌, append_assoc}
use Rattle.zw_tree.specs.Trees.{Forest, none, tree}

-- the roots as they are met, and None at the end of each forest
abbrev pub spelled : {A : Type 0} → Forest A → List (Option A)
spelled none = None ∷ []
spelled (tree root below behind) = Some root ∷ (spelled below ++ spelled behind)

abbrev pub with_root : {A : Type 0} → A → List (Forest A) → List (Forest A)
with_root root [] = []
with_root root (below ∷ []) = []
with_root root (below ∷ (behind ∷ others)) = tree root below behind ∷ others

-- the forests that a list spells
abbrev pub read_all : {A : Type 0} → List (Option A) → List (Forest A)
read_all [] = []
read_all (None ∷ rest) = none ∷ read_all rest
read_all (Some root ∷ rest) = with_root root (read_all rest)

abbrev pub first_of : {A : Type 0} → List (Forest A) → Forest A
first_of [] = none
first_of (forest ∷ others) = forest

abbrev pub read : {A : Type 0} → List (Option A) → Forest A
read list = first_of (read_all list)

pub read_all-spelled : {A : Type 0} (forest : Forest A) (rest : List (Option A)) → read_all (spelled forest ++ rest) ≡ forest ∷ read_all rest
read_all-spelled none rest = refl
read_all-spelled (tree root below behind) rest =
    ap (λ list. with_root root (read_all list)) (append_assoc (spelled below) (spelled behind) rest)
    ∙ ap (with_root root) (read_all-spelled below (spelled behind ++ rest) ∙ ap (λ others. below ∷ others) (read_all-spelled behind rest))

pub read_all-alone : {A : Type 0} (forest : Forest A) → read_all (spelled forest) ≡ forest ∷ []
read_all-alone none = refl
read_all-alone (tree root below behind) = ap (with_root root) (read_all-spelled below (spelled behind) ∙ ap (λ others. below ∷ others) (read_all-alone behind))

pub read-spelled : {A : Type 0} (forest : Forest A) → read (spelled forest) ≡ forest
read-spelled forest = ap first_of (read_all-alone forest)

abbrev pub forest_code : {A : Type 0} → Coded A → Coded (Forest A)
forest_code {A} code = code_by (List (Option A)) (coded_list (coded_option code)) spelled read read-spelled
