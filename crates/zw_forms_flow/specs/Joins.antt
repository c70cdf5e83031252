-- Where parts join: their peer type, and the error that is due where one can't become of it (Zig Language Reference 0.13.0, Peer Type Resolution).
use Rattle.std.specs.Prelude.{ℕ, Bool, true, false, ◌&&◌, ◌||◌, List, [], ◌∷◌, Option, Some, None, Result, Ok, Err}
use Rattle.zw_base.specs.declared.stop.StopKind.TheVariants.{Error}
use Rattle.zw_types.specs.TypeTrees as tree
use Rattle.zw_types.specs.TypeTrees.{TypeTree}
use Rattle.zw_values.specs.Coercions.{coercion, peer_of_all}
use Rattle.zw_env.specs.FlowParts.{Part, Next, Halt, nothing, known_of, any_lost, is_comptime_only, never_ends, types_of}

-- those that come to their end
abbrev pub ending : {N : Type 0} → List (Part N) → List (Part N)
ending [] = []
ending (p ∷ ps) = elim (never_ends p) [ true ↦ ending ps | false ↦ p ∷ ending ps ]

-- the error of the first that can't become of the type
abbrev pub first_error : Result ℕ ℕ → Option ℕ → Option ℕ
first_error (Ok row) later = later
first_error (Err error) later = Some error

abbrev pub no_member : {N : Type 0} → TypeTree → List (Part N) → Option ℕ
no_member ty [] = None
no_member ty (p ∷ ps) = first_error (coercion p.ty (known_of p) ty) (no_member ty ps)

abbrev pub if_members : {N : Type 0} → Option ℕ → TypeTree → (TypeTree → Next N) → Next N
if_members None ty due = due ty
if_members (Some error) ty due = Halt (Error error)

abbrev pub peer_type : List TypeTree → Option TypeTree
peer_type [] = Some tree.NoReturnType
peer_type (ty ∷ types) = peer_of_all ty types

abbrev pub has_several : {A : Type 0} → List A → Bool
has_several [] = false
has_several (a ∷ []) = false
has_several (a ∷ b ∷ more) = true

-- Several values of a type that only the compiler has can't join where it isn't known which one comes, and a part that can't be used can't join others.
abbrev pub join_in : {N : Type 0} → List (Part N) → Option TypeTree → (TypeTree → Next N) → Next N
join_in parts None due = Halt (Error 14)
join_in parts (Some ty) due =
    elim (has_several parts && (is_comptime_only ty || any_lost parts)) [ true ↦ Halt (Error 16) | false ↦ if_members (no_member ty parts) ty due ]

-- What is due with the type of parts that join: those that never come to their end give way.
abbrev pub joined : {N : Type 0} → List (Part N) → (TypeTree → Next N) → Next N
joined parts due = join_in (ending parts) (peer_type (types_of (ending parts))) due

-- a part, and `void` where there is none
abbrev pub or_nothing : {N : Type 0} → Option (Part N) → Part N
or_nothing None = nothing
or_nothing (Some part) = part
