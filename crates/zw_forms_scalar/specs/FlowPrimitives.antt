-- The names of primitive types and values as known values (Zig Language Reference 0.13.0, Primitive Types, Primitive Values).
use Rattle.std.specs.Prelude.{ℕ, Bool, true, false, ◌==◌, nat_le, List, [], ◌∷◌, Option, Some, None, codes, if◌then◌else◌}
use Rattle.std.specs.Str.{bytes_eq}
use Rattle.zw_base.specs.declared.stop.StopKind.TheVariants.{Error, Limit}
use Rattle.zw_token.specs.Names.{is_sized_name}
use Rattle.zw_token.specs.Numbers.{decimal_value}
use Rattle.zw_types.specs.TypeTrees as tree
use Rattle.zw_types.specs.TypeTrees.{TypeTree}
use Rattle.zw_env.specs.FlowParts.{Next, Done, Halt, a_value}

abbrev pub type_part : {N : Type 0} → TypeTree → Next N
type_part ty = Done (a_value tree.TypeType (tree.TypeValue ty))

abbrev pub truth_part : {N : Type 0} → Bool → Next N
truth_part b = Done (a_value tree.BoolType (tree.TruthValue b))

-- an integer has at most 64 bits
abbrev pub sized_type : {N : Type 0} → Bool → ℕ → Next N
sized_type signed bits = if nat_le bits 64 then type_part (tree.IntType signed bits false) else Halt (Limit 12)

-- the primitives with a name of their own; those that aren't built yet are error 36
abbrev pub plain_primitives : {N : Type 0} → List (List ℕ × Next N)
plain_primitives =
    (codes "usize", type_part (tree.IntType false 32 true)) ∷ (codes "isize", type_part (tree.IntType true 32 true)) ∷
    (codes "comptime_int", type_part tree.ComptimeIntType) ∷ (codes "bool", type_part tree.BoolType) ∷
    (codes "void", type_part tree.VoidType) ∷ (codes "noreturn", type_part tree.NoReturnType) ∷ (codes "type", type_part tree.TypeType) ∷
    (codes "true", truth_part true) ∷ (codes "false", truth_part false) ∷
    (codes "anyerror", Halt (Error 36)) ∷ (codes "null", Halt (Error 36)) ∷ (codes "undefined", Halt (Error 36)) ∷ []

abbrev pub next_named : {N : Type 0} → List (List ℕ × Next N) → List ℕ → Option (Next N)
next_named [] name = None
next_named ((text, next) ∷ more) name = if bytes_eq text name then Some next else next_named more name

-- the letter says whether the integers are signed
abbrev pub sized_primitive : {N : Type 0} → List ℕ → Next N
sized_primitive [] = Halt (Error 36)
sized_primitive (letter ∷ digits) = sized_type (letter == 105) (decimal_value digits)

-- what a primitive name stands for; no other name
abbrev pub primitive : {N : Type 0} → List ℕ → Option (Next N)
primitive name = if is_sized_name name then Some (sized_primitive name) else next_named plain_primitives name
