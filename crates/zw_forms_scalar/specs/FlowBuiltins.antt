-- The rules of builtins on integers, truth values and types (Zig Language Reference 0.13.0, Builtin Functions), where operands may be of any form, with the
-- numbers of their errors (this project's own): 14 no peer type, 16 a known value is required, 18 a wrong number of operands, 20 not defined on the type,
-- 21 illegal while compiling, 29 no type is wanted. A builtin's own checks come after its operands'.
use Rattle.std.specs.Prelude.{ℕ, pos, Bool, true, false, not, ◌&&◌, nat_le, List, [], ◌∷◌, ◌++◌, length, Option, Some, None}
use Rattle.zw_base.specs.declared.stop.StopKind.TheVariants.{Error}
use Rattle.zw_num.specs.declared.operator.Operator.{Operator}
use Rattle.zw_num.specs.declared.operator.Operator.TheVariants as family
use Rattle.zw_types.specs.TypeTrees as tree
use Rattle.zw_types.specs.TypeTrees.{TypeTree, ValueTree}
use Rattle.zw_values.specs.ObjectStore.{at_compile_time, at_run_time}
use Rattle.zw_values.specs.Coercions.{peer_of_all}
use Rattle.zw_layout.specs.Sizes.{integer_layout}
use Rattle.zw_env.specs.FlowParts.{Part, Occurrence, Rule, Next, Ask, Operate, Raise, Done, Halt, Visit, Wanted, Nothing, OfType, wanted_of, a_value, alone, all_in, known_of, is_known, is_lost, is_comptime_only, named_type, types_of, number_part, operand_at, last_of}
use Rattle.zw_env.specs.FlowChildren.{forms}
use Rattle.zw_forms_scalar.specs.Operators.{is_integer, is_comptime_int, known_is, is_zero, amount_type}
use Rattle.zw_forms_scalar.specs.Builtins.{Builtin, AsType, TypeOf, SizeOf, AlignOf, BitSizeOf, Casts, OnOwn, InPeer, InPeers, InShift, Quota, builtins, builtin_in, takes}
use Rattle.zw_forms_scalar.specs.FlowOperators.{arithmetic, shifting}

-- ---- operands

-- the visit of the operand with this number, when those before it are there
abbrev pub type_at : Occurrence → ℕ → Visit
type_at site child = record (operand_at site child (OfType tree.TypeType)) { stage = at_compile_time }

abbrev pub second_wanted : {N : Type 0} → Builtin → List (Part N) → Wanted
second_wanted AsType (t ∷ []) = wanted_of (named_type t)
second_wanted (InShift name) (a ∷ []) = wanted_of (amount_type a.ty)
second_wanted _ _ = Nothing

-- `@TypeOf` evaluates nothing, and its operand may be one of run time
abbrev pub later_operand : {N : Type 0} → Builtin → Occurrence → ℕ → List (Part N) → Visit
later_operand TypeOf site child taken = record (operand_at site child Nothing) { stage = at_run_time; evaluated = false; ends = false }
later_operand builtin site child taken = operand_at site child (second_wanted builtin taken)

abbrev pub first_operand : Builtin → Occurrence → ℕ → Visit
first_operand AsType site child = type_at site child
first_operand SizeOf site child = type_at site child
first_operand AlignOf site child = type_at site child
first_operand BitSizeOf site child = type_at site child
first_operand Quota site child = record (operand_at site child Nothing) { stage = at_compile_time }
first_operand TypeOf site child = record (operand_at site child Nothing) { stage = at_run_time; evaluated = false; ends = false }
first_operand _ site child = operand_at site child Nothing

abbrev pub operand_visit : {N : Type 0} → Builtin → Occurrence → ℕ → List (Part N) → Visit
operand_visit builtin site child [] = first_operand builtin site child
operand_visit builtin site child (part ∷ taken) = later_operand builtin site child (part ∷ taken)

-- ---- what is due on operands

abbrev pub with_size : {N : Type 0} → ℕ → Next N
with_size n = Done (number_part n)

abbrev pub size_part : {N : Type 0} → TypeTree → Next N
size_part (tree.IntType signed bits size) = with_size (integer_layout bits).size
size_part tree.BoolType = with_size 1
size_part tree.VoidType = with_size 0
size_part tree.ComptimeIntType = with_size 0
size_part tree.TypeType = with_size 0
size_part _ = Halt (Error 20)

abbrev pub align_part : {N : Type 0} → TypeTree → Next N
align_part (tree.IntType signed bits size) = with_size (integer_layout bits).align
align_part tree.BoolType = with_size 1
align_part tree.VoidType = with_size 1
align_part _ = Halt (Error 20)

abbrev pub bit_size_part : {N : Type 0} → TypeTree → Next N
bit_size_part (tree.IntType signed bits size) = with_size bits
bit_size_part tree.BoolType = with_size 1
bit_size_part _ = Halt (Error 20)

abbrev pub on_type : {N : Type 0} → (TypeTree → Next N) → Option TypeTree → Next N
on_type f None = Halt (Error 20)
on_type f (Some ty) = f ty

-- what can't be used can only stay as it is
abbrev pub is_kept : Option TypeTree → Bool
is_kept None = false
is_kept (Some ty) = is_comptime_only ty

abbrev pub as_due : {N : Type 0} → Option TypeTree → Part N → Next N
as_due to v = elim (is_lost v && not (is_kept to)) [ true ↦ Halt (Error 16) | false ↦ Done v ]

-- a type has to be wanted, and be one of integers that the operand can become; a `comptime_int` comes of what is known
abbrev pub cast_to : {N : Type 0} → Operator → (TypeTree → TypeTree → Bool) → TypeTree → Part N → List (Part N) → Next N
cast_to name can to a parts =
    elim (is_integer to && can a.ty to) [
      | false ↦ Halt (Error 20)
      | true ↦ elim (is_comptime_int to && not (is_known a)) [ true ↦ Halt (Error 16) | false ↦ last_of (Operate name to (alone a ∷ [])) parts ]
    ]

abbrev pub cast_due : {N : Type 0} → Operator → (TypeTree → TypeTree → Bool) → Option TypeTree → Part N → List (Part N) → Next N
cast_due name can None a parts = Halt (Error 29)
cast_due name can (Some to) a parts = cast_to name can to a parts

abbrev pub own_due : {N : Type 0} → Operator → Option TypeTree → Part N → List (Part N) → Next N
own_due name None a parts = Halt (Error 20)
own_due name (Some to) a parts = last_of (Operate name to (alone a ∷ [])) parts

-- a denominator that is known to be 0 can't be, whatever is divided
abbrev pub is_by_zero : {N : Type 0} → Operator → Part N → Bool
is_by_zero (family.Division op) b = known_is is_zero (known_of b)
is_by_zero _ b = false

abbrev pub peer_due : {N : Type 0} → Operator → Part N → Part N → List (Part N) → Next N
peer_due name a b parts =
    elim (is_integer a.ty && (not (is_lost a) && is_by_zero name b)) [ true ↦ Halt (Error 21) | false ↦ arithmetic name a b parts (λ result last. Done result) ]

-- nor can an amount that is known not to be below the width, whatever is shifted
abbrev pub is_past : TypeTree → Option ValueTree → Bool
is_past (tree.IntType signed bits size) (Some (tree.NumberValue (pos n))) = nat_le bits n
is_past _ _ = false

abbrev pub shift_due : {N : Type 0} → Operator → Part N → Part N → List (Part N) → Next N
shift_due name a b parts =
    elim (is_past a.ty (known_of b)) [ true ↦ Halt (Error 21) | false ↦ shifting name a b parts (λ result last. Done result) ]

abbrev pub peer_type_part : {N : Type 0} → Option TypeTree → Next N
peer_type_part None = Halt (Error 14)
peer_type_part (Some ty) = Done (a_value tree.TypeType (tree.TypeValue ty))

abbrev pub all_integers : {N : Type 0} → List (Part N) → Bool
all_integers [] = true
all_integers (p ∷ ps) = is_integer p.ty && all_integers ps

abbrev pub peer_among : List TypeTree → Option TypeTree
peer_among [] = None
peer_among (ty ∷ types) = peer_of_all ty types

abbrev pub in_peers : {N : Type 0} → Operator → List (Part N) → Option TypeTree → List (Part N) → Next N
in_peers name operands None parts = Halt (Error 14)
in_peers name operands (Some ty) parts = last_of (Operate name ty (all_in ty operands)) parts

abbrev pub peers_due : {N : Type 0} → Operator → List (Part N) → List (Part N) → Next N
peers_due name operands parts =
    elim (all_integers operands) [ true ↦ in_peers name operands (peer_among (types_of operands)) parts | false ↦ Halt (Error 20) ]

-- the quota takes any known integer, and gives nothing
abbrev pub quota_value : {N : Type 0} → Option ValueTree → List (Part N) → Next N
quota_value None parts = Halt (Error 16)
quota_value (Some v) parts = last_of (Raise v) parts

abbrev pub quota_due : {N : Type 0} → Part N → List (Part N) → Next N
quota_due n parts = elim (is_integer n.ty) [ true ↦ quota_value (known_of n) parts | false ↦ Halt (Error 20) ]

-- what a builtin does with its operands, as many as it takes
abbrev pub builtin_due : {N : Type 0} → Builtin → Occurrence → List (Part N) → List (Part N) → Next N
builtin_due AsType site (t ∷ v ∷ []) parts = as_due (named_type t) v
builtin_due TypeOf site operands parts = peer_type_part (peer_among (types_of operands))
builtin_due SizeOf site (t ∷ []) parts = on_type size_part (named_type t)
builtin_due AlignOf site (t ∷ []) parts = on_type align_part (named_type t)
builtin_due BitSizeOf site (t ∷ []) parts = on_type bit_size_part (named_type t)
builtin_due (Casts name can) site (a ∷ []) parts = cast_due name can site.wanted a parts
builtin_due (OnOwn name result_of) site (a ∷ []) parts = own_due name (result_of a.ty) a parts
builtin_due (InPeer name) site (a ∷ b ∷ []) parts = peer_due name a b parts
builtin_due (InPeers name) site operands parts = peers_due name operands parts
builtin_due (InShift name) site (a ∷ b ∷ []) parts = shift_due name a b parts
builtin_due Quota site (n ∷ []) parts = quota_due n parts
builtin_due _ site operands parts = Halt (Error 18)

abbrev pub all_there : {N : Type 0} → Builtin → Occurrence → List (Part N) → List (Part N) → Next N
all_there builtin site operands parts = elim (takes builtin (length operands)) [ true ↦ builtin_due builtin site operands parts | false ↦ Halt (Error 18) ]

-- all operands in order, each with the type that is wanted at its place, and then their number
abbrev pub builtin_on : {N : Type 0} → Builtin → Occurrence → List ℕ → List (Part N) → List (Part N) → Next N
builtin_on builtin site [] taken parts = all_there builtin site taken parts
builtin_on builtin site (child ∷ more) taken [] = Ask (operand_visit builtin site child taken)
builtin_on builtin site (child ∷ more) taken (part ∷ parts) = builtin_on builtin site more (taken ++ part ∷ []) parts

-- other builtins aren't built yet
abbrev pub builtin_rule : {N : Type 0} → List ℕ → Rule N
builtin_rule name site parts =
    elim (builtin_in builtins name) [ None ↦ Halt (Error 36) | Some builtin ↦ builtin_on builtin site (forms site.here) [] parts ]
