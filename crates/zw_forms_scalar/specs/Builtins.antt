-- The rules of builtins on integers, truth values and types (Zig Language Reference 0.13.0, Builtin Functions), with the numbers of their
-- errors (this project's own): 14 no peer type, 16 a known value is required, 18 a wrong number of operands, 20 not defined on the type, 29 no type is wanted.
use Rattle.std.specs.Prelude.{ℕ, ◌%◌, pos, Bool, true, false, not, ◌&&◌, nat_eq, nat_le, if◌then◌else◌, List, [], ◌∷◌, ◌++◌, length, slice_get, Option, Some, None, codes}
use Rattle.std.specs.Str.{bytes_eq}
use Rattle.zw_base.specs.declared.stop.StopKind.TheVariants.{Error}
use Rattle.zw_num.specs.declared.operator.Cast.TheVariants as cast
use Rattle.zw_num.specs.declared.operator.Count.TheVariants as count
use Rattle.zw_num.specs.declared.operator.Division.TheVariants as quotient
use Rattle.zw_num.specs.declared.operator.Extreme.TheVariants as extreme
use Rattle.zw_num.specs.declared.operator.Shift.TheVariants as shift
use Rattle.zw_num.specs.declared.operator.Unary.TheVariants as one
use Rattle.zw_num.specs.declared.operator.Operator.{Operator}
use Rattle.zw_num.specs.declared.operator.Operator.TheVariants as family
use Rattle.zw_types.specs.TypeTrees as tree
use Rattle.zw_types.specs.TypeTrees.{TypeTree}
use Rattle.zw_values.specs.Coercions.{peer_of_all}
use Rattle.zw_layout.specs.Sizes.{integer_layout}
use Rattle.zw_env.specs.Parts.{Part, Operand, Next, Visit, VisitKnown, VisitUnevaluated, Operation, Raise, Done, Halt, a_value, in_type, alone, is_comptime_only, is_lost}
use Rattle.zw_forms_scalar.specs.Operators.{is_integer, arithmetic, shifting, amount_type}

-- ---- results

abbrev pub has_bits : ℕ → TypeTree → Bool
has_bits bits (tree.IntType signed own size) = nat_eq own bits
has_bits bits _ = false

-- `@truncate`: to an integer of the same sign and no more bits, from a `comptime_int` to any integer
abbrev pub can_truncate : TypeTree → TypeTree → Bool
can_truncate tree.ComptimeIntType (tree.IntType signed bits size) = true
can_truncate tree.ComptimeIntType tree.ComptimeIntType = true
can_truncate (tree.IntType true bits size) (tree.IntType true bits' size') = nat_le bits' bits
can_truncate (tree.IntType false bits size) (tree.IntType false bits' size') = nat_le bits' bits
can_truncate _ _ = false

-- `@bitCast`: to an integer of the same width
abbrev pub can_bit_cast : TypeTree → TypeTree → Bool
can_bit_cast (tree.IntType signed bits size) to = has_bits bits to
can_bit_cast _ to = false

abbrev pub can_cast : TypeTree → TypeTree → Bool
can_cast from to = is_integer from

-- the least unsigned type that holds the width itself
abbrev pub count_bits : ℕ → ℕ
count_bits bits =
    if nat_eq bits 0 then 0 else (if nat_le bits 1 then 1 else (if nat_le bits 3 then 2 else (if nat_le bits 7 then 3 else (
    if nat_le bits 15 then 4 else (if nat_le bits 31 then 5 else (if nat_le bits 63 then 6 else 7))))))

abbrev pub count_type : TypeTree → Option TypeTree
count_type (tree.IntType signed bits size) = Some (tree.IntType false (count_bits bits) false)
count_type _ = None

-- `@byteSwap` is for whole bytes
abbrev pub whole_bytes : TypeTree → Option TypeTree
whole_bytes (tree.IntType signed bits size) = if nat_eq (bits % 8) 0 then Some (tree.IntType signed bits size) else None
whole_bytes _ = None

abbrev pub any_sized : TypeTree → Option TypeTree
any_sized (tree.IntType signed bits size) = Some (tree.IntType signed bits size)
any_sized _ = None

-- `@abs`: the unsigned type of the width
abbrev pub abs_type : TypeTree → Option TypeTree
abs_type (tree.IntType signed bits size) = Some (tree.IntType false bits size)
abs_type tree.ComptimeIntType = Some tree.ComptimeIntType
abs_type _ = None

abbrev pub truth_number : TypeTree → Option TypeTree
truth_number tree.BoolType = Some (tree.IntType false 1 false)
truth_number _ = None

-- ---- what a type measures, as a known `comptime_int`

abbrev pub number_part : {N : Type 0} → ℕ → Next N
number_part n = Done (a_value tree.ComptimeIntType (tree.NumberValue (pos n)))

abbrev pub size_part : {N : Type 0} → TypeTree → Next N
size_part (tree.IntType signed bits size) = number_part (integer_layout bits).size
size_part tree.BoolType = number_part 1
size_part tree.VoidType = number_part 0
size_part tree.ComptimeIntType = number_part 0
size_part tree.TypeType = number_part 0
size_part _ = Halt (Error 20)

abbrev pub align_part : {N : Type 0} → TypeTree → Next N
align_part (tree.IntType signed bits size) = number_part (integer_layout bits).align
align_part tree.BoolType = number_part 1
align_part tree.VoidType = number_part 1
align_part _ = Halt (Error 20)

abbrev pub bit_size_part : {N : Type 0} → TypeTree → Next N
bit_size_part (tree.IntType signed bits size) = number_part bits
bit_size_part tree.BoolType = number_part 1
bit_size_part _ = Halt (Error 20)

-- ---- the builtins by what they ask of their operands

pub data Builtin : Type 0 where
  -- `@as`, `@TypeOf`
  AsType TypeOf : Builtin
  -- of one type: its size, its alignment, its bits
  SizeOf AlignOf BitSizeOf : Builtin
  -- one integer becomes one of the wanted type, where it can
  Casts : Operator → (TypeTree → TypeTree → Bool) → Builtin
  -- one operand, with a result of a type that its own decides, where there is one
  OnOwn : Operator → (TypeTree → Option TypeTree) → Builtin
  -- two integers in the peer type; two or more; an integer and an amount
  InPeer InPeers InShift : Operator → Builtin
  Quota : Builtin

abbrev pub builtins : List (List ℕ × Builtin)
builtins =
    (codes "as", AsType) ∷ (codes "TypeOf", TypeOf) ∷ (codes "sizeOf", SizeOf) ∷ (codes "alignOf", AlignOf) ∷
    (codes "bitSizeOf", BitSizeOf) ∷ (codes "intCast", Casts (family.Cast cast.IntCast) can_cast) ∷
    (codes "truncate", Casts (family.Cast cast.Truncate) can_truncate) ∷ (codes "bitCast", Casts (family.Cast cast.BitCast) can_bit_cast) ∷
    (codes "intFromBool", OnOwn (family.Cast cast.IntFromBool) truth_number) ∷ (codes "divTrunc", InPeer (family.Division quotient.DivTrunc)) ∷
    (codes "divFloor", InPeer (family.Division quotient.DivFloor)) ∷ (codes "divExact", InPeer (family.Division quotient.DivExact)) ∷
    (codes "rem", InPeer (family.Division quotient.RemTrunc)) ∷ (codes "mod", InPeer (family.Division quotient.Mod)) ∷ (codes "shlExact", InShift (family.Shift shift.ShlExact)) ∷
    (codes "shrExact", InShift (family.Shift shift.ShrExact)) ∷ (codes "clz", OnOwn (family.Count count.Clz) count_type) ∷
    (codes "ctz", OnOwn (family.Count count.Ctz) count_type) ∷ (codes "popCount", OnOwn (family.Count count.PopCount) count_type) ∷
    (codes "byteSwap", OnOwn (family.Unary one.ByteSwap) whole_bytes) ∷ (codes "bitReverse", OnOwn (family.Unary one.BitReverse) any_sized) ∷
    (codes "abs", OnOwn (family.Unary one.Abs) abs_type) ∷ (codes "min", InPeers (family.Extreme extreme.Min)) ∷ (codes "max", InPeers (family.Extreme extreme.Max)) ∷
    (codes "setEvalBranchQuota", Quota) ∷ []

abbrev pub builtin_in : List (List ℕ × Builtin) → List ℕ → Option Builtin
builtin_in [] name = None
builtin_in ((text, builtin) ∷ more) name = if bytes_eq text name then Some builtin else builtin_in more name

-- how many operands it takes
abbrev pub takes : Builtin → ℕ → Bool
takes AsType n = nat_eq n 2
takes TypeOf n = nat_le 1 n
takes (InPeer name) n = nat_eq n 2
takes (InPeers name) n = nat_le 2 n
takes (InShift name) n = nat_eq n 2
takes _ n = nat_eq n 1

-- ---- their rules, with the operands' nodes

abbrev pub named_type : {N : Type 0} → Part N → Option TypeTree
named_type part = elim part.known [ None ↦ None | Some v ↦ elim v [ tree.TypeValue ty ↦ Some ty | _ ↦ None ] ]

abbrev pub on_type : {N : Type 0} → (TypeTree → Next N) → Part N → Next N
on_type f part = elim (named_type part) [ None ↦ Halt (Error 20) | Some ty ↦ f ty ]

-- what can't be used can only stay as it is
abbrev pub is_kept : Option TypeTree → Bool
is_kept None = false
is_kept (Some ty) = is_comptime_only ty

abbrev pub as_due : {N : Type 0} → Option TypeTree → Part N → Next N
as_due to v = if is_lost v && not (is_kept to) then Halt (Error 16) else Done v

abbrev pub as_rule : {N : Type 0} → ℕ → ℕ → List (Part N) → Next N
as_rule ty value [] = VisitKnown ty (Some tree.TypeType)
as_rule ty value (t ∷ []) = Visit value (named_type t)
as_rule ty value (t ∷ v ∷ more) = as_due (named_type t) v

abbrev pub measure_rule : {N : Type 0} → (TypeTree → Next N) → ℕ → List (Part N) → Next N
measure_rule f ty [] = VisitKnown ty (Some tree.TypeType)
measure_rule f ty (t ∷ more) = on_type f t

-- a type has to be wanted, and be one of integers that the operand can become
abbrev pub cast_to : {N : Type 0} → Operator → (TypeTree → TypeTree → Bool) → TypeTree → Part N → Next N
cast_to name can to a = if is_integer to && can a.ty to then Operation name to (alone a ∷ []) else Halt (Error 20)

abbrev pub cast_rule : {N : Type 0} → Operator → (TypeTree → TypeTree → Bool) → Option TypeTree → ℕ → List (Part N) → Next N
cast_rule name can None operand parts = Halt (Error 29)
cast_rule name can (Some to) operand [] = Visit operand None
cast_rule name can (Some to) operand (a ∷ []) = cast_to name can to a
cast_rule name can (Some to) operand (a ∷ result ∷ more) = Done result

abbrev pub own_rule : {N : Type 0} → Operator → (TypeTree → Option TypeTree) → ℕ → List (Part N) → Next N
own_rule name result_of operand [] = Visit operand None
own_rule name result_of operand (a ∷ []) = elim (result_of a.ty) [ None ↦ Halt (Error 20) | Some to ↦ Operation name to (alone a ∷ []) ]
own_rule name result_of operand (a ∷ result ∷ more) = Done result

abbrev pub peer_rule : {N : Type 0} → Operator → ℕ → ℕ → List (Part N) → Next N
peer_rule name left right [] = Visit left None
peer_rule name left right (a ∷ []) = Visit right None
peer_rule name left right (a ∷ b ∷ []) = arithmetic name a b
peer_rule name left right (a ∷ b ∷ result ∷ more) = Done result

abbrev pub shift_rule : {N : Type 0} → Operator → ℕ → ℕ → List (Part N) → Next N
shift_rule name left right [] = Visit left None
shift_rule name left right (a ∷ []) = Visit right (amount_type a.ty)
shift_rule name left right (a ∷ b ∷ []) = shifting name a b
shift_rule name left right (a ∷ b ∷ result ∷ more) = Done result

-- what is due when all operands are there, and then when one part more is
abbrev pub all_then : {N : Type 0} → (ℕ → Next N) → (List (Part N) → Next N) → List ℕ → List (Part N) → List (Part N) → Next N
all_then visit due [] parts [] = due parts
all_then visit due [] parts (result ∷ more) = Done result
all_then visit due (operand ∷ operands) parts [] = visit operand
all_then visit due (operand ∷ operands) parts (part ∷ more) = all_then visit due operands (parts ++ part ∷ []) more

abbrev pub types_of : {N : Type 0} → List (Part N) → List TypeTree
types_of [] = []
types_of (p ∷ ps) = p.ty ∷ types_of ps

abbrev pub all_integers : {N : Type 0} → List (Part N) → Bool
all_integers [] = true
all_integers (p ∷ ps) = is_integer p.ty && all_integers ps

abbrev pub all_in : {N : Type 0} → TypeTree → List (Part N) → List (Operand N)
all_in ty [] = []
all_in ty (p ∷ ps) = in_type ty p ∷ all_in ty ps

abbrev pub peer_part : {N : Type 0} → List TypeTree → Next N
peer_part [] = Halt (Error 18)
peer_part (ty ∷ types) = elim (peer_of_all ty types) [ None ↦ Halt (Error 14) | Some peer ↦ Done (a_value tree.TypeType (tree.TypeValue peer)) ]

abbrev pub in_peers : {N : Type 0} → Operator → List (Part N) → List TypeTree → Next N
in_peers name parts [] = Halt (Error 18)
in_peers name parts (ty ∷ types) = elim (peer_of_all ty types) [ None ↦ Halt (Error 14) | Some peer ↦ Operation name peer (all_in peer parts) ]

abbrev pub peers_due : {N : Type 0} → Operator → List (Part N) → Next N
peers_due name parts = if all_integers parts then in_peers name parts (types_of parts) else Halt (Error 20)

-- the quota takes any known integer, and gives nothing
abbrev pub quota_due : {N : Type 0} → Part N → Next N
quota_due n = elim (n.known) [ None ↦ Halt (Error 16) | Some v ↦ if is_integer n.ty then Raise v else Halt (Error 20) ]

abbrev pub quota_rule : {N : Type 0} → ℕ → List (Part N) → Next N
quota_rule operand [] = VisitKnown operand None
quota_rule operand (n ∷ []) = quota_due n
quota_rule operand (n ∷ raised ∷ more) = Done raised

-- the first and the second operand; their number was looked at before
abbrev pub operand : List ℕ → ℕ → ℕ
operand operands k = elim (slice_get operands k) [ None ↦ 0 | Some n ↦ n ]

abbrev pub builtin_on : {N : Type 0} → Builtin → Option TypeTree → List ℕ → List (Part N) → Next N
builtin_on AsType wanted operands parts = as_rule (operand operands 0) (operand operands 1) parts
builtin_on TypeOf wanted operands parts = all_then (λ n. VisitUnevaluated n None) (λ all. peer_part (types_of all)) operands [] parts
builtin_on SizeOf wanted operands parts = measure_rule size_part (operand operands 0) parts
builtin_on AlignOf wanted operands parts = measure_rule align_part (operand operands 0) parts
builtin_on BitSizeOf wanted operands parts = measure_rule bit_size_part (operand operands 0) parts
builtin_on (Casts name can) wanted operands parts = cast_rule name can wanted (operand operands 0) parts
builtin_on (OnOwn name result_of) wanted operands parts = own_rule name result_of (operand operands 0) parts
builtin_on (InPeer name) wanted operands parts = peer_rule name (operand operands 0) (operand operands 1) parts
builtin_on (InPeers name) wanted operands parts = all_then (λ n. Visit n None) (λ all. peers_due name all) operands [] parts
builtin_on (InShift name) wanted operands parts = shift_rule name (operand operands 0) (operand operands 1) parts
builtin_on Quota wanted operands parts = quota_rule (operand operands 0) parts

-- A wrong number of operands is told before they are analysed. Other builtins aren't built yet.
abbrev pub builtin_rule : {N : Type 0} → List ℕ → Option TypeTree → List ℕ → List (Part N) → Next N
builtin_rule name wanted operands parts =
    elim (builtin_in builtins name) [
      | None ↦ Halt (Error 36)
      | Some builtin ↦ elim (takes builtin (length operands)) [ true ↦ builtin_on builtin wanted operands parts | false ↦ Halt (Error 18) ]
    ]
