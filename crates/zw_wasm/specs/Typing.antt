-- Typing: the types of instruction sequences, by the validation algorithm over an operand stack and a control stack
-- (WebAssembly Core Specification 1.0, 3.3 and 7.3). Apart from the rules of whole modules, which use it for each body.
use Rattle.std.specs.Prelude.{ℕ, suc, Bool, true, false, ◌&&◌, nat_le, List, [], ◌∷◌, ◌++◌, Option, Some, None, is_some, slice_get, if◌then◌else◌}
use Rattle.std.specs.Int.{Width}
use Rattle.std.specs.List.{list_all}
use Rattle.std.specs.Option.{option_to_list}
use Rattle.zw_wasm.specs.declared.module.FuncType.{FuncType}
use Rattle.zw_wasm.specs.declared.module.GlobalDef.{GlobalDef}
use Rattle.zw_wasm.specs.declared.module.Module.{Module}
use Rattle.zw_wasm.specs.declared.module.ValType.{ValType}
use Rattle.zw_wasm.specs.declared.module.ValType.TheVariants.{I32, I64}
use Rattle.zw_wasm.specs.declared.module.Instr.{Instr}
use Rattle.zw_wasm.specs.declared.module.Instr.TheVariants as instr
use Rattle.zw_wasm.specs.declared.module.Conversion.{Conversion}
use Rattle.zw_wasm.specs.declared.module.Conversion.TheVariants.{Wrap, ExtendS, ExtendU}
use Rattle.zw_wasm.specs.declared.module.MemoryArgument.{MemoryArgument}
use Rattle.zw_wasm.specs.Accesses.{load_type, load_width, store_type, store_width, natural_alignment}
use Rattle.zw_wasm.specs.Functions.{func_type}

-- what an instruction sequence stands in: its module, the types of the parameters and locals, and those that its function
-- returns (3.1.1)
pub record Context : Type 0 where
  pub module_ : Module
  pub locals : List ValType
  pub returns : List ValType

-- an operand's type, or any type, which an operand has that code out of reach takes from nowhere
pub data Operand : Type 0 where
  Known : (ty : ValType) → Operand
  Unknown : Operand

-- An entry of the control stack: the types at its end, those that a branch to it takes, the operands below it, whether
-- the code is out of reach, behind an unconditional branch, and whether it is what an `if` began, up to its `else`.
pub record Control : Type 0 where
  pub results : List ValType
  pub branch : List ValType
  pub below : List Operand
  pub unreachable : Bool
  pub is_if : Bool

-- why an instruction is refused: an index isn't there; an operand has another type, or a global isn't mutable; an
-- alignment is too great
abbrev pub no_index : ℕ
no_index = 1

abbrev pub wrong_type : ℕ
wrong_type = 2

abbrev pub wrong_alignment : ℕ
wrong_alignment = 3

-- an instruction is accepted, with the stacks behind it; or it ends the outermost sequence; or it is refused
pub data Checked : Type 0 where
  Goes : (operands : List Operand) (control : Control) (outer : List Control) → Checked
  Closes : Checked
  Refused : (code : ℕ) → Checked

abbrev pub same_type : ValType → ValType → Bool
same_type I32 I32 = true
same_type I64 I64 = true
same_type I32 I64 = false
same_type I64 I32 = false

abbrev pub fits : ValType → Operand → Bool
fits t (Known u) = same_type t u
fits t Unknown = true

-- the operands without the first, which has this type; code out of reach finds one where none is left
abbrev pub taken : ValType → List Operand → Bool → Option (List Operand)
taken t (o ∷ os) unreachable = if fits t o then Some os else None
taken t [] true = Some []
taken t [] false = None

abbrev pub and_taken : Option (List Operand) → (List Operand → Option (List Operand)) → Option (List Operand)
and_taken None go = None
and_taken (Some os) go = go os

-- the operands without those of these types, the first of which lies deepest
abbrev pub all_taken : List ValType → List Operand → Bool → Option (List Operand)
all_taken [] os unreachable = Some os
all_taken (t ∷ ts) os unreachable = and_taken (all_taken ts os unreachable) (λ rest. taken t rest unreachable)

-- an operand of each of these types, the first of which lies deepest, on these
abbrev pub put_on : List ValType → List Operand → List Operand
put_on [] os = os
put_on (t ∷ ts) os = put_on ts (Known t ∷ os)

abbrev pub with_operands : Option (List Operand) → (List Operand → Checked) → Checked
with_operands None go = Refused wrong_type
with_operands (Some os) go = go os

-- an instruction that takes operands and puts others in their place (3.3.1)
abbrev pub replaces : List ValType → List ValType → List Operand → Control → List Control → Checked
replaces takes puts os c outer =
    with_operands (all_taken takes os c.unreachable) (λ rest. Goes (put_on puts rest) c outer)

-- the results of a sequence stand at its end, and nothing else
abbrev pub at_end : Control → List Operand → Checked → Checked
at_end c os go = with_operands (all_taken c.results os c.unreachable) nothing_left
  where
    nothing_left : List Operand → Checked
    nothing_left [] = go
    nothing_left (o ∷ os) = Refused wrong_type

-- behind the end of a sequence its results stand on what was below it
abbrev pub closed : Control → List Control → Checked
closed c [] = Closes
closed c (o ∷ outer) = Goes (put_on c.results c.below) o outer

-- what an `if` began ends without an `else`, so that it has no result
abbrev pub closed_if : List ValType → Control → List Control → Checked
closed_if [] c outer = closed c outer
closed_if (t ∷ ts) c outer = Refused wrong_type

abbrev pub closed_at_end : Control → List Control → Checked
closed_at_end c outer = if c.is_if then closed_if c.results c outer else closed c outer

-- the other code of an `if` begins
abbrev pub turned : Control → List Control → Checked
turned c outer = if c.is_if then Goes [] (record c { unreachable = false; is_if = false }) outer else Refused wrong_type

-- the entry for the code behind an `if`, over these operands
abbrev pub if_control : Option ValType → List Operand → Control
if_control result below =
    record { results = option_to_list result; branch = option_to_list result; below = below; unreachable = false; is_if = true }

-- an instruction that writes a global, which has to be mutable
abbrev pub writes : GlobalDef → List Operand → Control → List Control → Checked
writes g os c outer = if g.mutable then replaces (g.ty ∷ []) [] os c outer else Refused wrong_type

abbrev pub with_index : {A : Type 0} → Option A → (A → Checked) → Checked
with_index None go = Refused no_index
with_index (Some x) go = go x

-- the entries for the code in a block and in a loop, over these operands: a branch to a block takes its result, and one to a
-- loop, which begins it anew, takes nothing
abbrev pub block_control : Option ValType → List Operand → Control
block_control result below =
    record { results = option_to_list result; branch = option_to_list result; below = below; unreachable = false; is_if = false }

abbrev pub loop_control : Option ValType → List Operand → Control
loop_control result below =
    record { results = option_to_list result; branch = []; below = below; unreachable = false; is_if = false }

-- an instruction that takes these operands, and never goes on to what stands behind it: there any operands are found
abbrev pub never_goes_on : List ValType → List Operand → Control → List Control → Checked
never_goes_on takes os c outer =
    with_operands (all_taken takes os c.unreachable) (λ rest. Goes [] (record c { unreachable = true }) outer)

abbrev pub same_types : List ValType → List ValType → Bool
same_types [] [] = true
same_types (t ∷ ts) (u ∷ us) = same_type t u && same_types ts us
same_types [] (u ∷ us) = false
same_types (t ∷ ts) [] = false

-- the entry with this number is there, and a branch to it takes these types
abbrev pub branches_so : List ValType → Option Control → Bool
branches_so ts None = false
branches_so ts (Some d) = same_types ts d.branch

-- a branch by a table, whose labels are all there and take the types of the default (3.3.5.8)
abbrev pub branches_by : List ℕ → Control → List Operand → Control → List Control → Checked
branches_by labels d os c outer =
    if list_all (λ l. is_some (slice_get (c ∷ outer) l)) labels
    then (if list_all (λ l. branches_so d.branch (slice_get (c ∷ outer) l)) labels
    then never_goes_on (d.branch ++ I32 ∷ []) os c outer else Refused wrong_type)
    else Refused no_index

-- the operands without the first, of any type
abbrev pub one_taken : List Operand → Bool → Option (Operand × List Operand)
one_taken (o ∷ os) unreachable = Some (o, os)
one_taken [] true = Some (Unknown, [])
one_taken [] false = None

abbrev pub with_one : Option (Operand × List Operand) → (Operand → List Operand → Checked) → Checked
with_one None go = Refused wrong_type
with_one (Some p) go = go p.0 p.1

-- the one type that two operands have
abbrev pub joined : Operand → Operand → Option Operand
joined Unknown o = Some o
joined (Known t) Unknown = Some (Known t)
joined (Known t) (Known u) = if same_type t u then Some (Known t) else None

abbrev pub chosen_one : Option Operand → List Operand → Control → List Control → Checked
chosen_one None os c outer = Refused wrong_type
chosen_one (Some o) os c outer = Goes (o ∷ os) c outer

-- an i32 chooses one of two operands of one type (3.3.2.2)
abbrev pub selects : List Operand → Control → List Control → Checked
selects os c outer =
    with_operands (all_taken (I32 ∷ []) os c.unreachable)
    (λ rest. with_one (one_taken rest c.unreachable) (λ o more. with_one (one_taken more c.unreachable) (λ p below. chosen_one (joined o p) below c outer)))

-- an instruction that reads or writes the memory, at an alignment of at most the natural one (3.3.4)
abbrev pub aligned : Width → MemoryArgument → Checked → Checked
aligned w at go = if nat_le at.align (natural_alignment w) then go else Refused wrong_alignment

abbrev pub accesses : Context → Width → MemoryArgument → List ValType → List ValType → List Operand → Control → List Control → Checked
accesses x w at takes puts os c outer =
    with_index (slice_get x.module_.memories 0) (λ memory. with_operands (all_taken takes os c.unreachable) (λ rest. aligned w at (Goes (put_on puts rest) c outer)))

-- the types of a conversion
abbrev pub converts_from : Conversion → ValType
converts_from Wrap = I64
converts_from ExtendS = I32
converts_from ExtendU = I32

abbrev pub converts_to : Conversion → ValType
converts_to Wrap = I32
converts_to ExtendS = I64
converts_to ExtendU = I64

-- one instruction (3.3)
abbrev pub check_instr : Context → Instr → List Operand → Control → List Control → Checked
check_instr x instr.Unreachable os c outer = Goes [] (record c { unreachable = true }) outer
check_instr x instr.Nop os c outer = Goes os c outer
check_instr x (instr.Block result) os c outer = Goes [] (block_control result os) (c ∷ outer)
check_instr x (instr.Loop result) os c outer = Goes [] (loop_control result os) (c ∷ outer)
check_instr x (instr.If result) os c outer =
    with_operands (all_taken (I32 ∷ []) os c.unreachable) (λ rest. Goes [] (if_control result rest) (c ∷ outer))
check_instr x instr.Else os c outer = at_end c os (turned c outer)
check_instr x instr.End os c outer = at_end c os (closed_at_end c outer)
check_instr x (instr.Br l) os c outer =
    with_index (slice_get (c ∷ outer) l) (λ (d : Control). never_goes_on d.branch os c outer)
check_instr x (instr.BrIf l) os c outer =
    with_index (slice_get (c ∷ outer) l) (λ (d : Control). replaces (d.branch ++ I32 ∷ []) d.branch os c outer)
check_instr x (instr.BrTable default labels) os c outer =
    with_index (slice_get (c ∷ outer) default) (λ d. branches_by labels d os c outer)
check_instr x instr.Return os c outer = never_goes_on x.returns os c outer
check_instr x (instr.Call f) os c outer =
    with_index (func_type x.module_ f) (λ (t : FuncType). replaces t.params (option_to_list t.result) os c outer)
check_instr x (instr.CallIndirect k) os c outer =
    with_index (slice_get x.module_.tables 0)
    (λ table. with_index (slice_get x.module_.types k) (λ (t : FuncType). replaces (t.params ++ I32 ∷ []) (option_to_list t.result) os c outer))
check_instr x instr.Drop os c outer = with_one (one_taken os c.unreachable) (λ o rest. Goes rest c outer)
check_instr x instr.Select os c outer = selects os c outer
check_instr x (instr.LocalGet n) os c outer = with_index (slice_get x.locals n) (λ t. replaces [] (t ∷ []) os c outer)
check_instr x (instr.LocalSet n) os c outer = with_index (slice_get x.locals n) (λ t. replaces (t ∷ []) [] os c outer)
check_instr x (instr.LocalTee n) os c outer = with_index (slice_get x.locals n) (λ t. replaces (t ∷ []) (t ∷ []) os c outer)
check_instr x (instr.GlobalGet n) os c outer =
    with_index (slice_get x.module_.globals n) (λ (g : GlobalDef). replaces [] (g.ty ∷ []) os c outer)
check_instr x (instr.GlobalSet n) os c outer = with_index (slice_get x.module_.globals n) (λ g. writes g os c outer)
check_instr x (instr.Load kind at) os c outer =
    accesses x (load_width kind) at (I32 ∷ []) (load_type kind ∷ []) os c outer
check_instr x (instr.Store kind at) os c outer =
    accesses x (store_width kind) at (I32 ∷ store_type kind ∷ []) [] os c outer
check_instr x instr.MemorySize os c outer =
    with_index (slice_get x.module_.memories 0) (λ memory. replaces [] (I32 ∷ []) os c outer)
check_instr x instr.MemoryGrow os c outer =
    with_index (slice_get x.module_.memories 0) (λ memory. replaces (I32 ∷ []) (I32 ∷ []) os c outer)
check_instr x (instr.I32Const z) os c outer = replaces [] (I32 ∷ []) os c outer
check_instr x (instr.I64Const z) os c outer = replaces [] (I64 ∷ []) os c outer
check_instr x (instr.IsZero t) os c outer = replaces (t ∷ []) (I32 ∷ []) os c outer
check_instr x (instr.Compare t comparison) os c outer = replaces (t ∷ t ∷ []) (I32 ∷ []) os c outer
check_instr x (instr.Unary t operator) os c outer = replaces (t ∷ []) (t ∷ []) os c outer
check_instr x (instr.Binary t operator) os c outer = replaces (t ∷ t ∷ []) (t ∷ []) os c outer
check_instr x (instr.Convert conversion) os c outer =
    replaces (converts_from conversion ∷ []) (converts_to conversion ∷ []) os c outer

-- how a sequence may be refused: the number of an instruction, and why
pub record Place : Type 0 where
  pub at : ℕ
  pub code : ℕ

-- nothing stands behind the end
abbrev pub nothing_behind : ℕ → List Instr → Option Place
nothing_behind at [] = None
nothing_behind at (i ∷ is) = Some (record { at = at; code = wrong_type })

-- what comes of an instruction with this number, before these: the check goes on with the stacks behind it
abbrev pub after_instr : Checked → ℕ → List Instr → (List Operand → Control → List Control → Option Place) → Option Place
after_instr (Goes os c outer) at is go = go os c outer
after_instr Closes at is go = nothing_behind (suc at) is
after_instr (Refused code) at is go = Some (record { at = at; code = code })

-- The first instruction that is refused, of a sequence that begins with this number and these stacks; the place
-- behind the last where the sequence stops before its end.
abbrev pub check_code : Context → ℕ → List Instr → List Operand → Control → List Control → Option Place
check_code x at [] os c outer = Some (record { at = at; code = wrong_type })
check_code x at (i ∷ is) os c outer = after_instr (check_instr x i os c outer) at is (check_code x (suc at) is)

-- the control stack's first entry, for code with these results
abbrev pub body_control : List ValType → Control
body_control results = record { results = results; branch = results; below = []; unreachable = false; is_if = false }
