-- Reduction: what a module's code does, one instruction at a time (WebAssembly Core Specification 1.0, chapter 4). A
-- configuration holds the place in the code as labels and frames round it, so that a step looks at no more than what
-- stands next.
use Rattle.std.specs.Prelude.{ℕ, zero, suc, ◌+◌, ◌-◌, ◌*◌, ◌/◌, ◌^◌, min, Bool, true, false, ◌&&◌, ◌||◌, nat_eq, nat_le, nat_lt, List, [], ◌∷◌, ◌++◌, length, take, drop, reverse, replicate, Option, Some, None, slice_get, slice_set, if◌then◌else◌}
use Rattle.std.specs.Int.{w32, w64, byte_len}
use Rattle.std.specs.Option.{option_to_list}
use Rattle.zw_session.specs.Sessions.{HostEvent}
use Rattle.zw_wasm.specs.declared.module.CodeBody.{CodeBody}
use Rattle.zw_wasm.specs.declared.module.FuncImport.{FuncImport}
use Rattle.zw_wasm.specs.declared.module.FuncType.{FuncType}
use Rattle.zw_wasm.specs.declared.module.Instr.{Instr}
use Rattle.zw_wasm.specs.declared.module.Instr.TheVariants as instr
use Rattle.zw_wasm.specs.declared.module.BinaryOperator.{BinaryOperator}
use Rattle.zw_wasm.specs.declared.module.Comparison.{Comparison}
use Rattle.zw_wasm.specs.declared.module.Conversion.{Conversion}
use Rattle.zw_wasm.specs.declared.module.Conversion.TheVariants.{Wrap, ExtendS, ExtendU}
use Rattle.zw_wasm.specs.declared.module.Limits.{Limits}
use Rattle.zw_wasm.specs.declared.module.LoadKind.{LoadKind}
use Rattle.zw_wasm.specs.declared.module.StoreKind.{StoreKind}
use Rattle.zw_wasm.specs.declared.module.UnaryOperator.{UnaryOperator}
use Rattle.zw_wasm.specs.declared.module.Module.{Module}
use Rattle.zw_wasm.specs.declared.module.ValType.{ValType}
use Rattle.zw_wasm.specs.declared.module.ValType.TheVariants as ty
use Rattle.zw_wasm.specs.Accesses.{bits_loaded, bytes_stored, load_type, load_width, store_type}
use Rattle.zw_wasm.specs.Functions.{func_type}
use Rattle.zw_wasm.specs.Numerics.{Answer, Gives, DividesByZero, Overflows, binary_of, bit_of, extend_s, is_related, unary_of, wrap}
use Rattle.zw_wasm.specs.Signature.{View, bytes_at, shown_scalars, shown_ranges}
use Rattle.zw_wasm.specs.Structure.{Num, I32, I64, Code, Ends, Plain, Choice, Block, Repeat, code_of, long_of, num_of, number, width_of, word_of, zeros}
use Rattle.zw_wasm.specs.Typing.{converts_from, same_types}

-- What all frames share (4.2.3): the values of the globals, the bytes of the memory, and the table's functions, of
-- which some may not be set.
pub record Store : Type 0 where
  pub globals : List Num
  pub memory : List ℕ
  pub table : List (Option ℕ)

-- A label (4.2.12): how many operands a branch to it takes and the code that it goes on with; the code that follows its
-- end, and the operands below it.
pub record Label : Type 0 where
  pub arity : ℕ
  pub branch : Code
  pub follows : Code
  pub below : List Num

-- A frame (4.2.12): its function's number, how many results it returns, its parameters and locals, the operands in its
-- innermost label, the last first, the code that is left there, and its labels, the innermost first.
pub record Frame : Type 0 where
  pub func : ℕ
  pub arity : ℕ
  pub locals : List Num
  pub operands : List Num
  pub code : Code
  pub labels : List Label

-- What outlasts the frames: the store, the replies of the host that are left, and the host calls so far.
pub record World : Type 0 where
  pub store : Store
  pub replies : List ℕ
  pub events : List HostEvent

-- a configuration (4.2.13): the frame that runs, those below it, and the world
pub record Config : Type 0 where
  pub frame : Frame
  pub below : List Frame
  pub world : World

-- the causes of traps; 0 stands where no rule applies, which valid code never meets
abbrev pub no_rule : ℕ
no_rule = 0

abbrev pub unreachable_trap : ℕ
unreachable_trap = 1

abbrev pub bounds_trap : ℕ
bounds_trap = 2

abbrev pub zero_divisor_trap : ℕ
zero_divisor_trap = 3

abbrev pub overflow_trap : ℕ
overflow_trap = 4

abbrev pub no_entry_trap : ℕ
no_entry_trap = 5

abbrev pub signature_trap : ℕ
signature_trap = 6

abbrev pub frames_trap : ℕ
frames_trap = 7

-- how many frames may be active
abbrev pub max_frames : ℕ
max_frames = 2100

-- how many bytes a page of memory has (4.2.8), and how many pages no memory grows past
abbrev pub page_size : ℕ
page_size = 65536

abbrev pub most_pages : ℕ
most_pages = 16384

-- what is executed in one step: an instruction, the choice that an `if` makes of two sequences, or the beginning of the code
-- of a block or a loop
pub data Work : Type 0 where
  Single : (instr : Instr) → Work
  Chooses : (result : Option ValType) (then_code else_code : Code) → Work
  Begins : (result : Option ValType) (body : Code) → Work
  BeginsLoop : (result : Option ValType) (body : Code) → Work

-- what stands next in a frame, behind the ends of labels: some work, in the frame behind it; or the frame's end
pub data Stands : Type 0 where
  Does : (work : Work) (frame : Frame) → Stands
  Returns : (results : List Num) → Stands

-- the frame with these operands, code and labels
abbrev pub at_work : Frame → List Num → Code → List Label → Frame
at_work f os code ls = record f { operands = os; code = code; labels = ls }

-- An end takes no step (4.4.6.2, 4.4.7.2).
abbrev pub stands_next : Frame → Code → List Num → List Label → Stands
stands_next f (Plain i rest) os ls = Does (Single i) (at_work f os rest ls)
stands_next f (Choice result a b rest) os ls = Does (Chooses result a b) (at_work f os rest ls)
stands_next f (Block result body rest) os ls = Does (Begins result body) (at_work f os rest ls)
stands_next f (Repeat result body rest) os ls = Does (BeginsLoop result body) (at_work f os rest ls)
stands_next f Ends os (l ∷ ls) = stands_next f l.follows (os ++ l.below) ls
stands_next f Ends os [] = Returns os

abbrev pub stands_in : Frame → Stands
stands_in f = stands_next f f.code f.operands f.labels

-- what comes next: some work, in the frame behind it over those below; or the end of the outermost frame
pub data Fetched : Type 0 where
  Found : (work : Work) (frame : Frame) (below : List Frame) → Fetched
  Over : (results : List Num) → Fetched

-- the results of a frame are operands of the one below
abbrev pub fetched : Stands → List Frame → Fetched
fetched (Does work f) below = Found work f below
fetched (Returns os) [] = Over os
fetched (Returns os) (f ∷ below) = fetched (stands_in (record f { operands = os ++ f.operands })) below

-- what an instruction does: the next configuration, a call of an imported function with the configuration that waits
-- for its result, or a trap
pub data Action : Type 0 where
  Goes : (next : Config) → Action
  CallsHost : (import : ℕ) (args : List Num) (next : Config) → Action
  Traps : (code : ℕ) → Action

-- the configuration with this operand more
abbrev pub pushed : Num → Config → Config
pushed v c = record c { frame = record c.frame { operands = v ∷ c.frame.operands } }

abbrev pub with_operand : Option Num → Config → Action
with_operand None c = Traps no_rule
with_operand (Some v) c = Goes (pushed v c)

-- the configuration with these operands
abbrev pub with_operands : List Num → Config → Config
with_operands os c = record c { frame = record c.frame { operands = os } }

-- the configuration without its last operand, which goes on
abbrev pub on_operand : (Num → Config → Action) → List Num → Config → Action
on_operand go [] c = Traps no_rule
on_operand go (v ∷ os) c = go v (with_operands os c)

-- the configuration in which the local, or the global, with this number has this value (4.4.3)
abbrev pub with_local : ℕ → Num → Config → Action
with_local n v c =
    if nat_lt n (length c.frame.locals) then Goes (record c { frame = record c.frame { locals = slice_set c.frame.locals n v } })
    else Traps no_rule

abbrev pub with_global : ℕ → Num → Config → Action
with_global n v c =
    if nat_lt n (length c.world.store.globals)
    then Goes (record c { world = record c.world { store = record c.world.store { globals = slice_set c.world.store.globals n v } } })
    else Traps no_rule

-- the same where the value stays (4.4.3.3)
abbrev pub with_local_too : ℕ → Num → Config → Action
with_local_too n v c = with_local n v (pushed v c)

-- ---- numbers (4.4.1)

-- what comes of an operator's answer: a number of this type
abbrev pub answered : ValType → Answer → Config → Action
answered t (Gives n) c = Goes (pushed (number t n) c)
answered t DividesByZero c = Traps zero_divisor_trap
answered t Overflows c = Traps overflow_trap

-- on the bits of the last operand, or of the last two, which are of this type
abbrev pub on_one : ValType → (ℕ → Config → Action) → List Num → Config → Action
on_one ty.I32 go (I32 x ∷ os) c = go x (with_operands os c)
on_one ty.I64 go (I64 x ∷ os) c = go x (with_operands os c)
on_one t go _ c = Traps no_rule

abbrev pub on_two : ValType → (ℕ → ℕ → Config → Action) → List Num → Config → Action
on_two ty.I32 go (I32 y ∷ I32 x ∷ os) c = go x y (with_operands os c)
on_two ty.I64 go (I64 y ∷ I64 x ∷ os) c = go x y (with_operands os c)
on_two t go _ c = Traps no_rule

abbrev pub tested : ℕ → Config → Action
tested x c = Goes (pushed (I32 (bit_of (nat_eq x 0))) c)

abbrev pub compared : ValType → Comparison → ℕ → ℕ → Config → Action
compared t comparison x y c = Goes (pushed (I32 (bit_of (is_related comparison (width_of t) x y))) c)

abbrev pub computed : ValType → UnaryOperator → ℕ → Config → Action
computed t operator x c = Goes (pushed (number t (unary_of operator (width_of t) x)) c)

abbrev pub operated : ValType → BinaryOperator → ℕ → ℕ → Config → Action
operated t operator x y c = answered t (binary_of operator (width_of t) x y) c

abbrev pub conversion_of : Conversion → ℕ → Num
conversion_of Wrap x = I32 (wrap w32 x)
conversion_of ExtendS x = I64 (extend_s w32 w64 x)
conversion_of ExtendU x = I64 x

abbrev pub converted : Conversion → ℕ → Config → Action
converted conversion x c = Goes (pushed (conversion_of conversion x) c)

-- ---- single operands (4.4.2)

abbrev pub dropped : Num → Config → Action
dropped v c = Goes c

-- the first of two operands where the i32 behind them isn't 0, else the second (4.4.2.2)
abbrev pub selected : List Num → Config → Action
selected (I32 n ∷ y ∷ x ∷ os) c = Goes (with_operands ((if nat_eq n 0 then y else x) ∷ os) c)
selected _ c = Traps no_rule

-- ---- memory (4.4.4)

-- the list with these items from this place on
abbrev pub overwritten : {A : Type 0} → List A → ℕ → List A → List A
overwritten xs at ys = take at xs ++ ys ++ drop (at + length ys) xs

abbrev pub with_memory : List ℕ → Config → Config
with_memory memory c = record c { world = record c.world { store = record c.world.store { memory = memory } } }

-- bytes that were read, unless some lie outside the memory
abbrev pub loaded : LoadKind → Option (List ℕ) → Config → Action
loaded kind None c = Traps bounds_trap
loaded kind (Some bytes) c = Goes (pushed (number (load_type kind) (bits_loaded kind bytes)) c)

abbrev pub loads : LoadKind → ℕ → ℕ → Config → Action
loads kind offset x c =
    loaded kind (bytes_at c.world.store.memory (x + offset) (byte_len (load_width kind))) c

abbrev pub stored : ℕ → List ℕ → ℕ → Config → Action
stored offset bytes x c =
    if nat_le (x + offset + length bytes) (length c.world.store.memory)
    then Goes (with_memory (overwritten c.world.store.memory (x + offset) bytes) c) else Traps bounds_trap

-- the value is the last operand, and the address stands below it
abbrev pub stores : StoreKind → ℕ → ℕ → Config → Action
stores kind offset value c = on_one ty.I32 (stored offset (bytes_stored kind value)) c.frame.operands c

-- how many pages there are, and how many there may be
abbrev pub page_count : List ℕ → ℕ
page_count memory = length memory / page_size

abbrev pub greatest_size : Option ℕ → ℕ
greatest_size None = most_pages
greatest_size (Some greatest) = min greatest most_pages

abbrev pub greatest_pages : List Limits → ℕ
greatest_pages [] = 0
greatest_pages (l ∷ ls) = greatest_size l.greatest

-- The size before, where the memory may have so many pages more, and else -1 (4.4.4.4). The new bytes are 0.
abbrev pub grown : Bool → ℕ → Config → Action
grown true n c =
    Goes (with_memory (c.world.store.memory ++ replicate (n * page_size) 0) (pushed (I32 (page_count c.world.store.memory)) c))
grown false n c = Goes (pushed (I32 (2 ^ 32 - 1)) c)

abbrev pub grows : Module → ℕ → Config → Action
grows m n c =
    grown (nat_eq n 0 || nat_le (page_count c.world.store.memory + n) (greatest_pages m.memories)) n c

-- ---- branches (4.4.5)

-- A branch takes as many operands as its label wants, and leaves the labels that stand within that one (4.4.5.6).
abbrev pub jumped : Label → ℕ → Config → Action
jumped l n c =
    if nat_le l.arity (length c.frame.operands)
    then Goes (record c { frame = at_work c.frame (take l.arity c.frame.operands ++ l.below) l.branch (drop (suc n) c.frame.labels) })
    else Traps no_rule

-- A return takes as many operands as the frame has results, and leaves all of its labels (4.4.5.9).
abbrev pub returned : Config → Action
returned c =
    if nat_le c.frame.arity (length c.frame.operands)
    then Goes (record c { frame = at_work c.frame (take c.frame.arity c.frame.operands) Ends [] }) else Traps no_rule

-- the outermost label is that of the body, a branch to which returns
abbrev pub branched_to : Option Label → ℕ → Config → Action
branched_to (Some l) n c = jumped l n c
branched_to None n c = if nat_eq n (length c.frame.labels) then returned c else Traps no_rule

abbrev pub branched : ℕ → Config → Action
branched n c = branched_to (slice_get c.frame.labels n) n c

abbrev pub branched_unless_zero : ℕ → ℕ → Config → Action
branched_unless_zero n x c = if nat_eq x 0 then Goes c else branched n c

abbrev pub label_or : ℕ → Option ℕ → ℕ
label_or default None = default
label_or default (Some n) = n

abbrev pub branched_by : List ℕ → ℕ → ℕ → Config → Action
branched_by labels default x c = branched (label_or default (slice_get labels x)) c

-- ---- calls

abbrev pub result_of : Option FuncType → Option ValType
result_of None = None
result_of (Some t) = t.result

-- how many results a function has
abbrev pub arity_of : Option FuncType → ℕ
arity_of t = length (option_to_list (result_of t))

-- a function's body, by the number among those that have one, with so many results
abbrev pub entered : Option CodeBody → ℕ → ℕ → List Num → Config → Action
entered None f arity args c = Traps no_rule
entered (Some b) f arity args c =
    Goes (record c {
      frame = record { func = f; arity = arity; locals = args ++ zeros b.locals; operands = []; code = code_of b.instrs; labels = [] };
      below = c.frame ∷ c.below;
    })

-- A call of a function with these arguments, the last of which is the last parameter's (4.4.7.1). The lowest frame is the host's.
abbrev pub enter : Module → ℕ → List Num → Config → Action
enter m f args c =
    if nat_lt f (length m.imports) then CallsHost f args c
    else (if nat_le max_frames (length c.below) then Traps frames_trap
    else entered (slice_get m.codes (f - length m.imports)) f (arity_of (func_type m f)) args c)

-- a call of a function with this type takes its arguments from the operands, the last first (4.4.5.10, 4.4.7.1)
abbrev pub called : Module → ℕ → Option FuncType → Config → Action
called m f None c = Traps no_rule
called m f (Some t) c =
    if nat_le (length t.params) (length c.frame.operands)
    then enter m f (reverse (take (length t.params) c.frame.operands)) (with_operands (drop (length t.params) c.frame.operands) c)
    else Traps no_rule

abbrev pub same_func_type : Option FuncType → Option FuncType → Bool
same_func_type (Some t) (Some u) = same_types t.params u.params && same_types (option_to_list t.result) (option_to_list u.result)
same_func_type _ _ = false

-- The function at a place of the table, which has to be there and to have this type (4.4.5.11).
abbrev pub called_by : Module → Option FuncType → Option (Option ℕ) → Config → Action
called_by m t (Some (Some f)) c = if same_func_type t (func_type m f) then called m f (func_type m f) c else Traps signature_trap
called_by m t _ c = Traps no_entry_trap

abbrev pub called_at : Module → ℕ → ℕ → Config → Action
called_at m k x c = called_by m (slice_get m.types k) (slice_get c.world.store.table x) c

-- one instruction, in the configuration behind it (4.4)
abbrev pub act : Module → Instr → Config → Action
act m instr.Unreachable c = Traps unreachable_trap
act m instr.Nop c = Goes c
act m (instr.Block result) c = Traps no_rule
act m (instr.Loop result) c = Traps no_rule
act m (instr.If result) c = Traps no_rule
act m instr.Else c = Traps no_rule
act m instr.End c = Traps no_rule
act m (instr.Br n) c = branched n c
act m (instr.BrIf n) c = on_one ty.I32 (branched_unless_zero n) c.frame.operands c
act m (instr.BrTable default labels) c = on_one ty.I32 (branched_by labels default) c.frame.operands c
act m instr.Return c = returned c
act m (instr.Call f) c = called m f (func_type m f) c
act m (instr.CallIndirect k) c = on_one ty.I32 (called_at m k) c.frame.operands c
act m instr.Drop c = on_operand dropped c.frame.operands c
act m instr.Select c = selected c.frame.operands c
act m (instr.LocalGet n) c = with_operand (slice_get c.frame.locals n) c
act m (instr.LocalSet n) c = on_operand (with_local n) c.frame.operands c
act m (instr.LocalTee n) c = on_operand (with_local_too n) c.frame.operands c
act m (instr.GlobalGet n) c = with_operand (slice_get c.world.store.globals n) c
act m (instr.GlobalSet n) c = on_operand (with_global n) c.frame.operands c
act m (instr.Load kind at) c = on_one ty.I32 (loads kind at.offset) c.frame.operands c
act m (instr.Store kind at) c = on_one (store_type kind) (stores kind at.offset) c.frame.operands c
act m instr.MemorySize c = Goes (pushed (I32 (page_count c.world.store.memory)) c)
act m instr.MemoryGrow c = on_one ty.I32 (grows m) c.frame.operands c
act m (instr.I32Const z) c = Goes (pushed (I32 (word_of z)) c)
act m (instr.I64Const z) c = Goes (pushed (I64 (long_of z)) c)
act m (instr.IsZero t) c = on_one t tested c.frame.operands c
act m (instr.Compare t comparison) c = on_two t (compared t comparison) c.frame.operands c
act m (instr.Unary t operator) c = on_one t (computed t operator) c.frame.operands c
act m (instr.Binary t operator) c = on_two t (operated t operator) c.frame.operands c
act m (instr.Convert conversion) c = on_one (converts_from conversion) (converted conversion) c.frame.operands c

-- Code under a label, to which a branch takes so many operands and goes on there (4.4.6.1). At its end it goes on with what
-- follows, over the operands that are there.
abbrev pub labelled : ℕ → Code → Code → Config → Config
labelled arity branch code c = record c {
  frame = at_work c.frame [] code (record { arity = arity; branch = branch; follows = c.frame.code; below = c.frame.operands } ∷ c.frame.labels);
}

-- the code of a block or an `if`, past which a branch goes (4.4.5.3, 4.4.5.5)
abbrev pub under_label : Option ValType → Code → Config → Config
under_label result code c = labelled (length (option_to_list result)) c.frame.code code c

-- the code of a loop, with which a branch begins anew (4.4.5.4)
abbrev pub under_loop : Option ValType → Code → Config → Config
under_loop result code c = labelled 0 (Repeat result code c.frame.code) code c

-- the first code where the operand isn't 0, else the second (4.4.5.5)
abbrev pub chosen : Option ValType → Code → Code → Num → Config → Action
chosen result a b (I32 n) c = if nat_eq n 0 then Goes (under_label result b c) else Goes (under_label result a c)
chosen result a b (I64 n) c = Traps no_rule

-- one step, in the configuration behind it
abbrev pub done : Module → Work → Config → Action
done m (Single i) c = act m i c
done m (Chooses result a b) c = on_operand (chosen result a b) c.frame.operands c
done m (Begins result body) c = Goes (under_label result body c)
done m (BeginsLoop result body) c = Goes (under_loop result body c)

-- why a run ends
pub data Stop : Type 0 where
  Finished : (results : List Num) → Stop
  Trap : (code : ℕ) → Stop
  NoReply : Stop

-- a step takes an instruction and goes on, or takes one and stops; or there is none to take
pub data Step : Type 0 where
  Next : (next : Config) → Step
  Stops : (stop : Stop) (world : World) → Step
  Rests : (results : List Num) → Step

abbrev pub with_world : World → Config → Config
with_world w c = record c { world = w }

-- the world after a host call
abbrev pub with_event : HostEvent → World → World
with_event e w = record w { events = w.events ++ e ∷ [] }

-- a reply is the result, modulo the width of its type
abbrev pub replied : Option ValType → List ℕ → Config → Step
replied None replies c = Next c
replied (Some t) [] c = Stops NoReply c.world
replied (Some t) (r ∷ rs) c = Next (pushed (num_of t r) (with_world (record c.world { replies = rs }) c))

abbrev pub field_of : Option FuncImport → List ℕ
field_of None = []
field_of (Some i) = i.field

-- a host call shows its event, unless bytes that it is to show lie outside the memory
abbrev pub host_called : Option (List (List ℕ)) → Module → View → ℕ → List Num → Config → Step
host_called None m v k args c = Stops (Trap bounds_trap) c.world
host_called (Some shown) m v k args c =
    replied (result_of (func_type m k)) c.world.replies
    (with_world (with_event (record { name = field_of (slice_get m.imports k); args = shown_scalars (v.import_params k) args; shown = shown }) c.world) c)

-- what comes of an action
abbrev pub resolved : Module → View → World → Action → Step
resolved m v w (Goes c) = Next c
resolved m v w (CallsHost k args c) =
    host_called (shown_ranges (v.import_params k) args c.world.store.memory) m v k args c
resolved m v w (Traps code) = Stops (Trap code) w

abbrev pub step_of : Module → View → World → Fetched → Step
step_of m v w (Found work f below) = resolved m v w (done m work (record { frame = f; below = below; world = w }))
step_of m v w (Over results) = Rests results

-- a step of a configuration, which it determines
abbrev pub step : Module → View → Config → Step
step m v c = step_of m v c.world (fetched (stands_in c.frame) c.below)

-- How a run for a bounded number of instructions comes out: they were taken, and it hasn't ended; or it ended with
-- this much of the bound left.
pub data Run : Type 0 where
  Going : (world : World) → Run
  Ended : (stop : Stop) (world : World) (left : ℕ) → Run

-- where the bound is used up
abbrev pub at_bound : Step → World → Run
at_bound (Next d) w = Going w
at_bound (Stops s d) w = Going w
at_bound (Rests results) w = Ended (Finished results) w 0

-- a step, behind which this much of the bound is left
abbrev pub after_step : Step → World → ℕ → (Config → Run) → Run
after_step (Next d) w left go = go d
after_step (Stops s d) w left go = Ended s d left
after_step (Rests results) w left go = Ended (Finished results) w (suc left)

-- at most n instructions
abbrev pub run : Module → View → ℕ → Config → Run
run m v zero c = at_bound (step m v c) c.world
run m v (suc n) c = after_step (step m v c) c.world n (run m v n)
