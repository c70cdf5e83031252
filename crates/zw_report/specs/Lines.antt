-- The lines that tell of a session: what each call was given, what it asked of the host, and how it ended. A line is words with
-- one blank between them, and ends with LF. This project's own.
use Rattle.std.specs.Prelude.{ℕ, ◌-◌, ◌≤◌, Bool, not, ◌&&◌, nat_eq, nat_le, List, [], ◌∷◌, ◌++◌, map, codes, Option, Some, None, if◌then◌else◌, slice_index_or}
use Rattle.std.specs.Borrow.{Bor}
use Rattle.std.specs.Fmt.{decimal, signed_decimal}
use Rattle.std.specs.List.{flat_map, list_all}
use Rattle.hex.specs.Hex.{encode_lower}
use Rattle.zw_report.specs.declared.arg.Arg.{Arg}
use Rattle.zw_report.specs.declared.arg.Arg.TheVariants.{Number, Truth}
use Rattle.zw_report.specs.declared.end.End.{End}
use Rattle.zw_report.specs.declared.end.End.TheVariants.{Result, Panic, WantsReply, StepsOut, Trap}
use Rattle.zw_report.specs.declared.item.ItemTy.{ItemTy}
use Rattle.zw_report.specs.declared.item.ItemTy.TheVariants.{Int, Bool as Logical, Bytes, Void}
use Rattle.zw_report.specs.declared.panics.TheConstants.{CAUSE_NAMES}
use Rattle.zw_wasm.specs.Signature.{signed_value}
use Rattle.zw_wasm.specs.Structure.{bits_of}
use Rattle.zw_wasm.specs.declared.num.Num.{Num}
use Rattle.zw_wasm_run.specs.declared.event.Event.{Event}

-- all bytes are visible ASCII
abbrev pub is_plain : List ℕ → Bool
is_plain name = list_all (λ byte. nat_le 0x21 byte && nat_le byte 0x7e) name

-- a name as it is printed: as it is, or in lower case hexadecimal
abbrev pub shown : List ℕ → List ℕ
shown name = if is_plain name then name else codes "hex:" ++ encode_lower name

-- bytes that a host call shows, and those of a message
abbrev pub bytes_text : List ℕ → List ℕ
bytes_text bytes = codes "hex:" ++ encode_lower bytes

abbrev pub truth_text : Bool → List ℕ
truth_text truth = if truth then codes "true" else codes "false"

-- the value of an argument's word
abbrev pub argument_text : Arg → List ℕ
argument_text (Number number) = signed_decimal number
argument_text (Truth truth) = truth_text truth

-- the whole i32 or i64, read with a sign or without
abbrev pub number_text : Bool → Num → List ℕ
number_text signed number = if signed then signed_decimal (signed_value number) else decimal (bits_of number)

-- a number by its type: a truth value is `false` exactly where its number is 0
abbrev pub value_text : ItemTy → Num → List ℕ
value_text (Int signed bits) number = number_text signed number
value_text Logical number = truth_text (not (nat_eq (bits_of number) 0))
value_text Bytes number = []
value_text Void number = []

-- a word behind another one
abbrev pub word : List ℕ → List ℕ
word text = codes " " ++ text

-- what a line begins with: its first word, and a name
abbrev pub begin : List ℕ → List ℕ → List ℕ
begin first name = first ++ word (shown name)

abbrev pub argument : Arg → List ℕ
argument arg = word (argument_text arg)

-- `call NAME ARG..`
abbrev pub call_line : List ℕ → List Arg → List ℕ
call_line name args = begin (codes "call") name ++ flat_map argument args ++ codes "\n"

-- Types in the order of the parameters are those of the numbers and of the bytes of a host call: an integer or `Bool` for each
-- number, and `Bytes` for each text.
abbrev pub AreTypesOf : List ItemTy → List Num → List (List ℕ) → Type 0
AreTypesOf [] [] [] = Unit {0}
AreTypesOf (Bytes ∷ tys) numbers (text ∷ texts) = AreTypesOf tys numbers texts
AreTypesOf (Int signed bits ∷ tys) (number ∷ numbers) texts = AreTypesOf tys numbers texts
AreTypesOf (Logical ∷ tys) (number ∷ numbers) texts = AreTypesOf tys numbers texts
AreTypesOf tys numbers texts = ⊥

-- the items of a host call by these types: `Bytes` has the next text, and any other type the next number. They end where there is
-- none, which `AreTypesOf` rules out.
abbrev pub items : List ItemTy → List Num → List (List ℕ) → List ℕ
items [] numbers texts = []
items (Bytes ∷ tys) numbers [] = []
items (Bytes ∷ tys) numbers (text ∷ texts) = word (bytes_text text) ++ items tys numbers texts
items (ty ∷ tys) [] texts = []
items (ty ∷ tys) (number ∷ numbers) texts = word (value_text ty number) ++ items tys numbers texts

-- `host NAME ITEM..`
abbrev pub event_line : List ℕ → List ItemTy → Event → List ℕ
event_line name tys event = begin (codes "host") name ++ items tys event.args event.shown ++ codes "\n"

-- `result V`
abbrev pub result_line : ItemTy → Option Num → List ℕ
result_line ty None = codes "result void\n"
result_line ty (Some number) = codes "result" ++ word (value_text ty number) ++ codes "\n"

-- the name of this number in a table, from number 1 on
abbrev pub name_at : List (Bor (List ℕ)) → ℕ → List ℕ
name_at table number = slice_index_or (map (λ name. name.now) table) (number - 1) []

-- the name of a panic's cause
abbrev pub cause_name : ℕ → List ℕ
cause_name cause = slice_index_or (map (λ name. name.now) CAUSE_NAMES) (cause - 1) []

-- `panic N Cause`, and the message behind it where the cause is 18
abbrev pub panic_line : ℕ → List ℕ → List ℕ
panic_line cause message =
    codes "panic" ++ word (decimal cause) ++ word (cause_name cause)
    ++ (if nat_eq cause 18 then word (bytes_text message) else []) ++ codes "\n"

abbrev pub end_line : End → List ℕ
end_line (Result ty number) = result_line ty number
end_line (Panic cause message) = panic_line cause message
end_line WantsReply = codes "wants reply\n"
end_line StepsOut = codes "steps ran out\n"
end_line Trap = codes "trap\n"

-- an end that has a line: a cause is one of those above, and a result has a number where its type has one
abbrev pub HasLine : End → Type 0
HasLine (Result Void None) = Unit {0}
HasLine (Result (Int signed bits) (Some number)) = Unit {0}
HasLine (Result Logical (Some number)) = Unit {0}
HasLine (Result ty number) = ⊥
HasLine (Panic cause message) = (1 ≤ cause) × (cause ≤ 19)
HasLine WantsReply = Unit {0}
HasLine StepsOut = Unit {0}
HasLine Trap = Unit {0}

-- the message of a panic, which the line of cause 18 shows
abbrev pub message_of : End → List ℕ
message_of (Result ty number) = []
message_of (Panic cause message) = message
message_of WantsReply = []
message_of StepsOut = []
message_of Trap = []
