-- WorkedLines: lines of a session, worked out by hand.
use Rattle.std.specs.Prelude.{◌≡◌, ℕ, pos, negsuc, true, false, List, [], ◌∷◌, codes, None, Some}
use Rattle.zw_report.specs.declared.arg.Arg.TheVariants.{Number, Truth}
use Rattle.zw_report.specs.declared.end.End.TheVariants.{Result, Panic, WantsReply, StepsOut, Trap}
use Rattle.zw_report.specs.declared.item.ItemTy.{ItemTy}
use Rattle.zw_report.specs.declared.item.ItemTy.TheVariants.{Int, Bool as Logical, Bytes, Void}
use Rattle.zw_report.specs.Lines.{call_line, end_line, event_line, shown}
use Rattle.zw_wasm.specs.declared.num.Num.{Num}
use Rattle.zw_wasm.specs.declared.num.Num.TheVariants.{I32, I64}
use Rattle.zw_wasm_run.specs.declared.event.Event.{Event}

abbrev pub unsigned : ItemTy
unsigned = Int false 32

abbrev pub signed : ItemTy
signed = Int true 32

-- a host call of these numbers and these shown bytes
abbrev pub host_call : List Num → List (List ℕ) → Event
host_call numbers texts = record { import = 0; args = numbers; shown = texts }

pub record WorkedLines : Type 0 where
  -- calls
  pub numbers : call_line (codes "g") (Number (pos 2) ∷ Number (pos 3) ∷ []) ≡ codes "call g 2 3\n"
  pub negative : call_line (codes "f") (Number (negsuc 0) ∷ Number (pos 2) ∷ []) ≡ codes "call f -1 2\n"
  pub nothing : call_line (codes "f") [] ≡ codes "call f\n"
  pub truths : call_line (codes "both") (Truth true ∷ Truth false ∷ []) ≡ codes "call both true false\n"
  pub zero : call_line (codes "f") (Number (pos 0) ∷ []) ≡ codes "call f 0\n"
  pub above_signed : call_line (codes "f") (Number (pos 4294967295) ∷ []) ≡ codes "call f 4294967295\n"
  pub greatest : call_line (codes "f") (Number (pos 18446744073709551615) ∷ []) ≡ codes "call f 18446744073709551615\n"
  -- names: visible ASCII stays, also where it looks like hexadecimal; a blank, a byte above and no byte don't
  pub ends_of_plain : shown (codes "!~") ≡ codes "!~"
  pub looks_like_hex : shown (codes "hex:00") ≡ codes "hex:00"
  pub blank : shown (codes "a b") ≡ codes "hex:612062"
  pub above_plain : shown (0x7f ∷ []) ≡ codes "hex:7f"
  pub line_end : call_line (0x0a ∷ []) [] ≡ codes "call hex:0a\n"
  pub letters_are_small : shown (0xc3 ∷ 0x9f ∷ []) ≡ codes "hex:c39f"
  -- an import of another module than `env` is one name
  pub of_a_module : event_line (codes "sys.put") [] (host_call [] []) ≡ codes "host sys.put\n"
  pub whole_name : event_line (codes "my sys.put") [] (host_call [] []) ≡ codes "host hex:6d79207379732e707574\n"
  -- a name without bytes leaves two blanks
  pub no_name : event_line [] (unsigned ∷ []) (host_call (I32 2 ∷ []) []) ≡ codes "host  2\n"
  -- host calls
  pub number : event_line (codes "tick") (unsigned ∷ []) (host_call (I32 2 ∷ []) []) ≡ codes "host tick 2\n"
  pub no_sign : event_line (codes "tick") (unsigned ∷ []) (host_call (I32 4294967295 ∷ []) []) ≡ codes "host tick 4294967295\n"
  pub with_sign : event_line (codes "tick") (signed ∷ []) (host_call (I32 4294967295 ∷ []) []) ≡ codes "host tick -1\n"
  pub least : event_line (codes "tick") (signed ∷ []) (host_call (I32 2147483648 ∷ []) []) ≡ codes "host tick -2147483648\n"
  pub long : event_line (codes "tick") (Int true 64 ∷ Int false 64 ∷ []) (host_call (I64 18446744073709551615 ∷ I64 18446744073709551615 ∷ []) [])
      ≡ codes "host tick -1 18446744073709551615\n"
  -- the whole number is printed, also above its type
  pub above_the_type : event_line (codes "tick") (Int false 8 ∷ Int true 8 ∷ []) (host_call (I32 300 ∷ I32 300 ∷ []) []) ≡ codes "host tick 300 300\n"
  -- any number but 0 is true
  pub truth_values : event_line (codes "say") (Logical ∷ Logical ∷ Logical ∷ []) (host_call (I32 0 ∷ I32 1 ∷ I32 2 ∷ []) []) ≡ codes "host say false true true\n"
  -- bytes stand where their parameter does
  pub in_order : event_line (codes "log") (unsigned ∷ Bytes ∷ Logical ∷ Bytes ∷ []) (host_call (I32 7 ∷ I32 0 ∷ []) (codes "hi" ∷ [] ∷ []))
      ≡ codes "host log 7 hex:6869 false hex:\n"

pub record WorkedEnds : Type 0 where
  pub number : end_line (Result unsigned (Some (I32 1))) ≡ codes "result 1\n"
  pub with_sign : end_line (Result signed (Some (I32 4294967254))) ≡ codes "result -42\n"
  pub no_sign : end_line (Result unsigned (Some (I32 4294967254))) ≡ codes "result 4294967254\n"
  pub long : end_line (Result (Int true 64) (Some (I64 9223372036854775808))) ≡ codes "result -9223372036854775808\n"
  pub yes : end_line (Result Logical (Some (I32 1))) ≡ codes "result true\n"
  pub no : end_line (Result Logical (Some (I32 0))) ≡ codes "result false\n"
  pub nothing : end_line (Result Void None) ≡ codes "result void\n"
  pub wants_reply : end_line WantsReply ≡ codes "wants reply\n"
  pub steps_out : end_line StepsOut ≡ codes "steps ran out\n"
  pub trap : end_line Trap ≡ codes "trap\n"
  -- a message stands behind cause 18 alone, also an empty one
  pub message : end_line (Panic 18 (codes "no")) ≡ codes "panic 18 Message hex:6e6f\n"
  pub no_message : end_line (Panic 18 []) ≡ codes "panic 18 Message hex:\n"
  pub other_cause : end_line (Panic 6 (codes "no")) ≡ codes "panic 6 ReachedUnreachable\n"

pub record WorkedPanics : Type 0 where
  pub integer_overflow : end_line (Panic 1 []) ≡ codes "panic 1 IntegerOverflow\n"
  pub index_out_of_bounds : end_line (Panic 2 []) ≡ codes "panic 2 IndexOutOfBounds\n"
  pub slice_bounds : end_line (Panic 3 []) ≡ codes "panic 3 SliceBounds\n"
  pub null_unwrap : end_line (Panic 4 []) ≡ codes "panic 4 NullUnwrap\n"
  pub error_unwrap : end_line (Panic 5 []) ≡ codes "panic 5 ErrorUnwrap\n"
  pub reached_unreachable : end_line (Panic 6 []) ≡ codes "panic 6 ReachedUnreachable\n"
  pub divide_by_zero : end_line (Panic 7 []) ≡ codes "panic 7 DivideByZero\n"
  pub exact_remainder : end_line (Panic 8 []) ≡ codes "panic 8 ExactRemainder\n"
  pub shift_amount : end_line (Panic 9 []) ≡ codes "panic 9 ShiftAmount\n"
  pub shift_bits_lost : end_line (Panic 10 []) ≡ codes "panic 10 ShiftBitsLost\n"
  pub cast_truncated : end_line (Panic 11 []) ≡ codes "panic 11 CastTruncated\n"
  pub negative_to_unsigned : end_line (Panic 12 []) ≡ codes "panic 12 NegativeToUnsigned\n"
  pub bad_enum_value : end_line (Panic 13 []) ≡ codes "panic 13 BadEnumValue\n"
  pub inactive_field : end_line (Panic 14 []) ≡ codes "panic 14 InactiveField\n"
  pub for_lengths : end_line (Panic 15 []) ≡ codes "panic 15 ForLengths\n"
  pub copy_lengths : end_line (Panic 16 []) ≡ codes "panic 16 CopyLengths\n"
  pub copy_alias : end_line (Panic 17 []) ≡ codes "panic 17 CopyAlias\n"
  pub call_depth : end_line (Panic 19 []) ≡ codes "panic 19 CallDepth\n"
