-- Which calls may be made of a file.
use Rattle.std.proofs.Common.{◌≡◌, ℕ, ◌-◌, ◌<◌, ◌^◌, ℤ, pos, negsuc, true, List, [], ◌∷◌, length, Option, Some, None, refl, ◌∙◌, ap, arith, nat_eq, nat_lt, All}
use Rattle.std.proofs.lemmas.Bool.{and_parts, and_from}
use Rattle.std.proofs.lemmas.Bool.Decides.{nat_tests}
use Rattle.std.proofs.lemmas.Int.{ints}
use Rattle.std.proofs.lemmas.List.Elements.{All-nil, All-cons, All-head, All-tail}
use Rattle.std.specs.List.{list_all}
use Rattle.zw_calls.specs.Numbers.{IsNarrow}
use Rattle.zw_form.specs.Source.{Exported, export_named, args_fit, comes_in, source_fits, source_machine}
use Rattle.zw_form.specs.Trees.{Tree}
use Rattle.zw_session.specs.Incoming.{is_word}
use Rattle.zw_session.specs.Sessions.{Scalar, Number, Truth, Call, AllFit}
use Rattle.zw_drive.specs.Laws.{IsWord, IsFitting}

-- what comes in is a number from -2^31 to 2^32 - 1
below_power : (n : ℕ) → nat_lt n (2 ^ 32) ≡ true → n < 4294967296
below_power n h = grind (arith, nat_tests)

below_half : (n : ℕ) → nat_lt n (2 ^ (32 - 1)) ≡ true → n < 2147483648
below_half n h = grind (arith, nat_tests)

narrow_number : (z : ℤ) → is_word 32 z ≡ true → IsNarrow z
narrow_number (pos n) h = let small = below_power n h in (omega (arith, ints), omega (arith, ints))
narrow_number (negsuc n) h = let small = below_half n h in (omega (arith, ints), omega (arith, ints))

power_below : (n : ℕ) → n < 4294967296 → nat_lt n (2 ^ 32) ≡ true
power_below n h = grind (arith, nat_tests)

half_below : (n : ℕ) → n < 2147483648 → nat_lt n (2 ^ (32 - 1)) ≡ true
half_below n h = grind (arith, nat_tests)

number_narrow : (z : ℤ) → IsNarrow z → is_word 32 z ≡ true
number_narrow (pos n) h = let most = h.1 in power_below n (omega (arith, ints))
number_narrow (negsuc n) h = let least = h.0 in half_below n (omega (arith, ints))

word_value : (arg : Scalar) → comes_in arg ≡ true → IsWord arg
word_value (Number z) h = (z, refl, narrow_number z h)
word_value (Truth b) h = absurd (cc)

word_test : (arg : Scalar) → IsWord arg → comes_in arg ≡ true
word_test arg h = ap comes_in h.1 ∙ number_narrow h.0 h.2

word_values : (args : List Scalar) → list_all comes_in args ≡ true → All IsWord args
word_values [] h = All-nil IsWord
word_values (arg ∷ args) h =
    let both = and_parts (comes_in arg) (list_all comes_in args) h in
    All-cons IsWord arg args (word_value arg both.0) (word_values args both.1)

word_tests : (args : List Scalar) → All IsWord args → list_all comes_in args ≡ true
word_tests [] h = refl
word_tests (arg ∷ args) h =
    and_from (comes_in arg) (list_all comes_in args) (word_test arg (All-head IsWord arg args h)) (word_tests args (All-tail IsWord arg args h))

same_count : (m n : ℕ) → m ≡ n → nat_eq m n ≡ true
same_count m n h = grind (arith, nat_tests)

-- a call, by what stands under its name
fitting_for : (trees : List Tree) (call : Call) (o : Option Exported) → export_named trees call.name ≡ o → args_fit o call.args ≡ true → IsFitting trees call
fitting_for trees call None e h = absurd (cc)
fitting_for trees call (Some f) e h =
    let both = and_parts (nat_eq (length call.args) (length f.params)) (list_all comes_in call.args) h in
    record { function = f; named = e; count = grind (arith, nat_tests, both.0); values = word_values call.args both.1 }

pub fitting_call : (trees : List Tree) (call : Call) → source_fits trees call ≡ true → IsFitting trees call
fitting_call trees call h = fitting_for trees call (export_named trees call.name) refl h

pub call_fitting : (trees : List Tree) (call : Call) → IsFitting trees call → source_fits trees call ≡ true
call_fitting trees call h =
    ap (λ o. args_fit o call.args) h.named
    ∙ and_from (nat_eq (length call.args) (length h.function.params)) (list_all comes_in call.args) (same_count (length call.args) (length h.function.params) h.count) (word_tests call.args h.values)

pub fitting_calls : (trees : List Tree) (calls : List Call) → AllFit (source_machine trees) calls → All (IsFitting trees) calls
fitting_calls trees [] h = All-nil (IsFitting trees)
fitting_calls trees (call ∷ calls) h = All-cons (IsFitting trees) call calls (fitting_call trees call h.0) (fitting_calls trees calls h.1)
