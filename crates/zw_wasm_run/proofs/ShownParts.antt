-- ShownParts: what a host call shows, argument by argument, against what a host is given of it.
use Rattle.std.proofs.Common.{◌≡◌, ℕ, zero, suc, ◌+◌, ◌%◌, ◌^◌, ◌<◌, ◌≤◌, Bool, true, false, List, [], ◌∷◌, ◌++◌, Option, Some, None, length, drop, map, refl, sym, ap, ◌∙◌, append_assoc, arith, ◌||◌}
use Rattle.std.specs.Prelude.{slice_get, if◌then◌else◌}
use Rattle.std.specs.Option.{option_map}
use Rattle.std.proofs.lemmas.List.{drop_all}
use Rattle.zw_wasm.specs.declared.module.ValType.{ValType}
use Rattle.zw_wasm.specs.declared.module.ValType.TheVariants as ty
use Rattle.zw_wasm.specs.declared.num.Num.{Num}
use Rattle.zw_wasm.specs.declared.num.Num.TheVariants as num
use Rattle.zw_wasm.specs.Signature.{Bytes, Shown, Value, before_others, bytes_at, scalar_of, shown_ranges, shown_scalars}
use Rattle.zw_wasm.specs.Structure.{bits_of, number}
use Rattle.zw_wasm_words.specs.Words.{Hold, bits_in}
use Rattle.zw_wasm_run.specs.Calls.{ShowParams, is_shown, numbers_read}
use Rattle.zw_wasm_run.specs.Hosting.{IsPair, first_range, is_length, is_part, numbers_held, numbers_in, ranges_in}
use Rattle.zw_wasm_run.specs.Premises.{type_of}
use Rattle.zw_wasm_run.specs.declared.machine.Show.{Show}

-- the parameter behind one that shows bytes shows none
abbrev pub NoneBehind : List Show → ℕ → Type 0
NoneBehind shows import = (param : ℕ) → is_shown shows import param ≡ true → is_shown shows import (suc param) ≡ false

numbers_past : (shows : List Show) (import param : ℕ) (a : Num) (args : List Num) (b c : Bool) → is_shown shows import param ≡ b → is_length shows import param ≡ c → (b || c) ≡ true → numbers_in shows import param (a ∷ args) ≡ numbers_in shows import (suc param) args
numbers_past shows import param a args b c e f t =
    ap (λ x. if x || is_length shows import param then numbers_in shows import (suc param) args else a ∷ numbers_in shows import (suc param) args) e
    ∙ ap (λ x. if b || x then numbers_in shows import (suc param) args else a ∷ numbers_in shows import (suc param) args) f
    ∙ ap (λ x. if x then numbers_in shows import (suc param) args else a ∷ numbers_in shows import (suc param) args) t

numbers_here : (shows : List Show) (import param : ℕ) (a : Num) (args : List Num) → is_shown shows import param ≡ false → is_length shows import param ≡ false → numbers_in shows import param (a ∷ args) ≡ a ∷ numbers_in shows import (suc param) args
numbers_here shows import param a args e f =
    ap (λ x. if x || is_length shows import param then numbers_in shows import (suc param) args else a ∷ numbers_in shows import (suc param) args) e
    ∙ ap (λ x. if false || x then numbers_in shows import (suc param) args else a ∷ numbers_in shows import (suc param) args) f

-- the numbers that a host reads are those of the event
pub numbers_seen : (shows : List Show) (import param : ℕ) (ts : List ValType) (given : List Shown) (args : List Num) → NoneBehind shows import → length args ≡ length ts → is_length shows import param ≡ false → ShowParams shows import param ts given → shown_scalars given args ≡ numbers_read given (numbers_in shows import param args)
numbers_seen shows import param [] [] args apart count first h = refl
numbers_seen shows import param [] (g ∷ given) args apart count first h = absurd h
numbers_seen shows import param (t ∷ ts) [] args apart count first h = absurd h
numbers_seen shows import param (t ∷ ts) (Value r ∷ given) [] apart count first h = absurd (omega (arith, count))
numbers_seen shows import param (t ∷ ts) (Value r ∷ given) (a ∷ args) apart count first h =
    ap (λ l. scalar_of r a ∷ l) (numbers_seen shows import (suc param) ts given args apart (omega (arith, count)) h.0 h.1)
    ∙ ap (numbers_read (Value r ∷ given)) (sym (numbers_here shows import param a args h.0 first))
numbers_seen shows import param (t ∷ []) (Bytes ∷ given) args apart count first h = absurd h
numbers_seen shows import param (t ∷ u ∷ ts) (Bytes ∷ given) [] apart count first h = absurd (omega (arith, count))
numbers_seen shows import param (t ∷ u ∷ ts) (Bytes ∷ given) (a ∷ []) apart count first h = absurd (omega (arith, count))
numbers_seen shows import param (t ∷ u ∷ ts) (Bytes ∷ given) (a ∷ b ∷ args) apart count first h =
    numbers_seen shows import (suc (suc param)) ts given args apart (omega (arith, count)) (apart param h.0) h.1
    ∙ ap (numbers_read given) (sym (numbers_past shows import param a (b ∷ args) true false h.0 first refl ∙ numbers_past shows import (suc param) b args false true (apart param h.0) h.0 refl))

ranges_past : (shows : List Show) (import : ℕ) (memory : List ℕ) (param : ℕ) (a : Num) (args : List Num) → is_shown shows import param ≡ false → ranges_in shows import memory param (a ∷ args) ≡ ranges_in shows import memory (suc param) args
ranges_past shows import memory param a args e =
    ap (λ x. if x then before_others (first_range memory (a ∷ args)) (ranges_in shows import memory (suc param) args) else ranges_in shows import memory (suc param) args) e

ranges_here : (shows : List Show) (import : ℕ) (memory : List ℕ) (param : ℕ) (a : Num) (args : List Num) → is_shown shows import param ≡ true → ranges_in shows import memory param (a ∷ args) ≡ before_others (first_range memory (a ∷ args)) (ranges_in shows import memory (suc param) args)
ranges_here shows import memory param a args e =
    ap (λ x. if x then before_others (first_range memory (a ∷ args)) (ranges_in shows import memory (suc param) args) else ranges_in shows import memory (suc param) args) e

-- the bytes that a host is shown are those of the event
pub ranges_seen : (shows : List Show) (import : ℕ) (memory : List ℕ) (param : ℕ) (ts : List ValType) (given : List Shown) (args : List Num) → NoneBehind shows import → length args ≡ length ts → ShowParams shows import param ts given → shown_ranges given args memory ≡ ranges_in shows import memory param args
ranges_seen shows import memory param [] [] [] apart count h = refl
ranges_seen shows import memory param [] [] (a ∷ args) apart count h = absurd (omega (arith, count))
ranges_seen shows import memory param [] (g ∷ given) args apart count h = absurd h
ranges_seen shows import memory param (t ∷ ts) [] args apart count h = absurd h
ranges_seen shows import memory param (t ∷ ts) (Value r ∷ given) [] apart count h = absurd (omega (arith, count))
ranges_seen shows import memory param (t ∷ ts) (Value r ∷ given) (a ∷ args) apart count h =
    ranges_seen shows import memory (suc param) ts given args apart (omega (arith, count)) h.1 ∙ sym (ranges_past shows import memory param a args h.0)
ranges_seen shows import memory param (t ∷ []) (Bytes ∷ given) args apart count h = absurd h
ranges_seen shows import memory param (t ∷ u ∷ ts) (Bytes ∷ given) [] apart count h = absurd (omega (arith, count))
ranges_seen shows import memory param (t ∷ u ∷ ts) (Bytes ∷ given) (a ∷ []) apart count h = absurd (omega (arith, count))
ranges_seen shows import memory param (t ∷ u ∷ ts) (Bytes ∷ given) (a ∷ b ∷ args) apart count h =
    ap (before_others (bytes_at memory (bits_of a) (bits_of b)))
    (ranges_seen shows import memory (suc (suc param)) ts given args apart (omega (arith, count)) h.1 ∙ sym (ranges_past shows import memory (suc param) b args (apart param h.0)))
    ∙ sym (ranges_here shows import memory param a (b ∷ args) h.0)

-- numbers of known types are those that their words hold
pub numbers_are : (ts : List ValType) (words : List ℕ) (args : List Num) → Hold words args → map type_of args ≡ ts → args ≡ numbers_held ts words
numbers_are ts [] [] h e = ap (λ us. numbers_held us []) e
numbers_are ts (w ∷ ws) (num.I32 n ∷ args) h e =
    ap (λ k. num.I32 k ∷ args) h.0
    ∙ ap (λ l. num.I32 (w % 2 ^ 32) ∷ l) (numbers_are (map type_of args) ws args h.1 refl) ∙ ap (λ us. numbers_held us (w ∷ ws)) e
numbers_are ts (w ∷ ws) (num.I64 n ∷ args) h e =
    ap (λ k. num.I64 k ∷ args) h.0
    ∙ ap (λ l. num.I64 w ∷ l) (numbers_are (map type_of args) ws args h.1 refl) ∙ ap (λ us. numbers_held us (w ∷ ws)) e
numbers_are ts [] (a ∷ args) h e = absurd h
numbers_are ts (w ∷ ws) [] h e = absurd h

pub held_length : (ts : List ValType) (words : List ℕ) → length words ≡ length ts → length (numbers_held ts words) ≡ length ts
held_length [] words e = refl
held_length (t ∷ ts) [] e = absurd (omega (arith, e))
held_length (t ∷ ts) (w ∷ ws) e = ap (λ n. suc n) (held_length ts ws (omega (arith, e)))

type_held : (t : ValType) (n : ℕ) → type_of (number t n) ≡ t
type_held ty.I32 n = refl
type_held ty.I64 n = refl

pub held_types : (ts : List ValType) (words : List ℕ) → length words ≡ length ts → map type_of (numbers_held ts words) ≡ ts
held_types [] words e = refl
held_types (t ∷ ts) [] e = absurd (omega (arith, e))
held_types (t ∷ ts) (w ∷ ws) e = ap (λ x. x ∷ map type_of (numbers_held ts ws)) (type_held t (bits_in t w)) ∙ ap (λ l. t ∷ l) (held_types ts ws (omega (arith, e)))

-- the number at a place
pub held_at : (ts : List ValType) (words : List ℕ) (i : ℕ) (t : ValType) (w : ℕ) → slice_get ts i ≡ Some t → slice_get words i ≡ Some w → drop i (numbers_held ts words) ≡ number t (bits_in t w) ∷ drop (suc i) (numbers_held ts words)
held_at [] words i t w e f = absurd (cc)
held_at (u ∷ ts) [] i t w e f = absurd (cc)
held_at (u ∷ ts) (x ∷ ws) zero t w e f =
    let p : u ≡ t = cc in
    let q : x ≡ w = cc in
    ap (λ y. number y (bits_in y x) ∷ numbers_held ts ws) p ∙ ap (λ y. number t (bits_in t y) ∷ numbers_held ts ws) q
held_at (u ∷ ts) (x ∷ ws) (suc i) t w e f = held_at ts ws i t w e f

-- the numbers of the event, as far as the first i arguments say
pub record NumbersSoFar (shows : List Show) (import : ℕ) (args : List Num) (i : ℕ) (numbers : List Num) : Type 0 where
  pub rest : numbers ++ numbers_in shows import i (drop i args) ≡ numbers_in shows import 0 args

pub numbers_begin : (shows : List Show) (import : ℕ) (args : List Num) → NumbersSoFar shows import args 0 []
numbers_begin shows import args = record { rest = refl }

pub numbers_more : (shows : List Show) (import : ℕ) (ts : List ValType) (words : List ℕ) (i : ℕ) (t : ValType) (w : ℕ) (numbers : List Num) → slice_get ts i ≡ Some t → slice_get words i ≡ Some w → is_part shows import i ≡ false → NumbersSoFar shows import (numbers_held ts words) i numbers → NumbersSoFar shows import (numbers_held ts words) (i + 1) (numbers ++ number t (bits_in t w) ∷ [])
numbers_more shows import ts words i t w numbers e f part so = record {
  rest = let args = numbers_held ts words in
      let a = number t (bits_in t w) in
      let next : i + 1 ≡ suc i = omega arith in
      append_assoc numbers (a ∷ []) (numbers_in shows import (i + 1) (drop (i + 1) args))
      ∙ ap (λ k. numbers ++ a ∷ numbers_in shows import k (drop k args)) next
      ∙ ap (λ x. numbers ++ (if x then numbers_in shows import (suc i) (drop (suc i) args) else a ∷ numbers_in shows import (suc i) (drop (suc i) args))) (sym part)
      ∙ ap (λ l. numbers ++ numbers_in shows import i l) (sym (held_at ts words i t w e f))
      ∙ so.rest;
}

pub numbers_skip : (shows : List Show) (import : ℕ) (ts : List ValType) (words : List ℕ) (i : ℕ) (t : ValType) (w : ℕ) (numbers : List Num) → slice_get ts i ≡ Some t → slice_get words i ≡ Some w → is_part shows import i ≡ true → NumbersSoFar shows import (numbers_held ts words) i numbers → NumbersSoFar shows import (numbers_held ts words) (i + 1) numbers
numbers_skip shows import ts words i t w numbers e f part so = record {
  rest = let args = numbers_held ts words in
      let a = number t (bits_in t w) in
      let next : i + 1 ≡ suc i = omega arith in
      ap (λ k. numbers ++ numbers_in shows import k (drop k args)) next
      ∙ ap (λ x. numbers ++ (if x then numbers_in shows import (suc i) (drop (suc i) args) else a ∷ numbers_in shows import (suc i) (drop (suc i) args))) (sym part)
      ∙ ap (λ l. numbers ++ numbers_in shows import i l) (sym (held_at ts words i t w e f))
      ∙ so.rest;
}

-- nothing is left behind the last
pub append_none : {A : Type 0} (xs : List A) → xs ++ [] ≡ xs
append_none [] = refl
append_none (x ∷ xs) = ap (λ l. x ∷ l) (append_none xs)

pub numbers_end : (shows : List Show) (import : ℕ) (args : List Num) (i : ℕ) (numbers : List Num) → length args ≤ i → NumbersSoFar shows import args i numbers → numbers ≡ numbers_in shows import 0 args
numbers_end shows import args i numbers all so =
    sym (append_none numbers) ∙ ap (λ l. numbers ++ numbers_in shows import i l) (sym (drop_all i args all)) ∙ so.rest

-- the bytes that are shown, as far as the first i arguments say
pub record RangesSoFar (shows : List Show) (import : ℕ) (memory : List ℕ) (args : List Num) (i : ℕ) (shown : List (List ℕ)) : Type 0 where
  pub rest : option_map (λ others. shown ++ others) (ranges_in shows import memory i (drop i args)) ≡ ranges_in shows import memory 0 args

all_others : (o : Option (List (List ℕ))) → option_map (λ others. [] ++ others) o ≡ o
all_others None = refl
all_others (Some xs) = refl

pub ranges_begin : (shows : List Show) (import : ℕ) (memory : List ℕ) (args : List Num) → RangesSoFar shows import memory args 0 []
ranges_begin shows import memory args = record { rest = all_others (ranges_in shows import memory 0 args) }

pub ranges_skip : (shows : List Show) (import : ℕ) (memory : List ℕ) (ts : List ValType) (words : List ℕ) (i : ℕ) (t : ValType) (w : ℕ) (shown : List (List ℕ)) → slice_get ts i ≡ Some t → slice_get words i ≡ Some w → is_shown shows import i ≡ false → RangesSoFar shows import memory (numbers_held ts words) i shown → RangesSoFar shows import memory (numbers_held ts words) (i + 1) shown
ranges_skip shows import memory ts words i t w shown e f part so = record {
  rest = let args = numbers_held ts words in
      let a = number t (bits_in t w) in
      let next : i + 1 ≡ suc i = omega arith in
      ap (λ k. option_map (λ others. shown ++ others) (ranges_in shows import memory k (drop k args))) next
      ∙ ap (option_map (λ others. shown ++ others)) (sym (ranges_past shows import memory i a (drop (suc i) args) part) ∙ ap (ranges_in shows import memory i) (sym (held_at ts words i t w e f)))
      ∙ so.rest;
}

more_others : (shown : List (List ℕ)) (bytes : List ℕ) (o : Option (List (List ℕ))) → option_map (λ others. (shown ++ bytes ∷ []) ++ others) o ≡ option_map (λ others. shown ++ others) (before_others (Some bytes) o)
more_others shown bytes None = refl
more_others shown bytes (Some xs) = ap (λ l. Some l) (append_assoc shown (bytes ∷ []) xs)

-- a pointer and a length show bytes
first_shown : (memory : List ℕ) (ts : List ValType) (words : List ℕ) (i w n : ℕ) → slice_get ts i ≡ Some ty.I32 → slice_get ts (i + 1) ≡ Some ty.I32 → slice_get words i ≡ Some w → slice_get words (i + 1) ≡ Some n → first_range memory (drop i (numbers_held ts words)) ≡ bytes_at memory (w % 2 ^ 32) (n % 2 ^ 32)
first_shown memory ts words i w n e f g h =
    let next : i + 1 ≡ suc i = omega arith in
    ap (first_range memory)
    (held_at ts words i ty.I32 w e g
    ∙ ap (λ l. number ty.I32 (bits_in ty.I32 w) ∷ l) (held_at ts words (suc i) ty.I32 n (ap (slice_get ts) (sym next) ∙ f) (ap (slice_get words) (sym next) ∙ h)))

ranges_at : (shows : List Show) (import : ℕ) (memory : List ℕ) (ts : List ValType) (words : List ℕ) (i w n : ℕ) → slice_get ts i ≡ Some ty.I32 → slice_get ts (i + 1) ≡ Some ty.I32 → slice_get words i ≡ Some w → slice_get words (i + 1) ≡ Some n → is_shown shows import i ≡ true → ranges_in shows import memory i (drop i (numbers_held ts words)) ≡ before_others (bytes_at memory (w % 2 ^ 32) (n % 2 ^ 32)) (ranges_in shows import memory (i + 1) (drop (i + 1) (numbers_held ts words)))
ranges_at shows import memory ts words i w n e f g h part =
    let args = numbers_held ts words in
    let a = number ty.I32 (bits_in ty.I32 w) in
    let next : suc i ≡ i + 1 = omega arith in
    let here : drop i args ≡ a ∷ drop (suc i) args = held_at ts words i ty.I32 w e g in
    ap (ranges_in shows import memory i) here ∙ ranges_here shows import memory i a (drop (suc i) args) part
    ∙ ap (λ l. before_others (first_range memory l) (ranges_in shows import memory (suc i) (drop (suc i) args))) (sym here)
    ∙ ap (λ o. before_others o (ranges_in shows import memory (suc i) (drop (suc i) args))) (first_shown memory ts words i w n e f g h)
    ∙ ap (λ k. before_others (bytes_at memory (w % 2 ^ 32) (n % 2 ^ 32)) (ranges_in shows import memory k (drop k args))) next

pub ranges_more : (shows : List Show) (import : ℕ) (memory : List ℕ) (ts : List ValType) (words : List ℕ) (i w n : ℕ) (shown : List (List ℕ)) (bytes : List ℕ) → slice_get ts i ≡ Some ty.I32 → slice_get ts (i + 1) ≡ Some ty.I32 → slice_get words i ≡ Some w → slice_get words (i + 1) ≡ Some n → is_shown shows import i ≡ true → bytes_at memory (w % 2 ^ 32) (n % 2 ^ 32) ≡ Some bytes → RangesSoFar shows import memory (numbers_held ts words) i shown → RangesSoFar shows import memory (numbers_held ts words) (i + 1) (shown ++ bytes ∷ [])
ranges_more shows import memory ts words i w n shown bytes e f g h part there so = record {
  rest = let args = numbers_held ts words in
      let others = ranges_in shows import memory (i + 1) (drop (i + 1) args) in
      more_others shown bytes others
      ∙ ap (λ o. option_map (λ others. shown ++ others) (before_others o others)) (sym there)
      ∙ ap (option_map (λ others. shown ++ others)) (sym (ranges_at shows import memory ts words i w n e f g h part))
      ∙ so.rest;
}

pub ranges_outside : (shows : List Show) (import : ℕ) (memory : List ℕ) (ts : List ValType) (words : List ℕ) (i w n : ℕ) (shown : List (List ℕ)) → slice_get ts i ≡ Some ty.I32 → slice_get ts (i + 1) ≡ Some ty.I32 → slice_get words i ≡ Some w → slice_get words (i + 1) ≡ Some n → is_shown shows import i ≡ true → bytes_at memory (w % 2 ^ 32) (n % 2 ^ 32) ≡ None → RangesSoFar shows import memory (numbers_held ts words) i shown → None ≡ ranges_in shows import memory 0 (numbers_held ts words)
ranges_outside shows import memory ts words i w n shown e f g h part outside so =
    let others = ranges_in shows import memory (i + 1) (drop (i + 1) (numbers_held ts words)) in
    sym (ap (λ o. option_map (λ others. shown ++ others) (before_others o others)) outside)
    ∙ ap (option_map (λ others. shown ++ others)) (sym (ranges_at shows import memory ts words i w n e f g h part))
    ∙ so.rest

pub ranges_end : (shows : List Show) (import : ℕ) (memory : List ℕ) (args : List Num) (i : ℕ) (shown : List (List ℕ)) → length args ≤ i → RangesSoFar shows import memory args i shown → Some shown ≡ ranges_in shows import memory 0 args
ranges_end shows import memory args i shown all so =
    ap (λ l. Some l) (sym (append_none shown)) ∙ ap (λ l. option_map (λ others. shown ++ others) (ranges_in shows import memory i l)) (sym (drop_all i args all)) ∙ so.rest

index_inside : (ts : List ValType) (i : ℕ) (t : ValType) → slice_get ts i ≡ Some t → i < length ts
index_inside [] i t e = absurd (cc)
index_inside (u ∷ ts) zero t e = omega arith
index_inside (u ∷ ts) (suc i) t e = omega (arith, index_inside ts i t e)

-- both parameters are there
pub pair_inside : (ts : List ValType) (i : ℕ) → IsPair ts i → i + 1 < length ts
pair_inside ts i pair = index_inside ts (i + 1) ty.I32 pair.count
