-- The types of the code of `+` and `-` on `u32`.
use Rattle.std.proofs.Common.{◌≡◌, ℕ, ◌+◌, List, [], ◌∷◌, Some, subst, pos, lit<, add-zero}
use Rattle.std.specs.Prelude.{slice_get}
use Rattle.zw_safety_narrow.specs.Checked.{ScratchIsTyped, IsNumberGlobal, PanicStateIsTyped}
use Rattle.zw_safety_narrow.specs.Code.{kept, if_panics, add_code, sub_code}
use Rattle.zw_session.specs.Causes.{integer_overflow}
use Rattle.zw_wasm.proofs.TypingTakes.{takes-then, takes-local_get, takes-local_set, takes-global_set, takes-i32_const, takes-i32_add, takes-i32_sub, takes-i32_lt_u, takes-if_unreachable}
use Rattle.zw_wasm.specs.declared.module.Instr.TheVariants.{GlobalSet}
use Rattle.zw_wasm.specs.declared.module.ValType.{ValType}
use Rattle.zw_wasm.specs.declared.module.ValType.TheVariants.{I32}
use Rattle.zw_wasm.specs.Sequences.{Takes}
use Rattle.zw_wasm.specs.Typing.{Context}

pub first_local : (s : ℕ) (locals : List ValType) → ScratchIsTyped s locals → slice_get locals s ≡ Some I32
first_local s locals h = subst (λ n. slice_get locals n ≡ Some I32) (add-zero s) (h.first 0 (lit< tt))

pub second_local : (s : ℕ) (locals : List ValType) → ScratchIsTyped s locals → slice_get locals (s + 1) ≡ Some I32
second_local s locals h = h.first 1 (lit< tt)

takes-set : (x : Context) (n : ℕ) (ts : List ValType) → IsNumberGlobal x.module_ n → Takes x (GlobalSet n ∷ []) (I32 ∷ ts) ts
takes-set x n ts h = subst (λ t. Takes x (GlobalSet n ∷ []) (t ∷ ts) ts) h.type_is (takes-global_set x n h.global ts h.there h.mutable)

pub takes-if_panics : (x : Context) (cause : ℕ) (ts : List ValType) → PanicStateIsTyped x.module_ → Takes x (if_panics cause) (I32 ∷ ts) ts
takes-if_panics x cause ts h =
    let first = takes-then (takes-i32_const x (pos cause) []) (takes-set x 0 [] h.cause) in
    let second = takes-then (takes-i32_const x (pos 0) []) (takes-set x 1 [] h.pointer) in
    let third = takes-then (takes-i32_const x (pos 0) []) (takes-set x 2 [] h.count) in
    takes-if_unreachable x _ [] ts (takes-then first (takes-then second third))

takes-kept : (x : Context) (s : ℕ) (ts : List ValType) → ScratchIsTyped s x.locals → Takes x (kept s) (I32 ∷ I32 ∷ ts) (I32 ∷ I32 ∷ ts)
takes-kept x s ts h =
    let right = first_local s x.locals h in
    let left = second_local s x.locals h in
    takes-then (takes-local_set x s I32 (I32 ∷ ts) right)
    (takes-then (takes-local_set x (s + 1) I32 ts left)
    (takes-then (takes-local_get x (s + 1) I32 ts left) (takes-local_get x s I32 (I32 ∷ ts) right)))

pub takes-sub : (x : Context) (s : ℕ) (ts : List ValType) → ScratchIsTyped s x.locals → PanicStateIsTyped x.module_ → Takes x (sub_code s) (I32 ∷ I32 ∷ ts) (I32 ∷ ts)
takes-sub x s ts h state =
    let right = first_local s x.locals h in
    let left = second_local s x.locals h in
    takes-then (takes-kept x s ts h)
    (takes-then (takes-i32_lt_u x ts)
    (takes-then (takes-if_panics x integer_overflow ts state)
    (takes-then (takes-local_get x (s + 1) I32 ts left)
    (takes-then (takes-local_get x s I32 (I32 ∷ ts) right) (takes-i32_sub x ts)))))

pub takes-add : (x : Context) (s : ℕ) (ts : List ValType) → ScratchIsTyped s x.locals → PanicStateIsTyped x.module_ → Takes x (add_code s) (I32 ∷ I32 ∷ ts) (I32 ∷ ts)
takes-add x s ts h state =
    let right = first_local s x.locals h in
    let left = second_local s x.locals h in
    takes-then (takes-kept x s ts h)
    (takes-then (takes-i32_add x ts)
    (takes-then (takes-local_set x s I32 ts right)
    (takes-then (takes-local_get x s I32 ts right)
    (takes-then (takes-local_get x (s + 1) I32 (I32 ∷ ts) left)
    (takes-then (takes-i32_lt_u x ts)
    (takes-then (takes-if_panics x integer_overflow ts state) (takes-local_get x s I32 ts right)))))))
