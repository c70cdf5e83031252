-- What is taken of the operands, one after another.
use Rattle.std.proofs.Common.{◌≡◌, ℕ, zero, suc, ◌+◌, ◌-◌, ◌<◌, ◌≤◌, Bool, true, false, if◌then◌else◌, List, [], ◌∷◌, ◌++◌, length, take, drop, get_or, Option, Some, None, refl, sym, subst, ap, ◌∙◌, arith}
use Rattle.std.proofs.lemmas.List.{drop_more, take-append-drop}
use Rattle.zw_wasm.specs.declared.module.ValType.{ValType}
use Rattle.zw_wasm.specs.declared.module.ValType.TheVariants.{I32}
use Rattle.zw_wasm.specs.Typing.{Operand, Checked, taken, and_taken, all_taken, with_operands}
use Rattle.zw_wasm_check.specs.Operands.{operands_of}

and_taken-some : (o : Option (List Operand)) → and_taken o (λ rest. Some rest) ≡ o
and_taken-some None = refl
and_taken-some (Some os) = refl

and_taken-twice : (o : Option (List Operand)) (f g : List Operand → Option (List Operand)) → and_taken (and_taken o f) g ≡ and_taken o (λ rest. and_taken (f rest) g)
and_taken-twice None f g = refl
and_taken-twice (Some os) f g = refl

-- the types of a list's back are taken before those of its front
pub all_taken-append : (ts us : List ValType) (os : List Operand) (u : Bool) → all_taken (ts ++ us) os u ≡ and_taken (all_taken us os u) (λ rest. all_taken ts rest u)
all_taken-append [] us os u = sym (and_taken-some (all_taken us os u))
all_taken-append (t ∷ ts) us os u =
    ap (λ o. and_taken o (λ rest. taken t rest u)) (all_taken-append ts us os u)
    ∙ and_taken-twice (all_taken us os u) (λ rest. all_taken ts rest u) (λ rest. taken t rest u)

-- behind those of the back, the one before them is taken
pub taken_more : (ts : List ValType) (p : ℕ) (os mid : List Operand) (u : Bool) (next : Option (List Operand)) → 0 < p → p ≤ length ts → all_taken (drop p ts) os u ≡ Some mid → taken (get_or ts (p - 1) I32) mid u ≡ next → all_taken (drop (p - 1) ts) os u ≡ next
taken_more ts p os mid u next some within before now =
    let inside : p - 1 < length ts = omega arith in
    let back : (p - 1) + 1 ≡ p = omega arith in
    ap (λ l. all_taken l os u) (drop_more ts (p - 1) I32 inside)
    ∙ ap (λ k. and_taken (all_taken (drop k ts) os u) (λ rest. taken (get_or ts (p - 1) I32) rest u)) back
    ∙ ap (λ o. and_taken o (λ rest. taken (get_or ts (p - 1) I32) rest u)) before
    ∙ now

-- where those of the back aren't there, they aren't all there
pub taken_fails : (ts : List ValType) (p : ℕ) (os : List Operand) (u : Bool) → all_taken (drop p ts) os u ≡ None → all_taken ts os u ≡ None
taken_fails ts p os u none =
    ap (λ l. all_taken l os u) (sym (take-append-drop p ts))
    ∙ all_taken-append (take p ts) (drop p ts) os u
    ∙ ap (λ o. and_taken o (λ rest. all_taken (take p ts) rest u)) none

-- of no operands, code out of reach takes them all, and other code none
all_taken-none : (t : ValType) (ts : List ValType) (u : Bool) → all_taken (t ∷ ts) [] u ≡ (if u then Some [] else None)
all_taken-none t [] true = refl
all_taken-none t [] false = refl
all_taken-none t (next ∷ ts) true = ap (λ o. and_taken o (λ rest. taken t rest true)) (all_taken-none next ts true)
all_taken-none t (next ∷ ts) false = ap (λ o. and_taken o (λ rest. taken t rest false)) (all_taken-none next ts false)

some_front : (p : ℕ) (ts : List ValType) (u : Bool) → 0 < p → p ≤ length ts → all_taken (take p ts) [] u ≡ (if u then Some [] else None)
some_front zero ts u some within = absurd (omega arith)
some_front (suc p) [] u some within = absurd (omega arith)
some_front (suc p) (t ∷ ts) u some within = all_taken-none t (take p ts) u

-- where those of the back leave no operand, the rest is there where the code is out of reach
pub taken_from_nowhere : (ts : List ValType) (p : ℕ) (os : List Operand) (left : List (Option ValType)) (u : Bool) → 0 < p → p ≤ length ts → left ≡ [] → all_taken (drop p ts) os u ≡ Some (operands_of left) → all_taken ts os u ≡ (if u then Some (operands_of left) else None)
taken_from_nowhere ts p os left u some within none before =
    subst (λ l. all_taken ts os u ≡ (if u then Some (operands_of l) else None)) (sym none)
    (ap (λ l. all_taken l os u) (sym (take-append-drop p ts))
    ∙ all_taken-append (take p ts) (drop p ts) os u
    ∙ ap (λ o. and_taken o (λ rest. all_taken (take p ts) rest u)) (before ∙ ap (λ l. Some (operands_of l)) none)
    ∙ some_front p ts u some within)

with_and_taken : (o : Option (List Operand)) (f : List Operand → Option (List Operand)) (go : List Operand → Checked) → with_operands (and_taken o f) go ≡ with_operands o (λ rest. with_operands (f rest) go)
with_and_taken None f go = refl
with_and_taken (Some os) f go = refl

-- a rule on operands of these types takes the last one first
pub last_first : (ts : List ValType) (t : ValType) (os : List Operand) (u : Bool) (go : List Operand → Checked) → with_operands (all_taken (ts ++ t ∷ []) os u) go ≡ with_operands (taken t os u) (λ rest. with_operands (all_taken ts rest u) go)
last_first ts t os u go =
    ap (λ o. with_operands o go) (all_taken-append ts (t ∷ []) os u)
    ∙ with_and_taken (taken t os u) (λ rest. all_taken ts rest u) go
