-- The items of a vector, so far and with one more.
use Rattle.std.proofs.Common.{◌≡◌, ℕ, ◌<◌, ◌≤◌, List, [], ◌∷◌, ◌++◌, length, refl, sym, ap, subst, ◌∙◌, append_assoc, append-nil, arith}
use Rattle.zw_wasm.specs.ModuleBytes.{IsU32, EachInTurn, IsVector}
use Rattle.zw_wasm_read.specs.Reads.{Leaves, IsUnfit}
use Rattle.zw_wasm_read.specs.Uniqueness.{Sure}
use Rattle.zw_wasm_read.proofs.Leaving.{turn, then, nothing, no_byte}
use Rattle.zw_wasm_read.proofs.Uniqueness.{sure-u32, behind}

pub no_items : {X : Type 0} (P : X → List ℕ → Type 0) (bytes : List ℕ) → Leaves (EachInTurn P []) bytes bytes
no_items P bytes = no_byte bytes

each_push : {X : Type 0} (P : X → List ℕ → Type 0) (xs : List X) (x : X) (a b : List ℕ) → EachInTurn P xs a → P x b → EachInTurn P (xs ++ x ∷ []) (a ++ b)
each_push P [] x a b p q = rw p (record { front = b; back = []; first = q; second = refl; whole = sym (append-nil b) })
each_push P (y ∷ xs) x a b p q = record {
  front = p.front;
  back = p.back ++ b;
  first = p.first;
  second = each_push P xs x p.back b p.second q;
  whole = ap (λ (l : List ℕ). l ++ b) p.whole ∙ append_assoc p.front p.back b;
}

pub one_more : {X : Type 0} (P : X → List ℕ → Type 0) (xs : List X) (x : X) (start mid rest : List ℕ) → Leaves (EachInTurn P xs) start mid → Leaves (P x) mid rest → Leaves (EachInTurn P (xs ++ x ∷ [])) start rest
one_more P xs x start mid rest l m = record {
  front = l.front ++ m.front;
  spelled = each_push P xs x l.front m.front l.spelled m.spelled;
  whole = l.whole ∙ ap (λ (f : List ℕ). l.front ++ f) m.whole ∙ sym (append_assoc l.front m.front rest);
}

-- where the next item is missing, there are no more items
pub each_unfit : {X : Type 0} (P : X → List ℕ → Type 0) → Sure P → (xs ys : List X) (start mid rest : List ℕ) → length xs < length ys → Leaves (EachInTurn P xs) start mid → IsUnfit P mid → Leaves (EachInTurn P ys) start rest → ⊥
each_unfit P sure xs [] start mid rest few l unfit m = omega arith
each_unfit P sure [] (y ∷ ys) start mid rest few l unfit m =
    let t = turn m in
    unfit y t.mid (subst (λ (at : List ℕ). Leaves (P y) at t.mid) (nothing l) t.first)
each_unfit P sure (x ∷ xs) (y ∷ ys) start mid rest few l unfit m =
    let t = turn l in
    let u = turn m in
    let first = sure.one x y start t.mid u.mid t.first u.first in
    each_unfit P sure xs ys t.mid mid rest (omega arith) t.second unfit (subst (λ (at : List ℕ). Leaves (EachInTurn P ys) at rest) (sym first.1) u.second)

pub vector_unfit : {X : Type 0} (P : X → List ℕ → Type 0) → Sure P → (n : ℕ) (xs : List X) (bytes start mid : List ℕ) → Leaves (IsU32 n) bytes start → Leaves (EachInTurn P xs) start mid → length xs < n → IsUnfit P mid → IsUnfit (IsVector P) bytes
vector_unfit P sure n xs bytes start mid count so_far few unfit ys rest l =
    let b = behind sure-u32 n count l in
    each_unfit P sure xs ys start mid rest (omega (arith, b.0)) so_far unfit b.1

pub whole_vector : {X : Type 0} (P : X → List ℕ → Type 0) (n : ℕ) (xs : List X) (bytes start rest : List ℕ) → Leaves (IsU32 n) bytes start → Leaves (EachInTurn P xs) start rest → length xs ≤ n → n ≤ length xs → Leaves (IsVector P xs) bytes rest
whole_vector P n xs bytes start rest count all few many =
    let e : n ≡ length xs = omega arith in
    then (subst (λ (k : ℕ). Leaves (IsU32 k) bytes start) e count) all
