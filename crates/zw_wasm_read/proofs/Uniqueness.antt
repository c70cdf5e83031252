-- What stands at the front of bytes is one thing of its kind, and has one end.
use Rattle.std.proofs.Common.{◌≡◌, ℕ, Bool, true, false, List, [], ◌∷◌, ◌++◌, length, Option, Some, None, refl, sym, ap, subst, ◌∙◌, arith}
use Rattle.std.proofs.lemmas.List.{append_cancel_left}
use Rattle.zw_leb.proofs.LebSpellings.{one_unsigned, one_signed}
use Rattle.zw_wasm.specs.declared.module.ValType.{ValType}
use Rattle.zw_wasm.specs.declared.module.ValType.TheVariants.{I32, I64}
use Rattle.zw_wasm.specs.declared.module.FuncType.{FuncType}
use Rattle.zw_wasm.specs.declared.module.Limits.{Limits}
use Rattle.zw_wasm.specs.ModuleBytes.{◌⌢◌, Exactly, Byte, IsU32, IsS32, IsS64, EachInTurn, IsVector, IsByteVector, IsName, IsValueType, IsResultType, IsFunctionType, AreBounds, AreLimits, IsTableType, IsMutability, IsBlockType}
use Rattle.zw_wasm_read.specs.Reads.{Leaves}
use Rattle.zw_wasm_read.specs.Uniqueness.{Sure}
use Rattle.zw_wasm_read.proofs.Leaving.{turn, nothing, byte-whole, as_kind}

-- from what holds of the fronts
from_fronts : {X : Type 0} (P : X → List ℕ → Type 0) → ((a b r s : List ℕ) (x y : X) → P x a → P y b → a ++ r ≡ b ++ s → (a ≡ b) × (x ≡ y)) → Sure P
from_fronts {X} P h = record {
  one = λ x y bytes r s p q.
      let e : p.front ++ r ≡ q.front ++ s = sym p.whole ∙ q.whole in
      let same = h p.front q.front r s x y p.spelled q.spelled e in
      (same.1, append_cancel_left p.front r s (e ∙ ap (λ (f : List ℕ). f ++ s) (sym same.0)));
}

pub sure-u32 : Sure IsU32
sure-u32 = from_fronts IsU32 (λ a b r s x y p q e. one_unsigned 32 a b r s x y p q e)

pub sure-s32 : Sure IsS32
sure-s32 = from_fronts IsS32 (λ a b r s x y p q e. one_signed 32 a b r s x y p q e)

pub sure-s64 : Sure IsS64
sure-s64 = from_fronts IsS64 (λ a b r s x y p q e. one_signed 64 a b r s x y p q e)

-- what is left behind these bytes
pub exactly-rest : (expected : List ℕ) {bytes r s : List ℕ} → Leaves (Exactly expected) bytes r → Leaves (Exactly expected) bytes s → r ≡ s
exactly-rest expected {bytes} {r} {s} p q =
    append_cancel_left expected r s
    (ap (λ (f : List ℕ). f ++ r) (sym p.spelled) ∙ sym p.whole ∙ q.whole ∙ ap (λ (f : List ℕ). f ++ s) q.spelled)

pub sure-byte : Sure Byte
sure-byte = record {
  one = λ x y bytes r s p q.
      let e : x ∷ r ≡ y ∷ s = sym (byte-whole p) ∙ byte-whole q in
      (cc, cc);
}

-- one kind and then another
pub then_one : {X Y : Type 0} {P : X → List ℕ → Type 0} {Q : Y → List ℕ → Type 0} → Sure P → Sure Q → {a a' : X} {b b' : Y} {bytes r s : List ℕ} → Leaves (P a ⌢ Q b) bytes r → Leaves (P a' ⌢ Q b') bytes s → (a ≡ a') × (b ≡ b') × (r ≡ s)
then_one {X} {Y} {P} {Q} sure_p sure_q {a} {a'} {b} {b'} {bytes} {r} {s} p q =
    let t = turn p in
    let u = turn q in
    let first = sure_p.one a a' bytes t.mid u.mid t.first u.first in
    let second = sure_q.one b b' u.mid r s (subst (λ (mid : List ℕ). Leaves (Q b) mid r) first.1 t.second) u.second in
    (first.0, second.0, second.1)

-- what follows a thing that was read follows that thing
pub behind : {X : Type 0} {P : X → List ℕ → Type 0} {Q : List ℕ → Type 0} → Sure P → (a : X) {x : X} {bytes mid rest : List ℕ} → Leaves (P a) bytes mid → Leaves (P x ⌢ Q) bytes rest → (a ≡ x) × Leaves Q mid rest
behind {X} {P} {Q} sure a {x} {bytes} {mid} {rest} p l =
    let t = turn l in
    let same = sure.one a x bytes mid t.mid p t.first in
    (same.0, subst (λ (m : List ℕ). Leaves Q m rest) (sym same.1) t.second)

-- and what follows a byte
pub behind_byte : {b : ℕ} {Q : List ℕ → Type 0} {bytes mid rest : List ℕ} → Leaves (Byte b) bytes mid → Leaves (Byte b ⌢ Q) bytes rest → Leaves Q mid rest
behind_byte {b} {Q} {bytes} {mid} {rest} p l =
    let t = turn l in
    subst (λ (m : List ℕ). Leaves Q m rest) (exactly-rest (b ∷ []) t.first p) t.second

-- what follows two things that were read
pub past_two : {X Y : Type 0} {P : X → List ℕ → Type 0} {Q : Y → List ℕ → Type 0} {R : List ℕ → Type 0} → Sure P → Sure Q → (a : X) (b : Y) {x : X} {y : Y} {bytes mid after rest : List ℕ} → Leaves (P a) bytes mid → Leaves (Q b) mid after → Leaves (P x ⌢ Q y ⌢ R) bytes rest → Leaves R after rest
past_two {X} {Y} {P} {Q} {R} sure_p sure_q a b {x} {y} {bytes} {mid} {after} {rest} p q l =
    let t = turn l in
    let second = (behind sure_p a p t.first).1 in
    let same = sure_q.one b y mid after t.mid q second in
    subst (λ (m : List ℕ). Leaves R m rest) (sym same.1) t.second

pub three_one : {X Y Z : Type 0} {P : X → List ℕ → Type 0} {Q : Y → List ℕ → Type 0} {R : Z → List ℕ → Type 0} → Sure P → Sure Q → Sure R → {a a' : X} {b b' : Y} {c c' : Z} {bytes r s : List ℕ} → Leaves (P a ⌢ Q b ⌢ R c) bytes r → Leaves (P a' ⌢ Q b' ⌢ R c') bytes s → (a ≡ a') × (b ≡ b') × (c ≡ c') × (r ≡ s)
three_one {X} {Y} {Z} {P} {Q} {R} sure_p sure_q sure_r {a} {a'} {b} {b'} {c} {c'} {bytes} {r} {s} l m =
    let t = turn l in
    let u = turn m in
    let first = then_one sure_p sure_q t.first u.first in
    let last = sure_r.one c c' u.mid r s (subst (λ (mid : List ℕ). Leaves (R c) mid r) first.2 t.second) u.second in
    (first.0, first.1, last.0, last.1)

-- ---- vectors

pub each_one : {X : Type 0} {P : X → List ℕ → Type 0} → Sure P → (xs ys : List X) (bytes r s : List ℕ) → length xs ≡ length ys → Leaves (EachInTurn P xs) bytes r → Leaves (EachInTurn P ys) bytes s → (xs ≡ ys) × (r ≡ s)
each_one sure [] [] bytes r s e p q = (refl, sym (nothing p) ∙ nothing q)
each_one sure [] (y ∷ ys) bytes r s e p q = absurd (omega arith)
each_one sure (x ∷ xs) [] bytes r s e p q = absurd (omega arith)
each_one {X} {P} sure (x ∷ xs) (y ∷ ys) bytes r s e p q =
    let t = turn p in
    let u = turn q in
    let first = sure.one x y bytes t.mid u.mid t.first u.first in
    let others = each_one sure xs ys u.mid r s (omega arith) (subst (λ (mid : List ℕ). Leaves (EachInTurn P xs) mid r) first.1 t.second) u.second in
    (ap (λ (head : X). head ∷ xs) first.0 ∙ ap (λ (tail : List X). y ∷ tail) others.0, others.1)

pub sure-vector : {X : Type 0} {P : X → List ℕ → Type 0} → Sure P → Sure (IsVector P)
sure-vector {X} {P} sure = record {
  one = λ xs ys bytes r s p q.
      let t = turn p in
      let u = turn q in
      let count = sure-u32.one (length xs) (length ys) bytes t.mid u.mid t.first u.first in
      each_one sure xs ys u.mid r s count.0 (subst (λ (mid : List ℕ). Leaves (EachInTurn P xs) mid r) count.1 t.second) u.second;
}

-- fronts that are equally long
front_same : (a b r s : List ℕ) → length a ≡ length b → a ++ r ≡ b ++ s → (a ≡ b) × (r ≡ s)
front_same [] [] r s e q = (refl, q)
front_same [] (y ∷ b) r s e q = absurd (omega arith)
front_same (x ∷ a) [] r s e q = absurd (omega arith)
front_same (x ∷ a) (y ∷ b) r s e q =
    let heads : x ≡ y = cc in
    let tails : a ++ r ≡ b ++ s = cc in
    let others = front_same a b r s (omega arith) tails in
    (ap (λ (head : ℕ). head ∷ a) heads ∙ ap (λ (tail : List ℕ). y ∷ tail) others.0, others.1)

pub sure-byte_vector : Sure IsByteVector
sure-byte_vector = record {
  one = λ a b bytes r s p q.
      let t = turn p in
      let u = turn q in
      let count = sure-u32.one (length a) (length b) bytes t.mid u.mid t.first u.first in
      let t_whole : t.mid ≡ a ++ r = t.second.whole ∙ ap (λ (f : List ℕ). f ++ r) t.second.spelled in
      let u_whole : u.mid ≡ b ++ s = u.second.whole ∙ ap (λ (f : List ℕ). f ++ s) u.second.spelled in
      front_same a b r s count.0 (sym t_whole ∙ count.1 ∙ u_whole);
}

pub name-bytes : {name bytes rest : List ℕ} → Leaves (IsName name) bytes rest → Leaves (IsByteVector name) bytes rest
name-bytes l = as_kind (λ front p. p.vector) l

pub sure-name : Sure IsName
sure-name = record { one = λ x y bytes r s p q. sure-byte_vector.one x y bytes r s (name-bytes p) (name-bytes q) }

-- ---- types

-- kinds of one byte that tells the thing
pub one_byte : {X : Type 0} (code : X → ℕ) → ((x y : X) → code x ≡ code y → x ≡ y) → Sure (λ (x : X). Byte (code x))
one_byte {X} code tells = record {
  one = λ x y bytes r s p q. let same = sure-byte.one (code x) (code y) bytes r s p q in (tells x y same.0, same.1);
}

-- the same, where the kind goes by cases
from_bytes : {X : Type 0} (P : X → List ℕ → Type 0) (code : X → ℕ) → ((x : X) (front : List ℕ) → P x front → Byte (code x) front) → ((x y : X) → code x ≡ code y → x ≡ y) → Sure P
from_bytes {X} P code is_byte tells = record {
  one = λ x y bytes r s p q. (one_byte code tells).one x y bytes r s (as_kind (is_byte x) p) (as_kind (is_byte y) q);
}

abbrev type_code : ValType → ℕ
type_code I32 = 0x7F
type_code I64 = 0x7E

type-byte : (t : ValType) (front : List ℕ) → IsValueType t front → Byte (type_code t) front
type-byte I32 front p = p
type-byte I64 front p = p

type-tells : (t u : ValType) → type_code t ≡ type_code u → t ≡ u
type-tells I32 I32 e = refl
type-tells I32 I64 e = absurd (omega arith)
type-tells I64 I32 e = absurd (omega arith)
type-tells I64 I64 e = refl

pub sure-value_type : Sure IsValueType
sure-value_type = from_bytes IsValueType type_code type-byte type-tells

abbrev block_code : Option ValType → ℕ
block_code None = 0x40
block_code (Some t) = type_code t

block-byte : (o : Option ValType) (front : List ℕ) → IsBlockType o front → Byte (block_code o) front
block-byte None front p = p
block-byte (Some t) front p = type-byte t front p

block-tells : (o p : Option ValType) → block_code o ≡ block_code p → o ≡ p
block-tells None None e = refl
block-tells None (Some I32) e = absurd (omega arith)
block-tells None (Some I64) e = absurd (omega arith)
block-tells (Some I32) None e = absurd (omega arith)
block-tells (Some I64) None e = absurd (omega arith)
block-tells (Some t) (Some u) e = ap (λ (type : ValType). Some type) (type-tells t u e)

pub sure-block_type : Sure IsBlockType
sure-block_type = from_bytes IsBlockType block_code block-byte block-tells

abbrev mutability_code : Bool → ℕ
mutability_code false = 0
mutability_code true = 1

mutability-byte : (b : Bool) (front : List ℕ) → IsMutability b front → Byte (mutability_code b) front
mutability-byte false front p = p
mutability-byte true front p = p

mutability-tells : (b c : Bool) → mutability_code b ≡ mutability_code c → b ≡ c
mutability-tells false false e = refl
mutability-tells false true e = absurd (omega arith)
mutability-tells true false e = absurd (omega arith)
mutability-tells true true e = refl

pub sure-mutability : Sure IsMutability
sure-mutability = from_bytes IsMutability mutability_code mutability-byte mutability-tells

-- a result as a list
abbrev pub as_list : Option ValType → List ValType
as_list None = []
as_list (Some t) = t ∷ []

pub result-vector : (o : Option ValType) (front : List ℕ) → IsResultType o front → IsVector IsValueType (as_list o) front
result-vector None front p = p
result-vector (Some t) front p = p

as_list-tells : (o p : Option ValType) → as_list o ≡ as_list p → o ≡ p
as_list-tells None None e = refl
as_list-tells None (Some t) e = absurd cc
as_list-tells (Some t) None e = absurd cc
as_list-tells (Some t) (Some u) e = let same : t ≡ u = cc in ap (λ (type : ValType). Some type) same

pub sure-result_type : Sure IsResultType
sure-result_type = record {
  one = λ o p bytes r s l m.
      let same = (sure-vector sure-value_type).one (as_list o) (as_list p) bytes r s (as_kind (result-vector o) l) (as_kind (result-vector p) m) in
      (as_list-tells o p same.0, same.1);
}

abbrev type_of : List ValType → Option ValType → FuncType
type_of params result = record { params = params; result = result }

same_type : (t u : FuncType) → t.params ≡ u.params → t.result ≡ u.result → t ≡ u
same_type t u e f = ap (λ (ps : List ValType). type_of ps t.result) e ∙ ap (λ (o : Option ValType). type_of u.params o) f

pub sure-function_type : Sure IsFunctionType
sure-function_type = record {
  one = λ t u bytes r s l m.
      let types = sure-vector sure-value_type in
      let a = turn l in
      let b = turn m in
      let params = then_one sure-byte types a.first b.first in
      let results = sure-result_type.one t.result u.result b.mid r s (subst (λ (mid : List ℕ). Leaves (IsResultType t.result) mid r) params.2 a.second) b.second in
      (same_type t u params.1 results.0, results.1);
}

-- least and greatest
no_greatest : (least least' greatest : ℕ) (bytes r s : List ℕ) → Leaves (AreBounds least None) bytes r → Leaves (AreBounds least' (Some greatest)) bytes s → ⊥
no_greatest least least' greatest bytes r s l m =
    let t = turn l in
    let u = turn (turn m).first in
    let same = sure-byte.one 0 1 bytes t.mid u.mid t.first u.first in
    omega (arith, same.0)

bounds_one : (a b : ℕ) (o p : Option ℕ) (bytes r s : List ℕ) → Leaves (AreBounds a o) bytes r → Leaves (AreBounds b p) bytes s → (a ≡ b) × (o ≡ p) × (r ≡ s)
bounds_one a b None None bytes r s l m =
    let both = then_one sure-byte sure-u32 l m in
    (both.1, refl, both.2)
bounds_one a b None (Some g) bytes r s l m = absurd (no_greatest a b g bytes r s l m)
bounds_one a b (Some g) None bytes r s l m = absurd (no_greatest b a g bytes s r m l)
bounds_one a b (Some g) (Some h) bytes r s l m =
    let t = turn l in
    let u = turn m in
    let least = then_one sure-byte sure-u32 t.first u.first in
    let greatest = sure-u32.one g h u.mid r s (subst (λ (mid : List ℕ). Leaves (IsU32 g) mid r) least.2 t.second) u.second in
    (least.1, ap (λ (n : ℕ). Some n) greatest.0, greatest.1)

abbrev limits_of : ℕ → Option ℕ → Limits
limits_of least greatest = record { least = least; greatest = greatest }

same_limits : (l m : Limits) → l.least ≡ m.least → l.greatest ≡ m.greatest → l ≡ m
same_limits l m e f = ap (λ (n : ℕ). limits_of n l.greatest) e ∙ ap (λ (o : Option ℕ). limits_of m.least o) f

pub sure-limits : Sure AreLimits
sure-limits = record {
  one = λ l m bytes r s p q.
      let same = bounds_one l.least m.least l.greatest m.greatest bytes r s p q in
      (same_limits l m same.0 same.1, same.2);
}

pub sure-table_type : Sure IsTableType
sure-table_type = record {
  one = λ l m bytes r s p q.
      let same = then_one sure-byte sure-limits p q in
      (same.1, same.2);
}
