-- Operands: what instructions find where operands have types.
use Rattle.std.proofs.Common.{◌≡◌, ℕ, zero, suc, ◌≤◌, ◌<◌, Bool, true, false, List, [], ◌∷◌, ◌++◌, length, take, drop, replicate, reverse, Some, refl, sym, ap, ◌∙◌, arith}
use Rattle.std.specs.Prelude.{if◌then◌else◌, nat_eq, slice_get, slice_set}
use Rattle.std.proofs.lemmas.List.{map-append, reverse-append}
use Rattle.zw_wasm.specs.declared.module.ValType.{ValType}
use Rattle.zw_wasm.specs.declared.module.ValType.TheVariants as ty
use Rattle.zw_wasm.specs.declared.num.Num.{Num}
use Rattle.zw_wasm.specs.declared.num.Num.TheVariants.{I32, I64}
use Rattle.zw_wasm.specs.Reduction.{Action, Config, Goes, on_one, on_operand, on_two, selected, with_operands}
use Rattle.zw_wasm.specs.Structure.{num_of, number}
use Rattle.zw_wasm_sound.specs.Rules.{type_of, types_of}

pub number-typed : (t : ValType) (n : ℕ) → type_of (number t n) ≡ t
number-typed ty.I32 n = refl
number-typed ty.I64 n = refl

pub num_of-typed : (t : ValType) (n : ℕ) → type_of (num_of t n) ≡ t
num_of-typed ty.I32 n = refl
num_of-typed ty.I64 n = refl

pub types-append : (vs us : List Num) → types_of (vs ++ us) ≡ types_of vs ++ types_of us
types-append vs us = map-append type_of vs us

pub types-reverse : (vs : List Num) → types_of (reverse vs) ≡ reverse (types_of vs)
types-reverse [] = refl
types-reverse (v ∷ vs) =
    ap types_of (reverse-append (v ∷ []) vs)
    ∙ types-append (reverse vs) (v ∷ [])
    ∙ ap (λ ts. ts ++ type_of v ∷ []) (types-reverse vs)
    ∙ sym (reverse-append (type_of v ∷ []) (types_of vs))

pub types-replicate : (n : ℕ) (v : Num) → types_of (replicate n v) ≡ replicate n (type_of v)
types-replicate zero v = refl
types-replicate (suc n) v = ap (λ ts. type_of v ∷ ts) (types-replicate n v)

-- an operand of this type, where one is taken
pub one-operand : (P : Action → Type 0) (t : ValType) (below : List ValType) (go : ℕ → Config → Action) (os : List Num) (c : Config) → types_of os ≡ t ∷ below → ((n : ℕ) (rest : List Num) → types_of rest ≡ below → P (go n (with_operands rest c))) → P (on_one t go os c)
one-operand P t below go [] c e h = absurd (cc)
one-operand P ty.I32 below go (I32 n ∷ os) c e h = h n os (cc)
one-operand P ty.I64 below go (I64 n ∷ os) c e h = h n os (cc)
one-operand P ty.I32 below go (I64 n ∷ os) c e h = absurd (cc)
one-operand P ty.I64 below go (I32 n ∷ os) c e h = absurd (cc)

pub two-operands : (P : Action → Type 0) (t : ValType) (below : List ValType) (go : ℕ → ℕ → Config → Action) (os : List Num) (c : Config) → types_of os ≡ t ∷ t ∷ below → ((x y : ℕ) (rest : List Num) → types_of rest ≡ below → P (go x y (with_operands rest c))) → P (on_two t go os c)
two-operands P t below go [] c e h = absurd (cc)
two-operands P t below go (v ∷ []) c e h = absurd (cc)
two-operands P ty.I32 below go (I32 y ∷ I32 x ∷ os) c e h = h x y os (cc)
two-operands P ty.I64 below go (I64 y ∷ I64 x ∷ os) c e h = h x y os (cc)
two-operands P ty.I32 below go (I64 y ∷ v ∷ os) c e h = absurd (cc)
two-operands P ty.I32 below go (I32 y ∷ I64 x ∷ os) c e h = absurd (cc)
two-operands P ty.I64 below go (I32 y ∷ v ∷ os) c e h = absurd (cc)
two-operands P ty.I64 below go (I64 y ∷ I32 x ∷ os) c e h = absurd (cc)

-- an operand, whatever its type
pub any-operand : (P : Action → Type 0) (t : ValType) (below : List ValType) (go : Num → Config → Action) (os : List Num) (c : Config) → types_of os ≡ t ∷ below → ((v : Num) (rest : List Num) → type_of v ≡ t → types_of rest ≡ below → P (go v (with_operands rest c))) → P (on_operand go os c)
any-operand P t below go [] c e h = absurd (cc)
any-operand P t below go (v ∷ os) c e h = h v os (cc) (cc)

pub if-so : {A : Type 0} (P : A → Type 0) (b : Bool) (x y : A) → b ≡ true → P x → P (if b then x else y)
if-so P true x y e h = h
if-so P false x y e h = absurd (cc)

pub either-way : {A : Type 0} (P : A → Type 0) (b : Bool) (x y : A) → P x → P y → P (if b then x else y)
either-way P true x y h k = h
either-way P false x y h k = k

one_of : (b : Bool) (t : ValType) (x y : Num) → type_of x ≡ t → type_of y ≡ t → type_of (if b then x else y) ≡ t
one_of true t x y e f = e
one_of false t x y e f = f

pub selected-operand : (P : Action → Type 0) (t : ValType) (below : List ValType) (os : List Num) (c : Config) → types_of os ≡ ty.I32 ∷ t ∷ t ∷ below → ((v : Num) (rest : List Num) → type_of v ≡ t → types_of rest ≡ below → P (Goes (with_operands (v ∷ rest) c))) → P (selected os c)
selected-operand P t below [] c e h = absurd (cc)
selected-operand P t below (I64 n ∷ os) c e h = absurd (cc)
selected-operand P t below (I32 n ∷ []) c e h = absurd (cc)
selected-operand P t below (I32 n ∷ y ∷ []) c e h = absurd (cc)
selected-operand P t below (I32 n ∷ y ∷ x ∷ os) c e h =
    let first : type_of x ≡ t = cc in
    let second : type_of y ≡ t = cc in
    let others : types_of os ≡ below = cc in
    h (if nat_eq n 0 then y else x) os (one_of (nat_eq n 0) t y x second first) others

-- operands of these types on others, in two
pub record Parted (os : List Num) (n : ℕ) (ts below : List ValType) : Type 0 where
  pub there : n ≤ length os
  pub front : types_of (take n os) ≡ ts
  pub behind : types_of (drop n os) ≡ below

pub parted : (ts below : List ValType) (os : List Num) → types_of os ≡ ts ++ below → Parted os (length ts) ts below
parted [] below os e = record { there = omega arith; front = refl; behind = e }
parted (t ∷ ts) below [] e = absurd (cc)
parted (t ∷ ts) below (v ∷ os) e =
    let others : types_of os ≡ ts ++ below = cc in
    let first : type_of v ≡ t = cc in
    let p = parted ts below os others in
    record { there = omega (arith, p.there); front = ap (λ u. u ∷ types_of (take (length ts) os)) first ∙ ap (λ us. t ∷ us) p.front; behind = p.behind }

-- a number at a place has the type at that place
pub record IsThere (vs : List Num) (n : ℕ) (t : ValType) : Type 0 where
  pub number : Num
  pub is : slice_get vs n ≡ Some number
  pub typed : type_of number ≡ t
  pub inside : n < length vs

pub there : (vs : List Num) (n : ℕ) (t : ValType) → slice_get (types_of vs) n ≡ Some t → IsThere vs n t
there [] n t e = absurd (cc)
there (v ∷ vs) zero t e = record { number = v; is = refl; typed = cc; inside = omega arith }
there (v ∷ vs) (suc n) t e =
    let x = there vs n t e in
    record { number = x.number; is = x.is; typed = x.typed; inside = omega (arith, x.inside) }

-- another number of the type at a place
pub types-set : (vs : List Num) (n : ℕ) (v : Num) (t : ValType) → slice_get (types_of vs) n ≡ Some t → type_of v ≡ t → types_of (slice_set vs n v) ≡ types_of vs
types-set [] n v t e same = refl
types-set (u ∷ vs) zero v t e same = let first : type_of v ≡ type_of u = cc in ap (λ s. s ∷ types_of vs) first
types-set (u ∷ vs) (suc n) v t e same = ap (λ ts. type_of u ∷ ts) (types-set vs n v t e same)
