-- Finding: an instruction that the validation algorithm accepts over operands that are known has a type that fits them.
use Rattle.std.proofs.Common.{◌≡◌, ℕ, zero, suc, Bool, true, false, cond, List, [], ◌∷◌, ◌++◌, reverse, Option, Some, None, refl, sym, ap, subst, ◌∙◌, append_assoc}
use Rattle.std.specs.Prelude.{nat_le, slice_get}
use Rattle.std.specs.List.{list_all}
use Rattle.std.specs.Option.{option_map}
use Rattle.std.specs.Int.{Width}
use Rattle.std.proofs.lemmas.Bool.{and_parts}
use Rattle.std.proofs.lemmas.List.{reverse-append}
use Rattle.std.proofs.lemmas.Option.{slice_get-map}
use Rattle.zw_wasm.specs.declared.module.Instr.{Instr}
use Rattle.zw_wasm.specs.declared.module.Limits.{Limits}
use Rattle.zw_wasm.specs.declared.module.MemoryArgument.{MemoryArgument}
use Rattle.zw_wasm.specs.declared.module.ValType.{ValType}
use Rattle.zw_wasm.specs.declared.module.ValType.TheVariants as ty
use Rattle.zw_wasm.specs.Accesses.{natural_alignment}
use Rattle.zw_wasm.specs.Typing.{Checked, Context, Control, Operand, Known, Goes, Closes, Refused, accesses, aligned, all_taken, and_taken, branches_so, chosen_one, joined, never_goes_on, one_taken, put_on, replaces, same_type, taken, with_index, with_one, with_operands, wrong_alignment}
use Rattle.zw_wasm.proofs.TypingTakes.{known}
use Rattle.zw_wasm_sound.specs.Rules.{HasType, InstrType, Leaves, Replaces}
use Rattle.zw_wasm_sound.proofs.Checking.{branches_of}
use Rattle.zw_wasm_sound.proofs.Entering.{same_type-is, same_types-are}

-- ---- known operands that are taken

pub onto : (t : ValType) (ts us : List ValType) → reverse (t ∷ ts) ++ us ≡ reverse ts ++ t ∷ us
onto t ts us = ap (λ l. l ++ us) (reverse-append (t ∷ []) ts) ∙ append_assoc (reverse ts) (t ∷ []) us

pub put-known : (ps ts : List ValType) → put_on ps (known ts) ≡ known (reverse ps ++ ts)
put-known [] ts = refl
put-known (p ∷ ps) ts = put-known ps (p ∷ ts) ∙ ap known (sym (onto p ps ts))

-- operands of these types were there
pub record WereThere (takes ts : List ValType) (rest : List Operand) : Type 0 where
  pub below : List ValType
  pub whole : ts ≡ takes ++ below
  pub left : rest ≡ known below

one_there : (t u : ValType) (ts : List ValType) (rest : List Operand) (b : Bool) → same_type t u ≡ b → cond b (Some (known ts)) None ≡ Some rest → WereThere (t ∷ []) (u ∷ ts) rest
one_there t u ts rest true same e = record { below = ts; whole = ap (λ v. v ∷ ts) (sym (same_type-is t u same)); left = sym (cc) }
one_there t u ts rest false same e = absurd (cc)

taken-there : (t : ValType) (ts : List ValType) (rest : List Operand) → taken t (known ts) false ≡ Some rest → WereThere (t ∷ []) ts rest
taken-there t [] rest e = absurd (cc)
taken-there t (u ∷ ts) rest e = one_there t u ts rest (same_type t u) refl e

pub all_there : (takes ts : List ValType) (rest : List Operand) → all_taken takes (known ts) false ≡ Some rest → WereThere (reverse takes) ts rest
all_there [] ts rest e = record { below = ts; whole = refl; left = sym (cc) }
all_there (t ∷ takes) ts rest e = behind (all_taken takes (known ts) false) (λ more f. all_there takes ts more f) e
  where
    first : (more : List Operand) → WereThere (reverse takes) ts more → taken t more false ≡ Some rest → WereThere (reverse (t ∷ takes)) ts rest
    first more w f =
        let one = taken-there t w.below rest (ap (λ os. taken t os false) (sym w.left) ∙ f) in
        record { below = one.below; whole = w.whole ∙ ap (λ us. reverse takes ++ us) one.whole ∙ sym (onto t takes one.below); left = one.left }

    behind : (o : Option (List Operand)) → ((more : List Operand) → o ≡ Some more → WereThere (reverse takes) ts more) → and_taken o (λ os. taken t os false) ≡ Some rest → WereThere (reverse (t ∷ takes)) ts rest
    behind None there f = absurd (cc)
    behind (Some more) there f = first more (there more refl) f

-- ---- what an accepted instruction does to operands that are known

abbrev pub Arrives : InstrType → List ValType → Control → List Operand → Control → Type 0
Arrives (Replaces takes puts) ts c os d = (below : List ValType) × (ts ≡ takes ++ below) × (os ≡ known (puts ++ below)) × (d ≡ c)
Arrives (Leaves takes) ts c os d = (below : List ValType) × (ts ≡ takes ++ below)

pub record HasTypeFor (x : Context) (ls : List (List ValType)) (i : Instr) (ts : List ValType) (c : Control) (os : List Operand) (d : Control) : Type 0 where
  pub ty : InstrType
  pub has : HasType x ls i ty
  pub arrives : Arrives ty ts c os d

abbrev pub Comes : Context → List (List ValType) → Instr → List ValType → Control → Checked → Type 0
Comes x ls i ts c (Goes os d others) = HasTypeFor x ls i ts c os d
Comes x ls i ts c Closes = ⊥
Comes x ls i ts c (Refused code) = Unit {0}

module _ (x : Context) (ls : List (List ValType)) (i : Instr) (ts : List ValType) (c : Control) (outer : List Control) (reached : c.unreachable ≡ false) where
  abbrev Ok : Checked → Type 0
  Ok r = Comes x ls i ts c r

  pub comes-operands : (takes us : List ValType) (go : List Operand → Checked) → ((below : List ValType) → us ≡ reverse takes ++ below → Ok (go (known below))) → Ok (with_operands (all_taken takes (known us) c.unreachable) go)
  comes-operands takes us go h = by_rest (all_taken takes (known us) c.unreachable) refl
    where
      by_rest : (o : Option (List Operand)) → all_taken takes (known us) c.unreachable ≡ o → Ok (with_operands o go)
      by_rest None e = tt
      by_rest (Some rest) e =
          let w = all_there takes us rest (ap (λ u. all_taken takes (known us) u) (sym reached) ∙ e) in
          subst (λ os. Ok (go os)) (sym w.left) (h w.below w.whole)

  pub comes-index : {A : Type 0} (o : Option A) (go : A → Checked) → ((y : A) → o ≡ Some y → Ok (go y)) → Ok (with_index o go)
  comes-index None go h = tt
  comes-index (Some y) go h = h y refl

  pub comes-if : (b : Bool) (a e : Checked) → (b ≡ true → Ok a) → Ok e → Ok (cond b a e)
  comes-if true a e h k = h refl
  comes-if false a e h k = k

  pub arrived : (takes puts below : List ValType) (os : List Operand) → HasType x ls i (Replaces takes puts) → ts ≡ takes ++ below → os ≡ known (puts ++ below) → Ok (Goes os c outer)
  arrived takes puts below os has e f = record { ty = Replaces takes puts; has = has; arrives = (below, e, f, refl) }

  pub comes-replaces : (takes puts : List ValType) → HasType x ls i (Replaces (reverse takes) (reverse puts)) → Ok (replaces takes puts (known ts) c outer)
  comes-replaces takes puts has =
      comes-operands takes ts (λ rest. Goes (put_on puts rest) c outer)
      (λ below e. arrived (reverse takes) (reverse puts) below (put_on puts (known below)) has e (put-known puts below))

  pub comes-leaving : (takes : List ValType) → HasType x ls i (Leaves (reverse takes)) → Ok (never_goes_on takes (known ts) c outer)
  comes-leaving takes has =
      comes-operands takes ts (λ rest. Goes [] (record c { unreachable = true }) outer)
      (λ below e. record { ty = Leaves (reverse takes); has = has; arrives = (below, e) })

  pub comes-one : (us : List ValType) (go : Operand → List Operand → Checked) → ((t : ValType) (below : List ValType) → us ≡ t ∷ below → Ok (go (Known t) (known below))) → Ok (with_one (one_taken (known us) c.unreachable) go)
  comes-one [] go h = subst (λ u. Ok (with_one (one_taken [] u) go)) (sym reached) tt
  comes-one (t ∷ below) go h = h t below refl

  pub comes-access : (w : Width) (at : MemoryArgument) (takes puts : List ValType) → ((memory : Limits) → slice_get x.module_.memories 0 ≡ Some memory → nat_le at.align (natural_alignment w) ≡ true → HasType x ls i (Replaces (reverse takes) (reverse puts))) → Ok (accesses x w at takes puts (known ts) c outer)
  comes-access w at takes puts has =
      comes-index (slice_get x.module_.memories 0) (λ memory. with_operands (all_taken takes (known ts) c.unreachable) (λ rest. aligned w at (Goes (put_on puts rest) c outer)))
      (λ memory is. comes-operands takes ts (λ rest. aligned w at (Goes (put_on puts rest) c outer))
      (λ below e. comes-if (nat_le at.align (natural_alignment w)) (Goes (put_on puts (known below)) c outer) (Refused wrong_alignment)
      (λ fits. arrived (reverse takes) (reverse puts) below (put_on puts (known below)) (has memory is fits) e (put-known puts below)) tt))

  -- one of two operands of one type
  pub comes-chosen : (t u : ValType) (below : List ValType) → ts ≡ ty.I32 ∷ t ∷ u ∷ below → ((v : ValType) → HasType x ls i (Replaces (ty.I32 ∷ v ∷ v ∷ []) (v ∷ []))) → Ok (chosen_one (joined (Known t) (Known u)) (known below) c outer)
  comes-chosen t u below e has = by_type (same_type t u) refl
    where
      by_type : (b : Bool) → same_type t u ≡ b → Ok (chosen_one (cond b (Some (Known t)) None) (known below) c outer)
      by_type false same = tt
      by_type true same =
          arrived (ty.I32 ∷ t ∷ t ∷ []) (t ∷ []) below (Known t ∷ known below) (has t) (e ∙ ap (λ v. ty.I32 ∷ t ∷ v ∷ below) (sym (same_type-is t u same))) refl

-- ---- labels

-- the entry with a number, by what a branch to it takes
pub label-at : (cs : List Control) (n : ℕ) (d : Control) → slice_get cs n ≡ Some d → slice_get (branches_of cs) n ≡ Some d.branch
label-at cs n d e = slice_get-map (λ (k : Control). k.branch) cs n ∙ ap (option_map (λ (k : Control). k.branch)) e

pub all-each : {A : Type 0} (p : A → Bool) (xs : List A) (k : ℕ) (y : A) → list_all p xs ≡ true → slice_get xs k ≡ Some y → p y ≡ true
all-each p [] k y h e = absurd (cc)
all-each p (z ∷ xs) zero y h e =
    let same : z ≡ y = cc in
    ap p (sym same) ∙ (and_parts (p z) (list_all p xs) h).0
all-each p (z ∷ xs) (suc k) y h e = all-each p xs k y (and_parts (p z) (list_all p xs) h).1 e

pub branches-so : (ts : List ValType) (cs : List Control) (n : ℕ) (o : Option Control) → slice_get cs n ≡ o → branches_so ts o ≡ true → slice_get (branches_of cs) n ≡ Some ts
branches-so ts cs n None e h = absurd (cc)
branches-so ts cs n (Some d) e h = label-at cs n d e ∙ ap (λ us. Some us) (sym (same_types-are ts d.branch h))

-- the last type that is taken stands first
pub last-first : (x : Context) (ls : List (List ValType)) (i : Instr) (bs puts : List ValType) → HasType x ls i (Replaces (ty.I32 ∷ reverse bs) puts) → HasType x ls i (Replaces (reverse (bs ++ ty.I32 ∷ [])) puts)
last-first x ls i bs puts h = subst (λ ts. HasType x ls i (Replaces ts puts)) (sym (reverse-append bs (ty.I32 ∷ []))) h

pub leaves-first : (x : Context) (ls : List (List ValType)) (i : Instr) (bs : List ValType) → HasType x ls i (Leaves (ty.I32 ∷ reverse bs)) → HasType x ls i (Leaves (reverse (bs ++ ty.I32 ∷ [])))
leaves-first x ls i bs h = subst (λ ts. HasType x ls i (Leaves ts)) (sym (reverse-append bs (ty.I32 ∷ []))) h
