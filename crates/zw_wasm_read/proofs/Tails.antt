-- Bytes spell one module at most: the sections of two modules at one place are the same.
use Rattle.std.proofs.Common.{◌≡◌, ◌⊎◌, ℕ, zero, suc, ◌+◌, ◌-◌, ◌≤◌, List, [], ◌∷◌, ◌++◌, Option, Some, None, refl, sym, ap, subst, ◌∙◌, inl, inr, append_assoc, arith}
use Rattle.std.specs.List.{concat, AllByRecursion}
use Rattle.zw_wasm.specs.declared.module.CodeBody.{CodeBody}
use Rattle.zw_wasm.specs.declared.module.DataSegment.{DataSegment}
use Rattle.zw_wasm.specs.declared.module.Element.{Element}
use Rattle.zw_wasm.specs.declared.module.ExportDef.{ExportDef}
use Rattle.zw_wasm.specs.declared.module.FuncImport.{FuncImport}
use Rattle.zw_wasm.specs.declared.module.FuncType.{FuncType}
use Rattle.zw_wasm.specs.declared.module.GlobalDef.{GlobalDef}
use Rattle.zw_wasm.specs.declared.module.Limits.{Limits}
use Rattle.zw_wasm.specs.declared.module.Module.{Module}
use Rattle.zw_wasm.specs.ModuleBytes.{◌⌢◌, IsU32, IsVector, IsSection, IsListSection, IsStartSection, IsCustomSection, AreCustomSections, Behind, IsSomeName, Anything, IsFunctionType, IsFunctionImport, IsTableType, AreLimits, IsGlobal, IsExport, IsElement, IsCode, IsDataSegment, IsHeader, AreFrontSections, AreBackSections, ModuleBytes}
use Rattle.zw_wasm_read.specs.Reads.{Leaves}
use Rattle.zw_wasm_read.specs.Stops.{IsFrame}
use Rattle.zw_wasm_read.specs.Uniqueness.{Sure}
use Rattle.zw_wasm_read.proofs.EntryLemmas.{all_of, all_is, sure-import, sure-global, sure-export, sure-element, sure-code, sure-data}
use Rattle.zw_wasm_read.proofs.Leaving.{turn, then, byte-whole}
use Rattle.zw_wasm_read.proofs.Uniqueness.{sure-byte, sure-u32, sure-byte_vector, sure-vector, sure-function_type, sure-table_type, sure-limits, then_one, exactly-rest}

-- ---- one section

pub frame_one : (id : ℕ) (c d : List ℕ) (bytes r s : List ℕ) → Leaves (IsFrame id c) bytes r → Leaves (IsFrame id d) bytes s → (c ≡ d) × (r ≡ s)
frame_one id c d bytes r s l m = let same = then_one sure-byte sure-byte_vector l m in (same.1, same.2)

pub section_parts : (id : ℕ) (P : List ℕ → Type 0) (bytes rest : List ℕ) → Leaves (IsSection id P) bytes rest → (content : List ℕ) × P content × Leaves (IsFrame id content) bytes rest
section_parts id P bytes rest l =
    let t = turn l in
    let s = t.second.spelled in
    (s.content, s.inside, then t.first (record { front = t.second.front; spelled = s.vector; whole = t.second.whole }))

pub section_one : (id : ℕ) (P Q : List ℕ → Type 0) (bytes r s : List ℕ) → Leaves (IsSection id P) bytes r → Leaves (IsSection id Q) bytes s → (content : List ℕ) × P content × Q content × (r ≡ s)
section_one id P Q bytes r s l m =
    let a = section_parts id P bytes r l in
    let b = section_parts id Q bytes s m in
    let same = frame_one id a.0 b.0 bytes r s a.2 b.2 in
    (b.0, subst P same.0 a.1, b.1, same.1)

-- its first byte
pub section_first : (id : ℕ) (P : List ℕ → Type 0) (front : List ℕ) → IsSection id P front → (more : List ℕ) × (front ≡ id ∷ more)
section_first id P front s = (s.back, s.whole ∙ ap (λ (f : List ℕ). f ++ s.back) s.first)

whole_of : (P : List ℕ → Type 0) (a r : List ℕ) → P a → Leaves P (a ++ r) r
whole_of P a r p = record { front = a; spelled = p; whole = refl }

-- ---- custom sections, and others

customs_view : (sections : List (List ℕ)) (c : List ℕ) → AllByRecursion IsCustomSection sections → c ≡ concat sections → (c ≡ []) ⊎ ((d : List ℕ) × (e : List ℕ) × IsCustomSection d × AreCustomSections e × (c ≡ d ++ e))
customs_view [] c each whole = inl whole
customs_view (d ∷ ds) c each whole = inr (d, concat ds, each.0, record { sections = ds; each = each.1; whole = refl }, whole)

-- custom sections, then a section or nothing, and then the rest
record View (L R : List ℕ → Type 0) (bytes : List ℕ) : Type 0 where
  c : List ℕ
  l : List ℕ
  t : List ℕ
  customs : AreCustomSections c
  here : L l
  rest : R t
  whole : bytes ≡ c ++ (l ++ t)

view : {L R : List ℕ → Type 0} {bytes : List ℕ} → (Behind L ⌢ R) bytes → View L R bytes
view v = record {
  c = v.first.front;
  l = v.first.back;
  t = v.back;
  customs = v.first.first;
  here = v.first.second;
  rest = v.second;
  whole = v.whole ∙ ap (λ (f : List ℕ). f ++ v.back) v.first.whole ∙ append_assoc v.first.front v.first.back v.back;
}

unview : {L R : List ℕ → Type 0} (c l t bytes : List ℕ) → AreCustomSections c → L l → R t → bytes ≡ c ++ (l ++ t) → (Behind L ⌢ R) bytes
unview c l t bytes cs h r e = record {
  front = c ++ l;
  back = t;
  first = record { front = c; back = l; first = cs; second = h; whole = refl };
  second = r;
  whole = e ∙ sym (append_assoc c l t);
}

no_customs : AreCustomSections []
no_customs = record { sections = []; each = tt; whole = refl }

-- a section that is left out has no bytes, and another begins with its number
pub record Listed (k : ℕ) (L : List ℕ → Type 0) : Type 0 where
  pub shape : (l : List ℕ) → L l → (l ≡ []) ⊎ ((more : List ℕ) × (l ≡ k ∷ more))

-- what follows begins with a custom section or a number from k on, and goes without its custom sections
pub record Tailed (k : ℕ) (R : List ℕ → Type 0) : Type 0 where
  pub heads : (b : ℕ) (more : List ℕ) → R (b ∷ more) → (b ≡ 0) ⊎ ((k ≤ b) × (b ≤ 11))
  pub skip : (bytes rest : List ℕ) → Leaves IsCustomSection bytes rest → R bytes → R rest
  pub first : (more : List ℕ) → R (0 ∷ more) → (rest : List ℕ) × Leaves IsCustomSection (0 ∷ more) rest

heads_same : (b c : ℕ) (x y : List ℕ) → b ∷ x ≡ c ∷ y → b ≡ c
heads_same b c x y e = cc

custom_first : (bytes rest : List ℕ) → Leaves IsCustomSection bytes rest → (more : List ℕ) × (bytes ≡ 0 ∷ more)
custom_first bytes rest l = let t = turn l in (t.mid, byte-whole t.first)

custom_one : (bytes r s : List ℕ) → Leaves IsCustomSection bytes r → Leaves IsCustomSection bytes s → r ≡ s
custom_one bytes r s l m = let same = section_one 0 (IsSomeName ⌢ Anything) (IsSomeName ⌢ Anything) bytes r s l m in same.3

-- the custom sections at the very end
end_heads : (b : ℕ) (more c : List ℕ) → c ≡ b ∷ more → (c ≡ []) ⊎ ((d : List ℕ) × (e : List ℕ) × IsCustomSection d × AreCustomSections e × (c ≡ d ++ e)) → b ≡ 0
end_heads b more c w (inl none) = let wrong : [] ≡ b ∷ more = sym none ∙ w in absurd cc
end_heads b more c w (inr v) =
    let f = section_first 0 (IsSomeName ⌢ Anything) v.0 v.2 in
    heads_same b 0 more (f.0 ++ v.1) (sym w ∙ v.4 ∙ ap (λ (d : List ℕ). d ++ v.1) f.1)

end_skip : (bytes rest : List ℕ) → Leaves IsCustomSection bytes rest → (bytes ≡ []) ⊎ ((d : List ℕ) × (e : List ℕ) × IsCustomSection d × AreCustomSections e × (bytes ≡ d ++ e)) → AreCustomSections rest
end_skip bytes rest l (inl none) = let f = custom_first bytes rest l in let wrong : [] ≡ 0 ∷ f.0 = sym none ∙ f.1 in absurd cc
end_skip bytes rest l (inr v) =
    let m : Leaves IsCustomSection bytes v.1 = record { front = v.0; spelled = v.2; whole = v.4 } in
    subst AreCustomSections (sym (custom_one bytes rest v.1 l m)) v.3

end_first : (more c : List ℕ) → c ≡ 0 ∷ more → (c ≡ []) ⊎ ((d : List ℕ) × (e : List ℕ) × IsCustomSection d × AreCustomSections e × (c ≡ d ++ e)) → (rest : List ℕ) × Leaves IsCustomSection (0 ∷ more) rest
end_first more c w (inl none) = let wrong : [] ≡ 0 ∷ more = sym none ∙ w in absurd cc
end_first more c w (inr v) = (v.1, record { front = v.0; spelled = v.2; whole = sym w ∙ v.4 })

tail_end : Tailed 12 AreCustomSections
tail_end = record {
  heads = λ b more r. inl (end_heads b more (b ∷ more) refl (customs_view r.sections (b ∷ more) r.each r.whole));
  skip = λ bytes rest l r. end_skip bytes rest l (customs_view r.sections bytes r.each r.whole);
  first = λ more r. end_first more (0 ∷ more) refl (customs_view r.sections (0 ∷ more) r.each r.whole);
}

-- ---- one section more in front

later_heads : (k b : ℕ) → (b ≡ 0) ⊎ ((k + 1 ≤ b) × (b ≤ 11)) → (b ≡ 0) ⊎ ((k ≤ b) × (b ≤ 11))
later_heads k b (inl e) = inl e
later_heads k b (inr e) = inr (omega arith, e.1)

abbrev CustomsView : List ℕ → Type 0
CustomsView c = (c ≡ []) ⊎ ((d : List ℕ) × (e : List ℕ) × IsCustomSection d × AreCustomSections e × (c ≡ d ++ e))

abbrev Shape : ℕ → List ℕ → Type 0
Shape k l = (l ≡ []) ⊎ ((others : List ℕ) × (l ≡ k ∷ others))

of_customs : (c : List ℕ) → AreCustomSections c → CustomsView c
of_customs c cs = customs_view cs.sections c cs.each cs.whole

-- behind the first custom section
behind_custom : (d e x bytes : List ℕ) (c : List ℕ) → IsCustomSection d → c ≡ d ++ e → bytes ≡ c ++ x → Leaves IsCustomSection bytes (e ++ x)
behind_custom d e x bytes c custom split whole = record { front = d; spelled = custom; whole = whole ∙ ap (λ (f : List ℕ). f ++ x) split ∙ append_assoc d e x }

without : (c x bytes : List ℕ) → c ≡ [] → bytes ≡ c ++ x → bytes ≡ x
without c x bytes none whole = whole ∙ ap (λ (f : List ℕ). f ++ x) none

heads_by : {R : List ℕ → Type 0} (k b : ℕ) (more c l t : List ℕ) → k ≤ 11 → Tailed (k + 1) R → CustomsView c → Shape k l → R t → b ∷ more ≡ c ++ (l ++ t) → (b ≡ 0) ⊎ ((k ≤ b) × (b ≤ 11))
heads_by k b more c l t small tail (inr v) shape r e =
    let f = custom_first (b ∷ more) (v.1 ++ (l ++ t)) (behind_custom v.0 v.1 (l ++ t) (b ∷ more) c v.2 v.4 e) in
    inl (heads_same b 0 more f.0 f.1)
heads_by k b more c l t small tail (inl none) (inr f) r e =
    let same : b ≡ k = heads_same b k more (f.0 ++ t) (without c (l ++ t) (b ∷ more) none e ∙ ap (λ (x : List ℕ). x ++ t) f.1) in
    inr (omega arith, omega arith)
heads_by {R} k b more c l t small tail (inl none) (inl empty) r e =
    let whole : t ≡ b ∷ more = sym (without c (l ++ t) (b ∷ more) none e ∙ ap (λ (x : List ℕ). x ++ t) empty) in
    later_heads k b (tail.heads b more (subst R whole r))

skip_by : {L R : List ℕ → Type 0} (k : ℕ) (bytes rest c l t : List ℕ) → 1 ≤ k → Tailed (k + 1) R → Leaves IsCustomSection bytes rest → CustomsView c → Shape k l → L l → R t → bytes ≡ c ++ (l ++ t) → (Behind L ⌢ R) rest
skip_by k bytes rest c l t some tail custom (inr v) shape h r e =
    let same = custom_one bytes rest (v.1 ++ (l ++ t)) custom (behind_custom v.0 v.1 (l ++ t) bytes c v.2 v.4 e) in
    unview v.1 l t rest v.3 h r same
skip_by k bytes rest c l t some tail custom (inl none) (inr f) h r e =
    let g = custom_first bytes rest custom in
    let same : 0 ≡ k = heads_same 0 k g.0 (f.0 ++ t) (sym g.1 ∙ without c (l ++ t) bytes none e ∙ ap (λ (x : List ℕ). x ++ t) f.1) in
    absurd (omega arith)
skip_by {L} {R} k bytes rest c l t some tail custom (inl none) (inl empty) h r e =
    let whole : bytes ≡ t = without c (l ++ t) bytes none e ∙ ap (λ (x : List ℕ). x ++ t) empty in
    unview [] [] rest rest no_customs (subst L empty h) (tail.skip t rest (subst (λ (b : List ℕ). Leaves IsCustomSection b rest) whole custom) r) refl

first_by : {R : List ℕ → Type 0} (k : ℕ) (more c l t : List ℕ) → 1 ≤ k → Tailed (k + 1) R → CustomsView c → Shape k l → R t → 0 ∷ more ≡ c ++ (l ++ t) → (rest : List ℕ) × Leaves IsCustomSection (0 ∷ more) rest
first_by k more c l t some tail (inr v) shape r e = (v.1 ++ (l ++ t), behind_custom v.0 v.1 (l ++ t) (0 ∷ more) c v.2 v.4 e)
first_by k more c l t some tail (inl none) (inr f) r e =
    let same : 0 ≡ k = heads_same 0 k more (f.0 ++ t) (without c (l ++ t) (0 ∷ more) none e ∙ ap (λ (x : List ℕ). x ++ t) f.1) in
    absurd (omega arith)
first_by {R} k more c l t some tail (inl none) (inl empty) r e =
    let whole : t ≡ 0 ∷ more = sym (without c (l ++ t) (0 ∷ more) none e ∙ ap (λ (x : List ℕ). x ++ t) empty) in
    tail.first more (subst R whole r)

tail_more : {L R : List ℕ → Type 0} (k : ℕ) → 1 ≤ k → k ≤ 11 → Listed k L → Tailed (k + 1) R → Tailed k (Behind L ⌢ R)
tail_more k some small listed tail = record {
  heads = λ b more r. let v = view r in heads_by k b more v.c v.l v.t small tail (of_customs v.c v.customs) (listed.shape v.l v.here) v.rest v.whole;
  skip = λ bytes rest custom r. let v = view r in skip_by k bytes rest v.c v.l v.t some tail custom (of_customs v.c v.customs) (listed.shape v.l v.here) v.here v.rest v.whole;
  first = λ more r. let v = view r in first_by k more v.c v.l v.t some tail (of_customs v.c v.customs) (listed.shape v.l v.here) v.rest v.whole;
}

-- a section that stands here
pub record Here (k : ℕ) (L R : List ℕ → Type 0) (bytes : List ℕ) : Type 0 where
  pub l : List ℕ
  pub t : List ℕ
  pub section : L l
  pub rest : R t
  pub whole : bytes ≡ l ++ t
  pub others : List ℕ
  pub first : l ≡ k ∷ others

no_head : (k : ℕ) → (k ≡ 0) ⊎ ((k + 1 ≤ k) × (k ≤ 11)) → 1 ≤ k → ⊥
no_head k (inl e) some = omega arith
no_head k (inr e) some = omega arith

here_by : {L R : List ℕ → Type 0} (k : ℕ) (more c l t : List ℕ) → 1 ≤ k → Tailed (k + 1) R → CustomsView c → Shape k l → L l → R t → k ∷ more ≡ c ++ (l ++ t) → Here k L R (k ∷ more)
here_by k more c l t some tail (inr v) shape h r e =
    let f = custom_first (k ∷ more) (v.1 ++ (l ++ t)) (behind_custom v.0 v.1 (l ++ t) (k ∷ more) c v.2 v.4 e) in
    let same : k ≡ 0 = heads_same k 0 more f.0 f.1 in
    absurd (omega arith)
here_by k more c l t some tail (inl none) (inr f) h r e = record { l = l; t = t; section = h; rest = r; whole = without c (l ++ t) (k ∷ more) none e; others = f.0; first = f.1 }
here_by {L} {R} k more c l t some tail (inl none) (inl empty) h r e =
    let whole : t ≡ k ∷ more = sym (without c (l ++ t) (k ∷ more) none e ∙ ap (λ (x : List ℕ). x ++ t) empty) in
    absurd (no_head k (tail.heads k more (subst R whole r)) some)

pub here_at : {L R : List ℕ → Type 0} (k : ℕ) (more : List ℕ) → 1 ≤ k → Listed k L → Tailed (k + 1) R → (Behind L ⌢ R) (k ∷ more) → Here k L R (k ∷ more)
here_at k more some listed tail r = let v = view r in here_by k more v.c v.l v.t some tail (of_customs v.c v.customs) (listed.shape v.l v.here) v.here v.rest v.whole

past_by : (R : List ℕ → Type 0) (k id : ℕ) (more c l t : List ℕ) → (id ≡ 0 → ⊥) → (id ≡ k → ⊥) → CustomsView c → Shape k l → R t → id ∷ more ≡ c ++ (l ++ t) → R (id ∷ more)
past_by R k id more c l t some other (inr v) shape r e =
    let f = custom_first (id ∷ more) (v.1 ++ (l ++ t)) (behind_custom v.0 v.1 (l ++ t) (id ∷ more) c v.2 v.4 e) in
    absurd (some (heads_same id 0 more f.0 f.1))
past_by R k id more c l t some other (inl none) (inr f) r e =
    absurd (other (heads_same id k more (f.0 ++ t) (without c (l ++ t) (id ∷ more) none e ∙ ap (λ (x : List ℕ). x ++ t) f.1)))
past_by R k id more c l t some other (inl none) (inl empty) r e =
    let whole : t ≡ id ∷ more = sym (without c (l ++ t) (id ∷ more) none e ∙ ap (λ (x : List ℕ). x ++ t) empty) in
    subst R whole r

pub past_at : {L R : List ℕ → Type 0} (k id : ℕ) (more : List ℕ) → Listed k L → (id ≡ 0 → ⊥) → (id ≡ k → ⊥) → (Behind L ⌢ R) (id ∷ more) → R (id ∷ more)
past_at {L} {R} k id more listed some other r = let v = view r in past_by R k id more v.c v.l v.t some other (of_customs v.c v.customs) (listed.shape v.l v.here) v.rest v.whole

-- without all custom sections
skip_list : {R : List ℕ → Type 0} (k : ℕ) → Tailed k R → (sections : List (List ℕ)) (x : List ℕ) → AllByRecursion IsCustomSection sections → R (concat sections ++ x) → R x
skip_list k tail [] x each r = r
skip_list {R} k tail (d ∷ ds) x each r =
    let joined : (d ++ concat ds) ++ x ≡ d ++ (concat ds ++ x) = append_assoc d (concat ds) x in
    skip_list k tail ds x each.1 (tail.skip (d ++ (concat ds ++ x)) (concat ds ++ x) (whole_of IsCustomSection d (concat ds ++ x) each.0) (subst R joined r))

skip_many : {R : List ℕ → Type 0} (k : ℕ) → Tailed k R → (c x bytes : List ℕ) → AreCustomSections c → bytes ≡ c ++ x → R bytes → R x
skip_many {R} k tail c x bytes cs e r = skip_list k tail cs.sections x cs.each (subst R (e ∙ ap (λ (f : List ℕ). f ++ x) cs.whole) r)

-- ---- the sections of a module, from the last one on

abbrev pub Stage : ℕ → Module → List ℕ → Type 0
Stage zero m = IsListSection 11 IsDataSegment m.datas
Stage (suc zero) m = IsListSection 10 IsCode m.codes
Stage (suc (suc zero)) m = IsListSection 9 IsElement m.elements
Stage (suc (suc (suc zero))) m = IsStartSection m.start
Stage (suc (suc (suc (suc zero)))) m = IsListSection 7 IsExport m.exports
Stage (suc (suc (suc (suc (suc zero))))) m = IsListSection 6 IsGlobal m.globals
Stage (suc (suc (suc (suc (suc (suc zero)))))) m = IsListSection 5 AreLimits m.memories
Stage (suc (suc (suc (suc (suc (suc (suc zero))))))) m = IsListSection 4 IsTableType m.tables
Stage (suc (suc (suc (suc (suc (suc (suc (suc zero)))))))) m = IsListSection 3 IsU32 m.funcs
Stage (suc (suc (suc (suc (suc (suc (suc (suc (suc zero))))))))) m = IsListSection 2 IsFunctionImport m.imports
Stage (suc (suc (suc (suc (suc (suc (suc (suc (suc (suc n)))))))))) m = IsListSection 1 IsFunctionType m.types

-- the last n of them, with the custom sections around them
abbrev pub After : ℕ → Module → List ℕ → Type 0
After zero m = AreCustomSections
After (suc n) m = Behind (Stage n m) ⌢ After n m

list_shape : {X : Type 0} (k : ℕ) (P : X → List ℕ → Type 0) (xs : List X) (l : List ℕ) → IsListSection k P xs l → Shape k l
list_shape k P xs l (inl e) = inl e.1
list_shape k P xs l (inr s) = inr (section_first k (IsVector P xs) l s)

start_shape : (o : Option ℕ) (l : List ℕ) → IsStartSection o l → Shape 8 l
start_shape None l e = inl e
start_shape (Some i) l s = inr (section_first 8 (IsU32 i) l s)

-- which field a section gives
abbrev pub SameStage : ℕ → Module → Module → Type 0
SameStage zero m o = m.datas ≡ o.datas
SameStage (suc zero) m o = m.codes ≡ o.codes
SameStage (suc (suc zero)) m o = m.elements ≡ o.elements
SameStage (suc (suc (suc zero))) m o = m.start ≡ o.start
SameStage (suc (suc (suc (suc zero)))) m o = m.exports ≡ o.exports
SameStage (suc (suc (suc (suc (suc zero))))) m o = m.globals ≡ o.globals
SameStage (suc (suc (suc (suc (suc (suc zero)))))) m o = m.memories ≡ o.memories
SameStage (suc (suc (suc (suc (suc (suc (suc zero))))))) m o = m.tables ≡ o.tables
SameStage (suc (suc (suc (suc (suc (suc (suc (suc zero)))))))) m o = m.funcs ≡ o.funcs
SameStage (suc (suc (suc (suc (suc (suc (suc (suc (suc zero))))))))) m o = m.imports ≡ o.imports
SameStage (suc (suc (suc (suc (suc (suc (suc (suc (suc (suc n)))))))))) m o = m.types ≡ o.types

abbrev pub SameFrom : ℕ → Module → Module → Type 0
SameFrom zero m o = Unit {0}
SameFrom (suc n) m o = SameStage n m o × SameFrom n m o

one_is : (n : ℕ) → n ≡ zero → 1 ≡ 11 - suc (suc (suc (suc (suc (suc (suc (suc (suc (suc n)))))))))
one_is n e = omega arith

at_one : (n : ℕ) (l : List ℕ) → n ≡ zero → ((more : List ℕ) × (l ≡ (11 - suc (suc (suc (suc (suc (suc (suc (suc (suc (suc n)))))))))) ∷ more)) → (more : List ℕ) × (l ≡ 1 ∷ more)
at_one n l e f = (f.0, f.1 ∙ ap (λ (k : ℕ). k ∷ f.0) (sym (one_is n e)))

pub listed_at : (n : ℕ) → n ≤ 10 → (m : Module) → Listed (11 - n) (Stage n m)
listed_at zero small m = record { shape = list_shape 11 IsDataSegment m.datas }
listed_at (suc zero) small m = record { shape = list_shape 10 IsCode m.codes }
listed_at (suc (suc zero)) small m = record { shape = list_shape 9 IsElement m.elements }
listed_at (suc (suc (suc zero))) small m = record { shape = start_shape m.start }
listed_at (suc (suc (suc (suc zero)))) small m = record { shape = list_shape 7 IsExport m.exports }
listed_at (suc (suc (suc (suc (suc zero))))) small m = record { shape = list_shape 6 IsGlobal m.globals }
listed_at (suc (suc (suc (suc (suc (suc zero)))))) small m = record { shape = list_shape 5 AreLimits m.memories }
listed_at (suc (suc (suc (suc (suc (suc (suc zero))))))) small m = record { shape = list_shape 4 IsTableType m.tables }
listed_at (suc (suc (suc (suc (suc (suc (suc (suc zero)))))))) small m = record { shape = list_shape 3 IsU32 m.funcs }
listed_at (suc (suc (suc (suc (suc (suc (suc (suc (suc zero))))))))) small m = record { shape = list_shape 2 IsFunctionImport m.imports }
listed_at (suc (suc (suc (suc (suc (suc (suc (suc (suc (suc n)))))))))) small m = let none : n ≡ zero = omega arith in subst (λ (k : ℕ). Listed k (IsListSection 1 IsFunctionType m.types)) (one_is n none) (record { shape = list_shape 1 IsFunctionType m.types })

pub tailed : (n : ℕ) → n ≤ 11 → (m : Module) → Tailed (12 - n) (After n m)
tailed zero small m = tail_end
tailed (suc n) small m =
    let e : 12 - n ≡ 11 - n + 1 = omega arith in
    let f : 11 - n ≡ 12 - suc n = omega arith in
    let tail = subst (λ (k : ℕ). Tailed k (After n m)) e (tailed n (omega arith) m) in
    subst (λ (k : ℕ). Tailed k (Behind (Stage n m) ⌢ After n m)) f (tail_more (11 - n) (omega arith) (omega arith) (listed_at n (omega arith) m) tail)

-- ---- two modules at one place

list_both : {X : Type 0} (k : ℕ) {P : X → List ℕ → Type 0} → Sure P → (xs ys : List X) (l o t u : List ℕ) → IsListSection k P xs l → IsListSection k P ys o → l ++ t ≡ o ++ u → ((more : List ℕ) × (l ≡ k ∷ more)) → ((more : List ℕ) × (o ≡ k ∷ more)) → (xs ≡ ys) × (t ≡ u)
list_both k sure xs ys l o t u (inl e) q w f g = let wrong : [] ≡ k ∷ f.0 = sym e.1 ∙ f.1 in absurd cc
list_both k sure xs ys l o t u (inr p) (inl e) w f g = let wrong : [] ≡ k ∷ g.0 = sym e.1 ∙ g.1 in absurd cc
list_both k {P} sure xs ys l o t u (inr p) (inr q) w f g =
    let same = section_one k (IsVector P xs) (IsVector P ys) (l ++ t) t u (whole_of (IsSection k (IsVector P xs)) l t p) (record { front = o; spelled = q; whole = w }) in
    let vectors = sure-vector sure in
    let equal = vectors.one xs ys same.0 [] [] (all_of same.0 same.1) (all_of same.0 same.2) in
    (equal.0, same.3)

list_none : {X : Type 0} (k : ℕ) (P : X → List ℕ → Type 0) (xs : List X) → IsListSection k P xs [] → xs ≡ []
list_none k P xs (inl e) = e.0
list_none k P xs (inr s) = let f = section_first k (IsVector P xs) [] s in let wrong : [] ≡ k ∷ f.0 = f.1 in absurd cc

start_both : (x y : Option ℕ) (l o t u : List ℕ) → IsStartSection x l → IsStartSection y o → l ++ t ≡ o ++ u → ((more : List ℕ) × (l ≡ 8 ∷ more)) → ((more : List ℕ) × (o ≡ 8 ∷ more)) → (x ≡ y) × (t ≡ u)
start_both None y l o t u p q w f g = let wrong : [] ≡ 8 ∷ f.0 = sym p ∙ f.1 in absurd cc
start_both (Some i) None l o t u p q w f g = let wrong : [] ≡ 8 ∷ g.0 = sym q ∙ g.1 in absurd cc
start_both (Some i) (Some j) l o t u p q w f g =
    let same = section_one 8 (IsU32 i) (IsU32 j) (l ++ t) t u (whole_of (IsSection 8 (IsU32 i)) l t p) (record { front = o; spelled = q; whole = w }) in
    let index = sure-u32.one i j same.0 [] [] (all_of same.0 same.1) (all_of same.0 same.2) in
    (ap (λ (n : ℕ). Some n) index.0, same.3)

start_none : (x : Option ℕ) → IsStartSection x [] → x ≡ None
start_none None e = refl
start_none (Some i) s = let f = section_first 8 (IsU32 i) [] s in let wrong : [] ≡ 8 ∷ f.0 = f.1 in absurd cc

stage_both : (n : ℕ) → n ≤ 10 → (m v : Module) (l o t u : List ℕ) → Stage n m l → Stage n v o → l ++ t ≡ o ++ u → ((more : List ℕ) × (l ≡ (11 - n) ∷ more)) → ((more : List ℕ) × (o ≡ (11 - n) ∷ more)) → SameStage n m v × (t ≡ u)
stage_both zero small m v l o t u p q w f g = list_both 11 sure-data m.datas v.datas l o t u p q w f g
stage_both (suc zero) small m v l o t u p q w f g = list_both 10 sure-code m.codes v.codes l o t u p q w f g
stage_both (suc (suc zero)) small m v l o t u p q w f g = list_both 9 sure-element m.elements v.elements l o t u p q w f g
stage_both (suc (suc (suc zero))) small m v l o t u p q w f g = start_both m.start v.start l o t u p q w f g
stage_both (suc (suc (suc (suc zero)))) small m v l o t u p q w f g = list_both 7 sure-export m.exports v.exports l o t u p q w f g
stage_both (suc (suc (suc (suc (suc zero))))) small m v l o t u p q w f g = list_both 6 sure-global m.globals v.globals l o t u p q w f g
stage_both (suc (suc (suc (suc (suc (suc zero)))))) small m v l o t u p q w f g = list_both 5 sure-limits m.memories v.memories l o t u p q w f g
stage_both (suc (suc (suc (suc (suc (suc (suc zero))))))) small m v l o t u p q w f g = list_both 4 sure-table_type m.tables v.tables l o t u p q w f g
stage_both (suc (suc (suc (suc (suc (suc (suc (suc zero)))))))) small m v l o t u p q w f g = list_both 3 sure-u32 m.funcs v.funcs l o t u p q w f g
stage_both (suc (suc (suc (suc (suc (suc (suc (suc (suc zero))))))))) small m v l o t u p q w f g = list_both 2 sure-import m.imports v.imports l o t u p q w f g
stage_both (suc (suc (suc (suc (suc (suc (suc (suc (suc (suc n)))))))))) small m v l o t u p q w f g = let none : n ≡ zero = omega arith in list_both 1 sure-function_type m.types v.types l o t u p q w (at_one n l none f) (at_one n o none g)

stage_none : (n : ℕ) (m v : Module) → Stage n m [] → Stage n v [] → SameStage n m v
stage_none zero m v p q = list_none 11 IsDataSegment m.datas p ∙ sym (list_none 11 IsDataSegment v.datas q)
stage_none (suc zero) m v p q = list_none 10 IsCode m.codes p ∙ sym (list_none 10 IsCode v.codes q)
stage_none (suc (suc zero)) m v p q = list_none 9 IsElement m.elements p ∙ sym (list_none 9 IsElement v.elements q)
stage_none (suc (suc (suc zero))) m v p q = start_none m.start p ∙ sym (start_none v.start q)
stage_none (suc (suc (suc (suc zero)))) m v p q = list_none 7 IsExport m.exports p ∙ sym (list_none 7 IsExport v.exports q)
stage_none (suc (suc (suc (suc (suc zero))))) m v p q = list_none 6 IsGlobal m.globals p ∙ sym (list_none 6 IsGlobal v.globals q)
stage_none (suc (suc (suc (suc (suc (suc zero)))))) m v p q = list_none 5 AreLimits m.memories p ∙ sym (list_none 5 AreLimits v.memories q)
stage_none (suc (suc (suc (suc (suc (suc (suc zero))))))) m v p q = list_none 4 IsTableType m.tables p ∙ sym (list_none 4 IsTableType v.tables q)
stage_none (suc (suc (suc (suc (suc (suc (suc (suc zero)))))))) m v p q = list_none 3 IsU32 m.funcs p ∙ sym (list_none 3 IsU32 v.funcs q)
stage_none (suc (suc (suc (suc (suc (suc (suc (suc (suc zero))))))))) m v p q = list_none 2 IsFunctionImport m.imports p ∙ sym (list_none 2 IsFunctionImport v.imports q)
stage_none (suc (suc (suc (suc (suc (suc (suc (suc (suc (suc n)))))))))) m v p q = list_none 1 IsFunctionType m.types p ∙ sym (list_none 1 IsFunctionType v.types q)

-- what the last n sections of both are, by the first of them
abbrev pub Below : ℕ → Module → Module → Type 0
Below n m v = (bytes : List ℕ) → After n m bytes → After n v bytes → SameFrom n m v

too_low : (n : ℕ) → (11 - n ≡ 0) ⊎ ((12 - n ≤ 11 - n) × (11 - n ≤ 11)) → n ≤ 10 → ⊥
too_low n (inl e) small = omega arith
too_low n (inr e) small = omega arith

same_left_out : (n : ℕ) → n ≤ 10 → (m v : Module) → Below n m v → (c l t bytes : List ℕ) → Stage n m [] → After n m bytes → Shape (11 - n) l → AreCustomSections c → Stage n v l → After n v t → bytes ≡ c ++ (l ++ t) → SameFrom (suc n) m v
same_left_out n small m v below c l t bytes none r (inr f) cs h rv e =
    let tail = tailed n (omega arith) m in
    let there : After n m (l ++ t) = skip_many (12 - n) tail c (l ++ t) bytes cs e r in
    let at : After n m ((11 - n) ∷ (f.0 ++ t)) = subst (After n m) (ap (λ (x : List ℕ). x ++ t) f.1) there in
    absurd (too_low n (tail.heads (11 - n) (f.0 ++ t) at) small)
same_left_out n small m v below c l t bytes none r (inl empty) cs h rv e =
    let tail = tailed n (omega arith) m in
    let there : After n m (l ++ t) = skip_many (12 - n) tail c (l ++ t) bytes cs e r in
    let at : After n m t = subst (After n m) (ap (λ (x : List ℕ). x ++ t) empty) there in
    (stage_none n m v none (subst (Stage n v) empty h), below t at rv)

same_here : (n : ℕ) → n ≤ 10 → (m v : Module) → Below n m v → (l t : List ℕ) → Shape (11 - n) l → Stage n m l → After n m t → After (suc n) v (l ++ t) → SameFrom (suc n) m v
same_here n small m v below l t (inl empty) h r rv =
    let at : After (suc n) v t = subst (After (suc n) v) (ap (λ (x : List ℕ). x ++ t) empty) rv in
    let w = view at in
    same_left_out n small m v below w.c w.l w.t t (subst (Stage n m) empty h) r ((listed_at n small v).shape w.l w.here) w.customs w.here w.rest w.whole
same_here n small m v below l t (inr f) h r rv =
    let e : 12 - n ≡ 11 - n + 1 = omega arith in
    let tail = subst (λ (k : ℕ). Tailed k (After n v)) e (tailed n (omega arith) v) in
    let start : l ++ t ≡ (11 - n) ∷ (f.0 ++ t) = ap (λ (x : List ℕ). x ++ t) f.1 in
    let other = here_at (11 - n) (f.0 ++ t) (omega arith) (listed_at n small v) tail (subst (After (suc n) v) start rv) in
    let same = stage_both n small m v l other.l t other.t h other.section (start ∙ other.whole) f (other.others, other.first) in
    (same.0, below t r (subst (After n v) (sym same.1) other.rest))

pub same_from : (n : ℕ) → n ≤ 11 → (m v : Module) → Below n m v
same_from zero small m v bytes r rv = tt
same_from (suc n) small m v bytes r rv =
    let w = view r in
    let there : After (suc n) v (w.l ++ w.t) = skip_many (12 - suc n) (tailed (suc n) small v) w.c (w.l ++ w.t) bytes w.customs w.whole rv in
    same_here n (omega arith) m v (same_from n (omega arith) m v) w.l w.t ((listed_at n (omega arith) m).shape w.l w.here) w.here w.rest there

-- ---- whole modules

pub after_header : (m : Module) (bytes : List ℕ) → (IsHeader ⌢ AreFrontSections m ⌢ AreBackSections m ⌢ AreCustomSections) bytes → (rest : List ℕ) × Leaves IsHeader bytes rest × After 11 m rest
after_header m bytes p =
    let t1 = turn (all_of bytes p) in
    let t2 = turn t1.first in
    let t3 = turn t2.first in
    let f7 = turn t3.second in
    let f6 = turn f7.first in
    let f5 = turn f6.first in
    let f4 = turn f5.first in
    let f3 = turn f4.first in
    let f2 = turn f3.first in
    let b11 = turn t2.second in
    let b10 = turn b11.first in
    let b9 = turn b10.first in
    let all = then f2.first (then f2.second (then f3.second (then f4.second (then f5.second (then f6.second (then f7.second (then b9.first (then b9.second (then b10.second (then b11.second t1.second)))))))))) in
    (t3.mid, t3.first, all_is all refl)

abbrev module_of : List FuncType → List FuncImport → List ℕ → List Limits → List Limits → List GlobalDef → List ExportDef → Option ℕ → List Element → List CodeBody → List DataSegment → Module
module_of types imports funcs tables memories globals exports start elements codes datas = record { types = types; imports = imports; funcs = funcs; tables = tables; memories = memories; globals = globals; exports = exports; start = start; elements = elements; codes = codes; datas = datas }

same_module : (m v : Module) → SameFrom 11 m v → m ≡ v
same_module m v s =
    ap (λ (x : List FuncType). module_of x m.imports m.funcs m.tables m.memories m.globals m.exports m.start m.elements m.codes m.datas) s.0
    ∙ ap (λ (x : List FuncImport). module_of v.types x m.funcs m.tables m.memories m.globals m.exports m.start m.elements m.codes m.datas) s.1.0
    ∙ ap (λ (x : List ℕ). module_of v.types v.imports x m.tables m.memories m.globals m.exports m.start m.elements m.codes m.datas) s.1.1.0
    ∙ ap (λ (x : List Limits). module_of v.types v.imports v.funcs x m.memories m.globals m.exports m.start m.elements m.codes m.datas) s.1.1.1.0
    ∙ ap (λ (x : List Limits). module_of v.types v.imports v.funcs v.tables x m.globals m.exports m.start m.elements m.codes m.datas) s.1.1.1.1.0
    ∙ ap (λ (x : List GlobalDef). module_of v.types v.imports v.funcs v.tables v.memories x m.exports m.start m.elements m.codes m.datas) s.1.1.1.1.1.0
    ∙ ap (λ (x : List ExportDef). module_of v.types v.imports v.funcs v.tables v.memories v.globals x m.start m.elements m.codes m.datas) s.1.1.1.1.1.1.0
    ∙ ap (λ (x : Option ℕ). module_of v.types v.imports v.funcs v.tables v.memories v.globals v.exports x m.elements m.codes m.datas) s.1.1.1.1.1.1.1.0
    ∙ ap (λ (x : List Element). module_of v.types v.imports v.funcs v.tables v.memories v.globals v.exports v.start x m.codes m.datas) s.1.1.1.1.1.1.1.1.0
    ∙ ap (λ (x : List CodeBody). module_of v.types v.imports v.funcs v.tables v.memories v.globals v.exports v.start v.elements x m.datas) s.1.1.1.1.1.1.1.1.1.0
    ∙ ap (λ (x : List DataSegment). module_of v.types v.imports v.funcs v.tables v.memories v.globals v.exports v.start v.elements v.codes x) s.1.1.1.1.1.1.1.1.1.1.0

-- the sections of two modules that the same bytes spell
pub same_sections : (m v : Module) (bytes : List ℕ) → (IsHeader ⌢ AreFrontSections m ⌢ AreBackSections m ⌢ AreCustomSections) bytes → (IsHeader ⌢ AreFrontSections v ⌢ AreBackSections v ⌢ AreCustomSections) bytes → m ≡ v
same_sections m v bytes p q =
    let a = after_header m bytes p in
    let b = after_header v bytes q in
    let same = exactly-rest _ a.1 b.1 in
    same_module m v (same_from 11 (omega arith) m v b.0 (subst (After 11 m) same a.2) b.2)

pub one_module : (m v : Module) (bytes : List ℕ) → ModuleBytes m bytes → ModuleBytes v bytes → m ≡ v
one_module m v bytes p q = same_sections m v bytes p.sections q.sections
