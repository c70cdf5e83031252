-- What the code of comparisons, and of the lesser and the greater of two, does when it runs.
use Rattle.std.proofs.Common.{◌≡◌, ℕ, ℤ, pos, ◌+◌, ◌≤◌, Bool, true, false, List, [], ◌∷◌, ◌++◌, Some, Ok, refl, sym, ap, ◌∙◌, subst, arith, lit≤, lit<}
use Rattle.std.specs.Prelude.{nat_eq, slice_get, slice_set, ◌&&◌, if◌then◌else◌}
use Rattle.std.proofs.lemmas.List.{length-set}
use Rattle.std.specs.Int.{w32, w64}
use Rattle.zw_num.specs.Meanings.{number_of_truth}
use Rattle.zw_num.specs.Arithmetic.{IsIn, pattern}
use Rattle.zw_num.specs.declared.int_ty.IntTy.{IntTy}
use Rattle.zw_safety_narrow.proofs.Going.{Moves, moves, andthen, moves-tee, moves-select, leaves}
use Rattle.zw_safety_narrow.proofs.Locals.{slice_get-set_same, slice_get-set_other, keeps-same, keeps-set}
use Rattle.zw_safety_narrow.proofs.NarrowRuns.{EndsOn, long_kept, on_words, steps-extended}
use Rattle.zw_safety_narrow.proofs.Orders.{Relation, IsNatural, fits_word, fits_long, natural, natural_bits}
use Rattle.zw_safety_narrow.proofs.Pieces.{having, steps-set, steps-get, steps-compare_long, steps-compare_word}
use Rattle.zw_safety_narrow.proofs.WordRuns.{both-true}
use Rattle.zw_safety_narrow.specs.Checked.{HasScratch, KeepsOthers}
use Rattle.zw_safety_narrow.specs.CompareCode.{fits_signed, is_unsigned, comparison_code, doubled, choice_code}
use Rattle.zw_safety_narrow.specs.NarrowCode.{extended}
use Rattle.zw_safety_narrow.specs.Operators.{IsNarrow}
use Rattle.zw_wasm.specs.declared.module.Comparison.{Comparison}
use Rattle.zw_wasm.specs.declared.module.Instr.{Instr}
use Rattle.zw_wasm.specs.declared.module.Instr.TheVariants.{Select, Compare}
use Rattle.zw_wasm.specs.declared.module.Module.{Module}
use Rattle.zw_wasm.specs.declared.module.ValType.TheVariants as ty
use Rattle.zw_wasm.specs.declared.num.Num.{Num}
use Rattle.zw_wasm.specs.declared.num.Num.TheVariants.{I32, I64}
use Rattle.zw_wasm.specs.Numerics.{bit_of, is_related}
use Rattle.zw_wasm.specs.Reduction.{Config}
use Rattle.zw_wasm.specs.Signature.{View}

-- ---- locals

pub keeps-then : (s : ℕ) (first second third : List Num) → KeepsOthers s first second → KeepsOthers s second third → KeepsOthers s first third
keeps-then s first second third h k = record {
  count = k.count ∙ h.count;
  below = λ n low. k.below n low ∙ h.below n low;
  above = λ n high. k.above n high ∙ h.above n high;
}

pub keeps-first : (s : ℕ) (before after : List Num) (x : Num) → KeepsOthers s before after → KeepsOthers s before (slice_set after s x)
keeps-first s before after x h = subst (λ n. KeepsOthers s before (slice_set after n x)) (omega arith) (keeps-set s 0 before after x (lit< tt) h)

pub has-scratch : (s : ℕ) (before after : List Num) → KeepsOthers s before after → HasScratch s before → HasScratch s after
has-scratch s before after k h = omega (arith, k.count, h)

-- a piece that leaves one number more, with some locals
pub record Leads (m : Module) (v : View) (c : Config) (is : List Instr) (s : ℕ) (from to locals : List Num) (most : ℕ) : Type 0 where
  pub after : List Num
  pub keeps : KeepsOthers s locals after
  pub runs : Moves m v c is (having from locals) (having to after) most

pub leads-then : {m : Module} {v : View} {c : Config} {is js : List Instr} {s i j : ℕ} {first second third locals : List Num} (a : Leads m v c is s first second locals i) → Leads m v c js s second third a.after j → Leads m v c (is ++ js) s first third locals (i + j)
leads-then {m} {v} {c} {is} {js} {s} {i} {j} {first} {second} {third} {locals} a b =
    record { after = b.after; keeps = keeps-then s locals a.after b.after a.keeps b.keeps; runs = andthen a.runs b.runs }

pub leads : {m : Module} {v : View} {c : Config} {is : List Instr} {from to locals : List Num} {most : ℕ} (s : ℕ) → Moves m v c is (having from locals) (having to locals) most → Leads m v c is s from to locals most
leads {m} {v} {c} {is} {from} {to} {locals} {most} s runs = record { after = locals; keeps = keeps-same s locals; runs = runs }

-- ---- comparisons

-- both operands as they stand on the operands
abbrev pub words : ℤ → ℤ → List Num → List Num
words a b os = I32 (pattern 32 b) ∷ I32 (pattern 32 a) ∷ os

compares-signed : (m : Module) (v : View) (c : Config) (signed unsigned : Comparison) (test : ℤ → ℤ → Bool) (left right : IntTy) (s : ℕ) (a b : ℤ) (os locals : List Num) → Relation signed unsigned test → IsNarrow left → IsNarrow right → IsIn left a → IsIn right b → (fits_signed left && fits_signed right) ≡ true → Leads m v c (Compare ty.I32 signed ∷ []) s (words a b os) (I32 (bit_of (test a b)) ∷ os) locals 8
compares-signed m v c signed unsigned test left right s a b os locals relation hl hr il ir e =
    let both = both-true (fits_signed left) (fits_signed right) e in
    let same = relation.by_sign w32 a b (fits_word left a hl il both.0) (fits_word right b hr ir both.1) in
    leads s (record { count = 1; few = lit≤ tt; steps = steps-compare_word m v c signed (pattern 32 a) (pattern 32 b) (test a b) os locals same })

natural-related : (signed unsigned : Comparison) (test : ℤ → ℤ → Bool) (a b : ℤ) → Relation signed unsigned test → IsNatural a → IsNatural b → is_related unsigned w32 (pattern 32 a) (pattern 32 b) ≡ test a b
natural-related signed unsigned test a b relation na nb =
    ap (λ x. is_related unsigned w32 x (pattern 32 b)) (natural_bits a na) ∙ ap (is_related unsigned w32 na.value) (natural_bits b nb)
    ∙ relation.by_none w32 na.value nb.value ∙ ap (λ x. test x (pos nb.value)) (sym na.is) ∙ ap (test a) (sym nb.is)

compares-unsigned : (m : Module) (v : View) (c : Config) (signed unsigned : Comparison) (test : ℤ → ℤ → Bool) (left right : IntTy) (s : ℕ) (a b : ℤ) (os locals : List Num) → Relation signed unsigned test → IsNarrow left → IsNarrow right → IsIn left a → IsIn right b → (is_unsigned left && is_unsigned right) ≡ true → Leads m v c (Compare ty.I32 unsigned ∷ []) s (words a b os) (I32 (bit_of (test a b)) ∷ os) locals 8
compares-unsigned m v c signed unsigned test left right s a b os locals relation hl hr il ir e =
    let both = both-true (is_unsigned left) (is_unsigned right) e in
    let same = natural-related signed unsigned test a b relation (natural left a hl il both.0) (natural right b hr ir both.1) in
    leads s (record { count = 1; few = lit≤ tt; steps = steps-compare_word m v c unsigned (pattern 32 a) (pattern 32 b) (test a b) os locals same })

compares-long : (m : Module) (v : View) (c : Config) (signed unsigned : Comparison) (test : ℤ → ℤ → Bool) (left right : IntTy) (s : ℕ) (a b : ℤ) (os locals : List Num) → Relation signed unsigned test → IsNarrow left → IsNarrow right → IsIn left a → IsIn right b → HasScratch s locals → Leads m v c (extended left right s ++ Compare ty.I64 signed ∷ []) s (words a b os) (I32 (bit_of (test a b)) ∷ os) locals 8
compares-long m v c signed unsigned test left right s a b os locals relation hl hr il ir scratch =
    let after = long_kept s b locals in
    let same = relation.by_sign w64 a b (fits_long left a hl il) (fits_long right b hr ir) in
    record {
      after = after;
      keeps = keeps-set s 4 locals locals (I64 (pattern 64 b)) (lit< tt) (keeps-same s locals);
      runs = (
          let both = andthen (moves (steps-extended m v c left right s a b os locals hl hr il ir scratch)) (moves (steps-compare_long m v c signed (pattern 64 a) (pattern 64 b) (test a b) os after same)) in
          record { count = both.count; few = omega (arith, both.few); steps = both.steps }
          );
    }

compares_for : (p q : Bool) (m : Module) (v : View) (c : Config) (signed unsigned : Comparison) (test : ℤ → ℤ → Bool) (left right : IntTy) (s : ℕ) (a b : ℤ) (os locals : List Num) → Relation signed unsigned test → IsNarrow left → IsNarrow right → IsIn left a → IsIn right b → HasScratch s locals → (fits_signed left && fits_signed right) ≡ p → (is_unsigned left && is_unsigned right) ≡ q →
    Leads m v c (if p then Compare ty.I32 signed ∷ [] else (if q then Compare ty.I32 unsigned ∷ [] else extended left right s ++ Compare ty.I64 signed ∷ [])) s (words a b os) (I32 (bit_of (test a b)) ∷ os) locals 8
compares_for true q m v c signed unsigned test left right s a b os locals relation hl hr il ir scratch e f =
    compares-signed m v c signed unsigned test left right s a b os locals relation hl hr il ir e
compares_for false true m v c signed unsigned test left right s a b os locals relation hl hr il ir scratch e f =
    compares-unsigned m v c signed unsigned test left right s a b os locals relation hl hr il ir f
compares_for false false m v c signed unsigned test left right s a b os locals relation hl hr il ir scratch e f =
    compares-long m v c signed unsigned test left right s a b os locals relation hl hr il ir scratch

pub compares : (m : Module) (v : View) (c : Config) (signed unsigned : Comparison) (test : ℤ → ℤ → Bool) (left right : IntTy) (s : ℕ) (a b : ℤ) (os locals : List Num) → Relation signed unsigned test → IsNarrow left → IsNarrow right → IsIn left a → IsIn right b → HasScratch s locals → Leads m v c (comparison_code signed unsigned left right s) s (words a b os) (I32 (bit_of (test a b)) ∷ os) locals 8
compares m v c signed unsigned test left right s a b os locals relation hl hr il ir scratch =
    compares_for (fits_signed left && fits_signed right) (is_unsigned left && is_unsigned right) m v c signed unsigned test left right s a b os locals relation hl hr il ir scratch refl refl

truth_bits : (t : Bool) → bit_of t ≡ pattern 32 (number_of_truth t)
truth_bits true = refl
truth_bits false = refl

-- a piece that leaves the bits of a number
pub ends_with : (m : Module) (v : View) (c : Config) (s : ℕ) (left right to : IntTy) (a b z : ℤ) (os : List Num) (is rest : List Instr) (n most : ℕ) → IsNarrow left → IsNarrow right → IsNarrow to → most ≤ 128 → n ≡ pattern 32 z → Leads m v c is s (words a b os) (I32 n ∷ os) c.frame.locals most → EndsOn m v c s left right to a b os is rest (Ok z)
ends_with m v c s left right to a b z os is rest n most hl hr ht few e piece =
    on_words m v c s left right to a b os is rest (Ok z) hl hr
    (leaves m v c s to z (words a b os) os piece.after is rest most ht piece.keeps few
    (subst (λ k. Moves m v c is (having (words a b os) c.frame.locals) (having (I32 k ∷ os) piece.after) most) e piece.runs))

pub comparison-ends : (m : Module) (v : View) (c : Config) (signed unsigned : Comparison) (test : ℤ → ℤ → Bool) (s : ℕ) (left right to : IntTy) (a b : ℤ) (os : List Num) (rest : List Instr) → Relation signed unsigned test → IsNarrow left → IsNarrow right → IsNarrow to → IsIn left a → IsIn right b → HasScratch s c.frame.locals → EndsOn m v c s left right to a b os (comparison_code signed unsigned left right s) rest (Ok (number_of_truth (test a b)))
comparison-ends m v c signed unsigned test s left right to a b os rest relation hl hr ht il ir scratch =
    ends_with m v c s left right to a b (number_of_truth (test a b)) os (comparison_code signed unsigned left right s) rest (bit_of (test a b)) 8 hl hr ht (lit≤ tt) (truth_bits (test a b))
    (compares m v c signed unsigned test left right s a b os c.frame.locals relation hl hr il ir scratch)

-- ---- the lesser and the greater of two

-- both operands in the first two locals
abbrev pub kept_words : ℕ → ℤ → ℤ → List Num → List Num
kept_words s a b locals = slice_set (slice_set locals s (I32 (pattern 32 b))) (s + 1) (I32 (pattern 32 a))

pub kept_words-right : (s : ℕ) (a b : ℤ) (locals : List Num) → HasScratch s locals → slice_get (kept_words s a b locals) s ≡ Some (I32 (pattern 32 b))
kept_words-right s a b locals h =
    slice_get-set_other (slice_set locals s (I32 (pattern 32 b))) (s + 1) s (I32 (pattern 32 a)) (λ e. omega (arith, e)) ∙ slice_get-set_same locals s (I32 (pattern 32 b)) (omega (arith, h))

pub kept_words-left : (s : ℕ) (a b : ℤ) (locals : List Num) → HasScratch s locals → slice_get (kept_words s a b locals) (s + 1) ≡ Some (I32 (pattern 32 a))
kept_words-left s a b locals h =
    slice_get-set_same (slice_set locals s (I32 (pattern 32 b))) (s + 1) (I32 (pattern 32 a)) (omega (arith, h, length-set locals s (I32 (pattern 32 b))))

pub moves-doubled : (m : Module) (v : View) (c : Config) (s : ℕ) (a b : ℤ) (os locals : List Num) → HasScratch s locals → Moves m v c (doubled s) (having (words a b os) locals) (having (words a b (words a b os)) (kept_words s a b locals)) 5
moves-doubled m v c s a b os locals h =
    let x = I32 (pattern 32 a) in
    let y = I32 (pattern 32 b) in
    let first = slice_set locals s y in
    let after = kept_words s a b locals in
    let right = kept_words-right s a b locals h in
    let left = kept_words-left s a b locals h in
    andthen (moves (steps-set m v c s y (x ∷ os) locals (omega (arith, h))))
    (andthen (moves-tee m v c (s + 1) x os first (omega (arith, h, length-set locals s y)))
    (andthen (moves (steps-get m v c s y (x ∷ os) after right))
    (andthen (moves (steps-get m v c (s + 1) x (y ∷ x ∷ os) after left))
    (moves (steps-get m v c s y (x ∷ y ∷ x ∷ os) after right)))))

pub kept_words-keep : (s : ℕ) (a b : ℤ) (locals : List Num) → KeepsOthers s locals (kept_words s a b locals)
kept_words-keep s a b locals =
    let y = I32 (pattern 32 b) in
    keeps-set s 1 locals (slice_set locals s y) (I32 (pattern 32 a)) (lit< tt) (keeps-first s locals locals y (keeps-same s locals))

doubles : (m : Module) (v : View) (c : Config) (s : ℕ) (a b : ℤ) (os locals : List Num) → HasScratch s locals → Leads m v c (doubled s) s (words a b os) (words a b (words a b os)) locals 5
doubles m v c s a b os locals h = record { after = kept_words s a b locals; keeps = kept_words-keep s a b locals; runs = moves-doubled m v c s a b os locals h }

bit-zero : (t : Bool) → nat_eq (bit_of t) 0 ≡ (if t then false else true)
bit-zero true = refl
bit-zero false = refl

chosen-word : (t : Bool) (a b : ℤ) (os : List Num) → (if (if t then false else true) then I32 (pattern 32 b) else I32 (pattern 32 a)) ≡ I32 (pattern 32 (if t then a else b))
chosen-word true a b os = refl
chosen-word false a b os = refl

pub chooses : (m : Module) (v : View) (c : Config) (signed unsigned : Comparison) (test : ℤ → ℤ → Bool) (left right : IntTy) (s : ℕ) (a b : ℤ) (os locals : List Num) → Relation signed unsigned test → IsNarrow left → IsNarrow right → IsIn left a → IsIn right b → HasScratch s locals → Leads m v c (choice_code signed unsigned left right s) s (words a b os) (I32 (pattern 32 (if test a b then a else b)) ∷ os) locals 14
chooses m v c signed unsigned test left right s a b os locals relation hl hr il ir scratch =
    let two = doubles m v c s a b os locals scratch in
    let compared = compares m v c signed unsigned test left right s a b (words a b os) two.after relation hl hr il ir (has-scratch s locals two.after two.keeps scratch) in
    let chosen = moves-select m v c (bit_of (test a b)) (if test a b then false else true) (I32 (pattern 32 a)) (I32 (pattern 32 b)) os compared.after (bit-zero (test a b)) in
    let last = subst (λ x. Moves m v c (Select ∷ []) (having (I32 (bit_of (test a b)) ∷ words a b os) compared.after) (having (x ∷ os) compared.after) 1) (chosen-word (test a b) a b os) chosen in
    leads-then two (leads-then compared (leads s last))

pub choice-ends : (m : Module) (v : View) (c : Config) (signed unsigned : Comparison) (test : ℤ → ℤ → Bool) (s : ℕ) (left right to : IntTy) (a b z : ℤ) (os : List Num) (rest : List Instr) → Relation signed unsigned test → IsNarrow left → IsNarrow right → IsNarrow to → IsIn left a → IsIn right b → HasScratch s c.frame.locals → (if test a b then a else b) ≡ z → EndsOn m v c s left right to a b os (choice_code signed unsigned left right s) rest (Ok z)
choice-ends m v c signed unsigned test s left right to a b z os rest relation hl hr ht il ir scratch e =
    ends_with m v c s left right to a b z os (choice_code signed unsigned left right s) rest (pattern 32 (if test a b then a else b)) 14 hl hr ht (lit≤ tt) (ap (pattern 32) e)
    (chooses m v c signed unsigned test left right s a b os c.frame.locals relation hl hr il ir scratch)
