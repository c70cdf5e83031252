-- What the code of operators does when it runs where a type has more than 32 bits.
use Rattle.std.proofs.Common.{◌≡◌, ℕ, ℤ, pos, ◌+◌, ◌-◌, ◌/◌, ◌^◌, ◌≤◌, ◌-ℤ◌, Bool, true, false, not, List, [], ◌∷◌, ◌++◌, Some, Ok, Err, refl, sym, ap, ◌∙◌, subst, arith, lit≤, lit<}
use Rattle.std.specs.Prelude.{nat_lt, ◌||◌, slice_get, slice_set, if◌then◌else◌}
use Rattle.std.proofs.lemmas.Bool.{ltb-true, ltb-false, leb-true}
use Rattle.std.proofs.lemmas.List.{length-set}
use Rattle.zw_num.specs.Arithmetic.{IsIn, is_in, exact, least, pattern, width, wrapped}
use Rattle.zw_num.specs.declared.int_ty.IntTy.{IntTy}
use Rattle.zw_num.specs.declared.int_ty.IntTy.TheVariants.{Sized, Comptime}
use Rattle.zw_num.specs.declared.num_fault.NumFault.TheVariants.{Overflow}
use Rattle.zw_safety_narrow.proofs.Locals.{slice_get-set_same, slice_get-set_other, keeps-same, keeps-set}
use Rattle.zw_safety_narrow.proofs.NarrowRuns.{Operation, EndsOn, steps-extension, steps-fitted}
use Rattle.zw_safety_narrow.proofs.Pieces.{State, having, Steps, steps-none, steps-then, fails-behind, fails-before, steps-set, steps-get, steps-long_const, steps-wrap, steps-extend_u, steps-long, steps-word, steps-compare_long, steps-passed, fails-panics}
use Rattle.zw_safety_words.proofs.WideWords.{high, high_bits, high_tells, low_tells, high_of_value, high_unsigned, either_tells, high_alone, IsBroad, lift_wide, masked_long, wrapped_unsigned_long, wrapped_signed_long, wrapped_long, bit_bits, or_bits}
use Rattle.zw_safety_narrow.proofs.Words.{wrap_long, minus_least}
use Rattle.zw_safety_narrow.specs.Checked.{HasScratch, HasPanicState, KeepsOthers}
use Rattle.zw_safety_narrow.specs.NarrowCode.{extension, above_least, narrowed}
use Rattle.zw_safety_narrow.specs.Operators.{fills_word, IsNarrow, IsStored, filled}
use Rattle.zw_safety_words.specs.WideCode.{widened, settled, spread, narrowed_long, wide_fitted, wide_wrapped_code, high_of, raised, low_word, carry, beyond, outside, tested}
use Rattle.zw_session.specs.Causes.{integer_overflow}
use Rattle.zw_wasm.specs.declared.module.BinaryOperator.{BinaryOperator}
use Rattle.zw_wasm.specs.declared.module.BinaryOperator.TheVariants.{Add, Sub, And, Or, ShrS}
use Rattle.zw_wasm.specs.declared.module.Comparison.TheVariants.{Ne, LtU, GtU}
use Rattle.zw_wasm.specs.declared.module.Conversion.TheVariants.{Wrap}
use Rattle.zw_wasm.specs.declared.module.Instr.{Instr}
use Rattle.zw_wasm.specs.declared.module.Instr.TheVariants.{LocalGet, LocalSet, I64Const, Binary, Convert}
use Rattle.zw_wasm.specs.declared.module.Module.{Module}
use Rattle.zw_wasm.specs.declared.module.ValType.TheVariants as ty
use Rattle.zw_wasm.specs.declared.num.Num.{Num}
use Rattle.zw_wasm.specs.declared.num.Num.TheVariants.{I32, I64}
use Rattle.zw_wasm.specs.Numerics.{Gives, bit_of}
use Rattle.zw_wasm.specs.Reduction.{Config}
use Rattle.zw_wasm.specs.Signature.{View}

-- a piece that takes at most so many instructions
pub record Reaches (m : Module) (v : View) (c : Config) (is : List Instr) (s t : State) (most : ℕ) : Type 0 where
  pub count : ℕ
  pub few : count ≤ most
  pub steps : Steps m v c is s t count

pub reaches : {m : Module} {v : View} {c : Config} {is : List Instr} {s t : State} {count : ℕ} → Steps m v c is s t count → Reaches m v c is s t count
reaches {m} {v} {c} {is} {s} {t} {count} steps = record { count = count; few = omega arith; steps = steps }

pub reaches-then : {m : Module} {v : View} {c : Config} {is js : List Instr} {s t u : State} {i j : ℕ} → Reaches m v c is s t i → Reaches m v c js t u j → Reaches m v c (is ++ js) s u (i + j)
reaches-then a b = record { count = a.count + b.count; few = omega (arith, a.few, b.few); steps = steps-then a.steps b.steps }

pub reaches-within : {m : Module} {v : View} {c : Config} {is : List Instr} {s t : State} {i : ℕ} → Reaches m v c is s t i → (j : ℕ) → i ≤ j → Reaches m v c is s t j
reaches-within a j h = record { count = a.count; few = omega (arith, a.few, h); steps = a.steps }

-- ---- operands and results

-- a value of a type of at most 64 bits in an i32, or in an i64
abbrev pub filled_by : Bool → ℤ → Num
filled_by b z = if b then I32 (pattern 32 z) else I64 (pattern 64 z)

narrow-is : (t : IntTy) → IsStored t → fills_word t ≡ true → IsNarrow t
narrow-is (Sized signed count) h e = leb-true count 32 e
narrow-is Comptime h e = absurd h

widened-for : (b : Bool) (m : Module) (v : View) (c : Config) (t : IntTy) (z : ℤ) (os locals : List Num) → IsStored t → IsIn t z → fills_word t ≡ b → Reaches m v c (if b then Convert (extension t) ∷ [] else []) (having (filled_by b z ∷ os) locals) (having (I64 (pattern 64 z) ∷ os) locals) 1
widened-for true m v c t z os locals h i e = reaches (steps-extension m v c t z os locals (narrow-is t h e) i)
widened-for false m v c t z os locals h i e = reaches-within (reaches (steps-none m v c (having (I64 (pattern 64 z) ∷ os) locals))) 1 (lit≤ tt)

pub steps-widened : (m : Module) (v : View) (c : Config) (t : IntTy) (z : ℤ) (os locals : List Num) → IsStored t → IsIn t z → Reaches m v c (widened t) (having (filled t z ∷ os) locals) (having (I64 (pattern 64 z) ∷ os) locals) 1
steps-widened m v c t z os locals h i = widened-for (fills_word t) m v c t z os locals h i refl

settled-for : (b : Bool) (m : Module) (v : View) (c : Config) (z : ℤ) (os locals : List Num) → Reaches m v c (if b then Convert Wrap ∷ [] else []) (having (I64 (pattern 64 z) ∷ os) locals) (having (filled_by b z ∷ os) locals) 1
settled-for true m v c z os locals = reaches (steps-wrap m v c (pattern 64 z) (pattern 32 z) os locals (wrap_long z))
settled-for false m v c z os locals = reaches-within (reaches (steps-none m v c (having (I64 (pattern 64 z) ∷ os) locals))) 1 (lit≤ tt)

pub steps-settled : (m : Module) (v : View) (c : Config) (t : IntTy) (z : ℤ) (os locals : List Num) → Reaches m v c (settled t) (having (I64 (pattern 64 z) ∷ os) locals) (having (filled t z ∷ os) locals) 1
steps-settled m v c t z os locals = settled-for (fills_word t) m v c z os locals

-- ---- what the locals hold

-- the two operands, with the locals below and above as they were
pub record HasOperands (s : ℕ) (before locals : List Num) (x y : ℕ) : Type 0 where
  pub room : HasScratch s locals
  pub right : slice_get locals (s + 4) ≡ Some (I64 y)
  pub left : slice_get locals (s + 5) ≡ Some (I64 x)
  pub kept : KeepsOthers s before locals

-- and the low word of the result
pub record HasLow (s : ℕ) (before locals : List Num) (x y low : ℕ) : Type 0 where
  pub operands : HasOperands s before locals x y
  pub low_is : slice_get locals (s + 6) ≡ Some (I64 low)

pub room-set : (s n : ℕ) (x : Num) (locals : List Num) → HasScratch s locals → HasScratch s (slice_set locals n x)
room-set s n x locals h = omega (arith, h, length-set locals n x)

abbrev pub with_operands : ℕ → ℕ → ℕ → List Num → List Num
with_operands s x y locals = slice_set (slice_set locals (s + 4) (I64 y)) (s + 5) (I64 x)

pub has-operands : (s x y : ℕ) (locals : List Num) → HasScratch s locals → HasOperands s locals (with_operands s x y locals) x y
has-operands s x y locals h =
    let first = slice_set locals (s + 4) (I64 y) in
    let room : HasScratch s first = room-set s (s + 4) (I64 y) locals h in
    record {
      room = room-set s (s + 5) (I64 x) first room;
      right = slice_get-set_other first (s + 5) (s + 4) (I64 x) (λ e. omega (arith, e)) ∙ slice_get-set_same locals (s + 4) (I64 y) (omega (arith, h));
      left = slice_get-set_same first (s + 5) (I64 x) (omega (arith, room));
      kept = keeps-set s 5 locals first (I64 x) (lit< tt) (keeps-set s 4 locals locals (I64 y) (lit< tt) (keeps-same s locals));
    }

pub has-low : (s x y low : ℕ) (before locals : List Num) → HasOperands s before locals x y → HasLow s before (slice_set locals (s + 6) (I64 low)) x y low
has-low s x y low before locals h = record {
  operands = record {
    room = room-set s (s + 6) (I64 low) locals h.room;
    right = slice_get-set_other locals (s + 6) (s + 4) (I64 low) (λ e. omega (arith, e)) ∙ h.right;
    left = slice_get-set_other locals (s + 6) (s + 5) (I64 low) (λ e. omega (arith, e)) ∙ h.left;
    kept = keeps-set s 6 before locals (I64 low) (lit< tt) h.kept;
  };
  low_is = slice_get-set_same locals (s + 6) (I64 low) (omega (arith, h.room));
}

pub has-middle : (s x y low q : ℕ) (before locals : List Num) → HasLow s before locals x y low → HasLow s before (slice_set locals (s + 7) (I64 q)) x y low
has-middle s x y low q before locals h = record {
  operands = record {
    room = room-set s (s + 7) (I64 q) locals h.operands.room;
    right = slice_get-set_other locals (s + 7) (s + 4) (I64 q) (λ e. omega (arith, e)) ∙ h.operands.right;
    left = slice_get-set_other locals (s + 7) (s + 5) (I64 q) (λ e. omega (arith, e)) ∙ h.operands.left;
    kept = keeps-set s 7 before locals (I64 q) (lit< tt) h.operands.kept;
  };
  low_is = slice_get-set_other locals (s + 7) (s + 6) (I64 q) (λ e. omega (arith, e)) ∙ h.low_is;
}

pub steps-spread : (m : Module) (v : View) (c : Config) (left right : IntTy) (s : ℕ) (a b : ℤ) (os locals : List Num) → IsStored left → IsStored right → IsIn left a → IsIn right b → HasScratch s locals → Reaches m v c (spread left right s) (having (filled right b ∷ filled left a ∷ os) locals) (having os (with_operands s (pattern 64 a) (pattern 64 b) locals)) 4
steps-spread m v c left right s a b os locals hl hr il ir h =
    let first = slice_set locals (s + 4) (I64 (pattern 64 b)) in
    let room : HasScratch s first = room-set s (s + 4) (I64 (pattern 64 b)) locals h in
    reaches-then (steps-widened m v c right b (filled left a ∷ os) locals hr ir)
    (reaches-then (reaches (steps-set m v c (s + 4) (I64 (pattern 64 b)) (filled left a ∷ os) locals (omega (arith, h))))
    (reaches-then (steps-widened m v c left a os first hl il)
    (reaches (steps-set m v c (s + 5) (I64 (pattern 64 a)) os first (omega (arith, room))))))

-- ---- the result that wraps around

pub left_widened-for : (t : Bool) (m : Module) (v : View) (c : Config) (left : IntTy) (s : ℕ) (a b : ℤ) (os locals : List Num) → IsStored left → IsIn left a → HasScratch s locals → fills_word left ≡ t → (after : List Num) × KeepsOthers s locals after × Reaches m v c (if t then LocalSet (s + 4) ∷ Convert (extension left) ∷ LocalGet (s + 4) ∷ [] else []) (having (I64 (pattern 64 b) ∷ filled_by t a ∷ os) locals) (having (I64 (pattern 64 b) ∷ I64 (pattern 64 a) ∷ os) after) 3
left_widened-for true m v c left s a b os locals hl il h e =
    let x = I64 (pattern 64 b) in
    let after = slice_set locals (s + 4) x in
    let there : slice_get after (s + 4) ≡ Some x = slice_get-set_same locals (s + 4) x (omega (arith, h)) in (
      after,
      keeps-set s 4 locals locals x (lit< tt) (keeps-same s locals),
      reaches (steps-then (steps-set m v c (s + 4) x (I32 (pattern 32 a) ∷ os) locals (omega (arith, h)))
          (steps-then (steps-extension m v c left a os after (narrow-is left hl e) il) (steps-get m v c (s + 4) x (I64 (pattern 64 a) ∷ os) after there))),
    )
left_widened-for false m v c left s a b os locals hl il h e =
    (locals, keeps-same s locals, reaches-within (reaches (steps-none m v c (having (I64 (pattern 64 b) ∷ I64 (pattern 64 a) ∷ os) locals))) 3 (lit≤ tt))

pub steps-narrowed_long : (m : Module) (v : View) (c : Config) (signed : Bool) (n : ℕ) (z : ℤ) (os locals : List Num) → n ≤ 64 → Reaches m v c (narrowed_long (Sized signed n)) (having (I64 (pattern 64 z) ∷ os) locals) (having (I64 (pattern 64 (wrapped (Sized signed n) z)) ∷ os) locals) 6
steps-narrowed_long m v c true n z os locals h =
    let y = z -ℤ least (Sized true n) in
    let half = 2 ^ n / 2 in
    let mask = 2 ^ n - 1 in
    let lifts = steps-then (steps-long_const m v c (pos half) (I64 (pattern 64 z) ∷ os) locals)
    (steps-long m v c Add (pattern 64 z) half (pattern 64 y) os locals (ap (λ k. Gives k) (lift_wide n z h))) in
    let masks = steps-then (steps-long_const m v c (pos mask) (I64 (pattern 64 y) ∷ os) locals)
    (steps-long m v c And (pattern 64 y) mask (pattern n y) os locals (ap (λ k. Gives k) (masked_long n y h))) in
    let lowers = steps-then (steps-long_const m v c (pos half) (I64 (pattern n y) ∷ os) locals)
    (steps-long m v c Sub (pattern n y) half (pattern 64 (wrapped (Sized true n) z)) os locals (ap (λ k. Gives k) (wrapped_signed_long n z h))) in
    reaches (steps-then lifts (steps-then masks lowers))
steps-narrowed_long m v c false n z os locals h =
    let mask = 2 ^ n - 1 in
    reaches-within (reaches (steps-then (steps-long_const m v c (pos mask) (I64 (pattern 64 z) ∷ os) locals)
    (steps-long m v c And (pattern 64 z) mask (pattern 64 (wrapped (Sized false n) z)) os locals (ap (λ k. Gives k) (masked_long n z h ∙ wrapped_unsigned_long n z h)))))
    6 (lit≤ tt)

pub if_shorter-for : (b : Bool) (m : Module) (v : View) (c : Config) (signed : Bool) (n : ℕ) (z : ℤ) (os locals : List Num) → n ≤ 64 → nat_lt n 64 ≡ b → Reaches m v c (if b then narrowed_long (Sized signed n) else []) (having (I64 (pattern 64 z) ∷ os) locals) (having (I64 (pattern 64 (wrapped (Sized signed n) z)) ∷ os) locals) 6
if_shorter-for true m v c signed n z os locals h e = steps-narrowed_long m v c signed n z os locals h
if_shorter-for false m v c signed n z os locals h e =
    let whole : n ≡ 64 = omega (arith, h, ltb-false n 64 e) in
    let same : pattern 64 (wrapped (Sized signed n) z) ≡ pattern 64 z = ap (λ k. pattern 64 (wrapped (Sized signed k) z)) whole ∙ wrapped_long signed z in
    reaches-within (reaches (subst (λ k. Steps m v c [] (having (I64 (pattern 64 z) ∷ os) locals) (having (I64 k ∷ os) locals) 0) (sym same) (steps-none m v c (having (I64 (pattern 64 z) ∷ os) locals)))) 6 (lit≤ tt)

fitted-for : (b : Bool) (m : Module) (v : View) (c : Config) (to : IntTy) (z : ℤ) (os locals : List Num) → IsStored to → fills_word to ≡ b → Reaches m v c (if b then Convert Wrap ∷ (if nat_lt (width to) 32 then narrowed to else []) else (if nat_lt (width to) 64 then narrowed_long to else [])) (having (I64 (pattern 64 z) ∷ os) locals) (having (filled_by b (wrapped to z) ∷ os) locals) 7
fitted-for true m v c to z os locals h e =
    let fits = steps-fitted m v c to z os locals (narrow-is to h e) in
    record {
      count = 1 + fits.0;
      few = omega (arith, fits.1);
      steps = steps-then (steps-wrap m v c (pattern 64 z) (pattern 32 z) os locals (wrap_long z)) fits.2;
    }
fitted-for false m v c (Sized signed n) z os locals h e = reaches-within (if_shorter-for (nat_lt n 64) m v c signed n z os locals h refl) 7 (lit≤ tt)
fitted-for false m v c Comptime z os locals h e = absurd h

pub steps-fitted_wide : (m : Module) (v : View) (c : Config) (to : IntTy) (z : ℤ) (os locals : List Num) → IsStored to → Reaches m v c (wide_fitted to) (having (I64 (pattern 64 z) ∷ os) locals) (having (filled to (wrapped to z) ∷ os) locals) 7
steps-fitted_wide m v c to z os locals h = fitted-for (fills_word to) m v c to z os locals h refl

-- a piece that leaves the value of the result's type
pub leaves_value : (m : Module) (v : View) (c : Config) (s : ℕ) (left right to : IntTy) (a b z : ℤ) (os locals : List Num) (is rest : List Instr) (most : ℕ) → KeepsOthers s c.frame.locals locals → most ≤ 128 → Reaches m v c is (having (filled right b ∷ filled left a ∷ os) c.frame.locals) (having (filled to z ∷ os) locals) most → EndsOn m v c s left right to a b os is rest (Ok z)
leaves_value m v c s left right to a b z os locals is rest most keeps few r =
    record { locals = locals; kept = keeps; taken = r.count; few = omega (arith, few, r.few); runs = r.steps.by rest }

pub wide_wrapped-ends : (m : Module) (v : View) (c : Config) (o : BinaryOperator) (f : ℤ → ℤ → ℤ) (s : ℕ) (left right to : IntTy) (a b : ℤ) (os : List Num) (rest : List Instr) → Operation o f → IsStored left → IsStored right → IsStored to → IsIn left a → IsIn right b → HasScratch s c.frame.locals → EndsOn m v c s left right to a b os (wide_wrapped_code o left right to s) rest (Ok (wrapped to (f a b)))
wide_wrapped-ends m v c o f s left right to a b os rest op hl hr ht il ir h =
    let z = f a b in
    let locals = c.frame.locals in
    let first = steps-widened m v c right b (filled left a ∷ os) locals hr ir in
    let second = left_widened-for (fills_word left) m v c left s a b os locals hl il h refl in
    let third = steps-long m v c o (pattern 64 a) (pattern 64 b) (pattern 64 z) os second.0 (op.long a b) in
    leaves_value m v c s left right to a b (wrapped to z) os second.0 (wide_wrapped_code o left right to s) rest 12 second.1 (lit≤ tt)
    (reaches-then (reaches-then first second.2) (reaches-then (reaches third) (steps-fitted_wide m v c to z os second.0 ht)))

-- ---- high words

pub steps-sign : (m : Module) (v : View) (c : Config) (count n x : ℕ) (os locals : List Num) → slice_get locals n ≡ Some (I64 x) → Steps m v c (LocalGet n ∷ I64Const (pos 63) ∷ Binary ty.I64 ShrS ∷ []) (having os locals) (having (I64 (high_bits (Sized true count) x) ∷ os) locals) 3
steps-sign m v c count n x os locals e =
    steps-then (steps-get m v c n (I64 x) os locals e)
    (steps-then (steps-long_const m v c (pos 63) (I64 x ∷ os) locals)
    (steps-long m v c ShrS x 63 (high_bits (Sized true count) x) os locals refl))

pub steps-high_of : (m : Module) (v : View) (c : Config) (t : IntTy) (n x : ℕ) (os locals : List Num) → slice_get locals n ≡ Some (I64 x) → Reaches m v c (high_of t n) (having os locals) (having (I64 (high_bits t x) ∷ os) locals) 3
steps-high_of m v c (Sized true count) n x os locals e = reaches (steps-sign m v c count n x os locals e)
steps-high_of m v c (Sized false count) n x os locals e = reaches-within (reaches (steps-long_const m v c (pos 0) os locals)) 3 (lit≤ tt)
steps-high_of m v c Comptime n x os locals e = reaches-within (reaches (steps-long_const m v c (pos 0) os locals)) 3 (lit≤ tt)

-- of an operand
pub steps-high_value : (m : Module) (v : View) (c : Config) (t : IntTy) (n : ℕ) (a : ℤ) (os locals : List Num) → IsStored t → IsIn t a → slice_get locals n ≡ Some (I64 (pattern 64 a)) → Reaches m v c (high_of t n) (having os locals) (having (I64 (pattern 64 (high a)) ∷ os) locals) 3
steps-high_value m v c t n a os locals h i e =
    subst (λ k. Reaches m v c (high_of t n) (having os locals) (having (I64 k ∷ os) locals) 3) (high_of_value t a h i) (steps-high_of m v c t n (pattern 64 a) os locals e)

pub steps-raised : (m : Module) (v : View) (c : Config) (o : BinaryOperator) (f : ℤ → ℤ → ℤ) (t : IntTy) (n : ℕ) (a x : ℤ) (os locals : List Num) → Operation o f → ((y : ℤ) → y ≡ f y (pos 0)) → IsStored t → IsIn t a → slice_get locals n ≡ Some (I64 (pattern 64 a)) → Reaches m v c (raised o t n) (having (I64 (pattern 64 x) ∷ os) locals) (having (I64 (pattern 64 (f x (high a))) ∷ os) locals) 4
steps-raised m v c o f (Sized true count) n a x os locals op none h i e =
    let is = high_of_value (Sized true count) a h i in
    reaches (steps-then (steps-sign m v c count n (pattern 64 a) (I64 (pattern 64 x) ∷ os) locals e)
    (subst (λ k. Steps m v c (Binary ty.I64 o ∷ []) (having (I64 k ∷ I64 (pattern 64 x) ∷ os) locals) (having (I64 (pattern 64 (f x (high a))) ∷ os) locals) 1) (sym is)
    (steps-long m v c o (pattern 64 x) (pattern 64 (high a)) (pattern 64 (f x (high a))) os locals (op.long x (high a)))))
steps-raised m v c o f (Sized false count) n a x os locals op none h i e =
    let same : x ≡ f x (high a) = none x ∙ ap (λ y. f x y) (sym (high_unsigned count a h i)) in
    subst (λ y. Reaches m v c [] (having (I64 (pattern 64 x) ∷ os) locals) (having (I64 (pattern 64 y) ∷ os) locals) 4) same
    (reaches-within (reaches (steps-none m v c (having (I64 (pattern 64 x) ∷ os) locals))) 4 (lit≤ tt))
steps-raised m v c o f Comptime n a x os locals op none h i e = absurd h

pub steps-carry : (m : Module) (v : View) (c : Config) (n k x y : ℕ) (os locals : List Num) → slice_get locals n ≡ Some (I64 x) → slice_get locals k ≡ Some (I64 y) → Reaches m v c (carry n k) (having os locals) (having (I64 (pattern 64 (pos (bit_of (nat_lt x y)))) ∷ os) locals) 4
steps-carry m v c n k x y os locals e f =
    reaches (steps-then (steps-get m v c n (I64 x) os locals e)
    (steps-then (steps-get m v c k (I64 y) (I64 x ∷ os) locals f)
    (steps-then (steps-compare_long m v c LtU x y (nat_lt x y) os locals refl)
    (steps-extend_u m v c (bit_of (nat_lt x y)) (pattern 64 (pos (bit_of (nat_lt x y)))) os locals (bit_bits (nat_lt x y))))))

pub steps-low_word : (m : Module) (v : View) (c : Config) (o : BinaryOperator) (f : ℤ → ℤ → ℤ) (s : ℕ) (a b : ℤ) (os before locals : List Num) → Operation o f → HasOperands s before locals (pattern 64 a) (pattern 64 b) → Reaches m v c (low_word o s) (having os locals) (having os (slice_set locals (s + 6) (I64 (pattern 64 (f a b))))) 4
steps-low_word m v c o f s a b os before locals op h =
    reaches (steps-then (steps-get m v c (s + 5) (I64 (pattern 64 a)) os locals h.left)
    (steps-then (steps-get m v c (s + 4) (I64 (pattern 64 b)) (I64 (pattern 64 a) ∷ os) locals h.right)
    (steps-then (steps-long m v c o (pattern 64 a) (pattern 64 b) (pattern 64 (f a b)) os locals (op.long a b))
    (steps-set m v c (s + 6) (I64 (pattern 64 (f a b))) os locals (omega (arith, h.room))))))

-- ---- the test that a number in two words is a value of a type

steps-above_least : (m : Module) (v : View) (c : Config) (to : IntTy) (z : ℤ) (os locals : List Num) → IsStored to → Reaches m v c (above_least to) (having (I64 (pattern 64 z) ∷ os) locals) (having (I64 (pattern 64 (z -ℤ least to)) ∷ os) locals) 2
steps-above_least m v c (Sized true count) z os locals h =
    let y = z -ℤ least (Sized true count) in
    reaches (steps-then (steps-long_const m v c (pos (2 ^ count / 2)) (I64 (pattern 64 z) ∷ os) locals)
    (steps-long m v c Add (pattern 64 z) (2 ^ count / 2) (pattern 64 y) os locals (ap (λ n. Gives n) (lift_wide count z h))))
steps-above_least m v c (Sized false count) z os locals h =
    subst (λ y. Reaches m v c [] (having (I64 (pattern 64 z) ∷ os) locals) (having (I64 (pattern 64 y) ∷ os) locals) 2) (minus_least count z)
    (reaches-within (reaches (steps-none m v c (having (I64 (pattern 64 z) ∷ os) locals))) 2 (lit≤ tt))
steps-above_least m v c Comptime z os locals h = absurd h

steps-beyond : (m : Module) (v : View) (c : Config) (to : IntTy) (n : ℕ) (z : ℤ) (b : Bool) (os locals : List Num) → IsStored to → slice_get locals n ≡ Some (I64 (pattern 64 z)) → Reaches m v c (beyond to n) (having (I32 (bit_of b) ∷ os) locals) (having (I32 (bit_of (b || low_tells to z)) ∷ os) locals) 6
steps-beyond m v c to n z b os locals h e =
    let y = pattern 64 (z -ℤ least to) in
    let top = 2 ^ width to - 1 in
    reaches-then (reaches (steps-get m v c n (I64 (pattern 64 z)) (I32 (bit_of b) ∷ os) locals e))
    (reaches-then (steps-above_least m v c to z (I32 (bit_of b) ∷ os) locals h)
    (reaches (steps-then (steps-long_const m v c (pos top) (I64 y ∷ I32 (bit_of b) ∷ os) locals)
    (steps-then (steps-compare_long m v c GtU y top (low_tells to z) (I32 (bit_of b) ∷ os) locals refl)
    (steps-word m v c Or (bit_of b) (bit_of (low_tells to z)) (bit_of (b || low_tells to z)) os locals (ap (λ k. Gives k) (or_bits b (low_tells to z))))))))

beyond-for : (t : Bool) (m : Module) (v : View) (c : Config) (signed : Bool) (count n : ℕ) (z : ℤ) (os locals : List Num) → count ≤ 64 → IsBroad z → nat_lt count 64 ≡ t → slice_get locals n ≡ Some (I64 (pattern 64 z)) → Reaches m v c (if t then beyond (Sized signed count) n else []) (having (I32 (bit_of (high_tells (Sized signed count) z)) ∷ os) locals) (having (I32 (bit_of (not (is_in (Sized signed count) z))) ∷ os) locals) 6
beyond-for true m v c signed count n z os locals h broad e there =
    subst (λ b. Reaches m v c (beyond (Sized signed count) n) (having (I32 (bit_of (high_tells (Sized signed count) z)) ∷ os) locals) (having (I32 (bit_of b) ∷ os) locals) 6)
    (either_tells signed count z (ltb-true count 64 e) broad)
    (steps-beyond m v c (Sized signed count) n z (high_tells (Sized signed count) z) os locals h there)
beyond-for false m v c signed count n z os locals h broad e there =
    subst (λ b. Reaches m v c [] (having (I32 (bit_of (high_tells (Sized signed count) z)) ∷ os) locals) (having (I32 (bit_of b) ∷ os) locals) 6)
    (high_alone signed count z (ltb-false count 64 e) h broad)
    (reaches-within (reaches (steps-none m v c (having (I32 (bit_of (high_tells (Sized signed count) z)) ∷ os) locals))) 6 (lit≤ tt))

pub steps-outside : (m : Module) (v : View) (c : Config) (to : IntTy) (n : ℕ) (z : ℤ) (os locals : List Num) → IsStored to → IsBroad z → slice_get locals n ≡ Some (I64 (pattern 64 z)) → Reaches m v c (outside to n) (having (I64 (pattern 64 (high z)) ∷ os) locals) (having (I32 (bit_of (not (is_in to z))) ∷ os) locals) 10
steps-outside m v c (Sized signed count) n z os locals h broad e =
    let to = Sized signed count in
    reaches-then (steps-high_of m v c to n (pattern 64 z) (I64 (pattern 64 (high z)) ∷ os) locals e)
    (reaches-then (reaches (steps-compare_long m v c Ne (pattern 64 (high z)) (high_bits to (pattern 64 z)) (high_tells to z) os locals refl))
    (beyond-for (nat_lt count 64) m v c signed count n z os locals h broad refl e))
steps-outside m v c Comptime n z os locals h broad e = absurd h

-- ---- the exact result

-- a piece that leaves the two words of a number, from operands in the locals
pub record GivesWords (m : Module) (v : View) (c : Config) (s : ℕ) (is : List Instr) (x y : ℕ) (z : ℤ) (os before locals : List Num) : Type 0 where
  pub after : List Num
  pub has : HasLow s before after x y (pattern 64 z)
  pub reached : Reaches m v c is (having os locals) (having (I64 (pattern 64 (high z)) ∷ os) after) 80

-- a piece that tells whether a number isn't a value of a type, and leaves its low word
pub record Tells (m : Module) (v : View) (c : Config) (s : ℕ) (is : List Instr) (x y : ℕ) (to : IntTy) (z : ℤ) (os before locals : List Num) : Type 0 where
  pub after : List Num
  pub has : HasLow s before after x y (pattern 64 z)
  pub reached : Reaches m v c is (having os locals) (having (I32 (bit_of (not (is_in to z))) ∷ os) after) 90

pub tells-words : (m : Module) (v : View) (c : Config) (s : ℕ) (ws : List Instr) (x y : ℕ) (to : IntTy) (z : ℤ) (os before locals : List Num) → IsStored to → IsBroad z → GivesWords m v c s ws x y z os before locals → Tells m v c s (ws ++ outside to (s + 6)) x y to z os before locals
tells-words m v c s ws x y to z os before locals h broad words = record {
  after = words.after;
  has = words.has;
  reached = reaches-then words.reached (steps-outside m v c to (s + 6) z os words.after h broad words.has.low_is);
}

tested-for : (t : Bool) (m : Module) (v : View) (c : Config) (s : ℕ) (left right to : IntTy) (a b z : ℤ) (os : List Num) (ws rest : List Instr) → IsStored left → IsStored right → IsIn left a → IsIn right b → HasScratch s c.frame.locals → HasPanicState c.world.store → is_in to z ≡ t → Tells m v c s ws (pattern 64 a) (pattern 64 b) to z os c.frame.locals (with_operands s (pattern 64 a) (pattern 64 b) c.frame.locals) → EndsOn m v c s left right to a b os (spread left right s ++ (ws ++ tested to s)) rest (if t then Ok z else Err Overflow)
tested-for true m v c s left right to a b z os ws rest hl hr il ir h state e tells =
    let after = tells.after in
    let locals = with_operands s (pattern 64 a) (pattern 64 b) c.frame.locals in
    let first = steps-spread m v c left right s a b os c.frame.locals hl hr il ir h in
    let test = subst (λ t. Reaches m v c ws (having os locals) (having (I32 (bit_of (not t)) ∷ os) after) 90) e tells.reached in
    let ends = reaches-then (reaches (steps-passed m v c integer_overflow os after))
    (reaches-then (reaches (steps-get m v c (s + 6) (I64 (pattern 64 z)) os after tells.has.low_is)) (steps-settled m v c to z os after)) in
    leaves_value m v c s left right to a b z os after (spread left right s ++ (ws ++ tested to s)) rest 97 tells.has.operands.kept (lit≤ tt)
    (reaches-then first (reaches-then test ends))
tested-for false m v c s left right to a b z os ws rest hl hr il ir h state e tells =
    let after = tells.after in
    let locals = with_operands s (pattern 64 a) (pattern 64 b) c.frame.locals in
    let first = steps-spread m v c left right s a b os c.frame.locals hl hr il ir h in
    let test = subst (λ t. Reaches m v c ws (having os locals) (having (I32 (bit_of (not t)) ∷ os) after) 90) e tells.reached in
    let fails = fails-behind first.steps (fails-behind test.steps
    (fails-before (fails-panics m v c integer_overflow os after state) (LocalGet (s + 6) ∷ settled to))) in
    record {
      taken = first.count + (test.count + 8);
      few = omega (arith, first.few, test.few);
      halts = fails.by rest;
    }

pub tested-ends : (m : Module) (v : View) (c : Config) (s : ℕ) (left right to : IntTy) (a b z : ℤ) (os : List Num) (ws rest : List Instr) → IsStored left → IsStored right → IsIn left a → IsIn right b → HasScratch s c.frame.locals → HasPanicState c.world.store → Tells m v c s ws (pattern 64 a) (pattern 64 b) to z os c.frame.locals (with_operands s (pattern 64 a) (pattern 64 b) c.frame.locals) → EndsOn m v c s left right to a b os (spread left right s ++ (ws ++ tested to s)) rest (exact to z)
tested-ends m v c s left right to a b z os ws rest hl hr il ir h state tells =
    tested-for (is_in to z) m v c s left right to a b z os ws rest hl hr il ir h state refl tells
