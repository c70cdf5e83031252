-- What the code of products does when it runs where a type has more than 32 bits.
use Rattle.std.proofs.Common.{◌≡◌, ℕ, ℤ, pos, ◌+◌, ◌-◌, ◌*◌, ◌/◌, ◌%◌, ◌^◌, ◌<◌, ◌+ℤ◌, ◌-ℤ◌, ◌*ℤ◌, neg_ℤ, true, false, List, [], ◌∷◌, ◌++◌, Some, refl, sym, ap, ◌∙◌, subst, arith, lit≤}
use Rattle.std.specs.Prelude.{bit_and, slice_get, slice_set}
use Rattle.std.proofs.lemmas.Int.{ints}
use Rattle.std.proofs.lemmas.Nat.{and_mask}
use Rattle.std.proofs.Math.Nat.{mod-eq_of_lt}
use Rattle.std.specs.Int.{w64}
use Rattle.zw_num.proofs.WrappedLemmas.{pattern_below}
use Rattle.zw_num.specs.Arithmetic.{IsIn, exact, pattern}
use Rattle.zw_num.specs.declared.int_ty.IntTy.{IntTy}
use Rattle.zw_num.specs.declared.int_ty.IntTy.TheVariants.{Sized, Comptime}
use Rattle.zw_safety_narrow.proofs.Locals.{slice_get-set_same}
use Rattle.zw_safety_narrow.proofs.NarrowRuns.{EndsOn, multiplication}
use Rattle.zw_safety_narrow.proofs.Pieces.{Steps, having, steps-none, steps-then, steps-get, steps-set, steps-long, steps-long_const}
use Rattle.zw_safety_words.proofs.WideProducts.{middle_word, other_middle, half_product, high_of_low, middle_fits, other_fits, high_fits, high_of_product, sign_of_value, masked_by_sign}
use Rattle.zw_safety_words.proofs.WideRuns.{Reaches, reaches, reaches-then, reaches-within, HasOperands, has-operands, has-low, has-middle, with_operands, GivesWords, steps-sign, steps-low_word, tells-words, tested-ends}
use Rattle.zw_safety_words.proofs.WideWords.{high, high_unsigned, high_of_value, held, broad_product}
use Rattle.zw_safety_narrow.proofs.Words.{sub_bits}
use Rattle.zw_safety_narrow.specs.Checked.{HasScratch, HasPanicState}
use Rattle.zw_safety_narrow.specs.Operators.{IsStored}
use Rattle.zw_safety_words.specs.WideCode.{upper, lower, middle, high_product, corrected, product_words, outside, wide_product_code}
use Rattle.zw_wasm.specs.declared.module.BinaryOperator.TheVariants.{Add, Sub, Mul, And, ShrU}
use Rattle.zw_wasm.specs.declared.module.Instr.{Instr}
use Rattle.zw_wasm.specs.declared.module.Instr.TheVariants.{I64Const, Binary}
use Rattle.zw_wasm.specs.declared.module.Module.{Module}
use Rattle.zw_wasm.specs.declared.module.ValType.TheVariants as ty
use Rattle.zw_wasm.specs.declared.num.Num.{Num}
use Rattle.zw_wasm.specs.declared.num.Num.TheVariants.{I64}
use Rattle.zw_wasm.specs.Numerics.{Gives}
use Rattle.zw_wasm.specs.Reduction.{Config}
use Rattle.zw_wasm.specs.Signature.{View}

-- ---- halves, and sums and products that fit

steps-upper : (m : Module) (v : View) (c : Config) (n x : ℕ) (os locals : List Num) → slice_get locals n ≡ Some (I64 x) → Steps m v c (upper n) (having os locals) (having (I64 (x / 2 ^ 32) ∷ os) locals) 3
steps-upper m v c n x os locals e =
    steps-then (steps-get m v c n (I64 x) os locals e)
    (steps-then (steps-long_const m v c (pos 32) (I64 x ∷ os) locals) (steps-long m v c ShrU x 32 (x / 2 ^ 32) os locals refl))

steps-lower : (m : Module) (v : View) (c : Config) (n x : ℕ) (os locals : List Num) → slice_get locals n ≡ Some (I64 x) → Steps m v c (lower n) (having os locals) (having (I64 (x % 2 ^ 32) ∷ os) locals) 3
steps-lower m v c n x os locals e =
    steps-then (steps-get m v c n (I64 x) os locals e)
    (steps-then (steps-long_const m v c (pos (2 ^ 32 - 1)) (I64 x ∷ os) locals)
    (steps-long m v c And x (2 ^ 32 - 1) (x % 2 ^ 32) os locals (ap (λ k. Gives k) (and_mask x 32))))

steps-product : (m : Module) (v : View) (c : Config) (x y : ℕ) (os locals : List Num) → x < 2 ^ 32 → y < 2 ^ 32 → Steps m v c (Binary ty.I64 Mul ∷ []) (having (I64 y ∷ I64 x ∷ os) locals) (having (I64 (x * y) ∷ os) locals) 1
steps-product m v c x y os locals h k =
    let fits : x * y < 2 ^ 64 = omega (arith, half_product x y h k) in
    steps-long m v c Mul x y (x * y) os locals (ap (λ n. Gives n) (mod-eq_of_lt fits))

steps-plus : (m : Module) (v : View) (c : Config) (x y : ℕ) (os locals : List Num) → x + y < 2 ^ 64 → Steps m v c (Binary ty.I64 Add ∷ []) (having (I64 y ∷ I64 x ∷ os) locals) (having (I64 (x + y) ∷ os) locals) 1
steps-plus m v c x y os locals fits = steps-long m v c Add x y (x + y) os locals (ap (λ n. Gives n) (mod-eq_of_lt fits))

steps-down : (m : Module) (v : View) (c : Config) (x : ℕ) (os locals : List Num) → Steps m v c (I64Const (pos 32) ∷ Binary ty.I64 ShrU ∷ []) (having (I64 x ∷ os) locals) (having (I64 (x / 2 ^ 32) ∷ os) locals) 2
steps-down m v c x os locals =
    steps-then (steps-long_const m v c (pos 32) (I64 x ∷ os) locals) (steps-long m v c ShrU x 32 (x / 2 ^ 32) os locals refl)

upper_below : (x : ℕ) → x < 2 ^ 64 → x / 2 ^ 32 < 2 ^ 32
upper_below x h = omega (arith, h)

lower_below : (x : ℕ) → x % 2 ^ 32 < 2 ^ 32
lower_below x = omega arith

-- ---- the high word of the product of two low words

steps-middle : (m : Module) (v : View) (c : Config) (s x y : ℕ) (os before locals : List Num) → x < 2 ^ 64 → y < 2 ^ 64 → HasOperands s before locals x y → Steps m v c (middle s) (having os locals) (having os (slice_set locals (s + 7) (I64 (middle_word x y)))) 18
steps-middle m v c s x y os before locals below under h =
    let a = x / 2 ^ 32 in
    let b = x % 2 ^ 32 in
    let d = y % 2 ^ 32 in
    let one = I64 (a * d) in
    steps-then (steps-upper m v c (s + 5) x os locals h.left)
    (steps-then (steps-lower m v c (s + 4) y (I64 a ∷ os) locals h.right)
    (steps-then (steps-product m v c a d os locals (upper_below x below) (lower_below y))
    (steps-then (steps-lower m v c (s + 5) x (one ∷ os) locals h.left)
    (steps-then (steps-lower m v c (s + 4) y (I64 b ∷ one ∷ os) locals h.right)
    (steps-then (steps-product m v c b d (one ∷ os) locals (lower_below x) (lower_below y))
    (steps-then (steps-down m v c (b * d) (one ∷ os) locals)
    (steps-then (steps-plus m v c (a * d) ((b * d) / 2 ^ 32) os locals (middle_fits x y below))
    (steps-set m v c (s + 7) (I64 (middle_word x y)) os locals (omega (arith, h.room))))))))))

steps-high_product : (m : Module) (v : View) (c : Config) (s x y : ℕ) (os before locals : List Num) → x < 2 ^ 64 → y < 2 ^ 64 → HasOperands s before locals x y → slice_get locals (s + 7) ≡ Some (I64 (middle_word x y)) → Steps m v c (high_product s) (having os locals) (having (I64 ((x * y) / 2 ^ 64) ∷ os) locals) 25
steps-high_product m v c s x y os before locals below under h mid =
    let a = x / 2 ^ 32 in
    let b = x % 2 ^ 32 in
    let e = y / 2 ^ 32 in
    let q = middle_word x y in
    let r = other_middle x y in
    let is = high_of_low x y in
    let whole = high_fits x y below under in
    let all = steps-then (steps-lower m v c (s + 5) x os locals h.left)
    (steps-then (steps-upper m v c (s + 4) y (I64 b ∷ os) locals h.right)
    (steps-then (steps-product m v c b e os locals (lower_below x) (upper_below y under))
    (steps-then (steps-lower m v c (s + 7) q (I64 (b * e) ∷ os) locals mid)
    (steps-then (steps-plus m v c (b * e) (q % 2 ^ 32) os locals (other_fits x y under))
    (steps-then (steps-down m v c r os locals)
    (steps-then (steps-upper m v c (s + 7) q (I64 (r / 2 ^ 32) ∷ os) locals mid)
    (steps-then (steps-plus m v c (r / 2 ^ 32) (q / 2 ^ 32) os locals (omega (arith, is, whole)))
    (steps-then (steps-upper m v c (s + 5) x (I64 (r / 2 ^ 32 + q / 2 ^ 32) ∷ os) locals h.left)
    (steps-then (steps-upper m v c (s + 4) y (I64 a ∷ I64 (r / 2 ^ 32 + q / 2 ^ 32) ∷ os) locals h.right)
    (steps-then (steps-product m v c a e (I64 (r / 2 ^ 32 + q / 2 ^ 32) ∷ os) locals (upper_below x below) (upper_below y under))
    (steps-plus m v c (r / 2 ^ 32 + q / 2 ^ 32) (a * e) os locals (omega (arith, is, whole))))))))))))) in
    subst (λ n. Steps m v c (high_product s) (having os locals) (having (I64 n ∷ os) locals) 25) is all

-- ---- with signs

steps-corrected : (m : Module) (v : View) (c : Config) (t : IntTy) (n k y : ℕ) (a x : ℤ) (os locals : List Num) → IsStored t → IsIn t a → y < 2 ^ 64 → slice_get locals n ≡ Some (I64 (pattern 64 a)) → slice_get locals k ≡ Some (I64 y) → Reaches m v c (corrected t n k) (having (I64 (pattern 64 x) ∷ os) locals) (having (I64 (pattern 64 (x +ℤ high a *ℤ pos y)) ∷ os) locals) 6
steps-corrected m v c (Sized true count) n k y a x os locals h i below e f =
    let t = Sized true count in
    let taken = neg_ℤ (high a *ℤ pos y) in
    let masked = ap (λ n. bit_and n y) (high_of_value t a h i) ∙ masked_by_sign (high a) y (sign_of_value t a h i) below in
    let result : x -ℤ taken ≡ x +ℤ high a *ℤ pos y = omega (arith, ints) in
    reaches (steps-then (steps-sign m v c count n (pattern 64 a) (I64 (pattern 64 x) ∷ os) locals e)
    (steps-then (steps-get m v c k (I64 y) _ locals f)
    (steps-then (steps-long m v c And _ y (pattern 64 taken) (I64 (pattern 64 x) ∷ os) locals (ap (λ n. Gives n) masked))
    (steps-long m v c Sub (pattern 64 x) (pattern 64 taken) (pattern 64 (x +ℤ high a *ℤ pos y)) os locals (ap (λ n. Gives n) (sub_bits w64 x taken ∙ ap (pattern 64) result))))))
steps-corrected m v c (Sized false count) n k y a x os locals h i below e f =
    let none = high_unsigned count a h i in
    let zero : x ≡ x +ℤ pos 0 *ℤ pos y = omega (arith, ints) in
    let same : x ≡ x +ℤ high a *ℤ pos y = zero ∙ ap (λ z. x +ℤ z *ℤ pos y) (sym none) in
    subst (λ z. Reaches m v c [] (having (I64 (pattern 64 x) ∷ os) locals) (having (I64 (pattern 64 z) ∷ os) locals) 6) same
    (reaches-within (reaches (steps-none m v c (having (I64 (pattern 64 x) ∷ os) locals))) 6 (lit≤ tt))
steps-corrected m v c Comptime n k y a x os locals h i below e f = absurd h

pub gives-product : (m : Module) (v : View) (c : Config) (s : ℕ) (left right : IntTy) (a b : ℤ) (os before locals : List Num) → IsStored left → IsStored right → IsIn left a → IsIn right b → HasOperands s before locals (pattern 64 a) (pattern 64 b) → GivesWords m v c s (product_words left right s) (pattern 64 a) (pattern 64 b) (a *ℤ b) os before locals
gives-product m v c s left right a b os before locals hl hr il ir h =
    let x = pattern 64 a in
    let y = pattern 64 b in
    let low = pattern 64 (a *ℤ b) in
    let below = pattern_below 64 a in
    let under = pattern_below 64 b in
    let mid = slice_set locals (s + 6) (I64 low) in
    let has = has-low s x y low before locals h in
    let q = middle_word x y in
    let after = slice_set mid (s + 7) (I64 q) in
    let end = has-middle s x y low q before mid has in
    let up = pos ((x * y) / 2 ^ 64) in
    let fits : (x * y) / 2 ^ 64 ≡ pattern 64 up = sym (mod-eq_of_lt (high_fits x y below under)) in
    let first = steps-low_word m v c Mul (λ a b. a *ℤ b) s a b os before locals multiplication h in
    let second = steps-middle m v c s x y os before mid below under has.operands in
    let third = subst (λ n. Steps m v c (high_product s) (having os after) (having (I64 n ∷ os) after) 25) fits
    (steps-high_product m v c s x y os before after below under end.operands (slice_get-set_same mid (s + 7) (I64 q) (omega (arith, has.operands.room)))) in
    let fourth = steps-corrected m v c left (s + 5) (s + 4) y a up os after hl il under end.operands.left end.operands.right in
    let fifth = steps-corrected m v c right (s + 4) (s + 5) x b (up +ℤ high a *ℤ pos y) os after hr ir below end.operands.right end.operands.left in
    let all = reaches-then first (reaches-then (reaches second) (reaches-then (reaches third) (reaches-then fourth fifth))) in
    record {
      after = after;
      has = end;
      reached = subst (λ k. Reaches m v c (product_words left right s) (having os locals) (having (I64 k ∷ os) after) 80)
          (high_of_product a b (sign_of_value left a hl il) (sign_of_value right b hr ir)) (reaches-within all 80 (lit≤ tt));
    }

pub wide_product-ends : (m : Module) (v : View) (c : Config) (s : ℕ) (left right to : IntTy) (a b : ℤ) (os : List Num) (rest : List Instr) → IsStored left → IsStored right → IsStored to → IsIn left a → IsIn right b → HasScratch s c.frame.locals → HasPanicState c.world.store → EndsOn m v c s left right to a b os (wide_product_code left right to s) rest (exact to (a *ℤ b))
wide_product-ends m v c s left right to a b os rest hl hr ht il ir h state =
    let operands = has-operands s (pattern 64 a) (pattern 64 b) c.frame.locals h in
    let locals = with_operands s (pattern 64 a) (pattern 64 b) c.frame.locals in
    let words = gives-product m v c s left right a b os c.frame.locals locals hl hr il ir operands in
    tested-ends m v c s left right to a b (a *ℤ b) os (product_words left right s ++ outside to (s + 6)) rest hl hr il ir h state
    (tells-words m v c s (product_words left right s) (pattern 64 a) (pattern 64 b) to (a *ℤ b) os c.frame.locals locals ht (broad_product a b (held left a hl il) (held right b hr ir)) words)
