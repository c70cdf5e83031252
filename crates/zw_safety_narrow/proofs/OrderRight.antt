-- The code of comparisons, of the lesser and the greater of two, and of operators on bits is right wherever it stands.
use Rattle.std.proofs.Common.{◌≡◌, ℕ, ◌+◌, Bool, true, false, List, [], ◌∷◌, ◌++◌, Some, refl, ap}
use Rattle.std.specs.Prelude.{◌&&◌, not, map, int_lt, int_le, slice_get, if◌then◌else◌}
use Rattle.std.specs.Int.{int_min, int_max}
use Rattle.std.specs.Ordering.{int_eq}
use Rattle.zw_num.specs.Arithmetic.{bits_and, bits_or, bits_xor}
use Rattle.zw_num.specs.declared.int_ty.IntTy.{IntTy}
use Rattle.zw_num.specs.declared.operator.Operator.TheVariants as family
use Rattle.zw_num.specs.declared.operator.Bitwise.TheVariants as bitwise_op
use Rattle.zw_num.specs.declared.operator.Comparison.TheVariants as comparison_op
use Rattle.zw_num.specs.declared.operator.Extreme.TheVariants as extreme_op
use Rattle.zw_safety_narrow.proofs.BitRuns.{and_pattern, or_pattern, xor_pattern, word-ends}
use Rattle.zw_safety_narrow.proofs.CheckedTypes.{first_local, second_local}
use Rattle.zw_safety_narrow.proofs.NarrowTypes.{takes-extended, takes-compare_long, takes-word}
use Rattle.zw_safety_narrow.proofs.OperatorsRight.{AreNarrow, narrow-takes}
use Rattle.zw_safety_narrow.proofs.OrderRuns.{comparison-ends, choice-ends}
use Rattle.zw_safety_narrow.proofs.Orders.{equal, not_equal, less, less_or_equal, greater, greater_or_equal, lesser}
use Rattle.zw_safety_narrow.specs.Checked.{ScratchIsTyped}
use Rattle.zw_safety_narrow.specs.CompareCode.{fits_signed, is_unsigned, comparison_code, doubled, choice_code}
use Rattle.zw_safety_narrow.specs.NarrowCode.{extended}
use Rattle.zw_safety_narrow.specs.WordCode.{word_code}
use Rattle.zw_safety_narrow.specs.Operators.{IsRightOfTwo}
use Rattle.zw_safety_narrow.specs.declared.setting.Setting.{Setting}
use Rattle.zw_wasm.proofs.Closing.{closed-then}
use Rattle.zw_wasm.proofs.TypingTakes.{takes-then, takes-instr, takes-local_get, takes-local_set}
use Rattle.zw_wasm.specs.declared.module.BinaryOperator.TheVariants.{And, Or, Xor}
use Rattle.zw_wasm.specs.declared.module.Comparison.{Comparison}
use Rattle.zw_wasm.specs.declared.module.Comparison.TheVariants.{Eq, Ne, LtS, LtU, GtS, GtU, LeS, LeU, GeS, GeU}
use Rattle.zw_wasm.specs.declared.module.Instr.TheVariants.{LocalTee, Select, Compare}
use Rattle.zw_wasm.specs.declared.module.ValType.{ValType}
use Rattle.zw_wasm.specs.declared.module.ValType.TheVariants.{I32, I64}
use Rattle.zw_wasm.specs.Numerics.{Gives}
use Rattle.zw_wasm.specs.Sequences.{Takes}
use Rattle.zw_wasm.specs.Typing.{Context, Known, with_index, replaces}
use Rattle.zw_wasm.specs.WellFormed.{IsClosed}

-- ---- types

pub takes-compare : (x : Context) (o : Comparison) (ts : List ValType) → Takes x (Compare I32 o ∷ []) (I32 ∷ I32 ∷ ts) (I32 ∷ ts)
takes-compare x o ts = takes-instr x (Compare I32 o) (I32 ∷ I32 ∷ ts) (I32 ∷ ts) (λ below c outer. refl)

pub takes-select : (x : Context) (ts : List ValType) → Takes x (Select ∷ []) (I32 ∷ I32 ∷ I32 ∷ ts) (I32 ∷ ts)
takes-select x ts = takes-instr x Select (I32 ∷ I32 ∷ I32 ∷ ts) (I32 ∷ ts) (λ below c outer. refl)

pub takes-tee : (x : Context) (n : ℕ) (ts : List ValType) → slice_get x.locals n ≡ Some I32 → Takes x (LocalTee n ∷ []) (I32 ∷ ts) (I32 ∷ ts)
takes-tee x n ts e = takes-instr x (LocalTee n) (I32 ∷ ts) (I32 ∷ ts) (λ below c outer.
    ap (λ o. with_index o (λ u. replaces (u ∷ []) (u ∷ []) (map (λ t. Known t) (I32 ∷ ts) ++ below) c outer)) e)

takes-comparison_for : (p q : Bool) (x : Context) (signed unsigned : Comparison) (left right : IntTy) (s : ℕ) (ts : List ValType) → ScratchIsTyped s x.locals → Takes x (if p then Compare I32 signed ∷ [] else (if q then Compare I32 unsigned ∷ [] else extended left right s ++ Compare I64 signed ∷ [])) (I32 ∷ I32 ∷ ts) (I32 ∷ ts)
takes-comparison_for true q x signed unsigned left right s ts h = takes-compare x signed ts
takes-comparison_for false true x signed unsigned left right s ts h = takes-compare x unsigned ts
takes-comparison_for false false x signed unsigned left right s ts h = takes-then (takes-extended x left right s ts h) (takes-compare_long x signed ts)

takes-comparison : (x : Context) (signed unsigned : Comparison) (left right : IntTy) (s : ℕ) (ts : List ValType) → ScratchIsTyped s x.locals → Takes x (comparison_code signed unsigned left right s) (I32 ∷ I32 ∷ ts) (I32 ∷ ts)
takes-comparison x signed unsigned left right s ts h =
    takes-comparison_for (fits_signed left && fits_signed right) (is_unsigned left && is_unsigned right) x signed unsigned left right s ts h

pub takes-doubled : (x : Context) (s : ℕ) (ts : List ValType) → ScratchIsTyped s x.locals → Takes x (doubled s) (I32 ∷ I32 ∷ ts) (I32 ∷ I32 ∷ I32 ∷ I32 ∷ ts)
takes-doubled x s ts h =
    let right = first_local s x.locals h in
    let left = second_local s x.locals h in
    takes-then (takes-local_set x s I32 (I32 ∷ ts) right)
    (takes-then (takes-tee x (s + 1) ts left)
    (takes-then (takes-local_get x s I32 (I32 ∷ ts) right)
    (takes-then (takes-local_get x (s + 1) I32 (I32 ∷ I32 ∷ ts) left) (takes-local_get x s I32 (I32 ∷ I32 ∷ I32 ∷ ts) right))))

takes-choice : (x : Context) (signed unsigned : Comparison) (left right : IntTy) (s : ℕ) (ts : List ValType) → ScratchIsTyped s x.locals → Takes x (choice_code signed unsigned left right s) (I32 ∷ I32 ∷ ts) (I32 ∷ ts)
takes-choice x signed unsigned left right s ts h =
    takes-then (takes-doubled x s ts h) (takes-then (takes-comparison x signed unsigned left right s (I32 ∷ I32 ∷ ts) h) (takes-select x ts))

-- ---- it ends all that it begins

closed-comparison_for : (p q : Bool) (signed unsigned : Comparison) (left right : IntTy) (s : ℕ) → IsClosed (if p then Compare I32 signed ∷ [] else (if q then Compare I32 unsigned ∷ [] else extended left right s ++ Compare I64 signed ∷ []))
closed-comparison_for true q signed unsigned left right s = record { by = λ open_ifs rest h. h }
closed-comparison_for false true signed unsigned left right s = record { by = λ open_ifs rest h. h }
closed-comparison_for false false signed unsigned left right s = record { by = λ open_ifs rest h. h }

closed-comparison : (signed unsigned : Comparison) (left right : IntTy) (s : ℕ) → IsClosed (comparison_code signed unsigned left right s)
closed-comparison signed unsigned left right s =
    closed-comparison_for (fits_signed left && fits_signed right) (is_unsigned left && is_unsigned right) signed unsigned left right s

closed-choice : (signed unsigned : Comparison) (left right : IntTy) (s : ℕ) → IsClosed (choice_code signed unsigned left right s)
closed-choice signed unsigned left right s =
    closed-then (doubled s) (comparison_code signed unsigned left right s ++ Select ∷ []) (record { by = λ open_ifs rest h. h })
    (closed-then (comparison_code signed unsigned left right s) (Select ∷ []) (closed-comparison signed unsigned left right s) (record { by = λ open_ifs rest h. h }))

-- ---- comparisons

pub equal-right : (t : Setting) → AreNarrow t.left t.right t.to → IsRightOfTwo (family.Comparison comparison_op.Equal) t (comparison_code Eq Eq t.left t.right t.scratch)
equal-right t h = record {
  ends = λ m v c a b os rest il ir scratch state. comparison-ends m v c Eq Eq (λ a b. int_eq a b) t.scratch t.left t.right t.to a b os rest equal h.left_narrow h.right_narrow h.to_narrow il ir (scratch refl);
  typed = λ x ts scratch state. narrow-takes x (comparison_code Eq Eq t.left t.right t.scratch) ts t.left t.right t.to h (takes-comparison x Eq Eq t.left t.right t.scratch ts (scratch refl));
  closed = closed-comparison Eq Eq t.left t.right t.scratch;
}

pub not_equal-right : (t : Setting) → AreNarrow t.left t.right t.to → IsRightOfTwo (family.Comparison comparison_op.NotEqual) t (comparison_code Ne Ne t.left t.right t.scratch)
not_equal-right t h = record {
  ends = λ m v c a b os rest il ir scratch state. comparison-ends m v c Ne Ne (λ a b. not (int_eq a b)) t.scratch t.left t.right t.to a b os rest not_equal h.left_narrow h.right_narrow h.to_narrow il ir (scratch refl);
  typed = λ x ts scratch state. narrow-takes x (comparison_code Ne Ne t.left t.right t.scratch) ts t.left t.right t.to h (takes-comparison x Ne Ne t.left t.right t.scratch ts (scratch refl));
  closed = closed-comparison Ne Ne t.left t.right t.scratch;
}

pub less-right : (t : Setting) → AreNarrow t.left t.right t.to → IsRightOfTwo (family.Comparison comparison_op.Less) t (comparison_code LtS LtU t.left t.right t.scratch)
less-right t h = record {
  ends = λ m v c a b os rest il ir scratch state. comparison-ends m v c LtS LtU (λ a b. int_lt a b) t.scratch t.left t.right t.to a b os rest less h.left_narrow h.right_narrow h.to_narrow il ir (scratch refl);
  typed = λ x ts scratch state. narrow-takes x (comparison_code LtS LtU t.left t.right t.scratch) ts t.left t.right t.to h (takes-comparison x LtS LtU t.left t.right t.scratch ts (scratch refl));
  closed = closed-comparison LtS LtU t.left t.right t.scratch;
}

pub less_or_equal-right : (t : Setting) → AreNarrow t.left t.right t.to → IsRightOfTwo (family.Comparison comparison_op.LessOrEqual) t (comparison_code LeS LeU t.left t.right t.scratch)
less_or_equal-right t h = record {
  ends = λ m v c a b os rest il ir scratch state. comparison-ends m v c LeS LeU (λ a b. int_le a b) t.scratch t.left t.right t.to a b os rest less_or_equal h.left_narrow h.right_narrow h.to_narrow il ir (scratch refl);
  typed = λ x ts scratch state. narrow-takes x (comparison_code LeS LeU t.left t.right t.scratch) ts t.left t.right t.to h (takes-comparison x LeS LeU t.left t.right t.scratch ts (scratch refl));
  closed = closed-comparison LeS LeU t.left t.right t.scratch;
}

pub greater-right : (t : Setting) → AreNarrow t.left t.right t.to → IsRightOfTwo (family.Comparison comparison_op.Greater) t (comparison_code GtS GtU t.left t.right t.scratch)
greater-right t h = record {
  ends = λ m v c a b os rest il ir scratch state. comparison-ends m v c GtS GtU (λ a b. int_lt b a) t.scratch t.left t.right t.to a b os rest greater h.left_narrow h.right_narrow h.to_narrow il ir (scratch refl);
  typed = λ x ts scratch state. narrow-takes x (comparison_code GtS GtU t.left t.right t.scratch) ts t.left t.right t.to h (takes-comparison x GtS GtU t.left t.right t.scratch ts (scratch refl));
  closed = closed-comparison GtS GtU t.left t.right t.scratch;
}

pub greater_or_equal-right : (t : Setting) → AreNarrow t.left t.right t.to → IsRightOfTwo (family.Comparison comparison_op.GreaterOrEqual) t (comparison_code GeS GeU t.left t.right t.scratch)
greater_or_equal-right t h = record {
  ends = λ m v c a b os rest il ir scratch state. comparison-ends m v c GeS GeU (λ a b. int_le b a) t.scratch t.left t.right t.to a b os rest greater_or_equal h.left_narrow h.right_narrow h.to_narrow il ir (scratch refl);
  typed = λ x ts scratch state. narrow-takes x (comparison_code GeS GeU t.left t.right t.scratch) ts t.left t.right t.to h (takes-comparison x GeS GeU t.left t.right t.scratch ts (scratch refl));
  closed = closed-comparison GeS GeU t.left t.right t.scratch;
}

-- ---- the lesser and the greater of two

pub min-right : (t : Setting) → AreNarrow t.left t.right t.to → IsRightOfTwo (family.Extreme extreme_op.Min) t (choice_code LtS LtU t.left t.right t.scratch)
min-right t h = record {
  ends = λ m v c a b os rest il ir scratch state. choice-ends m v c LtS LtU (λ a b. int_lt a b) t.scratch t.left t.right t.to a b (int_min a b) os rest less h.left_narrow h.right_narrow h.to_narrow il ir (scratch refl) (lesser a b);
  typed = λ x ts scratch state. narrow-takes x (choice_code LtS LtU t.left t.right t.scratch) ts t.left t.right t.to h (takes-choice x LtS LtU t.left t.right t.scratch ts (scratch refl));
  closed = closed-choice LtS LtU t.left t.right t.scratch;
}

pub max-right : (t : Setting) → AreNarrow t.left t.right t.to → IsRightOfTwo (family.Extreme extreme_op.Max) t (choice_code GtS GtU t.left t.right t.scratch)
max-right t h = record {
  ends = λ m v c a b os rest il ir scratch state. choice-ends m v c GtS GtU (λ a b. int_lt b a) t.scratch t.left t.right t.to a b (int_max a b) os rest greater h.left_narrow h.right_narrow h.to_narrow il ir (scratch refl) refl;
  typed = λ x ts scratch state. narrow-takes x (choice_code GtS GtU t.left t.right t.scratch) ts t.left t.right t.to h (takes-choice x GtS GtU t.left t.right t.scratch ts (scratch refl));
  closed = closed-choice GtS GtU t.left t.right t.scratch;
}

-- ---- bits

pub and-right : (t : Setting) → AreNarrow t.left t.right t.to → IsRightOfTwo (family.Bitwise bitwise_op.And) t (word_code And)
and-right t h = record {
  ends = λ m v c a b os rest il ir scratch state. word-ends m v c And t.scratch t.left t.right t.to a b (bits_and a b) os rest h.left_narrow h.right_narrow h.to_narrow (ap (λ n. Gives n) (and_pattern a b));
  typed = λ x ts scratch state. narrow-takes x (word_code And) ts t.left t.right t.to h (takes-word x And ts);
  closed = record { by = λ open_ifs rest h. h };
}

pub or-right : (t : Setting) → AreNarrow t.left t.right t.to → IsRightOfTwo (family.Bitwise bitwise_op.Or) t (word_code Or)
or-right t h = record {
  ends = λ m v c a b os rest il ir scratch state. word-ends m v c Or t.scratch t.left t.right t.to a b (bits_or a b) os rest h.left_narrow h.right_narrow h.to_narrow (ap (λ n. Gives n) (or_pattern a b));
  typed = λ x ts scratch state. narrow-takes x (word_code Or) ts t.left t.right t.to h (takes-word x Or ts);
  closed = record { by = λ open_ifs rest h. h };
}

pub xor-right : (t : Setting) → AreNarrow t.left t.right t.to → IsRightOfTwo (family.Bitwise bitwise_op.Xor) t (word_code Xor)
xor-right t h = record {
  ends = λ m v c a b os rest il ir scratch state. word-ends m v c Xor t.scratch t.left t.right t.to a b (bits_xor a b) os rest h.left_narrow h.right_narrow h.to_narrow (ap (λ n. Gives n) (xor_pattern a b));
  typed = λ x ts scratch state. narrow-takes x (word_code Xor) ts t.left t.right t.to h (takes-word x Xor ts);
  closed = record { by = λ open_ifs rest h. h };
}
