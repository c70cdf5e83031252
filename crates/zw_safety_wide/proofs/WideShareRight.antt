-- The code of quotients and rests is right wherever it stands where a type has more than 32 bits.
use Rattle.std.proofs.Common.{◌≡◌, ℕ, ℤ, pos, negsuc, ◌+◌, Bool, true, false, List, [], ◌∷◌, ◌++◌, refl}
use Rattle.std.specs.Prelude.{if◌then◌else◌}
use Rattle.zw_num.specs.Arithmetic.{IsIn, least}
use Rattle.zw_num.specs.declared.int_ty.IntTy.{IntTy}
use Rattle.zw_num.specs.declared.operator.Operator.TheVariants as family
use Rattle.zw_num.specs.declared.operator.Division.TheVariants as division_op
use Rattle.zw_safety_narrow.proofs.CheckedTypes.{takes-if_panics}
use Rattle.zw_safety_narrow.proofs.NarrowTypes.{takes-long, takes-word, takes-long_const, takes-compare_long}
use Rattle.zw_safety_narrow.proofs.SaturatingRight.{takes-select_long, takes-tee_long}
use Rattle.zw_safety_narrow.specs.Checked.{PanicStateIsTyped}
use Rattle.zw_safety_narrow.specs.Code.{if_panics}
use Rattle.zw_safety_narrow.specs.Operators.{IsRightOfTwo, type_of}
use Rattle.zw_safety_narrow.specs.declared.setting.Setting.{Setting}
use Rattle.zw_safety_wide.proofs.WideShareRuns.{AreShared, wide_quotient-ends, wide_rest-ends, wide_modulo-ends, wide_floor-ends, wide_exact_quotient-ends}
use Rattle.zw_safety_wide.specs.WideSignedCode.{are_wide_shares, quotient_of, remainder_of, lacking, lacking_tested, shared, wide_quotient_code, wide_rest_code, across, floored_rest, floored_quotient, wide_modulo_code, wide_floor_code, left_tested, wide_exact_quotient_code}
use Rattle.zw_safety_words.proofs.WideBitRight.{AreStored, takes-settled, takes-both_got}
use Rattle.zw_safety_words.proofs.WideClosed.{closed-then, spread-closed, settled-closed}
use Rattle.zw_safety_words.proofs.WideTypes.{LongsAreTyped, longs, takes-spread}
use Rattle.zw_safety_words.specs.WideBitCode.{zero_tested}
use Rattle.zw_safety_words.specs.WideCode.{spread, settled}
use Rattle.zw_safety_words.specs.WideOrderCode.{both_unsigned}
use Rattle.zw_session.specs.Causes.{integer_overflow}
use Rattle.zw_wasm.proofs.TypingTakes.{takes-none, takes-then, takes-instr, takes-local_get, takes-local_set}
use Rattle.zw_wasm.specs.declared.module.BinaryOperator.{BinaryOperator}
use Rattle.zw_wasm.specs.declared.module.BinaryOperator.TheVariants.{Add, Sub, And, Xor, DivS, DivU, RemS, RemU}
use Rattle.zw_wasm.specs.declared.module.Comparison.TheVariants.{Eq, Ne, LtS}
use Rattle.zw_wasm.specs.declared.module.Conversion.TheVariants.{ExtendU}
use Rattle.zw_wasm.specs.declared.module.Instr.{Instr}
use Rattle.zw_wasm.specs.declared.module.Instr.TheVariants.{IsZero, Convert}
use Rattle.zw_wasm.specs.declared.module.ValType.{ValType}
use Rattle.zw_wasm.specs.declared.module.ValType.TheVariants.{I32 as word, I64 as long}
use Rattle.zw_wasm.specs.Sequences.{Takes}
use Rattle.zw_wasm.specs.Typing.{Context}
use Rattle.zw_wasm.specs.WellFormed.{IsClosed}

-- ---- types

pub takes-zero : (x : Context) (s : ℕ) (ts : List ValType) → LongsAreTyped s x.locals → PanicStateIsTyped x.module_ → Takes x (zero_tested s) ts ts
takes-zero x s ts h state =
    takes-then (takes-local_get x (s + 4) long ts h.right)
    (takes-then (takes-instr x (IsZero long) (long ∷ ts) (word ∷ ts) (λ below c outer. refl)) (takes-if_panics x 7 ts state))

takes-lacking : (x : Context) (to : IntTy) (s : ℕ) (ts : List ValType) → LongsAreTyped s x.locals → Takes x (lacking to s) ts (word ∷ ts)
takes-lacking x to s ts h =
    takes-then (takes-local_get x (s + 5) long ts h.left)
    (takes-then (takes-long_const x (least to) (long ∷ ts))
    (takes-then (takes-compare_long x Eq ts)
    (takes-then (takes-local_get x (s + 4) long (word ∷ ts) h.right)
    (takes-then (takes-long_const x (negsuc 0) (long ∷ word ∷ ts)) (takes-then (takes-compare_long x Eq (word ∷ ts)) (takes-word x And ts))))))

takes-lacking_for : (u : Bool) (x : Context) (to : IntTy) (s : ℕ) (ts : List ValType) → LongsAreTyped s x.locals → PanicStateIsTyped x.module_ → Takes x (if u then [] else lacking to s ++ if_panics integer_overflow) ts ts
takes-lacking_for true x to s ts h state = takes-none x ts
takes-lacking_for false x to s ts h state = takes-then (takes-lacking x to s ts h) (takes-if_panics x integer_overflow ts state)

pub takes-shared : (x : Context) (o : BinaryOperator) (s : ℕ) (ts : List ValType) → LongsAreTyped s x.locals → Takes x (shared o s) ts (long ∷ ts)
takes-shared x o s ts h = takes-then (takes-both_got x s ts h) (takes-long x o ts)

takes-across : (x : Context) (s : ℕ) (ts : List ValType) → LongsAreTyped s x.locals → Takes x (across s) ts (word ∷ ts)
takes-across x s ts h =
    takes-then (takes-local_get x (s + 6) long ts h.low)
    (takes-then (takes-local_get x (s + 4) long (long ∷ ts) h.right)
    (takes-then (takes-long x Xor ts)
    (takes-then (takes-long_const x (pos 0) (long ∷ ts))
    (takes-then (takes-compare_long x LtS ts)
    (takes-then (takes-local_get x (s + 6) long (word ∷ ts) h.low)
    (takes-then (takes-long_const x (pos 0) (long ∷ word ∷ ts)) (takes-then (takes-compare_long x Ne (word ∷ ts)) (takes-word x And ts))))))))

takes-floored_rest : (x : Context) (s : ℕ) (ts : List ValType) → LongsAreTyped s x.locals → Takes x (floored_rest s) ts (long ∷ ts)
takes-floored_rest x s ts h =
    takes-then (takes-then (takes-shared x RemS s ts h)
    (takes-then (takes-tee_long x (s + 6) ts h.low)
    (takes-then (takes-local_get x (s + 4) long (long ∷ ts) h.right) (takes-then (takes-long x Add ts) (takes-local_get x (s + 6) long (long ∷ ts) h.low)))))
    (takes-then (takes-across x s (long ∷ long ∷ ts) h) (takes-select_long x ts))

takes-extend_u : (x : Context) (ts : List ValType) → Takes x (Convert ExtendU ∷ []) (word ∷ ts) (long ∷ ts)
takes-extend_u x ts = takes-instr x (Convert ExtendU) (word ∷ ts) (long ∷ ts) (λ below c outer. refl)

takes-floored_quotient : (x : Context) (s : ℕ) (ts : List ValType) → LongsAreTyped s x.locals → Takes x (floored_quotient s) ts (long ∷ ts)
takes-floored_quotient x s ts h =
    takes-then (takes-then (takes-shared x RemS s ts h) (takes-local_set x (s + 6) long ts h.low))
    (takes-then (takes-shared x DivS s ts h)
    (takes-then (takes-across x s (long ∷ ts) h) (takes-then (takes-extend_u x (long ∷ ts)) (takes-long x Sub ts))))

takes-either : (u : Bool) (x : Context) (is js : List Instr) (ts us : List ValType) → Takes x is ts us → Takes x js ts us → Takes x (if u then is else js) ts us
takes-either true x is js ts us a b = a
takes-either false x is js ts us a b = b

takes-left : (x : Context) (o : BinaryOperator) (s : ℕ) (ts : List ValType) → LongsAreTyped s x.locals → PanicStateIsTyped x.module_ → Takes x (left_tested o s) ts ts
takes-left x o s ts h state =
    takes-then (takes-shared x o s ts h)
    (takes-then (takes-long_const x (pos 0) (long ∷ ts)) (takes-then (takes-compare_long x Ne ts) (takes-if_panics x 8 ts state)))

-- behind both operands and the test of the divisor
takes-divided : (x : Context) (left right to : IntTy) (s : ℕ) (ts : List ValType) (js : List Instr) → LongsAreTyped s x.locals → PanicStateIsTyped x.module_ → Takes x js ts (type_of to ∷ ts) → Takes x (spread left right s ++ (zero_tested s ++ js)) (type_of right ∷ type_of left ∷ ts) (type_of to ∷ ts)
takes-divided x left right to s ts js h state takes = takes-then (takes-spread x left right s ts h) (takes-then (takes-zero x s ts h state) takes)

takes-quotient : (x : Context) (left right to : IntTy) (s : ℕ) (ts : List ValType) → LongsAreTyped s x.locals → PanicStateIsTyped x.module_ → Takes x (wide_quotient_code left right to s) (type_of right ∷ type_of left ∷ ts) (type_of to ∷ ts)
takes-quotient x left right to s ts h state =
    takes-divided x left right to s ts (lacking_tested left right to s ++ (shared (quotient_of left right) s ++ settled to)) h state
    (takes-then (takes-lacking_for (both_unsigned left right) x to s ts h state) (takes-then (takes-shared x (quotient_of left right) s ts h) (takes-settled x to ts)))

takes-rest : (x : Context) (left right to : IntTy) (s : ℕ) (ts : List ValType) → LongsAreTyped s x.locals → PanicStateIsTyped x.module_ → Takes x (wide_rest_code left right to s) (type_of right ∷ type_of left ∷ ts) (type_of to ∷ ts)
takes-rest x left right to s ts h state =
    takes-divided x left right to s ts (shared (remainder_of left right) s ++ settled to) h state (takes-then (takes-shared x (remainder_of left right) s ts h) (takes-settled x to ts))

takes-modulo : (x : Context) (left right to : IntTy) (s : ℕ) (ts : List ValType) → LongsAreTyped s x.locals → PanicStateIsTyped x.module_ → Takes x (wide_modulo_code left right to s) (type_of right ∷ type_of left ∷ ts) (type_of to ∷ ts)
takes-modulo x left right to s ts h state =
    takes-divided x left right to s ts ((if both_unsigned left right then shared RemU s else floored_rest s) ++ settled to) h state
    (takes-then (takes-either (both_unsigned left right) x (shared RemU s) (floored_rest s) ts (long ∷ ts) (takes-shared x RemU s ts h) (takes-floored_rest x s ts h)) (takes-settled x to ts))

takes-floor : (x : Context) (left right to : IntTy) (s : ℕ) (ts : List ValType) → LongsAreTyped s x.locals → PanicStateIsTyped x.module_ → Takes x (wide_floor_code left right to s) (type_of right ∷ type_of left ∷ ts) (type_of to ∷ ts)
takes-floor x left right to s ts h state =
    takes-divided x left right to s ts (lacking_tested left right to s ++ ((if both_unsigned left right then shared DivU s else floored_quotient s) ++ settled to)) h state
    (takes-then (takes-lacking_for (both_unsigned left right) x to s ts h state)
    (takes-then (takes-either (both_unsigned left right) x (shared DivU s) (floored_quotient s) ts (long ∷ ts) (takes-shared x DivU s ts h) (takes-floored_quotient x s ts h)) (takes-settled x to ts)))

takes-exact : (x : Context) (left right to : IntTy) (s : ℕ) (ts : List ValType) → LongsAreTyped s x.locals → PanicStateIsTyped x.module_ → Takes x (wide_exact_quotient_code left right to s) (type_of right ∷ type_of left ∷ ts) (type_of to ∷ ts)
takes-exact x left right to s ts h state =
    takes-divided x left right to s ts (lacking_tested left right to s ++ (left_tested (remainder_of left right) s ++ (shared (quotient_of left right) s ++ settled to))) h state
    (takes-then (takes-lacking_for (both_unsigned left right) x to s ts h state)
    (takes-then (takes-left x (remainder_of left right) s ts h state) (takes-then (takes-shared x (quotient_of left right) s ts h) (takes-settled x to ts))))

-- ---- it ends all that it begins

pub zero-closed : (s : ℕ) → IsClosed (zero_tested s)
zero-closed s = record { by = λ open_ifs rest h. h }

lacking_for-closed : (u : Bool) (to : IntTy) (s : ℕ) → IsClosed (if u then [] else lacking to s ++ if_panics integer_overflow)
lacking_for-closed true to s = record { by = λ open_ifs rest h. h }
lacking_for-closed false to s = record { by = λ open_ifs rest h. h }

pub shared-closed : (o : BinaryOperator) (s : ℕ) → IsClosed (shared o s)
shared-closed o s = record { by = λ open_ifs rest h. h }

modulo_for-closed : (u : Bool) (s : ℕ) → IsClosed (if u then shared RemU s else floored_rest s)
modulo_for-closed true s = record { by = λ open_ifs rest h. h }
modulo_for-closed false s = record { by = λ open_ifs rest h. h }

floor_for-closed : (u : Bool) (s : ℕ) → IsClosed (if u then shared DivU s else floored_quotient s)
floor_for-closed true s = record { by = λ open_ifs rest h. h }
floor_for-closed false s = record { by = λ open_ifs rest h. h }

left-closed : (o : BinaryOperator) (s : ℕ) → IsClosed (left_tested o s)
left-closed o s = record { by = λ open_ifs rest h. h }

divided-closed : (left right : IntTy) (s : ℕ) (js : List Instr) → IsClosed js → IsClosed (spread left right s ++ (zero_tested s ++ js))
divided-closed left right s js h = closed-then (spread-closed left right s) (closed-then (zero-closed s) h)

-- ---- the operators

shared_from : (left right to : IntTy) (a b : ℤ) → AreStored left right to → are_wide_shares left right to ≡ true → IsIn left a → IsIn right b → AreShared left right to a b
shared_from left right to a b h e il ir = record { left_stored = h.left_stored; right_stored = h.right_stored; to_stored = h.to_stored; left_in = il; right_in = ir; served = e }

pub wide_div-right : (t : Setting) → AreStored t.left t.right t.to → are_wide_shares t.left t.right t.to ≡ true → IsRightOfTwo (family.Division division_op.Div) t (wide_quotient_code t.left t.right t.to t.scratch)
wide_div-right t h e = record {
  ends = λ m v c a b os rest il ir scratch state. wide_quotient-ends m v c t.scratch t.left t.right t.to a b os rest (shared_from t.left t.right t.to a b h e il ir) (scratch refl) state;
  typed = λ x ts scratch state. takes-quotient x t.left t.right t.to t.scratch ts (longs t.scratch x.locals (scratch refl)) state;
  closed = divided-closed t.left t.right t.scratch (lacking_tested t.left t.right t.to t.scratch ++ (shared (quotient_of t.left t.right) t.scratch ++ settled t.to)) (closed-then (lacking_for-closed (both_unsigned t.left t.right) t.to t.scratch) (closed-then (shared-closed (quotient_of t.left t.right) t.scratch) (settled-closed t.to)));
}

pub wide_div_trunc-right : (t : Setting) → AreStored t.left t.right t.to → are_wide_shares t.left t.right t.to ≡ true → IsRightOfTwo (family.Division division_op.DivTrunc) t (wide_quotient_code t.left t.right t.to t.scratch)
wide_div_trunc-right t h e = record {
  ends = λ m v c a b os rest il ir scratch state. wide_quotient-ends m v c t.scratch t.left t.right t.to a b os rest (shared_from t.left t.right t.to a b h e il ir) (scratch refl) state;
  typed = λ x ts scratch state. takes-quotient x t.left t.right t.to t.scratch ts (longs t.scratch x.locals (scratch refl)) state;
  closed = divided-closed t.left t.right t.scratch (lacking_tested t.left t.right t.to t.scratch ++ (shared (quotient_of t.left t.right) t.scratch ++ settled t.to)) (closed-then (lacking_for-closed (both_unsigned t.left t.right) t.to t.scratch) (closed-then (shared-closed (quotient_of t.left t.right) t.scratch) (settled-closed t.to)));
}

pub wide_rem-right : (t : Setting) → AreStored t.left t.right t.to → are_wide_shares t.left t.right t.to ≡ true → IsRightOfTwo (family.Division division_op.Rem) t (wide_rest_code t.left t.right t.to t.scratch)
wide_rem-right t h e = record {
  ends = λ m v c a b os rest il ir scratch state. wide_rest-ends m v c t.scratch t.left t.right t.to a b os rest (shared_from t.left t.right t.to a b h e il ir) (scratch refl) state;
  typed = λ x ts scratch state. takes-rest x t.left t.right t.to t.scratch ts (longs t.scratch x.locals (scratch refl)) state;
  closed = divided-closed t.left t.right t.scratch (shared (remainder_of t.left t.right) t.scratch ++ settled t.to) (closed-then (shared-closed (remainder_of t.left t.right) t.scratch) (settled-closed t.to));
}

pub wide_rem_trunc-right : (t : Setting) → AreStored t.left t.right t.to → are_wide_shares t.left t.right t.to ≡ true → IsRightOfTwo (family.Division division_op.RemTrunc) t (wide_rest_code t.left t.right t.to t.scratch)
wide_rem_trunc-right t h e = record {
  ends = λ m v c a b os rest il ir scratch state. wide_rest-ends m v c t.scratch t.left t.right t.to a b os rest (shared_from t.left t.right t.to a b h e il ir) (scratch refl) state;
  typed = λ x ts scratch state. takes-rest x t.left t.right t.to t.scratch ts (longs t.scratch x.locals (scratch refl)) state;
  closed = divided-closed t.left t.right t.scratch (shared (remainder_of t.left t.right) t.scratch ++ settled t.to) (closed-then (shared-closed (remainder_of t.left t.right) t.scratch) (settled-closed t.to));
}

pub wide_mod-right : (t : Setting) → AreStored t.left t.right t.to → are_wide_shares t.left t.right t.to ≡ true → IsRightOfTwo (family.Division division_op.Mod) t (wide_modulo_code t.left t.right t.to t.scratch)
wide_mod-right t h e = record {
  ends = λ m v c a b os rest il ir scratch state. wide_modulo-ends m v c t.scratch t.left t.right t.to a b os rest (shared_from t.left t.right t.to a b h e il ir) (scratch refl) state;
  typed = λ x ts scratch state. takes-modulo x t.left t.right t.to t.scratch ts (longs t.scratch x.locals (scratch refl)) state;
  closed = divided-closed t.left t.right t.scratch ((if both_unsigned t.left t.right then shared RemU t.scratch else floored_rest t.scratch) ++ settled t.to) (closed-then (modulo_for-closed (both_unsigned t.left t.right) t.scratch) (settled-closed t.to));
}

pub wide_div_floor-right : (t : Setting) → AreStored t.left t.right t.to → are_wide_shares t.left t.right t.to ≡ true → IsRightOfTwo (family.Division division_op.DivFloor) t (wide_floor_code t.left t.right t.to t.scratch)
wide_div_floor-right t h e = record {
  ends = λ m v c a b os rest il ir scratch state. wide_floor-ends m v c t.scratch t.left t.right t.to a b os rest (shared_from t.left t.right t.to a b h e il ir) (scratch refl) state;
  typed = λ x ts scratch state. takes-floor x t.left t.right t.to t.scratch ts (longs t.scratch x.locals (scratch refl)) state;
  closed = divided-closed t.left t.right t.scratch (lacking_tested t.left t.right t.to t.scratch ++ ((if both_unsigned t.left t.right then shared DivU t.scratch else floored_quotient t.scratch) ++ settled t.to)) (closed-then (lacking_for-closed (both_unsigned t.left t.right) t.to t.scratch) (closed-then (floor_for-closed (both_unsigned t.left t.right) t.scratch) (settled-closed t.to)));
}

pub wide_div_exact-right : (t : Setting) → AreStored t.left t.right t.to → are_wide_shares t.left t.right t.to ≡ true → IsRightOfTwo (family.Division division_op.DivExact) t (wide_exact_quotient_code t.left t.right t.to t.scratch)
wide_div_exact-right t h e = record {
  ends = λ m v c a b os rest il ir scratch state. wide_exact_quotient-ends m v c t.scratch t.left t.right t.to a b os rest (shared_from t.left t.right t.to a b h e il ir) (scratch refl) state;
  typed = λ x ts scratch state. takes-exact x t.left t.right t.to t.scratch ts (longs t.scratch x.locals (scratch refl)) state;
  closed = divided-closed t.left t.right t.scratch (lacking_tested t.left t.right t.to t.scratch ++ (left_tested (remainder_of t.left t.right) t.scratch ++ (shared (quotient_of t.left t.right) t.scratch ++ settled t.to))) (closed-then (lacking_for-closed (both_unsigned t.left t.right) t.to t.scratch) (closed-then (left-closed (remainder_of t.left t.right) t.scratch) (closed-then (shared-closed (quotient_of t.left t.right) t.scratch) (settled-closed t.to))));
}
