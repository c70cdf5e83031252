-- How the typing of sequences composes, and what single instructions take and give.
use Rattle.std.proofs.Common.{◌≡◌, ℕ, ℤ, suc, ◌+◌, Bool, true, cond, List, [], ◌∷◌, ◌++◌, length, map, reverse, Option, Some, None, refl, sym, ap, ◌∙◌, arith, append_assoc, length-append, add_assoc, add-zero, add-one}
use Rattle.std.specs.Prelude.{slice_get}
use Rattle.std.specs.Option.{option_to_list}
use Rattle.std.proofs.lemmas.List.{map-append, reverse-append}
use Rattle.zw_wasm.specs.declared.module.FuncType.{FuncType}
use Rattle.zw_wasm.specs.declared.module.GlobalDef.{GlobalDef}
use Rattle.zw_wasm.specs.declared.module.Instr.{Instr}
use Rattle.zw_wasm.specs.declared.module.Instr.TheVariants.{Unreachable, If, End, Call, LocalGet, LocalSet, GlobalGet, GlobalSet, I32Const}
use Rattle.zw_wasm.specs.declared.module.ValType.{ValType}
use Rattle.zw_wasm.specs.declared.module.ValType.TheVariants.{I32, I64}
use Rattle.zw_wasm.specs.Functions.{func_type}
use Rattle.zw_wasm.specs.Sequences.{Takes}
use Rattle.zw_wasm.specs.Structure.{i32_add, i32_lt_u, i32_sub}
use Rattle.zw_wasm.specs.Typing.{Context, Control, Operand, Known, Goes, Refused, wrong_type, same_type, taken, and_taken, all_taken, put_on, with_operands, with_index, replaces, writes, if_control, after_instr, check_instr, check_code}

abbrev pub known : List ValType → List Operand
known ts = map (λ t. Known t) ts

pub takes-none : (x : Context) (ts : List ValType) → Takes x [] ts ts
takes-none x ts = record { by = λ at rest below c outer. ap (λ n. check_code x n rest (known ts ++ below) c outer) (sym (add-zero at)) }

pub takes-then : {x : Context} {is js : List Instr} {ts us vs : List ValType} → Takes x is ts us → Takes x js us vs → Takes x (is ++ js) ts vs
takes-then {x} {is} {js} {ts} {us} {vs} p q = record {
  by = λ at rest below c outer.
      ap (λ l. check_code x at l (known ts ++ below) c outer) (append_assoc is js rest)
      ∙ p.by at (js ++ rest) below c outer
      ∙ q.by (at + length is) rest below c outer
      ∙ ap (λ n. check_code x n rest (known vs ++ below) c outer) (add_assoc at (length is) (length js) ∙ ap (λ n. at + n) (sym (length-append is js)));
}

-- an instruction that is accepted over any operands
pub takes-instr : (x : Context) (i : Instr) (ts us : List ValType) → ((below : List Operand) (c : Control) (outer : List Control) → check_instr x i (known ts ++ below) c outer ≡ Goes (known us ++ below) c outer) → Takes x (i ∷ []) ts us
takes-instr x i ts us h = record {
  by = λ at rest below c outer.
      ap (λ r. after_instr r at rest (check_code x (suc at) rest)) (h below c outer)
      ∙ ap (λ n. check_code x n rest (known us ++ below) c outer) (sym (add-one at));
}

pub takes-local_get : (x : Context) (n : ℕ) (t : ValType) (ts : List ValType) → slice_get x.locals n ≡ Some t → Takes x (LocalGet n ∷ []) ts (t ∷ ts)
takes-local_get x n t ts e = takes-instr x (LocalGet n) ts (t ∷ ts) (λ below c outer.
    ap (λ o. with_index o (λ u. replaces [] (u ∷ []) (known ts ++ below) c outer)) e)

pub takes-i32_const : (x : Context) (z : ℤ) (ts : List ValType) → Takes x (I32Const z ∷ []) ts (I32 ∷ ts)
takes-i32_const x z ts = takes-instr x (I32Const z) ts (I32 ∷ ts) (λ below c outer. refl)

pub takes-i32_add : (x : Context) (ts : List ValType) → Takes x (i32_add ∷ []) (I32 ∷ I32 ∷ ts) (I32 ∷ ts)
takes-i32_add x ts = takes-instr x i32_add (I32 ∷ I32 ∷ ts) (I32 ∷ ts) (λ below c outer. refl)

pub takes-i32_sub : (x : Context) (ts : List ValType) → Takes x (i32_sub ∷ []) (I32 ∷ I32 ∷ ts) (I32 ∷ ts)
takes-i32_sub x ts = takes-instr x i32_sub (I32 ∷ I32 ∷ ts) (I32 ∷ ts) (λ below c outer. refl)

pub takes-i32_lt_u : (x : Context) (ts : List ValType) → Takes x (i32_lt_u ∷ []) (I32 ∷ I32 ∷ ts) (I32 ∷ ts)
takes-i32_lt_u x ts = takes-instr x i32_lt_u (I32 ∷ I32 ∷ ts) (I32 ∷ ts) (λ below c outer. refl)

-- ---- what is known of operands is taken

same_type-same : (t : ValType) → same_type t t ≡ true
same_type-same I32 = refl
same_type-same I64 = refl

pub taken-known : (t : ValType) (os : List Operand) (u : Bool) → taken t (Known t ∷ os) u ≡ Some os
taken-known t os u = ap (λ b. cond b (Some os) None) (same_type-same t)

-- the operands of a sequence of parameters, the last first
pub known-onto : (t : ValType) (ts : List ValType) (os : List Operand) → known (reverse (t ∷ ts)) ++ os ≡ known (reverse ts) ++ (Known t ∷ os)
known-onto t ts os =
    ap (λ us. known us ++ os) (reverse-append (t ∷ []) ts)
    ∙ ap (λ us. us ++ os) (map-append (λ t. Known t) (reverse ts) (t ∷ []))
    ∙ append_assoc (known (reverse ts)) (Known t ∷ []) os

pub all_taken-known : (ts : List ValType) (os : List Operand) (u : Bool) → all_taken ts (known (reverse ts) ++ os) u ≡ Some os
all_taken-known [] os u = refl
all_taken-known (t ∷ ts) os u =
    ap (λ us. and_taken (all_taken ts us u) (λ rest. taken t rest u)) (known-onto t ts os)
    ∙ ap (λ o. and_taken o (λ rest. taken t rest u)) (all_taken-known ts (Known t ∷ os) u)
    ∙ taken-known t os u

-- one operand is taken
takes_one : (t : ValType) (os : List Operand) (c : Control) (outer : List Control) → replaces (t ∷ []) [] (Known t ∷ os) c outer ≡ Goes os c outer
takes_one t os c outer = ap (λ o. with_operands o (λ rest. Goes rest c outer)) (taken-known t os c.unreachable)

pub takes-local_set : (x : Context) (n : ℕ) (t : ValType) (ts : List ValType) → slice_get x.locals n ≡ Some t → Takes x (LocalSet n ∷ []) (t ∷ ts) ts
takes-local_set x n t ts e = takes-instr x (LocalSet n) (t ∷ ts) ts (λ below c outer.
    ap (λ o. with_index o (λ u. replaces (u ∷ []) [] (Known t ∷ (known ts ++ below)) c outer)) e
    ∙ takes_one t (known ts ++ below) c outer)

pub takes-global_get : (x : Context) (n : ℕ) (g : GlobalDef) (ts : List ValType) → slice_get x.module_.globals n ≡ Some g → Takes x (GlobalGet n ∷ []) ts (g.ty ∷ ts)
takes-global_get x n g ts e = takes-instr x (GlobalGet n) ts (g.ty ∷ ts) (λ below c outer.
    ap (λ o. with_index o (λ (h : GlobalDef). replaces [] (h.ty ∷ []) (known ts ++ below) c outer)) e)

pub takes-global_set : (x : Context) (n : ℕ) (g : GlobalDef) (ts : List ValType) → slice_get x.module_.globals n ≡ Some g → g.mutable ≡ true → Takes x (GlobalSet n ∷ []) (g.ty ∷ ts) ts
takes-global_set x n g ts e changes = takes-instr x (GlobalSet n) (g.ty ∷ ts) ts (λ below c outer.
    let os = Known g.ty ∷ (known ts ++ below) in
    ap (λ o. with_index o (λ (h : GlobalDef). writes h os c outer)) e
    ∙ ap (λ b. cond b (replaces (g.ty ∷ []) [] os c outer) (Refused wrong_type)) changes
    ∙ takes_one g.ty (known ts ++ below) c outer)

-- ---- calls

pub put_on-known : (r : Option ValType) (ts : List ValType) (below : List Operand) → put_on (option_to_list r) (known ts ++ below) ≡ known (option_to_list r ++ ts) ++ below
put_on-known None ts below = refl
put_on-known (Some t) ts below = refl

pub takes-call : (x : Context) (f : ℕ) (t : FuncType) (ts : List ValType) → func_type x.module_ f ≡ Some t → Takes x (Call f ∷ []) (reverse t.params ++ ts) (option_to_list t.result ++ ts)
takes-call x f t ts e = takes-instr x (Call f) (reverse t.params ++ ts) (option_to_list t.result ++ ts) (λ below c outer.
    let os = known (reverse t.params ++ ts) ++ below in
    let apart : os ≡ known (reverse t.params) ++ (known ts ++ below) =
    ap (λ us. us ++ below) (map-append (λ t. Known t) (reverse t.params) ts) ∙ append_assoc (known (reverse t.params)) (known ts) below in
    ap (λ o. with_index o (λ (u : FuncType). replaces u.params (option_to_list u.result) os c outer)) e
    ∙ ap (λ us. replaces t.params (option_to_list t.result) us c outer) apart
    ∙ ap (λ o. with_operands o (λ rest. Goes (put_on (option_to_list t.result) rest) c outer)) (all_taken-known t.params (known ts ++ below) c.unreachable)
    ∙ ap (λ us. Goes us c outer) (put_on-known t.result ts below))

-- ---- choices

-- code that takes and leaves nothing, where an operand isn't 0
pub takes-if : (x : Context) (is : List Instr) (ts : List ValType) → Takes x is [] [] → Takes x (If None ∷ is ++ End ∷ []) (I32 ∷ ts) ts
takes-if x is ts h = record {
  by = λ at rest below c outer.
      let inner = if_control None (known ts ++ below) in
      let count : suc (suc at + length is) ≡ at + suc (length (is ++ End ∷ [])) = omega (arith, length-append is (End ∷ [])) in
      ap (λ l. check_code x (suc at) l [] inner (c ∷ outer)) (append_assoc is (End ∷ []) rest)
      ∙ h.by (suc at) (End ∷ rest) [] inner (c ∷ outer)
      ∙ ap (λ n. check_code x n rest (known ts ++ below) c outer) count;
}

-- and code that traps
pub takes-if_unreachable : (x : Context) (is : List Instr) (us ts : List ValType) → Takes x is [] us → Takes x (If None ∷ is ++ Unreachable ∷ End ∷ []) (I32 ∷ ts) ts
takes-if_unreachable x is us ts h = record {
  by = λ at rest below c outer.
      let inner = if_control None (known ts ++ below) in
      let count : suc (suc (suc at + length is)) ≡ at + suc (length (is ++ Unreachable ∷ End ∷ [])) = omega (arith, length-append is (Unreachable ∷ End ∷ [])) in
      ap (λ l. check_code x (suc at) l [] inner (c ∷ outer)) (append_assoc is (Unreachable ∷ End ∷ []) rest)
      ∙ h.by (suc at) (Unreachable ∷ End ∷ rest) [] inner (c ∷ outer)
      ∙ ap (λ n. check_code x n rest (known ts ++ below) c outer) count;
}
