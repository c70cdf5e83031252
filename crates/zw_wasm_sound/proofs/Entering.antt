-- Entering: what calls come to where functions have types, in a module whose bodies have those of their functions.
use Rattle.std.proofs.Common.{◌≡◌, ℕ, zero, suc, ◌+◌, ◌-◌, ◌≤◌, ◌<◌, Bool, true, false, cond, List, [], ◌∷◌, ◌++◌, length, map, take, drop, replicate, reverse, Option, Some, None, refl, sym, ap, subst, ◌∙◌, arith}
use Rattle.std.specs.Prelude.{nat_le, nat_lt, slice_get}
use Rattle.std.specs.Option.{option_to_list}
use Rattle.std.proofs.lemmas.Bool.{and_parts, le-leb, ltb-false}
use Rattle.std.proofs.lemmas.List.{length-append, length-map, length-reverse, reverse-reverse}
use Rattle.std.proofs.lemmas.Option.{slice_get_within}
use Rattle.zw_wasm.specs.declared.module.CodeBody.{CodeBody}
use Rattle.zw_wasm.specs.declared.module.FuncImport.{FuncImport}
use Rattle.zw_wasm.specs.declared.module.FuncType.{FuncType}
use Rattle.zw_wasm.specs.declared.module.Module.{Module}
use Rattle.zw_wasm.specs.declared.module.ValType.{ValType}
use Rattle.zw_wasm.specs.declared.module.ValType.TheVariants as ty
use Rattle.zw_wasm.specs.declared.num.Num.{Num}
use Rattle.zw_wasm.specs.Functions.{func_count, func_type, func_type_indices, type_at}
use Rattle.zw_wasm.specs.Reduction.{Action, CallsHost, Config, Traps, arity_of, called, called_at, called_by, enter, entered, frames_trap, max_frames, no_rule, same_func_type, signature_trap, with_operands}
use Rattle.zw_wasm.specs.Structure.{code_of, num_of, zeros}
use Rattle.zw_wasm.specs.Typing.{same_type, same_types}
use Rattle.zw_wasm.specs.Validity.{expanded}
use Rattle.zw_wasm_sound.specs.Configurations.{Waits, context_of}
use Rattle.zw_wasm_sound.specs.Rules.{IsTypedCode, types_of}
use Rattle.zw_wasm_sound.specs.Steps.{IsTypedAction}
use Rattle.zw_wasm_sound.proofs.Operands.{Parted, either-way, if-so, num_of-typed, parted, types-append, types-replicate, types-reverse}

-- each function with a body has its type
pub record HasTypedBodies (m : Module) : Type 0 where
  pub count : length m.codes ≡ length m.funcs
  pub each : (k : ℕ) (b : CodeBody) (t : FuncType) → slice_get m.codes k ≡ Some b → func_type m (length m.imports + k) ≡ Some t → IsTypedCode (context_of m (t.params ++ expanded b.locals) (option_to_list t.result)) (option_to_list t.result ∷ []) (option_to_list t.result) (code_of b.instrs) []

pub is_there : {A : Type 0} (xs : List A) (n : ℕ) → n < length xs → (x : A) × (slice_get xs n ≡ Some x)
is_there [] n h = absurd (omega arith)
is_there (x ∷ xs) zero h = (x, refl)
is_there (x ∷ xs) (suc n) h = is_there xs n (omega arith)

-- a function with a type is one of the module's
index-inside : (m : Module) (f : ℕ) (o : Option ℕ) (t : FuncType) → slice_get (func_type_indices m) f ≡ o → type_at m o ≡ Some t → f < length (func_type_indices m)
index-inside m f None t e h = absurd (cc)
index-inside m f (Some k) t e h = slice_get_within (func_type_indices m) f k e

pub func-inside : (m : Module) (f : ℕ) (t : FuncType) → func_type m f ≡ Some t → f < func_count m
func-inside m f t e =
    let inside = index-inside m f (slice_get (func_type_indices m) f) t refl e in
    let imported = map (λ (i : FuncImport). i.ty) m.imports in
    let count : length imported ≡ length m.imports = length-map m.imports (λ (i : FuncImport). i.ty) in
    omega (arith, inside, length-append imported m.funcs, count)

-- the locals of a body that begin at 0 have their types
pub zeros-typed : (runs : List (ℕ × ValType)) → types_of (zeros runs) ≡ expanded runs
zeros-typed [] = refl
zeros-typed (run ∷ runs) =
    types-append (replicate run.0 (num_of run.1 0)) (zeros runs)
    ∙ ap (λ ts. ts ++ types_of (zeros runs)) (types-replicate run.0 (num_of run.1 0) ∙ ap (replicate run.0) (num_of-typed run.1 0))
    ∙ ap (λ ts. replicate run.0 run.1 ++ ts) (zeros-typed runs)

pub same_type-is : (t u : ValType) → same_type t u ≡ true → t ≡ u
same_type-is ty.I32 ty.I32 e = refl
same_type-is ty.I64 ty.I64 e = refl
same_type-is ty.I32 ty.I64 e = absurd (cc)
same_type-is ty.I64 ty.I32 e = absurd (cc)

pub same_types-are : (ts us : List ValType) → same_types ts us ≡ true → ts ≡ us
same_types-are [] [] e = refl
same_types-are (t ∷ ts) (u ∷ us) e =
    let both = and_parts (same_type t u) (same_types ts us) e in
    ap (λ v. v ∷ ts) (same_type-is t u both.0) ∙ ap (λ vs. u ∷ vs) (same_types-are ts us both.1)
same_types-are [] (u ∷ us) e = absurd (cc)
same_types-are (t ∷ ts) [] e = absurd (cc)

module _ (m : Module) (bodies : HasTypedBodies m) (results : List ValType) where
  body-entered : (f : ℕ) (t : FuncType) (b : CodeBody) (args : List Num) (c : Config) → func_type m f ≡ Some t → length m.imports ≤ f → slice_get m.codes (f - length m.imports) ≡ Some b → types_of args ≡ t.params → Waits m results (reverse (option_to_list t.result)) c → IsTypedAction m results (entered (Some b) f (arity_of (func_type m f)) args c)
  body-entered f t b args c is own at e w =
      let same : f ≡ length m.imports + (f - length m.imports) = omega arith in
      let there : func_type m (length m.imports + (f - length m.imports)) ≡ Some t = ap (func_type m) (sym same) ∙ is in
      record {
        frames = (
          option_to_list t.result,
          record {
            locals = t.params ++ expanded b.locals;
            labels = option_to_list t.result ∷ [];
            inner = option_to_list t.result;
            has_locals = types-append args (zeros b.locals) ∙ ap (λ ts. ts ++ types_of (zeros b.locals)) e ∙ ap (λ ts. t.params ++ ts) (zeros-typed b.locals);
            arity = ap arity_of is;
            code = bodies.each (f - length m.imports) b t at there;
            labelled = (refl, refl);
          },
          w.frames,
        );
        store = w.store;
      }

  own-entered : (f : ℕ) (t : FuncType) (args : List Num) (c : Config) → func_type m f ≡ Some t → length m.imports ≤ f → types_of args ≡ t.params → Waits m results (reverse (option_to_list t.result)) c → IsTypedAction m results (entered (slice_get m.codes (f - length m.imports)) f (arity_of (func_type m f)) args c)
  own-entered f t args c is own e w =
      let inside : f - length m.imports < length m.codes = omega (arith, own, func-inside m f t is, bodies.count) in
      let b = is_there m.codes (f - length m.imports) inside in
      subst (λ o. IsTypedAction m results (entered o f (arity_of (func_type m f)) args c)) (sym b.1) (body-entered f t b.0 args c is own b.1 e w)

  -- a call of a function with arguments of its parameters' types
  pub entered-typed : (f : ℕ) (t : FuncType) (args : List Num) (c : Config) → func_type m f ≡ Some t → types_of args ≡ t.params → Waits m results (reverse (option_to_list t.result)) c → IsTypedAction m results (enter m f args c)
  entered-typed f t args c is e w = by_number (nat_lt f (length m.imports)) refl
    where
      own : Action
      own = cond (nat_le max_frames (length c.below)) (Traps frames_trap) (entered (slice_get m.codes (f - length m.imports)) f (arity_of (func_type m f)) args c)

      by_number : (b : Bool) → nat_lt f (length m.imports) ≡ b → IsTypedAction m results (cond b (CallsHost f args c) own)
      by_number true h = record { ty = t; func = is; args_typed = e; waits = w }
      by_number false h =
          either-way (λ a. IsTypedAction m results a) (nat_le max_frames (length c.below)) (Traps frames_trap) (entered (slice_get m.codes (f - length m.imports)) f (arity_of (func_type m f)) args c)
          (λ k. absurd (omega (arith, k))) (own-entered f t args c is (ltb-false f (length m.imports) h) e w)

  -- arguments taken from the operands
  pub called-typed : (f : ℕ) (t : FuncType) (below : List ValType) (c : Config) → func_type m f ≡ Some t → types_of c.frame.operands ≡ reverse t.params ++ below → ((os : List Num) → types_of os ≡ below → Waits m results (reverse (option_to_list t.result)) (with_operands os c)) → IsTypedAction m results (called m f (Some t) c)
  called-typed f t below c is e w =
      let n = length t.params in
      let count : length (reverse t.params) ≡ n = length-reverse t.params in
      let p : Parted c.frame.operands n (reverse t.params) below = subst (λ k. Parted c.frame.operands k (reverse t.params) below) count (parted (reverse t.params) below c.frame.operands e) in
      let args = reverse (take n c.frame.operands) in
      let typed : types_of args ≡ t.params = types-reverse (take n c.frame.operands) ∙ ap reverse p.front ∙ reverse-reverse t.params in
      if-so (λ a. IsTypedAction m results a) (nat_le n (length c.frame.operands)) (enter m f args (with_operands (drop n c.frame.operands) c)) (Traps no_rule) (le-leb n (length c.frame.operands) p.there)
      (entered-typed f t args (with_operands (drop n c.frame.operands) c) is typed (w (drop n c.frame.operands) p.behind))

  pub call-typed : (f : ℕ) (t : FuncType) (below : List ValType) (c : Config) → func_type m f ≡ Some t → types_of c.frame.operands ≡ reverse t.params ++ below → ((os : List Num) → types_of os ≡ below → Waits m results (reverse (option_to_list t.result)) (with_operands os c)) → IsTypedAction m results (called m f (func_type m f) c)
  call-typed f t below c is e w = subst (λ o. IsTypedAction m results (called m f o c)) (sym is) (called-typed f t below c is e w)

  -- a function of the table, which has the type or another
  func-called : (f : ℕ) (t : FuncType) (below : List ValType) (c : Config) (o : Option FuncType) → func_type m f ≡ o → types_of c.frame.operands ≡ reverse t.params ++ below → ((os : List Num) → types_of os ≡ below → Waits m results (reverse (option_to_list t.result)) (with_operands os c)) → IsTypedAction m results (cond (same_func_type (Some t) o) (called m f o c) (Traps signature_trap))
  func-called f t below c None is e w = λ k. absurd (omega (arith, k))
  func-called f t below c (Some u) is e w = by_type (same_func_type (Some t) (Some u)) refl
    where
      by_type : (b : Bool) → same_func_type (Some t) (Some u) ≡ b → IsTypedAction m results (cond b (called m f (Some u) c) (Traps signature_trap))
      by_type false h = λ k. absurd (omega (arith, k))
      by_type true h =
          let both = and_parts (same_types t.params u.params) (same_types (option_to_list t.result) (option_to_list u.result)) h in
          let params = same_types-are t.params u.params both.0 in
          let result = same_types-are (option_to_list t.result) (option_to_list u.result) both.1 in
          called-typed f u below c is (e ∙ ap (λ ts. reverse ts ++ below) params)
          (λ os k. subst (λ ts. Waits m results (reverse ts) (with_operands os c)) result (w os k))

  called_by-typed : (t : FuncType) (below : List ValType) (entry : Option (Option ℕ)) (c : Config) → types_of c.frame.operands ≡ reverse t.params ++ below → ((os : List Num) → types_of os ≡ below → Waits m results (reverse (option_to_list t.result)) (with_operands os c)) → IsTypedAction m results (called_by m (Some t) entry c)
  called_by-typed t below None c e w = λ k. absurd (omega (arith, k))
  called_by-typed t below (Some None) c e w = λ k. absurd (omega (arith, k))
  called_by-typed t below (Some (Some f)) c e w = func-called f t below c (func_type m f) refl e w

  pub called_at-typed : (n k : ℕ) (t : FuncType) (below : List ValType) (c : Config) → slice_get m.types n ≡ Some t → types_of c.frame.operands ≡ reverse t.params ++ below → ((os : List Num) → types_of os ≡ below → Waits m results (reverse (option_to_list t.result)) (with_operands os c)) → IsTypedAction m results (called_at m n k c)
  called_at-typed n k t below c is e w =
      subst (λ o. IsTypedAction m results (called_by m o (slice_get c.world.store.table k) c)) (sym is) (called_by-typed t below (slice_get c.world.store.table k) c e w)
