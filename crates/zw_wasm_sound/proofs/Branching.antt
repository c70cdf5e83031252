-- Branching: what branches and returns come to, where labels have types.
use Rattle.std.proofs.Common.{◌≡◌, ℕ, suc, List, [], ◌∷◌, ◌++◌, length, take, drop, reverse, Option, Some, None, refl, sym, ap, subst, ◌∙◌}
use Rattle.std.specs.Prelude.{nat_eq, nat_le, slice_get}
use Rattle.std.proofs.lemmas.Bool.{eq-eqb, le-leb}
use Rattle.std.proofs.lemmas.List.{length-reverse}
use Rattle.zw_wasm.specs.declared.module.Module.{Module}
use Rattle.zw_wasm.specs.declared.module.ValType.{ValType}
use Rattle.zw_wasm.specs.declared.num.Num.{Num}
use Rattle.zw_wasm.specs.Reduction.{Config, Goes, Label, Traps, at_work, branched, branched_by, branched_to, branched_unless_zero, jumped, label_or, no_rule, returned, with_operands}
use Rattle.zw_wasm.specs.Structure.{Ends}
use Rattle.zw_wasm_sound.specs.Configurations.{context_of}
use Rattle.zw_wasm_sound.specs.Rules.{IsTypedCode, types_of}
use Rattle.zw_wasm_sound.specs.Steps.{IsTypedAction}
use Rattle.zw_wasm_sound.proofs.Acting.{Around, Leads, goes-on, goes-over, over-operands}
use Rattle.zw_wasm_sound.proofs.Labels.{FindsLabel, IsLabelAt, finds-label}
use Rattle.zw_wasm_sound.proofs.Operands.{Parted, either-way, if-so, parted, types-append}

-- the types that a branch takes, on the operands
taken-front : (takes below : List ValType) (os : List Num) (n : ℕ) → types_of os ≡ reverse takes ++ below → n ≡ length takes → Parted os n (reverse takes) below
taken-front takes below os n e same =
    let count : length (reverse takes) ≡ n = length-reverse takes ∙ sym same in
    subst (λ k. Parted os k (reverse takes) below) count (parted (reverse takes) below os e)

module _ (m : Module) (results locals returns : List ValType) (ls : List (List ValType)) (inner : List ValType) where
  jumped-typed : (c : Config) (n : ℕ) (l : Label) (takes below : List ValType) → Around m results locals returns ls inner c → types_of c.frame.operands ≡ reverse takes ++ below → IsLabelAt (context_of m locals returns) c.frame.labels ls n takes l → IsTypedAction m results (jumped l n c)
  jumped-typed c n l takes below s e at =
      let p = taken-front takes below c.frame.operands l.arity e at.arity in
      let os = take l.arity c.frame.operands ++ l.below in
      let d = record c { frame = at_work c.frame os l.branch (drop (suc n) c.frame.labels) } in
      let same : types_of os ≡ reverse takes ++ types_of l.below = types-append (take l.arity c.frame.operands) l.below ∙ ap (λ ts. ts ++ types_of l.below) p.front in
      if-so (λ a. IsTypedAction m results a) (nat_le l.arity (length c.frame.operands)) (Goes d) (Traps no_rule) (le-leb l.arity (length c.frame.operands) p.there)
      (goes-on m results locals returns (drop (suc n) ls) at.results d (record { has_locals = s.has_locals; arity = s.arity; labelled = at.outer; below = s.below; store = s.store })
      (subst (λ ts. IsTypedCode (context_of m locals returns) (drop (suc n) ls) at.results l.branch ts) (sym same) at.branch))

  pub returned-typed : (c : Config) (below : List ValType) → Around m results locals returns ls inner c → types_of c.frame.operands ≡ reverse returns ++ below → IsTypedAction m results (returned c)
  returned-typed c below s e =
      let p = taken-front returns below c.frame.operands c.frame.arity e s.arity in
      let d = record c { frame = at_work c.frame (take c.frame.arity c.frame.operands) Ends [] } in
      if-so (λ a. IsTypedAction m results a) (nat_le c.frame.arity (length c.frame.operands)) (Goes d) (Traps no_rule) (le-leb c.frame.arity (length c.frame.operands) p.there)
      (goes-on m results locals returns (returns ∷ []) returns d (record { has_locals = s.has_locals; arity = s.arity; labelled = (refl, refl); below = s.below; store = s.store }) p.front)

  branched_to-typed : (c : Config) (n : ℕ) (takes below : List ValType) (o : Option Label) → Around m results locals returns ls inner c → types_of c.frame.operands ≡ reverse takes ++ below → FindsLabel (context_of m locals returns) c.frame.labels ls n takes o → IsTypedAction m results (branched_to o n c)
  branched_to-typed c n takes below (Some l) s e h = jumped-typed c n l takes below s e h
  branched_to-typed c n takes below None s e h =
      if-so (λ a. IsTypedAction m results a) (nat_eq n (length c.frame.labels)) (returned c) (Traps no_rule) (eq-eqb n (length c.frame.labels) h.0)
      (returned-typed c below s (e ∙ ap (λ ts. reverse ts ++ below) h.1))

  pub branched-typed : (c : Config) (n : ℕ) (takes below : List ValType) → Around m results locals returns ls inner c → slice_get ls n ≡ Some takes → types_of c.frame.operands ≡ reverse takes ++ below → IsTypedAction m results (branched n c)
  branched-typed c n takes below s is e =
      branched_to-typed c n takes below (slice_get c.frame.labels n) s e (finds-label (context_of m locals returns) c.frame.labels ls inner n takes s.labelled is)

  pub unless_zero-typed : (c : Config) (os : List Num) (n k : ℕ) (takes below : List ValType) → Around m results locals returns ls inner c → slice_get ls n ≡ Some takes → types_of os ≡ reverse takes ++ below → Leads m results locals returns ls inner c (reverse takes ++ below) → IsTypedAction m results (branched_unless_zero n k (with_operands os c))
  unless_zero-typed c os n k takes below s is e h =
      let d = with_operands os c in
      either-way (λ a. IsTypedAction m results a) (nat_eq k 0) (Goes d) (branched n d)
      (goes-over m results locals returns ls inner c os (reverse takes ++ below) s e h)
      (branched-typed d n takes below (over-operands m results locals returns ls inner c os s) is e)

  by_table : (c : Config) (default k : ℕ) (labels : List ℕ) (takes below : List ValType) (o : Option ℕ) → slice_get labels k ≡ o → Around m results locals returns ls inner c → slice_get ls default ≡ Some takes → ((j n : ℕ) → slice_get labels j ≡ Some n → slice_get ls n ≡ Some takes) → types_of c.frame.operands ≡ reverse takes ++ below → IsTypedAction m results (branched (label_or default o) c)
  by_table c default k labels takes below None at s is each e = branched-typed c default takes below s is e
  by_table c default k labels takes below (Some n) at s is each e = branched-typed c n takes below s (each k n at) e

  pub branched_by-typed : (c : Config) (os : List Num) (labels : List ℕ) (default k : ℕ) (takes below : List ValType) → Around m results locals returns ls inner c → slice_get ls default ≡ Some takes → ((j n : ℕ) → slice_get labels j ≡ Some n → slice_get ls n ≡ Some takes) → types_of os ≡ reverse takes ++ below → IsTypedAction m results (branched_by labels default k (with_operands os c))
  branched_by-typed c os labels default k takes below s is each e =
      by_table (with_operands os c) default k labels takes below (slice_get labels k) refl (over-operands m results locals returns ls inner c os s) is each e
