-- An expression, as far as it was read.
use Rattle.std.proofs.Common.{◌≡◌, ℕ, ◌<◌, Bool, true, false, List, [], ◌∷◌, ◌++◌, length, refl, sym, ap, subst, ◌∙◌, append_assoc, length-append, arith, ◌⊎◌, inl, inr, Option, Result, Ok, Err}
use Rattle.std.specs.Borrow.{Bor}
use Rattle.std.specs.Result.{IsErrAnd}
use Rattle.zw_wasm.specs.declared.module.Instr.{Instr}
use Rattle.zw_wasm.specs.declared.module.Instr.TheVariants.{Block, Loop, If, Else, End}
use Rattle.zw_wasm.specs.declared.module.ValType.{ValType}
use Rattle.zw_wasm.specs.ModuleBytes.{EachInTurn, IsInstruction, IsExpression, ClosesIn}
use Rattle.zw_wasm_read.specs.Nesting.{GoesOn}
use Rattle.zw_wasm_read.specs.Reads.{Leaves, IsUnfit, Reads}
use Rattle.zw_wasm_read.specs.Uniqueness.{Sure}
use Rattle.zw_wasm_read.specs.declared.unread.Unread.{Unread}
use Rattle.zw_wasm_read.specs.declared.unread.Unread.TheVariants as unread
use Rattle.zw_wasm_read.proofs.InstructionLemmas.{sure-instruction}
use Rattle.zw_wasm_read.proofs.Leaving.{turn, then, as_kind, no_byte, nothing, byte-whole}
use Rattle.zw_wasm_read.proofs.Uniqueness.{behind}

-- more instructions, and what they leave
pub record More (opened : List Bool) (bytes rest : List ℕ) (more : List Instr) : Type 0 where
  pub closes : ClosesIn opened more
  pub each : Leaves (EachInTurn IsInstruction more) bytes rest

-- These instructions were read from the start on. What closes them makes an expression of them, and is behind them in every
-- expression at the start.
pub record Under (start : List ℕ) (instrs : List Instr) (opened : List Bool) (bytes : List ℕ) : Type 0 where
  pub adds : (more : List Instr) (rest : List ℕ) → More opened bytes rest more → Leaves (IsExpression (instrs ++ more)) start rest
  pub takes : (all : List Instr) (rest : List ℕ) → Leaves (IsExpression all) start rest → (more : List Instr) × (all ≡ instrs ++ more) × More opened bytes rest more

pub at_start : (start : List ℕ) → Under start [] [] start
at_start start = record {
  adds = λ more rest m. as_kind (λ front each. record { ended = m.closes; each = each }) m.each;
  takes = λ all rest l. (all, refl, record { closes = l.spelled.ended; each = as_kind (λ front e. e.each) l });
}

-- what closes something is not nothing
pub first_of : (opened : List Bool) (more : List Instr) → ClosesIn opened more → (i : Instr) × (others : List Instr) × (more ≡ i ∷ others)
first_of opened [] c = absurd c
first_of opened (i ∷ others) c = (i, others, refl)

next_more : (before after : List Bool) (i : Instr) (bytes mid rest : List ℕ) → ((more : List Instr) → (ClosesIn before (i ∷ more) → ClosesIn after more) × (ClosesIn after more → ClosesIn before (i ∷ more))) → Leaves (IsInstruction i) bytes mid → (j : Instr) (others : List Instr) → More before bytes rest (j ∷ others) → (j ≡ i) × More after mid rest others
next_more before after i bytes mid rest turns l j others m =
    let b = behind sure-instruction i l m.each in
    let same : j ≡ i = sym b.0 in
    (same, record { closes = (turns others).0 (subst (λ (k : Instr). ClosesIn before (k ∷ others)) same m.closes); each = b.1 })

pub one_on : (start bytes mid : List ℕ) (instrs : List Instr) (before after : List Bool) (i : Instr) → Under start instrs before bytes → Leaves (IsInstruction i) bytes mid → ((more : List Instr) → (ClosesIn before (i ∷ more) → ClosesIn after more) × (ClosesIn after more → ClosesIn before (i ∷ more))) → Under start (instrs ++ i ∷ []) after mid
one_on start bytes mid instrs before after i u l turns = record {
  adds = λ more rest m. rw append_assoc (u.adds (i ∷ more) rest (record { closes = (turns more).1 m.closes; each = then l m.each }));
  takes = λ all rest e.
      let t = u.takes all rest e in
      let f = first_of before t.0 t.2.closes in
      let n = next_more before after i bytes mid rest turns l f.0 f.1 (subst (λ (more : List Instr). More before bytes rest more) f.2 t.2) in
      let whole : all ≡ (instrs ++ i ∷ []) ++ f.1 = t.1 ∙ ap (λ (more : List Instr). instrs ++ more) (f.2 ∙ ap (λ (k : Instr). k ∷ f.1) n.0) ∙ sym (append_assoc instrs (i ∷ []) f.1) in
      (f.1, whole, n.1);
}

pub no_next : (start bytes : List ℕ) (instrs : List Instr) (opened : List Bool) → Under start instrs opened bytes → IsUnfit IsInstruction bytes → IsUnfit IsExpression start
no_next start bytes instrs opened u unfit all rest l =
    let t = u.takes all rest l in
    let f = first_of opened t.0 t.2.closes in
    let m = subst (λ (more : List Instr). More opened bytes rest more) f.2 t.2 in
    unfit f.0 _ (turn m.each).first

pub refused : (start bytes mid : List ℕ) (instrs : List Instr) (opened : List Bool) (i : Instr) → Under start instrs opened bytes → Leaves (IsInstruction i) bytes mid → ((more : List Instr) → ClosesIn opened (i ∷ more) → ⊥) → IsUnfit IsExpression start
refused start bytes mid instrs opened i u l none all rest e =
    let t = u.takes all rest e in
    let f = first_of opened t.0 t.2.closes in
    let m = subst (λ (more : List Instr). More opened bytes rest more) f.2 t.2 in
    let b = behind sure-instruction i l m.each in
    none f.1 (subst (λ (k : Instr). ClosesIn opened (k ∷ f.1)) (sym b.0) m.closes)

-- what comes of an instruction that may not stand there
pub exit_refused : (start bytes mid : List ℕ) (instrs : List Instr) (opened after : List Bool) (i : Instr) (r : Result (List Instr × Bor (List ℕ)) Unread) (e : Unread) → IsErrAnd r (λ f. f ≡ e) → GoesOn opened i after (Err e) → Under start instrs opened bytes → Leaves (IsInstruction i) bytes mid → Reads IsExpression start r
exit_refused start bytes mid instrs opened after i (Ok p) e h g u l = absurd h
exit_refused start bytes mid instrs opened after i (Err unread.Unfit) unread.Unfit h g u l = refused start bytes mid instrs opened i u l g
exit_refused start bytes mid instrs opened after i (Err unread.Unfit) unread.Oom h g u l = absurd cc
exit_refused start bytes mid instrs opened after i (Err unread.Oom) e h g u l = tt

-- what comes of one that ends nothing
pub goes_by : (before after : List Bool) (i : Instr) (ended : Bool) → GoesOn before i after (Ok ended) → ended ≡ false → (more : List Instr) → (ClosesIn before (i ∷ more) → ClosesIn after more) × (ClosesIn after more → ClosesIn before (i ∷ more))
goes_by before after i false g e = g
goes_by before after i true g e = absurd cc

pub ends_with : (start bytes mid : List ℕ) (instrs : List Instr) (opened : List Bool) (i : Instr) → Under start instrs opened bytes → Leaves (IsInstruction i) bytes mid → opened ≡ [] → i ≡ End → Leaves (IsExpression (instrs ++ i ∷ [])) start mid
ends_with start bytes mid instrs opened i u l none is_end =
    let closes : ClosesIn [] (End ∷ []) = refl in
    u.adds (i ∷ []) mid (record { closes = rw (none, is_end) closes; each = then l (no_byte mid) })

-- an instruction has some byte
pub some_byte : (i : Instr) (bytes mid : List ℕ) → Leaves (IsInstruction i) bytes mid → length mid < length bytes
some_byte i bytes mid l =
    let t = turn l in
    omega (arith, ap length (byte-whole t.first), ap length t.second.whole, length-append t.second.front mid)

-- ---- the only one

-- An instruction leads to what is open behind it, or nothing more may come.
abbrev Step : List Bool → Instr → Type 0
Step opened i = ((after : List Bool) × ((more : List Instr) → ClosesIn opened (i ∷ more) → ClosesIn after more)) ⊎ ((more : List Instr) → ClosesIn opened (i ∷ more) → more ≡ [])

step_block : (result : Option ValType) (opened : List Bool) → Step opened (Block result)
step_block result [] = inl (false ∷ [], λ more c. c)
step_block result (true ∷ outer) = inl (false ∷ true ∷ outer, λ more c. c)
step_block result (false ∷ outer) = inl (false ∷ false ∷ outer, λ more c. c)

step_loop : (result : Option ValType) (opened : List Bool) → Step opened (Loop result)
step_loop result [] = inl (false ∷ [], λ more c. c)
step_loop result (true ∷ outer) = inl (false ∷ true ∷ outer, λ more c. c)
step_loop result (false ∷ outer) = inl (false ∷ false ∷ outer, λ more c. c)

step_if : (result : Option ValType) (opened : List Bool) → Step opened (If result)
step_if result [] = inl (true ∷ [], λ more c. c)
step_if result (true ∷ outer) = inl (true ∷ true ∷ outer, λ more c. c)
step_if result (false ∷ outer) = inl (true ∷ false ∷ outer, λ more c. c)

step_else : (opened : List Bool) → Step opened Else
step_else [] = inl ([], λ more c. absurd c)
step_else (true ∷ outer) = inl (false ∷ outer, λ more c. c)
step_else (false ∷ outer) = inl ([], λ more c. absurd c)

step_end : (opened : List Bool) → Step opened End
step_end [] = inr (λ more c. c)
step_end (true ∷ outer) = inl (outer, λ more c. c)
step_end (false ∷ outer) = inl (outer, λ more c. c)

step : (i : Instr) (opened : List Bool) → Step opened i
step (Block result) opened = step_block result opened
step (Loop result) opened = step_loop result opened
step (If result) opened = step_if result opened
step Else opened = step_else opened
step End opened = step_end opened
step i [] = inl ([], λ more c. c)
step i (true ∷ outer) = inl (true ∷ outer, λ more c. c)
step i (false ∷ outer) = inl (false ∷ outer, λ more c. c)

no_others : (xs ys : List Instr) (start r s : List ℕ) → xs ≡ [] → ys ≡ [] → Leaves (EachInTurn IsInstruction xs) start r → Leaves (EachInTurn IsInstruction ys) start s → (xs ≡ ys) × (r ≡ s)
no_others xs ys start r s e f l m =
    let a = nothing (subst (λ (is : List Instr). Leaves (EachInTurn IsInstruction is) start r) e l) in
    let b = nothing (subst (λ (is : List Instr). Leaves (EachInTurn IsInstruction is) start s) f m) in
    (e ∙ sym f, sym a ∙ b)

-- what holds of the lists behind an instruction that leads on holds of those with it
abbrev OnlyOne : List Instr → Type 0
OnlyOne xs = (ys : List Instr) (start : List ℕ) (opened : List Bool) (r s : List ℕ) → More opened start r xs → More opened start s ys → (xs ≡ ys) × (r ≡ s)

others_one : (x : Instr) (xs : List Instr) → OnlyOne xs → (ys : List Instr) (start : List ℕ) (opened : List Bool) (r s : List ℕ) → Step opened x → ClosesIn opened (x ∷ xs) → ClosesIn opened (x ∷ ys) → Leaves (EachInTurn IsInstruction xs) start r → Leaves (EachInTurn IsInstruction ys) start s → (xs ≡ ys) × (r ≡ s)
others_one x xs only ys start opened r s (inl a) c d l m = only ys start a.0 r s (record { closes = a.1 xs c; each = l }) (record { closes = a.1 ys d; each = m })
others_one x xs only ys start opened r s (inr a) c d l m = no_others xs ys start r s (a xs c) (a ys d) l m

first_one : (x : Instr) (xs : List Instr) → OnlyOne xs → (ys : List Instr) (start : List ℕ) (opened : List Bool) (r s : List ℕ) → More opened start r (x ∷ xs) → More opened start s ys → (x ∷ xs ≡ ys) × (r ≡ s)
first_one x xs only [] start opened r s m n = absurd n.closes
first_one x xs only (y ∷ ys) start opened r s m n =
    let t = turn m.each in
    let u = turn n.each in
    let same = sure-instruction.one x y start t.mid u.mid t.first u.first in
    let rest = subst (λ (at : List ℕ). Leaves (EachInTurn IsInstruction ys) at s) (sym same.1) u.second in
    let closes = subst (λ (i : Instr). ClosesIn opened (i ∷ ys)) (sym same.0) n.closes in
    let tails = others_one x xs only ys t.mid opened r s (step x opened) m.closes closes t.second rest in
    (ap (λ (i : Instr). i ∷ xs) same.0 ∙ ap (λ (is : List Instr). y ∷ is) tails.0, tails.1)

expression_one : (xs : List Instr) → OnlyOne xs
expression_one [] ys start opened r s m n = absurd m.closes
expression_one (x ∷ xs) ys start opened r s m n = first_one x xs (expression_one xs) ys start opened r s m n

pub sure-expression : Sure IsExpression
sure-expression = record {
  one = λ xs ys bytes r s l m.
      expression_one xs ys bytes [] r s
      (record { closes = l.spelled.ended; each = as_kind (λ front e. e.each) l })
      (record { closes = m.spelled.ended; each = as_kind (λ front e. e.each) m });
}
