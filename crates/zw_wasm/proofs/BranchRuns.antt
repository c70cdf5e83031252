-- What blocks, loops and branches do, under any labels and over any frames.
use Rattle.std.proofs.Common.{◌≡◌, ℕ, true, false, cond, List, [], ◌∷◌, ◌++◌, length, take, Some, refl, sym, ap, ◌∙◌, arith, length-append}
use Rattle.std.specs.Prelude.{nat_eq, nat_le, slice_get}
use Rattle.std.proofs.Math.Seq.{take-append_seam}
use Rattle.std.proofs.lemmas.Bool.{le-leb}
use Rattle.zw_wasm.proofs.RunsCompose.{runs-same, runs-step}
use Rattle.zw_wasm.specs.declared.module.Instr.TheVariants.{Br, BrIf, Return}
use Rattle.zw_wasm.specs.declared.module.Module.{Module}
use Rattle.zw_wasm.specs.Laws.{BranchesRun}
use Rattle.zw_wasm.specs.Reduction.{Config, Frame, Goes, Label, Traps, at_work, branched, branched_to, fetched, jumped, no_rule, resolved, returned, stands_in, step_of}
use Rattle.zw_wasm.specs.Sequences.{Runs, at_body_end, at_label, placed}
use Rattle.zw_wasm.specs.Signature.{View}
use Rattle.zw_wasm.specs.Structure.{Num, I32, Code, Ends, Plain}

-- the first of the operands are there, and are taken
enough : (vs os : List Num) (n : ℕ) → length vs ≡ n → nat_le n (length (vs ++ os)) ≡ true
enough vs os n count = le-leb _ _ (omega (arith, count, length-append vs os))

first_ones : (vs os : List Num) (n : ℕ) → length vs ≡ n → take n (vs ++ os) ≡ vs
first_ones vs os n count = ap (λ k. take k (vs ++ os)) (sym count) ∙ take-append_seam vs os

jumped-is : (c : Config) (n : ℕ) (l : Label) (rest : Code) (vs os : List Num) → length vs ≡ l.arity → jumped l n (placed rest (vs ++ os) c) ≡ Goes (at_label l n vs c)
jumped-is c n l rest vs os count =
    ap (λ b. cond b (Goes (at_label l n (take l.arity (vs ++ os)) c)) (Traps no_rule)) (enough vs os l.arity count)
    ∙ ap (λ xs. Goes (at_label l n xs c)) (first_ones vs os l.arity count)

branched-is : (c : Config) (n : ℕ) (l : Label) (rest : Code) (vs os : List Num) → slice_get c.frame.labels n ≡ Some l → length vs ≡ l.arity → branched n (placed rest (vs ++ os) c) ≡ Goes (at_label l n vs c)
branched-is c n l rest vs os there count =
    ap (λ o. branched_to o n (placed rest (vs ++ os) c)) there ∙ jumped-is c n l rest vs os count

returned-is : (c : Config) (rest : Code) (vs os : List Num) → length vs ≡ c.frame.arity → returned (placed rest (vs ++ os) c) ≡ Goes (at_body_end vs c)
returned-is c rest vs os count =
    ap (λ b. cond b (Goes (at_body_end (take c.frame.arity (vs ++ os)) c)) (Traps no_rule)) (enough vs os c.frame.arity count)
    ∙ ap (λ xs. Goes (at_body_end xs c)) (first_ones vs os c.frame.arity count)

runs-branch : (m : Module) (v : View) (c : Config) (n : ℕ) (l : Label) (rest : Code) (vs os : List Num) → slice_get c.frame.labels n ≡ Some l → length vs ≡ l.arity → Runs m v (placed (Plain (Br n) rest) (vs ++ os) c) (at_label l n vs c) 1
runs-branch m v c n l rest vs os there count =
    runs-step m v _ _ (ap (resolved m v c.world) (branched-is c n l rest vs os there count))

runs-branch_if : (m : Module) (v : View) (c : Config) (n x : ℕ) (l : Label) (rest : Code) (vs os : List Num) → slice_get c.frame.labels n ≡ Some l → length vs ≡ l.arity → nat_eq x 0 ≡ false → Runs m v (placed (Plain (BrIf n) rest) (I32 x ∷ vs ++ os) c) (at_label l n vs c) 1
runs-branch_if m v c n x l rest vs os there count some =
    let d = placed rest (vs ++ os) c in
    runs-step m v _ _ (ap (λ b. resolved m v c.world (cond b (Goes d) (branched n d))) some ∙ ap (resolved m v c.world) (branched-is c n l rest vs os there count))

runs-return : (m : Module) (v : View) (c : Config) (rest : Code) (vs os : List Num) → length vs ≡ c.frame.arity → Runs m v (placed (Plain Return rest) (vs ++ os) c) (at_body_end vs c) 1
runs-return m v c rest vs os count = runs-step m v _ _ (ap (resolved m v c.world) (returned-is c rest vs os count))

runs-to_below : (m : Module) (v : View) (c : Config) (f : Frame) (below : List Frame) (vs : List Num) → c.below ≡ f ∷ below → Runs m v (at_body_end vs c) (record c { frame = record f { operands = vs ++ f.operands }; below = below }) 0
runs-to_below m v c f below vs e =
    runs-same m v _ _ (ap (λ fs. step_of m v c.world (fetched (stands_in (at_work c.frame vs Ends [])) fs)) e) refl

pub branches_run : BranchesRun
branches_run = record {
  block = λ m v c t body rest os. runs-step m v _ _ refl;
  loop = λ m v c t body rest os. runs-step m v _ _ refl;
  ends = λ m v c arity branch code rest os below. runs-same m v _ _ refl refl;
  branch = runs-branch;
  branch_if = runs-branch_if;
  branch_if_not = λ m v c n rest os. runs-step m v _ _ refl;
  returns = runs-return;
  body_end = runs-to_below;
}
