-- Ending: labels and frames end one after another, up to what is due.
use Rattle.std.proofs.Common.{◌≡◌, ◌≤◌, false, true, ◌++◌, Some, length, drop, refl, ◌∙◌, arith}
use Rattle.std.specs.Prelude.{slice_get}
use Rattle.std.proofs.lemmas.List.{length-append}
use Rattle.zw_wasm.specs.declared.module.Instr.{Instr}
use Rattle.zw_wasm.specs.declared.module.Module.{Module}
use Rattle.zw_wasm.specs.Reduction.{Config}
use Rattle.zw_wasm.specs.Structure.{Ends, code_of}
use Rattle.zw_wasm_words.specs.Frames.{LocalsFit, numbers_of, under}
use Rattle.zw_wasm_words.proofs.Holding.{under_long}
use Rattle.zw_wasm_run.specs.declared.stacks.Stacks.{Stacks}
use Rattle.zw_wasm_run.specs.Running.{EndsFrame, EndsLabel, StacksStand, StandsLike, body_of}
use Rattle.zw_wasm_run.specs.Settling.{IsAtEnd, IsReached, IsStanding, closes}
use Rattle.zw_wasm_run.proofs.LabelRuns.{words_count}
use Rattle.zw_wasm_run.proofs.Runs.{same_after}

-- stacks stand for a configuration, and for one in which the same comes next as in any that others stand for
pub record GoesLike (m : Module) (old new : Stacks) : Type 0 where
  pub standing : IsStanding m new
  pub by : (c : Config) → StacksStand m old c → StandsLike m c new

pub goes_like : (m : Module) (s : Stacks) → IsStanding m s → GoesLike m s s
goes_like m s standing = record {
  standing = record { config = standing.config; stand = standing.stand };
  by = λ c stands. record { next = c; stand = stands; same = record { next = refl; world = refl } };
}

-- no code is left in any configuration that the stacks stand for
code_ends : (m : Module) (s : Stacks) (c : Config) → code_of (drop s.frame.at (body_of m s.frame.body)) ≡ Ends → StacksStand m s c → c.frame.code ≡ Ends
code_ends m s c ended stands = stands.running.frame.code ∙ ended

pub ends_on : (m : Module) (first old new : Stacks) → GoesLike m first old → code_of (drop old.frame.at (body_of m old.frame.body)) ≡ Ends → EndsFrame m old true new → GoesLike m first new
ends_on m first old new like ended ends =
    let s = like.standing in
    let there = ends.on refl s.config s.stand (code_ends m old s.config ended s.stand) in
    record {
      standing = record { config = there.next; stand = there.stand };
      by = λ c stands.
          let x = like.by c stands in
          let y = ends.on refl x.next x.stand (code_ends m old x.next ended x.stand) in
          record { next = y.next; stand = y.stand; same = same_after c x.next y.next x.same y.same };
    }

pub ends_all : (m : Module) (first old new : Stacks) → GoesLike m first old → code_of (drop old.frame.at (body_of m old.frame.body)) ≡ Ends → EndsFrame m old false new → IsAtEnd m first new.words.items
ends_all m first old new like ended ends = record {
  by = λ c stands.
      let x = like.by c stands in
      record { next = x.next; ends = ends.over refl x.next x.stand (code_ends m old x.next ended x.stand); same = x.same };
}

pub reached : (m : Module) (first new : Stacks) (i : Instr) → GoesLike m first new → slice_get (body_of m new.frame.body) new.frame.at ≡ Some i → closes i ≡ false → IsReached m first i new
reached m first new i like here opens = record { at = record { here = here; opens = opens }; by = like.by }

-- an instruction is due where the stacks stand already
pub reached_here : (m : Module) (s : Stacks) (i : Instr) → IsStanding m s → slice_get (body_of m s.frame.body) s.frame.at ≡ Some i → closes i ≡ false → IsReached m s i s
reached_here m s i standing here opens = reached m s s i (goes_like m s standing) here opens

-- what the machine needs of stacks that stand for a configuration
pub labels_inside : (m : Module) (s : Stacks) → IsStanding m s → s.frame.labels ≤ length s.labels.items
labels_inside m s standing = let all = standing.stand in all.inside

pub locals_fit : (m : Module) (s : Stacks) → IsStanding m s → LocalsFit s.frame s.words.items
locals_fit m s standing =
    let c = standing.config in
    let all = standing.stand in
    let lower = numbers_of c.below in
    let count = words_count s.words.items (c.frame.operands ++ under c.frame lower) all.running.held in
    let two = length-append c.frame.operands (under c.frame lower) in
    record {
      order = omega (arith, all.running.frame.locals.first, all.running.frame.locals.behind);
      inside = omega (arith, count, two, under_long c.frame.labels c.frame.locals lower, all.running.frame.locals.behind);
    }

-- a label's end as that of a frame
pub label_as_frame : (m : Module) (old new : Stacks) → EndsLabel m old new → EndsFrame m old true new
label_as_frame m old new ends = record { on = λ is c stands ended. ends.by c stands ended; over = λ is. absurd (cc) }
