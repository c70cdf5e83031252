-- LabelRuns: labels that begin and end, among the words and the labels of a machine.
use Rattle.std.proofs.Common.{◌≡◌, ℕ, ◌%◌, ◌^◌, Bool, true, false, cond, List, [], ◌∷◌, ◌++◌, Option, length, drop, reverse, refl, sym, ap, subst, ◌∙◌, append_assoc}
use Rattle.std.specs.Prelude.{nat_eq, if◌then◌else◌}
use Rattle.std.specs.Option.{option_to_list}
use Rattle.std.proofs.lemmas.List.{length-reverse}
use Rattle.zw_wasm.specs.declared.module.Instr.{Instr}
use Rattle.zw_wasm.specs.declared.module.ValType.{ValType}
use Rattle.zw_wasm.specs.declared.num.Num.{Num}
use Rattle.zw_wasm.specs.declared.num.Num.TheVariants.{I32, I64}
use Rattle.zw_wasm.specs.Reduction as reduction
use Rattle.zw_wasm.specs.Reduction.{Action, Config, Goes, at_work, chosen, on_operand, stands_in, stands_next, under_label, under_loop}
use Rattle.zw_wasm.specs.Structure.{Code, Block, Choice, Ends, Plain, Repeat, code_of}
use Rattle.zw_wasm_words.specs.declared.frame.Frame.{Frame}
use Rattle.zw_wasm_words.specs.declared.frame.Label.{Label}
use Rattle.zw_wasm_words.specs.Frames.{FrameStands, LabelsStand, Stands, below_labels, under}
use Rattle.zw_wasm_words.specs.Operands.{IsRuled}
use Rattle.zw_wasm_words.specs.Words.{Hold}
use Rattle.zw_wasm_words.proofs.Holding.{hold_length}
use Rattle.zw_wasm_words.proofs.Shapes.{last_first}

-- how many words there are
pub words_count : (words : List ℕ) (vs : List Num) → Hold (reverse words) vs → length words ≡ length vs
words_count words vs h = sym (length-reverse words) ∙ hold_length (reverse words) vs h

-- a block begins, in the configuration behind it
pub block_begins : (instrs : List Instr) (k : Frame) (ks : List Label) (words : List ℕ) (c : Config) (lower : List Num) (result : Option ValType) (body : Code) (follows inner : ℕ) → Stands instrs (record k { at = follows }) ks words c lower → body ≡ code_of (drop inner instrs) → Stands instrs (record k { at = inner }) (record { arity = length (option_to_list result); target = follows; follows = follows; height = length words } ∷ ks) words (under_label result body c) lower
block_begins instrs k ks words c lower result body follows inner stands same = record {
  frame = record {
    arity = stands.frame.arity;
    code = same;
    labels = (record { arity = refl; branch = stands.frame.code; follows = stands.frame.code; words = words_count words (c.frame.operands ++ under c.frame lower) stands.held }, stands.frame.labels);
    locals = record { first = stands.frame.locals.first; behind = stands.frame.locals.behind };
  };
  held = stands.held;
}

-- a loop begins
pub loop_begins : (instrs : List Instr) (k : Frame) (ks : List Label) (words : List ℕ) (c : Config) (lower : List Num) (result : Option ValType) (body : Code) (at follows inner : ℕ) → Stands instrs (record k { at = follows }) ks words c lower → body ≡ code_of (drop inner instrs) → Repeat result body c.frame.code ≡ code_of (drop at instrs) → Stands instrs (record k { at = inner }) (record { arity = 0; target = at; follows = follows; height = length words } ∷ ks) words (under_loop result body c) lower
loop_begins instrs k ks words c lower result body at follows inner stands same again = record {
  frame = record {
    arity = stands.frame.arity;
    code = same;
    labels = (record { arity = refl; branch = again; follows = stands.frame.code; words = words_count words (c.frame.operands ++ under c.frame lower) stands.held }, stands.frame.labels);
    locals = record { first = stands.frame.locals.first; behind = stands.frame.locals.behind };
  };
  held = stands.held;
}

-- what stands next doesn't depend on the operands, code and labels that a frame had
same_next : (f : reduction.Frame) (a : List Num) (b : Code) (d : List reduction.Label) (code : Code) (os : List Num) (ls : List reduction.Label) → stands_next f code os ls ≡ stands_next (at_work f a b d) code os ls
same_next f a b d (Plain i rest) os ls = refl
same_next f a b d (Choice result x y rest) os ls = refl
same_next f a b d (Block result x rest) os ls = refl
same_next f a b d (Repeat result x rest) os ls = refl
same_next f a b d Ends os [] = refl
same_next f a b d Ends os (l ∷ ls) = same_next f a b d l.follows (os ++ l.below) ls

-- a label ends: no word moves, and the same stands next
pub record Leaves (instrs : List Instr) (k : Frame) (l : Label) (ks : List Label) (words : List ℕ) (c : Config) (lower : List Num) : Type 0 where
  pub next : Config
  pub stands : Stands instrs (record k { at = l.follows }) ks words next lower
  pub same : stands_in c.frame ≡ stands_in next.frame

leaves_on : (instrs : List Instr) (k : Frame) (l : Label) (ks : List Label) (words : List ℕ) (c : Config) (lower : List Num) (labels : List reduction.Label) → c.frame.labels ≡ labels → Stands instrs k (l ∷ ks) words c lower → LabelsStand instrs (l ∷ ks) labels (reverse c.frame.locals ++ lower) → c.frame.code ≡ Ends → Leaves instrs k l ks words c lower
leaves_on instrs k l ks words c lower [] e stands labels ended = absurd labels
leaves_on instrs k l ks words c lower (x ∷ xs) e stands labels ended = record {
  next = record c { frame = at_work c.frame (c.frame.operands ++ x.below) x.follows xs };
  stands = record {
    frame = record {
      arity = stands.frame.arity;
      code = labels.0.follows;
      labels = labels.1;
      locals = record { first = stands.frame.locals.first; behind = stands.frame.locals.behind };
    };
    held =
        subst (λ vs. Hold (reverse words) vs)
        (ap (λ ls. c.frame.operands ++ below_labels ls (reverse c.frame.locals ++ lower)) e ∙ sym (append_assoc c.frame.operands x.below (below_labels xs (reverse c.frame.locals ++ lower))))
        stands.held;
  };
  same = ap (λ code. stands_next c.frame code c.frame.operands c.frame.labels) ended ∙ ap (λ ls. stands_next c.frame Ends c.frame.operands ls) e
      ∙ same_next c.frame (c.frame.operands ++ x.below) x.follows xs x.follows (c.frame.operands ++ x.below) xs;
}

pub leaves : (instrs : List Instr) (k : Frame) (l : Label) (ks : List Label) (words : List ℕ) (c : Config) (lower : List Num) → Stands instrs k (l ∷ ks) words c lower → c.frame.code ≡ Ends → Leaves instrs k l ks words c lower
leaves instrs k l ks words c lower stands ended = leaves_on instrs k l ks words c lower c.frame.labels refl stands stands.frame.labels ended

-- the configuration behind a choice, with these operands
abbrev pub behind_choice : List Instr → ℕ → List Num → Config → Config
behind_choice instrs follows os c = record c { frame = at_work c.frame os (code_of (drop follows instrs)) c.frame.labels }

-- one of two codes begins, under the label of a block
pub record ChoiceStands (a : Action) (c : Config) (instrs : List Instr) (k : Frame) (ks : List Label) (words : List ℕ) (lower : List Num) (result : Option ValType) (follows inner : ℕ) : Type 0 where
  pub next : Config
  pub goes : a ≡ Goes next
  pub stands : Stands instrs (record k { at = inner }) (record { arity = length (option_to_list result); target = follows; follows = follows; height = length words } ∷ ks) words next lower
  pub below : next.below ≡ c.below
  pub world : next.world ≡ c.world

choice_by : (instrs : List Instr) (k : Frame) (ks : List Label) (words : List ℕ) (c : Config) (lower : List Num) (result : Option ValType) (then_code else_code follows n : ℕ) (os : List Num) (b : Bool) → FrameStands instrs (record k { at = follows }) ks (behind_choice instrs follows os c).frame lower → Hold (reverse words) (os ++ under c.frame lower) → nat_eq n 0 ≡ b → ChoiceStands (chosen result (code_of (drop then_code instrs)) (code_of (drop else_code instrs)) (I32 n) (behind_choice instrs follows os c)) c instrs k ks words lower result follows (cond b else_code then_code)
choice_by instrs k ks words c lower result then_code else_code follows n os true frame held e =
    let d = behind_choice instrs follows os c in
    record {
      next = under_label result (code_of (drop else_code instrs)) d;
      goes = ap (λ t. if t then Goes (under_label result (code_of (drop else_code instrs)) d) else Goes (under_label result (code_of (drop then_code instrs)) d)) e;
      stands = block_begins instrs k ks words d lower result (code_of (drop else_code instrs)) follows else_code (record { frame = frame; held = held }) refl;
      below = refl;
      world = refl;
    }
choice_by instrs k ks words c lower result then_code else_code follows n os false frame held e =
    let d = behind_choice instrs follows os c in
    record {
      next = under_label result (code_of (drop then_code instrs)) d;
      goes = ap (λ t. if t then Goes (under_label result (code_of (drop else_code instrs)) d) else Goes (under_label result (code_of (drop then_code instrs)) d)) e;
      stands = block_begins instrs k ks words d lower result (code_of (drop then_code instrs)) follows then_code (record { frame = frame; held = held }) refl;
      below = refl;
      world = refl;
    }

choice_on : (instrs : List Instr) (k : Frame) (ks : List Label) (words : List ℕ) (w : ℕ) (c : Config) (lower : List Num) (result : Option ValType) (then_code else_code follows : ℕ) (os : List Num) → FrameStands instrs k ks c.frame lower → Hold (w ∷ reverse words) (os ++ under c.frame lower) → IsRuled (on_operand (chosen result (code_of (drop then_code instrs)) (code_of (drop else_code instrs))) os (behind_choice instrs follows c.frame.operands c)) → ChoiceStands (on_operand (chosen result (code_of (drop then_code instrs)) (code_of (drop else_code instrs))) os (behind_choice instrs follows c.frame.operands c)) c instrs k ks words lower result follows (cond (nat_eq (w % 2 ^ 32) 0) else_code then_code)
choice_on instrs k ks words w c lower result then_code else_code follows [] frame h ruled = absurd (ruled refl)
choice_on instrs k ks words w c lower result then_code else_code follows (I64 n ∷ os) frame h ruled = absurd (ruled refl)
choice_on instrs k ks words w c lower result then_code else_code follows (I32 n ∷ os) frame h ruled =
    let stands : FrameStands instrs (record k { at = follows }) ks (behind_choice instrs follows os c).frame lower = record {
      arity = frame.arity;
      code = refl;
      labels = frame.labels;
      locals = record { first = frame.locals.first; behind = frame.locals.behind };
    } in
    choice_by instrs k ks words c lower result then_code else_code follows n os (nat_eq (w % 2 ^ 32) 0) stands h.1 (ap (λ m. nat_eq m 0) h.0)

-- an `if` takes its operand and begins one of its codes
pub choice_begins : (instrs : List Instr) (k : Frame) (ks : List Label) (old words : List ℕ) (w : ℕ) (c : Config) (lower : List Num) (result : Option ValType) (then_code else_code follows : ℕ) → Stands instrs k ks old c lower → old ≡ words ++ w ∷ [] → IsRuled (on_operand (chosen result (code_of (drop then_code instrs)) (code_of (drop else_code instrs))) c.frame.operands (behind_choice instrs follows c.frame.operands c)) → ChoiceStands (on_operand (chosen result (code_of (drop then_code instrs)) (code_of (drop else_code instrs))) c.frame.operands (behind_choice instrs follows c.frame.operands c)) c instrs k ks words lower result follows (cond (nat_eq (w % 2 ^ 32) 0) else_code then_code)
choice_begins instrs k ks old words w c lower result then_code else_code follows stands last ruled =
    choice_on instrs k ks words w c lower result then_code else_code follows c.frame.operands stands.frame
    (subst (λ l. Hold l (c.frame.operands ++ under c.frame lower)) (last_first old words w last) stands.held) ruled
