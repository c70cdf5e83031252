-- AllFrames: steps of the frame that runs, over the frames that wait.
use Rattle.std.proofs.Common.{◌≡◌, ℕ, zero, suc, ◌+◌, ◌-◌, ◌≤◌, Bool, true, false, List, [], ◌∷◌, ◌++◌, Option, Some, None, length, take, drop, reverse, refl, sym, ap, subst, ◌∙◌, append_assoc, arith}
use Rattle.std.specs.Prelude.{nat_le, slice_get, if◌then◌else◌}
use Rattle.std.proofs.lemmas.Bool.{leb-true}
use Rattle.std.proofs.lemmas.List.{append-nil, drop-append-le, length-append, length-drop, length-reverse, length-take, reverse-append, take-append-drop, take-append-le, take_all}
use Rattle.std.proofs.Math.Seq.{drop-append_seam, drop-length, take-length}
use Rattle.zw_wasm.specs.declared.module.Instr.{Instr}
use Rattle.zw_wasm.specs.declared.module.Module.{Module}
use Rattle.zw_wasm.specs.declared.num.Num.{Num}
use Rattle.zw_wasm.specs.Reduction as reduction
use Rattle.zw_wasm.specs.Reduction.{Config, Goes, Over, Returns, Traps, at_work, branched, branched_to, fetched, no_rule, returned, stands_in, stands_next}
use Rattle.zw_wasm.specs.Structure.{Ends}
use Rattle.zw_wasm_words.specs.declared.frame.Frame.{Frame}
use Rattle.zw_wasm_words.specs.declared.frame.Label.{Label}
use Rattle.zw_wasm_words.specs.Frames.{BranchesOn, KeepsResults, LabelsStand, ReturnsOn, Stands, numbers_of, under}
use Rattle.zw_wasm_words.specs.Operands.{IsRuled}
use Rattle.zw_wasm_words.specs.Words.{Hold}
use Rattle.zw_wasm_words.proofs.BranchWords.{label_at}
use Rattle.zw_wasm_run.specs.Running.{AllStand, CallEnds, FramesStand, SameNext, GoesTo, body_of, own_labels}
use Rattle.zw_wasm_run.proofs.FlatCode.{code_of-nothing}
use Rattle.zw_wasm_run.proofs.LabelRuns.{leaves}

-- one label more is the innermost
pub own_more : (n : ℕ) (labels : List Label) (l : Label) → n ≤ length labels → own_labels n (labels ++ l ∷ []) ≡ l ∷ own_labels n labels
own_more n labels l inside = ap reverse (drop-append-le n labels (l ∷ []) inside) ∙ reverse-append (drop n labels) (l ∷ [])

pub below_more : (n : ℕ) (labels : List Label) (l : Label) → n ≤ length labels → take n (labels ++ l ∷ []) ≡ take n labels
below_more n labels l inside = take-append-le n labels (l ∷ []) inside

-- a frame has no label of its own where all lie below it
pub own_none : (n : ℕ) (labels : List Label) → n ≡ length labels → own_labels n labels ≡ []
own_none n labels e = ap (λ i. reverse (drop i labels)) e ∙ ap reverse (drop-length labels)

-- where the frame that runs goes on with the same labels, those that wait wait as before
pub stays : (m : Module) (k : Frame) (ks : List Frame) (labels : List Label) (old new : List ℕ) (at : ℕ) (c d : Config) → AllStand m k ks labels old c → d.below ≡ c.below → Stands (body_of m k.body) (record k { at = at }) (own_labels k.labels labels) new d (numbers_of c.below) → AllStand m (record k { at = at }) ks labels new d
stays m k ks labels old new at c d all same stands = record {
  running = subst (λ fs. Stands (body_of m k.body) (record k { at = at }) (own_labels k.labels labels) new d (numbers_of fs)) (sym same) stands;
  inside = all.inside;
  below = subst (λ fs. FramesStand m ks (take k.labels labels) fs) (sym same) all.below;
}

-- the same with one label more
pub stays_within : (m : Module) (k : Frame) (ks : List Frame) (labels : List Label) (l : Label) (old new : List ℕ) (at : ℕ) (c d : Config) → AllStand m k ks labels old c → d.below ≡ c.below → Stands (body_of m k.body) (record k { at = at }) (l ∷ own_labels k.labels labels) new d (numbers_of c.below) → AllStand m (record k { at = at }) ks (labels ++ l ∷ []) new d
stays_within m k ks labels l old new at c d all same stands = record {
  running =
      subst (λ fs. Stands (body_of m k.body) (record k { at = at }) (own_labels k.labels (labels ++ l ∷ [])) new d (numbers_of fs)) (sym same)
      (subst (λ own. Stands (body_of m k.body) (record k { at = at }) own new d (numbers_of c.below)) (sym (own_more k.labels labels l all.inside)) stands);
  inside = omega (arith, all.inside, length-append labels (l ∷ []));
  below = subst (λ fs. FramesStand m ks (take k.labels (labels ++ l ∷ [])) fs) (sym same)
      (subst (λ ls. FramesStand m ks ls c.below) (sym (below_more k.labels labels l all.inside)) all.below);
}

-- a label ends
pub record LabelEnds (m : Module) (k : Frame) (ks : List Frame) (labels : List Label) (words : List ℕ) (c : Config) : Type 0 where
  pub next : Config
  pub stand : AllStand m k ks labels words next
  pub same : SameNext c next

pub label_ends : (m : Module) (k : Frame) (ks : List Frame) (labels : List Label) (l : Label) (words : List ℕ) (c : Config) → k.labels ≤ length labels → AllStand m k ks (labels ++ l ∷ []) words c → c.frame.code ≡ Ends → LabelEnds m (record k { at = l.follows }) ks labels words c
label_ends m k ks labels l words c inside all ended =
    let own = own_labels k.labels labels in
    let stands = subst (λ own. Stands (body_of m k.body) k own words c (numbers_of c.below)) (own_more k.labels labels l inside) all.running in
    let left = leaves (body_of m k.body) k l own words c (numbers_of c.below) stands ended in
    record {
      next = record { frame = left.next.frame; below = c.below; world = c.world };
      stand = record {
        running = record { frame = left.stands.frame; held = left.stands.held };
        inside = inside;
        below = subst (λ ls. FramesStand m ks ls c.below) (below_more k.labels labels l inside) all.below;
      };
      same = record { next = ap (λ s. fetched s c.below) left.same; world = refl };
    }

-- results of a frame are operands of the one that waits below it
ends_over : (m : Module) (j : Frame) (ks : List Frame) (labels : List Label) (new : List ℕ) (c : Config) (below : List reduction.Frame) → c.below ≡ below → FramesStand m (j ∷ ks) labels below → Hold (reverse new) (c.frame.operands ++ numbers_of below) → stands_in c.frame ≡ Returns c.frame.operands → LabelEnds m j ks labels new c
ends_over m j ks labels new c [] e wait held returns = absurd wait
ends_over m j ks labels new c (f ∷ fs) e wait held returns = record {
  next = record { frame = record f { operands = c.frame.operands ++ f.operands }; below = fs; world = c.world };
  stand = record {
    running = record {
      frame = record {
        arity = wait.0.arity;
        code = wait.0.code;
        labels = wait.0.labels;
        locals = record { first = wait.0.locals.first; behind = wait.0.locals.behind };
      };
      held = subst (λ vs. Hold (reverse new) vs) (sym (append_assoc c.frame.operands f.operands (under f (numbers_of fs)))) held;
    };
    inside = wait.1;
    below = wait.2;
  };
  same = record { next = ap (λ s. fetched s c.below) returns ∙ ap (λ b. fetched (Returns c.frame.operands) b) e; world = refl };
}

-- what stands next at a frame's end
at_end : (f : reduction.Frame) → f.code ≡ Ends → f.labels ≡ [] → stands_in f ≡ Returns f.operands
at_end f ended none = ap (λ code. stands_next f code f.operands f.labels) ended ∙ ap (λ ls. stands_next f Ends f.operands ls) none

no_labels : (instrs : List Instr) (ls : List reduction.Label) (lower : List Num) → LabelsStand instrs [] ls lower → ls ≡ []
no_labels instrs [] lower h = refl
no_labels instrs (l ∷ ls) lower h = absurd h

-- a frame that has no label left has none in the configuration
pub none_left : (m : Module) (k : Frame) (ks : List Frame) (labels : List Label) (words : List ℕ) (c : Config) → AllStand m k ks labels words c → k.labels ≡ length labels → c.frame.labels ≡ []
none_left m k ks labels words c all none =
    let x = reverse c.frame.locals ++ numbers_of c.below in
    no_labels (body_of m k.body) c.frame.labels x (subst (λ own. LabelsStand (body_of m k.body) own c.frame.labels x) (own_none k.labels labels none) all.running.frame.labels)

-- a frame ends over one that waits: no operand is lost
pub frame_ends : (m : Module) (k j : Frame) (ks : List Frame) (labels : List Label) (old new : List ℕ) (c : Config) → AllStand m k (j ∷ ks) labels old c → k.labels ≡ length labels → c.frame.code ≡ Ends → ReturnsOn k old new → LabelEnds m j ks labels new c
frame_ends m k j ks labels old new c all none ended returns =
    let own = none_left m k (j ∷ ks) labels old c all none in
    let held = returns.by c (numbers_of c.below) (record { first = all.running.frame.locals.first; behind = all.running.frame.locals.behind }) own all.running.held in
    let wait = subst (λ ls. FramesStand m (j ∷ ks) ls c.below) (ap (λ n. take n labels) none ∙ take-length labels) all.below in
    ends_over m j ks labels new c c.below refl wait held (at_end c.frame ended own)

-- the outermost frame ends: its operands are the results
ends_all : (m : Module) (labels : List Label) (new : List ℕ) (c : Config) (below : List reduction.Frame) → c.below ≡ below → FramesStand m [] labels below → Hold (reverse new) (c.frame.operands ++ numbers_of below) → stands_in c.frame ≡ Returns c.frame.operands → CallEnds new c
ends_all m labels new c [] e wait held returns = absurd wait
ends_all m labels new c (f ∷ fs) e wait held returns =
    let os = c.frame.operands in
    record {
      over = ap (λ s. fetched s c.below) returns ∙ ap (λ b. fetched (Returns os) b) (e ∙ wait.1) ∙ ap Over (append-nil os);
      held = subst (λ vs. Hold (reverse new) vs) (ap (λ b. os ++ numbers_of b) wait.1 ∙ append-nil os) held;
    }

pub call_ends : (m : Module) (k : Frame) (labels : List Label) (old new : List ℕ) (c : Config) → AllStand m k [] labels old c → k.labels ≡ length labels → c.frame.code ≡ Ends → ReturnsOn k old new → CallEnds new c
call_ends m k labels old new c all none ended returns =
    let own = none_left m k [] labels old c all none in
    let held = returns.by c (numbers_of c.below) (record { first = all.running.frame.locals.first; behind = all.running.frame.locals.behind }) own all.running.held in
    ends_all m (take k.labels labels) new c c.below refl all.below held (at_end c.frame ended own)

-- a return: the configuration that it goes on with is at its frame's end
pub record Returned (c d : Config) (arity : ℕ) : Type 0 where
  pub goes : returned c ≡ Goes d
  pub few : arity ≤ length c.frame.operands

abbrev pub at_return : Config → Config
at_return c = record c { frame = at_work c.frame (take c.frame.arity c.frame.operands) Ends [] }

returned_as : (c : Config) (b : Bool) → nat_le c.frame.arity (length c.frame.operands) ≡ b → returned c ≡ (if b then Goes (at_return c) else Traps no_rule)
returned_as c b e = ap (λ t. if t then Goes (at_return c) else Traps no_rule) e

pub returned_by : (c : Config) (b : Bool) → nat_le c.frame.arity (length c.frame.operands) ≡ b → IsRuled (returned c) → Returned c (at_return c) c.frame.arity
returned_by c true e ruled = record { goes = returned_as c true e; few = leb-true c.frame.arity (length c.frame.operands) e }
returned_by c false e ruled = absurd (ruled (returned_as c false e))

-- a return is at its frame's end, with its results
pub return_goes : (m : Module) (k : Frame) (ks : List Frame) (labels : List Label) (old new : List ℕ) (end : ℕ) (c : Config) → AllStand m k ks labels old c → length (body_of m k.body) ≤ end → IsRuled (returned c) → KeepsResults k old new → GoesTo m (returned c) (record k { at = end }) ks (take k.labels labels) new c.world
return_goes m k ks labels old new end c all behind ruled keeps =
    let r = returned_by c (nat_le c.frame.arity (length c.frame.operands)) refl ruled in
    let same = all.running.frame.arity in
    let count = length-take k.labels labels in
    let none : own_labels k.labels (take k.labels labels) ≡ [] = own_none k.labels (take k.labels labels) (omega (arith, count, all.inside)) in
    let held = keeps.by c (numbers_of c.below) (record { first = all.running.frame.locals.first; behind = all.running.frame.locals.behind }) (subst (λ n. n ≤ length c.frame.operands) same r.few) all.running.held in
    record {
      next = at_return c;
      goes = r.goes;
      stand = record {
        running = record {
          frame = record {
            arity = same;
            code = sym (code_of-nothing (body_of m k.body) end behind);
            labels = subst (λ own. LabelsStand (body_of m k.body) own [] (reverse c.frame.locals ++ numbers_of c.below)) (sym none) tt;
            locals = record { first = all.running.frame.locals.first; behind = all.running.frame.locals.behind };
          };
          held = subst (λ n. Hold (reverse new) (take n c.frame.operands ++ (reverse c.frame.locals ++ numbers_of c.below))) (sym same) held;
        };
        inside = omega (arith, count, all.inside);
        below = subst (λ ls. FramesStand m ks ls c.below) (sym (take_all k.labels (take k.labels labels) (omega (arith, count)))) all.below;
      };
      world = refl;
    }

-- so many labels fewer
pub own_fewer : (k n : ℕ) (labels : List Label) → k + n ≤ length labels → own_labels k (take (length labels - n) labels) ≡ drop n (own_labels k labels)
own_fewer k n labels inside =
    let j = length labels - n in
    let xs = take j labels in
    let ys = drop j labels in
    let whole : labels ≡ xs ++ ys = sym (take-append-drop j labels) in
    let first = length-take j labels in
    let both = ap length whole ∙ length-append xs ys in
    let turned = length-reverse ys in
    let place : n ≡ length (reverse ys) = omega (arith, first, both, turned, inside) in
    let fit : k ≤ length xs = omega (arith, first, inside) in
    let parts : own_labels k labels ≡ reverse ys ++ reverse (drop k xs) =
    ap (λ ls. reverse (drop k ls)) whole ∙ ap reverse (drop-append-le k xs ys fit) ∙ reverse-append (drop k xs) ys in
    sym (ap (λ n. drop n (own_labels k labels)) place ∙ ap (λ ls. drop (length (reverse ys)) ls) parts ∙ drop-append_seam (reverse ys) (reverse (drop k xs)))

below_fewer : (k j : ℕ) (labels : List Label) → k ≤ j → j ≤ length labels → take k (take j labels) ≡ take k labels
below_fewer k j labels le inside =
    let first = length-take j labels in
    sym (ap (take k) (sym (take-append-drop j labels)) ∙ take-append-le k (take j labels) (drop j labels) (omega (arith, first, le, inside)))

-- a branch leaves what runs in the same world over the same frames
pub record KeepsOthers (c next : Config) : Type 0 where
  pub below : next.below ≡ c.below
  pub world : next.world ≡ c.world

keeps_by : (b : Bool) (f : reduction.Frame) (c next : Config) → (if b then Goes (record c { frame = f }) else Traps no_rule) ≡ Goes next → KeepsOthers c next
keeps_by true f c next e = let same : record c { frame = f } ≡ next = cc in record { below = sym (ap (λ d. d.below) same); world = sym (ap (λ d. d.world) same) }
keeps_by false f c next e = absurd (cc)

keeps_to : (o : Option reduction.Label) (n : ℕ) (c next : Config) (l : reduction.Label) → o ≡ Some l → branched_to o n c ≡ Goes next → KeepsOthers c next
keeps_to None n c next l e goes = absurd (cc)
keeps_to (Some x) n c next l e goes = keeps_by (nat_le x.arity (length c.frame.operands)) (at_work c.frame (take x.arity c.frame.operands ++ x.below) x.branch (drop (suc n) c.frame.labels)) c next goes

pub label_place : {A : Type 0} (n : ℕ) (xs : List A) (x : A) → slice_get xs n ≡ Some x → suc n ≤ length xs
label_place n [] x e = absurd (cc)
label_place zero (y ∷ xs) x e = omega arith
label_place (suc n) (y ∷ xs) x e = omega (arith, label_place n xs x e)

pub branch_goes : (m : Module) (k : Frame) (ks : List Frame) (labels : List Label) (l : Label) (old new : List ℕ) (n : ℕ) (c : Config) → AllStand m k ks labels old c → slice_get (own_labels k.labels labels) n ≡ Some l → IsRuled (branched n c) → BranchesOn l old new → GoesTo m (branched n c) (record k { at = l.target }) ks (take (length labels - suc n) labels) new c.world
branch_goes m k ks labels l old new n c all there ruled branches =
    let own = own_labels k.labels labels in
    let instrs = body_of m k.body in
    let on = branches.by instrs k n own c (numbers_of c.below) there all.running ruled in
    let label = label_at instrs n own l c.frame.labels (reverse c.frame.locals ++ numbers_of c.below) there all.running.frame.labels in
    let keeps = keeps_to (slice_get c.frame.labels n) n c on.next label.label label.there on.goes in
    let place = label_place n own l there in
    let own_count = length-reverse (drop k.labels labels) in
    let dropped = length-drop k.labels labels in
    let inside : k.labels + suc n ≤ length labels = omega (arith, place, own_count, dropped, all.inside) in
    let left = take (length labels - suc n) labels in
    let count = length-take (length labels - suc n) labels in
    record {
      next = on.next;
      goes = on.goes;
      stand = record {
        running =
            subst (λ fs. Stands instrs (record k { at = l.target }) (own_labels k.labels left) new on.next (numbers_of fs)) (sym keeps.below)
            (subst (λ ls. Stands instrs (record k { at = l.target }) ls new on.next (numbers_of c.below)) (sym (own_fewer k.labels (suc n) labels inside)) on.stands);
        inside = omega (arith, count, inside);
        below = subst (λ fs. FramesStand m ks (take k.labels left) fs) (sym keeps.below)
            (subst (λ ls. FramesStand m ks ls c.below) (sym (below_fewer k.labels (length labels - suc n) labels (omega (arith, inside)) (omega arith))) all.below);
      };
      world = keeps.world;
    }
