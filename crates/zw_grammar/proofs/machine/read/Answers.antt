use Rattle.std.proofs.Common.{◌≡◌, ℕ, suc, ◌+◌, ◌-◌, ◌≤◌, List, ◌++◌, reverse, length, Option, sym, ap, ◌∙◌, subst, arith}
use Rattle.zw_grammar.specs.declared.builder.Built.{Built}
use Rattle.zw_grammar.specs.declared.grammar.Symbol.{Symbol}
use Rattle.zw_grammar.specs.declared.machine.Turn.{Turn}
use Rattle.zw_grammar.specs.Ends.{Ends}
use Rattle.zw_grammar.specs.Nodes.{nodes_of}
use Rattle.zw_grammar.specs.Plain.{plain}
use Rattle.zw_grammar.specs.Turns.{Turns, end_of, reading}
use Rattle.zw_grammar.proofs.EndLemmas.{Kept, kept_first, kept_more, goes_on, ended}
use Rattle.zw_grammar.proofs.machine.read.Goals as goal

pub loop-at-init : goal.loop-at-init
loop-at-init c = λ t.
    kept_first (plain c.args.rules.now) c.args.start.now c.args.terminals.now t c.args.from c.push_all.new.stack.items (nodes_of c.begin.new.self) c.begin.new.self
    (c.in_ok-push_all.ensures ∙ ap (λ (l : List Symbol). l ++ reverse c.args.start.now) c.new-stack.ensures.items) c.begin.ensures.holds

pub returns-in-Some : goal.returns-in-Some
returns-in-Some c =
    let t = c.requires.complete in
    let kept = c.loop-at.invariant t in
    let told = sym (c.end_of.ensures ∙ ap (λ (o : Option ℕ). end_of c.in_ok-turn.turn o c.loop-at.at) c.passed.ensures) ∙ c.in-Some.is in
    let done = ended (plain c.args.rules.now) c.args.start.now c.args.terminals.now t.complete.completions t.end c.args.from c.loop-at.at c.loop-at.stack.items
    c.take_next.new.stack.items (nodes_of c.begin.new.self) c.loop-at.into c.take_next.new.into c.in_ok-turn.turn c.in-Some.end t.complete.all kept
    (c.in_ok-turn.ensures (nodes_of c.begin.new.self) kept.building kept.holds) c.loop-at-test.true told in
    subst (λ (older : List Built). Ends (plain c.args.rules.now) c.args.start.now c.args.terminals.now c.args.from older c.take_next.new.into c.in-Some.end) c.begin.ensures.stays done

pub loop-at-preserved : goal.loop-at-preserved
loop-at-preserved c = λ t.
    let kept = c.loop-at.invariant t in
    let told = sym (c.end_of.ensures ∙ ap (λ (o : Option ℕ). end_of c.in_ok-turn.turn o c.loop-at.at) c.passed.ensures) ∙ c.in_default.is in
    let goes = goes_on c.in_ok-turn.turn c.take_next.new.into.passed c.loop-at.at told in
    let takes = subst (λ (turn : Turn). Turns (plain c.args.rules.now) c.args.terminals.now (reading c.loop-at.stack.items c.loop-at.at kept.building) c.loop-at.at turn c.take_next.new.stack.items (nodes_of c.begin.new.self) c.take_next.new.into)
    goes.0 (c.in_ok-turn.ensures (nodes_of c.begin.new.self) kept.building kept.holds) in
    let more = kept_more (plain c.args.rules.now) c.args.start.now c.args.terminals.now t.complete.completions t.end c.args.from c.loop-at.at c.loop-at.stack.items
    c.take_next.new.stack.items (nodes_of c.begin.new.self) c.loop-at.into c.take_next.new.into t.complete.all kept takes goes.1 in
    let P : ℕ → Type 0 = λ n. Kept (plain c.args.rules.now) c.args.start.now c.args.terminals.now t.complete.completions t.end c.args.from n c.take_next.new.stack.items (nodes_of c.begin.new.self) c.take_next.new.into in
    let next : suc c.loop-at.at ≡ c.loop-at.at + 1 = omega arith in
    subst P next more

pub returns : goal.returns
returns c =
    let t = c.requires.complete in
    let kept = c.loop-at.invariant t in
    let before : suc (length c.args.terminals.now - 1) ≡ c.loop-at.at = omega arith in
    let from : c.args.from ≤ length c.args.terminals.now - 1 = omega arith in
    absurd (kept.not_end (length c.args.terminals.now - 1) before from t.last)
