use Rattle.std.proofs.Common.{◌≡◌, List, [], ◌∷◌, ◌++◌, reverse, slice_index_or, ap, ◌∙◌, arith, eq-eqb}
use Rattle.std.proofs.lemmas.Option.{slice_get-get_or}
use Rattle.zw_grammar.specs.declared.grammar.Symbol.{Symbol}
use Rattle.zw_grammar.specs.declared.grammar.Symbol.TheVariants.{Read}
use Rattle.zw_grammar.specs.Reading.Leads.{here}
use Rattle.zw_grammar.specs.Grammars.{steps_of}
use Rattle.zw_grammar.specs.Plain.{plain}
use Rattle.zw_grammar.specs.Turns.{reading}
use Rattle.zw_grammar.proofs.ReadingLemmas.{comes_build, comes_take, comes_read, sticks_take, sticks_read, reverse_last, reverse_pushed, differ}
use Rattle.zw_grammar.proofs.StepLemmas.{steps_fall}
use Rattle.zw_grammar.proofs.machine.take_next.Goals as goal

pub loop-symbol-init : goal.loop-symbol-init
loop-symbol-init c = λ older b h. record { building = b; leads = here (reading c.args.stack.now.items c.args.at b); holds = h }

pub returns-then-terminal-wanted : goal.returns-then-terminal-wanted
returns-then-terminal-wanted c = λ older b h.
    let there = slice_get-get_or c.args.terminals.now c.args.at 0 c.requires.within in
    comes_take _ _ _ c.loop-symbol.stack.items c.pop.new.self.items c.args.at (slice_index_or c.args.terminals.now c.args.at 0) c.in-Take.wanted older c.loop-symbol.into
    (c.loop-symbol.invariant older b h) (c.in-Some.ensures.items ∙ ap (λ (s : Symbol). c.pop.new.self.items ++ (s ∷ [])) c.in-Take.is) there
    (eq-eqb _ _ c.if-terminal-wanted.true)

pub returns-else-terminal-wanted : goal.returns-else-terminal-wanted
returns-else-terminal-wanted c = λ older b h.
    let there = slice_get-get_or c.args.terminals.now c.args.at 0 c.requires.within in
    sticks_take _ _ _ c.loop-symbol.stack.items c.pop.new.self.items c.args.at (slice_index_or c.args.terminals.now c.args.at 0) c.in-Take.wanted older c.loop-symbol.into
    (c.loop-symbol.invariant older b h) (c.in-Some.ensures.items ∙ ap (λ (s : Symbol). c.pop.new.self.items ++ (s ∷ [])) c.in-Take.is) there
    (differ _ _ c.if-terminal-wanted.false)

pub loop-symbol-smaller-in_ok-push_all-in-Some-choose :
    goal.loop-symbol-smaller-in_ok-push_all-in-Some-choose
loop-symbol-smaller-in_ok-push_all-in-Some-choose c =
    let rules = plain c.args.rules.now in
    let popped : c.loop-symbol.stack.items ≡ c.pop.new.self.items ++ (Read c.in-Read.number ∷ []) =
    c.in-Some.ensures.items ∙ ap (λ (s : Symbol). c.pop.new.self.items ++ (s ∷ [])) c.in-Read.is in
    let top : reverse c.loop-symbol.stack.items ≡ Read c.in-Read.number ∷ reverse c.pop.new.self.items =
    ap reverse popped ∙ reverse_last c.pop.new.self.items (Read c.in-Read.number) in
    let pushed = reverse_pushed c.push_all.new.stack.items c.pop.new.self.items c.in-Some-choose.symbols.now c.in_ok-push_all-in-Some-choose.ensures in
    let fewer = steps_fall rules c.in-Read.number (slice_index_or c.args.terminals.now c.args.at 0) c.in-Some-choose.symbols.now (reverse c.pop.new.self.items) c.requires.ends c.in-Some-choose.ensures in
    let before = ap (λ (all : List Symbol). steps_of rules all) top in
    let behind = ap (λ (all : List Symbol). steps_of rules all) pushed in
    omega arith

pub loop-symbol-preserved-in_ok-push_all-in-Some-choose :
    goal.loop-symbol-preserved-in_ok-push_all-in-Some-choose
loop-symbol-preserved-in_ok-push_all-in-Some-choose c = λ older b h.
    let there = slice_get-get_or c.args.terminals.now c.args.at 0 c.requires.within in
    comes_read _ _ _ c.loop-symbol.stack.items c.pop.new.self.items c.push_all.new.stack.items c.in-Some-choose.symbols.now c.args.at
    (slice_index_or c.args.terminals.now c.args.at 0) c.in-Read.number older c.loop-symbol.into
    (c.loop-symbol.invariant older b h) (c.in-Some.ensures.items ∙ ap (λ (s : Symbol). c.pop.new.self.items ++ (s ∷ [])) c.in-Read.is) there
    c.in-Some-choose.ensures c.in_ok-push_all-in-Some-choose.ensures

pub returns-in-None : goal.returns-in-None
returns-in-None c = λ older b h.
    let there = slice_get-get_or c.args.terminals.now c.args.at 0 c.requires.within in
    sticks_read _ _ _ c.loop-symbol.stack.items c.pop.new.self.items c.args.at (slice_index_or c.args.terminals.now c.args.at 0) c.in-Read.number older c.loop-symbol.into
    (c.loop-symbol.invariant older b h) (c.in-Some.ensures.items ∙ ap (λ (s : Symbol). c.pop.new.self.items ++ (s ∷ [])) c.in-Read.is) there
    c.in-None.ensures

pub loop-symbol-preserved : goal.loop-symbol-preserved
loop-symbol-preserved c = λ older b h.
    comes_build _ _ _ c.loop-symbol.stack.items c.pop.new.self.items c.args.at older c.loop-symbol.into c.mark.new.self c.in-Build.mark
    (c.loop-symbol.invariant older b h) (c.in-Some.ensures.items ∙ ap (λ (s : Symbol). c.pop.new.self.items ++ (s ∷ [])) c.in-Build.is)
    (c.in_ok-mark-in-Build.ensures older)
