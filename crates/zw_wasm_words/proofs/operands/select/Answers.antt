use Rattle.std.proofs.Common.{rules, ◌≡◌, ◌-◌, length, take, sym, ap, ◌∙◌, cond, eqb, eq-eqb}
use Rattle.std.proofs.lemmas.Bool.{ne_eqb}
use Rattle.zw_wasm_words.proofs.Shapes.{one_of_two}
use Rattle.zw_wasm_words.proofs.operands.select.Goals as goal
use Rattle.zw_wasm_words.proofs.operands.select.Goals.{then-low-eq0, else-low-eq0}

pub returns-clause-acts : goal.returns-clause-acts
returns-clause-acts c =
    let mid = c.pop.new.self.items in
    let low = c.pop-2.new.self.items in
    let x = c.in-Some-Some.x in
    let y = c.in-Some-Some.y in
    let z = c.in-Some.choice in
    let chosen : c.if-low-eq0.word ≡ cond (eqb c.low.result 0) y x =
    elim c.if-low-eq0.branch [
      | then-low-eq0 w ↦ w.word-is ∙ sym (ap (λ b. cond b y x) (eq-eqb c.low.result 0 w.if-low-eq0.true))
      | else-low-eq0 w ↦ w.word-is ∙ sym (ap (λ b. cond b y x) (ne_eqb c.low.result 0 w.if-low-eq0.false))
    ] in
    one_of_two c.args.stack.now.items mid low (take (length low - 1) low) c.replace_last.new.stack.items x y z c.if-low-eq0.word
    (search rules) (search rules) (search rules) (search rules) (chosen ∙ ap (λ n. cond (eqb n 0) y x) c.low.ensures)
