use Rattle.std.proofs.Common.{◌≡◌, Bool, length, sym, ap, ◌∙◌, arith}
use Rattle.std.proofs.lemmas.List.{length-map}
use Rattle.std.proofs.lemmas.Result.{IfOk-weaker}
use Rattle.zw_tree.specs.Numbering.{from, inside_first, siblings}
use Rattle.zw_form.specs.Work.{done}
use Rattle.zw_form.proofs.WorkLemmas.{no-return, return-begun, finished}
use Rattle.zw_form.proofs.sums.read_return.Goals as goal

pub returns-then-children-ne1 : goal.returns-then-children-ne1
returns-then-children-ne1 c =
    let size = ap length c.children.ensures in
    let same = length-map c.children.result.now (from c.args.ast.now) in
    no-return c.args.text.now c.args.tokens.now (from c.args.ast.now c.args.n) (sym c.role.ensures ∙ c.in-Return.is) (λ one. c.if-children-ne1.true (omega (arith, size, same, one)))

pub returns : goal.returns
returns c =
    let size = ap length c.children.ensures in
    let same = length-map c.children.result.now (from c.args.ast.now) in
    let one : length (siblings (inside_first (from c.args.ast.now c.args.n))) ≡ 1 = omega (arith, size, same, c.if-children-ne1.false) in
    let old = c.args.reader.now in
    let begins = return-begun c.args.text.now c.args.tokens.now c.args.ast.now c.args.n (sym c.role.ensures ∙ c.in-Return.is) one (done old) old.tasks.items c.push.new.self.items c.in_ok-push.ensures.items in
    IfOk-weaker c.finish.result _ _ (λ (ok : Bool) h. finished c.args.text.now c.args.tokens.now c.args.ast.now old _ _ _ c.requires begins ok h) c.finish.ensures
