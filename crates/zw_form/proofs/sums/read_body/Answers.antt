use Rattle.std.proofs.Common.{map, sym, ap, ◌∙◌}
use Rattle.std.specs.Option.{option_map}
use Rattle.zw_tree.specs.Numbering.{from}
use Rattle.zw_form.specs.Work.{body_work}
use Rattle.zw_form.proofs.WorkLemmas.{body-parts, no-statements, no-result, body-read}
use Rattle.zw_form.proofs.sums.read_body.Goals as goal

pub returns-then-not-branch : goal.returns-then-not-branch
returns-then-not-branch c =
    let file = c.args.ast.now in
    let none = rw c.if-not-branch.true at c.in_ok-read_statements.ensures in
    body-parts c.args.text.now c.args.tokens.now file c.args.n (sym c.role.ensures ∙ c.in-Block.is) c.children.result.now c.in-Some.statements.now c.in-Some.last.now c.children.ensures c.in-Some.ensures.cases.0
    ∙ no-statements c.args.text.now c.args.tokens.now (map (from file) c.in-Some.statements.now) (from file c.in-Some.last.now) none

pub returns-then-not-branch-2 : goal.returns-then-not-branch-2
returns-then-not-branch-2 c =
    let file = c.args.ast.now in
    let none = rw c.if-not-branch-2.true at c.in_ok-read_return.ensures in
    body-parts c.args.text.now c.args.tokens.now file c.args.n (sym c.role.ensures ∙ c.in-Block.is) c.children.result.now c.in-Some.statements.now c.in-Some.last.now c.children.ensures c.in-Some.ensures.cases.0
    ∙ no-result c.args.text.now c.args.tokens.now (map (from file) c.in-Some.statements.now) (from file c.in-Some.last.now) none

pub returns : goal.returns
returns c =
    let file = c.args.ast.now in
    let first = rw c.if-not-branch.false at c.in_ok-read_statements.ensures in
    let second = rw c.if-not-branch-2.false at c.in_ok-read_return.ensures in
    ap (option_map body_work) (body-parts c.args.text.now c.args.tokens.now file c.args.n (sym c.role.ensures ∙ c.in-Block.is) c.children.result.now c.in-Some.statements.now c.in-Some.last.now c.children.ensures c.in-Some.ensures.cases.0)
    ∙ body-read c.args.text.now c.args.tokens.now (map (from file) c.in-Some.statements.now) (from file c.in-Some.last.now) c.new_reader-reader.result c.read_statements.new.reader c.read_return.new.reader c.new_reader-reader.ensures.steps c.new_reader-reader.ensures.callees first.0 second.0
