use Rattle.std.proofs.Common.{◌<◌, List, [], ◌∷◌, ◌++◌, length, take, get_or, Option, ap, sym, ◌∙◌, subst, arith}
use Rattle.std.specs.Option.{option_map}
use Rattle.std.proofs.lemmas.List.{take_more, map_push}
use Rattle.zw_tree.specs.Numbering.{from}
use Rattle.zw_form.specs.Listed.{AreFunctions, declared_at}
use Rattle.zw_form.specs.Nodes.{member_of}
use Rattle.zw_form.specs.Trees.{declaration_of}
use Rattle.zw_form.specs.declared.source.Declaration.{Declaration}
use Rattle.zw_form.proofs.ListedLemmas.{functions-more}
use Rattle.zw_form.proofs.members.functions_of.Goals as goal

pub loop-member-preserved : goal.loop-member-preserved
loop-member-preserved c =
    let ns = c.args.members.now in
    let i = c.loop-member.member-index in
    let within : i < length ns = omega arith in
    let ds = declared_at c.args.text.now c.args.tokens.now c.args.ast.now (take i ns) in
    subst (λ (os : List (Option Declaration)). AreFunctions os c.add.new.functions)
    (ap (λ (o : Option Declaration). ds ++ o ∷ []) c.in_ok-declaration.ensures
    ∙ sym (ap (declared_at c.args.text.now c.args.tokens.now c.args.ast.now) (take_more ns i 0 within)
    ∙ map_push (λ n. option_map declaration_of (member_of c.args.text.now c.args.tokens.now (from c.args.ast.now n))) (take i ns) (get_or ns i 0)))
    (functions-more ds c.in_ok-declaration.declaration c.loop-member.functions c.add.new.functions c.loop-member.invariant c.in_ok-add.ensures.list c.in_ok-add.ensures.names c.in_ok-add.ensures.marks)
