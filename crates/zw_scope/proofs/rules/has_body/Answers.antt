use Rattle.std.proofs.Common.{◌≡◌, ◌∙◌, ◌&&◌, Bool, true, sym, ap}
use Rattle.zw_scope_sites.specs.Scopes.{ends_in_body, is_inside_function}
use Rattle.zw_scope.proofs.ReadLemmas.{body-behind}
use Rattle.zw_scope.proofs.rules.has_body.Goals as goal

pub returns-in-Some : goal.returns-in-Some
returns-in-Some c = λ lists s read is.
    let inside : is_inside_function s.parent ≡ true = ap is_inside_function (sym read.placed.parent) ∙ sym c.is_inside_function.ensures ∙ c.if-not-is_inside_function.false in
    c.ends_in_body.ensures ∙ body-behind c.args.ast.now c.args.n c.in-Some.parent c.requires (sym c.parent.ensures ∙ c.in-Some.is) s read.here is
    ∙ sym (ap (λ (b : Bool). b && ends_in_body s.behind) inside)
