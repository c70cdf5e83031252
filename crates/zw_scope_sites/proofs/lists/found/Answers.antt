use Rattle.std.proofs.Common.{◌≡◌, ℕ, List, ap, sym, ◌∙◌, subst, suc, slice_get, arith}
use Rattle.zw_names.specs.NameSets.{number_in, names_in}
use Rattle.zw_scope_sites.specs.Lists.{IsFound}
use Rattle.zw_scope_sites.specs.Tables.{Leads}
use Rattle.zw_scope_sites.specs.declared.lists.BindingLink.{BindingLink}
use Rattle.zw_scope_sites.proofs.ListLemmas.{item-got}
use Rattle.zw_scope_sites.proofs.BoundLemmas.{found-none, found-some}
use Rattle.zw_scope_sites.proofs.lists.found.Goals as goal

pub returns-in-Some : goal.returns-in-Some
returns-in-Some c = λ bs table.
    let forks = c.args.lists.now.forks.items in
    let links = c.args.lists.now.bindings.items in
    let name = c.args.name.now in
    let got : (v : ℕ) → Leads forks c.args.head (number_in (names_in c.args.lists.now.names) name) v → c.get-link.result ≡ v = λ v leads. c.get-link.ensures v (rw (c.as_slice.ensures.value, c.number_in-number.ensures) leads) in
    let last : c.get-link.result ≡ suc c.in-Some.at = let e = c.in-Some.ensures in omega arith in
    let at = ap (λ (ls : List BindingLink). slice_get ls c.in-Some.at) (sym c.deref.ensures.value) ∙ item-got c.deref.result.now c.in-Some.at c.get.result c.get.ensures.lookup in
    subst (λ o. IsFound o name bs) at (found-some (names_in c.args.lists.now.names) forks links c.args.head bs name c.get-link.result got table c.in-Some.at last)

pub returns-in-None : goal.returns-in-None
returns-in-None c = λ bs table.
    let forks = c.args.lists.now.forks.items in
    let links = c.args.lists.now.bindings.items in
    let name = c.args.name.now in
    let got : (v : ℕ) → Leads forks c.args.head (number_in (names_in c.args.lists.now.names) name) v → c.get-link.result ≡ v = λ v leads. c.get-link.ensures v (rw (c.as_slice.ensures.value, c.number_in-number.ensures) leads) in
    let none : c.get-link.result ≡ 0 = let e = c.in-None.ensures in omega arith in
    found-none (names_in c.args.lists.now.names) forks links c.args.head bs name c.get-link.result got table none
