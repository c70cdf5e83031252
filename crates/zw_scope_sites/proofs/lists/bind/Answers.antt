use Rattle.std.proofs.Common.{List, suc, length, ap, ◌∙◌}
use Rattle.std.proofs.lemmas.Result.{IfOk-weaker}
use Rattle.zw_names.specs.NameSets.{number_in, names_in}
use Rattle.zw_scope_sites.specs.declared.lists.BindingLink.{BindingLink}
use Rattle.zw_scope_sites.proofs.BoundLemmas.{OnOk-from, tables-stay, table-made}
use Rattle.zw_scope_sites.proofs.lists.bind.Goals as goal

pub returns-clause-grows : goal.returns-clause-grows
returns-clause-grows c =
    let link : BindingLink = record { item = c.args.item; sees_local = c.will_see_local-sees_local.result } in
    let more = c.in_ok-name.ensures.more in
    OnOk-from c.put.result (λ head put. record {
      bindings = tables-stay (names_in c.args.lists.now.names) (names_in c.number_of.new.set) more.0 more.1 c.args.lists.now.bindings.items c.push.new.self.items link c.in_ok-push.ensures.items c.args.lists.now.forks.items c.put.new.forks.items put.reaches;
      labels = λ head ls h. h;
    }) c.put.ensures

pub returns-clause-head : goal.returns-clause-head
returns-clause-head c =
    let link : BindingLink = record { item = c.args.item; sees_local = c.will_see_local-sees_local.result } in
    let more = c.in_ok-name.ensures.more in
    IfOk-weaker c.put.result _ _ (λ head put bs table.
    table-made (names_in c.args.lists.now.names) (names_in c.number_of.new.set) more.0 more.1 c.args.lists.now.bindings.items c.push.new.self.items link c.in_ok-push.ensures.items c.args.lists.now.forks.items c.put.new.forks.items
    c.args.next head c.in_ok-name.name c.in_ok-link.link (c.in_ok-link.ensures ∙ ap (λ (ls : List BindingLink). suc (length ls)) c.as_slice-2.ensures.value) (c.in_ok-name.ensures.number ∙ ap (number_in (names_in c.number_of.new.set)) c.as_slice.ensures) c.in_ok-name.ensures.within put bs (c.will_see_local-sees_local.ensures bs table) table) c.put.ensures
