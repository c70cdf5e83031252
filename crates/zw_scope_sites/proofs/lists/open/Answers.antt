use Rattle.std.proofs.Common.{◌∷◌, [], List, sym, subst}
use Rattle.zw_scope_sites.specs.Lists.{IsList}
use Rattle.zw_scope_sites.specs.declared.lists.LabelLink.{LabelLink}
use Rattle.zw_scope_sites.proofs.ListLemmas.{list-kept, list-put}
use Rattle.zw_scope_sites.proofs.lists.open.Goals as goal

pub returns-clause-grows : goal.returns-clause-grows
returns-clause-grows c =
    let link : LabelLink = record { item = c.args.item; next = c.args.next } in
    record {
      bindings = λ head bs h. h;
      labels = λ head ls h. subst (λ (links : List LabelLink). IsList (λ (l : LabelLink). l.item) (λ (l : LabelLink). l.next) links head ls) (sym c.in_ok-push.ensures.items) (list-kept (λ (l : LabelLink). l.item) (λ (l : LabelLink). l.next) c.args.lists.now.labels.items (link ∷ []) head ls h);
    }

pub returns-clause-head : goal.returns-clause-head
returns-clause-head c = λ ls h.
    let link : LabelLink = record { item = c.args.item; next = c.args.next } in
    rw (c.in_ok-push.ensures.items, c.in_ok-head.ensures, c.as_slice.ensures.value) (list-put (λ (l : LabelLink). l.item) (λ (l : LabelLink). l.next) c.args.lists.now.labels.items link ls h)
