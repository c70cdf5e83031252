use Rattle.std.proofs.Common.{List, ap, ◌∙◌}
use Rattle.std.proofs.lemmas.Result.{IfOk-weaker}
use Rattle.zw_scope_sites.specs.Tables.{fork_at}
use Rattle.zw_scope_sites.specs.declared.tables.Fork.{Fork}
use Rattle.zw_scope_sites.proofs.TableLemmas.{is-put-here, is-put-odd, is-put-even}
use Rattle.zw_scope_sites.proofs.tables.+put.Goals as goal

pub returns-in-Here : goal.returns-in-Here
returns-in-Here t c =
    let old = c.args.forks.now.items in
    let is = c.fork_at-fork.ensures ∙ ap (λ (forks : List Fork). fork_at forks c.args.head) c.as_slice.ensures.value in
    let new = c.push.new.forks.items in
    IfOk-weaker c.push.result _ _ (λ result h. is-put-here old old new c.args.head c.args.key c.args.value result c.fork_at-fork.result is c.in-Here.ensures h.0 h.1) c.push.ensures

pub returns-in_ok-odd-in-Odd : goal.returns-in_ok-odd-in-Odd
returns-in_ok-odd-in-Odd t c =
    let old = c.args.forks.now.items in
    let is = c.fork_at-fork.ensures ∙ ap (λ (forks : List Fork). fork_at forks c.args.head) c.as_slice.ensures.value in
    let mid = c.put.new.forks.items in
    let new = c.push-in-Odd.new.forks.items in
    IfOk-weaker c.push-in-Odd.result _ _ (λ result h. is-put-odd old mid new c.args.head c.args.key c.args.value result c.fork_at-fork.result is c.in-Odd.half c.in_ok-odd-in-Odd.odd c.in_ok-odd-in-Odd.ensures c.in-Odd.ensures h.0 h.1) c.push-in-Odd.ensures

pub returns-in_ok-even-in-Even : goal.returns-in_ok-even-in-Even
returns-in_ok-even-in-Even t c =
    let old = c.args.forks.now.items in
    let is = c.fork_at-fork.ensures ∙ ap (λ (forks : List Fork). fork_at forks c.args.head) c.as_slice.ensures.value in
    let mid = c.put-in-Even.new.forks.items in
    let new = c.push-in-Even.new.forks.items in
    IfOk-weaker c.push-in-Even.result _ _ (λ result h. is-put-even old mid new c.args.head c.args.key c.args.value result c.fork_at-fork.result is c.in-Even.half c.in_ok-even-in-Even.even c.in_ok-even-in-Even.ensures c.in-Even.ensures h.0 h.1) c.push-in-Even.ensures
