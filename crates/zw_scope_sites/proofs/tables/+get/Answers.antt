use Rattle.std.proofs.Common.{sym, subst}
use Rattle.zw_scope_sites.specs.declared.tables.Fork.{Fork}
use Rattle.zw_scope_sites.proofs.TableLemmas.{Goes, goes-out, goes-here, goes-odd, goes-even}
use Rattle.zw_scope_sites.proofs.tables.+get.Goals as goal

pub returns-in-Here : goal.returns-in-Here
returns-in-Here t c = λ v l.
    let forks = c.args.forks.now in
    let goes = subst (λ (f : Fork). Goes forks f c.args.key v) (sym c.fork_at-fork.ensures) (goes-out forks c.args.head c.args.key v l) in
    goes-here forks c.fork_at-fork.result c.args.key v goes c.in-Here.ensures

pub returns-in-Odd : goal.returns-in-Odd
returns-in-Odd t c = λ v l.
    let forks = c.args.forks.now in
    let goes = subst (λ (f : Fork). Goes forks f c.args.key v) (sym c.fork_at-fork.ensures) (goes-out forks c.args.head c.args.key v l) in
    c.get.ensures v (goes-odd forks c.fork_at-fork.result c.args.key v c.in-Odd.half goes c.in-Odd.ensures)

pub returns-in-Even : goal.returns-in-Even
returns-in-Even t c = λ v l.
    let forks = c.args.forks.now in
    let goes = subst (λ (f : Fork). Goes forks f c.args.key v) (sym c.fork_at-fork.ensures) (goes-out forks c.args.head c.args.key v l) in
    c.get-in-Even.ensures v (goes-even forks c.fork_at-fork.result c.args.key v c.in-Even.half goes c.in-Even.ensures)
