use Rattle.std.proofs.Common.{◌≡◌, ◌+◌, ◌-◌, ◌/◌, length, take, sym, ap, ◌∙◌, rules}
use Rattle.std.specs.Prelude.{◌||◌, nat_eq, nat_le}
use Rattle.zw_wasm.specs.Reduction.{page_count}
use Rattle.zw_wasm_words.proofs.Growing.{grow_refused}
use Rattle.zw_wasm_words.proofs.accesses.grow.Goals as goal

pub returns-else-may_grow-clause-grows : goal.returns-else-may_grow-clause-grows
returns-else-may_grow-clause-grows c =
    let old = c.args.stack.now.items in
    let memory = c.args.memory.now.items in
    let pages : page_count memory ≡ c.len-pages.result / 65536 = search rules in
    grow_refused c.args.most c.in-Some.x memory old (take (length old - 1) old) c.replace_last-else-may_grow.new.stack.items
    (search rules) c.replace_last-else-may_grow.ensures.items
    (ap (λ k. nat_eq k 0 || nat_le (page_count memory + k) c.args.most) (sym c.low-more.ensures)
    ∙ ap (λ k. nat_eq c.low-more.result 0 || nat_le (k + c.low-more.result) c.args.most) pages
    ∙ sym c.may_grow.ensures ∙ c.if-may_grow.false)
