use Rattle.std.proofs.Common.{◌++◌, Option, ℕ, sym, subst, refl}
use Rattle.zw_scope.specs.Telling.{IsToldFirst, tells}
use Rattle.zw_scope.proofs.Violations.{first-alone, first-stays, first-changes, first-none, first-some, told-root}
use Rattle.zw_scope.proofs.told.tell.Goals as goal

pub returns-in_default-so_far : goal.returns-in_default-so_far
returns-in_default-so_far c = λ vs h.
    let within = rw c.in-Some.is at c.requires in
    subst (λ (o : Option ℕ). IsToldFirst c.args.ast.now (vs ++ tells c.args.ast.now c.args.error o) (record { error = c.args.error; node = c.in-Some.node })) (sym c.in-Some.is)
    (first-alone c.args.ast.now c.in-Some.node c.args.error within vs (first-none c.args.ast.now vs c.args.so_far c.in_default-so_far.is h))

pub returns-then-is_before : goal.returns-then-is_before
returns-then-is_before c = λ vs h.
    let within = rw c.in-Some.is at c.requires in
    let t = first-some c.args.ast.now vs c.args.so_far c.in-Some-so_far.told c.in-Some-so_far.is h in
    let first = rw c.if-is_before.true at (c.is_before.ensures (record { error = c.in-Some-so_far.told.error; at = t.entry }) (record { error = c.args.error; at = _ }) t.at refl (told-root c.args.ast.now c.in-Some.node c.args.error within) refl) in
    subst (λ (o : Option ℕ). IsToldFirst c.args.ast.now (vs ++ tells c.args.ast.now c.args.error o) c.in-Some-so_far.told) (sym c.in-Some.is)
    (first-stays c.args.ast.now c.in-Some.node c.args.error within vs c.in-Some-so_far.told t first)

pub returns-else-is_before : goal.returns-else-is_before
returns-else-is_before c = λ vs h.
    let within = rw c.in-Some.is at c.requires in
    let t = first-some c.args.ast.now vs c.args.so_far c.in-Some-so_far.told c.in-Some-so_far.is h in
    let first = rw c.if-is_before.false at (c.is_before.ensures (record { error = c.in-Some-so_far.told.error; at = t.entry }) (record { error = c.args.error; at = _ }) t.at refl (told-root c.args.ast.now c.in-Some.node c.args.error within) refl) in
    subst (λ (o : Option ℕ). IsToldFirst c.args.ast.now (vs ++ tells c.args.ast.now c.args.error o) (record { error = c.args.error; node = c.in-Some.node })) (sym c.in-Some.is)
    (first-changes c.args.ast.now c.in-Some.node c.args.error within vs c.in-Some-so_far.told t first)
