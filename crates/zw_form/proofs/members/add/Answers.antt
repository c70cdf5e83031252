use Rattle.std.proofs.Common.{◌∷◌, [], ◌++◌, map, append-nil, sym, ap, ◌∙◌}
use Rattle.zw_names.specs.NameSets.{names_in}
use Rattle.zw_form.specs.Rules.{name_of}
use Rattle.zw_form.proofs.MemberLemmas.{old-among, old-mark, new-alone, new-mark}
use Rattle.zw_form.proofs.members.add.Goals as goal

pub returns-then-not-branch-clause-list : goal.returns-then-not-branch-clause-list
returns-then-not-branch-clause-list c =
    let put = rw c.if-not-branch.true at c.in_ok-insert.ensures in
    let list = c.args.functions.now.list in
    sym (ap (λ ds. list ++ ds) (old-among (names_in c.args.functions.now.names) c.args.declaration c.in-Some.declaration c.in-Some.is c.name.result.now c.name.ensures put.1) ∙ append-nil list)

pub returns-then-not-branch-clause-names : goal.returns-then-not-branch-clause-names
returns-then-not-branch-clause-names c =
    let put = rw c.if-not-branch.true at c.in_ok-insert.ensures in
    let names = names_in c.args.functions.now.names in
    put.0 ∙ sym (ap (λ ds. names ++ map name_of ds) (old-among (names_in c.args.functions.now.names) c.args.declaration c.in-Some.declaration c.in-Some.is c.name.result.now c.name.ensures put.1) ∙ append-nil names)

pub returns-then-not-branch-clause-marks : goal.returns-then-not-branch-clause-marks
returns-then-not-branch-clause-marks c =
    let put = rw c.if-not-branch.true at c.in_ok-insert.ensures in
    let marks = c.args.functions.now.marks in
    c.in_ok-push-2.ensures.ok ∙ ap (λ b. marks ++ b ∷ []) (sym (old-mark (names_in c.args.functions.now.names) c.args.declaration c.in-Some.declaration c.in-Some.is c.name.result.now c.name.ensures put.1))

pub returns-clause-list : goal.returns-clause-list
returns-clause-list c =
    let put = rw c.if-not-branch.false at c.in_ok-insert.ensures in
    let list = c.args.functions.now.list in
    c.in_ok-push-4.ensures.ok ∙ ap (λ ds. list ++ ds) (sym (new-alone (names_in c.args.functions.now.names) c.args.declaration c.in-Some.declaration c.in-Some.is c.name.result.now c.name.ensures put.1))

pub returns-clause-names : goal.returns-clause-names
returns-clause-names c =
    let put = rw c.if-not-branch.false at c.in_ok-insert.ensures in
    let names = names_in c.args.functions.now.names in
    put.0 ∙ ap (λ n. names ++ n ∷ []) c.name.ensures ∙ ap (λ ds. names ++ map name_of ds) (sym (new-alone (names_in c.args.functions.now.names) c.args.declaration c.in-Some.declaration c.in-Some.is c.name.result.now c.name.ensures put.1))

pub returns-clause-marks : goal.returns-clause-marks
returns-clause-marks c =
    let put = rw c.if-not-branch.false at c.in_ok-insert.ensures in
    let marks = c.args.functions.now.marks in
    c.in_ok-push-3.ensures.ok ∙ ap (λ b. marks ++ b ∷ []) (sym (new-mark (names_in c.args.functions.now.names) c.args.declaration c.in-Some.declaration c.in-Some.is c.name.result.now c.name.ensures put.1))
