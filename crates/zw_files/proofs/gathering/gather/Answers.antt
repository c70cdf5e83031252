use Rattle.std.proofs.Common.{ap, sym, subst, ◌∙◌}
use Rattle.zw_files.specs.Discovery.{Found, start}
use Rattle.zw_files.specs.Gathering.{PassesAll, PassesUpTo, found_in}
use Rattle.zw_files.proofs.TurnLemmas.{gathers-whole, gathers-full, gathers-stop, gathers-nothing, gathers-refused}
use Rattle.zw_files.proofs.gathering.gather.Goals as goal

pub returns-then-not-ends_with-clause-gathers : goal.returns-then-not-ends_with-clause-gathers
returns-then-not-ends_with-clause-gathers g c =
    gathers-refused c.args.root.now (g.T.Tree.loaded c.args.tree.now) c.refused.result (rw c.bytes.ensures at (sym c.ends_with.ensures.value ∙ c.if-not-ends_with.true)) c.refused.ensures

pub returns-in-Err-clause-gathers : goal.returns-in-Err-clause-gathers
returns-in-Err-clause-gathers g c = gathers-nothing c.args.root.now (g.T.Tree.loaded c.args.tree.now)

pub returns-in-Err-discover-clause-gathers : goal.returns-in-Err-discover-clause-gathers
returns-in-Err-discover-clause-gathers g c =
    let zig = rw c.bytes.ensures at (sym c.ends_with.ensures.value ∙ c.if-not-ends_with.false) in
    let at_start = c.in-Ok.ensures.found ∙ ap start c.bytes-2.ensures in
    gathers-stop c.args.root.now (g.T.Tree.loaded c.args.tree.now) (g.T.Tree.loaded c.discover.new.tree) zig c.in-Err-discover.e
    (subst (λ (f : Found). PassesUpTo c.args.root.now f (g.T.Tree.loaded c.args.tree.now) (g.T.Tree.loaded c.discover.new.tree) c.in-Err-discover.e) at_start (rw c.bytes-3.ensures at c.in-Err-discover.ensures.stops))

pub returns-in-Ok-file_set-clause-gathers : goal.returns-in-Ok-file_set-clause-gathers
returns-in-Ok-file_set-clause-gathers g c =
    let zig = rw c.bytes.ensures at (sym c.ends_with.ensures.value ∙ c.if-not-ends_with.false) in
    let at_start = c.in-Ok.ensures.found ∙ ap start c.bytes-2.ensures in
    let to = found_in c.discover.new.files in
    gathers-whole c.args.root.now (g.T.Tree.loaded c.args.tree.now) (g.T.Tree.loaded c.discover.new.tree) zig to c.in-Ok-file_set.set
    (subst (λ (f : Found). PassesAll c.args.root.now f (g.T.Tree.loaded c.args.tree.now) (g.T.Tree.loaded c.discover.new.tree) to) at_start (rw c.bytes-3.ensures at c.in-Ok-discover.ensures.passes)) c.in-Ok-file_set.ensures

pub returns-in-Err-file_set-clause-gathers : goal.returns-in-Err-file_set-clause-gathers
returns-in-Err-file_set-clause-gathers g c =
    let zig = rw c.bytes.ensures at (sym c.ends_with.ensures.value ∙ c.if-not-ends_with.false) in
    let at_start = c.in-Ok.ensures.found ∙ ap start c.bytes-2.ensures in
    let to = found_in c.discover.new.files in
    gathers-full c.args.root.now (g.T.Tree.loaded c.args.tree.now) (g.T.Tree.loaded c.discover.new.tree) zig to
    (subst (λ (f : Found). PassesAll c.args.root.now f (g.T.Tree.loaded c.args.tree.now) (g.T.Tree.loaded c.discover.new.tree) to) at_start (rw c.bytes-3.ensures at c.in-Ok-discover.ensures.passes))
