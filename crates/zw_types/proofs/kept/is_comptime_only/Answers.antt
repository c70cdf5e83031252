-- A type's element stands before it, and tells what it is.
use Rattle.std.proofs.Common.{◌≡◌, ◌<◌, Some, sym, ◌∙◌, ap, arith}
use Rattle.zw_types.specs.Entries.{trees_of}
use Rattle.zw_types.specs.Readings.{type_at}
use Rattle.zw_types.specs.TypeTexts.{element_of}
use Rattle.zw_types.specs.Sizes.{is_comptime_only}
use Rattle.zw_types.proofs.EntryLemmas.{form_in_entry, earlier_in_entry}
use Rattle.zw_types.proofs.ComptimeLemmas.{element_tells}
use Rattle.zw_types.proofs.kept.is_comptime_only.Goals as goal

pub loop-of-smaller : goal.loop-of-smaller
loop-of-smaller c =
    let es = c.args.entries.now in
    c.in-Some.ensures.known c.loop-of.next.0 (earlier_in_entry es c.requires.entries.earlier c.loop-of.next.0 c.index-entries-next.result c.loop-of.invariant.0 c.index-entries-next.is)

pub loop-of-preserved : goal.loop-of-preserved
loop-of-preserved c =
    let es = c.args.entries.now in
    let trees = trees_of es in
    let e = c.index-entries-next.result in
    let k = c.loop-of.next.0 in
    let smaller : c.in-Some.of.0 < k = c.in-Some.ensures.known k (earlier_in_entry es c.requires.entries.earlier k e c.loop-of.invariant.0 c.index-entries-next.is) in
    let is = form_in_entry es c.requires.entries.earlier k e c.loop-of.invariant.0 c.index-entries-next.is in
    let read : Some (type_at trees c.in-Some.of) ≡ element_of (type_at trees c.loop-of.next) = c.in-Some.ensures.read trees ∙ ap element_of is in
    (omega (arith, c.loop-of.invariant.0), element_tells (type_at trees c.loop-of.next) (type_at trees c.in-Some.of) read ∙ c.loop-of.invariant.1)

pub returns-in-None : goal.returns-in-None
returns-in-None c =
    let es = c.args.entries.now in
    let trees = trees_of es in
    let e = c.index-entries-next.result in
    let is = form_in_entry es c.requires.entries.earlier c.loop-of.next.0 e c.loop-of.invariant.0 c.index-entries-next.is in
    c.has_comptime_form.ensures trees (sym (c.in-None.ensures.read trees)) ∙ ap is_comptime_only is ∙ c.loop-of.invariant.1
