use Rattle.std.proofs.Common.{ℕ, ◌<◌, ◌≤◌, List, length, drop, take, subst}
use Rattle.std.specs.Str.{IsUtf8, StartsWithNoChar}
use Rattle.std.proofs.lemmas.List.{take_rest}
use Rattle.zw_token.proofs.FirstBad.{good_point, bad_point}
use Rattle.zw_token.proofs.bad.valid_behind.Goals as goal

pub returns-in-Some-clause-some : goal.returns-in-Some-clause-some
returns-in-Some-clause-some c =
    let text = c.args.text.now in
    let at = c.args.at in
    let n = c.in-Some.len in
    let P : List ℕ → Type 0 = λ rest. (0 < n) × (n ≤ length rest) × IsUtf8 (take n rest) in
    let point : P (drop at text) = subst P (take_rest text at) c.in-Some.ensures.some in
    good_point text at c.args.valid n c.requires.good c.if-at-valid.false point.1 point.2

pub returns-in-None-clause-none : goal.returns-in-None-clause-none
returns-in-None-clause-none c =
    let text = c.args.text.now in
    bad_point text c.args.at c.args.valid c.requires.good c.if-at-valid.false c.requires.within (subst StartsWithNoChar (take_rest text c.args.at) c.in-None.ensures.none)
