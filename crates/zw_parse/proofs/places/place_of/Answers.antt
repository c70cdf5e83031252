use Rattle.std.proofs.Common.{◌≡◌, ℕ, ◌-◌, ◌++◌, take, arith, refl, ap, ◌∙◌}
use Rattle.zw_parse.specs.Places.{place_behind}
use Rattle.zw_parse.proofs.PlaceLemmas.{moved_to}
use Rattle.zw_parse.proofs.places.place_of.Goals as goal

pub returns : goal.returns
returns c =
    let same : c.args.at ≡ c.args.at - 0 = omega arith in
    moved_to c.args.file c.args.text.now 0 c.args.at _ c.moved.result refl (omega arith) c.requires.within
    (λ before is. c.moved.ensures before is ∙ ap (λ (n : ℕ). place_behind c.args.file (before ++ take n c.args.text.now)) same)
