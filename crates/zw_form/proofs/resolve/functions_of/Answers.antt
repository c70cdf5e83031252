use Rattle.std.proofs.Common.{◌≢◌, ℕ, List, AllPairs, arith}
use Rattle.std.proofs.lemmas.List.Elements.{All-contains}
use Rattle.zw_form.specs.declared.source.ExportedFunction.{ExportedFunction}
use Rattle.zw_form.specs.Rules.{exports_of}
use Rattle.zw_form.proofs.Items.{Contains-item}
use Rattle.zw_form.proofs.KeptLemmas.{Contains-exports}
use Rattle.zw_form.proofs.resolve.functions_of.Goals as goal

pub function_of-requires : goal.function_of-requires
function_of-requires c =
    let file = c.args.file.now in
    let item = Contains-item file c.loop-declaration.declaration-index c.declaration-item.result (omega arith) c.declaration-item.is in
    let there = Contains-exports file c.in-Export.function (rw c.in-Export.is at item) in
    All-contains (λ (f : ExportedFunction). AllPairs (λ (x y : List ℕ). x ≢ y) f.params) (exports_of file) c.in-Export.function c.requires there
