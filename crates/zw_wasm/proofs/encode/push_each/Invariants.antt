use Rattle.std.proofs.Common.{◌≡◌, ◌++◌, take, All}
use Rattle.std.specs.List.{flat_map}
use Rattle.zw_wasm.proofs.encode.push_each.Given as goal

-- the items so far stand at the end, and fit
abbrev pub invariant-loop-item : goal.invariant-loop-item
invariant-loop-item g l = record {
  spelled : l.out.items ≡ l.fn.out.items ++ flat_map g.T.Encode.bytes (take l.item-index l.items);
  fit : All g.T.Encode.fits (take l.item-index l.items);
}
