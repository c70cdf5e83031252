use Rattle.std.proofs.Common.{rules, refl, ◌-◌, length, take}
use Rattle.zw_wasm.specs.Numerics.{bit_of, is_related}
use Rattle.zw_wasm.specs.Reduction.{compared}
use Rattle.zw_wasm.specs.Structure.{width_of}
use Rattle.zw_wasm.specs.declared.num.Num.TheVariants.{I32}
use Rattle.zw_wasm_words.proofs.Shapes.{two_give}
use Rattle.zw_wasm_words.specs.Words.{bits_in}
use Rattle.zw_wasm_words.proofs.operands.compare.Goals as goal

pub returns-clause-acts : goal.returns-clause-acts
returns-clause-acts c =
    let mid = c.pop.new.self.items in
    let bits = bit_of (is_related c.args.comparison (width_of c.args.ty) (bits_in c.args.ty c.in-Some-Some.x) (bits_in c.args.ty c.in-Some-Some.y)) in
    two_give c.args.ty (compared c.args.ty c.args.comparison) c.args.stack.now.items mid (take (length mid - 1) mid) c.replace_last.new.stack.items c.in-Some-Some.x c.in-Some-Some.y c.compare.result (I32 bits)
    (search rules) (search rules) (search rules) (λ d. refl) (search rules)
