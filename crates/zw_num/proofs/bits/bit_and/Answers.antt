use Rattle.std.proofs.Common.{sym, subst}
use Rattle.zw_num.specs.Arithmetic.{IsIn}
use Rattle.zw_num.proofs.BitLemmas.{and_is, and_in}
use Rattle.zw_num.proofs.bits.bit_and.Goals as goal

pub returns-clause-value : goal.returns-clause-value
returns-clause-value c = and_is c.args.a c.args.b c.ranges.a.sfits c.ranges.b.sfits

pub returns-clause-in_type : goal.returns-clause-in_type
returns-clause-in_type c =
    subst (IsIn c.args.ty) (sym (and_is c.args.a c.args.b c.ranges.a.sfits c.ranges.b.sfits)) (and_in c.args.ty c.args.a c.args.b c.requires.a_in c.requires.b_in)
