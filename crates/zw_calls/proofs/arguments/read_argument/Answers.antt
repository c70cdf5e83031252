use Rattle.std.proofs.Common.{rules, ◌≡◌, false, codes}
use Rattle.std.specs.Str.{bytes_eq}
use Rattle.zw_calls.proofs.ArgumentLemmas.{reads-none}
use Rattle.zw_calls.proofs.arguments.read_argument.Goals as goal

pub returns-in-None : goal.returns-in-None
returns-in-None c =
    let not_true : bytes_eq c.args.word.now (codes "true") ≡ false = search rules in
    let not_false : bytes_eq c.args.word.now (codes "false") ≡ false = search rules in
    reads-none c.args.word.now (record { not_true = not_true; not_false = not_false; argument = c.requires }) c.in-None.ensures
