use Rattle.std.proofs.Common.{◌++◌, ap, ◌∙◌, append_assoc}
use Rattle.zw_safety_narrow.specs.Code.{if_panics}
use Rattle.zw_safety_wide.specs.WideSignedCode.{lacking}
use Rattle.zw_safety_wide.proofs.shares.push_lacking_panics.Goals as goal

pub returns : goal.returns
returns c =
    c.in_ok-push_if_panics.ensures ∙ (ap (λ l. l ++ if_panics 1) c.in_ok-push_lacking.ensures ∙ append_assoc c.args.out.now.items (lacking c.args.to c.args.scratch) (if_panics 1))
