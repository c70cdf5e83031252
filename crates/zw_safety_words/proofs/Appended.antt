-- Code that is appended in three pieces.
use Rattle.std.proofs.Common.{◌≡◌, List, ◌++◌, ap, ◌∙◌, append_assoc}
use Rattle.zw_wasm.specs.declared.module.Instr.{Instr}

pub in_three : (out first second third a b c : List Instr) → first ≡ out ++ a → second ≡ first ++ b → third ≡ second ++ c → third ≡ out ++ (a ++ (b ++ c))
in_three out first second third a b c one two three =
    three ∙ ap (λ l. l ++ c) (two ∙ ap (λ l. l ++ b) one) ∙ (append_assoc (out ++ a) b c ∙ append_assoc out a (b ++ c))
