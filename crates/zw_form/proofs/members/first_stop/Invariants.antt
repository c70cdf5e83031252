use Rattle.std.proofs.Common.{ℕ, List, drop}
use Rattle.zw_token.specs.declared.token.Token.{Token}
use Rattle.zw_form.specs.Listed.{AreFunctions, declared_at}
use Rattle.zw_form.proofs.ListedLemmas.{Passed}
use Rattle.zw_form.proofs.members.first_stop.Given as goal

abbrev pub invariant-loop-index : goal.invariant-loop-index
invariant-loop-index l =
    (text : List ℕ) (tokens : List Token) → AreFunctions (declared_at text tokens l.ast l.members) l.functions
    → Passed text tokens l.ast l.members l.functions (drop l.index l.members) l.index l.left
