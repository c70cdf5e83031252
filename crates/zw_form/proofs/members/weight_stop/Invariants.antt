use Rattle.std.proofs.Common.{ℕ, List, [], All, drop}
use Rattle.zw_token.specs.declared.token.Token.{Token}
use Rattle.zw_form.specs.Listed.{AreFunctions, declared_at, members_at}
use Rattle.zw_form.specs.Members.{Passes, functions_of}
use Rattle.zw_form.proofs.ListedLemmas.{Light}
use Rattle.zw_form.proofs.members.weight_stop.Given as goal

abbrev pub invariant-loop-index : goal.invariant-loop-index
invariant-loop-index l =
    (text : List ℕ) (tokens : List Token) → AreFunctions (declared_at text tokens l.ast l.members) l.functions
    → All (Passes (functions_of (members_at text tokens l.ast l.members 0 []))) (members_at text tokens l.ast l.members 0 [])
    → Light text tokens l.ast l.members l.functions (drop l.index l.members) l.index
