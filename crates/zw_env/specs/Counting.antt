-- What is counted while a program is analysed, and where that ends (this project's own; Zig Language Reference 0.13.0,
-- `@setEvalBranchQuota`).
use Rattle.std.specs.Prelude.{ℕ, ◌+◌, nat_lt, ℤ, pos, negsuc, if◌then◌else◌, min, max, Result, Ok, Err}
use Rattle.zw_base.specs.declared.stop.StopKind.{StopKind}
use Rattle.zw_base.specs.declared.stop.StopKind.TheVariants.{Error, Limit}

-- the branch quota of the unit and what is used of it; evaluations of nodes at compile time, and nodes walked for run time
pub record Counters : Type 0 where
  pub quota : ℕ
  pub used : ℕ
  pub visits : ℕ
  pub nodes : ℕ

abbrev pub none_counted : Counters
none_counted = record { quota = 1000; used = 0; visits = 0; nodes = 0 }

-- a unit begins with a quota of its own, and what is counted of visits and nodes goes on
abbrev pub begun : Counters → Counters
begun c = record c { quota = 1000; used = 0 }

-- the unit outside goes on with what it had used
abbrev pub resumed : Counters → Counters → Counters
resumed before c = record c { quota = before.quota; used = before.used }

-- a quota is never lowered, and is at most ten million
abbrev pub raised : Counters → ℤ → Counters
raised c (pos n) = record c { quota = max c.quota (min n 10000000) }
raised c (negsuc n) = c

abbrev pub visited : Counters → Result Counters StopKind
visited c = if nat_lt c.visits 100000000 then Ok (record c { visits = c.visits + 1 }) else Err (Limit 6)

abbrev pub walked : Counters → Result Counters StopKind
walked c = if nat_lt c.nodes 2000000 then Ok (record c { nodes = c.nodes + 1 }) else Err (Limit 5)

abbrev pub branched : Counters → Result Counters StopKind
branched c = if nat_lt c.used c.quota then Ok (record c { used = c.used + 1 }) else Err (Error 35)
