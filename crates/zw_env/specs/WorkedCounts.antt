-- Counts worked out by hand.
use Rattle.std.specs.Prelude.{◌≡◌, pos, negsuc, Ok, Err}
use Rattle.zw_base.specs.declared.stop.StopKind.TheVariants.{Error, Limit}
use Rattle.zw_env.specs.Counting.{none_counted, begun, resumed, raised, visited, walked, branched}

pub record WorkedCounts : Type 0 where
  -- the thousandth branch is within the quota, and one more isn't
  pub last_branch : branched (record none_counted { used = 999 }) ≡ Ok (record none_counted { used = 1000 })
  pub past_quota : branched (record none_counted { used = 1000 }) ≡ Err (Error 35)
  -- a quota is raised, never lowered, and to ten million at most
  pub raised_quota : (raised none_counted (pos 1001)).quota ≡ 1001
  pub lower_quota : (raised none_counted (pos 10)).quota ≡ 1000
  pub negative_quota : (raised none_counted (negsuc 9)).quota ≡ 1000
  pub greatest_quota : (raised none_counted (pos 20000000)).quota ≡ 10000000
  -- a unit has a quota of its own; what was visited goes on
  pub inside : begun (record { quota = 2000; used = 7; visits = 5; nodes = 6 }) ≡ record { quota = 1000; used = 0; visits = 5; nodes = 6 }
  pub outside :
      resumed (record { quota = 2000; used = 7; visits = 5; nodes = 6 }) (record { quota = 1000; used = 1; visits = 8; nodes = 6 })
      ≡ record { quota = 2000; used = 7; visits = 8; nodes = 6 }
  -- the last visit, and the last node, and one more of each
  pub last_visit : visited (record none_counted { visits = 99999999 }) ≡ Ok (record none_counted { visits = 100000000 })
  pub past_visits : visited (record none_counted { visits = 100000000 }) ≡ Err (Limit 6)
  pub last_node : walked (record none_counted { nodes = 1999999 }) ≡ Ok (record none_counted { nodes = 2000000 })
  pub past_nodes : walked (record none_counted { nodes = 2000000 }) ≡ Err (Limit 5)
