-- Tables: tables from numbers to numbers, which share their parts. Each is known by its head, the number of its first fork from 1, or 0
-- where it is empty.
use Rattle.std.specs.Prelude.{◌≡◌, ℕ, zero, suc, ◌+◌, List, Some, slice_get, unwrap_or}
use Rattle.zw_scope_sites.specs.declared.tables.Fork.{Fork}
use Rattle.zw_scope_sites.specs.declared.tables.Way.{Way}
use Rattle.zw_scope_sites.specs.declared.tables.Way.TheVariants.{Here, Odd, Even}

-- a number leads to a value in the table with this head
pub data Leads (forks : List Fork) : ℕ → ℕ → ℕ → Type 0 where
  to_none : (key : ℕ) → Leads forks 0 key 0
  to_here : (n : ℕ) (f : Fork) → slice_get forks n ≡ Some f → Leads forks (suc n) 0 f.here
  to_odd : (n : ℕ) (f : Fork) (key k v : ℕ) → slice_get forks n ≡ Some f → key ≡ k + k + 1 → Leads forks f.odd k v → Leads forks (suc n) key v
  to_even : (n : ℕ) (f : Fork) (key k v : ℕ) → slice_get forks n ≡ Some f → key ≡ k + k + 2 → Leads forks f.even k v → Leads forks (suc n) key v

abbrev pub IsWay : ℕ → Way → Type 0
IsWay key Here = key ≡ 0
IsWay key (Odd k) = key ≡ k + k + 1
IsWay key (Even k) = key ≡ k + k + 2

-- the first fork of a table
abbrev pub no_fork : Fork
no_fork = record { here = 0; odd = 0; even = 0 }

abbrev pub fork_at : List Fork → ℕ → Fork
fork_at forks zero = no_fork
fork_at forks (suc n) = unwrap_or (slice_get forks n) no_fork

-- each table is still there
abbrev pub Reaches : List Fork → List Fork → Type 0
Reaches old new = (head key v : ℕ) → Leads old head key v → Leads new head key v

-- a table leads from a number to this value, and else where another table leads, which is still there
pub record IsPut (old new : List Fork) (head key value result : ℕ) : Type 0 where
  pub reaches : Reaches old new
  pub there : Leads new result key value
  pub others : (k v : ℕ) → (k ≡ key → ⊥) → Leads old head k v → Leads new result k v
