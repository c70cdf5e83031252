-- Marks balance: a test of a grammar. Each node that an alternative begins ends in it, behind a terminal of its own, and nodes stand in
-- the order of their terminals. What is known of the trees is followed through each alternative, with what is claimed of each rule.
use Rattle.std.specs.Prelude.{◌≡◌, ℕ, zero, suc, ◌+◌, ◌-◌, Bool, true, false, ◌&&◌, ◌||◌, not, ◌==◌, nat_lt, nat_le, List, [], ◌∷◌, Option, Some, None, slice_get, option_and_then, if◌then◌else◌}
use Rattle.std.specs.List.{list_all}
use Rattle.zw_grammar.specs.Plain.{PlainAlternative, PlainRule}
use Rattle.zw_grammar.specs.declared.grammar.Mark.{Mark}
use Rattle.zw_grammar.specs.declared.grammar.Mark.TheVariants.{Open, Wrap, Close, Leaf, Word, Enter, Leave}
use Rattle.zw_grammar.specs.declared.grammar.Symbol.{Symbol}
use Rattle.zw_grammar.specs.declared.grammar.Symbol.TheVariants.{Take, Read, Build}

-- what is known before a terminal, whatever the text: whether a node of this terminal has ended already; whether the innermost open
-- node has a terminal; how many of the last terminals belong to none of the trees that have ended in it; how many trees at least have;
-- and how many in each open node around it, from the inside out
pub record Outline : Type 0 where
  pub ahead : Bool
  pub some : Bool
  pub free : ℕ
  pub many : ℕ
  pub outer : List ℕ

-- what a rule does: it takes so many terminals and builds nothing, or it wants so many free terminals and trees before it, and turns
-- these into so many trees, with a terminal or maybe without one
pub data Course : Type 0 where
  takes : ℕ → Course
  builds : (free : ℕ) (trees : ℕ) (some : Bool) (more : ℕ) → Course

-- a terminal is taken
abbrev pub with_terminal : Outline → Outline
with_terminal o = if o.ahead
    then record { ahead = false; some = o.some; free = o.free; many = o.many; outer = o.outer }
    else record { ahead = false; some = true; free = suc o.free; many = o.many; outer = o.outer }

-- the outline, if this holds
abbrev pub provided : Bool → Outline → Option Outline
provided holds o = if holds then Some o else None

-- a node begins with some free terminals
abbrev pub with_node : ℕ → Outline → Option Outline
with_node back o = provided (nat_le back o.free) (record { ahead = false; some = nat_lt 0 back; free = back; many = 0; outer = o.many ∷ o.outer })

-- a node begins with some trees
abbrev pub with_wrapped : ℕ → Outline → Option Outline
with_wrapped n o = provided (nat_lt 0 n && nat_le n o.many) (record { ahead = false; some = true; free = o.free; many = n; outer = (o.many - n) ∷ o.outer })

-- the innermost open node ends
abbrev pub without_node : List ℕ → Bool → Option Outline
without_node [] some = None
without_node (n ∷ outer) some = provided some (record { ahead = false; some = true; free = 0; many = suc n; outer = outer })

-- a node of one terminal
abbrev pub with_leaf : ℕ → Outline → Option Outline
with_leaf zero o = Some (record { ahead = true; some = true; free = 0; many = suc o.many; outer = o.outer })
with_leaf (suc back) o = provided (nat_lt back o.free) (record { ahead = false; some = true; free = back; many = suc o.many; outer = o.outer })

abbrev pub with_mark : Mark → Outline → Option Outline
with_mark (Open kind back) o = with_node back o
with_mark (Wrap kind n) o = with_wrapped n o
with_mark Close o = without_node o.outer o.some
with_mark (Leaf kind back) o = with_leaf back o
with_mark (Word terminal kind other back) o = with_leaf back o
with_mark (Enter back) o = Some o
with_mark Leave o = Some o

abbrev pub with_rule : Course → Outline → Option Outline
with_rule (takes n) o = Some (record { ahead = false; some = o.some || nat_lt 0 n; free = o.free + n; many = o.many; outer = o.outer })
with_rule (builds free trees some more) o =
    provided (nat_le free o.free && nat_le trees o.many) (record { ahead = false; some = o.some || some; free = 0; many = (o.many - trees) + more; outer = o.outer })

-- what is known behind these symbols; no mark and no rule stands between a node of the next terminal and that terminal
abbrev pub outline : List Course → List Symbol → Outline → Option Outline
outline courses [] o = Some o
outline courses (Take terminal ∷ rest) o = outline courses rest (with_terminal o)
outline courses (Build mark ∷ rest) o = if o.ahead then None else option_and_then (outline courses rest) (with_mark mark o)
outline courses (Read number ∷ rest) o = if o.ahead then None
    else option_and_then (outline courses rest) (option_and_then (λ course. with_rule course o) (slice_get courses number))

abbrev pub is_empty : List ℕ → Bool
is_empty [] = true
is_empty (n ∷ outer) = false

-- no node is open, and the innermost one has a terminal and so many trees, if that is asked
abbrev pub is_closed : Bool → ℕ → Option Outline → Bool
is_closed some trees None = false
is_closed some trees (Some o) = (not o.ahead && is_empty o.outer) && ((not some || o.some) && nat_le trees o.many)

-- before a rule, with nothing known but this
abbrev pub outset : ℕ → ℕ → Outline
outset free many = record { ahead = false; some = false; free = free; many = many; outer = [] }

-- these symbols take so many terminals and do nothing else
abbrev pub only_takes : ℕ → List Symbol → Bool
only_takes n [] = n == 0
only_takes n (Take terminal ∷ rest) = nat_lt 0 n && only_takes (n - 1) rest
only_takes n (Build mark ∷ rest) = false
only_takes n (Read number ∷ rest) = false

-- the alternative does what is claimed
abbrev pub keeps_course : List Course → Course → PlainAlternative → Bool
keeps_course courses (takes n) alternative = only_takes n alternative.symbols
keeps_course courses (builds free trees some more) alternative = is_closed some more (outline courses alternative.symbols (outset free trees))

-- each rule does what is claimed of it
abbrev pub all_balance : List Course → List PlainRule → List Course → Bool
all_balance courses [] [] = true
all_balance courses [] (c ∷ cs) = false
all_balance courses (r ∷ rs) [] = false
all_balance courses (r ∷ rs) (c ∷ cs) = list_all (keeps_course courses c) r.alternatives && all_balance courses rs cs

-- the marks of the rules balance, and those of these symbols
pub record Balances (rules : List PlainRule) (start : List Symbol) : Type 0 where
  pub courses : List Course
  pub all : all_balance courses rules courses ≡ true
  pub whole : is_closed false 0 (outline courses start (outset 0 0)) ≡ true
