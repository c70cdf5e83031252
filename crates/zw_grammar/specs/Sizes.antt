-- How many nodes a text has: a test of a grammar, by what is claimed of each rule.
use Rattle.std.specs.Prelude.{◌≡◌, ℕ, ◌+◌, Bool, true, false, ◌&&◌, nat_le, List, [], ◌∷◌, Option, Some, None, slice_get}
use Rattle.std.specs.List.{list_all}
use Rattle.zw_grammar.specs.Plain.{PlainAlternative, PlainRule}
use Rattle.zw_grammar.specs.declared.grammar.Mark.{Mark}
use Rattle.zw_grammar.specs.declared.grammar.Mark.TheVariants.{Open, Wrap, Close, Leaf, Word, Enter, Leave}
use Rattle.zw_grammar.specs.declared.grammar.Symbol.{Symbol}
use Rattle.zw_grammar.specs.declared.grammar.Symbol.TheVariants.{Take, Read, Build}

-- what is claimed of a rule, where some number of nodes is allowed for each terminal: its nodes are at most those that its terminals
-- allow, with some more or without some
pub record Excess : Type 0 where
  pub more : ℕ
  pub fewer : ℕ

-- how many nodes a mark begins
abbrev pub begun_by : Mark → ℕ
begun_by (Open kind back) = 1
begun_by (Wrap kind n) = 1
begun_by Close = 0
begun_by (Leaf kind back) = 1
begun_by (Word terminal kind other back) = 1
begun_by (Enter back) = 0
begun_by Leave = 0

abbrev pub more_at : Option Excess → ℕ
more_at None = 0
more_at (Some excess) = excess.more

abbrev pub fewer_at : Option Excess → ℕ
fewer_at None = 0
fewer_at (Some excess) = excess.fewer

-- the nodes that these symbols begin, and those that their rules may have more than their terminals allow
abbrev pub more_of : List Excess → List Symbol → ℕ
more_of excesses [] = 0
more_of excesses (Take terminal ∷ rest) = more_of excesses rest
more_of excesses (Build mark ∷ rest) = begun_by mark + more_of excesses rest
more_of excesses (Read number ∷ rest) = more_at (slice_get excesses number) + more_of excesses rest

-- the nodes that the terminals of these symbols allow, and those that their rules have fewer
abbrev pub fewer_of : ℕ → List Excess → List Symbol → ℕ
fewer_of each excesses [] = 0
fewer_of each excesses (Take terminal ∷ rest) = each + fewer_of each excesses rest
fewer_of each excesses (Build mark ∷ rest) = fewer_of each excesses rest
fewer_of each excesses (Read number ∷ rest) = fewer_at (slice_get excesses number) + fewer_of each excesses rest

-- the alternative has as few nodes as is claimed
abbrev pub keeps_excess : ℕ → List Excess → Excess → PlainAlternative → Bool
keeps_excess each excesses excess alternative =
    nat_le (more_of excesses alternative.symbols + excess.fewer) (excess.more + fewer_of each excesses alternative.symbols)

-- each rule does
abbrev pub all_small : ℕ → List Excess → List PlainRule → List Excess → Bool
all_small each excesses [] [] = true
all_small each excesses [] (e ∷ es) = false
all_small each excesses (r ∷ rs) [] = false
all_small each excesses (r ∷ rs) (e ∷ es) = list_all (keeps_excess each excesses e) r.alternatives && all_small each excesses rs es

-- what these symbols read has at most so many nodes for each terminal
pub record AreSmall (rules : List PlainRule) (start : List Symbol) (each : ℕ) : Type 0 where
  pub excesses : List Excess
  pub all : all_small each excesses rules excesses ≡ true
  pub whole : nat_le (more_of excesses start) (fewer_of each excesses start) ≡ true
