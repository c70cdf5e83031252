-- Which files are found, and in which order, worked out by hand on the trees of small files.
use Rattle.std.specs.Prelude.{◌≡◌, ℕ, zero, suc, List, [], ◌∷◌, ◌++◌, ◌+◌, ◌-◌, codes, Option, Some, None, Result, Ok, Err}
use Rattle.zw_base.specs.declared.stop.Place.{Place}
use Rattle.zw_base.specs.declared.stop.Stop.{Stop}
use Rattle.zw_tree.specs.Trees.{Forest, none, tree, leaf}
use Rattle.zw_tree.specs.declared.ast.Entry.{Entry}
use Rattle.zw_tree.specs.declared.kind.NodeKind.{NodeKind}
use Rattle.zw_tree.specs.declared.kind.NodeKind.TheVariants.{Root, Builtin, Text}
use Rattle.zw_files.specs.Discovery.{Paths, and_then, first_paths, name_path}
use Rattle.zw_files.specs.Imports.{imports}
use Rattle.zw_files.specs.declared.stops.TheConstants.{FILES}

abbrev pub at : ℕ → ℕ → Place
at file column = record { file = file; line = 1; column = column }

abbrev pub entry : NodeKind → Place → List ℕ → Entry
entry kind place name = record { node = record { kind = kind; place = place; first = 0; last = 0 }; name = name; number = None }

-- `@name("text")` whose text stands in this column, and what is behind
abbrev pub builtin : List ℕ → ℕ → ℕ → List ℕ → Forest Entry → Forest Entry
builtin name file column text behind = tree (entry Builtin (at file (column - 8)) name) (leaf (entry Text (at file column) text)) behind

-- imports of paths, each in this column, one after another
abbrev pub on_paths : Result (Paths × List (ℕ × ℕ)) Stop → ℕ → ℕ → List (List ℕ) → Result (Paths × List (ℕ × ℕ)) Stop
on_paths f file column [] = f
on_paths (Err stop) file column (path ∷ paths) = Err stop
on_paths (Ok f) file column (path ∷ paths) =
    on_paths (and_then (λ named. Ok (named.0, f.1 ++ (column, named.1) ∷ [])) (name_path f.0 (at file column) path)) file (column + 10) paths

abbrev pub root : List ℕ
root = codes "a.zig"

-- what the root's imports of these paths find
abbrev pub of_root : List (List ℕ) → Result (Paths × List (ℕ × ℕ)) Stop
of_root paths = on_paths (Ok (first_paths root, [])) 0 0 paths

-- what the next file's imports of these paths find
abbrev pub of_next : ℕ → Result (Paths × List (ℕ × ℕ)) Stop → List (List ℕ) → Result (Paths × List (ℕ × ℕ)) Stop
of_next file before paths = and_then (λ f. on_paths (Ok (f.0, [])) file 0 paths) before

-- these paths, first named by files at columns, and the numbers that the last imports name
abbrev pub finds : List (List ℕ) → List Place → List (ℕ × ℕ) → Result (Paths × List (ℕ × ℕ)) Stop
finds names places numbers = Ok (record { names = names; places = places }, numbers)

-- as many paths as this, none of them the root
abbrev pub many : ℕ → List (List ℕ)
many zero = []
many (suc n) = (n ∷ []) ∷ many n

abbrev pub full : Paths
full = record { names = root ∷ many 1023; places = [] }

abbrev pub is_stop : Result (Paths × ℕ) Stop → Option Stop
is_stop (Ok named) = None
is_stop (Err stop) = Some stop

abbrev pub number : Result (Paths × ℕ) Stop → Option ℕ
number (Ok named) = Some named.1
number (Err stop) = None

pub record WorkedDiscovery : Type 0 where
  -- `@import("b.zig")`, `@import("c.zig")` and something else
  pub imports_in_order :
      imports (tree (entry Root (at 0 1) []) (builtin (codes "import") 0 9 (codes "b.zig") (builtin (codes "import") 0 29 (codes "c.zig") (leaf (entry Text (at 0 40) [])))) none)
      ≡ record { node = 1; literal = codes "b.zig"; place = at 0 9 } ∷ record { node = 3; literal = codes "c.zig"; place = at 0 29 } ∷ []
  -- another builtin imports nothing
  pub no_import : imports (tree (entry Root (at 0 1) []) (builtin (codes "compileError") 0 9 (codes "b.zig") none) none) ≡ []
  -- a file without imports
  pub alone : of_root [] ≡ finds (root ∷ []) (at 0 1 ∷ []) []
  -- a file that names itself
  pub itself : of_root (root ∷ []) ≡ finds (root ∷ []) (at 0 1 ∷ []) ((0, 0) ∷ [])
  pub two_files : of_root (codes "b" ∷ codes "c" ∷ []) ≡ finds (root ∷ codes "b" ∷ codes "c" ∷ []) (at 0 1 ∷ at 0 0 ∷ at 0 10 ∷ []) ((0, 1) ∷ (10, 2) ∷ [])
  -- a file that is named twice is one, and its place is the first
  pub one_twice : of_root (codes "b" ∷ codes "b" ∷ []) ≡ finds (root ∷ codes "b" ∷ []) (at 0 1 ∷ at 0 0 ∷ []) ((0, 1) ∷ (10, 1) ∷ [])
  -- two files that name each other
  pub cycle : of_next 1 (of_root (codes "b" ∷ [])) (root ∷ []) ≡ finds (root ∷ codes "b" ∷ []) (at 0 1 ∷ at 0 0 ∷ []) ((0, 0) ∷ [])
  -- breadth first: `c`, which the root names behind `b`, comes before `d`, which `b` names
  pub in_breadth :
      of_next 1 (of_root (codes "b" ∷ codes "c" ∷ [])) (codes "d" ∷ codes "c" ∷ [])
      ≡ finds (root ∷ codes "b" ∷ codes "c" ∷ codes "d" ∷ []) (at 0 1 ∷ at 0 0 ∷ at 0 10 ∷ at 1 0 ∷ []) ((0, 3) ∷ (10, 2) ∷ [])
  -- a file more than there may be, and one that is there
  pub one_too_many : is_stop (name_path full (at 7 3) (codes "no")) ≡ Some (record { kind = FILES; place = at 7 3 })
  pub last_of_all : number (name_path full (at 7 3) (0 ∷ [])) ≡ Some 1023
