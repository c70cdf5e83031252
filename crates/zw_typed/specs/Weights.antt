-- How much room the frame of a function takes (this project's own): the sizes of what it has at run time, each rounded up to whole words
-- of 8 bytes. So far that is its parameters.
use Rattle.std.specs.Prelude.{ℕ, ◌+◌, ◌*◌, ◌/◌, List, [], ◌∷◌}
use Rattle.zw_types.specs.TypeTrees as tree
use Rattle.zw_types.specs.TypeTrees.{TypeTree}
use Rattle.zw_layout.specs.Sizes.{integer_layout}
use Rattle.zw_typed.specs.Exports.{Exported}

-- the size of a value; of other types there are none at run time yet
abbrev pub run_size : TypeTree → ℕ
run_size (tree.IntType signed bits size) = (integer_layout bits).size
run_size tree.BoolType = 1
run_size _ = 0

abbrev pub in_words : ℕ → ℕ
in_words size = 8 * ((size + 7) / 8)

abbrev pub weight_of : List TypeTree → ℕ
weight_of [] = 0
weight_of (ty ∷ types) = in_words (run_size ty) + weight_of types

abbrev pub frame_weight : Exported → ℕ
frame_weight f = weight_of f.params

-- a frame of more bytes passes limit 11
abbrev pub greatest_weight : ℕ
greatest_weight = 131072
