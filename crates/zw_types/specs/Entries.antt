-- The table that a list of forms and shapes stands for.
use Rattle.std.specs.Prelude.{ℕ, ◌+◌, ◌^◌, ◌<◌, ◌≤◌, List, [], ◌∷◌, map, length, All, Option, MatchOption}
use Rattle.std.specs.Option.{option_map}
use Rattle.zw_types.specs.declared.types.Entry.{Entry}
use Rattle.zw_types.specs.declared.type_form.TypeForm.{TypeForm}
use Rattle.zw_types.specs.TypeTrees.{TypeTree, ShapeTree}
use Rattle.zw_types.specs.Readings.{trees_from, shape_tree, types_in_form, types_in_shape}
use Rattle.zw_types.specs.Tables.{TypeTable, IsTable}

abbrev pub forms_of : List Entry → List TypeForm
forms_of entries = map (λ (entry : Entry). entry.form) entries

abbrev pub trees_of : List Entry → List TypeTree
trees_of entries = trees_from [] (forms_of entries)

abbrev pub shape_in : List TypeTree → Entry → Option ShapeTree
shape_in trees entry = option_map (shape_tree trees) entry.shape

abbrev pub table_of : List Entry → List (List ℕ) → TypeTable
table_of entries errors =
    record { trees = trees_of entries; shapes = map (shape_in (trees_of entries)) entries; errors = errors }

-- each form mentions types before its own alone, where n types come before the first form
abbrev pub MentionEarlier : ℕ → List TypeForm → Type 0
MentionEarlier n [] = Unit {0}
MentionEarlier n (f ∷ forms) = All (λ k. k < n) (types_in_form f) × MentionEarlier (n + 1) forms

-- the fields of an entry mention types below a number alone
abbrev pub HasKnownShape : ℕ → Entry → Type 0
HasKnownShape n entry = MatchOption entry.shape (Unit {0}) (λ shape. All (λ k. k < n) (types_in_shape shape))

-- Each form mentions earlier types alone, each shape those of the table, and there are no more entries than numbers.
pub record AreEntries (entries : List Entry) : Type 0 where
  pub earlier : MentionEarlier 0 (forms_of entries)
  pub known : All (HasKnownShape (length entries)) entries
  pub table : IsTable (table_of entries [])
  pub few : length entries ≤ 2 ^ 32
