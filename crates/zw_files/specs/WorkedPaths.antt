-- Where import literals lead, worked out by hand.
use Rattle.std.specs.Prelude.{◌≡◌, ℕ, true, false, List, [], ◌∷◌, codes, Option, Some, None}
use Rattle.zw_files.specs.Paths.{root_folder, folders_of, segments, walk, path_below, may_be_path}

-- the path that a literal leads to in the file at this path, where it may be one
abbrev pub leads : List ℕ → List ℕ → List ℕ → Option (List (List ℕ))
leads root path literal = walk (folders_of root path) (segments literal)

pub record WorkedPaths : Type 0 where
  pub no_folder : root_folder (codes "a.zig") ≡ []
  pub folder : root_folder (codes "s/d/a.zig") ≡ codes "s/d/"
  pub absolute : root_folder (codes "/a.zig") ≡ codes "/"
  pub folders : folders_of (codes "s/a.zig") (codes "s/d/e/b.zig") ≡ codes "d" ∷ codes "e" ∷ []
  -- the root lies in no folder below the root folder
  pub no_folders : folders_of (codes "s/a.zig") (codes "s/a.zig") ≡ []
  pub plain : leads (codes "a.zig") (codes "a.zig") (codes "b.zig") ≡ Some (codes "b.zig" ∷ [])
  pub here : leads (codes "a.zig") (codes "a.zig") (codes "./b.zig") ≡ Some (codes "b.zig" ∷ [])
  pub down_and_up : leads (codes "a.zig") (codes "a.zig") (codes "d/../b.zig") ≡ Some (codes "b.zig" ∷ [])
  pub down : leads (codes "a.zig") (codes "a.zig") (codes "d/./b.zig") ≡ Some (codes "d" ∷ codes "b.zig" ∷ [])
  pub empty_segment : leads (codes "a.zig") (codes "a.zig") (codes "d//b.zig") ≡ None
  pub from_the_top : leads (codes "a.zig") (codes "a.zig") (codes "/b.zig") ≡ None
  pub out : leads (codes "s/a.zig") (codes "s/a.zig") (codes "../b.zig") ≡ None
  -- out and back again is out
  pub out_and_back : leads (codes "s/a.zig") (codes "s/a.zig") (codes "../s/b.zig") ≡ None
  pub up_inside : leads (codes "s/a.zig") (codes "s/d/b.zig") (codes "../c.zig") ≡ Some (codes "c.zig" ∷ [])
  pub up_and_out : leads (codes "s/a.zig") (codes "s/d/b.zig") (codes "../../c.zig") ≡ None
  pub beside : leads (codes "s/a.zig") (codes "s/d/b.zig") (codes "c.zig") ≡ Some (codes "d" ∷ codes "c.zig" ∷ [])
  -- names of dots
  pub three_dots : leads (codes "a.zig") (codes "a.zig") (codes ".../..zig") ≡ Some (codes "..." ∷ codes "..zig" ∷ [])
  pub no_bytes : leads (codes "a.zig") (codes "a.zig") [] ≡ None
  pub written : path_below (codes "s/a.zig") (codes "d" ∷ codes "c.zig" ∷ []) ≡ codes "s/d/c.zig"
  pub written_at_top : path_below (codes "a.zig") (codes "b.zig" ∷ []) ≡ codes "b.zig"

pub record WorkedLiterals : Type 0 where
  pub plain : may_be_path (codes "b.zig") ≡ true
  pub dot_zig : may_be_path (codes ".zig") ≡ true
  pub no_ending : may_be_path (codes "b") ≡ false
  pub std : may_be_path (codes "std") ≡ false
  pub folder : may_be_path (codes "b.zig/") ≡ false
  -- `"b\x00.zig"`
  pub zero_byte : may_be_path (98 ∷ 0 ∷ codes ".zig") ≡ false
  -- `"\xff.zig"`, and the first byte alone of a character of two
  pub no_text : may_be_path (255 ∷ codes ".zig") ≡ false
  pub half_a_character : may_be_path (195 ∷ codes ".zig") ≡ false
  -- `"ä.zig"`
  pub two_bytes : may_be_path (195 ∷ 164 ∷ codes ".zig") ≡ true
