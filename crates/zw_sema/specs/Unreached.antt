-- What a file means doesn't depend on declarations that nothing needs.
use Rattle.std.specs.Prelude.{◌≡◌, ◌≢◌, ℕ, true, false, List}
use Rattle.zw_session.specs.Sessions.{Call}
use Rattle.zw_tree.specs.Trees.{Forest}
use Rattle.zw_tree.specs.declared.ast.Entry.{Entry}
use Rattle.zw_env.specs.Children.{tree_at, kind_of, declared_name, members, is_among}
use Rattle.zw_sema.specs.Walk.{is_declaration}
use Rattle.zw_sema.specs.Files.{NeedsMore, Waits, turn_of, analysed, file_session, is_reached}

-- Two files that differ in one declaration of the container alone, which has the same name in both: each other member has the same number
-- and the same tree, so that all other nodes keep their places. Neither declaration is analysed without being mentioned.
pub record IsAnother (forest other : Forest Entry) (n : ℕ) : Type 0 where
  pub numbers : members other ≡ members forest
  pub others : (m : ℕ) → is_among (members forest) m ≡ true → m ≢ n → tree_at other m ≡ tree_at forest m
  pub name : declared_name (tree_at other n) ≡ declared_name (tree_at forest n)
  pub declares : is_declaration (kind_of (tree_at forest n)) ≡ true
  pub declares_too : is_declaration (kind_of (tree_at other n)) ≡ true
  pub waits : turn_of (tree_at forest n) ≡ Waits
  pub waits_too : turn_of (tree_at other n) ≡ Waits

-- Where a declaration wasn't reached, the analysis of the file with another in its place is the same: the first stop and its place, or the
-- exports.
abbrev pub UnreachedIsFree : Type 0
UnreachedIsFree =
    (forest other : Forest Entry) (n bound : ℕ) → IsAnother forest other n →
    analysed bound forest ≢ NeedsMore → is_reached n (analysed bound forest) ≡ false → analysed bound other ≡ analysed bound forest

-- So are its sessions.
abbrev pub UnreachedIsSilent : Type 0
UnreachedIsSilent =
    (forest other : Forest Entry) (n bound : ℕ) (calls : List Call) (replies : List ℕ) → IsAnother forest other n →
    analysed bound forest ≢ NeedsMore → is_reached n (analysed bound forest) ≡ false →
    file_session bound other calls replies ≡ file_session bound forest calls replies
