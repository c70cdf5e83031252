-- A declaration that nothing needs may be any other one of its name, however many nodes that has: the numbers of the nodes behind it change,
-- and neither the first stop nor a session does.
use Rattle.std.specs.Prelude.{◌≡◌, ◌≢◌, ℕ, suc, true, false, List, [], ◌∷◌, slice_get, Option, Some, None}
use Rattle.zw_base.specs.declared.stop.StopKind.{StopKind}
use Rattle.zw_base.specs.declared.stop.Place.{Place}
use Rattle.zw_session.specs.Sessions.{Call}
use Rattle.zw_tree.specs.Trees.{Forest, none, tree, count, beside}
use Rattle.zw_tree.specs.declared.ast.Entry.{Entry}
use Rattle.zw_types.specs.TypeTrees.{TypeTree}
use Rattle.zw_typed.specs.declared.program.Program.{Program}
use Rattle.zw_env.specs.Children.{kind_of, declared_name, members, is_among}
use Rattle.zw_sema.specs.Walk.{is_declaration}
use Rattle.zw_sema.specs.Files.{Instance, Analysis, Refused, NeedsMore, Waits, turn_of, instances_in, analysed, file_session, is_reached}
use Rattle.zw_sema.specs.ProgramsOf.{IsProgramOf}

-- two nodes are of one kind, stand at one place, and have one name and one value; the numbers of their tokens are free
pub record SaysTheSame (entry other : Entry) : Type 0 where
  pub kind : other.node.kind ≡ entry.node.kind
  pub place : other.node.place ≡ entry.node.place
  pub name : other.name ≡ entry.name
  pub number : other.number ≡ entry.number

-- trees of one shape, each of whose nodes says the same in both
abbrev pub SayTheSame : Forest Entry → Forest Entry → Type 0
SayTheSame none none = Unit {0}
SayTheSame (tree root inside behind) (tree root' inside' behind') = SaysTheSame root root' × (SayTheSame inside inside' × SayTheSame behind behind')
SayTheSame _ _ = ⊥

-- A file with one of its declarations held apart: the root, the members in front, the declaration with what is below it, and the members behind.
pub record Parted : Type 0 where
  pub root : Entry
  pub front : Forest Entry
  pub declaration : Entry
  pub inside : Forest Entry
  pub behind : Forest Entry

abbrev pub declaration_in : Parted → Forest Entry
declaration_in file = tree file.declaration file.inside none

abbrev pub whole : Parted → Forest Entry
whole file = tree file.root (beside file.front (beside (declaration_in file) file.behind)) none

-- the number of the declaration's node: the root and the nodes in front come first
abbrev pub number_in : Parted → ℕ
number_in file = suc (count file.front)

-- Two files that differ in this declaration alone, which has the same name in both. All other nodes keep their places, and what they say.
-- Neither declaration is analysed without being mentioned.
pub record IsExchanged (file other : Parted) : Type 0 where
  pub front : SayTheSame file.front other.front
  pub behind : SayTheSame file.behind other.behind
  pub name : declared_name (declaration_in other) ≡ declared_name (declaration_in file)
  pub declares : is_declaration (kind_of (declaration_in file)) ≡ true
  pub declares_too : is_declaration (kind_of (declaration_in other)) ≡ true
  pub waits : turn_of (declaration_in file) ≡ Waits
  pub waits_too : turn_of (declaration_in other) ≡ Waits

-- ---- what is told

-- the first stop and its place, where there is one
abbrev pub first_stop : Analysis → Option (StopKind × Place)
first_stop (Refused why place state) = Some (why, place)
first_stop _ = None

-- where an export stands, and what can be called
pub record Signature : Type 0 where
  pub place : Place
  pub name : List ℕ
  pub params : List TypeTree
  pub result : TypeTree

abbrev pub signatures : List Instance → List Signature
signatures [] = []
signatures (i ∷ instances) =
    record { place = i.place; name = i.function.name; params = i.function.params; result = i.function.result } ∷ signatures instances

-- both were carried to an end: to the same first stop at the same place, or to the same exports
pub record TellTheSame (analysis other : Analysis) : Type 0 where
  pub enough : other ≢ NeedsMore
  pub stop : first_stop other ≡ first_stop analysis
  pub exports : signatures (instances_in other) ≡ signatures (instances_in analysis)

-- ---- the laws

-- Each member of a file can be held apart so.
abbrev pub MembersPart : Type 0
MembersPart =
    (root : Entry) (inside : Forest Entry) (n : ℕ) → is_among (members (tree root inside none)) n ≡ true →
    (file : Parted) × ((whole file ≡ tree root inside none) × (number_in file ≡ n))

-- Where a declaration wasn't reached, the file with another in its place has the same first stop, or the same exports.
abbrev pub UnreachedMayGrow : Type 0
UnreachedMayGrow =
    (file other : Parted) (bound : ℕ) → IsExchanged file other →
    analysed bound (whole file) ≢ NeedsMore → is_reached (number_in file) (analysed bound (whole file)) ≡ false →
    TellTheSame (analysed bound (whole file)) (analysed bound (whole other))

-- And it has the same sessions: host calls, results and causes.
abbrev pub UnreachedGrowsSilently : Type 0
UnreachedGrowsSilently =
    (file other : Parted) (bound : ℕ) (calls : List Call) (replies : List ℕ) → IsExchanged file other →
    analysed bound (whole file) ≢ NeedsMore → is_reached (number_in file) (analysed bound (whole file)) ≡ false →
    file_session bound (whole other) calls replies ≡ file_session bound (whole file) calls replies

-- What is a program of the file is one of the other.
abbrev pub UnreachedKeepsPrograms : Type 0
UnreachedKeepsPrograms =
    (file other : Parted) (bound : ℕ) (p : Program) → IsExchanged file other → is_reached (number_in file) (analysed bound (whole file)) ≡ false →
    IsProgramOf (analysed bound (whole file)) p → IsProgramOf (analysed bound (whole other)) p

-- In both the same members were reached, in the order of the text: so one declaration may be exchanged after the other.
abbrev pub UnreachedKeepsReached : Type 0
UnreachedKeepsReached =
    (file other : Parted) (bound : ℕ) → IsExchanged file other →
    analysed bound (whole file) ≢ NeedsMore → is_reached (number_in file) (analysed bound (whole file)) ≡ false →
    (k n m : ℕ) → slice_get (members (whole file)) k ≡ Some n → slice_get (members (whole other)) k ≡ Some m →
    is_reached m (analysed bound (whole other)) ≡ is_reached n (analysed bound (whole file))
