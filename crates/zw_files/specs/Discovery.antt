-- Discovery: the files of a tree in the order in which they are found, and its first stop. This project's own.
use Rattle.std.specs.Prelude.{◌≡◌, ℕ, ◌+◌, ◌≤◌, nat_lt, Bool, nat_eq, false, true, MatchBool, List, [], ◌∷◌, ◌++◌, codes, length, sum, Some, None, Option, Result, Ok, Err, slice_get, slice_index_or, if◌then◌else◌}
use Rattle.std.specs.List.{ends_with, list_any, position_or_len}
use Rattle.std.specs.Str.{bytes_eq}
use Rattle.zw_base.specs.declared.files.Answer.{Answer}
use Rattle.zw_base.specs.declared.files.Answer.TheVariants.{Bytes, Absent, TooLong}
use Rattle.zw_base.specs.declared.files.Handed.{Handed}
use Rattle.zw_base.specs.declared.stop.Place.{Place}
use Rattle.zw_base.specs.declared.stop.Stop.{Stop}
use Rattle.zw_base.specs.declared.stop.StopKind.{StopKind}
use Rattle.zw_parse.specs.Syntax.{IsTreeOf, IsSyntaxStop}
use Rattle.zw_scope.specs.NameRules.{AreNamed, IsNameStop}
use Rattle.zw_token.specs.Tokens.{Tokens, TextStop, stop_at}
use Rattle.zw_token.specs.declared.token.TextError.{TextError}
use Rattle.zw_token.specs.declared.token.Token.{Token}
use Rattle.zw_tree.specs.Trees.{Forest}
use Rattle.zw_tree.specs.declared.ast.Entry.{Entry}
use Rattle.zw_files.specs.Imports.{Import, imports}
use Rattle.zw_files.specs.Paths.{resolved}
use Rattle.zw_files.specs.declared.stops.TheConstants.{FILE_ABSENT, FILE_LENGTH, FILE_LIMIT, FILES, FILES_LIMIT, IMPORT_PATH, TREE_LENGTH, TREE_LIMIT}

-- the paths of the files that were found, in order, with the place that first named each
pub record Paths : Type 0 where
  pub names : List (List ℕ)
  pub places : List Place

-- What has been found: paths; and of the files whose turn is past, which are the first ones, the text, the tree, the length, and the
-- imports, each by its node and by the number of the file that it names.
pub record Found : Type 0 where
  pub paths : Paths
  pub texts : List (List ℕ)
  pub trees : List (Forest Entry)
  pub sizes : List ℕ
  pub imports : List (List (ℕ × ℕ))

-- the text of the root, which is the first file
abbrev pub root_text : Found → List ℕ
root_text found = slice_index_or found.texts 0 []

-- the first byte of the root
abbrev pub root_place : Place
root_place = record { file = 0; line = 1; column = 1 }

abbrev pub stop : StopKind → Place → Stop
stop kind place = record { kind = kind; place = place }

-- at first there is the root
abbrev pub first_paths : List ℕ → Paths
first_paths root = record { names = root ∷ []; places = root_place ∷ [] }

abbrev pub start : List ℕ → Found
start root = record { paths = first_paths root; texts = []; trees = []; sizes = []; imports = [] }

-- ---- the imports of a file

-- the path that this place names goes behind the others
abbrev pub with_path : Paths → Place → List ℕ → Paths
with_path paths place path = record { names = paths.names ++ path ∷ []; places = paths.places ++ place ∷ [] }

-- the number of the file at a path that a place names: a new file comes last, and there are no more than there may be (limit 2)
abbrev pub name_path : Paths → Place → List ℕ → Result (Paths × ℕ) Stop
name_path paths place path =
    if list_any (bytes_eq path) paths.names
    then Ok (paths, position_or_len (bytes_eq path) paths.names)
    else (if nat_lt (length paths.names) FILES_LIMIT then Ok (with_path paths place path, length paths.names) else Err (stop FILES place))

-- a literal that names no file is error 2
abbrev pub name_resolved : Paths → Place → Option (List ℕ) → Result (Paths × ℕ) Stop
name_resolved paths place None = Err (stop IMPORT_PATH place)
name_resolved paths place (Some path) = name_path paths place path

-- the number of the file that a literal names, in the file at this path
abbrev pub follow : List ℕ → List ℕ → Paths → Place → List ℕ → Result (Paths × ℕ) Stop
follow root path paths place literal = name_resolved paths place (resolved root path literal)

abbrev pub and_then : {A B E : Type 0} → (A → Result B E) → Result A E → Result B E
and_then f (Ok x) = f x
and_then f (Err e) = Err e

-- the imports of a file, in the order of the text, behind those that were followed
abbrev pub follow_all : List ℕ → List ℕ → Paths → List (ℕ × ℕ) → List Import → Result (Paths × List (ℕ × ℕ)) Stop
follow_all root path paths numbers [] = Ok (paths, numbers)
follow_all root path paths numbers (i ∷ others) =
    and_then (λ named. follow_all root path named.0 (numbers ++ (i.node, named.1) ∷ []) others) (follow root path paths i.place i.literal)

-- ---- what a file's own text says

-- the text has tokens and this tree, which keeps the rules on names, labels and jumps
pub record HasTree (number : ℕ) (text : List ℕ) (file : Forest Entry) : Type 0 where
  pub tokens : List Token
  pub has_tokens : Tokens text tokens
  pub has_tree : IsTreeOf number text tokens file
  pub keeps_names : AreNamed file

-- a text that isn't read has no tokens (errors 3, 4, 5 and 7), or tokens and no tree (error 6, limit 3), or a tree with a first
-- violation of the rules on names, labels and jumps (errors 8 to 13)
pub data IsStopOfText (number : ℕ) (text : List ℕ) (stop : Stop) : Type 0 where
  no_tokens : (at : ℕ) (error : TextError) → TextStop text at error → stop ≡ stop_at number text at error → IsStopOfText number text stop
  no_tree : (tokens : List Token) → Tokens text tokens → IsSyntaxStop number text tokens stop → IsStopOfText number text stop
  breaks_names : (tokens : List Token) (file : Forest Entry) → Tokens text tokens → IsTreeOf number text tokens file → IsNameStop file stop → IsStopOfText number text stop

-- how a text reads
abbrev pub Reads : ℕ → List ℕ → Result (Forest Entry) Stop → Type 0
Reads number text (Ok file) = HasTree number text file
Reads number text (Err stop) = IsStopOfText number text stop

-- ---- the turn of a file

-- how the answer to the load of a file, with the limit of files, reads: error 1 and limits 1 and 14 stand at the place that first named the file
abbrev pub ReadsAnswer : ℕ → Place → ℕ → Answer → Result (Forest Entry) Stop → Type 0
ReadsAnswer number place before Absent read = read ≡ Err (stop FILE_ABSENT place)
ReadsAnswer number place before (TooLong limit) read = (limit ≡ FILE_LIMIT) × (read ≡ Err (stop FILE_LENGTH place))
ReadsAnswer number place before (Bytes text) read =
    (length text ≤ FILE_LIMIT) × MatchBool (nat_lt TREE_LIMIT (before + length text)) (read ≡ Err (stop TREE_LENGTH place)) (Reads number text read)

abbrev pub text_of : Answer → List ℕ
text_of Absent = []
text_of (TooLong limit) = []
text_of (Bytes text) = text

-- a stop, with the path of the file in which it stands
abbrev pub Located : Type 0
Located = Stop × List ℕ

abbrev pub located : List (List ℕ) → Stop → Located
located paths stop = (stop, slice_index_or paths stop.place.file [])

-- a file's turn is past
abbrev pub joined : Found → List ℕ → Forest Entry → Paths × List (ℕ × ℕ) → Found
joined found text file followed = record {
  paths = followed.0;
  texts = found.texts ++ text ∷ [];
  trees = found.trees ++ file ∷ [];
  sizes = found.sizes ++ length text ∷ [];
  imports = found.imports ++ followed.1 ∷ [];
}

-- what comes of the imports of the file at this path
abbrev pub followed : Found → List ℕ → List ℕ → Forest Entry → Result (Paths × List (ℕ × ℕ)) Stop → Result Found Located
followed found path text file (Ok named) = Ok (joined found text file named)
followed found path text file (Err stop) = Err (stop, path)

-- what comes of the turn of the file at this path, by how it reads
abbrev pub taken : List ℕ → Found → List ℕ → List ℕ → Result (Forest Entry) Stop → Result Found Located
taken root found path text (Err stop) = Err (located found.paths.names stop)
taken root found path text (Ok file) = followed found path text file (follow_all root path found.paths [] (imports file))

-- the turn of the file at this path, which this place first named, with the answer to its load: the file's own stop, or the first of
-- its imports, or what is found behind it
pub record Takes (root : List ℕ) (found : Found) (path : List ℕ) (place : Place) (answer : Answer) (end : Result Found Located) : Type 0 where
  pub read : Result (Forest Entry) Stop
  pub reads : ReadsAnswer (length found.trees) place (sum found.sizes) answer read
  pub ends : end ≡ taken root found path (text_of answer) read

-- the next file whose turn it is
pub record IsNext (found : Found) (path : List ℕ) (place : Place) : Type 0 where
  pub name : slice_get found.paths.names (length found.trees) ≡ Some path
  pub named_at : slice_get found.paths.places (length found.trees) ≡ Some place

-- the turn of the next file, with what the tree handed over for it
pub record Turn (root : List ℕ) (found : Found) (handed : Handed) (end : Result Found Located) : Type 0 where
  pub place : Place
  pub is_next : IsNext found handed.path place
  pub takes : Takes root found handed.path place handed.answer end

-- the root's name ends with `.zig`
abbrev pub is_zig : List ℕ → Bool
is_zig root = ends_with nat_eq root (codes ".zig")

-- the turns of files, in the order in which these were found
pub data Leads (root : List ℕ) : Found → List Handed → Found → Type 0 where
  here : {found : Found} → Leads root found [] found
  next : {from found to : Found} {handed : Handed} {files : List Handed} → Turn root from handed (Ok found) → Leads root found files to → Leads root from (handed ∷ files) to

-- The discovery of the files below a root, with what the tree handed over: all of them, or the first stop. Nothing is loaded where
-- the root's name doesn't end with `.zig`.
pub data Discovery (root : List ℕ) : List Handed → Result Found Located → Type 0 where
  refused : is_zig root ≡ false → Discovery root [] (Err (stop IMPORT_PATH root_place, root))
  whole : {files : List Handed} {found : Found} → is_zig root ≡ true → Leads root (start root) files found
      → length found.paths.names ≤ length found.trees → Discovery root files (Ok found)
  stopped : {files : List Handed} {found : Found} {handed : Handed} {where_and_why : Located} → is_zig root ≡ true → Leads root (start root) files found
      → Turn root found handed (Err where_and_why) → Discovery root (files ++ handed ∷ []) (Err where_and_why)

-- the tree handed over the files that this map has: each answer is its path's
abbrev pub AreAnswers : (List ℕ → Answer) → List Handed → Type 0
AreAnswers answers [] = Unit {0}
AreAnswers answers (handed ∷ files) = (handed.answer ≡ answers handed.path) × AreAnswers answers files
