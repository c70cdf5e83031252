-- What gathering the files of a tree gives, by cases on its answer.
use Rattle.std.specs.Prelude.{◌≡◌, ◌⊎◌, ℕ, ◌<◌, ◌≤◌, Bool, true, false, List, [], ◌∷◌, ◌++◌, length, map, sum, Vec, Result, Ok, Err}
use Rattle.indexmap.specs.IndexMap.{IndexMap}
use Rattle.std.specs.declared.alloc.Global.{Global}
use Rattle.zw_base.specs.Outside.{IsAnswerAt}
use Rattle.zw_base.specs.declared.files.Answer.{Answer}
use Rattle.zw_base.specs.declared.files.Handed.{Handed}
use Rattle.zw_base.specs.declared.stop.Place.{Place}
use Rattle.zw_base.specs.declared.stop.Refused.{Refused}
use Rattle.zw_base.specs.declared.stop.Refused.TheVariants as refused
use Rattle.zw_base.specs.declared.stop.Stop.{Stop}
use Rattle.zw_files.specs.Discovery.{Paths, Found, Located, Takes, IsNext, Turn, Leads, Discovery, IsStopOfText, is_zig, start}
use Rattle.zw_files.specs.declared.err.GatherErr.{GatherErr}
use Rattle.zw_files.specs.declared.err.GatherErr.TheVariants as gather
use Rattle.zw_files.specs.declared.file_set.FileSet.{FileSet}
use Rattle.zw_files.specs.declared.turn.Gathering.{Gathering}
use Rattle.zw_files.specs.declared.stops.TheConstants.{FILE_LIMIT, FILES_LIMIT, TREE_LIMIT}

-- the paths of a map, in their order
abbrev pub names_in : {S : Type 0} → IndexMap (Vec ℕ Global) Place S → List (List ℕ)
names_in map_of = map (λ entry. entry.0.items) map_of.entries

abbrev pub paths_in : {S : Type 0} → IndexMap (Vec ℕ Global) Place S → Paths
paths_in map_of = record { names = names_in map_of; places = map (λ entry. entry.1) map_of.entries }

abbrev pub found_in : Gathering → Found
found_in g = record { paths = paths_in g.paths; texts = g.texts; trees = g.asts; sizes = g.sizes; imports = g.imports }

-- there are no more files than there may be, and no more bytes
pub record IsWithin (g : Gathering) : Type 0 where
  pub few : length (names_in g.paths) ≤ FILES_LIMIT
  pub counted : g.total ≡ sum g.sizes
  pub short : g.total ≤ TREE_LIMIT

-- what is named is answered, with the paths as they then are; or the stop; want of memory says nothing
abbrev pub Follows : {A : Type 0} → Result (Paths × A) Stop → Paths → Result A Refused → Type 0
Follows named paths (Ok x) = named ≡ Ok (paths, x)
Follows named paths (Err (refused.Stop stop)) = named ≡ Err stop
Follows named paths (Err refused.Oom) = Unit {0}

-- what there is to follow before and after a part of it comes to the same; or the part has a stop
abbrev pub LeadsOn : Result (Paths × List (ℕ × ℕ)) Stop → Result (Paths × List (ℕ × ℕ)) Stop → Result (Unit {0}) Refused → Type 0
LeadsOn before after (Ok x) = before ≡ after
LeadsOn before after (Err (refused.Stop stop)) = before ≡ Err stop
LeadsOn before after (Err refused.Oom) = Unit {0}

-- a text isn't read: it has a stop, or memory ran out
abbrev pub IsReadRefusal : ℕ → List ℕ → Refused → Type 0
IsReadRefusal number text (refused.Stop stop) = IsStopOfText number text stop
IsReadRefusal number text refused.Oom = Unit {0}

-- a stop with the path of its file is answered, or there was no memory for the path
abbrev pub IsLocated : Stop × List ℕ → GatherErr → Type 0
IsLocated located (gather.Stop stop word) = located ≡ (stop, word)
IsLocated located gather.Failed = ⊥
IsLocated located gather.Oom = Unit {0}

-- how the turn of a file with this answer stops
abbrev pub TurnStops : List ℕ → Found → List ℕ → Place → Answer → GatherErr → Type 0
TurnStops root found path place answer (gather.Stop stop word) = Takes root found path place answer (Err (stop, word))
TurnStops root found path place answer gather.Failed = ⊥
TurnStops root found path place answer gather.Oom = Unit {0}

-- the tree handed over one pair more
abbrev pub Adds : List Handed → List Handed → List ℕ → Answer → Type 0
Adds before after path answer = after ≡ before ++ record { path = path; answer = answer } ∷ []

-- the load and the turn of a file are past
abbrev pub FilePasses : List ℕ → Found → List ℕ → Place → List Handed → List Handed → Found → Type 0
FilePasses root found path place before after then = (answer : Answer) × Adds before after path answer × Takes root found path place answer (Ok then)

-- how the load and the turn of a file stop
abbrev pub FileStops : List ℕ → Found → List ℕ → Place → List Handed → List Handed → GatherErr → Type 0
FileStops root found path place before after (gather.Stop stop word) = (answer : Answer) × Adds before after path answer × Takes root found path place answer (Err (stop, word))
FileStops root found path place before after gather.Failed = after ≡ before
FileStops root found path place before after gather.Oom = (after ≡ before) ⊎ ((answer : Answer) × Adds before after path answer × IsAnswerAt FILE_LIMIT answer)

-- the tree failed at a load
abbrev pub failed : {T : Type 0} → Result T GatherErr → Bool
failed (Ok x) = false
failed (Err (gather.Stop stop word)) = false
failed (Err gather.Failed) = true
failed (Err gather.Oom) = false

-- the turns of files from found ones on, with what the tree handed over for them
pub record Passes (root : List ℕ) (from : Found) (before after : List Handed) (to : Found) : Type 0 where
  pub files : List Handed
  pub loads : after ≡ before ++ files
  pub leads : Leads root from files to

-- each found file had its turn
pub record PassesAll (root : List ℕ) (from : Found) (before after : List Handed) (to : Found) : Type 0 where
  pub passes : Passes root from before after to
  pub none_left : length to.paths.names ≤ length to.trees

-- the turn of the next file stops
pub record StopsAt (root : List ℕ) (from : Found) (before after : List Handed) (stop : Located) : Type 0 where
  pub files : List Handed
  pub found : Found
  pub handed : Handed
  pub loads : after ≡ before ++ (files ++ handed ∷ [])
  pub leads : Leads root from files found
  pub turn : Turn root found handed (Err stop)

-- the load of the next file fails
pub record FailsAt (root : List ℕ) (from : Found) (before after : List Handed) : Type 0 where
  pub found : Found
  pub passes : Passes root from before after found
  pub one_left : length found.trees < length found.paths.names

-- the files whose turn is past were handed over, and maybe the next one
pub data Begins (root : List ℕ) (from : Found) : List Handed → Type 0 where
  past : {files : List Handed} {found : Found} → Leads root from files found → Begins root from files
  within : {files : List Handed} {found : Found} (handed : Handed) (place : Place) → Leads root from files found → IsNext found handed.path place
      → IsAnswerAt FILE_LIMIT handed.answer → Begins root from (files ++ handed ∷ [])

pub record BeginsWith (root : List ℕ) (from : Found) (before after : List Handed) : Type 0 where
  pub files : List Handed
  pub loads : after ≡ before ++ files
  pub begins : Begins root from files

-- how the turns of files stop
abbrev pub PassesUpTo : List ℕ → Found → List Handed → List Handed → GatherErr → Type 0
PassesUpTo root from before after (gather.Stop stop word) = StopsAt root from before after (stop, word)
PassesUpTo root from before after gather.Failed = FailsAt root from before after
PassesUpTo root from before after gather.Oom = BeginsWith root from before after

-- the files of a discovery that was cut short before the load of the next one
pub record IsCutOff (root : List ℕ) (files : List Handed) : Type 0 where
  pub found : Found
  pub is_path : is_zig root ≡ true
  pub leads : Leads root (start root) files found
  pub one_left : length found.trees < length found.paths.names

-- some of the first files of a discovery: those whose turn is past, and maybe the next one
pub data IsBegun (root : List ℕ) : List Handed → Type 0 where
  nothing : IsBegun root []
  begun : {files : List Handed} → is_zig root ≡ true → Begins root (start root) files → IsBegun root files

-- a set of files is what was found
pub record IsFileSet (found : Found) (set : FileSet) : Type 0 where
  pub paths : set.paths ≡ found.paths.names
  pub texts : set.texts ≡ found.texts
  pub asts : set.asts ≡ found.trees
  pub sizes : set.sizes ≡ found.sizes
  pub imports : set.imports ≡ found.imports

-- how gathering ends, with these files handed over
abbrev pub GatherEnds : List ℕ → List Handed → Result FileSet GatherErr → Type 0
GatherEnds root files (Ok set) = (found : Found) × Discovery root files (Ok found) × IsFileSet found set
GatherEnds root files (Err (gather.Stop stop word)) = Discovery root files (Err (stop, word))
GatherEnds root files (Err gather.Failed) = IsCutOff root files
GatherEnds root files (Err gather.Oom) = IsBegun root files

-- the tree handed over files with which gathering ended so
pub record Gathers (root : List ℕ) (before after : List Handed) (result : Result FileSet GatherErr) : Type 0 where
  pub files : List Handed
  pub loads : after ≡ before ++ files
  pub ends : GatherEnds root files result
