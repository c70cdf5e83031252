-- The modules of this crate's proofs, from general lemmas to the theorem that the lowering cites.
-- lists and names
pub mod ListLemmas
pub mod NameLemmas
-- a file and its module
pub mod CalledNames
pub mod FileNames
pub mod ModuleTypes
pub mod FileCalls
pub mod FileImports
pub mod ModuleNames
pub mod ExportFacts
-- the module is valid and has bytes
pub mod OnU32
pub mod CodeTypes
pub mod BodyTypes
pub mod ModuleValid
pub mod ModuleWellFormed
-- the code runs as the file means
pub mod Running
pub mod ComesCompose
pub mod StepsReady
pub mod BodySmall
pub mod HostCalls
pub mod StepsRun
pub mod BodyRuns
pub mod Entry
pub mod CallsAgree
pub mod ModuleShows
pub mod Rightness
