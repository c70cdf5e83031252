pub mod NameSets
