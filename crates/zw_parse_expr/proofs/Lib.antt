mod Completions
pub mod Checks
pub mod Courses
pub mod Balance
pub mod Excesses
pub mod Smallness
pub mod TokenLemmas
pub mod LexemeLemmas
pub mod PartLemmas
pub mod FileLemmas
