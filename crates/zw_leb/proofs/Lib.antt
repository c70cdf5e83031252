pub mod LebLemmas
pub mod LebSpellings
pub mod ShortestNumbers
pub mod ReadLemmas
