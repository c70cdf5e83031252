pub mod SetLemmas
pub mod NumberLemmas
