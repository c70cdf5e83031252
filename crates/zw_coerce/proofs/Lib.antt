pub mod IntegerLemmas
pub mod FirstRowLemmas
