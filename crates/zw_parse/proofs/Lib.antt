pub mod OrderLemmas
pub mod PlaceLemmas
pub mod TreeLemmas
pub mod SyntaxLemmas
