pub mod PathLemmas
pub mod SameLemmas
pub mod StoreLemmas
