pub mod OperandLemmas
pub mod ExtremeLemmas
pub mod ReadyLemmas
