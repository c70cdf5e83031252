pub mod Nodes
pub mod Growing
pub mod SlotLemmas
pub mod Families
pub mod Descent
pub mod Subtrees
pub mod Regrown
pub mod Standing
