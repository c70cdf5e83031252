pub mod Trees
pub mod ForestCode
pub mod Numbering
pub mod Growth
pub mod Slots
