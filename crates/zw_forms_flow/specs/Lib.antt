pub mod Joins
pub mod Blocks
pub mod Choices
pub mod Loops
pub mod Leaving
pub mod Assignments
pub mod Calls
pub mod FlowRules
