pub mod Lists
pub mod Encodes
pub mod Closing
pub mod StructuredCode
pub mod ClosedCode
pub mod RunsCompose
pub mod BranchRuns
pub mod TypingTakes
pub mod BranchTypes
pub mod MachineLasts
pub mod Calls
pub mod Writes
pub mod Shortest
mod Incoming
