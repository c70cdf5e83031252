pub mod Shapes
pub mod Holding
pub mod LocalRuns
pub mod BranchWords
pub mod ReturnWords
pub mod Growing
pub mod Placing
pub mod Wanting
