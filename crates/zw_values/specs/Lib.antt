pub mod Paths
pub mod ObjectStore
pub mod Wild
pub mod Sameness
pub mod Coercions
pub mod Applied
pub mod WorkedOperations
pub mod WorkedStores
