pub mod Paths
pub mod Imports
pub mod Discovery
pub mod Gathering
pub mod WorkedPaths
pub mod WorkedDiscovery
