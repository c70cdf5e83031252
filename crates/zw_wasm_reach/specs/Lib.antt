pub mod Reaches
pub mod Counts
