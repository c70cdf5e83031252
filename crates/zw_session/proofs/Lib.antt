pub mod Prefixes
pub mod Staying
pub mod Order
pub mod Lifting
pub mod TellingApart
