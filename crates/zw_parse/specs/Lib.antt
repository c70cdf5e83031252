pub mod Order
pub mod Places
pub mod Spellings
pub mod Entries
pub mod Syntax
