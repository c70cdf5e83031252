pub mod Arithmetic
pub mod Meanings
