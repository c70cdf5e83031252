pub mod Leb
pub mod Reading
