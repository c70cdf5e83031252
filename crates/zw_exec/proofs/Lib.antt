pub mod HostLines
pub mod Telling
pub mod Texts
pub mod Coming
pub mod Going
pub mod Looping
