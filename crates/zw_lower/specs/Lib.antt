pub mod Modules
pub mod Views
pub mod Right
