pub mod Lists
pub mod Causes
pub mod Sessions
pub mod Incoming
pub mod Agrees
pub mod Bounds
pub mod Example
pub mod Apart
