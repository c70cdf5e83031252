pub mod Hosts
pub mod Ends
pub mod Sessions
pub mod Runs
pub mod WorkedSessions
