pub mod Rules
pub mod Configurations
pub mod Steps
pub mod WorkedTypes
