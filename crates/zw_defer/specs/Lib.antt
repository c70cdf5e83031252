pub mod ScopeExit
pub mod WorkedExits
