pub mod NameRules
pub mod WorkedNames
pub mod Telling
pub mod Repeats
pub mod MembersOf
