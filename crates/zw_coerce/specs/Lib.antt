pub mod Answers
pub mod FirstRows
