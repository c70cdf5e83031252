pub mod Checked
pub mod Families
