pub mod Locals
pub mod WideFamiliesRight
pub mod FamiliesServed
