pub mod Operands
pub mod Locals
pub mod Constants
pub mod Stacks
pub mod Bodies
pub mod Check
pub mod Texts
